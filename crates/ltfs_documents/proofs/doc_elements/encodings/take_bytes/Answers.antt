use Rattle.std.proofs.Common.{arith}
use Rattle.base64.specs.GeneralPurpose.{IsBytes}
use Rattle.ltfs_documents.proofs.DocElements.Base64Blocks.{goes_on, stops, taken_all}
use Rattle.ltfs_documents.proofs.doc_elements.encodings.take_bytes.Goals as goal

pub returns-then-not-branch : goal.returns-then-not-branch
returns-then-not-branch c =
    let are : IsBytes c.args.bytes.now = λ i. let fits = c.type_inv.bytes i in omega arith in
    stops c.args.out.now.items c.args.block.now.items c.args.bytes.now c.loop-byte.out.items c.loop-byte.block.items c.take_byte.new.out.items c.take_byte.new.block.items c.loop-byte.byte-index c.in_ok-take_byte.field-0
    c.loop-byte.invariant c.loop-byte-test.true are (c.in_ok-take_byte.ensures {u = tt}) c.if-not-branch.true

pub loop-byte-preserved : goal.loop-byte-preserved
loop-byte-preserved c =
    let are : IsBytes c.args.bytes.now = λ i. let fits = c.type_inv.bytes i in omega arith in
    goes_on c.args.out.now.items c.args.block.now.items c.args.bytes.now c.loop-byte.out.items c.loop-byte.block.items c.take_byte.new.out.items c.take_byte.new.block.items c.loop-byte.byte-index c.in_ok-take_byte.field-0
    c.loop-byte.invariant c.loop-byte-test.true are (c.in_ok-take_byte.ensures {u = tt}) c.if-not-branch.false

pub returns : goal.returns
returns c = taken_all c.args.out.now.items c.args.block.now.items c.args.bytes.now c.loop-byte.out.items c.loop-byte.block.items c.loop-byte.byte-index c.loop-byte.invariant (omega (arith, c.loop-byte-test.false))
