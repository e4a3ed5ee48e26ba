use Rattle.std.proofs.Common.{◌≡◌, ◌<◌, [], ◌∷◌, ◌++◌, length, Some, None, rules, sym, subst, ◌∙◌, arith}
use Rattle.base64.specs.Engines.{standard}
use Rattle.base64.specs.GeneralPurpose.{IsBytes, decoded_of}
use Rattle.ltfs_documents.proofs.DocElements.Base64Lemmas.{cons_bytes}
use Rattle.ltfs_documents.proofs.DocElements.Base64Blocks.{joined, block_taken, block_refused, no_bytes, other_count}
use Rattle.ltfs_documents.proofs.doc_elements.encodings.take_block.Goals as goal

pub returns-in_default : goal.returns-in_default
returns-in_default c rest are =
    let bytes : IsBytes c.args.block.now.items = subst IsBytes c.as_slice.ensures.value c.decode_symbols.ensures.symbols in
    let next : c.args.next < 256 = omega (arith, c.ranges.next.fits) in
    let none : None ≡ decoded_of standard c.args.block.now.items = search rules in
    block_refused c.args.out.now.items c.args.block.now.items (c.args.next ∷ rest) c.requires (omega arith) (joined c.args.block.now.items (c.args.next ∷ rest) bytes (cons_bytes c.args.next rest next are))
    (no_bytes c.args.block.now.items none)

pub returns-then-len-ne768 : goal.returns-then-len-ne768
returns-then-len-ne768 c rest are =
    let bytes : IsBytes c.args.block.now.items = subst IsBytes c.as_slice.ensures.value c.decode_symbols.ensures.symbols in
    let next : c.args.next < 256 = omega (arith, c.ranges.next.fits) in
    let some : Some c.in-Some.bytes.items ≡ decoded_of standard c.args.block.now.items = search rules in
    let count : c.len.result ≡ length c.in-Some.bytes.items = search rules in
    block_refused c.args.out.now.items c.args.block.now.items (c.args.next ∷ rest) c.requires (omega arith) (joined c.args.block.now.items (c.args.next ∷ rest) bytes (cons_bytes c.args.next rest next are))
    (other_count c.args.block.now.items c.in-Some.bytes.items some (λ is. c.if-len-ne768.true (count ∙ is)))

pub returns : goal.returns
returns c rest are =
    let bytes : IsBytes c.args.block.now.items = subst IsBytes c.as_slice.ensures.value c.decode_symbols.ensures.symbols in
    let some : Some c.in-Some.bytes.items ≡ decoded_of standard c.args.block.now.items = search rules in
    let count : c.len.result ≡ length c.in-Some.bytes.items = search rules in
    let decoded : IsBytes c.in-Some.bytes.items = search rules in
    let grown : c.extend_from_slice.new.self.items ≡ c.args.out.now.items ++ c.in-Some.bytes.items = search rules in
    let began : c.push.new.self.items ≡ c.args.next ∷ [] = search rules in
    rw (grown, began)
    (block_taken c.args.out.now.items c.args.block.now.items (c.args.next ∷ rest) c.in-Some.bytes.items c.requires (omega arith) (sym count ∙ c.if-len-ne768.false) bytes decoded (sym some))
