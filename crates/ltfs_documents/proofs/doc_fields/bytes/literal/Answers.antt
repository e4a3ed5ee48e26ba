use Rattle.std.proofs.Common.{◌+◌, ◌∙◌, sym, arith}
use Rattle.ltfs_documents.proofs.DocFields.Runs.{inside, no_zero, literal_more}
use Rattle.ltfs_documents.proofs.doc_fields.bytes.literal.Goals as goal

pub loop-k-preserved : goal.loop-k-preserved
loop-k-preserved c =
    let word = c.args.word.now in
    let text = c.args.text.now in
    let there = sym c.byte.ensures ∙ c.if-byte-word.false in
    let some = no_zero word c.loop-k.k c.requires.no_zero c.loop-k-test.true in
    let fits = inside text (c.args.at + c.loop-k.k) (omega (arith, there, some)) in
    (omega (arith, fits), sym (literal_more word text c.loop-k.k c.args.at c.loop-k-test.true there) ∙ c.loop-k.invariant.1)
