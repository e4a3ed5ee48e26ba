use Rattle.std.proofs.Common.{◌≡◌, true, false, eqb, get_or, arith, rules}
use Rattle.std.proofs.lemmas.Bool.Decides.{nat_tests}
use Rattle.ltfs_documents.specs.DocElements.Bare.{is_lined}
use Rattle.ltfs_documents.proofs.DocElements.BareTexts.{run_more_to}
use Rattle.ltfs_documents.proofs.doc_elements.encodings.lined_end.Goals as goal

pub loop-i-preserved : goal.loop-i-preserved
loop-i-preserved c =
    let passes : is_lined (get_or c.args.text.now c.loop-i.i 0) ≡ true = search rules in
    let other : eqb (get_or c.args.text.now c.loop-i.i 0) 60 ≡ false = grind (arith, nat_tests, c.if-text-i-eq60.false) in
    run_more_to is_lined c.args.text.now c.args.at c.loop-i.i c.loop-i.invariant c.loop-i-test.true passes other
