use Rattle.std.proofs.Common.{◌∙◌, sym, ap, subst, List, ℕ}
use Rattle.ltfs_documents.specs.DocFields.Reading.{Gives, Read}
use Rattle.ltfs_documents.specs.DocFields.Texts.{resolved_text}
use Rattle.ltfs_documents.proofs.DocFields.SimpleTexts.{run_whole}
use Rattle.ltfs_documents.proofs.doc_fields.texts.run_text.Goals as goal

pub returns-in-Ok : goal.returns-in-Ok
returns-in-Ok c =
    let all = run_whole c.args.ended c.args.at c.args.run.now c.in-Ok.ensures.cases.1 in
    let same = ap (resolved_text c.args.ended c.args.at) c.in-Ok.ensures.cases.0 in
    subst (λ (r : Read (List ℕ)). Gives (λ t. t) c.resolve.result r) (same ∙ sym all) c.resolve.ensures
