use Rattle.std.proofs.Common.{◌≡◌, ◌∙◌, ℕ, List, Ok, Err, IfErr, IfOk, sym, ap, subst}
use Rattle.std.specs.Str.{encode_utf8_all}
use Rattle.ltfs_documents.specs.DocFields.Characters.{characters}
use Rattle.ltfs_documents.specs.DocFields.Reading.{Read}
use Rattle.ltfs_documents.specs.DocFields.Texts.{resolved_text}
use Rattle.ltfs_documents.proofs.DocFields.SimpleTexts.{run_whole}
use Rattle.ltfs_documents.proofs.doc_fields.texts.run_characters.Goals as goal

pub returns-in-Ok-clause-ok : goal.returns-in-Ok-clause-ok
returns-in-Ok-clause-ok c =
    let all = run_whole c.args.ended c.args.at c.args.run.now c.in-Ok.ensures.cases.1 in
    let same = ap (resolved_text c.args.ended c.args.at) c.in-Ok.ensures.cases.0 in
    subst (λ (r : Read (List ℕ)). IfOk c.characters_of.result (λ x. (cs : List ℕ) × (characters x ≡ Ok cs) × (r ≡ Ok (encode_utf8_all cs)))) (same ∙ sym all) c.characters_of.ensures.ok

pub returns-in-Ok-clause-err : goal.returns-in-Ok-clause-err
returns-in-Ok-clause-err c =
    let all = run_whole c.args.ended c.args.at c.args.run.now c.in-Ok.ensures.cases.1 in
    let same = ap (resolved_text c.args.ended c.args.at) c.in-Ok.ensures.cases.0 in
    subst (λ (r : Read (List ℕ)). IfErr c.characters_of.result (λ e. r ≡ Err e)) (same ∙ sym all) c.characters_of.ensures.err
