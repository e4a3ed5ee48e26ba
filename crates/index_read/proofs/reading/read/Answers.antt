use Rattle.std.proofs.Common.{rules, ◌≡◌, ℕ, List, length, IsUtf8, IfSome, inl, inr, refl, sym, subst, ◌∙◌}
use Rattle.ltfs_documents.specs.declared.doc_elements.schema.Container.TheVariants as place
use Rattle.ltfs_documents.specs.DocElements.Documents.{Halts}
use Rattle.index_model.specs.declared.errors.IndexErr.{IndexErr}
use Rattle.index_model.specs.Documents.{refusal_told}
use Rattle.index_model.specs.Refusals.{IsToldOf}
use Rattle.index_read.specs.Drafts.{state_of}
use Rattle.index_read.specs.Walks.{IsFaulty, IsReadAs, IsRefused, IsWhole}
use Rattle.ltfs_documents.proofs.DocElements.Whole.{readable_all}
use Rattle.index_read.specs.Answers.{UnlessMemory}
use Rattle.index_read.proofs.Whole.{unless_always, unless_told}
use Rattle.index_read.proofs.reading.read.Goals as goal

pub returns-in-Ok-Some-clause-refused : goal.returns-in-Ok-Some-clause-refused
returns-in-Ok-Some-clause-refused c =
    let text = c.args.text.now in
    let s = state_of c.in-Ok.draft in
    let len : length c.readable-front.result.now ≡ length text = search rules in
    let valid : IsUtf8 text = c.readable-front.ensures.valid len in
    let whole : IsWhole text s = subst (λ t. IsWhole t s) (c.readable-front.ensures.front ∙ readable_all text valid) c.in-Ok.ensures.found in
    let read : IsReadAs text c.into_index-index.result = record { valid = valid; state = s; whole = whole; volume = c.into_index-index.ensures.volume; nodes = c.into_index-index.ensures.nodes } in
    let faulty : IsFaulty text c.from-in-Ok-Some.result = record { index = c.into_index-index.result; read = read; fault = c.in-Ok-Some.fault; told = subst (λ o. IfSome o (IsToldOf c.into_index-index.result)) c.in-Ok-Some.field-0-is c.in-Ok-Some.ensures.told; same = c.from-in-Ok-Some.ensures } in
    unless_always c.from-in-Ok-Some.result (IsRefused text c.from-in-Ok-Some.result) (inr faulty)

pub returns-in-Err-clause-refused : goal.returns-in-Err-clause-refused
returns-in-Err-clause-refused c =
    let text = c.args.text.now in
    let e = c.in-Err.fault in
    let told = unless_told e (Halts place.Index c.readable-front.result.now e) (IsRefused text (refusal_told e))
    (λ h. inl (record { why = e; stops = inl (subst (λ (t : List ℕ). Halts place.Index t e) c.readable-front.ensures.front h); told = refl })) c.in-Err.ensures.refused in
    subst (λ (x : IndexErr). UnlessMemory x (IsRefused text x)) (sym c.from.ensures) told
