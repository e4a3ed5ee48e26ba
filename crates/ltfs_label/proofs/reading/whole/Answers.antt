use Rattle.std.proofs.Common.{◌≡◌, ℕ, Ok, Err, refl, sym, subst, ◌∙◌}
use Rattle.ltfs_documents.specs.declared.doc_elements.errors.PieceErr.TheVariants as pieces
use Rattle.ltfs_documents.specs.declared.doc_elements.schema.Container.TheVariants as place
use Rattle.ltfs_documents.specs.DocElements.Documents.{Halted, Halts, at_end, at_head, head_of}
use Rattle.ltfs_documents.proofs.DocElements.Whole.{halted_halts, unless_always, unless_map}
use Rattle.ltfs_label.proofs.reading.whole.Goals as goal

pub returns-in-Err-clause-refused : goal.returns-in-Err-clause-refused
returns-in-Err-clause-refused c =
    let text = c.args.text.now in
    let h : head_of place.Label text ≡ Err c.in-Err.fault = sym c.skip_head.ensures.value ∙ c.in-Err.is in
    unless_always c.in-Err.fault (Halts place.Label text c.in-Err.fault) (at_head h)

pub returns-in-Err-walk-clause-refused : goal.returns-in-Err-walk-clause-refused
returns-in-Err-walk-clause-refused c =
    let text = c.args.text.now in
    let e = c.in-Err-walk.fault in
    let h : head_of place.Label text ≡ Ok c.in-Ok.inside = sym c.skip_head.ensures.value ∙ c.in-Ok.is in
    unless_map e (Halted place.Label text c.in-Ok.inside e) (Halts place.Label text e) (halted_halts place.Label text c.in-Ok.inside e h) c.in-Err-walk.ensures.refused

pub returns-then-end-text-clause-refused : goal.returns-then-end-text-clause-refused
returns-then-end-text-clause-refused c =
    let text = c.args.text.now in
    let h : head_of place.Label text ≡ Ok c.in-Ok.inside = sym c.skip_head.ensures.value ∙ c.in-Ok.is in
    let w = c.in-Ok-walk.ensures.found in
    subst (λ (n : ℕ). Halts place.Label text (pieces.Syntax n)) (sym c.skip_space-end.ensures.value)
    (at_end w.ps _ (record { inside = c.in-Ok.inside; head_is = h; reaches = w.reaches }) refl (λ is. c.if-end-text.true (c.skip_space-end.ensures.value ∙ is)))
