use Rattle.std.proofs.Common.{◌≡◌, Ok, Err, sym, ◌∙◌}
use Rattle.ltfs_documents.specs.declared.doc_elements.schema.Container.TheVariants as place
use Rattle.ltfs_documents.specs.DocElements.Documents.{Halted, Halts, at_head, head_of}
use Rattle.ltfs_documents.proofs.DocElements.Whole.{halted_halts, unless_always, unless_map}
use Rattle.index_read.proofs.Whole.{walked_halts}
use Rattle.index_read.proofs.reading.whole.Goals as goal

pub returns-in-Err-clause-refused : goal.returns-in-Err-clause-refused
returns-in-Err-clause-refused c =
    let text = c.args.text.now in
    let h : head_of place.Index text ≡ Err c.in-Err.fault = sym c.skip_head.ensures.value ∙ c.in-Err.is in
    unless_always c.in-Err.fault (Halts place.Index text c.in-Err.fault) (at_head h)

pub returns-in-Err-walk-clause-refused : goal.returns-in-Err-walk-clause-refused
returns-in-Err-walk-clause-refused c =
    let text = c.args.text.now in
    let e = c.in-Err-walk.fault in
    let h : head_of place.Index text ≡ Ok c.in-Ok.inside = sym c.skip_head.ensures.value ∙ c.in-Ok.is in
    unless_map e (Halted place.Index text c.in-Ok.inside e) (Halts place.Index text e) (halted_halts place.Index text c.in-Ok.inside e h) c.in-Err-walk.ensures.refused

pub returns-then-end-text-clause-refused : goal.returns-then-end-text-clause-refused
returns-then-end-text-clause-refused c =
    let text = c.args.text.now in
    let h : head_of place.Index text ≡ Ok c.in-Ok.inside = sym c.skip_head.ensures.value ∙ c.in-Ok.is in
    walked_halts text c.in-Ok.inside c.in-Ok-walk.walked.1 c.skip_space-end.result _ h c.in-Ok-walk.ensures.found c.skip_space-end.ensures.value c.if-end-text.true
