use Rattle.std.proofs.Common.{ℕ, Some, Result, subst}
use Rattle.ltfs_documents.specs.declared.doc_fields.errors.FieldErr.{FieldErr}
use Rattle.ltfs_documents.specs.DocFields.Characters.{IsTaken, characters}
use Rattle.ltfs_documents.proofs.DocFields.TextSteps.{looks_on}
use Rattle.ltfs_documents.proofs.doc_fields.texts.look_over.Goals as goal

pub loop-taken-preserved : goal.loop-taken-preserved
loop-taken-preserved c =
    let left = characters c.loop-taken.left in
    let behind = characters c.next.new.self in
    looks_on (characters c.args.left) left behind c.in_default-taken.field-0 c.loop-taken.invariant
    (subst (λ (t : Result ℕ FieldErr). IsTaken (Some t) left behind) c.in_default-taken.is c.in-Some.ensures.value)
