use Rattle.std.proofs.Common.{length}
use Rattle.ltfs_documents.specs.DocFields.Characters.{characters}
use Rattle.ltfs_documents.proofs.DocFields.TextSteps.{AreLooked}
use Rattle.ltfs_documents.proofs.doc_fields.texts.look_over.Given as goal

abbrev pub invariant-loop-taken : goal.invariant-loop-taken
invariant-loop-taken l = AreLooked (characters l.initial.left) (characters l.left)

abbrev pub decreases-loop-taken : goal.decreases-loop-taken
decreases-loop-taken l = length l.left.rest
