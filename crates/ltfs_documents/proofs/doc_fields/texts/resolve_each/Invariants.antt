use Rattle.std.proofs.Common.{length, string_bytes}
use Rattle.std.specs.Str.{chars}
use Rattle.ltfs_documents.specs.DocFields.Characters.{characters}
use Rattle.ltfs_documents.specs.DocFields.Texts.{resolved}
use Rattle.ltfs_documents.proofs.DocFields.TextSteps.{IsKept}
use Rattle.ltfs_documents.proofs.doc_fields.texts.resolve_each.Given as goal

abbrev pub invariant-loop-taken : goal.invariant-loop-taken
invariant-loop-taken l = IsKept (resolved l.cut 0 l.at (chars l.text)) (characters l.left) (string_bytes l.out)

abbrev pub decreases-loop-taken : goal.decreases-loop-taken
decreases-loop-taken l = length l.left.rest
