use Rattle.std.proofs.Common.{length}
use Rattle.ltfs_documents.specs.DocFields.Characters.{characters}
use Rattle.ltfs_documents.proofs.DocElements.Base64Characters.{IsDecoding}
use Rattle.ltfs_documents.proofs.doc_elements.encodings.decode_characters.Given as goal

abbrev pub invariant-loop-taken : goal.invariant-loop-taken
invariant-loop-taken l = IsDecoding (characters l.initial.left) (characters l.left) l.out.items l.block.items

abbrev pub decreases-loop-taken : goal.decreases-loop-taken
decreases-loop-taken l = length l.left.rest
