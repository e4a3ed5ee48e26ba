use Rattle.std.proofs.Common.{◌≡◌, ◌≤◌, ◌+◌, length, drop}
use Rattle.ltfs_documents.specs.DocFields.Reading.{literal_at}
use Rattle.ltfs_documents.proofs.doc_fields.bytes.literal.Given as goal

abbrev pub invariant-loop-k : goal.invariant-loop-k
invariant-loop-k l = (l.at + l.k ≤ length l.text) × (literal_at (drop l.k l.word) l.text (l.at + l.k) ≡ literal_at l.word l.text l.at)
