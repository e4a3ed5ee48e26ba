use Rattle.std.proofs.Common.{◌≡◌, drop}
use Rattle.ltfs_documents.specs.DocFields.Space.{is_space, run_end}
use Rattle.ltfs_documents.proofs.doc_fields.bytes.skip_space.Given as goal

abbrev pub invariant-loop-i : goal.invariant-loop-i
invariant-loop-i l = run_end is_space l.i (drop l.i l.text) ≡ run_end is_space l.at (drop l.at l.text)
