use Rattle.std.proofs.Common.{◌≡◌, drop}
use Rattle.ltfs_documents.specs.DocFields.Space.{run_end}
use Rattle.ltfs_documents.specs.DocFields.StartTag.{in_name}
use Rattle.ltfs_documents.proofs.doc_fields.starts.name_end.Given as goal

abbrev pub invariant-loop-i : goal.invariant-loop-i
invariant-loop-i l = run_end in_name l.i (drop l.i l.text) ≡ run_end in_name l.at (drop l.at l.text)
