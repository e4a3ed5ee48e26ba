use Rattle.std.proofs.Common.{◌≡◌, drop, ◌==◌, not}
use Rattle.ltfs_documents.specs.DocFields.Space.{run_end}
use Rattle.ltfs_documents.proofs.doc_fields.texts.text_end.Given as goal

abbrev pub invariant-loop-i : goal.invariant-loop-i
invariant-loop-i l = run_end (λ b. not (b == 60)) l.i (drop l.i l.text) ≡ run_end (λ b. not (b == 60)) l.at (drop l.at l.text)
