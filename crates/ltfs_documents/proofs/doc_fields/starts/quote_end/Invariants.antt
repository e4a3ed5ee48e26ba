use Rattle.std.proofs.Common.{◌≡◌, drop, ◌==◌, not}
use Rattle.ltfs_documents.specs.DocFields.Space.{run_end}
use Rattle.ltfs_documents.proofs.doc_fields.starts.quote_end.Given as goal

abbrev pub invariant-loop-i : goal.invariant-loop-i
invariant-loop-i l = run_end (λ b. not (b == l.quote)) l.i (drop l.i l.text) ≡ run_end (λ b. not (b == l.quote)) l.at (drop l.at l.text)
