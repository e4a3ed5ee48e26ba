use Rattle.std.proofs.Common.{◌≡◌, drop}
use Rattle.ltfs_documents.specs.DocFields.Values.{fits}
use Rattle.ltfs_documents.proofs.doc_fields.values.is_cut_shape.Given as goal

abbrev pub invariant-loop-i : goal.invariant-loop-i
invariant-loop-i l = fits (drop l.i l.shape) (drop l.i l.rest) ≡ fits l.shape l.rest
