use Rattle.std.proofs.Common.{◌-◌}
use Rattle.std.specs.Str.Iter.{chars_rest}
use Rattle.ltfs_documents.proofs.DocFields.Passing.{IsPassed}
use Rattle.ltfs_documents.proofs.doc_fields.characters.pass.Given as goal

abbrev pub invariant-loop-i : goal.invariant-loop-i
invariant-loop-i l = IsPassed (chars_rest l.fn.rest) l.place l.count (chars_rest l.rest) l.at (l.count - l.i)
