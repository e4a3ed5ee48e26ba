use Rattle.std.proofs.Common.{◌≡◌, ◌++◌}
use Rattle.ltfs_documents.specs.DocFields.Written.{Keeps}
use Rattle.index_write.specs.Rests.{closings}
use Rattle.index_write.proofs.nodes.put_ends.Given as goal

abbrev pub invariant-loop : goal.invariant-loop
invariant-loop l = (l.out.items ≡ l.fn.out.items ++ closings l.counter) × Keeps l.fn.out.items l.out.items
