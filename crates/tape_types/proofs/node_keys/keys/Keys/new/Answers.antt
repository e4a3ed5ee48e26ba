use Rattle.std.proofs.Common.{sym, subst, []}
use Rattle.tape_types.specs.NodeKeys.Keys.{IsAscending}
use Rattle.tape_types.proofs.NodeKeys.Ordered.{from_sorted}
use Rattle.tape_types.proofs.node_keys.keys.Keys.new.Goals as goal

pub invariant_of-result : goal.invariant_of-result
invariant_of-result c = subst IsAscending (sym c.new.ensures.items) (from_sorted [] tt)
