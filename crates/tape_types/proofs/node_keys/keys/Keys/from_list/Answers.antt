use Rattle.std.proofs.Common.{sym, subst}
use Rattle.std.specs.List.Sorted.{IsPermutation}
use Rattle.tape_types.proofs.NodeKeys.SortLemmas.{same_map}
use Rattle.tape_types.proofs.node_keys.keys.Keys.from_list.Goals as goal

pub returns : goal.returns
returns c =
    let moved = subst (λ xs. IsPermutation xs c.sort.new.xattrs.items) c.in_ok-items.ensures c.sort.ensures.moved in
    sym (same_map c.args.xattrs.now c.sort.new.xattrs.items moved c.requires)
