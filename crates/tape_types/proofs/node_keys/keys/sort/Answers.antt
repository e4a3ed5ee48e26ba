use Rattle.std.proofs.Common.{rules}
use Rattle.std.proofs.lemmas.Fn.{always_returns_same}
use Rattle.tape_types.proofs.NodeKeys.SortLemmas.{by_key, by_key_ranks, still_apart, ascend_sorted}
use Rattle.tape_types.proofs.node_keys.keys.sort.Goals as goal

pub returns-clause-ascend : goal.returns-clause-ascend
returns-clause-ascend c =
    ascend_sorted c.sort_unstable_by.new.self.items
    (c.sort_unstable_by.ensures.sorted by_key by_key_ranks (always_returns_same _ _ _ (λ a r f called. search rules)))
    (still_apart c.args.xattrs.now.items c.sort_unstable_by.new.self.items c.sort_unstable_by.ensures.permutation c.requires)
