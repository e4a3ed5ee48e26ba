use Rattle.std.proofs.Common.{length, nat_lt, ap, ◌∙◌}
use Rattle.plain_tree.proofs.KeptLemmas.{now_kept, lines_are}
use Rattle.plain_tree.proofs.node_map.NodeMap.has_entries.Goals as goal

pub returns : goal.returns
returns c = c.has_entries.ensures.some ∙ ap (λ l. nat_lt 0 (length l)) (lines_are c.self.inside.root c.self.inside.links c.self.inside.count c.args.self.now (now_kept c.self.inside.root c.self.inside.links c.self.inside.count c.args.self.now c.self.inside.seen c.self.view_is c.self.invariant) c.args.dir.now c.in-Ok.node.now c.in-Ok.ensures.found c.has_entries.ensures.ascend)
