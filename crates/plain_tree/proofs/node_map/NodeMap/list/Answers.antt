use Rattle.plain_tree.proofs.KeptLemmas.{now_kept, lines_are, if_ok_same}
use Rattle.plain_tree.proofs.node_map.NodeMap.list.Goals as goal

pub returns : goal.returns
returns c = if_ok_same c.list.result (lines_are c.self.inside.root c.self.inside.links c.self.inside.count c.args.self.now (now_kept c.self.inside.root c.self.inside.links c.self.inside.count c.args.self.now c.self.inside.seen c.self.view_is c.self.invariant) c.args.dir.now c.in-Ok.node.now c.in-Ok.ensures.found c.list.ensures.ascend) c.list.ensures.lines
