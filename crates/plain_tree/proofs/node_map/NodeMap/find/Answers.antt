use Rattle.plain_tree.proofs.KeptLemmas.{now_kept, why_lost}
use Rattle.plain_tree.proofs.node_map.NodeMap.find.Goals as goal

pub returns-in-Err-clause-missing : goal.returns-in-Err-clause-missing
returns-in-Err-clause-missing c =
    why_lost c.self.inside.root c.self.inside.links c.self.inside.count c.args.self.now
    (now_kept c.self.inside.root c.self.inside.links c.self.inside.count c.args.self.now c.self.inside.seen c.self.view_is c.self.invariant)
    c.args.path.now _ _ c.in-Err.ensures.missing c.missing_below.ensures
