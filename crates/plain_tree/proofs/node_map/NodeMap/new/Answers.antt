use Rattle.std.proofs.Common.{rules}
use Rattle.plain_tree.specs.Tree.{empty_tree}
use Rattle.plain_tree.proofs.KeptLemmas.{the_root, only, still_kept}
use Rattle.plain_tree.proofs.node_map.NodeMap.new.Goals as goal

pub invariant_of-result : goal.invariant_of-result
invariant_of-result c = (((empty_tree c.args.at).nodes, (the_root c.new_node.result c.new.result c.args.at c.new_node.ensures c.new.ensures).shown), tt)

pub invariant_of-result-2 : goal.invariant_of-result-2
invariant_of-result-2 c = still_kept c.new_node.result c.new.result 1 (empty_tree c.args.at).nodes _ (search rules) (the_root c.new_node.result c.new.result c.args.at c.new_node.ensures c.new.ensures)

pub returns : goal.returns
returns c = only c.new_node.result c.new.result 1 (empty_tree c.args.at).nodes _ (search rules) (the_root c.new_node.result c.new.result c.args.at c.new_node.ensures c.new.ensures)
