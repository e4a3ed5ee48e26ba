use Rattle.std.specs.FinMap as fin
use Rattle.std.proofs.Common.{◌-◌, rules}
use Rattle.plain_tree.proofs.KeptLemmas.{now_kept, only, still_kept, remove_next, one_there, no_dir_missing}
use Rattle.plain_tree.proofs.node_map.NodeMap.remove.Goals as goal

pub unreachable-requires : goal.unreachable-requires
unreachable-requires c = no_dir_missing c.args.self.now c.args.path.now c.requires.up c.requires.named c.in_default.ensures.missing

pub overflow_sub-self : goal.overflow_sub-self
overflow_sub-self c = one_there c.args.self.now c.args.path.now c.self.inside.count (now_kept c.self.inside.root c.self.inside.links c.self.inside.count c.args.self.now c.self.inside.seen c.self.view_is c.self.invariant).kept.counted c.requires.there

pub invariant_of-self-inside : goal.invariant_of-self-inside
invariant_of-self-inside c = ((fin.remove c.args.self.now c.args.path.now, (remove_next c.self.inside.root c.self.inside.links c.remove-node.new.self c.self.inside.count c.args.self.now (now_kept c.self.inside.root c.self.inside.links c.self.inside.count c.args.self.now c.self.inside.seen c.self.view_is c.self.invariant) c.args.path.now c.in-Some.uid c.in-Some.name.now c.in-Some.ensures.there c.remove-node.ensures.rest c.requires).shown), tt)

pub invariant_of-self : goal.invariant_of-self
invariant_of-self c = still_kept c.self.inside.root c.remove-node.new.self (c.self.inside.count - 1) (fin.remove c.args.self.now c.args.path.now) _ (search rules) (remove_next c.self.inside.root c.self.inside.links c.remove-node.new.self c.self.inside.count c.args.self.now (now_kept c.self.inside.root c.self.inside.links c.self.inside.count c.args.self.now c.self.inside.seen c.self.view_is c.self.invariant) c.args.path.now c.in-Some.uid c.in-Some.name.now c.in-Some.ensures.there c.remove-node.ensures.rest c.requires)

pub returns : goal.returns
returns c = only c.self.inside.root c.remove-node.new.self (c.self.inside.count - 1) (fin.remove c.args.self.now c.args.path.now) _ (search rules) (remove_next c.self.inside.root c.self.inside.links c.remove-node.new.self c.self.inside.count c.args.self.now (now_kept c.self.inside.root c.self.inside.links c.self.inside.count c.args.self.now c.self.inside.seen c.self.view_is c.self.invariant) c.args.path.now c.in-Some.uid c.in-Some.name.now c.in-Some.ensures.there c.remove-node.ensures.rest c.requires)
