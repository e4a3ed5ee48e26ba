use Rattle.std.specs.FinMap as fin
use Rattle.std.proofs.Common.{◌+◌, rules}
use Rattle.plain_tree.proofs.LinkLemmas.{on_any_err}
use Rattle.plain_tree.proofs.KeptLemmas.{now_kept, only, still_kept, unchanged, insert_next}
use Rattle.plain_tree.proofs.node_map.NodeMap.insert.Goals as goal

pub invariant_of-self-inside : goal.invariant_of-self-inside
invariant_of-self-inside c = ((c.args.self.now, (unchanged c.self.inside.root c.self.inside.links c.insert.new.self c.self.inside.count c.args.self.now (now_kept c.self.inside.root c.self.inside.links c.self.inside.count c.args.self.now c.self.inside.seen c.self.view_is c.self.invariant) c.in_err-insert.ensures.err).shown), tt)

pub invariant_of-self : goal.invariant_of-self
invariant_of-self c = still_kept c.self.inside.root c.insert.new.self c.self.inside.count c.args.self.now _ (search rules) (unchanged c.self.inside.root c.self.inside.links c.insert.new.self c.self.inside.count c.args.self.now (now_kept c.self.inside.root c.self.inside.links c.self.inside.count c.args.self.now c.self.inside.seen c.self.view_is c.self.invariant) c.in_err-insert.ensures.err)

pub returns-in_err-insert-clause-err : goal.returns-in_err-insert-clause-err
returns-in_err-insert-clause-err c = on_any_err c.from_residual-in_err-insert.result (only c.self.inside.root c.insert.new.self c.self.inside.count c.args.self.now _ (search rules) (unchanged c.self.inside.root c.self.inside.links c.insert.new.self c.self.inside.count c.args.self.now (now_kept c.self.inside.root c.self.inside.links c.self.inside.count c.args.self.now c.self.inside.seen c.self.view_is c.self.invariant) c.in_err-insert.ensures.err))

pub invariant_of-self-inside-2 : goal.invariant_of-self-inside-2
invariant_of-self-inside-2 c = ((fin.insert c.args.self.now c.args.path.now c.args.node, (insert_next c.self.inside.root c.self.inside.links c.insert.new.self c.self.inside.count c.args.self.now (now_kept c.self.inside.root c.self.inside.links c.self.inside.count c.args.self.now c.self.inside.seen c.self.view_is c.self.invariant) c.args.path.now c.in-Some.uid c.in-Some.name.now c.in-Some.ensures.there c.args.node c.in_ok-copy.copy c.in_ok-copy.ensures c.in_ok-insert.ensures.ok c.requires).shown), tt)

pub invariant_of-self-2 : goal.invariant_of-self-2
invariant_of-self-2 c = still_kept c.self.inside.root c.insert.new.self (c.self.inside.count + 1) (fin.insert c.args.self.now c.args.path.now c.args.node) _ (search rules) (insert_next c.self.inside.root c.self.inside.links c.insert.new.self c.self.inside.count c.args.self.now (now_kept c.self.inside.root c.self.inside.links c.self.inside.count c.args.self.now c.self.inside.seen c.self.view_is c.self.invariant) c.args.path.now c.in-Some.uid c.in-Some.name.now c.in-Some.ensures.there c.args.node c.in_ok-copy.copy c.in_ok-copy.ensures c.in_ok-insert.ensures.ok c.requires)

pub returns-clause-ok : goal.returns-clause-ok
returns-clause-ok c = only c.self.inside.root c.insert.new.self (c.self.inside.count + 1) (fin.insert c.args.self.now c.args.path.now c.args.node) _ (search rules) (insert_next c.self.inside.root c.self.inside.links c.insert.new.self c.self.inside.count c.args.self.now (now_kept c.self.inside.root c.self.inside.links c.self.inside.count c.args.self.now c.self.inside.seen c.self.view_is c.self.invariant) c.args.path.now c.in-Some.uid c.in-Some.name.now c.in-Some.ensures.there c.args.node c.in_ok-copy.copy c.in_ok-copy.ensures c.in_ok-insert.ensures.ok c.requires)
