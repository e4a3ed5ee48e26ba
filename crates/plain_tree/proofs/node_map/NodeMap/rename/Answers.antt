use Rattle.std.proofs.Common.{sym, ap, ◌∙◌, is_some, rules}
use Rattle.plain_tree.specs.Tree.{moved}
use Rattle.plain_tree.proofs.LinkLemmas.{on_ok, on_err, on_any_err}
use Rattle.plain_tree.proofs.KeptLemmas.{seen_by, now_kept, only, still_kept, unchanged, move_next, place_child, below_self, no_dir_missing}
use Rattle.plain_tree.proofs.node_map.NodeMap.rename.Goals as goal

pub unreachable-requires : goal.unreachable-requires
unreachable-requires c = no_dir_missing c.args.self.now c.args.from.now c.requires.from_up c.requires.from_named c.in_default.ensures.missing

pub rename-requires-clause-there : goal.rename-requires-clause-there
rename-requires-clause-there c = ap is_some (sym (place_child c.self.inside.root c.self.inside.links c.self.inside.count c.args.self.now (now_kept c.self.inside.root c.self.inside.links c.self.inside.count c.args.self.now c.self.inside.seen c.self.view_is c.self.invariant) c.args.from.now c.in-Some.old c.in-Some.old_name.now c.in-Some.ensures.there)) ∙ c.requires.there

pub rename-requires-clause-free : goal.rename-requires-clause-free
rename-requires-clause-free c = sym (place_child c.self.inside.root c.self.inside.links c.self.inside.count c.args.self.now (now_kept c.self.inside.root c.self.inside.links c.self.inside.count c.args.self.now c.self.inside.seen c.self.view_is c.self.invariant) c.args.to.now c.in-Some-place.uid c.in-Some-place.name.now c.in-Some-place.ensures.there) ∙ c.requires.free c.args.to.now (below_self c.args.to.now)

pub invariant_of-self-inside : goal.invariant_of-self-inside
invariant_of-self-inside c = (
  seen_by c.rename.result c.self.inside.root c.rename.new.self c.self.inside.count (moved c.args.from.now c.args.to.now c.args.self.now) c.args.self.now
      (on_ok c.rename.result (λ move. move_next c.self.inside.root c.self.inside.links c.rename.new.self c.self.inside.count c.args.self.now (now_kept c.self.inside.root c.self.inside.links c.self.inside.count c.args.self.now c.self.inside.seen c.self.view_is c.self.invariant) c.args.from.now c.args.to.now c.in-Some.old c.in-Some-place.uid c.in-Some.old_name.now c.in-Some-place.name.now c.in-Some.ensures.there c.in-Some-place.ensures.there move c.requires) c.rename.ensures.ok)
      (on_err c.rename.result (λ same. unchanged c.self.inside.root c.self.inside.links c.rename.new.self c.self.inside.count c.args.self.now (now_kept c.self.inside.root c.self.inside.links c.self.inside.count c.args.self.now c.self.inside.seen c.self.view_is c.self.invariant) same) c.rename.ensures.err),
  tt,
)

pub invariant_of-self : goal.invariant_of-self
invariant_of-self c = still_kept c.self.inside.root c.rename.new.self c.self.inside.count c.args.self.now _ (search rules) (unchanged c.self.inside.root c.self.inside.links c.rename.new.self c.self.inside.count c.args.self.now (now_kept c.self.inside.root c.self.inside.links c.self.inside.count c.args.self.now c.self.inside.seen c.self.view_is c.self.invariant) c.in_err-rename.ensures.err)

pub returns-in_err-rename-clause-err : goal.returns-in_err-rename-clause-err
returns-in_err-rename-clause-err c = on_any_err c.from_residual.result (only c.self.inside.root c.rename.new.self c.self.inside.count c.args.self.now _ (search rules) (unchanged c.self.inside.root c.self.inside.links c.rename.new.self c.self.inside.count c.args.self.now (now_kept c.self.inside.root c.self.inside.links c.self.inside.count c.args.self.now c.self.inside.seen c.self.view_is c.self.invariant) c.in_err-rename.ensures.err))

pub invariant_of-self-2 : goal.invariant_of-self-2
invariant_of-self-2 c = still_kept c.self.inside.root c.rename.new.self c.self.inside.count (moved c.args.from.now c.args.to.now c.args.self.now) _ (search rules) (move_next c.self.inside.root c.self.inside.links c.rename.new.self c.self.inside.count c.args.self.now (now_kept c.self.inside.root c.self.inside.links c.self.inside.count c.args.self.now c.self.inside.seen c.self.view_is c.self.invariant) c.args.from.now c.args.to.now c.in-Some.old c.in-Some-place.uid c.in-Some.old_name.now c.in-Some-place.name.now c.in-Some.ensures.there c.in-Some-place.ensures.there c.in_ok-rename.ensures.ok c.requires)

pub returns-clause-ok : goal.returns-clause-ok
returns-clause-ok c = only c.self.inside.root c.rename.new.self c.self.inside.count (moved c.args.from.now c.args.to.now c.args.self.now) _ (search rules) (move_next c.self.inside.root c.self.inside.links c.rename.new.self c.self.inside.count c.args.self.now (now_kept c.self.inside.root c.self.inside.links c.self.inside.count c.args.self.now c.self.inside.seen c.self.view_is c.self.invariant) c.args.from.now c.args.to.now c.in-Some.old c.in-Some-place.uid c.in-Some.old_name.now c.in-Some-place.name.now c.in-Some.ensures.there c.in-Some-place.ensures.there c.in_ok-rename.ensures.ok c.requires)
