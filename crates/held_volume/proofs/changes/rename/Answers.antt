use Rattle.std.proofs.Common.{◌≡◌, ℕ, List, [], ◌∷◌, ◌++◌, Ok, sym, refl, ap, ◌∙◌, subst}
use Rattle.plain_tree.specs.Paths.{Path, moved_path, parent_of, same_path}
use Rattle.plain_tree.specs.declared.calls.Call.TheVariants as asks
use Rattle.plain_tree.proofs.MoveLemmas.{not_true, same_is}
use Rattle.plain_tree.specs.Refusals.{refusal_within}
use Rattle.file_tree.specs.Checks.{IsMove}
use Rattle.file_tree.specs.Edits.{IsAfter, NumbersCome}
use Rattle.file_tree.specs.Tree.{StandsAt, plain_of, whole}
use Rattle.file_tree.proofs.EditLemmas.{parent_ends}
use Rattle.held_volume.proofs.changes.rename.Goals as goal
use Rattle.held_volume.proofs.Asks.{none_to_root, rename_changes, unlocked_refusal}
use Rattle.held_volume.proofs.TreeSteps.{renamed_step}

pub returns-in_ok-name-in-Ok-Into-clause-ok : goal.returns-in_ok-name-in-Ok-Into-clause-ok
returns-in_ok-name-in-Ok-Into-clause-ok c =
    let m = c.move_to.ensures in
    let found = subst (λ r. IsMove (refusal_within (plain_of whole c.args.tree.now) (asks.Rename c.args.from.now c.args.to.now)) c.args.tree.now c.args.from.now c.args.to.now r)
    (c.in-Ok-Into.is ∙ ap Ok c.in-Ok-Into.field-0-is) (c.in_ok-number.ensures {u = tt}) in
    let free = unlocked_refusal (plain_of whole c.args.tree.now) (asks.Rename c.args.from.now c.args.to.now) c.requires ∙ found.0 in
    let apart = not_true (same_path c.args.from.now c.args.to.now) (λ same. found.1 (same_is c.args.from.now c.args.to.now same)) in
    let up = c.in-Some.field-0-1.now in
    let dir = subst (λ (p : Path). StandsAt c.args.tree.now p c.in-Ok-Into.dir) (ap parent_of c.in-Some.ensures.cases.0 ∙ parent_ends up c.in-Some.name.now) found.3 in
    let split : c.args.to.now ≡ up ++ c.in_ok-name-in-Ok-Into.name ∷ [] = c.in-Some.ensures.cases.0 ∙ ap (λ (n : List ℕ). up ++ n ∷ []) (sym (c.in_ok-name-in-Ok-Into.ensures {u = tt})) in (
      free,
      rename_changes c.args.tree.now c.move_to.new.self c.args.at c.args.from.now c.args.to.now apart free
          (renamed_step c.args.tree.now c.move_to.new.self c.args.from.now c.args.to.now c.args.at c.count-count.ensures.good c.count-count_now.ensures.good
          free apart
          (subst (λ p. IsAfter (asks.Rename c.args.from.now p) c.args.at c.args.tree.now c.move_to.new.self) (sym split) (m.plain c.args.from.now up found.2 dir))
          (subst (λ p. NumbersCome (moved_path c.args.from.now p) c.args.tree.now c.move_to.new.self) (sym split) (m.numbers c.args.from.now up found.2 dir))
          m.extents m.blocks m.volume),
    )

pub returns-in_default-clause-ok : goal.returns-in_default-clause-ok
returns-in_default-clause-ok c = (none_to_root (plain_of whole c.args.tree.now) c.args.from.now c.args.to.now c.requires c.in_default.ensures.cases, refl)
