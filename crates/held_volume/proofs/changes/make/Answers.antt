use Rattle.std.proofs.Common.{◌≡◌, ℕ, ◌≤◌, List, [], ◌∷◌, ◌++◌, Some, None, sym, refl, ap, ◌∙◌, subst}
use Rattle.held_volume.proofs.changes.make.Goals as goal
use Rattle.plain_tree.proofs.LinkLemmas.{on_any_err}
use Rattle.held_volume.specs.Steps.{IsSameTree}
use Rattle.held_volume.proofs.Asks.{made_refusal, none_at_root}
use Rattle.held_volume.proofs.TreeSteps.{same_nodes, step_from}
use Rattle.plain_tree.specs.Paths.{Path, parent_of}
use Rattle.plain_tree.specs.Refusals.{new_refusal, refusal_of}
use Rattle.file_tree.specs.Checks.{IsChecked}
use Rattle.plain_tree.specs.declared.calls.Call.{Call}
use Rattle.plain_tree.specs.declared.calls.Sort.{Sort}
use Rattle.file_tree.specs.Edits.{CanMake, making}
use Rattle.file_tree.specs.Tree.{FileTree, Nodes, StandsAt, number_at, plain_of, whole}
use Rattle.file_tree.proofs.EditLemmas.{parent_ends}

pub returns-in-Err-clause-ok : goal.returns-in-Err-clause-ok
returns-in-Err-clause-ok c call made = (
  made_refusal (plain_of whole c.args.tree.now) c.args.sort c.args.path.now call (c.requires.unlocked call made) made
      ∙ subst (λ r. IsChecked (new_refusal (plain_of whole c.args.tree.now) c.args.path.now) c.args.tree.now (parent_of c.args.path.now) r) c.in-Err.is (c.in_ok-dir.ensures {u = tt}),
  refl,
)

pub returns-in_err-reserve-clause-err : goal.returns-in_err-reserve-clause-err
returns-in_err-reserve-clause-err c = on_any_err c.from_residual-in_err-reserve.result (same_nodes c.args.tree.now c.reserve.new.self c.reserve.ensures.nodes c.reserve.ensures.highest c.reserve.ensures.lock c.reserve.ensures.volume)

-- the directory and the name that are found are those of a node that may be made, once there is memory for it
abbrev can_make : (t next : FileTree) (path up : Path) (name copy : List ℕ) (dir : ℕ) (sort : Sort) (call : Call) → IsSameTree t next → next.nodes ≡ t.nodes → 1 ≤ next.spare
    → path ≡ up ++ name ∷ [] → copy ≡ name → StandsAt t (parent_of path) dir → making sort path ≡ Some call → refusal_of (plain_of whole t) call ≡ None → CanMake next dir copy sort
can_make t next path up name copy dir sort call same nodes room is named stands made free = record {
  path = up;
  stands = subst (λ (p : Path). StandsAt next p dir) (ap parent_of is ∙ parent_ends up name) (subst (λ (m : Nodes). number_at m (parent_of path) ≡ Some dir) (sym nodes) stands);
  call = call;
  made_by = ap (λ (n : List ℕ). making sort (up ++ n ∷ [])) named ∙ ap (making sort) (sym is) ∙ made;
  free = ap (λ t. refusal_of t call) (same.plain whole) ∙ free;
  room = room;
}

pub make_in-requires : goal.make_in-requires
make_in-requires c =
    let call = c.requires.makes.0 in
    let made = c.requires.makes.1 in
    let r = c.reserve.ensures in
    let found = subst (λ r. IsChecked (new_refusal (plain_of whole c.args.tree.now) c.args.path.now) c.args.tree.now (parent_of c.args.path.now) r) c.in-Ok.is (c.in_ok-dir.ensures {u = tt}) in
    can_make c.args.tree.now c.reserve.new.self c.args.path.now c.in-Some.field-0-1.now c.in-Some.name.now c.in_ok-name.name c.in-Ok.dir c.args.sort call
    (same_nodes c.args.tree.now c.reserve.new.self r.nodes r.highest r.lock r.volume) r.nodes c.in_ok-reserve.ensures.room c.in-Some.ensures.cases.0 (c.in_ok-name.ensures {u = tt}) found.1 made
    (made_refusal (plain_of whole c.args.tree.now) c.args.sort c.args.path.now call (c.requires.unlocked call made) made ∙ found.0)

pub returns-clause-ok : goal.returns-clause-ok
returns-clause-ok c call made =
    let r = c.reserve.ensures in
    let found = subst (λ r. IsChecked (new_refusal (plain_of whole c.args.tree.now) c.args.path.now) c.args.tree.now (parent_of c.args.path.now) r) c.in-Ok.is (c.in_ok-dir.ensures {u = tt}) in
    let free = made_refusal (plain_of whole c.args.tree.now) c.args.sort c.args.path.now call (c.requires.unlocked call made) made ∙ found.0 in
    let same = same_nodes c.args.tree.now c.reserve.new.self r.nodes r.highest r.lock r.volume in (
      free,
      step_from c.args.tree.now c.reserve.new.self c.make_in.new.tree call c.args.at same (c.make_in.ensures
          (can_make c.args.tree.now c.reserve.new.self c.args.path.now c.in-Some.field-0-1.now c.in-Some.name.now c.in_ok-name.name c.in-Ok.dir c.args.sort call
          same r.nodes c.in_ok-reserve.ensures.room c.in-Some.ensures.cases.0 (c.in_ok-name.ensures {u = tt}) found.1 made free)),
    )

pub returns-in_default-clause-ok : goal.returns-in_default-clause-ok
returns-in_default-clause-ok c call made = (
  made_refusal (plain_of whole c.args.tree.now) c.args.sort c.args.path.now call (c.requires.unlocked call made) made
      ∙ none_at_root (plain_of whole c.args.tree.now) c.args.path.now c.in_default.ensures.cases,
  refl,
)
