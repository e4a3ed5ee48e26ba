use Rattle.std.proofs.Common.{true≢false, ◌≡◌, ℕ, Some, sym, ap, ◌∙◌, subst}
use Rattle.std.specs.Option.{IfNone, option_map}
use Rattle.name_tries.specs.Keys.{number_in}
use Rattle.name_tries.proofs.ItemLemmas.{some_same, none_not}
use Rattle.file_tree.specs.declared.nodes.Spot.{Spot}
use Rattle.file_tree.specs.Seen.{held}
use Rattle.file_tree.specs.Beside.{keys_of}
use Rattle.file_tree.proofs.WalkLemmas.{name_Decides}
use Rattle.file_tree.proofs.NameLemmas.{near_held, child_there, child_missing}
use Rattle.file_tree.proofs.members.child.Goals as goal

pub spot_at-requires : goal.spot_at-requires
spot_at-requires c =
    let at = held c.args.spots.now in
    let told = (c.in_ok-near.ensures {u = tt}).found (keys_of at) c.requires.named in
    near_held at c.in_ok-near.near.number c.args.dir told.0 told.1

pub returns-in_err-near-clause-missing : goal.returns-in_err-near-clause-missing
returns-in_err-near-clause-missing c =
    let at = held c.args.spots.now in
    subst (λ r. IfNone r ((n : ℕ) → keys_of at n ≡ Some (c.args.dir, c.args.name.now) → ⊥)) (sym c.from_residual.ensures)
    (child_missing at c.args.dir c.args.name.now (option_map number_in c.nearest.result)
    (λ n is. c.nearest.ensures.only (keys_of at) n c.requires.named (is ∙ ap (λ x. Some (c.args.dir, x)) (sym c.as_bytes.ensures.value)))
    (λ m z is. absurd (none_not (option_map number_in c.nearest.result) m (ap (option_map number_in) (c.in_err-near.was {u = tt})) is)))

pub returns-then-eq-clause-found : goal.returns-then-eq-clause-found
returns-then-eq-clause-found c =
    let at = held c.args.spots.now in
    let told = (c.in_ok-near.ensures {u = tt}).found (keys_of at) c.requires.named in
    child_there at c.args.dir c.args.name.now c.in_ok-near.near.number told.0 told.1 c.spot_at.result.now c.spot_at.ensures
    (sym c.as_str.ensures ∙ (name_Decides c.as_str.result.now c.args.name.now).0 (sym c.eq.ensures ∙ c.if-eq.true))

pub returns-clause-missing : goal.returns-clause-missing
returns-clause-missing c =
    let at = held c.args.spots.now in
    child_missing at c.args.dir c.args.name.now (option_map number_in c.nearest.result)
    (λ n is. c.nearest.ensures.only (keys_of at) n c.requires.named (is ∙ ap (λ x. Some (c.args.dir, x)) (sym c.as_bytes.ensures.value)))
    (λ m z is there named.
    let same : c.in_ok-near.near.number ≡ m = some_same c.in_ok-near.near.number m (sym (ap (option_map number_in) (c.in_ok-near.was {u = tt})) ∙ is) in
    let one = some_same c.spot_at.result.now z (sym c.spot_at.ensures ∙ ap at same ∙ there) in
    true≢false (sym ((name_Decides c.as_str.result.now c.args.name.now).1 (c.as_str.ensures ∙ ap (λ (s : Spot). s.name) one ∙ named)) ∙ sym c.eq.ensures ∙ c.if-eq.false))
