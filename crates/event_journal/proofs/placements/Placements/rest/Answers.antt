use Rattle.std.proofs.Common.{arith, ◌≡◌, ◌-◌, ◌≤◌, vec_capacity, vec_len, sym, subst}
use Rattle.promises.specs.ServingPromise.Marks.{draining, phase}
use Rattle.event_journal.specs.Placements.{Listed}
use Rattle.event_journal.proofs.placements.Placements.rest.Goals as goal
use Rattle.event_journal.proofs.LetGoLemmas.{kept_mark}
use Rattle.event_journal.proofs.PlacementLemmas.{rest_fits, rest_listed}

pub push-requires : goal.push-requires
push-requires c =
    let fits : 1 ≤ vec_capacity c.self.inside.marks - vec_len c.self.inside.marks =
    rest_fits _ _ _ _ _ _ _ _ c.args.who c.self.invariant.0 (subst (λ (l : Listed). phase c.args.who l.marks ≡ draining) (sym c.self.view_is) c.requires.drains) c.requires.low (subst (λ (l : Listed). c.args.who ≤ l.sessions) (sym c.self.view_is) c.requires.high) in
    omega (arith, fits)

pub invariant_of-self : goal.invariant_of-self
invariant_of-self c = (
  rest_listed _ _ _ _ _ _ _ _ _ _ c.args.who c.self.invariant.0 (subst (λ (l : Listed). phase c.args.who l.marks ≡ draining) (sym c.self.view_is) c.requires.drains) c.requires.low (subst (λ (l : Listed). c.args.who ≤ l.sessions) (sym c.self.view_is) c.requires.high)
      c.push.ensures.items (omega (arith, c.push.ensures.len, c.push.ensures.capacity)),
  kept_mark _ _ _ _ _ _ _ _ _ c.self.invariant.1 c.push.ensures.items,
)
