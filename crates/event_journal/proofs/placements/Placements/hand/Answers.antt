use Rattle.std.proofs.Common.{arith, ◌≡◌, ◌-◌, ◌≤◌, vec_capacity, vec_len, sym, subst}
use Rattle.promises.specs.ServingPromise.Marks.{phase, waits}
use Rattle.event_journal.specs.declared.placements.What.TheVariants as stored
use Rattle.event_journal.specs.Placements.{IsThere, Listed}
use Rattle.event_journal.proofs.placements.Placements.hand.Goals as goal
use Rattle.event_journal.proofs.LetGoLemmas.{kept_handed}
use Rattle.event_journal.proofs.PlacementLemmas.{hand_fits, hand_listed}

pub push-requires : goal.push-requires
push-requires c =
    let fits : 1 ≤ vec_capacity c.self.inside.marks - vec_len c.self.inside.marks =
    hand_fits _ _ _ _ _ _ _ _ c.args.who c.args.place c.self.invariant.0 (subst (λ (l : Listed). phase c.args.who l.marks ≡ waits c.args.place) (sym c.self.view_is) c.requires.waits) c.requires.low (subst (λ (l : Listed). c.args.who ≤ l.sessions) (sym c.self.view_is) c.requires.high) in
    omega (arith, fits)

pub invariant_of-self : goal.invariant_of-self
invariant_of-self c = (
  hand_listed _ _ _ _ _ _ _ _ _ _ c.args.who c.args.place c.self.invariant.0 (subst (λ (l : Listed). phase c.args.who l.marks ≡ waits c.args.place) (sym c.self.view_is) c.requires.waits) c.requires.low (subst (λ (l : Listed). c.args.who ≤ l.sessions) (sym c.self.view_is) c.requires.high)
      (subst (λ (l : Listed). IsThere l.replies (stored.Hands c.args.place)) (sym c.self.view_is) c.requires.there) c.push.ensures.items
      (omega (arith, c.push.ensures.len, c.push.ensures.capacity)),
  kept_handed _ _ _ _ _ _ _ _ c.args.who c.args.place c.self.invariant.1 c.push.ensures.items,
)
