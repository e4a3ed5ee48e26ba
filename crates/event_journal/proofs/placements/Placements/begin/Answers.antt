use Rattle.std.proofs.Common.{arith, ◌≤◌, sym, subst}
use Rattle.event_journal.specs.Placements.{Listed}
use Rattle.event_journal.proofs.placements.Placements.begin.Goals as goal
use Rattle.event_journal.proofs.LetGoLemmas.{kept_mark}
use Rattle.event_journal.proofs.PlacementLemmas.{begin_listed}

pub invariant_of-self : goal.invariant_of-self
invariant_of-self c = (
  begin_listed _ _ _ _ _ _ _ _ _ _ c.args.who c.self.invariant.0 c.requires.low (subst (λ (l : Listed). c.args.who ≤ l.sessions) (sym c.self.view_is) c.requires.high) c.push.ensures.items
      (subst (λ (l : Listed). 2 ≤ l.spare) (sym c.self.view_is) c.requires.room) (omega (arith, c.push.ensures.len, c.push.ensures.capacity)),
  kept_mark _ _ _ _ _ _ _ _ _ c.self.invariant.1 c.push.ensures.items,
)
