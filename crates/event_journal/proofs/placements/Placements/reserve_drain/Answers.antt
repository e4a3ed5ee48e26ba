use Rattle.std.proofs.Common.{arith, map}
use Rattle.event_journal.specs.LetGo.{values}
use Rattle.event_journal.specs.Placements.{shown}
use Rattle.event_journal.proofs.placements.Placements.reserve_drain.Goals as goal
use Rattle.event_journal.proofs.PlacementLemmas.{busy_all}

pub returns-clause-spare : goal.returns-clause-spare
returns-clause-spare c =
    let ok = c.in_ok-reserve.ensures {u = tt} in
    omega (arith, busy_all c.self.inside.sessions (map (shown (values c.self.inside.replies.items)) c.reserve.new.self.items), ok.ok, ok.len, c.in-Some.ensures)
