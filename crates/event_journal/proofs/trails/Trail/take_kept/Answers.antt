use Rattle.std.proofs.Common.{ap}
use Rattle.event_journal.specs.Trails.{Journaled}
use Rattle.event_journal.proofs.TrailLemmas.{kept_left}
use Rattle.event_journal.proofs.trails.Trail.take_kept.Goals as goal

pub returns-clause-kept : goal.returns-clause-kept
returns-clause-kept c = kept_left c.args.who _ _ _ c.forget_faults.ensures.left (ap (λ (j : Journaled). j.kept) c.self.view_is)
