use Rattle.promises.specs.ServingPromise.Faults.{kept_for}
use Rattle.volume_core.proofs.Given.{no_one, the_one}
use Rattle.volume_core.proofs.draining.end_drain.Goals as goal

pub tell_fault-requires-clause-kept : goal.tell_fault-requires-clause-kept
tell_fault-requires-clause-kept g c =
    the_one (kept_for c.args.who c.args.parts.now.trail.kept) c.in-Some.counts c.requires.one c.in-Some.ensures

pub rest-requires-clause-none : goal.rest-requires-clause-none
rest-requires-clause-none g c = no_one (kept_for c.args.who c.args.parts.now.trail.kept) c.in_default.ensures
