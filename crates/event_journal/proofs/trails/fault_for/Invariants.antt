use Rattle.std.proofs.Common.{◌≡◌, drop, map}
use Rattle.head_queue.specs.EventLaws.Waiting.{first_of}
use Rattle.promises.specs.ServingPromise.Faults.{kept_for}
use Rattle.event_journal.specs.Trails.{kept_as}
use Rattle.event_journal.proofs.trails.fault_for.Given as goal

abbrev pub invariant-loop-fault : goal.invariant-loop-fault
invariant-loop-fault l = first_of (kept_for l.who (map kept_as l.kept)) ≡ first_of (kept_for l.who (map kept_as (drop l.fault-index l.kept)))
