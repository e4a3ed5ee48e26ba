use Rattle.std.proofs.Common.{◌≡◌, false, take}
use Rattle.waiting_reads.specs.Waiting.{has_ticket}
use Rattle.waiting_reads.proofs.readings.place_of.Given as goal

abbrev pub invariant-loop-at : goal.invariant-loop-at
invariant-loop-at l = has_ticket l.ticket (take l.at l.reads) ≡ false
