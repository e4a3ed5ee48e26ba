use Rattle.std.proofs.Common.{◌≡◌, drop}
use Rattle.waiting_reads.specs.Waiting.{answer_for}
use Rattle.waiting_reads.proofs.readings.place_for.Given as goal

abbrev pub invariant-loop-at : goal.invariant-loop-at
invariant-loop-at l = answer_for l.ticket l.answered ≡ answer_for l.ticket (drop l.at l.answered)
