use Rattle.std.specs.Prelude.{◌≡◌}
use Rattle.tape_desk.specs.Turns.{IsPutOff}
use Rattle.tape_desk.proofs.calling.make.Given as goal

abbrev pub invariant-loop : goal.invariant-loop
invariant-loop g l = (l.turns.who ≡ l.fn.turns.who) × (l.turns.nth ≡ l.fn.turns.nth)
    × IsPutOff l.fn.turns.who l.fn.pass l.pass
