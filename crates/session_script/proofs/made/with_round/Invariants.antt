use Rattle.std.proofs.Common.{◌≡◌, ◌-◌, ◌++◌}
use Rattle.session_script.proofs.MadeLemmas.{begun_round}
use Rattle.session_script.proofs.made.with_round.Given as goal

abbrev pub invariant-loop-who : goal.invariant-loop-who
invariant-loop-who l = l.longer ≡ l.fn.script ++ begun_round l.nth (l.who - 1)
