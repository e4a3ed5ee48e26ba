use Rattle.std.proofs.Common.{◌≡◌}
use Rattle.session_script.specs.Made.{made_script}
use Rattle.session_script.proofs.made.make_script.Given as goal

abbrev pub invariant-loop-nth : goal.invariant-loop-nth
invariant-loop-nth l = l.script ≡ made_script l.nth
