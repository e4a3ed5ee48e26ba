use Rattle.std.proofs.Common.{◌-◌}
use Rattle.session_run.proofs.Running.{IsUnderWay}
use Rattle.session_run.proofs.threads.make_calls.Given as goal

abbrev pub invariant-loop-pass : goal.invariant-loop-pass
invariant-loop-pass g l = IsUnderWay l.fn.pass l.pass l.count

abbrev pub decreases-loop-pass : goal.decreases-loop-pass
decreases-loop-pass g l = l.count - l.pass.placed
