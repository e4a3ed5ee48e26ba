use Rattle.std.proofs.Common.{◌≡◌, ◌≤◌, ◌-◌, ◌++◌, length, take, drop}
use Rattle.session_script.proofs.log_lines.LogLine.fill.Given as goal

abbrev pub invariant-loop-used : goal.invariant-loop-used
invariant-loop-used l = record {
  same : take l.used l.room ++ l.self ≡ l.fn.self;
  within : l.used ≤ length l.room;
  behind : drop l.used l.room ≡ drop l.used l.fn.room;
}

abbrev pub decreases-loop-used : goal.decreases-loop-used
decreases-loop-used l = length l.initial.room - l.used
