use Rattle.std.proofs.Common.{◌≡◌, ◌≤◌, ◌++◌, drop, length}
use Rattle.tape_types.specs.Times.{digits}
use Rattle.tape_types.proofs.times.decimal.Given as goal

abbrev pub invariant-loop-at : goal.invariant-loop-at
invariant-loop-at g l = record {
  whole : length l.text ≡ g.row.N;
  within : l.at ≤ g.row.N;
  written : digits g.row.N l.fn.number ≡ digits l.at l.rest ++ drop l.at l.text;
}
