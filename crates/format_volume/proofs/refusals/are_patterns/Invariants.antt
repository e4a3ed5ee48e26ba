use Rattle.std.proofs.Common.{◌≡◌, drop}
use Rattle.std.specs.List.{list_all}
use Rattle.format_volume.specs.Refusals.{is_pattern}
use Rattle.format_volume.proofs.refusals.are_patterns.Given as goal

abbrev pub invariant-loop-at : goal.invariant-loop-at
invariant-loop-at l = list_all is_pattern (drop l.at l.names) ≡ list_all is_pattern l.names
