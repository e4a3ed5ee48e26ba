use Rattle.std.proofs.Common.{◌↔◌, ◌∷◌, length}
use denote.Text.{Utf8}
use denote.Shadow.{shadow}
use Rattle.std.specs.Str.{chars}
use Rattle.tape_layout.specs.PlacementPolicy.Patterns.{StandsFor}
use Rattle.tape_layout.proofs.placement.patterns.reaches_end.Given as goal

abbrev pub invariant-loop-next : goal.invariant-loop-next
invariant-loop-next l = shadow (Utf8 l.left) × shadow (Utf8 l.at) × (StandsFor (chars l.pattern) (chars l.name) ↔ StandsFor (42 ∷ chars l.left) (chars l.at))

abbrev pub decreases-loop-next : goal.decreases-loop-next
decreases-loop-next l = length l.left
