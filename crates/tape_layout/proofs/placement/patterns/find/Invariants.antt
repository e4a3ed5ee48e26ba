use Rattle.std.proofs.Common.{◌↔◌, ◌∷◌, length}
use denote.Text.{Utf8}
use denote.Shadow.{shadow}
use Rattle.std.specs.Str.{chars}
use Rattle.tape_layout.specs.PlacementPolicy.Patterns.{StandsFor}
use Rattle.tape_layout.proofs.placement.patterns.find.Given as goal

abbrev pub invariant-loop-rest : goal.invariant-loop-rest
invariant-loop-rest l = shadow (Utf8 l.at) × (StandsFor (42 ∷ chars l.pattern) (chars l.text) ↔ StandsFor (42 ∷ chars l.pattern) (chars l.at))

abbrev pub decreases-loop-rest : goal.decreases-loop-rest
decreases-loop-rest l = length l.at
