-- Places in a list, counted from 0.
use Rattle.std.specs.Prelude.{◌≡◌, ℕ, ◌<◌, List, Some}
use Rattle.std.specs.List.{slice_get}

-- this element stands at that place
abbrev pub IsAt : {X : Type 0} → List X → ℕ → X → Type 0
IsAt xs at x = slice_get xs at ≡ Some x

-- P holds of this place, and of none before it
pub record IsFirst (P : ℕ → Type 0) (at : ℕ) : Type 0 where
  pub here : P at
  pub none_before : (before : ℕ) → before < at → ¬ P before
