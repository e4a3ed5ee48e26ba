-- How far a pattern was followed along a text.
use Rattle.std.specs.Prelude.{◌≡◌, ◌↔◌, ℕ, List, ◌∷◌, ◌<◌, drop, length}
use Rattle.std.specs.Str.{chars}
use Rattle.tape_layout.specs.PlacementPolicy.Patterns.{StandsFor}
use Rattle.tape_layout.specs.declared.placement.patterns.Walk.{Walk}
use Rattle.tape_layout.specs.declared.placement.patterns.Walk.TheVariants.{Star, Whole, Stuck}

-- The pattern was followed along the first characters of a text, and `left` stands behind, to be followed along `at`.
-- Each text for which the pattern stands has as many characters for what was followed.
pub record IsFollowed (pattern text left at : List ℕ) : Type 0 where
  pub count : ℕ
  pub at_is : at ≡ drop count text
  pub along : (other : List ℕ) → StandsFor pattern other → StandsFor left (drop count other)
  pub back : StandsFor left at → StandsFor pattern text

-- a pattern was followed up to its first `*`, or it stands for the text, or it doesn't
abbrev pub IsWalk : List ℕ → List ℕ → Walk → Type 0
IsWalk pattern text (Star left at) = IsFollowed pattern text (42 ∷ chars left.now) (chars at.now)
IsWalk pattern text Whole = StandsFor pattern text
IsWalk pattern text Stuck = StandsFor pattern text → ⊥

-- the same of a pattern behind a `*`
abbrev pub IsFound : List ℕ → List ℕ → Walk → Type 0
IsFound pattern text (Star left at) = StandsFor (42 ∷ pattern) text ↔ StandsFor (42 ∷ chars left.now) (chars at.now)
IsFound pattern text Whole = StandsFor (42 ∷ pattern) text
IsFound pattern text Stuck = StandsFor (42 ∷ pattern) text → ⊥

-- what is left behind a `*` has fewer bytes than these
abbrev pub IsShorter : Walk → ℕ → Type 0
IsShorter (Star left at) n = length left.now < n
IsShorter Whole n = Unit {0}
IsShorter Stuck n = Unit {0}
