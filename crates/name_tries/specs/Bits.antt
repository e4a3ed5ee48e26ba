-- The bits of names.
use Rattle.std.specs.Prelude.{◌≡◌, ℕ, ◌+◌, ◌-◌, ◌*◌, ◌/◌, ◌%◌, ◌^◌, ◌<◌, ◌==◌, ◌||◌, Bool, false, List, Option, Some, None}
use Rattle.std.specs.Prelude.{slice_get}

-- the bytes of a name
abbrev pub Name : Type 0
Name = List ℕ

-- each number of a name is a byte
abbrev pub AreBytes : Name → Type 0
AreBytes x = (k b : ℕ) → slice_get x k ≡ Some b → b < 256

-- whether there is a byte, and then its eight bits, the highest first
abbrev pub bit_in : Option ℕ → ℕ → Bool
bit_in None within = false
bit_in (Some b) within = (within == 0) || (b / 2 ^ (8 - within) % 2 == 1)

-- one of the nine bits of a name at a byte: behind the end of the name all of them are 0
abbrev pub bit_of : Name → ℕ → ℕ → Bool
bit_of name byte within = bit_in (slice_get name byte) within

-- how many bits come before this one
abbrev pub level : ℕ → ℕ → ℕ
level byte within = 9 * byte + within

-- two names have the same bits below a level
abbrev pub AreAlike : ℕ → Name → Name → Type 0
AreAlike p x y = (byte within : ℕ) → within < 9 → level byte within < p → bit_of x byte within ≡ bit_of y byte within

-- at this bit two names differ, and at none before it
pub record IsParting (x y : Name) (byte within : ℕ) : Type 0 where
  pub within_nine : within < 9
  pub alike : AreAlike (level byte within) x y
  pub apart : bit_of x byte within ≡ bit_of y byte within → ⊥
