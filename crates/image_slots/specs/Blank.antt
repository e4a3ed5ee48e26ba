-- How a header reads while it is made.
use Rattle.std.specs.Prelude.{ℕ, ◌<◌, ◌≡◌, List, [], ◌∷◌, ◌++◌, replicate, length}
use Rattle.image_slots.specs.Slots.{first_value}
use Rattle.image_slots.specs.Calls.{first_header}

abbrev pub IsShort : List ℕ → Type 0
IsShort cm = length cm < 512

-- with these bytes first, and less than a header
abbrev pub BeginsWith : List ℕ → List ℕ → Type 0
BeginsWith bytes cm = (rest : List ℕ) × (cm ≡ bytes ++ rest) × (length rest < 255)

-- zeros up to the second gate
abbrev pub IsBegun : List ℕ → Type 0
IsBegun cm = BeginsWith (replicate 257 0) cm

-- and the first value behind the first gate, which is closed
abbrev pub bodied : ℕ → List ℕ
bodied gate = (gate ∷ first_value) ++ (0 ∷ [])

abbrev pub IsBodied : List ℕ → Type 0
IsBodied cm = BeginsWith (bodied 0) cm

-- and the gate open
abbrev pub IsGated : List ℕ → Type 0
IsGated cm = BeginsWith (bodied 1) cm

abbrev pub IsMade : List ℕ → Type 0
IsMade cm = cm ≡ first_header
