-- The two slots of the header file, and the value that counts. A slot has 256 bytes: its gate, and a value of 255 bytes
-- that begins with its serial number, the highest byte first.
use Rattle.std.specs.Prelude.{ℕ, ◌<◌, ◌≡◌, ◌⊎◌, List, [], take, drop, length}
use Rattle.std.specs.Prelude.{slice_index, replicate, ◌++◌}
use Rattle.std.specs.List.{slice_range}
use Rattle.std.specs.Int.{w64, from_be_bytes, to_be_bytes}
use Rattle.byte_disk.specs.Files.{Files}

abbrev pub first_of : List ℕ → List ℕ
first_of cm = take 256 cm

abbrev pub second_of : List ℕ → List ℕ
second_of cm = drop 256 cm

-- the value of a slot, behind its gate
abbrev pub value_in : List ℕ → List ℕ
value_in slot = drop 1 slot

abbrev pub serial_of : List ℕ → ℕ
serial_of value = from_be_bytes w64 (slice_range value 0 8)

-- a gate of 01h is open, and one of any other byte is closed
abbrev pub IsOpen : List ℕ → Type 0
IsOpen slot = slice_index slot 0 ≡ 1

-- a slot counts beside another: it is open, and the other one is closed or has a lesser serial number
abbrev pub Counts : List ℕ → List ℕ → Type 0
Counts slot other = IsOpen slot × (¬ (IsOpen other) ⊎ (serial_of (value_in other) < serial_of (value_in slot)))

-- the value of a header of two slots; a header has none where neither slot counts
pub record HasValue (cm value : List ℕ) : Type 0 where
  pub size : length cm ≡ 512
  pub counts : (Counts (first_of cm) (second_of cm) × (value ≡ value_in (first_of cm)))
      ⊎ (Counts (second_of cm) (first_of cm) × (value ≡ value_in (second_of cm)))

-- nothing was made yet, or the making was cut off: there are no items, and less than a header
pub record IsBlank (d : Files) : Type 0 where
  pub ip : d.ip ≡ []
  pub dp : d.dp ≡ []
  pub cm : length d.cm < 512

-- the value of a disk on which nothing was made: the first serial number, and zeros
abbrev pub first_value : List ℕ
first_value = to_be_bytes w64 1 ++ replicate 247 0

-- the value that lies on a disk
abbrev pub Stores : Files → List ℕ → Type 0
Stores d value = (IsBlank d × (value ≡ first_value)) ⊎ HasValue d.cm value
