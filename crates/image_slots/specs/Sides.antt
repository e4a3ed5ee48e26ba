-- Where the two slots of a header lie, and which one counts, computed.
use Rattle.std.specs.Prelude.{ℕ, ◌+◌, ◌<◌, ◌≡◌, ◌≢◌, ◌⊎◌, ◌==◌, Bool, true, false, nat_lt, if◌then◌else◌, List, length, slice_index}
use Rattle.std.specs.Prelude.{Option, Some, None, option_map}
use Rattle.byte_disk.specs.Files.{bytes_at}
use Rattle.image_slots.specs.Slots.{serial_of}
use Rattle.image_slots.specs.declared.sides.Side.{Side}
use Rattle.image_slots.specs.declared.sides.Side.TheVariants.{First, Second}

-- the place of a slot's gate; its value lies behind it
abbrev pub gate_of : Side → ℕ
gate_of First = 0
gate_of Second = 256

abbrev pub other_of : Side → Side
other_of First = Second
other_of Second = First

abbrev pub gate_in : Side → List ℕ → ℕ
gate_in side cm = slice_index cm (gate_of side)

-- what lies behind a gate, whether it counts or not
abbrev pub value_at : Side → List ℕ → List ℕ
value_at side cm = bytes_at (gate_of side + 1) 255 cm

-- The slot with its gate at this place counts, with this value, beside the one with its gate at the other place.
pub record CountsAt (at beside : ℕ) (cm value : List ℕ) : Type 0 where
  pub size : length cm ≡ 512
  pub gate : slice_index cm at ≡ 1
  pub body : bytes_at (at + 1) 255 cm ≡ value
  pub lesser : (slice_index cm beside ≢ 1) ⊎ (serial_of (bytes_at (beside + 1) 255 cm) < serial_of value)

abbrev pub CountsIn : Side → List ℕ → List ℕ → Type 0
CountsIn side cm value = CountsAt (gate_of side) (gate_of (other_of side)) cm value

-- a slot counts with this value, and whether the one beside it is open is known
abbrev pub IsRead : Side → Bool → List ℕ → List ℕ → Type 0
IsRead side beside value cm = CountsIn side cm value × (beside ≡ (gate_in (other_of side) cm == 1))

-- which of two slots counts, by whether each is open and by their serial numbers
abbrev pub side_by : Bool → Bool → ℕ → ℕ → Option Side
side_by true true a b = if nat_lt a b then Some Second else if nat_lt b a then Some First else None
side_by true false a b = Some First
side_by false true a b = Some Second
side_by false false a b = None

abbrev pub side_in : List ℕ → Option Side
side_in cm = side_by (gate_in First cm == 1) (gate_in Second cm == 1) (serial_of (value_at First cm)) (serial_of (value_at Second cm))

-- the value of a header, where it has one
abbrev pub chosen : List ℕ → Option (List ℕ)
chosen cm = if length cm == 512 then option_map (λ side. value_at side cm) (side_in cm) else None
