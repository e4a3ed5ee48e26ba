-- The value of a slot: 255 bytes. Numbers have their highest byte first. In words: docs/FORMATS.md.
use Rattle.std.specs.Prelude.{ℕ, ◌≡◌, ◌+◌, ◌^◌, ◌<◌, ◌==◌, Bool, true, false, if◌then◌else◌, List, ◌∷◌, ◌++◌, length, replicate}
use Rattle.std.specs.Prelude.{slice_index, slice_range, Option, Some, None}
use Rattle.std.specs.Int.{w64, from_be_bytes, to_be_bytes}
use Rattle.tape_types.specs.declared.cartridges.Note.{Note}
use Rattle.tape_types.specs.declared.cartridges.Note.TheVariants.{Absent, Kept}
use Rattle.image_format.specs.declared.values.Half.{Half}
use Rattle.image_format.specs.declared.values.SlotValue.{SlotValue}

-- the number in eight bytes from an offset on
abbrev pub number_at : List ℕ → ℕ → ℕ
number_at raw at = from_be_bytes w64 (slice_range raw at (at + 8))

-- the byte of a flag
abbrev pub flag : Bool → ℕ
flag false = 0
flag true = 1

-- A flag and 70 bytes are those of a note. Where the flag says that there is none, the bytes may be any.
abbrev pub IsNoteField : ℕ → List ℕ → Note → Type 0
IsNoteField noted bytes Absent = noted ≡ 0
IsNoteField noted bytes (Kept note) = (noted ≡ 1) × (note ≡ bytes)

-- 88 bytes are those of a partition: each field stands at its offset
pub record IsHalf (raw : List ℕ) (h : Half) : Type 0 where
  pub count : h.count ≡ number_at raw 0
  pub end : h.end ≡ number_at raw 8
  pub torn : slice_index raw 16 ≡ flag h.torn
  pub note : IsNoteField (slice_index raw 17) (slice_range raw 18 88) h.note

-- The bytes are those of a value: each field stands at its offset. The last 63 bytes may be any.
pub record IsValue (raw : List ℕ) (s : SlotValue) : Type 0 where
  pub size : length raw ≡ 255
  pub serial : s.serial ≡ number_at raw 0
  pub vcr : s.vcr ≡ number_at raw 8
  pub ip : IsHalf (slice_range raw 16 104) s.ip
  pub dp : IsHalf (slice_range raw 104 192) s.dp

-- the bytes that are written
abbrev pub note_bytes : Note → List ℕ
note_bytes Absent = 0 ∷ replicate 70 0
note_bytes (Kept note) = 1 ∷ note

abbrev pub half_bytes : Half → List ℕ
half_bytes h = to_be_bytes w64 h.count ++ to_be_bytes w64 h.end ++ flag h.torn ∷ note_bytes h.note

abbrev pub value_bytes : SlotValue → List ℕ
value_bytes s =
    to_be_bytes w64 s.serial ++ to_be_bytes w64 s.vcr ++ half_bytes s.ip ++ half_bytes s.dp ++ replicate 63 0

-- the flag of a byte, where it is one
abbrev pub flag_in : ℕ → Option Bool
flag_in b = if b == 0 then Some false else if b == 1 then Some true else None

abbrev pub note_by : Bool → List ℕ → Note
note_by false bytes = Absent
note_by true bytes = Kept bytes

abbrev pub half_by : List ℕ → Option Bool → Option Bool → Option Half
half_by raw None noted = None
half_by raw (Some torn) None = None
half_by raw (Some torn) (Some noted) = Some (record {
  count = number_at raw 0;
  end = number_at raw 8;
  torn = torn;
  note = note_by noted (slice_range raw 18 88);
})

-- what 88 bytes say of a partition
abbrev pub half_of : List ℕ → Option Half
half_of raw = half_by raw (flag_in (slice_index raw 16)) (flag_in (slice_index raw 17))

abbrev pub value_by : List ℕ → Option Half → Option Half → Option SlotValue
value_by raw None dp = None
value_by raw (Some ip) None = None
value_by raw (Some ip) (Some dp) =
    Some (record { serial = number_at raw 0; vcr = number_at raw 8; ip = ip; dp = dp })

-- what 255 bytes say
abbrev pub value_of : List ℕ → Option SlotValue
value_of raw = value_by raw (half_of (slice_range raw 16 104)) (half_of (slice_range raw 104 192))

-- a note has 70 bytes, and numbers are below 2^64
abbrev pub IsSizedNote : Note → Type 0
IsSizedNote Absent = Unit {0}
IsSizedNote (Kept note) = length note ≡ 70

pub record IsSizedHalf (h : Half) : Type 0 where
  pub count : h.count < 2 ^ 64
  pub end : h.end < 2 ^ 64
  pub note : IsSizedNote h.note

pub record IsSized (s : SlotValue) : Type 0 where
  pub serial : s.serial < 2 ^ 64
  pub vcr : s.vcr < 2 ^ 64
  pub ip : IsSizedHalf s.ip
  pub dp : IsSizedHalf s.dp
