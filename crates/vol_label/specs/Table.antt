-- The VOL1 record of 80 bytes with which each partition of a volume begins (LTFS 2.4 on labels, after ANSI X3.27).
use Rattle.std.specs.Prelude.{◌≡◌, ◌≢◌, ℕ, ◌-◌, ◌<◌, nat_lt, Bool, true, false, ◌==◌, if◌then◌else◌, List, ◌++◌, length}
use Rattle.std.specs.Prelude.{replicate, codes, slice_index}
use Rattle.std.specs.List.{All, slice_range}
use Rattle.std.specs.Int.{is_in_range}
use Rattle.vol_label.specs.declared.Vol1.{Vol1}
use Rattle.vol_label.specs.declared.Vol1Err.{Vol1Err}
use Rattle.vol_label.specs.declared.Vol1Err.TheVariants.{Length, Byte}

-- a byte is a space or a visible character of ASCII, 20h to 7Eh
abbrev pub is_printable : ℕ → Bool
is_printable byte = is_in_range 32 126 byte

-- each byte of the identifiers of a label is one of these
pub record IsVol1 (label : Vol1) : Type 0 where
  pub volume : All (λ byte. is_printable byte ≡ true) label.volume
  pub owner : All (λ byte. is_printable byte ≡ true) label.owner

-- the bytes are a record with this label: each field stands at its offsets. The fields at 11 to 23 and at 51 to 78
-- are reserved, and may hold anything.
pub record IsRecord (bytes : List ℕ) (label : Vol1) : Type 0 where
  pub size : length bytes ≡ 80
  pub label_identifier : slice_range bytes 0 4 ≡ codes "VOL1"
  pub volume_identifier : slice_range bytes 4 10 ≡ label.volume
  pub accessibility : slice_range bytes 10 11 ≡ codes "L"
  pub implementation_identifier : slice_range bytes 24 37 ≡ codes "LTFS         "
  pub owner_identifier : slice_range bytes 37 51 ≡ label.owner
  pub standard_version : slice_range bytes 79 80 ≡ codes "4"
  pub printable : IsVol1 label

-- the record that is written for a label: its reserved fields are spaces
abbrev pub record_of : Vol1 → List ℕ
record_of label =
    codes "VOL1" ++ label.volume ++ codes "L" ++ replicate 13 32 ++ codes "LTFS" ++ replicate 9 32 ++ label.owner
    ++ replicate 28 32 ++ codes "4"

-- whether a byte may stand at an offset of a record
abbrev pub may_stand : ℕ → ℕ → Bool
may_stand at byte =
    if nat_lt at 4 then byte == slice_index (codes "VOL1") at
    else if nat_lt at 10 then is_printable byte
    else if at == 10 then byte == 76
    else if nat_lt at 24 then true
    else if nat_lt at 37 then byte == slice_index (codes "LTFS         ") (at - 24)
    else if nat_lt at 51 then is_printable byte
    else if nat_lt at 79 then true
    else byte == 52

-- why bytes are no record: there aren't 80 of them, or this offset is the first whose byte may not stand there
abbrev pub IsFault : List ℕ → Vol1Err → Type 0
IsFault bytes Length = length bytes ≢ 80
IsFault bytes (Byte at) =
    (length bytes ≡ 80) × (at < 80) × (may_stand at (slice_index bytes at) ≡ false)
    × ((k : ℕ) → k < at → may_stand k (slice_index bytes k) ≡ true)
