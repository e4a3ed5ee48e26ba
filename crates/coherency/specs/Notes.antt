-- The volume coherency attribute, 080Ch, of a partition (LTFS 2.4 on volume coherency information): 70 bytes in the
-- memory of the cartridge, its numbers with the highest byte first.
use Rattle.std.specs.Prelude.{◌≡◌, ◌≤◌, ℕ, List, [], ◌∷◌, ◌++◌, Some, length, slice_index, codes}
use Rattle.std.specs.List.{slice_range}
use Rattle.std.specs.Int.{w64, from_be_bytes, to_be_bytes}
use Rattle.tape_types.specs.Uuids.{uuid_in, uuid_text}
use Rattle.tape_types.specs.declared.cartridges.Note.{Note}
use Rattle.tape_types.specs.declared.cartridges.Note.TheVariants.{Absent, Kept}
use Rattle.coherency.specs.declared.Coherency.{Coherency}

-- the bytes are a note with these values: each field stands at its offsets
pub record IsNote (note : List ℕ) (c : Coherency) : Type 0 where
  pub size : length note ≡ 70
  pub reference_length : slice_index note 0 ≡ 8
  pub vcr : c.vcr ≡ from_be_bytes w64 (slice_range note 1 9)
  pub generation : c.generation ≡ from_be_bytes w64 (slice_range note 9 17)
  pub block : c.block ≡ from_be_bytes w64 (slice_range note 17 25)
  pub information_length : slice_range note 25 27 ≡ 0 ∷ 43 ∷ []
  pub signature : slice_range note 27 32 ≡ codes "LTFS" ++ 0 ∷ []
  pub uuid : uuid_in (slice_range note 32 68) ≡ Some c.uuid
  pub uuid_end : slice_index note 68 ≡ 0
  pub version : slice_index note 69 ≤ 1

-- the note that is written for values: letters in lower case, and version 1
abbrev pub note_of : Coherency → List ℕ
note_of c =
    8 ∷ [] ++ to_be_bytes w64 c.vcr ++ to_be_bytes w64 c.generation ++ to_be_bytes w64 c.block ++ 0 ∷ 43 ∷ []
    ++ codes "LTFS" ++ 0 ∷ []
    ++ uuid_text c.uuid ++ 0 ∷ 1 ∷ []

-- a partition's note is there and has these values
abbrev pub HasValues : Note → Coherency → Type 0
HasValues Absent c = ⊥
HasValues (Kept note) c = IsNote note c

-- a partition's note tells of the cartridge as it is: it has the cartridge's volume change reference and the
-- volume's UUID
abbrev pub IsCurrent : Note → ℕ → ℕ → Type 0
IsCurrent note vcr uuid = (c : Coherency) × HasValues note c × (c.vcr ≡ vcr) × (c.uuid ≡ uuid)
