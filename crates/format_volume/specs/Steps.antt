-- What the steps of a formatting leave of the cartridge.
use Rattle.std.specs.Prelude.{ℕ, ◌+◌, ◌≡◌, ◌++◌, take, length, Some, List}
use Rattle.coherency.specs.Notes.{IsNote, note_of}
use Rattle.tape_types.specs.declared.cartridges.Cartridge.{Cartridge}
use Rattle.tape_types.specs.declared.cartridges.Item.{Item}
use Rattle.tape_drive.specs.declared.drive.Drive.{Ghosts}
use Rattle.format_volume.specs.declared.requests.FormatSpec.{FormatSpec}
use Rattle.format_volume.specs.Volumes.{noted, vcr_after, note_for, volume_for}

-- behind so many items of each partition stand these and no more, and each of them changed the volume
pub record AreAppended (pos : ℕ) (ip dp : List Item) (old new : Cartridge) : Type 0 where
  pub ip_items : new.ip ≡ take pos old.ip ++ ip
  pub dp_items : new.dp ≡ take pos old.dp ++ dp
  pub vcr : new.vcr ≡ old.vcr + (length ip + length dp)

-- where the drive tells, it wrote these
abbrev pub WritesBoth : {D : Type 0} → Ghosts D → ℕ → (ip dp : List Item) → (old new : D) → Type 0
WritesBoth drive pos ip dp old new = (c : Cartridge) → drive.held old ≡ Some c
    → (d : Cartridge) × (drive.held new ≡ Some d) × AreAppended pos ip dp c d

-- both notes were written, and the rest stays
abbrev pub with_notes : FormatSpec → Cartridge → Cartridge
with_notes spec c = record c { note_ip = note_for spec c.vcr; note_dp = note_for spec c.vcr }

-- where the drive tells, it has this volume
abbrev pub HoldsVolume : {D : Type 0} → Ghosts D → FormatSpec → (old new : D) → Type 0
HoldsVolume drive spec old new = (c : Cartridge) → drive.held old ≡ Some c
    → drive.held new ≡ Some (volume_for spec (vcr_after spec c.vcr))

-- where the drive tells, the bytes of the volume's notes are notes with their values
abbrev pub HasNotes : {D : Type 0} → Ghosts D → FormatSpec → (old : D) → Type 0
HasNotes drive spec old = (c : Cartridge) → drive.held old ≡ Some c
    → IsNote (note_of (noted spec (vcr_after spec c.vcr))) (noted spec (vcr_after spec c.vcr))
