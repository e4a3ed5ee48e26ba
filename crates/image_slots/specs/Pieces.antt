-- What the commands of a set, and those that make a header, leave of a disk.
use Rattle.std.specs.Prelude.{ℕ, ◌+◌, ◌≤◌, ◌<◌, ◌≡◌, ◌⊎◌, max, List, [], length, slice_index, Some, None, Result, OnOk}
use Rattle.tape_types.specs.Counts.{HasCause}
use Rattle.crash_steps.specs.Crashes.{Crashes}
use Rattle.byte_disk.specs.Files.{Files, IsOutside, written}
use Rattle.byte_disk.specs.Commands.{WithinWrite}
use Rattle.byte_disk.specs.declared.disk.File.TheVariants.{Cm}
use Rattle.byte_disk.specs.declared.disk.ByteDisk.{Ghosts}
use Rattle.image_slots.specs.Slots.{HasValue, Stores, first_value}

-- so many commands at most
pub record AtMost (most before now : ℕ) : Type 0 where
  pub later : before ≤ now
  pub bound : now ≤ before + most

-- Outside of a range each byte that was there is there. The length lies between the old one and the range's end.
pub record IsTouched (at n : ℕ) (old new : List ℕ) : Type 0 where
  pub outside : (i : ℕ) → i < length old → IsOutside at n i → slice_index new i ≡ slice_index old i
  pub no_shorter : length old ≤ length new
  pub no_longer : length new ≤ max (length old) (at + n)

-- what a crash may leave of a disk in this step, now and since
abbrev pub CrashesIn : {D : Type 0} → Ghosts D → (Files → Files → Type 0) → (old new : D) → Type 0
CrashesIn disk step old new = Crashes step (disk.commands old) (disk.leaves old) (disk.leaves new)
    (disk.left_since old) (disk.left_since new)

-- every crash leaves the header as it reads
abbrev pub IsHeaderSure : {D : Type 0} → Ghosts D → D → Type 0
IsHeaderSure disk s = (d image : Files) → disk.held s ≡ Some d → disk.leaves s image → image.cm ≡ d.cm

-- bytes were written to the header and made durable, or were to be
pub record IsPut {D T E : Type 0} (disk : Ghosts D) (at : ℕ) (bytes : List ℕ) (end : Result T E) (old new : D) : Type 0 where
  pub told : (d : Files) → disk.held old ≡ Some d → (e : Files) × (disk.held new ≡ Some e) × (e.ip ≡ d.ip) × (e.dp ≡ d.dp)
      × IsTouched at (length bytes) d.cm e.cm × OnOk end (e.cm ≡ written at bytes d.cm)
  pub untold : disk.held old ≡ None → disk.held new ≡ None
  pub sure : OnOk end (IsHeaderSure disk new)
  pub crash : CrashesIn disk (WithinWrite Cm at (length bytes)) old new
  pub count : AtMost 2 (disk.commands old) (disk.commands new)
  pub cause : HasCause (disk.faults old) (disk.faults new) end

-- the partitions' files stay, and this holds of what is left
abbrev pub Within : (Files → Type 0) → Files → Files → Type 0
Within P before image = (image.ip ≡ before.ip) × (image.dp ≡ before.dp) × P image

-- one of two values lies on a disk
abbrev pub HasOne : (old new : List ℕ) → Files → Type 0
HasOne old new d = HasValue d.cm old ⊎ HasValue d.cm new

-- What a crash may leave within a set, from what it could leave before: the old value or the new one. So it stores one
-- of the two.
abbrev pub WithinSet : (old new : List ℕ) → Files → Files → Type 0
WithinSet old new before image = Within (HasOne old new) before image

-- while a header is made
abbrev pub HasFirst : Files → Type 0
HasFirst d = Stores d first_value

-- How a disk stands between two commands: this holds of its header, which every crash leaves so, and that of the
-- partitions' files, also of what a crash may leave.
abbrev pub IsReady : {D : Type 0} → Ghosts D → (List ℕ → List ℕ → Type 0) → (List ℕ → Type 0) → D → Type 0
IsReady disk R Q s = (d : Files) → disk.held s ≡ Some d → Q d.cm × R d.ip d.dp
    × ((image : Files) → disk.leaves s image → (image.cm ≡ d.cm) × R image.ip image.dp)

-- Some commands that write to the header. At each moment P holds of what a crash leaves, and in the end of what reads;
-- where they are done the disk is ready to go on.
pub record IsPiece {D T E : Type 0} (disk : Ghosts D) (P : Files → Type 0) (R : List ℕ → List ℕ → Type 0)
    (After : List ℕ → Type 0) (most : ℕ) (end : Result T E) (old new : D) : Type 0 where
  pub ready : OnOk end (IsReady disk R After new)
  pub told : (d : Files) → disk.held old ≡ Some d
      → (e : Files) × (disk.held new ≡ Some e) × (e.ip ≡ d.ip) × (e.dp ≡ d.dp) × P e
  pub untold : disk.held old ≡ None → disk.held new ≡ None
  pub crash : (d : Files) → disk.held old ≡ Some d → CrashesIn disk (Within P) old new
  pub count : AtMost most (disk.commands old) (disk.commands new)
  pub cause : HasCause (disk.faults old) (disk.faults new) end

-- nothing is asked of the partitions' files
abbrev pub Any : List ℕ → List ℕ → Type 0
Any ip dp = Unit {0}

-- they are empty
abbrev pub AreEmpty : List ℕ → List ℕ → Type 0
AreEmpty ip dp = (ip ≡ []) × (dp ≡ [])
