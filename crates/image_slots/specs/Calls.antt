-- What the calls leave of a disk, and what they answer.
use Rattle.std.specs.Prelude.{ℕ, ◌≤◌, ◌≡◌, ◌≢◌, ◌⊎◌, Bool, true, MatchBool, List, ◌∷◌, ◌++◌, replicate, length, Some, None}
use Rattle.std.specs.Prelude.{Result, Ok, Err, IfOk, IfErr, OnOk}
use Rattle.std.specs.Int.{w64, to_be_bytes}
use Rattle.tape_types.specs.Counts.{HasCause, Rose}
use Rattle.crash_steps.specs.Crashes.{NothingNew}
use Rattle.byte_disk.specs.Files.{Files, bytes_of}
use Rattle.byte_disk.specs.declared.disk.File.{File}
use Rattle.byte_disk.specs.declared.disk.ByteDisk.{Ghosts}
use Rattle.image_slots.specs.declared.errors.OpenErr.{OpenErr}
use Rattle.image_slots.specs.declared.errors.OpenErr.TheVariants.{Header, Disk}
use Rattle.image_slots.specs.declared.sides.Found.{Found}
use Rattle.image_slots.specs.declared.sides.Side.{Side}
use Rattle.image_slots.specs.Slots.{HasValue, IsBlank, Stores, first_value}
use Rattle.image_slots.specs.Sides.{CountsIn, IsRead, gate_in, other_of, value_at}
use Rattle.image_slots.specs.Pieces.{AreEmpty, AtMost, CrashesIn, IsHeaderSure}

-- the slot beside the one that counts is closed
abbrev pub IsClosedBeside : Side → (old : List ℕ) → List ℕ → Type 0
IsClosedBeside side old cm = CountsIn side cm old × (gate_in (other_of side) cm ≢ 1)

-- it is closed, and this value lies behind its gate
abbrev pub IsPrepared : Side → (old new : List ℕ) → List ℕ → Type 0
IsPrepared side old new cm = CountsIn side cm old × (gate_in (other_of side) cm ≢ 1) × (value_at (other_of side) cm ≡ new)

-- the count of faults rose where the disk is said to have failed
abbrev pub Blames : OpenErr → (before now : ℕ) → Type 0
Blames Header before now = Unit {0}
Blames Disk before now = Rose before now

pub record HasFaults {T : Type 0} (before now : ℕ) (end : Result T OpenErr) : Type 0 where
  pub later : before ≤ now
  pub failed : IfErr end (λ why. Blames why before now)

-- what is found in a header that reads so
abbrev pub Finds : Result Found OpenErr → List ℕ → Type 0
Finds (Ok f) cm = IsRead f.side f.beside f.value cm
Finds (Err Header) cm = (v : List ℕ) → ¬ (HasValue cm v)
Finds (Err Disk) cm = Unit {0}

-- commands that only read, and what they find
pub record IsLook {D : Type 0} (disk : Ghosts D) (most : ℕ) (end : Result Found OpenErr) (old new : D) : Type 0 where
  pub held : disk.held new ≡ disk.held old
  pub finds : (d : Files) → disk.held old ≡ Some d → Finds end d.cm
  pub crash : CrashesIn disk NothingNew old new
  pub count : AtMost most (disk.commands old) (disk.commands new)
  pub faults : HasFaults (disk.faults old) (disk.faults new) end

-- a file was made durable as it reads, and measured
pub record IsMeasured {D E : Type 0} (disk : Ghosts D) (file : File) (end : Result ℕ E) (old new : D) : Type 0 where
  pub held : disk.held new ≡ disk.held old
  pub value : IfOk end (λ n. (d : Files) → disk.held old ≡ Some d → n ≡ length (bytes_of file d))
  pub sure : OnOk end ((d image : Files) → disk.held new ≡ Some d → disk.leaves new image → bytes_of file image ≡ bytes_of file d)
  pub crash : CrashesIn disk NothingNew old new
  pub count : AtMost 2 (disk.commands old) (disk.commands new)
  pub cause : HasCause (disk.faults old) (disk.faults new) end

-- both partitions' files were looked at; where they are found empty, a crash leaves them so
pub record AreMeasured {D E : Type 0} (disk : Ghosts D) (end : Result Bool E) (old new : D) : Type 0 where
  pub held : disk.held new ≡ disk.held old
  pub value : IfOk end (λ yes. (d : Files) → disk.held old ≡ Some d
      → MatchBool yes (AreEmpty d.ip d.dp) (¬ (AreEmpty d.ip d.dp)))
  pub sure : IfOk end (λ yes. yes ≡ true → (d image : Files) → disk.held new ≡ Some d → disk.leaves new image
      → AreEmpty image.ip image.dp)
  pub crash : CrashesIn disk NothingNew old new
  pub count : AtMost 4 (disk.commands old) (disk.commands new)
  pub cause : HasCause (disk.faults old) (disk.faults new) end

-- the header that is made on a blank disk: the first slot is open, and holds the first value
abbrev pub first_header : List ℕ
first_header = 1 ∷ to_be_bytes w64 1 ++ replicate 503 0

-- how a disk that read as `d` reads once its value was found
pub record IsOpened (f : Found) (d e : Files) : Type 0 where
  pub stores : Stores d f.value
  pub found : IsRead f.side f.beside f.value e.cm
  pub ip : e.ip ≡ d.ip
  pub dp : e.dp ≡ d.dp
  pub kept : ¬ (IsBlank d) → e.cm ≡ d.cm
  pub made : IsBlank d → e.cm ≡ first_header

-- How a disk that read as `d` reads once its value was looked for. Where the disk failed nothing has changed, or the
-- first value was being made on a blank disk, which stores it then: a making that is cut off destroys nothing.
abbrev pub Opens : Result Found OpenErr → Files → Files → Type 0
Opens (Ok f) d e = IsOpened f d e
Opens (Err Header) d e = (e ≡ d) × ((v : List ℕ) → ¬ (Stores d v))
Opens (Err Disk) d e = (e ≡ d) ⊎ (IsBlank d × (e.ip ≡ d.ip) × (e.dp ≡ d.dp) × Stores e first_value)

-- What a crash may leave while a value is looked for: nothing new, but from a blank disk one that stores the first value.
abbrev pub WithinOpen : Files → Files → Type 0
WithinOpen before image = (image ≡ before)
    ⊎ (IsBlank before × (image.ip ≡ before.ip) × (image.dp ≡ before.dp) × Stores image first_value)

pub record IsOpening {D : Type 0} (disk : Ghosts D) (most : ℕ) (end : Result Found OpenErr) (old new : D) : Type 0 where
  pub told : (d : Files) → disk.held old ≡ Some d → (e : Files) × (disk.held new ≡ Some e) × Opens end d e
  pub untold : disk.held old ≡ None → disk.held new ≡ None
  pub sure : OnOk end (IsHeaderSure disk new)
  pub crash : (d : Files) → disk.held old ≡ Some d → CrashesIn disk WithinOpen old new
  pub count : AtMost most (disk.commands old) (disk.commands new)
  pub faults : HasFaults (disk.faults old) (disk.faults new) end
