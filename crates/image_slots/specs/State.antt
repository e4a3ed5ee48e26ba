-- What is known of a value, and of what a crash may leave of it.
use Rattle.std.specs.Prelude.{ℕ, ◌+◌, ◌-◌, ◌^◌, ◌≤◌, ◌<◌, ◌≡◌, Bool, true, false, List, ◌++◌, Some, None, Result, Ok, Err, IfErr}
use Rattle.std.specs.Int.{w64, to_be_bytes}
use Rattle.crash_steps.specs.Crashes.{NothingNew}
use Rattle.byte_disk.specs.Commands.{IsOneMore}
use Rattle.byte_disk.specs.Files.{Files}
use Rattle.byte_disk.specs.declared.disk.ByteDisk.{Ghosts}
use Rattle.byte_disk.specs.declared.disk.File.{File}
use Rattle.byte_disk.specs.declared.disk.File.TheVariants as files
use Rattle.tape_types.specs.Counts.{HasCause, Rose}
use Rattle.tape_types.specs.declared.cartridges.Part.{Part}
use Rattle.tape_types.specs.declared.cartridges.Part.TheVariants.{Ip, Dp}
use Rattle.image_slots.specs.declared.errors.OpenErr.{OpenErr}
use Rattle.image_slots.specs.declared.errors.OpenErr.TheVariants.{Header}
use Rattle.image_slots.specs.declared.errors.SetErr.{SetErr}
use Rattle.image_slots.specs.declared.errors.SetErr.TheVariants.{Disk, Serial}
use Rattle.image_slots.specs.declared.known.Known.{Known}
use Rattle.image_slots.specs.declared.known.Known.TheVariants.{Steady, Open}
use Rattle.image_slots.specs.declared.sides.Found.{Found}
use Rattle.image_slots.specs.declared.sides.Side.{Side}
use Rattle.image_slots.specs.Slots.{HasValue, serial_of}
use Rattle.image_slots.specs.Sides.{IsRead, other_of}
use Rattle.image_slots.specs.Calls.{HasFaults}
use Rattle.image_slots.specs.Pieces.{AtMost, CrashesIn, HasOne, WithinSet}

-- The disk, the slot that counts with its value, whether the slot beside it is open, what is known of these, and the
-- number of the disk's commands since which every crash leaves a value.
pub record View (D : Type 0) : Type 0 where
  pub disk : D
  pub side : Side
  pub value : List ℕ
  pub beside : Bool
  pub known : Known
  pub opened : ℕ

-- What is known of a disk that reads as `d`. Steady: it has the value, and every crash leaves the header so. After a set
-- that failed: what reads, and what each crash leaves, has the value from before or the one that was to be.
abbrev pub Knows : Known → Side → Bool → List ℕ → (Files → Type 0) → Files → Type 0
Knows Steady side beside value leaves d =
    IsRead side beside value d.cm × ((image : Files) → leaves image → image.cm ≡ d.cm)
Knows (Open after) side beside value leaves d =
    HasOne value after d × ((image : Files) → leaves image → HasOne value after image)

-- where the disk tells what it holds, each disk that may have been left since then has a value
abbrev pub AlwaysHasValue : {D : Type 0} → Ghosts D → ℕ → D → Type 0
AlwaysHasValue disk since s = (d : Files) → disk.held s ≡ Some d → since < 2 ^ 64 - 1
    → (image : Files) → disk.left_since s since image → (v : List ℕ) × HasValue image.cm v

-- what is true of every value of the type
pub record IsKept {D : Type 0} (disk : Ghosts D) (s : View D) : Type 0 where
  pub reached : s.opened ≤ disk.commands s.disk
  pub always : AlwaysHasValue disk s.opened s.disk
  pub present : (d : Files) → disk.held s.disk ≡ Some d
      → Knows s.known s.side s.beside s.value (disk.leaves s.disk) d

-- Where the value is known, it is the one of the header that reads, and of each that a crash may leave.
abbrev pub KnownAreLeft : {D : Type 0} → Ghosts D → Type 0
KnownAreLeft {D} disk = (s : View D) → IsKept disk s → s.known ≡ Steady → (d : Files) → disk.held s.disk ≡ Some d
    → HasValue d.cm s.value × ((image : Files) → disk.leaves s.disk image → HasValue image.cm s.value)

abbrev pub is_steady : Known → Bool
is_steady Steady = true
is_steady (Open after) = false

-- what was found of a value
abbrev pub found_of : {D : Type 0} → View D → Found
found_of s = record { side = s.side; value = s.value; beside = s.beside }

-- the value that a set makes of another: the next serial number, and the rest
abbrev pub next_value : (value rest : List ℕ) → List ℕ
next_value value rest = to_be_bytes w64 (serial_of value + 1) ++ rest

abbrev pub file_of : Part → File
file_of Ip = files.Ip
file_of Dp = files.Dp

-- how a value is known after a set of these bytes behind its serial number
abbrev pub after_set : {D : Type 0} → Result (Unit {0}) SetErr → List ℕ → D → View D → View D
after_set (Ok _) rest b old = record {
  disk = b;
  side = other_of old.side;
  value = next_value old.value rest;
  beside = true;
  known = Steady;
  opened = old.opened;
}
after_set (Err Serial) rest b old = old
after_set (Err Disk) rest b old = record {
  disk = b;
  side = old.side;
  value = old.value;
  beside = old.beside;
  known = Open (next_value old.value rest);
  opened = old.opened;
}

-- why no value was set: no serial number is left, or the disk failed
abbrev pub SetFails : SetErr → (value : List ℕ) → (before now : ℕ) → Type 0
SetFails Serial value before now = serial_of value ≡ 2 ^ 64 - 1
SetFails Disk value before now = Rose before now

-- What a set leaves: the new value where it is done, else one of the two. At each moment of it a crash leaves one of
-- the two, beside the partitions' files as they could be left before.
pub record IsSet {D : Type 0} (disk : Ghosts D) (rest : List ℕ) (end : Result (Unit {0}) SetErr) (old new : View D) : Type 0 where
  pub after : new ≡ after_set end rest new.disk old
  pub told : (d : Files) → disk.held old.disk ≡ Some d → (e : Files) × (disk.held new.disk ≡ Some e)
      × (e.ip ≡ d.ip) × (e.dp ≡ d.dp) × HasOne old.value (next_value old.value rest) e
  pub untold : disk.held old.disk ≡ None → disk.held new.disk ≡ None
  pub crash : (d : Files) → disk.held old.disk ≡ Some d
      → CrashesIn disk (WithinSet old.value (next_value old.value rest)) old.disk new.disk
  pub count : AtMost 6 (disk.commands old.disk) (disk.commands new.disk)
  pub faults : disk.faults old.disk ≤ disk.faults new.disk
  pub failed : IfErr end (λ why. SetFails why old.value (disk.faults old.disk) (disk.faults new.disk))

-- all but the disk is as it was
pub record IsOver {D : Type 0} (old new : View D) : Type 0 where
  pub side : new.side ≡ old.side
  pub value : new.value ≡ old.value
  pub beside : new.beside ≡ old.beside
  pub known : new.known ≡ old.known
  pub opened : new.opened ≡ old.opened

-- what is known once the value was read anew
abbrev pub AfterRecovery : {D : Type 0} → Result (Unit {0}) OpenErr → (old new : View D) → Type 0
AfterRecovery (Ok _) old new = (new.known ≡ Steady) × (new.opened ≡ old.opened)
AfterRecovery (Err _) old new = IsOver old new

-- Commands that only read, none where the value was known. `Header` comes of no disk that tells what it holds.
pub record IsRecovered {D : Type 0} (disk : Ghosts D) (end : Result (Unit {0}) OpenErr) (old new : View D) : Type 0 where
  pub after : AfterRecovery end old new
  pub nothing : old.known ≡ Steady → new ≡ old
  pub held : disk.held new.disk ≡ disk.held old.disk
  pub crash : CrashesIn disk NothingNew old.disk new.disk
  pub count : AtMost 2 (disk.commands old.disk) (disk.commands new.disk)
  pub faults : HasFaults (disk.faults old.disk) (disk.faults new.disk) end
  pub header : IfErr end (λ why. why ≡ Header → disk.held old.disk ≡ None)

-- a command on a partition's file
pub record IsCommand {D T E : Type 0} (disk : Ghosts D) (step : Files → Files → Type 0) (end : Result T E)
    (old new : View D) : Type 0 where
  pub over : IsOver old new
  pub count : IsOneMore (disk.commands old.disk) (disk.commands new.disk)
  pub cause : HasCause (disk.faults old.disk) (disk.faults new.disk) end
  pub crash : CrashesIn disk step old.disk new.disk
