-- Why a command of a tape failed.
use Rattle.std.specs.Prelude.{◌-◌, ◌^◌, ◌≤◌, ◌≡◌, ◌⊎◌, None, Result, OnErr}
use Rattle.tape_types.specs.Counts.{Rose}
use Rattle.byte_disk.specs.declared.disk.ByteDisk.{Ghosts}
use Rattle.image_tape.specs.Tape.{View}

-- for no other reason than the disk
abbrev pub Never : {D : Type 0} → View D → Type 0
Never v = ⊥

-- the serial number of the header stands at its end
abbrev pub IsSpent : {D : Type 0} → View D → Type 0
IsSpent v = 2 ^ 64 - 1 ≤ v.base.serial

-- it does, or the reference
abbrev pub AreSpent : {D : Type 0} → View D → Type 0
AreSpent v = IsSpent v ⊎ (2 ^ 64 - 1 ≤ v.reads.vcr)

-- The disk's count of faults never falls. Where the tape failed it rose, or there was this other reason; of a disk that
-- tells no files it isn't said.
pub record IsBlamed {D T E : Type 0} (disk : Ghosts D) (Other : View D → Type 0) (end : Result T E)
    (old new : View D) : Type 0 where
  pub later : disk.faults old.slots.disk ≤ disk.faults new.slots.disk
  pub failed : OnErr end (Rose (disk.faults old.slots.disk) (disk.faults new.slots.disk) ⊎ Other new
      ⊎ (disk.held new.slots.disk ≡ None))
