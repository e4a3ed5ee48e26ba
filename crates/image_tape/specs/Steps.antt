-- What a step of a tape leaves of it.
use Rattle.std.specs.Prelude.{ℕ, ◌+◌, ◌^◌, ◌<◌, ◌≤◌, ◌≡◌, ◌⊎◌, List, length, Option, Some, None, Result, Ok, Err, OnOk}
use Rattle.tape_types.specs.declared.cartridges.Cartridge.{Cartridge}
use Rattle.crash_steps.specs.Crashes.{NothingNew}
use Rattle.tape_types.specs.Cartridges.{IsItem, capacity}
use Rattle.tape_types.specs.declared.cartridges.Item.{Item}
use Rattle.tape_types.specs.declared.cartridges.Place.{Place}
use Rattle.tape_drive.specs.Commands.{AfterNote, FillsBuffer, IsRead, item_at}
use Rattle.tape_drive.specs.Crashes.{IsSure, WithinFlush, WithinNote}
use Rattle.tape_types.specs.declared.cartridges.Note.{Note}
use Rattle.tape_types.specs.declared.cartridges.Part.{Part}
use Rattle.tape_drive.specs.declared.drive.Got.{Got}
use Rattle.tape_drive.specs.declared.drive.Got.TheVariants as got
use Rattle.byte_disk.specs.Files.{Files, bytes_at}
use Rattle.image_format.specs.Records.{record_bytes, width}
use Rattle.byte_disk.specs.declared.disk.ByteDisk.{Ghosts}
use Rattle.image_slots.specs.Pieces.{AtMost}
use Rattle.image_slots.specs.State.{IsOver}
use Rattle.image_format.specs.Images.{header, header_by, image_by}
use Rattle.image_format.specs.declared.values.SlotValue.{SlotValue}
use Rattle.image_tape.specs.declared.doubt.Doubt.TheVariants.{Settled}
use Rattle.image_tape.specs.Halves.{with_serial}
use Rattle.image_tape.specs.Tape.{CrashesOn, LeavesOf, Stands, View, cut_to, held_of, with_reference}

-- all but the disk and its value is as it was
pub record Keeps {D : Type 0} (old new : View D) : Type 0 where
  pub over : IsOver old.slots new.slots
  pub room : new.room ≡ old.room
  pub base : new.base ≡ old.base
  pub reads : new.reads ≡ old.reads
  pub doubt : new.doubt ≡ old.doubt
  pub head : new.head ≡ old.head
  pub faults : new.faults ≡ old.faults
  pub opened : new.opened ≡ old.opened

-- what no step changes
pub record Stays {D : Type 0} (old new : View D) : Type 0 where
  pub limits : new.room.limits ≡ old.room.limits
  pub faults : new.faults ≡ old.faults
  pub opened : new.opened ≡ old.opened

-- so many commands of the disk at most, which only read; the cartridge reads as before
pub record Looks {D : Type 0} (disk : Ghosts D) (most : ℕ) (old new : View D) : Type 0 where
  pub stays : Stays old new
  pub held : held_of disk new ≡ held_of disk old
  pub count : AtMost most (disk.commands old.slots.disk) (disk.commands new.slots.disk)
  pub crash : CrashesOn disk old.room.limits NothingNew old new

-- as before, or from one cartridge to another one
abbrev pub FromTo : (from to before image : Cartridge) → Type 0
FromTo from to before image = (image ≡ before) ⊎ ((before ≡ from) × (image ≡ to))

-- the cartridge reads as the one that was to be, or where that failed as that or as before
abbrev pub AfterCommit : {T E : Type 0} → Result T E → (from to : Cartridge) → Option Cartridge → Type 0
AfterCommit (Ok _) from to held = held ≡ Some to
AfterCommit (Err _) from to held = (held ≡ Some from) ⊎ (held ≡ Some to)

-- A value was set, or was to be set; with it so much reads.
pub record IsCommit {D T E : Type 0} (disk : Ghosts D) (value reads : SlotValue) (end : Result T E)
    (old new : View D) : Type 0 where
  pub stays : Stays old new
  pub count : AtMost 6 (disk.commands old.slots.disk) (disk.commands new.slots.disk)
  pub untold : disk.held old.slots.disk ≡ None → disk.held new.slots.disk ≡ None
  pub told : (d : Files) (from to : Cartridge) → disk.held old.slots.disk ≡ Some d
      → image_by d (Some old.reads) ≡ Ok from
      → image_by d (Some reads) ≡ Ok to → AfterCommit end from to (held_of disk new)
  pub crash : (d : Files) (from to : Cartridge) → disk.held old.slots.disk ≡ Some d
      → image_by d (Some old.base) ≡ Ok from
      → image_by d (Some value) ≡ Ok to
      → CrashesOn disk old.room.limits (FromTo (with_reference old.reads.vcr from) to) old new

-- a header of this value would be right, and with it so much would read
abbrev pub MayStand : {D : Type 0} → Ghosts D → (value reads : SlotValue) → View D → Type 0
MayStand disk value reads v = (d : Files) → disk.held v.slots.disk ≡ Some d
    → Stands v.room.limits value reads (cut_to reads v.room) (disk.leaves v.slots.disk) d

-- the value was set, with the next serial number
pub record IsTaken {D : Type 0} (value reads : SlotValue) (old new : View D) : Type 0 where
  pub base : new.base ≡ with_serial (old.base.serial + 1) value
  pub reads_are : new.reads ≡ reads
  pub room : new.room ≡ cut_to reads old.room
  pub doubt : new.doubt ≡ Settled

-- the header is known, and has the reference that reads
pub record IsSteady {D : Type 0} (v : View D) : Type 0 where
  pub doubt : v.doubt ≡ Settled
  pub vcr : v.base.vcr ≡ v.reads.vcr

-- the header says this value, and so does that of each image that a crash may leave
pub record IsFound {D : Type 0} (disk : Ghosts D) (v : View D) (s : SlotValue) : Type 0 where
  pub value : header_by v.room.limits (Some v.slots.value) ≡ Some s
  pub reads : (d : Files) → disk.held v.slots.disk ≡ Some d → header v.room.limits d.cm ≡ Some s
  pub left : (d image : Files) → disk.held v.slots.disk ≡ Some d → disk.leaves v.slots.disk image
      → header v.room.limits image.cm ≡ Some s

-- the record of an item begins there
pub record HasRecord (from : ℕ) (x : Item) (file : List ℕ) : Type 0 where
  pub sound : IsItem x
  pub within : from + width x ≤ length file
  pub range : from + width x < 2 ^ 62
  pub bytes : bytes_at from (width x) file ≡ record_bytes x

-- what is answered at a place
pub record IsReading {D : Type 0} (disk : Ghosts D) (at : Place) (found : Got) (buf : List ℕ)
    (v : View D) : Type 0 where
  pub item : v.doubt ≡ Settled → (c : Cartridge) → held_of disk v ≡ Some c → IsRead (item_at at c) found buf
  pub bytes : FillsBuffer found buf
  pub at_capacity : capacity at.part v.room.limits ≤ at.pos → found ≡ got.End

-- nothing of the tape changed but its disk
pub record IsAlike {D : Type 0} (old new : View D) : Type 0 where
  pub room : new.room ≡ old.room
  pub base : new.base ≡ old.base
  pub reads : new.reads ≡ old.reads
  pub doubt : new.doubt ≡ old.doubt

-- every crash leaves the partitions' files as they read
abbrev pub AreStored : {D : Type 0} → Ghosts D → View D → Type 0
AreStored disk v = (d image : Files) → disk.held v.slots.disk ≡ Some d → disk.leaves v.slots.disk image
    → (image.ip ≡ d.ip) × (image.dp ≡ d.dp)

-- all that reads was made durable, or was to be
pub record IsStored {D T E : Type 0} (disk : Ghosts D) (most : ℕ) (end : Result T E) (old new : View D) : Type 0 where
  pub stays : Stays old new
  pub count : AtMost most (disk.commands old.slots.disk) (disk.commands new.slots.disk)
  pub held : held_of disk new ≡ held_of disk old
  pub sure : OnOk end (IsSure (held_of disk new) (LeavesOf disk new))
  pub crash : (c : Cartridge) → held_of disk old ≡ Some c
      → CrashesOn disk old.room.limits (WithinFlush c) old new

-- an attribute was set, or was to be set
pub record IsNoteSet {D T E : Type 0} (disk : Ghosts D) (part : Part) (note : Note) (end : Result T E)
    (old new : View D) : Type 0 where
  pub stays : Stays old new
  pub count : AtMost 6 (disk.commands old.slots.disk) (disk.commands new.slots.disk)
  pub settled : OnOk end (IsSteady new)
  pub untold : held_of disk old ≡ None → held_of disk new ≡ None
  pub told : (c : Cartridge) → held_of disk old ≡ Some c → (e : Cartridge) × (held_of disk new ≡ Some e)
      × AfterNote end part note c e
  pub crash : (c : Cartridge) → held_of disk old ≡ Some c
      → CrashesOn disk old.room.limits (WithinNote part note) old new
