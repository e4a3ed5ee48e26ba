-- What a command of a tape leaves of it.
use Rattle.std.specs.Prelude.{ℕ, ◌+◌, ◌-◌, ◌^◌, ◌≤◌, ◌≡◌, min, Option, Some, None, Result, OnOk, OnErr, IfOk, IsErr}
use Rattle.std.specs.Prelude.{List}
use Rattle.tape_types.specs.declared.cartridges.Cartridge.{Cartridge}
use Rattle.tape_types.specs.declared.cartridges.Place.{Place}
use Rattle.tape_types.specs.declared.cartridges.Item.{Item}
use Rattle.tape_types.specs.declared.cartridges.Note.{Note}
use Rattle.tape_types.specs.declared.cartridges.Part.{Part}
use Rattle.tape_types.specs.Cartridges.{capacity, next}
use Rattle.tape_drive.specs.declared.drive.Got.{Got}
use Rattle.tape_drive.specs.declared.drive.Got.TheVariants as got
use Rattle.tape_drive.specs.Commands.{AfterNote, AfterWrite, Commanded, FillsBuffer, IsRead, after_read, item_at}
use Rattle.tape_drive.specs.Crashes as crash
use Rattle.tape_drive.specs.Crashes.{IsSettled, NothingNew, WithinFlush, WithinNote, WithinWrite}
use Rattle.byte_disk.specs.declared.disk.ByteDisk.{Ghosts}
use Rattle.image_slots.specs.State as slot
use Rattle.image_tape.specs.Steps.{IsSteady}
use Rattle.image_tape.specs.Tape.{AreEarlier, CrashesOn, LeavesOf, View, held_of, with_moment}

-- the head has to be located again, a fault more is counted, and these are the moments that are past
abbrev pub failed : {D : Type 0} → List (ℕ × slot.View D) → View D → View D
failed past v = record {
  slots = v.slots;
  room = v.room;
  base = v.base;
  reads = v.reads;
  doubt = v.doubt;
  head = None;
  faults = min (v.faults + 1) (2 ^ 64 - 1);
  opened = v.opened;
  past = past;
}

-- the head stands there, and these are the moments that are past
abbrev pub with_head : {D : Type 0} → Option Place → List (ℕ × slot.View D) → View D → View D
with_head head past v = record {
  slots = v.slots;
  room = v.room;
  base = v.base;
  reads = v.reads;
  doubt = v.doubt;
  head = head;
  faults = v.faults;
  opened = v.opened;
  past = past;
}

-- the end of a command that succeeded
pub record IsEnded {D : Type 0} (disk : Ghosts D) (head : Option Place) (past : List (ℕ × slot.View D))
    (old new : View D) : Type 0 where
  pub after : new ≡ with_head head past old
  pub count : disk.commands old.slots.disk ≤ 2 ^ 64 - 1
  pub faults : old.faults ≤ 2 ^ 64 - 1

-- the end of one that failed
pub record IsFailed {D : Type 0} (disk : Ghosts D) (past : List (ℕ × slot.View D)) (old new : View D) : Type 0 where
  pub after : new ≡ failed past old
  pub count : disk.commands old.slots.disk ≤ 2 ^ 64 - 1
  pub faults : old.faults ≤ 2 ^ 64 - 1

-- what is true of each command
pub record Ends {D T E : Type 0} (disk : Ghosts D) (end : Result T E) (old new : View D) : Type 0 where
  pub opened : new.opened ≡ old.opened
  pub past : new.past ≡ with_moment old
  pub early : AreEarlier disk old.past (disk.commands old.slots.disk)
  pub reached : old.opened ≤ disk.commands old.slots.disk
  pub lost : OnErr end (new.head ≡ None)
  pub command : Commanded 16 old.room.limits new.room.limits
      (disk.commands old.slots.disk) (disk.commands new.slots.disk) old.faults new.faults end

-- a command that only reads
pub record IsLooked {D T E : Type 0} (disk : Ghosts D) (end : Result T E) (old new : View D) : Type 0 where
  pub ends : Ends disk end old new
  pub held : held_of disk new ≡ held_of disk old
  pub crash : CrashesOn disk old.room.limits NothingNew old new

-- a command that writes an item at a place
pub record Wrote {D T E : Type 0} (disk : Ghosts D) (at : Place) (x : Item) (end : Result T E)
    (old new : View D) : Type 0 where
  pub ends : Ends disk end old new
  pub head : OnOk end (new.head ≡ Some (next at))
  pub untold : held_of disk old ≡ None → held_of disk new ≡ None
  pub told : (c : Cartridge) → held_of disk old ≡ Some c → (e : Cartridge) × (held_of disk new ≡ Some e)
      × AfterWrite end at.part at.pos x c e
  pub at_end : (c : Cartridge) → held_of disk old ≡ Some c → 2 ^ 64 - 1 ≤ c.vcr → IsErr end
      × (held_of disk new ≡ Some c)
  pub crash : (c : Cartridge) → held_of disk old ≡ Some c
      → CrashesOn disk old.room.limits (WithinWrite at.part at.pos x c) old new

-- a flush
pub record Flushed {D T E : Type 0} (disk : Ghosts D) (end : Result T E) (old new : View D) : Type 0 where
  pub ends : Ends disk end old new
  pub head : OnOk end (new.head ≡ old.head)
  pub held : held_of disk new ≡ held_of disk old
  pub sure : OnOk end (crash.IsSure (held_of disk new) (LeavesOf disk new))
  pub crash : (c : Cartridge) → held_of disk old ≡ Some c
      → CrashesOn disk old.room.limits (WithinFlush c) old new

-- a write of an attribute
pub record Noted {D T E : Type 0} (disk : Ghosts D) (part : Part) (note : Note) (end : Result T E)
    (old new : View D) : Type 0 where
  pub ends : Ends disk end old new
  pub head : OnOk end (new.head ≡ old.head)
  pub settled : OnOk end (IsSteady new)
  pub untold : held_of disk old ≡ None → held_of disk new ≡ None
  pub told : (c : Cartridge) → held_of disk old ≡ Some c → (e : Cartridge) × (held_of disk new ≡ Some e)
      × AfterNote end part note c e
  pub crash : (c : Cartridge) → held_of disk old ≡ Some c
      → CrashesOn disk old.room.limits (WithinNote part note) old new

-- a read at a place
pub record HasRead {D E : Type 0} (disk : Ghosts D) (at : Place) (end : Result Got E) (buf : List ℕ)
    (old new : View D) : Type 0 where
  pub looked : IsLooked disk end old new
  pub head : IfOk end (λ found. new.head ≡ Some (after_read found at))
  pub item : IfOk end (λ found. (c : Cartridge) → held_of disk old ≡ Some c → IsRead (item_at at c) found buf)
  pub bytes : IfOk end (λ found. FillsBuffer found buf)
  pub at_capacity : IfOk end (λ found. capacity at.part old.room.limits ≤ at.pos → found ≡ got.End)

-- every crash leaves the reference and the attributes as they read
abbrev pub IsSure : {D : Type 0} → Ghosts D → View D → Type 0
IsSure disk v = IsSettled (held_of disk v) (LeavesOf disk v)
