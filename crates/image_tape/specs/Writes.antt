-- What the steps of a write leave of the cartridge.
use Rattle.std.specs.Prelude.{ℕ, ◌+◌, ◌-◌, ◌^◌, ◌<◌, ◌≤◌, ◌≡◌, ◌⊎◌, false, List, [], ◌∷◌, ◌++◌, take, length, get_or}
use Rattle.std.specs.Prelude.{Some, None, Result, Ok, Err, OnOk, IsErr}
use Rattle.tape_types.specs.Cartridges.{items_of}
use Rattle.tape_types.specs.declared.cartridges.Cartridge.{Cartridge}
use Rattle.tape_types.specs.declared.cartridges.Item.{Item}
use Rattle.tape_types.specs.declared.cartridges.Item.TheVariants as item
use Rattle.tape_types.specs.declared.cartridges.Part.{Part}
use Rattle.tape_types.specs.declared.cartridges.Place.{Place}
use Rattle.tape_drive.specs.Commands.{AfterWrite, KeepsRest, VcrRose}
use Rattle.tape_drive.specs.Crashes.{NothingNew, WithinWrite}
use Rattle.byte_disk.specs.Files.{Files}
use Rattle.byte_disk.specs.declared.disk.ByteDisk.{Ghosts}
use Rattle.image_slots.specs.Pieces.{AtMost}
use Rattle.image_format.specs.declared.values.SlotValue.{SlotValue}
use Rattle.image_format.specs.Offsets.{offsets_of}
use Rattle.image_tape.specs.declared.doubt.Doubt.TheVariants.{Settled}
use Rattle.image_tape.specs.Halves.{ended, half_of, with_half}
use Rattle.image_format.specs.Images.{tail_of}
use Rattle.image_format.specs.Values.{flag}
use Rattle.image_tape.specs.Steps.{Stays}
use Rattle.image_tape.specs.Tape.{CrashesOn, View, held_of}

-- the reference went up; the partition stays, or was cut at a position
pub record HasRisen (part : Part) (pos : ℕ) (old new : Cartridge) : Type 0 where
  pub items : (items_of part new ≡ items_of part old) ⊎ (items_of part new ≡ take pos (items_of part old))
  pub vcr : VcrRose old new
  pub rest : KeepsRest part old new

-- how the cartridge reads once the reference was to go up
abbrev pub AfterRise : {T E : Type 0} → Result T E → Part → ℕ → Cartridge → Cartridge → Type 0
AfterRise (Ok _) part pos old new = HasRisen part pos old new
AfterRise (Err _) part pos old new = (new ≡ old) ⊎ HasRisen part pos old new

-- The reference went up, durably, or was to. Where a crash could show what stands at the position or behind it, the
-- partition is cut with it.
pub record Rises {D T E : Type 0} (disk : Ghosts D) (at : Place) (end : Result T E) (old new : View D) : Type 0 where
  pub stays : Stays old new
  pub count : AtMost 6 (disk.commands old.slots.disk) (disk.commands new.slots.disk)
  pub settled : OnOk end (new.doubt ≡ Settled)
  pub cut : OnOk end ((d : Files) → disk.held new.slots.disk ≡ Some d → (half_of at.part new.base).count ≤ at.pos)
  pub untold : held_of disk old ≡ None → held_of disk new ≡ None
  pub told : (c : Cartridge) → held_of disk old ≡ Some c → (e : Cartridge) × (held_of disk new ≡ Some e)
      × AfterRise end at.part at.pos c e
  pub at_end : (c : Cartridge) → held_of disk old ≡ Some c → 2 ^ 64 - 1 ≤ c.vcr → IsErr end
      × (held_of disk new ≡ Some c)
  pub crash : (x : Item) (c : Cartridge) → held_of disk old ≡ Some c
      → CrashesOn disk old.room.limits (WithinWrite at.part at.pos x c) old new

-- other items stand in a partition, and all else is as it was
pub record HasItems (part : Part) (items : List Item) (old new : Cartridge) : Type 0 where
  pub are : items_of part new ≡ items
  pub vcr : new.vcr ≡ old.vcr
  pub rest : KeepsRest part old new

-- the partition was cut at a position
pub record Cuts {D : Type 0} (disk : Ghosts D) (at : Place) (old new : View D) : Type 0 where
  pub stays : Stays old new
  pub disk_is : new.slots ≡ old.slots
  pub base : new.base ≡ old.base
  pub vcr : new.reads.vcr ≡ old.reads.vcr
  pub doubt : new.doubt ≡ old.doubt
  pub untold : held_of disk old ≡ None → held_of disk new ≡ None
  pub told : (c : Cartridge) → held_of disk old ≡ Some c
      → (e : Cartridge) × (held_of disk new ≡ Some e) × HasItems at.part (take at.pos (items_of at.part c)) c e

-- an item stands behind the others; where that failed they may end with a Torn
abbrev pub Appended : {T E : Type 0} → Result T E → Item → List Item → List Item → Type 0
Appended (Ok _) x old new = new ≡ old ++ x ∷ []
Appended (Err _) x old new = (new ≡ old) ⊎ (new ≡ old ++ item.Torn ∷ [])

-- An item was appended to a partition, or was to be. A crash shows nothing of it.
pub record Appends {D T E : Type 0} (disk : Ghosts D) (most : ℕ) (part : Part) (x : Item) (end : Result T E)
    (old new : View D) : Type 0 where
  pub stays : Stays old new
  pub count : AtMost most (disk.commands old.slots.disk) (disk.commands new.slots.disk)
  pub settled : new.doubt ≡ Settled
  pub untold : held_of disk old ≡ None → held_of disk new ≡ None
  pub told : (c : Cartridge) → held_of disk old ≡ Some c → (e : Cartridge) × (held_of disk new ≡ Some e)
      × (items : List Item) × Appended end x (items_of part c) items × HasItems part items c e
  pub crash : (c : Cartridge) → held_of disk old ≡ Some c
      → CrashesOn disk old.room.limits NothingNew old new

-- these bytes stand behind so many others
pub record StandBehind (at : ℕ) (bytes file : List ℕ) : Type 0 where
  pub front : List ℕ
  pub place : length front ≡ at
  pub within : at + length bytes ≤ length file
  pub is : take (at + length bytes) file ≡ front ++ bytes

-- bytes were written to a file, from a place on
pub record FollowsIn (at : ℕ) (bytes old new : List ℕ) : Type 0 where
  pub within : at + length bytes ≤ length new
  pub is : take (at + length bytes) new ≡ take at old ++ bytes

-- So many commands of the disk at most, which no reading sees and no crash shows; the cartridge reads as before.
pub record Hides {D : Type 0} (disk : Ghosts D) (most : ℕ) (old new : View D) : Type 0 where
  pub stays : Stays old new
  pub held : held_of disk new ≡ held_of disk old
  pub count : AtMost most (disk.commands old.slots.disk) (disk.commands new.slots.disk)
  pub crash : (c : Cartridge) → held_of disk old ≡ Some c
      → CrashesOn disk old.room.limits NothingNew old new

-- what a put makes of the items of a partition
abbrev pub put_items : {T E : Type 0} → Result T E → Item → List Item → List Item
put_items (Ok _) x items = items ++ x ∷ []
put_items (Err _) x items = items ++ item.Torn ∷ []

-- An item was put behind the records of a partition, or was to be; then the partition ends with a Torn.
pub record Puts {D T E : Type 0} (disk : Ghosts D) (part : Part) (x : Item) (end : Result T E)
    (old new : View D) : Type 0 where
  pub stays : Stays old new
  pub count : AtMost 2 (disk.commands old.slots.disk) (disk.commands new.slots.disk)
  pub settled : new.doubt ≡ Settled
  pub untold : held_of disk old ≡ None → held_of disk new ≡ None
  pub told : (c : Cartridge) → held_of disk old ≡ Some c → (items : List Item) × (e : Cartridge)
      × (items_of part c ≡ items ++ tail_of (half_of part old.reads).torn) × (held_of disk new ≡ Some e)
      × HasItems part (put_items end x items) c e
  pub crash : (c : Cartridge) → held_of disk old ≡ Some c
      → CrashesOn disk old.room.limits NothingNew old new
  pub whole : OnOk end ((half_of part new.reads).torn ≡ false)
  pub one_more : OnOk end ((half_of part new.reads).count ≡ (half_of part old.reads).count + 1)

-- a Torn behind the records of a partition has become a record, or was to
pub record Fills {D T E : Type 0} (disk : Ghosts D) (part : Part) (end : Result T E) (old new : View D) : Type 0 where
  pub hides : Hides disk 2 old new
  pub settled : new.doubt ≡ Settled
  pub whole : OnOk end ((half_of part new.reads).torn ≡ false)
  pub count : OnOk end
      ((half_of part new.reads).count ≡ (half_of part old.reads).count + flag (half_of part old.reads).torn)

-- the record of a position begins there, or would
pub record IsPlace {D : Type 0} (at : Place) (end : ℕ) (v : View D) : Type 0 where
  pub most : at.pos ≤ (half_of at.part v.reads).count
  pub is : ((at.pos < (half_of at.part v.reads).count) × (end ≡ get_or (offsets_of at.part v.room) at.pos 0))
      ⊎ ((at.pos ≡ (half_of at.part v.reads).count) × (end ≡ (half_of at.part v.reads).end))

-- the header counts the record of a position, which begins there
pub record IsCounted {D : Type 0} (at : Place) (end : ℕ) (v : View D) : Type 0 where
  pub in_base : at.pos < (half_of at.part v.base).count
  pub in_reads : at.pos < (half_of at.part v.reads).count
  pub place : end ≡ get_or (offsets_of at.part v.room) at.pos 0

abbrev pub IsUncounted : {D : Type 0} → Place → View D → Type 0
IsUncounted at v = ((half_of at.part v.base).count ≤ at.pos) ⊎ ((half_of at.part v.reads).count ≤ at.pos)

-- the partition ends before a position
abbrev pub cut_value : Part → (pos end : ℕ) → SlotValue → SlotValue
cut_value part pos end s = with_half part (ended pos end false (half_of part s)) s

-- a partition was cut at a place, and an item appended, or was to be
pub record Replaces {D T E : Type 0} (disk : Ghosts D) (at : Place) (x : Item) (end : Result T E)
    (old new : View D) : Type 0 where
  pub stays : Stays old new
  pub count : AtMost 4 (disk.commands old.slots.disk) (disk.commands new.slots.disk)
  pub untold : held_of disk old ≡ None → held_of disk new ≡ None
  pub told : (c : Cartridge) → held_of disk old ≡ Some c → (e : Cartridge) × (held_of disk new ≡ Some e)
      × (items : List Item) × Appended end x (take at.pos (items_of at.part c)) items × HasItems at.part items c e
  pub crash : (c : Cartridge) → held_of disk old ≡ Some c
      → CrashesOn disk old.room.limits NothingNew old new

-- an item was written at a place, or was to be
pub record Writes {D T E : Type 0} (disk : Ghosts D) (most : ℕ) (at : Place) (x : Item) (end : Result T E)
    (old new : View D) : Type 0 where
  pub stays : Stays old new
  pub count : AtMost most (disk.commands old.slots.disk) (disk.commands new.slots.disk)
  pub untold : held_of disk old ≡ None → held_of disk new ≡ None
  pub told : (c : Cartridge) → held_of disk old ≡ Some c → (e : Cartridge) × (held_of disk new ≡ Some e)
      × AfterWrite end at.part at.pos x c e
  pub at_end : (c : Cartridge) → held_of disk old ≡ Some c → 2 ^ 64 - 1 ≤ c.vcr → IsErr end
      × (held_of disk new ≡ Some c)
  pub crash : (c : Cartridge) → held_of disk old ≡ Some c
      → CrashesOn disk old.room.limits (WithinWrite at.part at.pos x c) old new
