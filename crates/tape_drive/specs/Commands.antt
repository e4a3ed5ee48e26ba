-- What each command of a drive leaves of the cartridge, of the head and of the counts.
use Rattle.std.specs.Prelude.{ℕ, ◌+◌, ◌-◌, ◌^◌, ◌≤◌, ◌<◌, ◌≡◌, ◌⊎◌, min, List, [], ◌∷◌, ◌++◌, take, length}
use Rattle.std.specs.Prelude.{slice_get, Option, Some, None, Result, Ok, Err}
use Rattle.tape_types.specs.declared.cartridges.Part.{Part}
use Rattle.tape_types.specs.declared.cartridges.Place.{Place}
use Rattle.tape_types.specs.declared.cartridges.Item.{Item}
use Rattle.tape_types.specs.declared.cartridges.Item.TheVariants as item
use Rattle.tape_types.specs.declared.cartridges.Note.{Note}
use Rattle.tape_types.specs.declared.cartridges.Limits.{Limits}
use Rattle.tape_types.specs.declared.cartridges.Cartridge.{Cartridge}
use Rattle.tape_types.specs.Cartridges.{items_of, note_of, other, capacity, next}
use Rattle.tape_types.specs.Counts.{HasCause, Rose}
use Rattle.tape_drive.specs.declared.drive.Got.{Got}
use Rattle.tape_drive.specs.declared.drive.Got.TheVariants as got

-- the head is located where one item more has room
abbrev pub HasRoom : Option Place → Limits → Type 0
HasRoom head limits = (at : Place) × (head ≡ Some at) × (at.pos < capacity at.part limits)

-- The number of commands goes up by one to `most`. It stands still at the end of a u64.
pub record Counted (most before now : ℕ) : Type 0 where
  pub later : before ≤ now
  pub at_least : Rose before now
  pub at_most : now ≤ min (before + most) (2 ^ 64 - 1)

-- What is true of each command of a drive: the limits stay, the number of commands goes up by one to `most`, and a
-- failure is answered only where the drive has failed once more.
pub record Commanded {T E : Type 0} (most : ℕ) (limits_old limits_new : Limits) (commands_old commands_new : ℕ)
    (faults_old faults_new : ℕ) (result : Result T E) : Type 0 where
  pub limits : limits_new ≡ limits_old
  pub count : Counted most commands_old commands_new
  pub cause : HasCause faults_old faults_new result

-- the item at a place, where there is one
abbrev pub item_at : Place → Cartridge → Option Item
item_at at c = slice_get (items_of at.part c) at.pos

-- what a read answers where this stands, and the bytes that it leaves in the buffer
abbrev pub IsRead : Option Item → Got → List ℕ → Type 0
IsRead None answer buf = (answer ≡ got.End) × (buf ≡ [])
IsRead (Some (item.Block bytes)) answer buf = (answer ≡ got.Block) × (buf ≡ bytes)
IsRead (Some item.Mark) answer buf = (answer ≡ got.Mark) × (buf ≡ [])
IsRead (Some item.Torn) answer buf = (answer ≡ got.Torn) × (buf ≡ [])

-- a block that was read has 1 to 1,048,576 bytes, and with any other answer the buffer is empty
abbrev pub FillsBuffer : Got → List ℕ → Type 0
FillsBuffer got.Block buf = (1 ≤ length buf) × (length buf ≤ 1048576)
FillsBuffer got.Mark buf = buf ≡ []
FillsBuffer got.End buf = buf ≡ []
FillsBuffer got.Torn buf = buf ≡ []

-- where the head stands after a read: past a block or a mark, and else where it stood
abbrev pub after_read : Got → Place → Place
after_read got.Block at = next at
after_read got.Mark at = next at
after_read got.End at = at
after_read got.Torn at = at

-- the other partition and both attributes stay
pub record KeepsRest (part : Part) (old new : Cartridge) : Type 0 where
  pub other_part : items_of (other part) new ≡ items_of (other part) old
  pub note_ip : new.note_ip ≡ old.note_ip
  pub note_dp : new.note_dp ≡ old.note_dp

-- the volume change reference went up by one, and is still a u64
pub record VcrRose (old new : Cartridge) : Type 0 where
  pub by_one : new.vcr ≡ old.vcr + 1
  pub in_range : new.vcr ≤ 2 ^ 64 - 1

-- the partition was cut at the position, and the item appended
pub record IsWritten (part : Part) (pos : ℕ) (x : Item) (old new : Cartridge) : Type 0 where
  pub items : items_of part new ≡ take pos (items_of part old) ++ x ∷ []
  pub vcr : VcrRose old new
  pub rest : KeepsRest part old new

-- the partition was cut at the position, and may end there with a Torn
abbrev pub IsCutShort : ℕ → List Item → List Item → Type 0
IsCutShort pos old new = (new ≡ take pos old) ⊎ (new ≡ take pos old ++ item.Torn ∷ [])

-- What a write that failed leaves: the partition as it was, or cut short. The volume change reference went up
-- or stayed, and it went up wherever the partition changed.
pub record IsBroken (part : Part) (pos : ℕ) (old new : Cartridge) : Type 0 where
  pub items : ((items_of part new ≡ items_of part old) × ((new.vcr ≡ old.vcr) ⊎ VcrRose old new))
      ⊎ (IsCutShort pos (items_of part old) (items_of part new) × VcrRose old new)
  pub rest : KeepsRest part old new

-- how the cartridge reads after a write or a mark
abbrev pub AfterWrite : {T E : Type 0} → Result T E → Part → ℕ → Item → Cartridge → Cartridge → Type 0
AfterWrite (Ok _) part pos x old new = IsWritten part pos x old new
AfterWrite (Err _) part pos x old new = IsBroken part pos old new

-- one attribute was written, and all else stays
pub record IsNoted (part : Part) (note : Note) (old new : Cartridge) : Type 0 where
  pub ip : new.ip ≡ old.ip
  pub dp : new.dp ≡ old.dp
  pub vcr : new.vcr ≡ old.vcr
  pub other_note : note_of (other part) new ≡ note_of (other part) old
  pub written : note_of part new ≡ note

-- how the cartridge reads after an attribute was to be written
abbrev pub AfterNote : {T E : Type 0} → Result T E → Part → Note → Cartridge → Cartridge → Type 0
AfterNote (Ok _) part note old new = IsNoted part note old new
AfterNote (Err _) part note old new = (new ≡ old) ⊎ IsNoted part note old new
