-- The cartridge of a tape over a disk of byte files, and what a crash may leave of it.
use Rattle.std.specs.Prelude.{ℕ, ◌+◌, ◌-◌, ◌^◌, ◌≤◌, ◌<◌, ◌≡◌, ◌⊎◌, ◌==◌, Bool, false, if◌then◌else◌, List, [], ◌∷◌, ◌++◌, take}
use Rattle.std.specs.Prelude.{length}
use Rattle.std.specs.Prelude.{Option, Some, None, Result, Ok, Err}
use Rattle.std.specs.List.{flat_map}
use Rattle.tape_types.specs.Cartridges.{IsLimits, items_of}
use Rattle.tape_types.specs.Counts.{Rose}
use Rattle.tape_types.specs.declared.cartridges.Cartridge.{Cartridge}
use Rattle.tape_types.specs.declared.cartridges.Item.{Item}
use Rattle.tape_types.specs.declared.cartridges.Limits.{Limits}
use Rattle.tape_types.specs.declared.cartridges.Place.{Place}
use Rattle.crash_steps.specs.Crashes.{Crashes}
use Rattle.byte_disk.specs.Files.{Files}
use Rattle.byte_disk.specs.declared.disk.ByteDisk.{Ghosts}
use Rattle.image_slots.specs.State as slot
use Rattle.image_slots.specs.declared.known.Known.TheVariants.{Steady}
use Rattle.image_format.specs.declared.refusal.Refusal.{Refusal}
use Rattle.image_format.specs.declared.values.Half.{Half}
use Rattle.image_format.specs.declared.values.SlotValue.{SlotValue}
use Rattle.image_format.specs.Images.{Fits, Opens, header, header_by, image_by}
use Rattle.image_format.specs.Offsets.{Offsets, offsets_from}
use Rattle.image_format.specs.Records.{AreRecords, record_bytes}
use Rattle.image_tape.specs.declared.doubt.Doubt.{Doubt}
use Rattle.image_tape.specs.declared.doubt.Doubt.TheVariants.{Settled, Open}

-- The disk with its value; where records begin; what the header says, and what would be said of all that reads; what is
-- known of these; where the head stands; the count of faults; the number of the disk's commands since which every crash
-- leaves an image; and of each moment between two commands that is past, the reference that read and the disk.
pub record View (D : Type 0) : Type 0 where
  pub slots : slot.View D
  pub room : Offsets
  pub base : SlotValue
  pub reads : SlotValue
  pub doubt : Doubt
  pub head : Option Place
  pub faults : ℕ
  pub opened : ℕ
  pub past : List (ℕ × slot.View D)

abbrev pub given : Result Cartridge Refusal → Option Cartridge
given (Ok c) = Some c
given (Err why) = None

-- the header says this value, which its serial number tells
abbrev pub says : SlotValue → Option SlotValue → Bool
says s None = false
says s (Some t) = t.serial == s.serial

-- what would be said of all that reads, on a disk of these files
abbrev pub reading_by : Doubt → (base reads : SlotValue) → Option SlotValue → SlotValue
reading_by Settled base reads said = reads
reading_by (Open value after) base reads said = if says base said then reads else after

abbrev pub reading : {D : Type 0} → View D → Files → SlotValue
reading v d = reading_by v.doubt v.base v.reads (header v.room.limits d.cm)

abbrev pub held_by : {D : Type 0} → View D → Option Files → Option Cartridge
held_by v None = None
held_by v (Some d) = given (image_by d (Some (reading v d)))

-- the cartridge as it reads, where the disk tells its files
abbrev pub held_of : {D : Type 0} → Ghosts D → View D → Option Cartridge
held_of disk v = held_by v (disk.held v.slots.disk)

-- the disk tells its files
abbrev pub IsTold : {D : Type 0} → Ghosts D → D → Type 0
IsTold disk b = (d : Files) × (disk.held b ≡ Some d)

-- a crash leaves files that open as this cartridge; of a disk that doesn't tell its files nothing is said
abbrev pub LeavesOn : {D : Type 0} → Ghosts D → Limits → D → Cartridge → Type 0
LeavesOn disk limits b c = (image : Files) × disk.leaves b image × Opens limits image c × IsTold disk b

abbrev pub SinceOn : {D : Type 0} → Ghosts D → Limits → D → ℕ → Cartridge → Type 0
SinceOn disk limits b t c = (image : Files) × disk.left_since b t image × Opens limits image c × IsTold disk b

-- the cartridge with another reference
abbrev pub with_reference : ℕ → Cartridge → Cartridge
with_reference vcr c = record { ip = c.ip; dp = c.dp; vcr = vcr; note_ip = c.note_ip; note_dp = c.note_dp }

-- the cartridge, or the same with this reference, if it isn't earlier
abbrev pub IsAhead : (vcr : ℕ) → Cartridge → Cartridge → Type 0
IsAhead vcr c image = (image ≡ c) ⊎ ((c.vcr ≤ vcr) × (image ≡ with_reference vcr c))

-- What a crash leaves is taken as it opens, or with the reference that reads, which the header may come to have before
-- anything else of it changes.
abbrev pub AheadOn : {D : Type 0} → Ghosts D → Limits → (vcr : ℕ) → D → Cartridge → Type 0
AheadOn disk limits vcr b image = (c : Cartridge) × LeavesOn disk limits b c × IsAhead vcr c image

-- what a crash may leave of a tape
abbrev pub LeavesOf : {D : Type 0} → Ghosts D → View D → Cartridge → Type 0
LeavesOf disk v image = AheadOn disk v.room.limits v.reads.vcr v.slots.disk image

-- a crash may have left it at one of these moments, since a number
abbrev pub WasLeft : {D : Type 0} → Ghosts D → Limits → List (ℕ × slot.View D) → (t : ℕ) → Cartridge → Type 0
WasLeft disk limits [] t image = ⊥
WasLeft disk limits (m ∷ ms) t image =
    ((t ≤ disk.commands m.1.disk) × AheadOn disk limits m.0 m.1.disk image) ⊎ WasLeft disk limits ms t image

-- moments from before the tape was opened are among those since a number
abbrev pub IsUnclaimed : {D : Type 0} → Ghosts D → View D → ℕ → Type 0
IsUnclaimed disk v t = (t < v.opened) × (v.opened ≤ disk.commands v.slots.disk)

-- What a crash may have left of a tape since a number of commands: within a command of its disk; now; or at a moment
-- that is past, as long as that number is. Of moments from before the tape was opened nothing is claimed.
abbrev pub LeftSince : {D : Type 0} → Ghosts D → View D → ℕ → Cartridge → Type 0
LeftSince disk v t image = SinceOn disk v.room.limits v.slots.disk t image
    ⊎ LeavesOf disk v image
    ⊎ (Rose t (disk.commands v.slots.disk) × WasLeft disk v.room.limits v.past t image)
    ⊎ IsUnclaimed disk v t

-- the moments that are past once this one is
abbrev pub with_moment : {D : Type 0} → View D → List (ℕ × slot.View D)
with_moment v = v.past ++ (v.reads.vcr, v.slots) ∷ []

-- these moments are earlier than a number of commands, which stands still at its end
abbrev pub AreEarlier : {D : Type 0} → Ghosts D → List (ℕ × slot.View D) → ℕ → Type 0
AreEarlier disk [] n = Unit {0}
AreEarlier disk (m ∷ ms) n = Rose (disk.commands m.1.disk) n × AreEarlier disk ms n

-- the moments that are past once this one is; those before it are earlier, and so is the opening
pub record Remembers {D : Type 0} (disk : Ghosts D) (past : List (ℕ × slot.View D)) (v : View D) : Type 0 where
  pub are : past ≡ with_moment v
  pub early : AreEarlier disk v.past (disk.commands v.slots.disk)
  pub reached : v.opened ≤ disk.commands v.slots.disk

-- what commands of the disk leave of the cartridge to a crash, now and since
abbrev pub CrashesAt : {D : Type 0} → Ghosts D → Limits → (Cartridge → Cartridge → Type 0) → (m : ℕ) → D → (n : ℕ) → D → Type 0
CrashesAt disk limits step m a n b =
    Crashes step (disk.commands a) (AheadOn disk limits m a) (AheadOn disk limits n b) (SinceOn disk limits a)
    (SinceOn disk limits b)

abbrev pub CrashesOn : {D : Type 0} → Ghosts D → Limits → (Cartridge → Cartridge → Type 0) → (old new : View D) → Type 0
CrashesOn disk limits step old new = CrashesAt disk limits step old.reads.vcr old.slots.disk new.reads.vcr new.slots.disk

-- Some of the items that lie in a file count, the first ones: those of `said`. `reads` says what all of them are, and
-- their records begin at the offsets.
pub record Lie (said reads : Half) (offsets file : List ℕ) (items : List Item) : Type 0 where
  pub records : AreRecords reads file items
  pub offsets_are : offsets ≡ offsets_from 0 items
  pub fewer : said.count ≤ reads.count
  pub end : said.end ≡ length (flat_map record_bytes (take said.count items))

-- what counts lies in the files of a crash as it does in those that read
pub record Agree (said : SlotValue) (d image : Files) : Type 0 where
  pub ip : take said.ip.end image.ip ≡ take said.ip.end d.ip
  pub dp : take said.dp.end image.dp ≡ take said.dp.end d.dp

-- What `said` says of the files may be the header's word: it fits the capacities, it has the notes that read, and the
-- reference or an earlier one, and the items that it counts are the first ones of those that read, also in what a crash leaves.
pub record Stands (limits : Limits) (said reads : SlotValue) (room : Offsets) (leaves : Files → Type 0)
    (d : Files) : Type 0 where
  pub ip : List Item
  pub dp : List Item
  pub in_ip : Lie said.ip reads.ip room.ip d.ip ip
  pub in_dp : Lie said.dp reads.dp room.dp d.dp dp
  pub agree : (image : Files) → leaves image → Agree said d image
  pub vcr : said.vcr ≤ reads.vcr
  pub note_ip : reads.ip.note ≡ said.ip.note
  pub note_dp : reads.dp.note ≡ said.dp.note
  pub fits_ip : Fits limits.cap_ip said.ip
  pub fits_dp : Fits limits.cap_dp said.dp

-- the first records alone
abbrev pub cut_to : SlotValue → Offsets → Offsets
cut_to reads room = record {
  limits = room.limits;
  ip = take reads.ip.count room.ip;
  dp = take reads.dp.count room.dp;
}

-- there is an offset for each record, and no more than there is room for
pub record Holds (room : Offsets) (reads : SlotValue) : Type 0 where
  pub ip : length room.ip ≡ reads.ip.count
  pub dp : length room.dp ≡ reads.dp.count
  pub fits_ip : Fits room.limits.cap_ip reads.ip
  pub fits_dp : Fits room.limits.cap_dp reads.dp

-- the header says one of two values
abbrev pub SaysOne : Limits → (base value : SlotValue) → Files → Type 0
SaysOne limits base value d = (header limits d.cm ≡ Some base) ⊎ (header limits d.cm ≡ Some value)

-- what is known of the files
abbrev pub Tells : {D : Type 0} → Doubt → View D → (Files → Type 0) → Files → Type 0
Tells Settled v leaves d =
    Stands v.room.limits v.base v.reads v.room leaves d × (header v.room.limits d.cm ≡ Some v.base)
    × ((image : Files) → leaves image → header v.room.limits image.cm ≡ Some v.base)
    × (header_by v.room.limits (Some v.slots.value) ≡ Some v.base)
Tells (Open value reads) v leaves d =
    Stands v.room.limits v.base v.reads v.room leaves d
    × Stands v.room.limits value reads (cut_to reads v.room) leaves d
    × SaysOne v.room.limits v.base value d × ((image : Files) → leaves image → SaysOne v.room.limits v.base value image)
    × (value.serial ≡ v.base.serial + 1) × (value.vcr ≡ reads.vcr)

-- what is known without them
abbrev pub Suits : {D : Type 0} → Doubt → View D → Type 0
Suits Settled v = v.slots.known ≡ Steady
Suits (Open value reads) v = Holds (cut_to reads v.room) reads

-- where the disk tells its files, each disk that may have been left since then opens
abbrev pub AlwaysOpens : {D : Type 0} → Ghosts D → Limits → ℕ → D → Type 0
AlwaysOpens disk limits since b = (d : Files) → disk.held b ≡ Some d → since < 2 ^ 64 - 1
    → (image : Files) → disk.left_since b since image → (c : Cartridge) × Opens limits image c

-- the head stands at an item that reads, or behind the last one
abbrev pub IsWithin : Option Cartridge → Option Place → Type 0
IsWithin held head = (at : Place) (c : Cartridge) → head ≡ Some at → held ≡ Some c → at.pos ≤ length (items_of at.part c)

-- what is true of every tape
pub record IsKept {D : Type 0} (disk : Ghosts D) (v : View D) : Type 0 where
  pub limits : IsLimits v.room.limits
  pub holds : Holds v.room v.reads
  pub suits : Suits v.doubt v
  pub reached : v.opened ≤ disk.commands v.slots.disk
  pub always : AlwaysOpens disk v.room.limits v.opened v.slots.disk
  pub past : AreEarlier disk v.past (disk.commands v.slots.disk)
  pub within : IsWithin (held_of disk v) v.head
  pub tells : (d : Files) → disk.held v.slots.disk ≡ Some d → Tells v.doubt v (disk.leaves v.slots.disk) d
