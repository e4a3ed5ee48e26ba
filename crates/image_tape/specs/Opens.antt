-- What opening a tape finds.
use Rattle.std.specs.Prelude.{ℕ, ◌≤◌, ◌≡◌, List, length, Some, None, Ok, Err}
use Rattle.tape_types.specs.declared.cartridges.Cartridge.{Cartridge}
use Rattle.tape_types.specs.declared.cartridges.Item.{Item}
use Rattle.tape_types.specs.declared.cartridges.Limits.{Limits}
use Rattle.crash_steps.specs.Crashes.{NothingNew}
use Rattle.byte_disk.specs.Files.{Files}
use Rattle.byte_disk.specs.declared.disk.ByteDisk.{Ghosts}
use Rattle.tape_types.specs.Counts.{IsRise, Rose}
use Rattle.image_format.specs.declared.refusal.ReadErr.{ReadErr}
use Rattle.image_format.specs.declared.refusal.ReadErr.TheVariants as read
use Rattle.image_slots.specs.declared.errors.OpenErr as slots
use Rattle.image_slots.specs.declared.errors.OpenErr.TheVariants as slot_errors
use Rattle.image_slots.specs.Calls.{WithinOpen}
use Rattle.image_slots.specs.Pieces.{CrashesIn}
use Rattle.image_slots.specs.State as slot
use Rattle.image_format.specs.declared.refusal.Refusal.TheVariants as refusal
use Rattle.image_tape.specs.declared.errors.OpenErr.{OpenErr}
use Rattle.image_tape.specs.declared.errors.OpenErr.TheVariants.{Header, Record, Disk}
use Rattle.image_format.specs.Images.{header_by, image}
use Rattle.image_format.specs.Offsets.{Offsets, offsets_from}
use Rattle.image_format.specs.Records.{AreRecords}
use Rattle.image_format.specs.declared.values.SlotValue.{SlotValue}
use Rattle.image_tape.specs.Tape.{LeavesOf, View, held_of}

-- every crash leaves the partitions' files as they read
abbrev pub AreSynced : {D : Type 0} → Ghosts D → slot.View D → Type 0
AreSynced disk s = (d left : Files) → disk.held s.disk ≡ Some d → disk.leaves s.disk left → (left.ip ≡ d.ip)
    × (left.dp ≡ d.dp)

-- A value says what lies in the files of a disk, which are durable: it is the one of the header, and the records begin
-- at these offsets.
pub record IsTellable {D : Type 0} (disk : Ghosts D) (limits : Limits) (s : slot.View D) (room : Offsets)
    (value : SlotValue) : Type 0 where
  pub said : header_by limits (Some s.value) ≡ Some value
  pub count_ip : length room.ip ≡ value.ip.count
  pub count_dp : length room.dp ≡ value.dp.count
  pub synced : AreSynced disk s
  pub records : (d : Files) → disk.held s.disk ≡ Some d →
      (ip dp : List Item) × AreRecords value.ip d.ip ip × AreRecords value.dp d.dp dp
      × (room.ip ≡ offsets_from 0 ip) × (room.dp ≡ offsets_from 0 dp)

-- commands of a disk that only read leave nothing new to a crash
pub record HasLooked {D : Type 0} (disk : Ghosts D) (old new : D) : Type 0 where
  pub later : disk.commands old ≤ disk.commands new
  pub crash : CrashesIn disk NothingNew old new

-- The tape that was opened over a disk. A crash meanwhile leaves nothing new, or of a blank disk one that stores the
-- first value.
pub record HasOpened {D : Type 0} (disk : Ghosts D) (limits : Limits) (old : D) (t : View D) : Type 0 where
  pub limits_are : t.room.limits ≡ limits
  pub head : t.head ≡ None
  pub faults : t.faults ≡ 0
  pub opened : t.opened ≡ disk.commands t.slots.disk
  pub later : disk.commands old ≤ disk.commands t.slots.disk
  pub crash : (d : Files) → disk.held old ≡ Some d → CrashesIn disk WithinOpen old t.slots.disk
  pub untold : disk.held old ≡ None → disk.held t.slots.disk ≡ None
  pub told : (d : Files) → disk.held old ≡ Some d → (c : Cartridge) × (image limits d ≡ Ok c)
      × (held_of disk t ≡ Some c)
      × ((x : Cartridge) → LeavesOf disk t x → x ≡ c)

-- why the files of a disk were refused
abbrev pub RefusedAs : Limits → Files → OpenErr → Type 0
RefusedAs limits d Header = image limits d ≡ Err refusal.Header
RefusedAs limits d (Record part n) = image limits d ≡ Err (refusal.Record part n)
RefusedAs limits d (Disk counts) = Unit {0}

-- a fault of the disk is told by two values of its count, which rose meanwhile
abbrev pub HasFault : (before now : ℕ) → OpenErr → Type 0
HasFault before now Header = Unit {0}
HasFault before now (Record part n) = Unit {0}
HasFault before now (Disk counts) = IsRise before now counts.before counts.after

-- Why no tape was opened, and that the files mean what they meant. A crash meanwhile leaves what one leaves of an
-- opening.
pub record IsRefused {D : Type 0} (disk : Ghosts D) (limits : Limits) (why : OpenErr) (old new : D) : Type 0 where
  pub told : (d : Files) → disk.held old ≡ Some d → RefusedAs limits d why
  pub later : disk.commands old ≤ disk.commands new
  pub crash : (d : Files) → disk.held old ≡ Some d → CrashesIn disk WithinOpen old new
  pub untold : disk.held old ≡ None → disk.held new ≡ None
  pub left : (d : Files) → disk.held old ≡ Some d
      → (e : Files) × (disk.held new ≡ Some e) × (image limits e ≡ image limits d)
  pub fault : HasFault (disk.faults old) (disk.faults new) why

-- what is told of why nothing was read
abbrev pub IsReason : (before now : ℕ) → ReadErr → Type 0
IsReason before now (read.Refused why) = Unit {0}
IsReason before now read.Disk = Rose before now

abbrev pub reason_of : ReadErr → (before after : ℕ) → OpenErr
reason_of (read.Refused refusal.Header) before after = Header
reason_of (read.Refused (refusal.Record part n)) before after = Record part n
reason_of read.Disk before after = Disk (record { before = before; after = after })

abbrev pub header_reason : slots.OpenErr → (before after : ℕ) → OpenErr
header_reason slot_errors.Header before after = Header
header_reason slot_errors.Disk before after = Disk (record { before = before; after = after })
