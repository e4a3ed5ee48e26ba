-- What contracts see of a drive in memory, and what each of its commands does.
use Rattle.std.specs.Prelude.{ℕ, ◌+◌, ◌-◌, ◌^◌, ◌≤◌, ◌<◌, ◌≡◌, ◌⊎◌, Bool, true, false, List, [], ◌∷◌, ◌++◌, take}
use Rattle.std.specs.Prelude.{drop, Option, Some, None, Result, Ok, Err}
use Rattle.tape_types.specs.declared.cartridges.Place.{Place}
use Rattle.tape_types.specs.declared.cartridges.Item.{Item}
use Rattle.tape_types.specs.declared.cartridges.Item.TheVariants as item
use Rattle.tape_types.specs.declared.cartridges.Limits.{Limits}
use Rattle.tape_types.specs.declared.cartridges.Cartridge.{Cartridge}
use Rattle.tape_types.specs.Cartridges.{items_of, next}
use Rattle.tape_drive.specs.declared.schedule.Cmd.{Cmd}
use Rattle.tape_drive.specs.declared.schedule.Cmd.TheVariants as cmd
use Rattle.tape_drive.specs.declared.schedule.Fail.{Fail}
use Rattle.tape_drive.specs.declared.schedule.Schedule.{Schedule}
use Rattle.tape_drive.specs.declared.record.Act.{Act}
use Rattle.tape_drive.specs.declared.record.Act.TheVariants.{Put}
use Rattle.tape_drive.specs.declared.record.DoneCommand.{DoneCommand}
use Rattle.tape_drive.specs.declared.drive.Got.{Got}
use Rattle.tape_drive.specs.Commands.{item_at, IsRead, after_read}
use Rattle.tape_drive.specs.Schedule.{up, fresh, counted, IsStopped, IsListed}
use Rattle.tape_drive.specs.Record.{with_items, IsSound}

-- a drive in memory
pub record View : Type 0 where
  -- the cartridge as it reads
  pub held : Cartridge
  -- what its commands have done, the newest first
  pub acts : List DoneCommand
  pub head : Option Place
  pub limits : Limits
  pub commands : ℕ
  pub faults : ℕ
  -- how often memory was refused
  pub starved : ℕ
  pub schedule : Schedule

-- a drive that has had no command
abbrev pub made : Cartridge → Limits → List Fail → View
made held limits fails = record {
  held = held;
  acts = [];
  head = None;
  limits = limits;
  commands = 0;
  faults = 0;
  starved = 0;
  schedule = fresh fails;
}

-- only so many commands more pass
abbrev pub with_schedule : Schedule → View → View
with_schedule s v = record {
  held = v.held;
  acts = v.acts;
  head = v.head;
  limits = v.limits;
  commands = v.commands;
  faults = v.faults;
  starved = v.starved;
  schedule = s;
}

-- a command of this kind was counted
abbrev pub begun : Cmd → View → View
begun kind v = record {
  held = v.held;
  acts = v.acts;
  head = v.head;
  limits = v.limits;
  commands = up v.commands;
  faults = v.faults;
  starved = v.starved;
  schedule = counted kind v.schedule;
}

-- the head stands elsewhere
abbrev pub moved : Option Place → View → View
moved head v = record {
  held = v.held;
  acts = v.acts;
  head = head;
  limits = v.limits;
  commands = v.commands;
  faults = v.faults;
  starved = v.starved;
  schedule = v.schedule;
}

-- an act was done that began at this number, and the cartridge reads so
abbrev pub acted : ℕ → Act → Cartridge → View → View
acted number act held v = record {
  held = held;
  acts = record { number = number; act = act } ∷ v.acts;
  head = v.head;
  limits = v.limits;
  commands = v.commands;
  faults = v.faults;
  starved = v.starved;
  schedule = v.schedule;
}

-- the command failed: the head is lost
abbrev pub failed : View → View
failed v = record {
  held = v.held;
  acts = v.acts;
  head = None;
  limits = v.limits;
  commands = v.commands;
  faults = up v.faults;
  starved = v.starved;
  schedule = v.schedule;
}

-- the command failed for want of memory
abbrev pub starved_out : View → View
starved_out v = record {
  held = v.held;
  acts = v.acts;
  head = None;
  limits = v.limits;
  commands = v.commands;
  faults = up v.faults;
  starved = up v.starved;
  schedule = v.schedule;
}

-- an item was put at a place
abbrev pub with_item : Place → Item → Cartridge → Cartridge
with_item at x c = with_items at.part (take at.pos (items_of at.part c) ++ x ∷ []) (c.vcr + 1) c

abbrev pub put : Place → Item → Bool → Cmd → View → View
put at x broke kind v =
    acted v.commands (Put at.part (drop at.pos (items_of at.part v.held)) broke) (with_item at x v.held) (begun kind v)

-- a command of this kind that comes now has to fail
abbrev pub MustFail : Cmd → View → Type 0
MustFail kind v = IsStopped v.schedule ⊎ IsListed kind v.schedule

-- a write or mark that comes now has to fail: also where the volume change reference stands at its end
abbrev pub MustFailToWrite : Cmd → View → Type 0
MustFailToWrite kind v = MustFail kind v ⊎ (2 ^ 64 - 1 ≤ v.held.vcr)

-- What a locate does: it fails where it has to, and then changes nothing; else the head stands there.
abbrev pub RanLocate : {T E : Type 0} → Result T E → Place → View → View → Type 0
RanLocate (Ok _) at old new = (¬ (MustFail cmd.Locate old)) × (new ≡ moved (Some at) (begun cmd.Locate old))
RanLocate (Err _) at old new = MustFail cmd.Locate old × (new ≡ failed (begun cmd.Locate old))

-- What a read at a place does: it fails where it has to, and then changes nothing; else it answers what stands there.
abbrev pub RanRead : {E : Type 0} → Result Got E → Place → List ℕ → View → View → Type 0
RanRead (Ok answer) at buf old new =
    (¬ (MustFail cmd.Read old)) × IsRead (item_at at old.held) answer buf
    × (new ≡ moved (Some (after_read answer at)) (begun cmd.Read old))
RanRead (Err _) at buf old new = MustFail cmd.Read old × (new ≡ failed (begun cmd.Read old))

-- What a command of another kind does that is no write or mark: it fails where it has to or for want of memory, and
-- then changes nothing; else it does this act, and the cartridge reads so.
abbrev pub Ran : {T E : Type 0} → Result T E → Cmd → Act → Cartridge → View → View → Type 0
Ran (Ok _) kind act held old new = (¬ (MustFail kind old)) × (new ≡ acted old.commands act held (begun kind old))
Ran (Err _) kind act held old new = (MustFail kind old × (new ≡ failed (begun kind old)))
    ⊎ ((¬ (MustFail kind old)) × (new ≡ starved_out (begun kind old)))

-- What a write or mark does at a place: it fails where it has to or for want of memory, and then changes nothing
-- unless it is listed; a listed one leaves a Torn in place of the item.
abbrev pub RanPut : {T E : Type 0} → Result T E → Cmd → Place → Item → View → View → Type 0
RanPut (Ok _) kind at x old new =
    (¬ (MustFailToWrite kind old)) × (new ≡ moved (Some (next at)) (put at x false kind old))
RanPut (Err _) kind at x old new =
    ((IsStopped old.schedule ⊎ (2 ^ 64 - 1 ≤ old.held.vcr)) × (new ≡ failed (begun kind old)))
    ⊎ ((¬ (IsStopped old.schedule)) × (old.held.vcr < 2 ^ 64 - 1) × IsListed kind old.schedule
    × (new ≡ failed (put at item.Torn true kind old)))
    ⊎ ((¬ (IsStopped old.schedule)) × (old.held.vcr < 2 ^ 64 - 1) × (new ≡ starved_out (begun kind old)))

-- the counts are those of a u64, and the record is sound
pub record IsSane (v : View) : Type 0 where
  pub sound : IsSound v.limits v.commands v.held v.acts
  pub commands : v.commands ≤ 2 ^ 64 - 1
  pub faults : v.faults ≤ 2 ^ 64 - 1
