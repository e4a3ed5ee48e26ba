-- What the record of a drive in memory says of the past. A record lists the newest entry first.
use Rattle.std.specs.Prelude.{ℕ, ◌-◌, ◌^◌, ◌≤◌, ◌<◌, ◌≡◌, ◌⊎◌, true, false, List, [], ◌∷◌, ◌++◌, take, length}
use Rattle.tape_types.specs.declared.cartridges.Part.{Part}
use Rattle.tape_types.specs.declared.cartridges.Part.TheVariants.{Ip, Dp}
use Rattle.tape_types.specs.declared.cartridges.Item.{Item}
use Rattle.tape_types.specs.declared.cartridges.Item.TheVariants as item
use Rattle.tape_types.specs.declared.cartridges.Note.{Note}
use Rattle.tape_types.specs.declared.cartridges.Limits.{Limits}
use Rattle.tape_types.specs.declared.cartridges.Cartridge.{Cartridge}
use Rattle.tape_types.specs.Cartridges.{items_of, note_of, IsLimits, FitsLimits}
use Rattle.tape_drive.specs.Commands.{KeepsRest, IsNoted}
use Rattle.tape_drive.specs.Crashes.{HasState}
use Rattle.tape_drive.specs.declared.record.Act.{Act}
use Rattle.tape_drive.specs.declared.record.Act.TheVariants.{Put, Flushed, Noted, Settled}
use Rattle.tape_drive.specs.declared.record.DoneCommand.{DoneCommand}

-- a partition without its last item
abbrev pub front : List Item → List Item
front items = take (length items - 1) items

-- the cartridge with other items in a partition, and another volume change reference
abbrev pub with_items : Part → List Item → ℕ → Cartridge → Cartridge
with_items Ip items vcr c = record { ip = items; dp = c.dp; vcr = vcr; note_ip = c.note_ip; note_dp = c.note_dp }
with_items Dp items vcr c = record { ip = c.ip; dp = items; vcr = vcr; note_ip = c.note_ip; note_dp = c.note_dp }

-- the cartridge with another attribute of a partition
abbrev pub with_note : Part → Note → Cartridge → Cartridge
with_note Ip note c = record { ip = c.ip; dp = c.dp; vcr = c.vcr; note_ip = note; note_dp = c.note_dp }
with_note Dp note c = record { ip = c.ip; dp = c.dp; vcr = c.vcr; note_ip = c.note_ip; note_dp = note }

-- the cartridge from before an act
abbrev pub undo : Act → Cartridge → Cartridge
undo (Put part gone failed) c = with_items part (front (items_of part c) ++ gone) (c.vcr - 1) c
undo Flushed c = c
undo (Noted part before) c = with_note part before c
undo Settled c = c

-- a partition that was cut and got an item, as a crash may find it: cut, with a Torn in place of the item, or with the
-- item
abbrev pub IsStage : List Item → List Item → Type 0
IsStage after image = (image ≡ front after) ⊎ (image ≡ front after ++ item.Torn ∷ []) ⊎ (image ≡ after)

-- what a crash leaves while an item is put: the partition is as it could be left before, or at a stage of the act,
-- which shows only once the volume change reference has gone up
pub record DuringPut (part : Part) (after before image : Cartridge) : Type 0 where
  pub items : ((items_of part image ≡ items_of part before) × ((image.vcr ≡ before.vcr) ⊎ (image.vcr ≡ after.vcr)))
      ⊎ (IsStage (items_of part after) (items_of part image) × (image.vcr ≡ after.vcr))
  pub rest : KeepsRest part before image

-- what a crash leaves while an act goes on, from what it could leave before; `after` is the cartridge after the act
abbrev pub During : Act → Cartridge → Cartridge → Cartridge → Type 0
During (Put part gone failed) after before image = DuringPut part after before image
During Flushed after before image = image ≡ before
During (Noted part old) after before image = (image ≡ before) ⊎ IsNoted part (note_of part after) before image
During Settled after before image = image ≡ before

-- what the end of an act makes sure
abbrev pub Settles : Act → Cartridge → Cartridge → Type 0
Settles (Put part gone true) held image = Unit {0}
Settles (Put part gone false) held image = HasState held image
Settles Flushed held image = image ≡ held
Settles (Noted part before) held image = HasState held image
Settles Settled held image = HasState held image

-- what a crash may leave now
abbrev pub Leaves : Cartridge → List DoneCommand → Cartridge → Type 0
Leaves held [] image = image ≡ held
Leaves held (e ∷ es) image =
    Settles e.act held image
    × ((before : Cartridge) × Leaves (undo e.act held) es before × During e.act held before image)

-- what a crash may have left while an act went on that had begun at the number t or later
abbrev pub LeftWithin : Cartridge → List DoneCommand → ℕ → Cartridge → Type 0
LeftWithin held [] t image = ⊥
LeftWithin held (e ∷ es) t image =
    ((t ≤ e.number) × ((before : Cartridge) × Leaves (undo e.act held) es before × During e.act held before image))
    ⊎ LeftWithin (undo e.act held) es t image

-- What a crash may have left since the number was t: now, or while such an act went on. The number stands at `count`,
-- and since that number there is no other moment than now.
abbrev pub LeftSince : ℕ → Cartridge → List DoneCommand → ℕ → Cartridge → Type 0
LeftSince count held es t image =
    Leaves held es image ⊎ (((t < count) ⊎ (2 ^ 64 - 1 ≤ count)) × LeftWithin held es t image)

-- each act began at a smaller number than now, unless the number stands at its end
abbrev pub Numbered : ℕ → List DoneCommand → Type 0
Numbered count [] = Unit {0}
Numbered count (e ∷ es) = (count < 2 ^ 64 - 1 → e.number < count) × Numbered count es

-- the cartridge keeps to its limits, now and at each moment of the record
abbrev pub KeptLimits : Limits → Cartridge → List DoneCommand → Type 0
KeptLimits limits held [] = FitsLimits limits held
KeptLimits limits held (e ∷ es) = FitsLimits limits held × KeptLimits limits (undo e.act held) es

-- a drive's record, limits and number of commands go together
pub record IsSound (limits : Limits) (count : ℕ) (held : Cartridge) (es : List DoneCommand) : Type 0 where
  pub range : IsLimits limits
  pub sizes : KeptLimits limits held es
  pub numbers : Numbered count es
