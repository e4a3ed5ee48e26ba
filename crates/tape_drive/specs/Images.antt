-- The cartridges that the drive in memory gives as those that a crash may leave.
use Rattle.std.specs.Prelude.{ℕ, ◌+◌, ◌-◌, ◌<◌, ◌≡◌, ◌⊎◌, Bool, true, false, nat_lt, if◌then◌else◌, List, [], ◌∷◌}
use Rattle.std.specs.Prelude.{◌++◌, take, length, Option, Some, None}
use Rattle.tape_types.specs.declared.cartridges.Part.{Part}
use Rattle.tape_types.specs.declared.cartridges.Part.TheVariants.{Ip, Dp}
use Rattle.tape_types.specs.declared.cartridges.Item.{Item}
use Rattle.tape_types.specs.declared.cartridges.Item.TheVariants as item
use Rattle.tape_types.specs.declared.cartridges.Cartridge.{Cartridge}
use Rattle.tape_drive.specs.declared.record.Act.{Act}
use Rattle.tape_drive.specs.declared.record.Act.TheVariants.{Put, Flushed, Noted, Settled}
use Rattle.tape_drive.specs.declared.record.DoneCommand.{DoneCommand}
use Rattle.tape_drive.specs.declared.crash.Cut.{Cut}
use Rattle.tape_drive.specs.Record.{front, undo}

-- one partition is the other one
abbrev pub is_same : Part → Part → Bool
is_same Ip Ip = true
is_same Ip Dp = false
is_same Dp Ip = false
is_same Dp Dp = true

-- how many moments there are once this was done, with those before
abbrev pub moments_after : Act → ℕ → ℕ
moments_after (Put part gone failed) n = n + 2
moments_after Flushed n = 1
moments_after (Noted part before) n = n
moments_after Settled n = n

-- How many moments there are from the last flush that succeeded up to now, with both. A write or mark that reached
-- the tape has added two: one for its cut, and one for its item.
abbrev pub moments : List DoneCommand → ℕ
moments [] = 1
moments (e ∷ es) = moments_after e.act (moments es)

-- what a partition held before an act
abbrev pub undone : Part → Act → List Item → List Item
undone part (Put p gone failed) items = if is_same part p then front items ++ gone else items
undone part Flushed items = items
undone part (Noted p before) items = items
undone part Settled items = items

-- What stood at a moment, by an act of which there were n moments before: after its item, or within its cut, or
-- earlier.
abbrev pub stood_by : Part → Act → ℕ → ℕ → List Item → List Item → List Item
stood_by part (Put p gone failed) n moment items earlier =
    if nat_lt n moment then items else if nat_lt moment n then earlier
    else if is_same part p then front items else items
stood_by part Flushed n moment items earlier = items
stood_by part (Noted p before) n moment items earlier = earlier
stood_by part Settled n moment items earlier = earlier

-- what stood in a partition at a moment
abbrev pub stood : Part → List Item → List DoneCommand → ℕ → List Item
stood part items [] moment = items
stood part items (e ∷ es) moment =
    stood_by part e.act (moments es) moment items (stood part (undone part e.act items) es moment)

-- the earlier one, where there is one
abbrev pub earlier_or : Option ℕ → Option ℕ → Option ℕ
earlier_or (Some pos) later = Some pos
earlier_or None later = later

-- where the next item was written, by an act of which there were n moments before, or by an earlier one
abbrev pub next_by : Part → Act → ℕ → ℕ → List Item → Option ℕ → Option ℕ
next_by part (Put p gone failed) n moment items earlier =
    earlier_or earlier (if nat_lt n moment then None else if is_same part p then Some (length items - 1) else None)
next_by part Flushed n moment items earlier = None
next_by part (Noted p before) n moment items earlier = earlier
next_by part Settled n moment items earlier = earlier

-- the position of the item that was written next in a partition after a moment
abbrev pub next_put : Part → List Item → List DoneCommand → ℕ → Option ℕ
next_put part items [] moment = None
next_put part items (e ∷ es) moment =
    next_by part e.act (moments es) moment items (next_put part (undone part e.act items) es moment)

-- a list cut at a position, with a Torn at its end
abbrev pub torn_at : Option ℕ → List Item → List Item
torn_at None items = items
torn_at (Some pos) items = take pos items ++ item.Torn ∷ []

-- A partition's image by a cut: what stood at its moment; or that, cut at the position of the item that was written
-- next, with a Torn at its end.
abbrev pub image_of : Part → List Item → List DoneCommand → ℕ → Bool → List Item
image_of part items es moment torn =
    torn_at (if torn then next_put part items es moment else None) (stood part items es moment)

-- an image by a cut of each partition, with the volume change reference and the attributes as they read
abbrev pub crash_image : Cartridge → List DoneCommand → Cut → Cut → Cartridge
crash_image held es ip dp = record {
  ip = image_of Ip held.ip es ip.moment ip.torn;
  dp = image_of Dp held.dp es dp.moment dp.torn;
  vcr = held.vcr;
  note_ip = held.note_ip;
  note_dp = held.note_dp;
}

-- some two cuts give this image
abbrev pub Gives : Cartridge → List DoneCommand → Cartridge → Type 0
Gives held es image =
    (ip : Cut) × (dp : Cut) × (ip.moment < moments es) × (dp.moment < moments es) × (image ≡ crash_image held es ip dp)

-- a write or mark that failed after its cut
abbrev pub IsFailure : Act → Type 0
IsFailure (Put part gone true) = Unit {0}
IsFailure (Put part gone false) = ⊥
IsFailure Flushed = ⊥
IsFailure (Noted part before) = ⊥
IsFailure Settled = ⊥

-- two cuts give this image, or gave it before the failed writes that nothing has succeeded after
abbrev pub Gave : Cartridge → List DoneCommand → Cartridge → Type 0
Gave held [] image = Gives held [] image
Gave held (e ∷ es) image = Gives held (e ∷ es) image ⊎ (IsFailure e.act × Gave (undo e.act held) es image)
