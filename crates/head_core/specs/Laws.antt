-- What the definitions of a step say together.
use Rattle.std.specs.Prelude.{ℕ, ◌+◌, ◌-◌, ◌^◌, ◌≤◌, ◌<◌, ◌≡◌, ◌⊎◌, List, take, length, Some}
use Rattle.tape_types.specs.declared.cartridges.Cartridge.{Cartridge}
use Rattle.tape_types.specs.declared.cartridges.Item.{Item}
use Rattle.tape_types.specs.declared.cartridges.Item.TheVariants as item
use Rattle.tape_types.specs.declared.cartridges.Place.{Place}
use Rattle.tape_types.specs.declared.cartridges.Twin.{Twin}
use Rattle.tape_types.specs.Cartridges.{items_of}
use Rattle.tape_drive.specs.Commands.{KeepsRest, item_at}
use Rattle.tape_drive.specs.declared.drive.Drive.{Ghosts}
use Rattle.tape_layout.specs.declared.ops.Op.{Op}
use Rattle.tape_layout.specs.declared.ops.Op.TheVariants as op
use Rattle.tape_layout.specs.Ops.{place_of}
use Rattle.head_core.specs.declared.work.StepDone.{StepDone}
use Rattle.head_core.specs.declared.work.StepDone.TheVariants as done
use Rattle.head_core.specs.Steps.{AfterOp, IsOpStep, WithinOp}

-- a place is at most behind the last item
abbrev pub IsWithin : Place → Cartridge → Type 0
IsWithin at c = at.pos ≤ length (items_of at.part c)

-- what stands in front of a place
abbrev pub front_of : Place → Cartridge → List Item
front_of at c = take at.pos (items_of at.part c)

-- an item is the last one, and stands at a place
pub record IsLast (at : Place) (x : Item) (c : Cartridge) : Type 0 where
  pub here : item_at at c ≡ Some x
  pub last : length (items_of at.part c) ≡ at.pos + 1

-- the front of a place stays, and so do the other partition and both attributes; the volume change reference goes up by
-- one at most
pub record KeepsFront (at : Place) (old new : Cartridge) : Type 0 where
  pub front : front_of at new ≡ front_of at old
  pub rest : KeepsRest at.part old new
  pub vcr_least : old.vcr ≤ new.vcr
  pub vcr_most : new.vcr ≤ old.vcr + 1

-- How a cartridge reads after an op: what was written stands at its place and is the last item, what stands in front of
-- the place stays, however the op ends, and with the volume change reference at its end nothing is written.
pub record OpsKeepFronts : Type 0 where
  pub put : (at : Place) (bytes : List ℕ) (old new : Cartridge) → IsWithin at old
      → AfterOp (op.Put at bytes) done.Wrote old new → IsLast at (item.Block bytes) new
  pub mark : (at : Place) (old new : Cartridge) → IsWithin at old
      → AfterOp (op.Mark at) done.Wrote old new → IsLast at item.Mark new
  pub kept : (o : Op) (end : StepDone) (old new : Cartridge) → IsWithin (place_of o) old
      → AfterOp o end old new → KeepsFront (place_of o) old new
  pub put_at_end : (at : Place) (bytes : List ℕ) (end : StepDone) (old new : Cartridge) → 2 ^ 64 - 1 ≤ old.vcr
      → AfterOp (op.Put at bytes) end old new → (counts : Twin) × (end ≡ done.Failed counts) × (new ≡ old)
  pub mark_at_end : (at : Place) (end : StepDone) (old new : Cartridge) → 2 ^ 64 - 1 ≤ old.vcr
      → AfterOp (op.Mark at) end old new → (counts : Twin) × (end ≡ done.Failed counts) × (new ≡ old)

-- What a crash may leave within an op: what it could leave before, how the cartridge reads after the op, and nothing in
-- which the front of the op's place, the other partition or an attribute has changed; but a flush may leave what reads.
pub record CrashesKeepFronts : Type 0 where
  pub unseen : (o : Op) (held image : Cartridge) → WithinOp o held image image
  pub left : (o : Op) (end : StepDone) (old new : Cartridge) → AfterOp o end old new → WithinOp o old old new
  pub front : (o : Op) (held before image : Cartridge) → IsWithin (place_of o) held → WithinOp o held before image
      → front_of (place_of o) before ≡ front_of (place_of o) held
      → front_of (place_of o) image ≡ front_of (place_of o) held
  pub rest : (o : Op) (held before image : Cartridge) → WithinOp o held before image
      → KeepsRest (place_of o).part before image ⊎ (image ≡ held)

-- Where a flush succeeds on a drive that tells its cartridge, a crash from then on leaves that one, until the next
-- step.
abbrev pub FlushesMakeSure : {D : Type 0} → Ghosts D → Type 0
FlushesMakeSure {D = D} drive = (at : Place) (old new : D) (c image : Cartridge)
    → IsOpStep drive (op.Flush at) done.Flushed old new → drive.held old ≡ Some c → drive.commands new < 2 ^ 64 - 1
    → drive.left_since new (drive.commands new) image → image ≡ c

-- What stands in front of an op stays sure over its step, however it ends: where each image of a crash since a number
-- of commands has the front as the cartridge has it, so has each image since that number after the step.
abbrev pub FrontsStaySure : {D : Type 0} → Ghosts D → Type 0
FrontsStaySure {D = D} drive = (o : Op) (end : StepDone) (old new : D) (c : Cartridge) (t : ℕ)
    → IsOpStep drive o end old new → drive.held old ≡ Some c → IsWithin (place_of o) c → t ≤ drive.commands old
    → ((image : Cartridge) → drive.left_since old t image → front_of (place_of o) image ≡ front_of (place_of o) c)
    → (image : Cartridge) → drive.left_since new t image → front_of (place_of o) image ≡ front_of (place_of o) c
