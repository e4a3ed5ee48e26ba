-- What one step of a head leaves of the drive, of the cartridge in it, and of what a crash may find.
use Rattle.std.specs.Prelude.{ℕ, ◌+◌, ◌*◌, ◌-◌, ◌^◌, ◌≤◌, ◌<◌, ◌≡◌, min, List, [], length, Option, Some, None, IfSome}
use Rattle.tape_types.specs.declared.cartridges.Item.{Item}
use Rattle.tape_types.specs.declared.cartridges.Item.TheVariants as item
use Rattle.tape_types.specs.declared.cartridges.Place.{Place}
use Rattle.tape_types.specs.declared.cartridges.Limits.{Limits}
use Rattle.tape_types.specs.declared.cartridges.Cartridge.{Cartridge}
use Rattle.tape_types.specs.Cartridges.{items_of, capacity, next}
use Rattle.tape_types.specs.Counts.{Rose}
use Rattle.tape_drive.specs.Commands.{item_at, IsRead, FillsBuffer, after_read, IsWritten, IsBroken}
use Rattle.tape_drive.specs.Crashes.{WithinWrite, WithinFlush, Crashes, IsSure, LeavesAllowed}
use Rattle.tape_drive.specs.Looks.{Looks}
use Rattle.tape_drive.specs.declared.drive.Drive.{Ghosts}
use Rattle.tape_layout.specs.declared.ops.Op.{Op}
use Rattle.tape_layout.specs.declared.ops.Op.TheVariants as op
use Rattle.tape_layout.specs.Ops.{place_of}
use Rattle.head_core.specs.declared.work.Work.{Work}
use Rattle.head_core.specs.declared.work.Work.TheVariants as work
use Rattle.head_core.specs.declared.work.StepDone.{StepDone}
use Rattle.head_core.specs.declared.work.StepDone.TheVariants as done

-- An item can be read or written at a place: it lies below the capacity, and at most behind the last item where the
-- cartridge is told.
pub record IsInReach (at : Place) (limits : Limits) (held : Option Cartridge) : Type 0 where
  pub room : at.pos < capacity at.part limits
  pub within : IfSome held (λ c. at.pos ≤ length (items_of at.part c))

-- an op can be done: its place is in reach, and a block has 1 to 1,048,576 bytes
abbrev pub CanDo : Op → Limits → Option Cartridge → Type 0
CanDo (op.Put at bytes) limits held = IsInReach at limits held × (1 ≤ length bytes) × (length bytes ≤ 1048576)
CanDo (op.Mark at) limits held = IsInReach at limits held
CanDo (op.Flush at) limits held = Unit {0}

abbrev pub CanStep : Work → Limits → Option Cartridge → Type 0
CanStep (work.Read at) limits held = IsInReach at limits held
CanStep (work.Do o) limits held = CanDo o.now limits held

-- how a read may end
abbrev pub IsEndOfRead : StepDone → Type 0
IsEndOfRead (done.Read answer) = Unit {0}
IsEndOfRead done.Wrote = ⊥
IsEndOfRead done.Flushed = ⊥
IsEndOfRead (done.Failed counts) = Unit {0}

-- how the cartridge reads after an item was to be written at a place: a locate that failed leaves it as it was, and so
-- may a write that failed
abbrev pub AfterPut : Place → Item → StepDone → Cartridge → Cartridge → Type 0
AfterPut at x (done.Read answer) old new = ⊥
AfterPut at x done.Wrote old new = IsWritten at.part at.pos x old new
AfterPut at x done.Flushed old new = ⊥
AfterPut at x (done.Failed counts) old new = IsBroken at.part at.pos old new

-- how the cartridge reads after an op
abbrev pub AfterOp : Op → StepDone → Cartridge → Cartridge → Type 0
AfterOp (op.Put at bytes) end old new = AfterPut at (item.Block bytes) end old new
AfterOp (op.Mark at) end old new = AfterPut at item.Mark end old new
AfterOp (op.Flush at) end old new = new ≡ old

-- how an item that is to be written may end, and a flush
abbrev pub IsEndOfPut : StepDone → Type 0
IsEndOfPut (done.Read answer) = ⊥
IsEndOfPut done.Wrote = Unit {0}
IsEndOfPut done.Flushed = ⊥
IsEndOfPut (done.Failed counts) = Unit {0}

abbrev pub IsEndOfFlush : StepDone → Type 0
IsEndOfFlush (done.Read answer) = ⊥
IsEndOfFlush done.Wrote = ⊥
IsEndOfFlush done.Flushed = Unit {0}
IsEndOfFlush (done.Failed counts) = Unit {0}

-- how an op may end
abbrev pub IsEndOfOp : Op → StepDone → Type 0
IsEndOfOp (op.Put at bytes) end = IsEndOfPut end
IsEndOfOp (op.Mark at) end = IsEndOfPut end
IsEndOfOp (op.Flush at) end = IsEndOfFlush end

-- What a crash may leave within an op or directly after it, from what it could leave before. `held` is the cartridge
-- as it read before the op.
abbrev pub WithinOp : Op → (held before image : Cartridge) → Type 0
WithinOp (op.Put at bytes) held before image = WithinWrite at.part at.pos (item.Block bytes) held before image
WithinOp (op.Mark at) held before image = WithinWrite at.part at.pos item.Mark held before image
WithinOp (op.Flush at) held before image = WithinFlush held before image

-- every image that a crash may leave within an op is allowed, where the drive tells its cartridge
abbrev pub MayDo : {D : Type 0} → Ghosts D → Op → D → Type 0
MayDo drive o d = (c : Cartridge) → drive.held d ≡ Some c → LeavesAllowed (WithinOp o c) (drive.leaves d) drive.allows

-- of a step: a read leaves nothing new
abbrev pub MayStep : {D : Type 0} → Ghosts D → Work → D → Type 0
MayStep drive (work.Read at) d = Unit {0}
MayStep drive (work.Do o) d = MayDo drive o.now d

-- where the head stands after a step at a place
abbrev pub head_after : Place → StepDone → Option Place → Option Place
head_after at (done.Read answer) head = Some (after_read answer at)
head_after at done.Wrote head = Some (next at)
head_after at done.Flushed head = head
head_after at (done.Failed counts) head = None

-- how many commands an op takes at most: a locate and a transfer, or a flush alone
abbrev pub most_commands : Op → ℕ
most_commands (op.Put at bytes) = 2
most_commands (op.Mark at) = 2
most_commands (op.Flush at) = 1

-- how many a step took at least that ended so
abbrev pub least_commands : StepDone → ℕ
least_commands (done.Read answer) = 2
least_commands done.Wrote = 2
least_commands done.Flushed = 1
least_commands (done.Failed counts) = 1

-- A count went up by so much at least and at most. It stands still at the end of a u64.
pub record IsCounted (least most before now : ℕ) : Type 0 where
  pub later : before ≤ now
  pub at_least : min (before + least) (2 ^ 64 - 1) ≤ now
  pub at_most : now ≤ min (before + most) (2 ^ 64 - 1)

-- a failure tells the count of faults as it was and as it is, and it rose
abbrev pub TellsFaults : (before now : ℕ) → StepDone → Type 0
TellsFaults before now (done.Read answer) = Unit {0}
TellsFaults before now done.Wrote = Unit {0}
TellsFaults before now done.Flushed = Unit {0}
TellsFaults before now (done.Failed counts) = (counts.before ≡ before) × (counts.after ≡ now) × Rose before now

-- what a step makes sure of all that a crash may leave: after a flush nothing is pending
abbrev pub MakesSure : StepDone → Option Cartridge → (Cartridge → Type 0) → Type 0
MakesSure (done.Read answer) held leaves = Unit {0}
MakesSure done.Wrote held leaves = Unit {0}
MakesSure done.Flushed held leaves = IsSure held leaves
MakesSure (done.Failed counts) held leaves = Unit {0}

-- What each step does, over any drive: one at a place, with so many commands at most.
pub record IsMade {D : Type 0} (drive : Ghosts D) (at : Place) (most : ℕ) (end : StepDone) (old new : D) : Type 0 where
  pub untold : drive.held old ≡ None → drive.held new ≡ None
  pub head : drive.head new ≡ head_after at end (drive.head old)
  pub limits : drive.limits new ≡ drive.limits old
  pub commands : IsCounted (least_commands end) (most * drive.MOST) (drive.commands old) (drive.commands new)
  pub faults_later : drive.faults old ≤ drive.faults new
  pub faults : TellsFaults (drive.faults old) (drive.faults new) end
  pub sure : MakesSure end (drive.held new) (drive.leaves new)

-- a place was read, or was to be read: nothing changes, nor does what a crash may leave
pub record IsReadStep {D : Type 0} (drive : Ghosts D) (at : Place) (end : StepDone) (old new : D) : Type 0 where
  pub ends : IsEndOfRead end
  pub made : IsMade drive at 2 end old new
  pub looks : Looks drive (2 * drive.MOST) old new

-- an op puts an item on tape
abbrev pub IsWrite : Op → Type 0
IsWrite (op.Put at bytes) = Unit {0}
IsWrite (op.Mark at) = Unit {0}
IsWrite (op.Flush at) = ⊥

-- An op was done, or was to be done. Where the drive tells its cartridge, this says how it reads then, and what a crash
-- may have left of it at each moment of the step and may leave now. With one command alone no item was written: the
-- drive failed to locate.
pub record IsOpStep {D : Type 0} (drive : Ghosts D) (o : Op) (end : StepDone) (old new : D) : Type 0 where
  pub ends : IsEndOfOp o end
  pub made : IsMade drive (place_of o) (most_commands o) end old new
  pub told : (c : Cartridge) → drive.held old ≡ Some c
      → (d : Cartridge) × (drive.held new ≡ Some d) × AfterOp o end c d
  pub crash : (c : Cartridge) → drive.held old ≡ Some c → Crashes (WithinOp o c) (drive.commands old)
      (drive.leaves old) (drive.leaves new) (drive.left_since old) (drive.left_since new)
  pub one_command : IsWrite o → drive.commands new < min (drive.commands old + 2) (2 ^ 64 - 1) → Looks drive drive.MOST old new

-- a step of a head
abbrev pub IsStep : {D : Type 0} → Ghosts D → Work → StepDone → (old new : D) → Type 0
IsStep drive (work.Read at) end old new = IsReadStep drive at end old new
IsStep drive (work.Do o) end old new = IsOpStep drive o.now end old new

-- the bytes of a block that a read leaves: none where it failed
abbrev pub IsBlockRead : StepDone → List ℕ → Type 0
IsBlockRead (done.Read answer) block = FillsBuffer answer block
IsBlockRead done.Wrote block = ⊥
IsBlockRead done.Flushed block = ⊥
IsBlockRead (done.Failed counts) block = block ≡ []

-- an op leaves those from before
abbrev pub IsBlockAfter : Work → StepDone → (old new : List ℕ) → Type 0
IsBlockAfter (work.Read at) end old new = IsBlockRead end new
IsBlockAfter (work.Do o) end old new = new ≡ old

-- a read answers what stands at its place, with the bytes of a block
abbrev pub IsFoundAt : Place → StepDone → (block : List ℕ) → Cartridge → Type 0
IsFoundAt at (done.Read answer) block c = IsRead (item_at at c) answer block
IsFoundAt at done.Wrote block c = Unit {0}
IsFoundAt at done.Flushed block c = Unit {0}
IsFoundAt at (done.Failed counts) block c = Unit {0}

abbrev pub IsFound : Work → StepDone → (block : List ℕ) → Cartridge → Type 0
IsFound (work.Read at) end block c = IsFoundAt at end block c
IsFound (work.Do o) end block c = Unit {0}
