-- What a close finds that has no index to write on the data partition, or none at all.
use Rattle.std.specs.Prelude.{◌≡◌, ◌⊎◌, true, false, List, [], ◌∷◌, ◌++◌, Option, Some, None}
use Rattle.tape_types.specs.declared.cartridges.Cartridge.{Cartridge}
use Rattle.tape_types.specs.declared.cartridges.Limits.{Limits}
use Rattle.tape_types.specs.declared.cartridges.Part.TheVariants.{Dp}
use Rattle.tape_types.specs.declared.moments.Moment.{Moment}
use Rattle.tape_drive.specs.declared.drive.Drive.{Ghosts}
use Rattle.tape_layout.specs.declared.ops.Op.{Op}
use Rattle.cartridge_meaning.specs.Mounts.{Mounts}
use Rattle.plain_tree.specs.declared.calls.Fate.TheVariants as fates
use Rattle.plain_tree.specs.declared.calls.Placed.{Placed}
use Rattle.session_script.specs.declared.logs.Event.{Event}
use Rattle.head_queue.specs.EventLaws.Trail.{steps}
use Rattle.space_laws.specs.Closing.{is_dp_due}
use Rattle.space_laws.specs.Space.{Space}
use Rattle.promises.specs.ServingPromise.Ends.{begun}
use Rattle.promises.specs.ServingPromise.Served.{Fixed, View}
use Rattle.promises.specs.ServingPromise.Steps.{on_after}
use Rattle.promises.specs.CrashLaws.Changes.{AreDriven}
use Rattle.promises.specs.CrashLaws.Laws.{AddsOps, IsSafeNow}
use Rattle.promises.specs.CrashLaws.Safe.{Follows, Planned, given_by, space_now}
use Rattle.volume_state.specs.PlanLaws.Planned.{IsOnWay, Items, mounted_items, with_ops}
use Rattle.volume_state.specs.ClosingLaws.Whole.{IsWhole}

-- the data partition ended with the newest index when it was mounted, or one was admitted on it since
abbrev pub HasDpIndex : {D : Type 0} → View D → Space → Type 0
HasDpIndex v space = (v.fixed.mounted.dp_done ≡ true) ⊎ (space.admitted ≡ true)

-- nothing was placed, or this one
abbrev pub GoesOnBy : {D : Type 0} → View D → View D → Type 0
GoesOnBy old new = (new.history ≡ old.history) ⊎ ((placed : Placed) × (new.history ≡ old.history ++ placed ∷ []))

-- ---- crashes

-- then no index of the index partition is ahead of it, once all ops are done
abbrev pub HasNoneAhead : {D : Type 0} → Planned → Limits → View D → Type 0
HasNoneAhead planned limits v = HasDpIndex v (space_now limits v) → planned.made.base.ahead ≡ None

-- It is so from the start on, and stays so over each submission and each turn, also one that places a write void. So a
-- close finds it that has no index to write on the data partition.
pub record NoneIsAhead {D : Type 0} (drive : Ghosts D) : Type 0 where
  pub begins : (planned : Planned) (limits : Limits) (fixed : Fixed D) (next : Option Moment) (c : Cartridge)
      → Mounts c fixed.mounted → IsSafeNow drive planned limits (begun fixed next)
      → HasNoneAhead planned limits (begun fixed next)
  pub submitted : (p q : Planned) (limits : Limits) (old new : View D) (asked : List Op) → HasNoneAhead p limits old
      → Follows p q asked → IsSafeNow drive q limits new → AddsOps limits old new → new.fixed ≡ old.fixed
      → new.on ≡ old.on → GoesOnBy old new → HasNoneAhead q limits new
  pub turned : (p : Planned) (limits : Limits) (old new : View D) (added : List Event) → HasNoneAhead p limits old
      → new.fixed ≡ old.fixed → new.history ≡ old.history → new.on ≡ on_after old added → HasNoneAhead p limits new
  pub voided : (p : Planned) (limits : Limits) (old new : View D) (added : List Event) (placed : Placed)
      → HasNoneAhead p limits old → new.fixed ≡ old.fixed → new.history ≡ old.history ++ placed ∷ []
      → placed.fate ≡ fates.Void → new.on ≡ on_after old added → HasNoneAhead p limits new
  pub closes : (p : Planned) (limits : Limits) (v : View D) → HasNoneAhead p limits v
      → is_dp_due (given_by limits v) (space_now limits v) ≡ false → p.made.base.ahead ≡ None

-- ---- the tape

-- The data partition then ends where it is planned to once no op that stands puts anything on it. And as long as
-- nothing changed and no index was admitted, no op stands, and the cartridge reads as it did at the start.
pub record IsTapeReady {D : Type 0} (drive : Ghosts D) (planned : Items) (limits : Limits) (v : View D) : Type 0 where
  pub whole : HasDpIndex v (space_now limits v) → (c : Cartridge) → drive.held v.drive ≡ Some c
      → IsWhole Dp planned v.ops c
  pub untouched : (space_now limits v).changed ≡ false → (space_now limits v).admitted ≡ false
      → (v.ops ≡ []) × (drive.held v.drive ≡ drive.held v.fixed.first)

-- a step of the head on a tape that is on its way to what is planned
pub record IsStepOnTape {D : Type 0} (drive : Ghosts D) (planned : Items) (old new : View D)
    (added : List Event) : Type 0 where
  pub way : (c : Cartridge) → drive.held old.drive ≡ Some c → IsOnWay planned old.ops c
  pub driven : AreDriven drive old new added
  pub still : steps added ≡ 0 → new.drive ≡ old.drive
  pub fixed : new.fixed ≡ old.fixed
  pub on : new.on ≡ on_after old added

-- so it is from the start on, and stays so over each submission and each turn
pub record TapesStayReady {D : Type 0} (drive : Ghosts D) : Type 0 where
  pub begins : (planned : Items) (limits : Limits) (fixed : Fixed D) (next : Option Moment)
      → ((c : Cartridge) → drive.held fixed.first ≡ Some c
      → Mounts c fixed.mounted × (planned Dp ≡ mounted_items c Dp))
      → IsTapeReady drive planned limits (begun fixed next)
  pub submitted : (planned : Items) (limits : Limits) (old new : View D) (asked : List Op)
      → IsTapeReady drive planned limits old → new.ops ≡ old.ops ++ asked → AddsOps limits old new
      → new.fixed ≡ old.fixed → new.drive ≡ old.drive → new.on ≡ old.on → GoesOnBy old new
      → IsTapeReady drive (with_ops asked planned) limits new
  pub turned : (planned : Items) (limits : Limits) (old new : View D) (added : List Event)
      → IsTapeReady drive planned limits old → IsStepOnTape drive planned old new added → new.history ≡ old.history
      → IsTapeReady drive planned limits new
  pub voided : (planned : Items) (limits : Limits) (old new : View D) (added : List Event) (placed : Placed)
      → IsTapeReady drive planned limits old → IsStepOnTape drive planned old new added
      → new.history ≡ old.history ++ placed ∷ [] → placed.fate ≡ fates.Void → IsTapeReady drive planned limits new

-- ---- what a crash leaves

-- as long as nothing changed and no index was admitted, that is no more than at the start
abbrev pub LeavesNoMore : {D : Type 0} → Ghosts D → Limits → View D → Type 0
LeavesNoMore drive limits v = (space_now limits v).changed ≡ false → (space_now limits v).admitted ≡ false
    → (image : Cartridge) → drive.leaves v.drive image → drive.leaves v.fixed.first image

-- so it is from the start on, and stays so over each submission and each turn, which only reads then
pub record VolumesRest {D : Type 0} (drive : Ghosts D) : Type 0 where
  pub begins : (limits : Limits) (fixed : Fixed D) (next : Option Moment)
      → LeavesNoMore drive limits (begun fixed next)
  pub submitted : (limits : Limits) (old new : View D) → LeavesNoMore drive limits old → AddsOps limits old new
      → new.fixed ≡ old.fixed → new.drive ≡ old.drive → new.on ≡ old.on → GoesOnBy old new
      → LeavesNoMore drive limits new
  pub turned : (planned : Items) (limits : Limits) (old new : View D) (added : List Event)
      → IsTapeReady drive planned limits old → LeavesNoMore drive limits old
      → IsStepOnTape drive planned old new added → new.history ≡ old.history → LeavesNoMore drive limits new
  pub voided : (planned : Items) (limits : Limits) (old new : View D) (added : List Event) (placed : Placed)
      → IsTapeReady drive planned limits old → LeavesNoMore drive limits old
      → IsStepOnTape drive planned old new added → new.history ≡ old.history ++ placed ∷ []
      → placed.fate ≡ fates.Void → LeavesNoMore drive limits new
