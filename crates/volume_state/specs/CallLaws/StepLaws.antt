-- What each step of the head shows of a served volume, and that the next one can be made.
use Rattle.std.specs.Prelude.{ℕ, ◌≡◌, ◌⊎◌, ◌<◌, ◌≤◌, ◌++◌, ◌^◌, true, List, [], ◌∷◌, Option, Some, None, slice_get}
use Rattle.tape_types.specs.declared.moments.Moment.{Moment}
use Rattle.tape_types.specs.declared.cartridges.Place.{Place}
use Rattle.tape_drive.specs.declared.drive.Drive.{Ghosts}
use Rattle.session_script.specs.declared.logs.Event.{Event}
use Rattle.head_core.specs.Steps.{CanDo, IsInReach, MayDo}
use Rattle.head_queue.specs.EventLaws.Trail.{steps}
use Rattle.head_queue.specs.EventLaws.Waiting.{is_calm, waiting_op}
use Rattle.tape_layout.specs.Ops.{HasRoom, place_of}
use Rattle.tape_layout.specs.declared.ops.Op.{Op}
use Rattle.promises.specs.ServingPromise.Served.{Fixed, View, headed, is_waiting}
use Rattle.promises.specs.ServingPromise.Steps.{KeepsReplies, StepsOnce, drain_faults}
use Rattle.promises.specs.ServingPromise.Submits.{Adds}
use Rattle.promises.specs.OrderLaws.Kept.{seen}
use Rattle.promises.specs.OrderLaws.Sides.{TurnsInOrder}
use Rattle.promises.specs.ReplyLaws.Within.{AnswersTruly}
use Rattle.promises.specs.CrashLaws.Changes.{AreDriven}
use Rattle.promises.specs.CrashLaws.Laws.{CanServe}
use Rattle.promises.specs.CrashLaws.May.{IsAllowed}
use Rattle.event_journal.specs.Trails.{first_waiter, state}
use Rattle.event_journal.specs.declared.trails.Waiter.TheVariants as waiters
use Rattle.promises.specs.PromiseLaws.Kept.{CanRead, IsKept, Plan}
use Rattle.volume_state.specs.PlanLaws.Planned.{Items}
use Rattle.volume_state.specs.StateLaws.Parts.{Parts, view_of}
use Rattle.volume_state.specs.StateLaws.Stepping.{IsOneRead, IsOneRequest, Steps}
use Rattle.volume_state.specs.StateLaws.Tied.{IsTied}

-- ---- what a step shows

-- what a step of the head adds to the view, and all that is asked of a turn beside
pub record Stepped {D : Type 0} (drive : Ghosts D) (fixed : Fixed D) (old new : View D) (added : List Event)
    : Type 0 where
  pub history : new.history ≡ old.history
  pub marks : new.marks ≡ old.marks
  pub replies : KeepsReplies old new
  pub adds : Adds (seen drive new.drive) old new added
  pub step : StepsOnce drive.MOST (seen drive old.drive) (seen drive new.drive) old new added
  pub one : steps added ≡ 1
  pub kept : new.kept ≡ old.kept ++ drain_faults old added
  pub order : TurnsInOrder (seen drive old.drive) (seen drive new.drive) old new added
  pub truth : CanRead drive fixed → AnswersTruly (seen drive fixed.first) old new
  pub driven : CanServe drive fixed → AreDriven drive old new added

-- Each step of a volume that is kept and tied shows it, and leaves the volume tied, with the same plan.
abbrev pub StepsShow : {D : Type 0} → Ghosts D → Type 0
StepsShow {D} drive = (fixed : Fixed D) (plan : Plan drive fixed) (planned : Items) (next : Option Moment)
    (old new : Parts D) (added : List Event) → IsKept drive fixed plan (view_of fixed next old)
    → IsTied drive fixed planned old → Steps drive old new added
    → Stepped drive fixed (view_of fixed next old) (view_of fixed next new) added × IsTied drive fixed planned new

-- ---- that a step can be made

-- What the head needs of a volume that is kept and tied, and of which the drive's owner allows what it may leave.
pub record CanStep {D : Type 0} (drive : Ghosts D) (p : Parts D) : Type 0 where
  -- where a reply has still to come, or a session drains, there is something to pick
  pub some : (k : ℕ) → is_waiting (state p.trail) k ≡ true → (p.queue.waiting ≡ []) → (op : Op) × (later : List Op)
      × (p.stock.layout.ops ≡ op ∷ later) × (waiting_op (state p.trail) ≡ Some (headed op))
  -- where somebody waits for ops, the op that waits is the first that stands
  pub waiting : (op : Op) (later : List Op) → p.stock.layout.ops ≡ op ∷ later → is_calm (state p.trail) ≡ true
      ⊎ (waiting_op (state p.trail) ≡ Some (headed op))
  pub none : p.stock.layout.ops ≡ [] → waiting_op (state p.trail) ≡ None
  -- the first op can be done
  pub op : (op : Op) (later : List Op) (size : ℕ) → p.stock.layout.ops ≡ op ∷ later
      → HasRoom (drive.limits p.drive) size op → size ≤ 1048576 → CanDo op (drive.limits p.drive) (drive.held p.drive)
  pub near : (op : Op) (later : List Op) → p.stock.layout.ops ≡ op ∷ later → (place_of op).pos < 2 ^ 63
  -- and what a crash may leave of it is allowed
  pub may : (op : Op) (later : List Op) → p.stock.layout.ops ≡ op ∷ later → MayDo drive op p.drive
  -- each request can be read, is of a read that waits, and has no reply yet
  pub request : (ticket : ℕ) (place : Place) → IsOneRequest p.queue.waiting ticket place
      → IsInReach place (drive.limits p.drive) (drive.held p.drive) × (place.pos < 2 ^ 63) × IsOneRead p.reads ticket
      × (slice_get p.listed.replies ticket ≡ Some None)
  -- so has each sync that waits
  pub sync : (ticket : ℕ) → first_waiter (state p.trail) ≡ Some (waiters.Sync ticket)
      → slice_get p.listed.replies ticket ≡ Some None

abbrev pub StepsCanBeMade : {D : Type 0} → Ghosts D → Type 0
StepsCanBeMade {D} drive = (fixed : Fixed D) (plan : Plan drive fixed) (planned : Items) (next : Option Moment)
    (p : Parts D) → IsKept drive fixed plan (view_of fixed next p) → IsTied drive fixed planned p
    → IsAllowed drive fixed → CanStep drive p
