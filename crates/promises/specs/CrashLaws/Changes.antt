-- What a call changes of a volume, as far as crashes go.
use Rattle.std.specs.Prelude.{Some, None, ℕ, ◌≡◌, Bool, true, false, List, [], ◌∷◌, ◌++◌, All, map}
use Rattle.tape_types.specs.declared.cartridges.Twin.{Twin}
use Rattle.plain_tree.specs.declared.calls.Placed.{Placed}
use Rattle.head_core.specs.Steps.{IsOpStep, IsReadStep}
use Rattle.head_core.specs.declared.work.StepDone.{StepDone}
use Rattle.head_core.specs.declared.work.StepDone.TheVariants as outcome
use Rattle.session_script.specs.declared.logs.Event.{Event}
use Rattle.session_script.specs.declared.logs.Event.TheVariants as events
use Rattle.head_queue.specs.EventLaws.Waiting as waiting
use Rattle.head_queue.specs.EventLaws.Trail.{IsTrail, after_all, is_answer}
use Rattle.tape_drive.specs.declared.drive.Drive.{Ghosts}
use Rattle.tape_layout.specs.declared.ops.Op.{Op}
use Rattle.promises.specs.ServingPromise.Served.{View, headed}
use Rattle.promises.specs.ServingPromise.Steps.{on_after}
use Rattle.promises.specs.ServingPromise.Submits.{Adds, synced_at}
use Rattle.promises.specs.CrashLaws.Safe.{seen_by}

-- ---- submissions

-- an event that does no op, and begins and answers no sync
abbrev pub is_quiet : Event → Bool
is_quiet (events.Wants ticket place) = true
is_quiet (events.Queues place) = true
is_quiet (events.Syncs ticket) = false
is_quiet (events.Synced ticket) = false
is_quiet (events.Drains who) = true
is_quiet (events.Rests who) = true
is_quiet (events.Served ticket place fault) = true
is_quiet (events.Worked place fault) = false

abbrev pub AreQuiet : List Event → Type 0
AreQuiet added = All (λ e. is_quiet e ≡ true) added

-- the drive is as it was, and these ops and events are added
pub record IsAsked {D : Type 0} (drive : Ghosts D) (old new : View D) (asked : List Op) (added : List Event)
    : Type 0 where
  pub fixed : new.fixed ≡ old.fixed
  pub drive_is : new.drive ≡ old.drive
  pub on : new.on ≡ old.on
  pub ops : new.ops ≡ old.ops ++ asked
  pub adds : Adds (seen_by drive new.drive) old new added

-- a placement is added with these ops and events
pub record IsPlaced {D : Type 0} (drive : Ghosts D) (old new : View D) (placed : Placed) (asked : List Op)
    (added : List Event) : Type 0 where
  pub asks : IsAsked drive old new asked added
  pub history : new.history ≡ old.history ++ placed ∷ []

-- the events of a sync at a place: those of its ops, itself, and its answer where no op stands then
abbrev pub events_of_sync : ℕ → List Event → List Event → List Event
events_of_sync here before queues =
    queues ++ events.Syncs here ∷ synced_at here (waiting.ops (after_all (before ++ queues)))

-- the ops that stand are those for which the head waits
abbrev pub HasHeaded : {D : Type 0} → View D → Type 0
HasHeaded v = map headed v.ops ≡ waiting.ops (after_all v.events)

-- ---- steps

-- a step of the head, and behind it the answers of the syncs that it was the last to wait for
pub record IsStepped {D : Type 0} (drive : Ghosts D) (old new : View D) (step : Event) (answers : List Event)
    : Type 0 where
  pub fixed : new.fixed ≡ old.fixed
  pub history : new.history ≡ old.history
  pub on : new.on ≡ on_after old (step ∷ answers)
  pub adds : Adds (seen_by drive new.drive) old new (step ∷ answers)
  pub trail : IsTrail new.events
  pub answers_are : All (λ a. is_answer a ≡ true) answers
  pub headed_are : HasHeaded old

-- a step that ended well
abbrev pub IsWell : StepDone → Type 0
IsWell (outcome.Read answer) = Unit {0}
IsWell outcome.Wrote = Unit {0}
IsWell outcome.Flushed = Unit {0}
IsWell (outcome.Failed counts) = ⊥

-- what the head did in a step, by its event: the first op, which is then gone where it was done, or a read
abbrev pub IsDriven : {D : Type 0} → Ghosts D → View D → View D → Event → Type 0
IsDriven drive old new (events.Worked place None) = (op : Op) × (end : StepDone) × (old.ops ≡ op ∷ new.ops)
    × IsOpStep drive op end old.drive new.drive × IsWell end
IsDriven drive old new (events.Worked place (Some told)) = (op : Op) × (later : List Op) × (counts : Twin)
    × (old.ops ≡ op ∷ later) × (new.ops ≡ old.ops) × IsOpStep drive op (outcome.Failed counts) old.drive new.drive
IsDriven drive old new (events.Served ticket place fault) = (end : StepDone) × (new.ops ≡ old.ops)
    × IsReadStep drive place end old.drive new.drive
IsDriven drive old new _ = ⊥

-- of a turn: without a step the ops stay
abbrev pub AreDriven : {D : Type 0} → Ghosts D → View D → View D → List Event → Type 0
AreDriven drive old new [] = new.ops ≡ old.ops
AreDriven drive old new (step ∷ answers) = IsDriven drive old new step
