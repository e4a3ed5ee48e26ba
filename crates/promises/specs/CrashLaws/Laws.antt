-- What is kept over each call of a served volume, and what that gives.
use Rattle.std.specs.Prelude.{ℕ, ◌+◌, ◌≤◌, ◌≡◌, Bool, true, false, List, [], ◌∷◌, ◌++◌, length, Option, Some, None}
use Rattle.tape_types.specs.declared.cartridges.Cartridge.{Cartridge}
use Rattle.tape_types.specs.declared.cartridges.Limits.{Limits}
use Rattle.tape_types.specs.declared.cartridges.Place.{Place}
use Rattle.tape_types.specs.declared.cartridges.Twin.{Twin}
use Rattle.tape_types.specs.declared.moments.Moment.{Moment}
use Rattle.plain_tree.specs.History.{call_at}
use Rattle.plain_tree.specs.declared.calls.Call.{Call}
use Rattle.plain_tree.specs.declared.calls.Call.TheVariants.{Sync}
use Rattle.plain_tree.specs.declared.calls.Fate.TheVariants as fates
use Rattle.plain_tree.specs.declared.calls.Placed.{Placed}
use Rattle.session_script.specs.Grammar.{calls_of}
use Rattle.session_script.specs.declared.logs.Event.{Event}
use Rattle.session_script.specs.declared.logs.Event.TheVariants as events
use Rattle.tape_drive.specs.declared.drive.Drive.{Ghosts}
use Rattle.tape_layout.specs.declared.ops.Op.{Op}
use Rattle.tape_layout.specs.Ops.{HasRoom, end_of}
use Rattle.cartridge_meaning.specs.Carried.{carried}
use Rattle.cartridge_meaning.specs.Meaning.{Stands}
use Rattle.cartridge_meaning.specs.Mounts.{Mounts}
use Rattle.head_core.specs.Steps.{CanDo, IsOpStep, IsReadStep}
use Rattle.head_core.specs.declared.work.StepDone.{StepDone}
use Rattle.head_core.specs.declared.work.StepDone.TheVariants as outcome
use Rattle.space_laws.specs.Space.{Ask, Rules, Space, first_space, index, ops_of, part_for, store}
use Rattle.space_laws.specs.Space as space
use Rattle.space_laws.specs.Standing.{admitted_at, after_placed, asked, is_on, rules, sync_text}
use Rattle.promises.specs.ImageLaws.Kept.{IsStep, IsSureAfter}
use Rattle.promises.specs.ImageLaws.Events.{IsDone, IsFailed, Within}
use Rattle.promises.specs.ImageLaws.Made.{CoveredIndex, Job, part_items}
use Rattle.promises.specs.ImageLaws.Moments.{moment_of}
use Rattle.promises.specs.ImageLaws.Plans.{IsDue, data_jobs, index_jobs}
use Rattle.promises.specs.ImageLaws.Starts.{made_of}
use Rattle.index_model.specs.declared.indexes.Index.{Index}
use Rattle.tape_types.specs.declared.cartridges.Part.{Part}
use Rattle.promises.specs.ServingPromise.Crash.{IsSound, SurvivesCrashes}
use Rattle.promises.specs.ServingPromise.Ends.{begun}
use Rattle.promises.specs.ServingPromise.Meanings.{cartridges}
use Rattle.promises.specs.ServingPromise.Mount.{facts_of}
use Rattle.promises.specs.ServingPromise.Served.{CanTell, Fixed, View, tree_after}
use Rattle.promises.specs.ServingPromise.Steps.{DrainsOnce, Turns, on_after}
use Rattle.promises.specs.ServingPromise.Submits.{Submits}
use Rattle.promises.specs.declared.serving_promise.answers.Drained.{Drained}
use Rattle.promises.specs.declared.serving_promise.answers.Submitted.{Submitted}
use Rattle.promises.specs.declared.serving_promise.answers.Turn.{Turn}
use Rattle.head_queue.specs.EventLaws.Trail.{IsTrail}
use Rattle.promises.specs.CrashLaws.Changes.{AreDriven, AreQuiet, HasHeaded, IsAsked, IsPlaced, IsStepped, IsWell}
use Rattle.promises.specs.CrashLaws.Changes.{events_of_sync}
use Rattle.promises.specs.CrashLaws.Safe.{Follows, IsSafe, Planned, given_by, seen_by, space_now, standing_now, trees_of}
use Rattle.promises.specs.CrashLaws.Safe.{volume_of, with_jobs, items_by}

-- the drive tells a cartridge that stands for the tree and is sound, and a crash leaves just that one
abbrev pub CanServe : {D : Type 0} → Ghosts D → Fixed D → Type 0
CanServe drive fixed = CanTell
    (λ c. Stands c (carried fixed.mounted.index) fixed.tree fixed.mounted.newest × IsSound cartridges c) fixed.since
    (seen_by drive fixed.first)

-- a volume that was mounted from such a cartridge is safe when it begins
abbrev pub StartsAreSafe : {D : Type 0} → Ghosts D → Type 0
StartsAreSafe {D = D} drive = (fixed : Fixed D) (next : Option Moment) (can : CanServe drive fixed)
    → Mounts can.held fixed.mounted
    → (last : Index) × (can.reads_as.0.reads.found.on_dp ≡ Some last)
    × IsSafe drive (record {
      labels = can.reads_as.0.reads.found.labels;
      made = made_of can.held can.reads_as.0.reads.found.on_ip last;
    }) (first_space (facts_of fixed.mounted)) (begun fixed next)

-- the last placement leaves the tree as it was
abbrev pub IsStill : {D : Type 0} → View D → View D → Type 0
IsStill old new = tree_after new (length new.history) ≡ tree_after old (length old.history)

-- the jobs of bytes, on the partition to which they go
abbrev pub stored_jobs : Rules → Bool → Space → Bool → List ℕ → List Job
stored_jobs rules on s wanted bytes = jobs_on (part_for rules on s wanted bytes)
  where
    jobs_on : Part → List Job
    jobs_on part = data_jobs rules part (end_of part s.ends) bytes

-- A submission keeps a volume safe, by what it asks of the tape: nothing, with or without a change of the tree; bytes
-- on a partition; the index of a sync, with the text that is due; or nothing for a sync before which nothing changed.
pub record SubmissionsAreSafe {D : Type 0} (drive : Ghosts D) : Type 0 where
  pub unplaced : (p : Planned) (s : Space) (old new : View D) (added : List Event)
      → IsSafe drive p s old → IsAsked drive old new [] added → new.history ≡ old.history → AreQuiet added
      → IsSafe drive p s new
  pub still : (p : Planned) (s : Space) (old new : View D) (placed : Placed) (added : List Event)
      → IsSafe drive p s old → IsPlaced drive old new placed [] added → AreQuiet added → IsStill old new
      → IsSafe drive p s new
  pub changed : (p : Planned) (s : Space) (old new : View D) (placed : Placed) (added : List Event)
      → IsSafe drive p s old → IsPlaced drive old new placed [] added → AreQuiet added
      → IsSafe drive p (record s { changed = true }) new
  pub stored : (p : Planned) (s : Space) (old new : View D) (placed : Placed) (added : List Event) (rules : Rules)
      (place : ℕ) (wanted : Bool) (bytes : List ℕ)
      → IsSafe drive p s old
      → IsPlaced drive old new placed
      (ops_of rules (is_on (facts_of old.fixed.mounted) old.on place) s (store wanted bytes)) added
      → AreQuiet added
      → IsSafe drive
      (with_jobs (stored_jobs rules (is_on (facts_of old.fixed.mounted) old.on place) s wanted bytes) p)
      (space.after rules (is_on (facts_of old.fixed.mounted) old.on place) s (store wanted bytes)) new
  pub synced : (p : Planned) (s : Space) (old new : View D) (placed : Placed) (queues : List Event) (rules : Rules)
      (on : Bool) (text : List ℕ) (e : CoveredIndex)
      → IsSafe drive p s old
      → IsPlaced drive old new placed (ops_of rules on s (index text))
      (events_of_sync (length old.history) old.events queues)
      → AreQuiet queues → HasHeaded new → IsStill old new → 1 ≤ rules.block_size
      → IsDue (volume_of p.labels old) (trees_of old) p.made s text e
      → IsSafe drive (with_jobs (index_jobs rules s text e) p) (space.after rules on s (index text)) new
  pub unchanged : (p : Planned) (s : Space) (old new : View D) (placed : Placed) (queues : List Event)
      → IsSafe drive p s old
      → IsPlaced drive old new placed [] (events_of_sync (length old.history) old.events queues)
      → AreQuiet queues → HasHeaded new → IsStill old new → s.changed ≡ false → IsSafe drive p s new

-- what a head says of an op is what the theory of crashes asks of it
pub record HeadsDoOps {D : Type 0} (drive : Ghosts D) : Type 0 where
  pub step : (op : Op) (end : StepDone) (old new : D) (before now : Cartridge) → IsOpStep drive op end old new
      → drive.held old ≡ Some before → drive.held new ≡ Some now
      → IsStep (Within op before) (moment_of drive old before) (moment_of drive new now)
  pub done : (op : Op) (end : StepDone) (old new : D) (before now : Cartridge) → IsOpStep drive op end old new
      → IsWell end → drive.held old ≡ Some before → drive.held new ≡ Some now
      → IsDone op before now × IsSureAfter op (moment_of drive new now)
  pub failed : (op : Op) (counts : Twin) (old new : D) (before now : Cartridge)
      → IsOpStep drive op (outcome.Failed counts) old new → drive.held old ≡ Some before → drive.held new ≡ Some now
      → IsFailed op before now

-- A step of the head keeps a volume safe: the first op done, with an ack for each sync that is due then; the first op
-- failed, for which its owner waits no more; and a read. What the head can do of the first op goes by its room.
pub record StepsAreSafe {D : Type 0} (drive : Ghosts D) : Type 0 where
  pub done : (p : Planned) (s : Space) (old new : View D) (op : Op) (place : Place) (end : StepDone)
      (answers : List Event)
      → IsSafe drive p s old → IsStepped drive old new (events.Worked place None) answers
      → old.ops ≡ op ∷ new.ops → IsOpStep drive op end old.drive new.drive → IsWell end → IsSafe drive p s new
  pub failed : (p : Planned) (s : Space) (old new : View D) (op : Op) (later : List Op) (place : Place)
      (counts told : Twin) (answers : List Event)
      → IsSafe drive p s old → IsStepped drive old new (events.Worked place (Some told)) answers
      → old.ops ≡ op ∷ later → new.ops ≡ old.ops → IsOpStep drive op (outcome.Failed counts) old.drive new.drive
      → IsSafe drive p s new
  pub read : (p : Planned) (s : Space) (old new : View D) (ticket : ℕ) (place : Place) (fault : Option Twin)
      (end : StepDone) (answers : List Event)
      → IsSafe drive p s old → IsStepped drive old new (events.Served ticket place fault) answers
      → new.ops ≡ old.ops → IsReadStep drive place end old.drive new.drive → IsSafe drive p s new
  pub can_do : (p : Planned) (s : Space) (v : View D) (op : Op) (later : List Op) (size : ℕ)
      → IsSafe drive p s v → v.ops ≡ op ∷ later → HasRoom (drive.limits v.drive) size op → size ≤ 1048576
      → CanDo op (drive.limits v.drive) (drive.held v.drive)

-- a safe volume keeps the promise on crashes
abbrev pub SafeVolumesSurvive : {D : Type 0} → Ghosts D → Type 0
SafeVolumesSurvive {D = D} drive = (p : Planned) (s : Space) (v : View D) → IsSafe drive p s v
    → SurvivesCrashes cartridges (carried v.fixed.mounted.index) (tree_after v) (length v.history) v.acks
    (seen_by drive v.drive).leavings v.fixed.since

-- ---- the space that goes with the history

-- at the start it is that of the mount; what a placement leaves is what its call does to what stood before; and that
-- files may go to the index partition from the end of the history on changes nothing of what stands
pub record StandingsGoOn (D : Type 0) : Type 0 where
  pub begins : (limits : Limits) (fixed : Fixed D) (next : Option Moment)
      → space_now limits (begun fixed next) ≡ first_space (facts_of fixed.mounted)
  pub placed : (limits : Limits) (old new : View D) (p : Placed) → new.fixed ≡ old.fixed → new.on ≡ old.on
      → new.history ≡ old.history ++ p ∷ []
      → standing_now limits new
      ≡ after_placed (given_by limits old) (is_on (facts_of old.fixed.mounted) old.on (length old.history))
      (standing_now limits old) p
  pub stepped : (limits : Limits) (old new : View D) (added : List Event) → new.fixed ≡ old.fixed
      → new.history ≡ old.history → new.on ≡ on_after old added → standing_now limits new ≡ standing_now limits old

-- what the next call asks of the tape
abbrev pub next_ask : {D : Type 0} → Limits → View D → Call → Moment → Ask
next_ask limits v call at = asked (given_by limits v) v.on v.history (length v.history) call at

-- and the ops that this is
abbrev pub next_ops : {D : Type 0} → Limits → View D → Ask → List Op
next_ops limits v ask =
    ops_of (rules (given_by limits v)) (is_on (facts_of v.fixed.mounted) v.on (length v.history))
    (space_now limits v) ask

-- a safe volume with the space that its history leaves
abbrev pub IsSafeNow : {D : Type 0} → Ghosts D → Planned → Limits → View D → Type 0
IsSafeNow drive p limits v = IsSafe drive p (space_now limits v) v

-- with these ops more
abbrev pub IsSafeWith : {D : Type 0} → Ghosts D → Planned → Limits → List Op → View D → Type 0
IsSafeWith drive p limits asked v = (q : Planned) × Follows p q asked × IsSafeNow drive q limits v

-- no index
abbrev pub AsksNoIndex : Ask → Type 0
AsksNoIndex space.nothing = Unit {0}
AsksNoIndex space.change = Unit {0}
AsksNoIndex (store wanted bytes) = Unit {0}
AsksNoIndex (index text) = ⊥

-- The index of a sync is due that is placed next at a moment: it is one of the volume, of the whole history, which
-- tells its tree from what stands once all ops are done.
abbrev pub IsNextDue : {D : Type 0} → Planned → Limits → View D → Moment → Type 0
IsNextDue p limits v at = (e : CoveredIndex) × IsDue (volume_of p.labels v) (trees_of v) p.made (space_now limits v)
    (sync_text (given_by limits v) (standing_now limits v) at) e

-- Each call that is placed keeps a volume safe, with the space that its history leaves: a void one; one that asks for
-- no index; and a sync, with the index that is due where anything changed.
pub record CallsAreSafe {D : Type 0} (drive : Ghosts D) : Type 0 where
  pub void : (p : Planned) (limits : Limits) (old new : View D) (placed : Placed) (added : List Event)
      → IsSafeNow drive p limits old → IsPlaced drive old new placed [] added → AreQuiet added
      → placed.fate ≡ fates.Void → IsSafeNow drive p limits new
  pub done : (p : Planned) (limits : Limits) (old new : View D) (placed : Placed) (call : Call) (added : List Event)
      → IsSafeNow drive p limits old
      → IsPlaced drive old new placed (next_ops limits old (next_ask limits old call placed.at)) added → AreQuiet added
      → placed.fate ≡ fates.Done → call_at (calls_of old.fixed.script) placed ≡ Some call
      → AsksNoIndex (next_ask limits old call placed.at)
      → IsSafeWith drive p limits (next_ops limits old (next_ask limits old call placed.at)) new
  pub synced : (p : Planned) (limits : Limits) (old new : View D) (placed : Placed) (queues : List Event)
      → IsSafeNow drive p limits old
      → IsPlaced drive old new placed (next_ops limits old (next_ask limits old Sync placed.at))
      (events_of_sync (length old.history) old.events queues)
      → AreQuiet queues → HasHeaded new
      → placed.fate ≡ fates.Done → call_at (calls_of old.fixed.script) placed ≡ Some Sync
      → 1 ≤ old.fixed.mounted.label.block
      → ((space_now limits old).changed ≡ true → IsNextDue p limits old placed.at)
      → IsSafeWith drive p limits (next_ops limits old (next_ask limits old Sync placed.at)) new

-- a submission adds the ops that its placement admits
pub record AddsOps {D : Type 0} (limits : Limits) (old new : View D) : Type 0 where
  pub placed : (p : Placed) → new.history ≡ old.history ++ p ∷ []
      → new.ops ≡ old.ops ++ admitted_at (given_by limits old) old.on old.history (length old.history) p
  pub unplaced : new.history ≡ old.history → new.ops ≡ old.ops

-- Each submission keeps a volume safe, in the words of what it adds to the view: with the ops that are admitted, and
-- with the index that is due of a sync before which anything changed.
abbrev pub SubmitsAreSafe : {D : Type 0} → Ghosts D → Type 0
SubmitsAreSafe {D = D} drive = (p : Planned) (old new : View D) (who nth : ℕ) (answer : Submitted)
    → IsSafeNow drive p (drive.limits old.fixed.first) old
    → Submits (seen_by drive old.fixed.first) (seen_by drive new.drive) old new who nth answer
    → AddsOps (drive.limits old.fixed.first) old new → HasHeaded new → 1 ≤ old.fixed.mounted.label.block
    → ((placed : Placed) → new.history ≡ old.history ++ placed ∷ [] → placed.fate ≡ fates.Done
    → call_at (calls_of old.fixed.script) placed ≡ Some Sync
    → (space_now (drive.limits old.fixed.first) old).changed ≡ true
    → IsNextDue p (drive.limits old.fixed.first) old placed.at)
    → (asked : List Op) × (new.ops ≡ old.ops ++ asked) × IsSafeWith drive p (drive.limits old.fixed.first) asked new

-- So does each turn of the head, of a session that waits and of one that drains, whose write may be placed void with
-- the fault that it owns: what the head did in its step is said beside.
pub record TurnsAreSafe {D : Type 0} (drive : Ghosts D) : Type 0 where
  pub waiting : (p : Planned) (limits : Limits) (old new : View D) (most who ticket : ℕ) (answer : Turn)
      → IsSafeNow drive p limits old
      → (t : Turns most (seen_by drive old.drive) (seen_by drive new.drive) old new who ticket answer)
      → AreDriven drive old new t.added → IsTrail new.events → HasHeaded old → IsSafeNow drive p limits new
  pub draining : (p : Planned) (limits : Limits) (old new : View D) (most who : ℕ) (answer : Drained)
      → IsSafeNow drive p limits old
      → (t : DrainsOnce most (seen_by drive old.drive) (seen_by drive new.drive) old new who answer)
      → AreDriven drive old new t.made → IsTrail new.events → HasHeaded old → IsSafeNow drive p limits new

-- what is planned grows by the items of the ops that were added
abbrev pub PlansGrow : Type 0
PlansGrow = (old new : Planned) (asked : List Op) → Follows old new asked
    → (part : Part) → part_items part new.made ≡ part_items part old.made ++ items_by part asked
