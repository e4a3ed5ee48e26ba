-- Which act of the drive each step of a log is, and what a crash could have left by each call.
use Rattle.std.specs.Prelude.{◌≡◌, ◌≢◌, ◌⊎◌, ◌≤◌, ◌+◌, cond, ℕ, false, List, [], ◌∷◌, ◌++◌, All, length, take, Option, Some}
use Rattle.std.specs.Prelude.{None}
use Rattle.tape_types.specs.Cartridges.{next}
use Rattle.tape_types.specs.declared.cartridges.Place.{Place}
use Rattle.tape_types.specs.declared.cartridges.Twin.{Twin}
use Rattle.plain_tree.specs.History.{replay}
use Rattle.plain_tree.specs.Tree.{Tree}
use Rattle.plain_tree.specs.declared.calls.Placed.{Placed}
use Rattle.session_script.specs.Grammar.{calls_of}
use Rattle.session_script.specs.declared.logs.Ack.{Ack}
use Rattle.session_script.specs.declared.logs.Event.{Event}
use Rattle.session_script.specs.declared.logs.Event.TheVariants as events
use Rattle.session_script.specs.declared.scripts.ScriptLine.{ScriptLine}
use Rattle.head_core.specs.Steps.{IsOpStep, IsReadStep}
use Rattle.head_core.specs.declared.work.StepDone.{StepDone}
use Rattle.head_core.specs.declared.work.StepDone.TheVariants as ends
use Rattle.head_queue.specs.EventLaws.Trail.{after, after_all}
use Rattle.head_queue.specs.EventLaws.Waiting as waiting
use Rattle.head_queue.specs.EventLaws.Waiting.{State, ops, waiting_op}
use Rattle.tape_drive.specs.declared.drive.Drive.{Ghosts}
use Rattle.tape_layout.specs.Ops.{place_of}
use Rattle.tape_layout.specs.declared.ops.Op.{Op}
use Rattle.cartridge_meaning.specs.Carried.{Carried, carried}
use Rattle.promises.specs.ServingPromise.Crash.{Meaning, IsSound, SurvivesCrashes}
use Rattle.promises.specs.ServingPromise.Served.{CanTell, Drive, Fixed, View, headed}
use Rattle.promises.specs.ServingPromise.Steps.{is_step}
use Rattle.promises.specs.ServingPromise.Submits.{Adds, acks_for}
use Rattle.promises.specs.OrderLaws.Kept.{seen}

-- ---- acts

-- how the head's work ended that an event tells of: it didn't fail, or it failed with these counts
abbrev pub EndedSo : Option Twin → StepDone → Type 0
EndedSo None end = (counts : Twin) → end ≢ ends.Failed counts
EndedSo (Some counts) end = end ≡ ends.Failed counts

-- The event is a step of the head, and this is the act of the drive that it tells of: the first op that stands is done
-- at its place, or the place is read.
abbrev pub IsActOf : {D : Type 0} → Ghosts D → State → (old new : D) → Event → Type 0
IsActOf drive st old new (events.Worked place fault) =
    (op : Op) × (later : List waiting.Op) × (end : StepDone) × (ops st ≡ headed op ∷ later) × (place ≡ place_of op)
    × EndedSo fault end × IsOpStep drive op end old new
IsActOf drive st old new (events.Served ticket place fault) =
    (end : StepDone) × EndedSo fault end × IsReadStep drive place end old new
IsActOf drive st old new _ = ⊥

-- What the events of one call are on the drive: none is a step of the head, and the drive is as it was; or the first
-- one is, and the drive did its act and nothing else.
pub data AreActs {D : Type 0} (drive : Ghosts D) (st : State) (old new : D) : List Event → Type 0 where
  none : (added : List Event) → All (λ e. is_step e ≡ false) added → new ≡ old → AreActs drive st old new added
  one : (e : Event) (others : List Event) → IsActOf drive st old new e → All (λ o. is_step o ≡ false) others
      → AreActs drive st old new (e ∷ others)

-- what a call of a volume makes: a placement at most, and events, with an ack for each sync that these answer
pub record Moves {D : Type 0} (drive : Ghosts D) (old new : View D) : Type 0 where
  pub fixed : new.fixed ≡ old.fixed
  pub placed : List Placed
  pub one : length placed ≤ 1
  pub history : new.history ≡ old.history ++ placed
  pub added : List Event
  pub adds : Adds (seen drive new.drive) old new added
  pub acts : AreActs drive (after_all old.events) old.drive new.drive added

-- ---- a run, call by call

-- The drive goes from its first state to its last one by the acts of the calls alone: each begins with the drive as the
-- one before has left it. An ack has the drive's number of commands as its call returned. What is said of the history,
-- of the acks and of the drive held at the start, and as each call returned.
pub data HasGone {D : Type 0} (drive : Ghosts D) (Holds : List Placed → List Ack → D → Type 0) (first : D)
    : List Placed → List Event → List Ack → D → Type 0 where
  begun : Holds [] [] first → HasGone drive Holds first [] [] [] first
  called : (history placed : List Placed) (trail added : List Event) (acks : List Ack) (old new : D)
      → HasGone drive Holds first history trail acks old → length placed ≤ 1
      → AreActs drive (after_all trail) old new added
      → Holds (history ++ placed) (acks ++ acks_for (drive.commands new) added) new
      → HasGone drive Holds first (history ++ placed) (trail ++ added) (acks ++ acks_for (drive.commands new) added) new

-- Each image that a crash may have left by then stands for the tree after some placements of those that had been made,
-- with all that the syncs covered that had been acknowledged.
abbrev pub SurvivesThen : {D : Type 0} → Ghosts D → Meaning → List ScriptLine → Carried → Tree → (since : ℕ)
    → List Placed → List Ack → D → Type 0
SurvivesThen drive m script facts tree since history acks now =
    SurvivesCrashes m facts (λ k. replay (calls_of script) tree (take k history)) (length history) acks
    (seen drive now).leavings since

-- where the cartridge stood for its tree and was sound as serving began
abbrev pub IsServedThen : {D : Type 0} → Ghosts D → Meaning → Fixed D → List Placed → List Ack → D → Type 0
IsServedThen drive m fixed history acks now =
    CanTell (λ c. m.Stands c (carried fixed.mounted.index) fixed.tree fixed.mounted.newest × IsSound m c) fixed.since
    (seen drive fixed.first)
    → SurvivesThen drive m fixed.script (carried fixed.mounted.index) fixed.tree fixed.since history acks now

-- how a volume has been served so far
abbrev pub IsGone : {D : Type 0} → Ghosts D → Meaning → View D → Type 0
IsGone drive m v = HasGone drive (IsServedThen drive m v.fixed) v.fixed.first v.history v.events v.acks v.drive

-- ---- where the head stands

-- behind a place where an item was put, and at a place that was read or behind it
abbrev pub StandsBehind : Event → Option waiting.Op → Option Place → Type 0
StandsBehind (events.Served ticket place None) first head = (head ≡ Some (next place)) ⊎ (head ≡ Some place)
StandsBehind (events.Worked place None) (Some op) head = op.flush ≡ false → head ≡ Some (next place)
StandsBehind _ _ head = Unit {0}

-- ---- numbers of commands

-- how many commands a step takes that is done: a locate and a transfer, or a flush alone
abbrev pub commands_of : State → Event → ℕ
commands_of st (events.Worked place fault) = by (waiting.first_of (ops st))
  where
    by : Option waiting.Op → ℕ
    by None = 0
    by (Some op) = cond op.flush 1 2
commands_of st (events.Served ticket place fault) = 2
commands_of st _ = 0

-- the acks of a trail whose steps are all done, from a state and a number of commands on, where a command counts one
abbrev pub numbered : State → ℕ → List Event → List Ack
numbered st count [] = []
numbered st count (e ∷ later) =
    acks_for count (e ∷ []) ++ numbered (after st e) (count + commands_of st e) later

-- how many commands such a trail takes
abbrev pub commands_in : State → List Event → ℕ
commands_in st [] = 0
commands_in st (e ∷ later) = commands_of st e + commands_in (after st e) later
