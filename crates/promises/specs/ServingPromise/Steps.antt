-- What a turn of the head adds to a volume.
use Rattle.std.specs.Prelude.{◌≡◌, ◌≢◌, ◌⊎◌, ◌≤◌, ◌<◌, ◌==◌, ◌&&◌, ◌+◌, ◌*◌, ◌-◌, ◌^◌, min, not, ℕ, Bool, true, false}
use Rattle.std.specs.Prelude.{cond, List, [], ◌∷◌, ◌++◌, All, filter, filter_map, length, Option, Some, None, IfSome}
use Rattle.std.specs.Prelude.{is_some, slice_get}
use Rattle.std.specs.List.{list_any, scan}
use Rattle.tape_types.specs.declared.cartridges.Item.{Item}
use Rattle.tape_types.specs.declared.cartridges.Item.TheVariants as items
use Rattle.tape_types.specs.declared.cartridges.Item.TheVariants.{Block, Torn}
use Rattle.tape_drive.specs.Commands.{item_at}
use Rattle.tape_types.specs.Cartridges.{next}
use Rattle.tape_types.specs.declared.cartridges.Part.TheVariants.{Dp}
use Rattle.tape_types.specs.declared.cartridges.Place.{Place}
use Rattle.tape_types.specs.declared.cartridges.Twin.{Twin}
use Rattle.plain_tree.specs.declared.calls.Fate.TheVariants as fates
use Rattle.session_script.specs.declared.logs.Event.{Event}
use Rattle.session_script.specs.declared.logs.Event.TheVariants as events
use Rattle.session_script.specs.declared.logs.Reply.{Reply}
use Rattle.session_script.specs.declared.logs.Reply.TheVariants as replies
use Rattle.head_queue.specs.EventLaws.Waiting.{State, Op, first_of, waiting_op, same_part}
use Rattle.head_queue.specs.EventLaws.Trail.{Owner, of_session, after, after_all, both, fault_of, is_answer, owner_of, step_to}
use Rattle.head_queue.specs.EventLaws.Trail.{steps}
use Rattle.tape_layout.specs.declared.ops.Op as ops
use Rattle.tape_layout.specs.declared.ops.Op.TheVariants.{Put, Mark, Flush}
use Rattle.promises.specs.ServingPromise.Cached.{KeepsBlocks}
use Rattle.promises.specs.ServingPromise.Faults.{kept_for}
use Rattle.promises.specs.ServingPromise.Marks.{marks_of_turn, marks_of_drain, places_of}
use Rattle.promises.specs.ServingPromise.Served.{Drive, View}
use Rattle.promises.specs.declared.serving_promise.answers.Turn.{Turn}
use Rattle.promises.specs.declared.serving_promise.answers.Turn.TheVariants as turns
use Rattle.promises.specs.declared.serving_promise.answers.Drained.{Drained}
use Rattle.promises.specs.declared.serving_promise.answers.Drained.TheVariants as drained
use Rattle.promises.specs.ServingPromise.Submits.{Adds, Places, standing_ops}

-- ---- head steps

abbrev pub is_step : Event → Bool
is_step e = is_some (step_to e)

-- a step of the head, and behind it the answers of the syncs that it was the last to wait for; or no event
pub data AreOfStep : List Event → Type 0 where
  no_step : AreOfStep []
  one_step : (e : Event) (answers : List Event) → is_step e ≡ true → All (λ a. is_answer a ≡ true) answers
      → AreOfStep (e ∷ answers)

-- The counts of the drive rise by what one step makes, which is a command at least, and never fall; without a step
-- the drive is as it was.
pub record StepCounts {D : Type 0} (most : ℕ) (before now : Drive) (old new : View D)
    (added : List Event) : Type 0 where
  pub still : steps added ≡ 0 → new.drive ≡ old.drive
  pub later : before.commands ≤ now.commands
  pub at_least : min (before.commands + steps added) (2 ^ 64 - 1) ≤ now.commands
  pub faults : before.faults ≤ now.faults
  pub at_most : now.commands ≤ min (before.commands + 2 * most) (2 ^ 64 - 1)

-- an op that isn't a flush was done: the head stands one behind it
abbrev pub HeadIsBehind : Option Op → Event → Option Place → Type 0
HeadIsBehind (Some op) (events.Worked place None) head = op.flush ≡ false → head ≡ Some (next place)
HeadIsBehind _ _ head = Unit {0}

-- a block or a mark was read: the head stands one behind it
abbrev pub HeadIsRead : Drive → Event → Option Place → Type 0
HeadIsRead before (events.Served ticket place None) head =
    IfSome before.held (λ c. IfSome (item_at place c) (λ item. item ≢ Torn → head ≡ Some (next place)))
HeadIsRead before _ head = Unit {0}

-- what an op leaves at its place
abbrev pub item_of : ops.Op → Option Item
item_of (Put place bytes) = Some (Block bytes)
item_of (Mark place) = Some items.Mark
item_of (Flush place) = None

-- an op that was done stands on the tape with its bytes
abbrev pub IsOnTape : Drive → Option ops.Op → Event → Type 0
IsOnTape now (Some op) (events.Worked place None) =
    IfSome now.held (λ c. IfSome (item_of op) (λ item. item_at place c ≡ Some item))
IsOnTape now _ _ = Unit {0}

-- the faults of an event that a session that drains owns
abbrev pub session_of : Option Owner → Option ℕ
session_of (Some (of_session who)) = Some who
session_of _ = None

abbrev pub drain_fault : State → Event → Option (ℕ × Twin)
drain_fault st e = both (session_of (owner_of st e)) (fault_of e)

abbrev pub drain_faults : {D : Type 0} → View D → List Event → List (ℕ × Twin)
drain_faults old added = filter_map (λ o. o) (scan after drain_fault (after_all old.events) added)

-- the op at the head of the list is a flush of the data partition, and this event says that it is done
abbrev pub does_dp_flush : Option Op → Event → Bool
does_dp_flush (Some op) (events.Worked place None) = op.flush && same_part op.place.part Dp
does_dp_flush _ _ = false

-- placement on the index partition is on from here on, where this is the first flush of the data partition
abbrev pub on_after : {D : Type 0} → View D → List Event → Option ℕ
on_after old added = by old.on
  where
    by : Option ℕ → Option ℕ
    by (Some first) = Some first
    by None = cond (list_any (does_dp_flush (waiting_op (after_all old.events))) added) (Some (length old.history)) None

-- the replies that were there stay
pub record KeepsReplies {D : Type 0} (old new : View D) : Type 0 where
  pub count : length new.replies ≡ length old.replies
  pub each : (k : ℕ) (reply : Reply) → slice_get old.replies k ≡ Some (Some reply)
      → slice_get new.replies k ≡ Some (Some reply)

-- nothing is placed, and a step may bring the reply of a read or a sync that waits
pub record OnlyAnswers {D : Type 0} (old new : View D) : Type 0 where
  pub history : new.history ≡ old.history
  pub next : new.next ≡ old.next
  pub replies : KeepsReplies old new

-- one step of the head at most, and what it brings: a block that was read for a request is kept, or there is no memory
pub record StepsOnce {D : Type 0} (most : ℕ) (before now : Drive) (old new : View D) (added : List Event) : Type 0 where
  pub shape : AreOfStep added
  pub counts : StepCounts most before now old new added
  pub op_head : All (λ e. HeadIsBehind (waiting_op (after_all old.events)) e now.head) added
  pub read_head : All (λ e. HeadIsRead before e now.head) added
  pub on_tape : All (λ e. IsOnTape now (first_of old.ops) e) added
  pub on : new.on ≡ on_after old added
  pub cached : KeepsBlocks before.held added old.cached new.cached

-- ---- turn

abbrev pub IsTurn : {D : Type 0} → View D → ℕ → List Event → Turn → Type 0
IsTurn new ticket added (turns.Ready reply) = slice_get new.replies ticket ≡ Some (Some reply)
IsTurn new ticket added turns.More = (slice_get new.replies ticket ≡ Some None) × (steps added ≡ 1)

-- A turn of a session that waits for a ticket. Where the reply is there it makes no step.
pub record Turns {D : Type 0} (most : ℕ) (before now : Drive) (old new : View D) (who ticket : ℕ)
    (answer : Turn) : Type 0 where
  pub fixed : new.fixed ≡ old.fixed
  pub history : new.history ≡ old.history
  pub next : new.next ≡ old.next
  pub replies : KeepsReplies old new
  pub added : List Event
  pub adds : Adds now old new added
  pub step : StepsOnce most before now old new added
  pub none : (reply : Reply) → slice_get old.replies ticket ≡ Some (Some reply) → added ≡ []
  pub kept : new.kept ≡ old.kept ++ drain_faults old added
  pub marks : new.marks ≡ old.marks ++ marks_of_turn who ticket answer
  pub answered : IsTurn new ticket added answer

-- ---- drain_turn

-- the faults without those of a session
abbrev pub without_session : ℕ → List (ℕ × Twin) → List (ℕ × Twin)
without_session who kept = filter (λ e. not (e.0 == who)) kept

-- a fault that is kept comes first, then room, and else there was a step
abbrev pub IsDrained : {D : Type 0} → View D → View D → ℕ → List Event → Drained → Type 0
IsDrained old new who made (drained.Fault counts) =
    (kept_for who (old.kept ++ drain_faults old made) ≡ counts ∷ [])
    × Places old new who (length (places_of who old.marks)) fates.Void (Some (replies.Fault counts))
IsDrained old new who made drained.Room = (kept_for who (old.kept ++ drain_faults old made) ≡ [])
    × (standing_ops new ≤ 64) × OnlyAnswers old new
IsDrained old new who made drained.More = (kept_for who (old.kept ++ drain_faults old made) ≡ [])
    × (64 < standing_ops new) × (steps made ≡ 1)
    × OnlyAnswers old new

-- the event with which a session rests
abbrev pub rest_of : ℕ → Drained → List Event
rest_of who drained.Room = events.Rests who ∷ []
rest_of who drained.More = []
rest_of who (drained.Fault counts) = []

-- A turn of a session that drains. Its write is placed void with the fault that it owns.
pub record DrainsOnce {D : Type 0} (most : ℕ) (before now : Drive) (old new : View D) (who : ℕ)
    (answer : Drained) : Type 0 where
  pub fixed : new.fixed ≡ old.fixed
  pub made : List Event
  pub adds : Adds now old new (made ++ rest_of who answer)
  pub step : StepsOnce most before now old new made
  pub none : (0 < length (kept_for who old.kept)) ⊎ (standing_ops old ≤ 64) → made ≡ []
  pub kept : new.kept ≡ without_session who (old.kept ++ drain_faults old made)
  pub marks : new.marks ≡ old.marks ++ marks_of_drain who (length old.history) answer
  pub answered : IsDrained old new who made answer
