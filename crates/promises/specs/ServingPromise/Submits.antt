-- What a submission adds to a volume.
use Rattle.plain_tree.specs.declared.calls.Fate.{Fate}
use Rattle.std.specs.Prelude.{◌≡◌, ◌⊎◌, ◌<◌, ◌&&◌, ◌-◌, min, nat_lt, ℕ, Bool, true, false, List, [], ◌∷◌, ◌++◌, map}
use Rattle.std.specs.Prelude.{filter_map, length, Option, Some, None, IfSome, slice_get}
use Rattle.tape_types.specs.declared.cartridges.Place.{Place}
use Rattle.plain_tree.specs.declared.calls.Call.{Call}
use Rattle.plain_tree.specs.declared.calls.Fate.TheVariants as fates
use Rattle.session_script.specs.declared.logs.Reply.TheVariants as replies
use Rattle.plain_tree.specs.declared.calls.Placed.{Placed}
use Rattle.plain_tree.specs.Refusals.{refusal_of}
use Rattle.plain_tree.specs.declared.calls.Call.TheVariants.{Read, Write, Sync}
use Rattle.plain_tree.specs.declared.calls.Refusal.{Refusal}
use Rattle.plain_tree.specs.declared.calls.Refusal.TheVariants.{Damaged}
use Rattle.extent_map.specs.Laid.{Laid}
use Rattle.extent_map.specs.Pieces.{planned}
use Rattle.extent_map.specs.Replies.{distinct}
use Rattle.extent_map.specs.declared.pieces.Piece.{Piece}
use Rattle.extent_map.specs.declared.pieces.Piece.TheVariants.{Stored, Zeros}
use Rattle.space_laws.specs.Standing.{Standing, standing, uid_at}
use Rattle.session_script.specs.Grammar.{calls_of}
use Rattle.session_script.specs.declared.logs.Ack.{Ack}
use Rattle.session_script.specs.declared.logs.Event.{Event}
use Rattle.session_script.specs.declared.logs.Event.TheVariants as events
use Rattle.session_script.specs.declared.logs.Reply.{Reply}
use Rattle.head_queue.specs.EventLaws.Waiting.{Op, ops}
use Rattle.head_queue.specs.EventLaws.Trail.{after_all}
use Rattle.block_cache.specs.Kept.{Kept}
use Rattle.promises.specs.ServingPromise.Acks.{synced_ticket}
use Rattle.promises.specs.ServingPromise.Cached.{LeavesBlocks, ReadsBlocks}
use Rattle.promises.specs.ServingPromise.Marks.{phase, idle, marks_of_submit, places_of}
use Rattle.promises.specs.ServingPromise.Replies.{is_write, may_wait}
use Rattle.promises.specs.ServingPromise.Served.{Drive, View, given}
use Rattle.promises.specs.declared.serving_promise.answers.Submitted.{Submitted}
use Rattle.promises.specs.declared.serving_promise.answers.Submitted.TheVariants as submitted

-- a session's call with a number
abbrev pub call_of : {D : Type 0} → View D → ℕ → ℕ → Option Call
call_of v who nth = slice_get (calls_of v.fixed.script who) nth

-- so many ops stand
abbrev pub standing_ops : {D : Type 0} → View D → ℕ
standing_ops v = length (ops (after_all v.events))

-- ---- placements

-- a call that is told that it is full or found no memory was void, and any other that a submission places was done
abbrev pub fate_for : Reply → Fate
fate_for (replies.Full need limit) = fates.Void
fate_for replies.NoMemory = fates.Void
fate_for _ = fates.Done

-- one placement of this call more, of this fate, at the moment that the clock was to give, with its reply where it is
-- there
pub record Places {D : Type 0} (old new : View D) (who nth : ℕ) (fate : Fate) (reply : Option Reply) : Type 0 where
  pub placed : Placed
  pub fate_is : placed.fate ≡ fate
  pub history : new.history ≡ old.history ++ placed ∷ []
  pub who_is : placed.who ≡ who
  pub nth_is : placed.nth ≡ nth
  pub moment : IfSome old.next (λ at. placed.at ≡ at)
  pub replies : new.replies ≡ old.replies ++ reply ∷ []

-- nothing is placed
pub record PlacesNothing {D : Type 0} (old new : View D) : Type 0 where
  pub history : new.history ≡ old.history
  pub replies : new.replies ≡ old.replies
  pub next : new.next ≡ old.next

-- ---- acknowledgements

-- an ack for each sync that the events answer, with the drive's count of commands as the call returns
abbrev pub acks_for : ℕ → List Event → List Ack
acks_for commands added = map (λ ticket. record { place = ticket; command = commands }) (filter_map synced_ticket added)

-- the events that a call adds, with their acks
pub record Adds {D : Type 0} (now : Drive) (old new : View D) (added : List Event) : Type 0 where
  pub events : new.events ≡ old.events ++ added
  pub acks : new.acks ≡ old.acks ++ acks_for now.commands added

-- ---- submit

-- it is the session's next call, and the session neither waits nor drains
pub record CanSubmit {D : Type 0} (v : View D) (who nth : ℕ) : Type 0 where
  pub free : phase who v.marks ≡ idle
  pub next : nth ≡ length (places_of who v.marks)
  pub more : nth < length (calls_of v.fixed.script who)

-- a write is put off while more than 64 ops stand
abbrev pub is_put_off : {D : Type 0} → View D → Option Call → Bool
is_put_off v None = false
is_put_off v (Some call) = is_write call && nat_lt 64 (standing_ops v)

abbrev pub Placing : {D : Type 0} → View D → View D → ℕ → ℕ → Submitted → Type 0
Placing old new who nth (submitted.Ready reply) = Places old new who nth (fate_for reply) (Some reply)
Placing old new who nth (submitted.Wait ticket) = (ticket ≡ length old.history) × Places old new who nth fates.Done None
Placing old new who nth submitted.Drain = PlacesNothing old new

-- it is answered at once where no op stands then
abbrev pub synced_at : ℕ → List Op → List Event
synced_at here [] = events.Synced here ∷ []
synced_at here (op ∷ later) = []

abbrev pub queues_at : List Place → List Event
queues_at places = map (λ place. events.Queues place) places

-- What a call adds that is done: a sync its ops, then itself, and its answer where no op stands then; a read its
-- requests; a write its ops; and any other call nothing.
abbrev pub IsOfDone : ℕ → List Event → Option Call → List Event → Type 0
IsOfDone here before (Some Sync) added =
    (places : List Place)
    × (added ≡ queues_at places
    ++ events.Syncs here ∷ synced_at here (ops (after_all (before ++ queues_at places))))
IsOfDone here before (Some (Read path offset count)) added = (places : List Place)
    × (added ≡ map (λ place. events.Wants here place) places)
IsOfDone here before (Some (Write path offset bytes)) added = (places : List Place) × (added ≡ queues_at places)
IsOfDone here before _ added = added ≡ []

abbrev pub IsOfFate : Fate → ℕ → List Event → Option Call → List Event → Type 0
IsOfFate fates.Done here before call added = IsOfDone here before call added
IsOfFate fates.Void here before call added = added ≡ []

abbrev pub may_wait_at : Option Call → Bool
may_wait_at None = false
may_wait_at (Some call) = may_wait call

-- A call that is void adds nothing, and only a read or a sync waits. No head step is made.
abbrev pub AreOfSubmit : ℕ → ℕ → List Event → Option Call → Submitted → List Event → Type 0
AreOfSubmit who here before call (submitted.Ready reply) added = IsOfFate (fate_for reply) here before call added
AreOfSubmit who here before call (submitted.Wait ticket) added = (may_wait_at call ≡ true)
    × IsOfDone here before call added
AreOfSubmit who here before call submitted.Drain added = added ≡ events.Drains who ∷ []

-- ---- what a read waits for

abbrev pub stored_at : Piece → Option Place
stored_at (Stored place byte count) = Some place
stored_at (Zeros count) = None

-- the blocks of a file in a range of at most so many bytes
abbrev pub blocks_in : Laid → ℕ → ℕ → List Place
blocks_in f offset count = filter_map stored_at (planned f offset (min count (f.length - offset)))

-- the tree lets the read pass, or only finds a byte of it lost
abbrev pub passes : Option Refusal → Bool
passes None = true
passes (Some Damaged) = true
passes (Some _) = false

-- A read that passes asks for the blocks that it still needs, each once and in the order of its range, and uses those
-- that are kept. Any other call asks for none.
abbrev pub Asks : Standing → List Event → List Event → (old new : List Kept) → Option Call → Type 0
Asks st before added old new (Some (Read path offset count)) =
    by (passes (refusal_of st.tree (Read path offset count)))
  where
    by : Bool → Type 0
    by true = ReadsBlocks (distinct (blocks_in (st.files (uid_at st.tree.nodes path)) offset count)) before added
        old new
    by false = LeavesBlocks added old new
Asks st before added old new _ = LeavesBlocks added old new

-- a call that found no memory asks for nothing, and leaves the blocks that are kept in their order
abbrev pub AsksUnlessVoid : Submitted → Standing → List Event → List Event → (old new : List Kept) → Option Call
    → Type 0
AsksUnlessVoid (submitted.Ready replies.NoMemory) st before added old new call = LeavesBlocks added old new
AsksUnlessVoid _ st before added old new call = Asks st before added old new call

-- Drain comes for a write that is put off alone, and for each, but where there was no memory.
pub record PutsOff (off : Bool) (answer : Submitted) : Type 0 where
  pub only : answer ≡ submitted.Drain → off ≡ true
  pub each : off ≡ true → (answer ≡ submitted.Drain) ⊎ (answer ≡ submitted.Ready replies.NoMemory)

-- A submission makes no command of the drive.
pub record Submits {D : Type 0} (first now : Drive) (old new : View D) (who nth : ℕ) (answer : Submitted) : Type 0 where
  pub fixed : new.fixed ≡ old.fixed
  pub drive : new.drive ≡ old.drive
  pub on : new.on ≡ old.on
  pub kept : new.kept ≡ old.kept
  pub placing : Placing old new who nth answer
  pub added : List Event
  pub adds : Adds now old new added
  pub of_it : AreOfSubmit who (length old.history) old.events (call_of old who nth) answer added
  pub asks : AsksUnlessVoid answer
      (standing (given old first) old.on old.history (length old.history)) old.events added old.cached new.cached
      (call_of old who nth)
  pub marks : new.marks ≡ old.marks ++ marks_of_submit who (length old.history) answer
  pub drain : PutsOff (is_put_off old (call_of old who nth)) answer
