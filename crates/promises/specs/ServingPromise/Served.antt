-- A volume as contracts see it, and what is true of it whatever calls were made.
use Rattle.std.specs.Prelude.{◌≡◌, ◌⊎◌, ◌≤◌, ◌==◌, ◌||◌, ℕ, cond, Bool, true, false, List, All, Contains, drop, map}
use Rattle.std.specs.Prelude.{filter_map, length, take, Option, Some, None, IfSome, slice_get}
use Rattle.std.specs.List.{range_with_len, list_any, enumerate_from}
use Rattle.tape_types.specs.declared.cartridges.Cartridge.{Cartridge}
use Rattle.tape_types.specs.declared.cartridges.Limits.{Limits}
use Rattle.tape_types.specs.declared.cartridges.Place.{Place}
use Rattle.tape_types.specs.declared.cartridges.Twin.{Twin}
use Rattle.tape_types.specs.declared.moments.Moment.{Moment}
use Rattle.plain_tree.specs.History.{Calls, numbers_of, replay}
use Rattle.plain_tree.specs.Tree.{Tree}
use Rattle.plain_tree.specs.declared.calls.Placed.{Placed}
use Rattle.session_script.specs.Grammar.{calls_of}
use Rattle.session_script.specs.Sessions.{greatest_session}
use Rattle.session_script.specs.declared.logs.Ack.{Ack}
use Rattle.session_script.specs.declared.logs.Event.{Event}
use Rattle.session_script.specs.declared.logs.Event.TheVariants as events
use Rattle.session_script.specs.declared.logs.Reply.{Reply}
use Rattle.session_script.specs.declared.scripts.ScriptLine.{ScriptLine}
use Rattle.head_queue.specs.EventLaws.Waiting as waiting
use Rattle.head_queue.specs.EventLaws.Waiting.{State}
use Rattle.head_queue.specs.EventLaws.Trail.{IsTrail, after_all, drains_now}
use Rattle.cartridge_meaning.specs.Carried.{carried}
use Rattle.cartridge_meaning.specs.declared.mounted.Mounted.{Mounted}
use Rattle.tape_layout.specs.declared.ops.Op.{Op}
use Rattle.tape_layout.specs.Ops.{is_flush, place_of}
use Rattle.space_laws.specs.Standing.{Given, admitted}
use Rattle.block_cache.specs.Kept.{Kept}
use Rattle.promises.specs.ServingPromise.Acks.{AreAcks, AreReached, AreSyncs}
use Rattle.promises.specs.ServingPromise.Cached.{AreOnTape, IsCache}
use Rattle.promises.specs.ServingPromise.Crash.{Meaning, Leavings, IsSound, SurvivesCrashes}
use Rattle.promises.specs.ServingPromise.Faults.{AreFaults, kept_for}
use Rattle.promises.specs.ServingPromise.Marks.{phase, draining, places_of, hands_of}
use Rattle.promises.specs.declared.serving_promise.marks.Mark.{Mark}
use Rattle.promises.specs.ServingPromise.Mount.{facts_of}
use Rattle.promises.specs.ServingPromise.Replies.{AreReplies}

-- what contracts see of a drive at a moment
pub record Drive : Type 1 where
  pub held : Option Cartridge
  pub head : Option Place
  pub limits : Limits
  pub commands : ℕ
  pub faults : ℕ
  pub leavings : Leavings

-- what no call changes: the script, the tree at the start, what was found at the mount, the drive as it was at the
-- start, the one moment of the clock where it has one, and the number of commands since which a crash is spoken of
pub record Fixed (D : Type 0) : Type 0 where
  pub script : List ScriptLine
  pub tree : Tree
  pub mounted : Mounted
  pub first : D
  pub moment : Option Moment
  pub since : ℕ

-- A reply stands at the place of its placement once it is there; a fault is kept for a session that drained.
-- Placement on the index partition is on from a place on. The clock gives this moment next, where it tells. The ops
-- are those that stand, and the blocks that were read and are kept stand with the one that was used last first.
pub record View (D : Type 0) : Type 0 where
  pub fixed : Fixed D
  pub drive : D
  pub next : Option Moment
  pub history : List Placed
  pub replies : List (Option Reply)
  pub acks : List Ack
  pub events : List Event
  pub marks : List Mark
  pub kept : List (ℕ × Twin)
  pub on : Option ℕ
  pub ops : List Op
  pub cached : List Kept

-- each session's calls are placed in order, and none that it doesn't have
pub record IsPlacedSoFar (calls : Calls) (history : List Placed) : Type 0 where
  pub in_order : (who : ℕ) → numbers_of history who ≡ range_with_len 0 (length (numbers_of history who))
  pub within : (who : ℕ) → length (numbers_of history who) ≤ length (calls who)

-- the places of a session's placements
abbrev pub placed_by : ℕ → List Placed → List ℕ
placed_by who history = filter_map (λ e. cond (e.1.who == who) (Some e.0) None) (enumerate_from 0 history)

-- the ops that the events queue
abbrev pub queued : Event → Option Place
queued (events.Queues place) = Some place
queued _ = None

-- an op as the head sees it
abbrev pub headed : Op → waiting.Op
headed op = record { place = place_of op; flush = is_flush op }

-- the ops that stand are, with their bytes, those that the history admits and that aren't done yet
abbrev pub AreStanding : Given → Option ℕ → List Placed → List Event → List Op → Type 0
AreStanding g on history events ops = ops ≡ drop (after_all events).done (admitted g on history)

-- the head or a flush still has to come for this call
abbrev pub is_waiting : State → ℕ → Bool
is_waiting st ticket = list_any (λ r. r.ticket == ticket) st.requests || list_any (λ s. s.ticket == ticket) st.syncs

-- The marks are those of the script's sessions. They name each placement with its place, and each reply that was
-- handed out is the one that stands at its place. A session drains as the events say, or has a fault kept for it,
-- which is one.
pub record AreMarks (sessions : ℕ) (history : List Placed) (replies : List (Option Reply)) (st : State)
    (kept : List (ℕ × Twin)) (marks : List Mark) : Type 0 where
  pub sessions_are : All (λ m. (1 ≤ m.who) × (m.who ≤ sessions)) marks
  pub places : (who : ℕ) → places_of who marks ≡ placed_by who history
  pub hands : (who k : ℕ) (reply : Reply) → Contains (hands_of who marks) (k, reply)
      → slice_get replies k ≡ Some (Some reply)
  pub drains : (who : ℕ) → phase who marks ≡ draining → (drains_now st who ≡ true) ⊎ (length (kept_for who kept) ≡ 1)
  pub drained : (who : ℕ) → (drains_now st who ≡ true) ⊎ (1 ≤ length (kept_for who kept)) → phase who marks ≡ draining

-- a reply isn't there as long as the head or a flush has to come for it
pub record AreWaiting (st : State) (replies : List (Option Reply)) : Type 0 where
  pub none_yet : (k : ℕ) → slice_get replies k ≡ Some None → is_waiting st k ≡ true
  pub waits : (k : ℕ) → is_waiting st k ≡ true → slice_get replies k ≡ Some None

-- the drive told a cartridge at the start that read as the tree, and a crash since then leaves just that one
pub record CanTell (reads : Cartridge → Type 0) (since : ℕ) (first : Drive) : Type 0 where
  pub held : Cartridge
  pub told : first.held ≡ Some held
  pub reads_as : reads held
  pub reached : since ≤ first.commands
  pub sure : (image : Cartridge) → first.leavings.since since image → image ≡ held

-- what the definitions of space start from: the script, the tree and the mount, and the capacities of the drive
abbrev pub given_of : List ScriptLine → Tree → Mounted → Drive → Given
given_of script tree mounted first = record
    { calls = calls_of script; tree = tree; mounted = facts_of mounted; limits = first.limits }

abbrev pub given : {D : Type 0} → View D → Drive → Given
given v first = given_of v.fixed.script v.fixed.tree v.fixed.mounted first

abbrev pub tree_after : {D : Type 0} → View D → ℕ → Tree
tree_after v k = replay (calls_of v.fixed.script) v.fixed.tree (take k v.history)

-- What is true over every drive: one history so far, with the moments of the clock where it has one; the events are a
-- trail, whose syncs are those that are done, and whose faults those that are told; the acks are those of the syncs;
-- the marks tell of each session; and the blocks that are kept were read.
pub record IsOrderly {D : Type 0} (first now : Drive) (v : View D) : Type 0 where
  pub placed : IsPlacedSoFar (calls_of v.fixed.script) v.history
  pub moments : IfSome v.fixed.moment (λ m. All (λ p. p.at ≡ m) v.history)
  pub trail : IsTrail v.events
  pub standing : map headed v.ops ≡ waiting.ops (after_all v.events)
  pub waiting : AreWaiting (after_all v.events) v.replies
  pub syncs : AreSyncs (calls_of v.fixed.script) v.history v.events
  pub acks : AreAcks v.events v.replies v.acks
  pub reached : AreReached v.events v.acks now.commands
  pub faults : AreFaults v.history v.events v.replies v.kept first.faults now.faults
  pub marks : AreMarks (greatest_session v.fixed.script) v.history v.replies (after_all v.events) v.kept v.marks
  pub limits : now.limits ≡ first.limits
  pub untold : first.held ≡ None → now.held ≡ None
  pub cached : IsCache v.events v.cached

-- What is true where the drive told a cartridge that reads as the tree: the replies are those of the tree or caused,
-- and the ops that were queued are those that the history admits, with the bytes that it admits.
pub record IsTrue {D : Type 0} (first : Drive) (v : View D) : Type 0 where
  pub replies : AreReplies (given v first) v.on v.history v.events v.replies
  pub ops : filter_map queued v.events ≡ map place_of (admitted (given v first) v.on v.history)
  pub standing : AreStanding (given v first) v.on v.history v.events v.ops

-- The volume's own invariant as its callers see it. Where the drive tells a cartridge, the blocks that are kept stand on
-- it. What a crash leaves is said where the cartridge stood for the tree and was sound at the start.
pub record IsServed {D : Type 0} (m : Meaning) (first now : Drive) (v : View D) : Type 0 where
  pub orderly : IsOrderly first now v
  pub truly : CanTell
      (λ c. m.Reads c (carried v.fixed.mounted.index) v.fixed.tree v.fixed.mounted.newest) v.fixed.since first
      → IsTrue first v
  pub cached : IfSome now.held (λ c. AreOnTape c v.cached)
  pub crash : CanTell
      (λ c. m.Stands c (carried v.fixed.mounted.index) v.fixed.tree v.fixed.mounted.newest × IsSound m c)
      v.fixed.since first
      → SurvivesCrashes m (carried v.fixed.mounted.index) (tree_after v)
      (length v.history) v.acks now.leavings v.fixed.since
