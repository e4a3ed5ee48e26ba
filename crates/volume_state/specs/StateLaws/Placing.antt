-- What a submission makes of the parts of a volume.
use Rattle.std.specs.Prelude.{ℕ, ◌≡◌, ◌≢◌, ◌<◌, ◌≤◌, ◌&&◌, ◌||◌, not, Bool, true, false, List, [], ◌∷◌, ◌++◌, All}
use Rattle.std.specs.Prelude.{filter, filter_map, is_some, length, map, slice_get, Option, Some, None}
use Rattle.tape_types.specs.declared.cartridges.Item.TheVariants as the_items
use Rattle.tape_types.specs.declared.cartridges.Place.{Place}
use Rattle.tape_types.specs.declared.moments.Moment.{Moment}
use Rattle.plain_tree.specs.Calls.{answer}
use Rattle.plain_tree.specs.Refusals.{refusal_of}
use Rattle.plain_tree.specs.declared.calls.Answer.{Answer}
use Rattle.plain_tree.specs.declared.calls.Answer.TheVariants as the_answers
use Rattle.plain_tree.specs.declared.calls.Call.{Call}
use Rattle.plain_tree.specs.declared.calls.Call.TheVariants as calls
use Rattle.plain_tree.specs.declared.calls.Fate.{Fate}
use Rattle.plain_tree.specs.declared.calls.Fate.TheVariants as fates
use Rattle.plain_tree.specs.declared.calls.Placed.{Placed}
use Rattle.extent_map.specs.Cells.{Tape}
use Rattle.extent_map.specs.Replies.{distinct, has_place, places_in}
use Rattle.extent_map.specs.Laid.{Laid}
use Rattle.extent_map.specs.Pieces.{planned}
use Rattle.session_script.specs.declared.logs.Event.{Event}
use Rattle.session_script.specs.declared.logs.Event.TheVariants as the_events
use Rattle.session_script.specs.declared.logs.Reply.{Reply}
use Rattle.session_script.specs.declared.logs.Reply.TheVariants as the_replies
use Rattle.head_queue.specs.EventLaws.Trail.{IsTrail, after_all}
use Rattle.head_queue.specs.EventLaws.Waiting as waiting
use Rattle.head_queue.specs.Queued.{requests}
use Rattle.tape_drive.specs.declared.drive.Drive.{Ghosts}
use Rattle.tape_layout.specs.Ops.{held_in, place_of}
use Rattle.tape_layout.specs.declared.ops.Op.{Op}
use Rattle.file_tree.specs.Tree.{plain_of, whole}
use Rattle.space_laws.specs.Space as space
use Rattle.space_laws.specs.Standing.{Given, Standing, ask_of, uid_at}
use Rattle.promises.specs.ServingPromise.Marks.{mark, placed_and_handed}
use Rattle.promises.specs.ServingPromise.Replies.{may_wait}
use Rattle.promises.specs.ServingPromise.Submits.{blocks_in, queues_at, stored_at, synced_at}
use Rattle.promises.specs.declared.serving_promise.marks.Mark.{Mark}
use Rattle.promises.specs.declared.serving_promise.marks.MarkKind.TheVariants as kinds
use Rattle.block_cache.specs.Kept.{Kept, is_cached, used_all}
use Rattle.held_volume.specs.Applied.{IsDone, IsFull, IsUnchanged}
use Rattle.held_volume.specs.Stocks.{IsStock, Stocked}
use Rattle.event_journal.specs.Trails.{Journaled, due_ticket, state}
use Rattle.waiting_reads.specs.Gathering.{Gathering, IsGathering, read_answer}
use Rattle.volume_state.specs.PlanLaws.Planned.{Items, IsPlan, tape_on}
use Rattle.volume_state.specs.StateLaws.Parts.{Parts}
use Rattle.volume_state.specs.StateLaws.Stepping.{acks_at}

-- ---- a placement

-- the marks of a placement, with its reply where it is there
abbrev pub marks_for : ℕ → ℕ → Option Reply → List Mark
marks_for who here (Some reply) = placed_and_handed who here reply
marks_for who here None = mark who (kinds.Places here) ∷ []

-- a call is placed at the end of the history
pub record PlacesCall {D : Type 0} (who nth : ℕ) (at : Moment) (fate : Fate) (reply : Option Reply) (old new : Parts D)
    : Type 0 where
  pub history : new.listed.history ≡ old.listed.history ++ record { who = who; nth = nth; at = at; fate = fate } ∷ []
  pub replies : new.listed.replies ≡ old.listed.replies ++ reply ∷ []
  pub marks : new.listed.marks ≡ old.listed.marks ++ marks_for who (length old.listed.history) reply
  pub calls : new.listed.calls ≡ old.listed.calls
  pub sessions : new.listed.sessions ≡ old.listed.sessions

-- no step of the head is made, no fault told, and placement stays as it is
pub record MovesNothing {D : Type 0} (old new : Parts D) : Type 0 where
  pub drive : new.drive ≡ old.drive
  pub on : new.on ≡ old.on
  pub kept : new.trail.kept ≡ old.trail.kept
  pub trail : IsTrail new.trail.events

-- nobody asks for a block
pub record WantsNothing {D : Type 0} (old new : Parts D) : Type 0 where
  pub waiting : new.queue.waiting ≡ old.queue.waiting
  pub arrived : new.queue.arrived ≡ old.queue.arrived
  pub reads : new.reads ≡ old.reads

-- it is all the head's: nothing is added to the events
pub record AsksNothing {D : Type 0} (old new : Parts D) : Type 0 where
  pub moves : MovesNothing old new
  pub wants : WantsNothing old new
  pub events : new.trail.events ≡ old.trail.events
  pub acks : new.trail.acks ≡ old.trail.acks

-- ---- void calls

-- what a void call is told: that there was no memory, or by which numbers it doesn't fit
abbrev pub IsVoidFor : Stocked → Call → Moment → Reply → Type 0
IsVoidFor stock call at the_replies.NoMemory = Unit {0}
IsVoidFor stock call at (the_replies.Full need limit) = (early : Tape) (g : Given) (on : Bool) (st : Standing)
    → IsStock early g on st stock
    → (refusal_of (plain_of whole stock.tree) call ≡ None) × IsFull g on st call at need limit
IsVoidFor stock call at (the_replies.Answer told) = ⊥
IsVoidFor stock call at (the_replies.Fault counts) = ⊥

pub record Voids {D : Type 0} (who nth : ℕ) (call : Call) (at : Moment) (reply : Reply) (old new : Parts D)
    : Type 0 where
  pub void : IsVoidFor old.stock call at reply
  pub stock : IsUnchanged old.stock new.stock
  pub asks : AsksNothing old new
  pub cached : new.cached ≡ old.cached
  pub places : PlacesCall who nth at fates.Void (Some reply) old new

-- ---- calls that are answered at once and leave all as it was

-- what is kept of a block is what is planned at its place
abbrev pub IsPlannedBlock : Items → Kept → Type 0
IsPlannedBlock planned block = slice_get (planned block.0.part) block.0.pos ≡ Some (the_items.Block block.1)

-- a read may be answered by blocks that are kept
abbrev pub MayUse : Items → List Kept → Call → Type 0
MayUse planned cached (calls.Read path offset count) = All (IsPlannedBlock planned) cached
MayUse planned cached _ = Unit {0}

-- the tree's answer, on the tape that there is once all ops are done, and nothing is asked of the tape
abbrev pub IsAnswerFor : Stocked → List Kept → Call → Moment → Answer → Type 0
IsAnswerFor stock cached call at told = (items : Items) (g : Given) (on : Bool) (st : Standing)
    → IsPlan items stock.layout.ops → IsStock (tape_on items) g on st stock
    → (MayUse items cached call → told ≡ answer st.tree call) × (ask_of g st call at ≡ space.nothing)

-- an op holds a block for this place
abbrev pub is_held : List Op → Place → Bool
is_held ops place = is_some (held_in place ops)

-- of these places, those for which no op holds a block, and none is kept
abbrev pub wanted_of : List Op → List Kept → List Place → List Place
wanted_of ops cached places = filter (λ place. not (is_held ops place || is_cached cached place)) places

-- those for which no op holds a block, and one is kept
abbrev pub found_of : List Op → List Kept → List Place → List Place
found_of ops cached places = filter (λ place. not (is_held ops place) && is_cached cached place) places

-- It may be a read that the tree lets pass, but for bytes that are lost: all its blocks are held or kept then, and those
-- that are kept were used. Any other call uses none.
abbrev pub UsesKept : Stocked → (old new : List Kept) → Call → Type 0
UsesKept stock old new (calls.Read path offset count) =
    (refusal_of (plain_of whole stock.tree) (calls.Read path offset count) ≢ None → new ≡ old)
    × (refusal_of (plain_of whole stock.tree) (calls.Read path offset count) ≡ None
    → (tape : Tape) (g : Given) (on : Bool) (st : Standing) → IsStock tape g on st stock
    → (wanted_of stock.layout.ops old (distinct (blocks_in (st.files (uid_at st.tree.nodes path)) offset count)) ≡ [])
    × (new ≡ used_all old
    (found_of stock.layout.ops old (distinct (blocks_in (st.files (uid_at st.tree.nodes path)) offset count)))))
UsesKept stock old new call = new ≡ old

pub record Answers {D : Type 0} (who nth : ℕ) (call : Call) (at : Moment) (told : Answer) (old new : Parts D)
    : Type 0 where
  pub told_is : IsAnswerFor old.stock old.cached call at told
  pub uses : UsesKept old.stock old.cached new.cached call
  pub no_sync : told ≢ the_answers.Synced
  pub stock : new.stock ≡ old.stock
  pub asks : AsksNothing old new
  pub places : PlacesCall who nth at fates.Done (Some (the_replies.Answer told)) old new

-- ---- calls that change the tree

-- it tells of the tree
abbrev pub only_looks : Call → Bool
only_looks (calls.Listing path) = true
only_looks (calls.Stat path) = true
only_looks (calls.Getx path key) = true
only_looks call = false

pub record Changes {D : Type 0} (who nth : ℕ) (call : Call) (at : Moment) (old new : Parts D) : Type 0 where
  pub no_wait : may_wait call ≡ false
  pub no_look : only_looks call ≡ false
  pub applied : (early : Tape) (g : Given) (on : Bool) (st : Standing) → IsStock early g on st old.stock
      → (refusal_of (plain_of whole old.stock.tree) call ≡ None) × IsDone early g on st call at old.stock new.stock
  pub asked : List Op
  pub ops : new.stock.layout.ops ≡ old.stock.layout.ops ++ asked
  pub moves : MovesNothing old new
  pub wants : WantsNothing old new
  pub cached : new.cached ≡ old.cached
  pub events : new.trail.events ≡ old.trail.events ++ queues_at (map place_of asked)
  pub acks : new.trail.acks ≡ old.trail.acks
  pub places : PlacesCall who nth at fates.Done (Some (the_replies.Answer the_answers.Done)) old new

-- ---- syncs

-- it is answered at once where no op stands then
abbrev pub synced_reply : List Op → Option Reply
synced_reply [] = Some (the_replies.Answer the_answers.Synced)
synced_reply (op ∷ later) = None

abbrev pub synced_here : ℕ → List Op → List ℕ
synced_here here [] = here ∷ []
synced_here here (op ∷ later) = []

pub record Syncs {D : Type 0} (drive : Ghosts D) (who nth : ℕ) (at : Moment) (old new : Parts D) : Type 0 where
  pub applied : (early : Tape) (g : Given) (on : Bool) (st : Standing) → IsStock early g on st old.stock
      → IsDone early g on st calls.Sync at old.stock new.stock
  pub asked : List Op
  pub ops : new.stock.layout.ops ≡ old.stock.layout.ops ++ asked
  pub moves : MovesNothing old new
  pub wants : WantsNothing old new
  pub cached : new.cached ≡ old.cached
  pub events : new.trail.events ≡ old.trail.events ++ queues_at (map place_of asked)
      ++ the_events.Syncs (length old.listed.history)
      ∷ synced_at (length old.listed.history)
      (waiting.ops (after_all (old.trail.events ++ queues_at (map place_of asked))))
  pub acks : new.trail.acks ≡ old.trail.acks
      ++ acks_at (drive.commands old.drive) (synced_here (length old.listed.history) new.stock.layout.ops)
  pub none_due : due_ticket (state new.trail) ≡ None
  pub places : PlacesCall who nth at fates.Done (synced_reply new.stock.layout.ops) old new

-- ---- reads that wait

-- A read has the bytes of the blocks that are held, and of those that are kept, which were used then. It asks for all
-- others.
pub record Waits {D : Type 0} (who nth : ℕ) (path : List (List ℕ)) (offset count : ℕ) (at : Moment) (old new : Parts D)
    : Type 0 where
  pub free : refusal_of (plain_of whole old.stock.tree) (calls.Read path offset count) ≡ None
  pub read : Gathering
  pub ticket : read.ticket ≡ length old.listed.history
  pub wanted : List Place
  pub some : 1 ≤ length wanted
  pub wanted_is : wanted ≡ wanted_of old.stock.layout.ops old.cached (places_in read.pieces)
  pub uses : new.cached ≡ used_all old.cached (found_of old.stock.layout.ops old.cached (places_in read.pieces))
  -- the pieces are those of the read, whatever stands
  pub pieces : (tape : Tape) (g : Given) (on : Bool) (st : Standing) → IsStock tape g on st old.stock
      → (filter_map stored_at read.pieces ≡ blocks_in (st.files (uid_at st.tree.nodes path)) offset count)
      × (answer st.tree (calls.Read path offset count) ≡ read_answer tape read.pieces)
  pub gathers : (items : Items) → IsPlan items old.stock.layout.ops → All (IsPlannedBlock items) old.cached
      → IsGathering (tape_on items) (λ place. not (has_place place wanted)) read
  pub stock : new.stock ≡ old.stock
  pub moves : MovesNothing old new
  pub events : new.trail.events
      ≡ old.trail.events ++ map (λ place. the_events.Wants (length old.listed.history) place) wanted
  pub acks : new.trail.acks ≡ old.trail.acks
  pub tied : requests old.queue ≡ (state old.trail).requests → old.queue.arrived ≡ (state old.trail).arrived
      → (requests new.queue ≡ (state new.trail).requests) × (new.queue.arrived ≡ (state new.trail).arrived)
  pub reads : new.reads ≡ old.reads ++ read ∷ []
  pub places : PlacesCall who nth at fates.Done None old new

-- ---- writes that are put off

pub record PutsOff {D : Type 0} (who : ℕ) (old new : Parts D) : Type 0 where
  pub many : 64 < length old.stock.layout.ops
  pub stock : new.stock ≡ old.stock
  pub moves : MovesNothing old new
  pub wants : WantsNothing old new
  pub cached : new.cached ≡ old.cached
  pub events : new.trail.events ≡ old.trail.events ++ the_events.Drains who ∷ []
  pub acks : new.trail.acks ≡ old.trail.acks
  pub history : new.listed.history ≡ old.listed.history
  pub replies : new.listed.replies ≡ old.listed.replies
  pub marks : new.listed.marks ≡ old.listed.marks ++ mark who kinds.Begins ∷ []
  pub calls : new.listed.calls ≡ old.listed.calls
  pub sessions : new.listed.sessions ≡ old.listed.sessions
