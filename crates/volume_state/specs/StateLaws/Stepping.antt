-- What a step of the head makes of the parts of a volume.
use Rattle.std.specs.Prelude.{ℕ, ◌≡◌, ◌≢◌, ◌⊎◌, ◌&&◌, ◌==◌, not, Bool, true, false, cond, List, [], ◌∷◌, ◌++◌, filter}
use Rattle.std.specs.Prelude.{length, map, Option, Some, None, slice_set}
use Rattle.std.specs.List.{list_any}
use Rattle.tape_types.specs.declared.cartridges.Cartridge.{Cartridge}
use Rattle.tape_types.specs.declared.cartridges.Part.TheVariants.{Dp}
use Rattle.tape_types.specs.declared.cartridges.Place.{Place}
use Rattle.tape_types.specs.declared.cartridges.Twin.{Twin}
use Rattle.tape_drive.specs.declared.drive.Drive.{Ghosts}
use Rattle.tape_drive.specs.declared.drive.Got.{Got}
use Rattle.tape_drive.specs.declared.drive.Got.TheVariants as gots
use Rattle.block_cache.specs.Kept.{Kept, with_block}
use Rattle.plain_tree.specs.declared.calls.Answer.{Answer}
use Rattle.plain_tree.specs.declared.calls.Answer.TheVariants as the_answers
use Rattle.extent_map.specs.Replies.{Places, has_place, places_in}
use Rattle.extent_map.specs.Cells.{Tape}
use Rattle.session_script.specs.declared.logs.Ack.{Ack}
use Rattle.session_script.specs.declared.logs.Event.{Event}
use Rattle.session_script.specs.declared.logs.Event.TheVariants as the_events
use Rattle.session_script.specs.declared.logs.Reply.{Reply}
use Rattle.session_script.specs.declared.logs.Reply.TheVariants as the_replies
use Rattle.head_core.specs.Steps.{IsFoundAt, IsOpStep, IsReadStep}
use Rattle.head_core.specs.declared.work.StepDone.{StepDone}
use Rattle.head_core.specs.declared.work.StepDone.TheVariants as ends
use Rattle.head_queue.specs.EventLaws.Trail.{IsTrail}
use Rattle.head_queue.specs.EventLaws.Waiting.{same_part}
use Rattle.head_queue.specs.Waiting.{Waiting}
use Rattle.tape_layout.specs.declared.ops.Op.{Op}
use Rattle.tape_layout.specs.Ops.{is_flush, place_of}
use Rattle.promises.specs.CrashLaws.Changes.{IsWell}
use Rattle.event_journal.specs.Trails.{due_ticket, first_waiter, kept_for_drain, state}
use Rattle.event_journal.specs.declared.trails.Waiter.{Waiter}
use Rattle.event_journal.specs.declared.trails.Waiter.TheVariants as waiters
use Rattle.waiting_reads.specs.Gathering.{Gathering, IsGathering, read_answer}
use Rattle.waiting_reads.specs.Waiting.{IsFilledBy, StandsAt}
use Rattle.volume_state.specs.StateLaws.Parts.{Parts}

-- ---- replies

-- the reply at a place is there
abbrev pub replied : ℕ → Reply → List (Option Reply) → List (Option Reply)
replied place reply told = slice_set told place (Some reply)

-- each of these syncs is told that it is synced
abbrev pub all_synced : List ℕ → List (Option Reply) → List (Option Reply)
all_synced [] told = told
all_synced (place ∷ later) told = all_synced later (replied place (the_replies.Answer the_answers.Synced) told)

abbrev pub synced_events : List ℕ → List Event
synced_events tickets = map (λ ticket. the_events.Synced ticket) tickets

abbrev pub acks_at : ℕ → List ℕ → List Ack
acks_at commands tickets = map (λ ticket. record { place = ticket; command = commands }) tickets

-- what isn't touched of the placements
pub record KeepsListed {D : Type 0} (old new : Parts D) : Type 0 where
  pub history : new.listed.history ≡ old.listed.history
  pub marks : new.listed.marks ≡ old.listed.marks
  pub calls : new.listed.calls ≡ old.listed.calls
  pub sessions : new.listed.sessions ≡ old.listed.sessions

-- ---- ops

-- the flush of the data partition
abbrev pub settles_dp : Op → Bool
settles_dp op = is_flush op && same_part (place_of op).part Dp

-- from which place on files may go to the index partition once an op is done
abbrev pub on_done : Op → ℕ → Option ℕ → Option ℕ
on_done op here (Some first) = Some first
on_done op here None = cond (settles_dp op) (Some here) None

-- An op that was done is taken out, and then each sync is answered that is due, at this number of commands.
pub record IsOpDone {D : Type 0} (commands : ℕ) (op : Op) (tickets : List ℕ) (old new : Parts D) : Type 0 where
  pub first : old.stock.layout.ops ≡ op ∷ new.stock.layout.ops
  pub stock : new.stock ≡ record old.stock {
    layout = record old.stock.layout {
      ops = new.stock.layout.ops;
      ip_on = cond (settles_dp op) true old.stock.layout.ip_on;
    };
  }
  pub on : new.on ≡ on_done op (length old.listed.history) old.on
  pub events : new.trail.events ≡ old.trail.events ++ the_events.Worked (place_of op) None ∷ synced_events tickets
  pub trail : IsTrail new.trail.events
  pub none_due : due_ticket (state new.trail) ≡ None
  pub acks : new.trail.acks ≡ old.trail.acks ++ acks_at commands tickets
  pub kept : new.trail.kept ≡ old.trail.kept
  pub listed : KeepsListed old new
  pub replies : new.listed.replies ≡ all_synced tickets old.listed.replies
  pub queue : new.queue ≡ old.queue
  pub reads : new.reads ≡ old.reads
  pub cached : new.cached ≡ old.cached

-- The first op was done, and then each sync is answered that is due.
pub record DoesOp {D : Type 0} (drive : Ghosts D) (op : Op) (end : StepDone) (tickets : List ℕ) (old new : Parts D)
    : Type 0 where
  pub step : IsOpStep drive op end old.drive new.drive
  pub well : IsWell end
  pub done : IsOpDone (drive.commands new.drive) op tickets old new

-- who has waited longest is told of a fault, where it is a sync
abbrev pub told_fault : Option Waiter → Twin → List (Option Reply) → List (Option Reply)
told_fault (Some (waiters.Sync ticket)) counts told = replied ticket (the_replies.Fault counts) told
told_fault (Some (waiters.Drain who)) counts told = told
told_fault None counts told = told

-- An op that failed stays, and who has waited longest is told, or its session once it asks.
pub record IsFaultTold {D : Type 0} (op : Op) (counts : Twin) (old new : Parts D) : Type 0 where
  pub stock : new.stock ≡ old.stock
  pub on : new.on ≡ old.on
  pub events : new.trail.events ≡ old.trail.events ++ the_events.Worked (place_of op) (Some counts) ∷ []
  pub trail : IsTrail new.trail.events
  pub acks : new.trail.acks ≡ old.trail.acks
  pub kept : new.trail.kept ≡ old.trail.kept ++ kept_for_drain (state old.trail) counts
  pub listed : KeepsListed old new
  pub replies : new.listed.replies ≡ told_fault (first_waiter (state old.trail)) counts old.listed.replies
  pub queue : new.queue ≡ old.queue
  pub reads : new.reads ≡ old.reads
  pub cached : new.cached ≡ old.cached

-- The first op failed, and stays.
pub record FailsOp {D : Type 0} (drive : Ghosts D) (op : Op) (later : List Op) (counts : Twin) (old new : Parts D)
    : Type 0 where
  pub first : old.stock.layout.ops ≡ op ∷ later
  pub step : IsOpStep drive op (ends.Failed counts) old.drive new.drive
  pub told : IsFaultTold op counts old new

-- ---- reads

-- one of the reads that wait, and the others
pub record IsOneRead (reads : List Gathering) (ticket : ℕ) : Type 0 where
  pub front : List Gathering
  pub one : Gathering
  pub behind : List Gathering
  pub stands : StandsAt ticket reads front one behind

-- a read is answered that has met all its blocks; on no tape it is told that it is synced
abbrev pub IsReadAnswer : Gathering → Answer → Type 0
IsReadAnswer r told = (told ≢ the_answers.Synced) × ((tape : Tape) (read : Places) → IsGathering tape read r
    → ((place : Place) → has_place place (places_in r.pieces) ≡ true → read place ≡ true)
    → told ≡ read_answer tape r.pieces)

-- what is left of the reads, and what is replied: the read waits on, as another request of it does, or it is answered
abbrev pub IsReadOn : Bool → ℕ → List Gathering → List Gathering → Gathering → List Gathering
    → List (Option Reply) → List (Option Reply) → Type 0
IsReadOn true ticket front behind next reads told now = (reads ≡ front ++ next ∷ behind) × (now ≡ told)
IsReadOn false ticket front behind next reads told now = (reads ≡ front ++ behind)
    × ((gives : Answer) × (now ≡ replied ticket (the_replies.Answer gives) told) × IsReadAnswer next gives)

-- a request of the queue, and the others
pub record IsOneRequest (waiting : List Waiting) (ticket : ℕ) (place : Place) : Type 0 where
  pub front : List Waiting
  pub one : Waiting
  pub behind : List Waiting
  pub waiting_is : waiting ≡ front ++ one ∷ behind
  pub owner_is : one.owner ≡ ticket
  pub place_is : one.place ≡ place

-- what is untouched by a step for a read
pub record ReadsOnly {D : Type 0} (old new : Parts D) : Type 0 where
  pub stock : new.stock ≡ old.stock
  pub on : new.on ≡ old.on
  pub acks : new.trail.acks ≡ old.trail.acks
  pub kept : new.trail.kept ≡ old.trail.kept
  pub listed : KeepsListed old new
  pub trail : IsTrail new.trail.events
  pub arrived : new.queue.arrived ≡ old.queue.arrived

-- A block that was read is kept, or there is no memory for it. What isn't a block isn't kept.
abbrev pub IsKeptAfter : Got → Place → List ℕ → (old new : List Kept) → Type 0
IsKeptAfter gots.Block place block old new = (new ≡ old) ⊎ (new ≡ with_block place block old)
IsKeptAfter _ place block old new = new ≡ old

-- What was read for a request is taken: the request is gone, and its read has one block more or is answered.
pub record IsBlockTaken {D : Type 0} (ticket : ℕ) (place : Place) (got : Got) (block : List ℕ) (old new : Parts D)
    : Type 0 where
  pub only : ReadsOnly old new
  pub events : new.trail.events ≡ old.trail.events ++ the_events.Served ticket place None ∷ []
  pub request : IsOneRequest old.queue.waiting ticket place
  pub queue : new.queue.waiting ≡ request.front ++ request.behind
  pub read : IsOneRead old.reads ticket
  pub next : Gathering
  pub filled : IsFilledBy place block read.one next
  pub reads : IsReadOn (list_any (λ w. w.owner == ticket) new.queue.waiting) ticket read.front read.behind next
      new.reads old.listed.replies new.listed.replies
  pub cached : IsKeptAfter got place block old.cached new.cached

-- A block was read for a request.
pub record ReadsBlock {D : Type 0} (drive : Ghosts D) (ticket : ℕ) (place : Place) (got : Got) (block : List ℕ)
    (old new : Parts D) : Type 0 where
  pub step : IsReadStep drive place (ends.Read got) old.drive new.drive
  pub found : (c : Cartridge) → drive.held old.drive ≡ Some c → IsFoundAt place (ends.Read got) block c
  pub taken : IsBlockTaken ticket place got block old new

-- The read of a request that failed is told, and all its requests are gone.
pub record IsRequestMissed {D : Type 0} (ticket : ℕ) (place : Place) (counts : Twin) (old new : Parts D)
    : Type 0 where
  pub only : ReadsOnly old new
  pub events : new.trail.events ≡ old.trail.events ++ the_events.Served ticket place (Some counts) ∷ []
  pub request : IsOneRequest old.queue.waiting ticket place
  pub queue : new.queue.waiting ≡ filter (λ w. not (w.owner == ticket)) old.queue.waiting
  pub read : IsOneRead old.reads ticket
  pub reads : new.reads ≡ read.front ++ read.behind
  pub replies : new.listed.replies ≡ replied ticket (the_replies.Fault counts) old.listed.replies
  pub cached : new.cached ≡ old.cached

-- The step for a request failed: its read is told, and wants nothing more.
pub record FailsRead {D : Type 0} (drive : Ghosts D) (ticket : ℕ) (place : Place) (counts : Twin) (old new : Parts D)
    : Type 0 where
  pub step : IsReadStep drive place (ends.Failed counts) old.drive new.drive
  pub missed : IsRequestMissed ticket place counts old new

-- ---- what a step shows

-- a step of the head, however it ended: these events are added
pub data Steps {D : Type 0} (drive : Ghosts D) (old new : Parts D) : List Event → Type 0 where
  does : (op : Op) (end : StepDone) (tickets : List ℕ) → DoesOp drive op end tickets old new
      → Steps drive old new (the_events.Worked (place_of op) None ∷ synced_events tickets)
  fails : (op : Op) (later : List Op) (counts : Twin) → FailsOp drive op later counts old new
      → Steps drive old new (the_events.Worked (place_of op) (Some counts) ∷ [])
  reads : (ticket : ℕ) (place : Place) (got : Got) (block : List ℕ) → ReadsBlock drive ticket place got block old new
      → Steps drive old new (the_events.Served ticket place None ∷ [])
  misses : (ticket : ℕ) (place : Place) (counts : Twin) → FailsRead drive ticket place counts old new
      → Steps drive old new (the_events.Served ticket place (Some counts) ∷ [])
