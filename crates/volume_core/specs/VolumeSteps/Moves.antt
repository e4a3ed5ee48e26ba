-- What the parts of a step do to the parts of a volume.
use Rattle.std.specs.Prelude.{ℕ, ◌≡◌, ◌≤◌, ◌==◌, ◌&&◌, Bool, true, false, cond, drop, List, [], ◌∷◌, ◌++◌}
use Rattle.std.specs.Prelude.{length, Option, Some, None, slice_get}
use Rattle.std.specs.List.{list_any}
use Rattle.tape_types.specs.declared.cartridges.Part.TheVariants.{Dp}
use Rattle.tape_types.specs.declared.cartridges.Place.{Place}
use Rattle.tape_types.specs.declared.cartridges.Twin.{Twin}
use Rattle.plain_tree.specs.declared.calls.Answer.{Answer}
use Rattle.session_script.specs.declared.logs.Event.TheVariants as the_events
use Rattle.session_script.specs.declared.logs.Reply.{Reply}
use Rattle.session_script.specs.declared.logs.Reply.TheVariants as the_replies
use Rattle.head_queue.specs.EventLaws.Trail.{IsTrail}
use Rattle.head_queue.specs.EventLaws.Waiting.{State, Waiter, same_part, waiting_op}
use Rattle.head_queue.specs.Queued.{requests}
use Rattle.tape_drive.specs.declared.drive.Drive.{Ghosts}
use Rattle.tape_drive.specs.declared.drive.Got.{Got}
use Rattle.tape_layout.specs.declared.ops.Op.{Op}
use Rattle.tape_layout.specs.Ops.{is_flush, place_of}
use Rattle.promises.specs.ServingPromise.Served.{headed}
use Rattle.event_journal.specs.Trails.{due_ticket, state}
use Rattle.waiting_reads.specs.Waiting.{answer_for}
use Rattle.volume_state.specs.StateLaws.Parts.{Parts}
use Rattle.volume_state.specs.StateLaws.Stepping.{IsBlockTaken, IsFaultTold, IsOpDone, IsRequestMissed, KeepsListed, acks_at}
use Rattle.volume_state.specs.StateLaws.Stepping.{all_synced, replied, synced_events}

-- there is something for the head: a request, or an op for which somebody waits
abbrev pub HasWork : {D : Type 0} → Parts D → Type 0
HasWork p = p.queue.waiting ≡ [] → (op : Op) × (later : List Op)
    × (p.stock.layout.ops ≡ op ∷ later) × (waiting_op (state p.trail) ≡ Some (headed op))

-- the place from which on files may go to the index partition, or else this one
abbrev pub on_from : ℕ → Option ℕ → Option ℕ
on_from here (Some first) = Some first
on_from here None = Some here

-- the first op stands at this place, is a flush or not, and somebody waits for it
pub record IsFirstOp {D : Type 0} (p : Parts D) (place : Place) (flush : Bool) : Type 0 where
  pub op : Op
  pub later : List Op
  pub first : p.stock.layout.ops ≡ op ∷ later
  pub place_is : place ≡ place_of op
  pub flush_is : flush ≡ is_flush op
  pub waits : waiting_op (state p.trail) ≡ Some (headed op)

-- no sync that waits has its reply
abbrev pub SyncsWait : State → List (Option Reply) → Type 0
SyncsWait st told = (ticket : ℕ) → list_any (λ (s : Waiter). s.ticket == ticket) st.syncs ≡ true
    → slice_get told ticket ≡ Some None

-- The head has something to do, and what waits for it is what the events leave.
pub record IsReady {D : Type 0} (drive : Ghosts D) (p : Parts D) : Type 0 where
  pub limits : p.stock.layout.limits ≡ drive.limits p.drive
  pub size : p.stock.layout.block_size ≤ 1048576
  pub work : HasWork p
  pub syncs : SyncsWait (state p.trail) p.listed.replies
  pub queue : requests p.queue ≡ (state p.trail).requests
  pub none_due : due_ticket (state p.trail) ≡ None
  pub answers : (k : ℕ) (a : Answer) → answer_for k p.answered ≡ Some a
      → slice_get p.listed.replies k ≡ Some (Some (the_replies.Answer a))

-- these syncs were answered, at this number of commands, and nothing else changed
pub record AnswersSome {D : Type 0} (commands : ℕ) (tickets : List ℕ) (old new : Parts D) : Type 0 where
  pub drive : new.drive ≡ old.drive
  pub stock : new.stock ≡ old.stock
  pub on : new.on ≡ old.on
  pub events : new.trail.events ≡ old.trail.events ++ synced_events tickets
  pub acks : new.trail.acks ≡ old.trail.acks ++ acks_at commands tickets
  pub kept : new.trail.kept ≡ old.trail.kept
  pub listed : KeepsListed old new
  pub replies : new.listed.replies ≡ all_synced tickets old.listed.replies
  pub queue : new.queue ≡ old.queue
  pub answered : new.answered ≡ old.answered
  pub reads : new.reads ≡ old.reads
  pub cached : new.cached ≡ old.cached

-- and none is left that is due
pub record AnswersSyncs {D : Type 0} (commands : ℕ) (tickets : List ℕ) (old new : Parts D) : Type 0 where
  pub answers : AnswersSome commands tickets old new
  pub trail : IsTrail new.trail.events
  pub none_due : due_ticket (state new.trail) ≡ None

-- The first op failed on the drive: who has waited longest is told.
pub record TellsFault {D : Type 0} (op : Op) (counts : Twin) (old new : Parts D) : Type 0 where
  pub drive : new.drive ≡ old.drive
  pub answered : new.answered ≡ old.answered
  pub told : IsFaultTold op counts old new

-- the answer of a read that has met all its blocks is kept, too
abbrev pub KeepsAnswer : {D : Type 0} → Bool → ℕ → Parts D → Parts D → Type 0
KeepsAnswer true ticket old new = new.answered ≡ old.answered
KeepsAnswer false ticket old new = (gives : Answer) × (new.answered ≡ old.answered ++ (ticket, gives) ∷ [])
    × (new.listed.replies ≡ replied ticket (the_replies.Answer gives) old.listed.replies)

-- The block of a request was read, or what else stood there.
pub record TakesBlock {D : Type 0} (ticket : ℕ) (place : Place) (got : Got) (block : List ℕ) (old new : Parts D)
    : Type 0 where
  pub drive : new.drive ≡ old.drive
  pub answered : KeepsAnswer (list_any (λ w. w.owner == ticket) new.queue.waiting) ticket old new
  pub taken : IsBlockTaken ticket place got block old new

-- The step for a request failed.
pub record MissesBlock {D : Type 0} (ticket : ℕ) (place : Place) (counts : Twin) (old new : Parts D) : Type 0 where
  pub drive : new.drive ≡ old.drive
  pub answered : new.answered ≡ old.answered
  pub missed : IsRequestMissed ticket place counts old new

-- placement on the index partition begins with the first flush of the data partition
abbrev pub settles : Place → Bool → Bool
settles place flush = flush && same_part place.part Dp

abbrev pub on_settled : Bool → ℕ → Option ℕ → Option ℕ
on_settled true here on = on_from here on
on_settled false here on = on

-- the first op is taken out
pub record TakesOp {D : Type 0} (place : Place) (flush : Bool) (old new : Parts D) : Type 0 where
  pub drive : new.drive ≡ old.drive
  pub stock : new.stock ≡ record old.stock {
    layout = record old.stock.layout {
      ops = drop 1 old.stock.layout.ops;
      ip_on = cond (settles place flush) true old.stock.layout.ip_on;
    };
  }
  pub on : new.on ≡ on_settled (settles place flush) (length old.listed.history) old.on
  pub events : new.trail.events ≡ old.trail.events ++ the_events.Worked place None ∷ []
  pub acks : new.trail.acks ≡ old.trail.acks
  pub kept : new.trail.kept ≡ old.trail.kept
  pub listed : new.listed ≡ old.listed
  pub queue : new.queue ≡ old.queue
  pub answered : new.answered ≡ old.answered
  pub reads : new.reads ≡ old.reads
  pub cached : new.cached ≡ old.cached

-- an op that the head has done is taken out, and each sync that is due then was answered
pub record FinishesOp {D : Type 0} (commands : ℕ) (op : Op) (tickets : List ℕ) (old new : Parts D) : Type 0 where
  pub drive : new.drive ≡ old.drive
  pub answered : new.answered ≡ old.answered
  pub done : IsOpDone commands op tickets old new
