-- What a submission asks of the parts of a volume, and how it ends.
use Rattle.std.specs.Prelude.{ℕ, ◌≡◌, ◌+◌, ◌*◌, ◌<◌, ◌≤◌, Bool, List, [], ◌∷◌, ◌++◌}
use Rattle.std.specs.Prelude.{Some, None, drop, length}
use Rattle.tape_types.specs.declared.cartridges.Place.{Place}
use Rattle.tape_types.specs.declared.moments.Moment.{Moment}
use Rattle.plain_tree.specs.declared.calls.Answer.TheVariants as the_answers
use Rattle.plain_tree.specs.declared.calls.Call.{Call}
use Rattle.plain_tree.specs.declared.calls.Fate.{Fate}
use Rattle.plain_tree.specs.declared.calls.Fate.TheVariants as fates
use Rattle.session_script.specs.declared.logs.Event.{Event}
use Rattle.session_script.specs.declared.logs.Event.TheVariants as the_events
use Rattle.head_queue.specs.Queued.{Queued, requests}
use Rattle.session_script.specs.declared.logs.Reply.{Reply}
use Rattle.session_script.specs.declared.logs.Reply.TheVariants as the_replies
use Rattle.head_queue.specs.EventLaws.Trail.{IsTrail}
use Rattle.head_queue.specs.EventLaws.Waiting as waiting
use Rattle.tape_drive.specs.declared.drive.Drive.{Ghosts}
use Rattle.tape_layout.specs.declared.ops.Op.{Op}
use Rattle.tape_layout.specs.declared.errors.AdmitErr.{AdmitErr}
use Rattle.tape_layout.specs.declared.errors.AdmitErr.TheVariants as errors
use Rattle.space_laws.specs.Standing.{Given, Standing}
use Rattle.promises.specs.ServingPromise.Marks.{idle, phase}
use Rattle.promises.specs.declared.serving_promise.answers.Submitted.{Submitted}
use Rattle.promises.specs.declared.serving_promise.answers.Submitted.TheVariants as submitted
use Rattle.promises.specs.ServingPromise.Submits.{queues_at, synced_at}
use Rattle.held_volume.specs.Applied.{IsUnchanged}
use Rattle.held_volume.specs.Stocks.{IsStock, Stocked}
use Rattle.event_journal.specs.Placements.{Listed}
use Rattle.event_journal.specs.Trails.{Journaled, due_ticket, state}
use Rattle.volume_state.specs.PlanLaws.Planned.{IsPlan, Items, ends_in, tape_on}
use Rattle.volume_state.specs.StateLaws.Parts.{Parts}
use Rattle.volume_state.specs.StateLaws.Placing.{PlacesCall, synced_here, synced_reply}
use Rattle.volume_state.specs.StateLaws.Stepping.{acks_at}
use Rattle.volume_state.specs.CallLaws.SubmitLaws.{Made, synced_answer}

-- there is room for a call of a session that neither waits nor drains
pub record CanPlace (who : ℕ) (listed : Listed) : Type 0 where
  pub low : 1 ≤ who
  pub high : who ≤ listed.sessions
  pub free : phase who listed.marks ≡ idle
  pub room : length listed.history < listed.calls

-- and no sync is due
pub record CanAsk {D : Type 0} (who : ℕ) (p : Parts D) : Type 0 where
  pub place : CanPlace who p.listed
  pub trail : IsTrail p.trail.events
  pub none_due : due_ticket (state p.trail) ≡ None

-- what is held is what stands, on the tape that there is once all ops are done
pub record Stands {D : Type 0} (p : Parts D) : Type 0 where
  pub planned : Items
  pub g : Given
  pub on : Bool
  pub st : Standing
  pub stock : IsStock (tape_on planned) g on st p.stock
  pub ends : st.space.ends ≡ ends_in planned
  pub plan : IsPlan planned p.stock.layout.ops
  pub ops : length (waiting.ops (state p.trail)) ≡ length p.stock.layout.ops

-- what a call is told that is void
abbrev pub told_void : AdmitErr → Reply
told_void (errors.Full need limit) = the_replies.Full need limit
told_void errors.NoMemory = the_replies.NoMemory

-- a call is placed with its reply, which is handed out, and nothing else is done
pub record Finishes {D : Type 0} (who nth : ℕ) (at : Moment) (fate : Fate) (reply : Reply) (result : Submitted)
    (old new : Parts D) : Type 0 where
  pub ready : result ≡ submitted.Ready reply
  pub places : PlacesCall who nth at fate (Some reply) old new
  pub others : new ≡ record old { listed = new.listed }

-- there may be memory for more, and nothing else has changed
pub record Reserves {D : Type 0} (old new : Parts D) : Type 0 where
  pub drive : new.drive ≡ old.drive
  pub stock : IsUnchanged old.stock new.stock
  pub on : new.on ≡ old.on
  pub events : new.trail.events ≡ old.trail.events
  pub acks : new.trail.acks ≡ old.trail.acks
  pub kept : new.trail.kept ≡ old.trail.kept
  pub waiting : new.queue.waiting ≡ old.queue.waiting
  pub arrived : new.queue.arrived ≡ old.queue.arrived
  pub reads : new.reads ≡ old.reads
  pub cached : new.cached ≡ old.cached
  pub history : new.listed.history ≡ old.listed.history
  pub replies : new.listed.replies ≡ old.listed.replies
  pub marks : new.listed.marks ≡ old.listed.marks
  pub calls : new.listed.calls ≡ old.listed.calls
  pub sessions : new.listed.sessions ≡ old.listed.sessions

-- ops at these places are queued
pub record Queues (places : List Place) (old new : Journaled) : Type 0 where
  pub events : new.events ≡ old.events ++ queues_at places
  pub acks : new.acks ≡ old.acks
  pub kept : new.kept ≡ old.kept
  pub trail : IsTrail new.events
  pub none_due : due_ticket (state new) ≡ None

-- a call is done that queues these, and is placed with its reply
pub record QueuesDone {D : Type 0} (who nth : ℕ) (at : Moment) (queued : List Place) (result : Submitted)
    (old new : Parts D) : Type 0 where
  pub ready : result ≡ submitted.Ready (the_replies.Answer the_answers.Done)
  pub places : PlacesCall who nth at fates.Done (Some (the_replies.Answer the_answers.Done)) old new
  pub queues : Queues queued old.trail new.trail
  pub others : new ≡ record old { listed = new.listed; trail = new.trail }

-- a call is placed and waits for turns, and nothing else is done
pub record Awaits {D : Type 0} (who nth : ℕ) (at : Moment) (result : Submitted) (old new : Parts D) : Type 0 where
  pub waits : result ≡ submitted.Wait (length old.listed.history)
  pub places : PlacesCall who nth at fates.Done None old new
  pub others : new ≡ record old { listed = new.listed }

-- a sync that is placed here is answered at once
pub record AnswersSync {D : Type 0} (drive : Ghosts D) (who nth : ℕ) (at : Moment) (here : ℕ) (result : Submitted)
    (old new : Parts D) : Type 0 where
  pub ready : result ≡ submitted.Ready (the_replies.Answer the_answers.Synced)
  pub places : PlacesCall who nth at fates.Done (Some (the_replies.Answer the_answers.Synced)) old new
  pub events : new.trail.events ≡ old.trail.events ++ the_events.Synced here ∷ []
  pub acks : new.trail.acks ≡ old.trail.acks ++ record { place = here; command = drive.commands old.drive } ∷ []
  pub kept : new.trail.kept ≡ old.trail.kept
  pub trail : IsTrail new.trail.events
  pub others : new ≡ record old { listed = new.listed; trail = new.trail }

-- a sync waits for the ops that stand, or is answered at once where there are none
pub record WaitsSynced {D : Type 0} (drive : Ghosts D) (who nth : ℕ) (at : Moment) (result : Submitted)
    (old new : Parts D) : Type 0 where
  pub result_is : result ≡ synced_answer (length old.listed.history) old.stock.layout.ops
  pub events : new.trail.events ≡ old.trail.events ++ the_events.Syncs (length old.listed.history)
      ∷ synced_at (length old.listed.history) (waiting.ops (state old.trail))
  pub acks : new.trail.acks ≡ old.trail.acks
      ++ acks_at (drive.commands old.drive) (synced_here (length old.listed.history) old.stock.layout.ops)
  pub kept : new.trail.kept ≡ old.trail.kept
  pub trail : IsTrail new.trail.events
  pub none_due : due_ticket (state new.trail) ≡ None
  pub places : PlacesCall who nth at fates.Done (synced_reply old.stock.layout.ops) old new
  pub others : new ≡ record old { listed = new.listed; trail = new.trail }

-- the ops of a sync were admitted behind so many others, and there is room for their events
pub record CanQueueSync (others : ℕ) (stock : Stocked) (trail : Journaled) : Type 0 where
  pub ops : length (waiting.ops (state trail)) + length (drop others stock.layout.ops) ≡ length stock.layout.ops
  pub room : 2 * length (drop others stock.layout.ops) + 2 ≤ trail.spare

-- the ops of a sync are queued at these places, and then it waits or is answered
pub record QueuesSync {D : Type 0} (drive : Ghosts D) (who nth : ℕ) (at : Moment) (queued : List Place)
    (result : Submitted) (old new : Parts D) : Type 0 where
  pub mid : Journaled
  pub queues : Queues queued old.trail mid
  pub waits : WaitsSynced drive who nth at result (record old { trail = mid }) new

-- a submission ends so, with the ops that were added
abbrev pub IsSubmitted : {D : Type 0} → Ghosts D → ℕ → ℕ → Moment → Parts D → Parts D → Call → Submitted → Type 0
IsSubmitted drive who nth at old new call result = (asked : List Op) × Made drive who nth call at old new result asked
