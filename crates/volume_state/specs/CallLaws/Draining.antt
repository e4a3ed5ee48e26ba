-- What a turn of a session that drains makes of the parts of a volume.
use Rattle.std.specs.Prelude.{ℕ, ◌≡◌, ◌≤◌, ◌<◌, List, [], ◌∷◌, ◌++◌, Some, length}
use Rattle.tape_types.specs.declared.moments.Moment.{Moment}
use Rattle.tape_types.specs.declared.cartridges.Twin.{Twin}
use Rattle.plain_tree.specs.declared.calls.Fate.TheVariants as fates
use Rattle.session_script.specs.declared.logs.Event.{Event}
use Rattle.session_script.specs.declared.logs.Event.TheVariants as the_events
use Rattle.session_script.specs.declared.logs.Reply.TheVariants as the_replies
use Rattle.head_queue.specs.EventLaws.Trail.{IsTrail}
use Rattle.tape_drive.specs.declared.drive.Drive.{Ghosts}
use Rattle.promises.specs.ServingPromise.Faults.{kept_for}
use Rattle.promises.specs.ServingPromise.Marks.{mark}
use Rattle.promises.specs.ServingPromise.Steps.{without_session}
use Rattle.promises.specs.declared.serving_promise.answers.Drained.{Drained}
use Rattle.promises.specs.declared.serving_promise.answers.Drained.TheVariants as the_drained
use Rattle.promises.specs.declared.serving_promise.marks.MarkKind.TheVariants as kinds
use Rattle.volume_state.specs.StateLaws.Parts.{Parts}
use Rattle.volume_state.specs.StateLaws.Placing.{PlacesCall}
use Rattle.volume_state.specs.CallLaws.Handing.{StepsOn}

-- nothing of the tape, of reads, of the blocks that are kept and of placement changes
pub record KeepsTape {D : Type 0} (old new : Parts D) : Type 0 where
  pub drive : new.drive ≡ old.drive
  pub stock : new.stock ≡ old.stock
  pub queue : new.queue ≡ old.queue
  pub reads : new.reads ≡ old.reads
  pub answered : new.answered ≡ old.answered
  pub on : new.on ≡ old.on
  pub cached : new.cached ≡ old.cached
  pub acks : new.trail.acks ≡ old.trail.acks

-- The fault that is kept for the session is taken, and its write is placed void with it.
pub record TakesFault {D : Type 0} (who nth : ℕ) (at : Moment) (counts : Twin) (old new : Parts D) : Type 0 where
  pub is_kept : kept_for who old.trail.kept ≡ counts ∷ []
  pub kept : new.trail.kept ≡ without_session who old.trail.kept
  pub events : new.trail.events ≡ old.trail.events
  pub tape : KeepsTape old new
  pub places : PlacesCall who nth at fates.Void (Some (the_replies.Fault counts)) old new

-- There is room, and no fault is kept for the session: it rests.
pub record RestsNow {D : Type 0} (who : ℕ) (old new : Parts D) : Type 0 where
  pub none : kept_for who old.trail.kept ≡ []
  pub room : length old.stock.layout.ops ≤ 64
  pub kept : new.trail.kept ≡ old.trail.kept
  pub events : new.trail.events ≡ old.trail.events ++ the_events.Rests who ∷ []
  pub trail : IsTrail new.trail.events
  pub tape : KeepsTape old new
  pub history : new.listed.history ≡ old.listed.history
  pub replies : new.listed.replies ≡ old.listed.replies
  pub marks : new.listed.marks ≡ old.listed.marks ++ mark who kinds.Rests ∷ []
  pub calls : new.listed.calls ≡ old.listed.calls
  pub sessions : new.listed.sessions ≡ old.listed.sessions

-- no fault is kept for the session, and there is no room
pub record IsFull {D : Type 0} (who : ℕ) (p : Parts D) : Type 0 where
  pub none : kept_for who p.trail.kept ≡ []
  pub many : 64 < length p.stock.layout.ops

-- How such a turn ends, without a step where a fault is kept or there is room, and else with one.
pub data DrainsTo {D : Type 0} (drive : Ghosts D) (who nth : ℕ) (at : Moment) (old new : Parts D)
    : Drained → Type 0 where
  fault : (counts : Twin) → TakesFault who nth at counts old new
      → DrainsTo drive who nth at old new (the_drained.Fault counts)
  room : RestsNow who old new → DrainsTo drive who nth at old new the_drained.Room
  then_fault : (added : List Event) (mid : Parts D) (counts : Twin) → IsFull who old → StepsOn drive added old mid
      → TakesFault who nth at counts mid new → DrainsTo drive who nth at old new (the_drained.Fault counts)
  then_room : (added : List Event) (mid : Parts D) → IsFull who old → StepsOn drive added old mid → RestsNow who mid new
      → DrainsTo drive who nth at old new the_drained.Room
  then_more : (added : List Event) → IsFull who old → StepsOn drive added old new → IsFull who new
      → DrainsTo drive who nth at old new the_drained.More
