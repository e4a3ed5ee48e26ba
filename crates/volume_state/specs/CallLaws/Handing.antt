-- How a reply is handed out, and the answers of reads that a step brings.
use Rattle.std.specs.Prelude.{ℕ, ◌≡◌, ◌≢◌, ◌⊎◌, List, [], ◌∷◌, ◌++◌, Some, None, slice_get}
use Rattle.plain_tree.specs.declared.calls.Answer.{Answer}
use Rattle.plain_tree.specs.declared.calls.Answer.TheVariants as the_answers
use Rattle.session_script.specs.declared.logs.Event.{Event}
use Rattle.session_script.specs.declared.logs.Reply.{Reply}
use Rattle.session_script.specs.declared.logs.Reply.TheVariants as the_replies
use Rattle.tape_drive.specs.declared.drive.Drive.{Ghosts}
use Rattle.promises.specs.ServingPromise.Marks.{mark}
use Rattle.promises.specs.declared.serving_promise.answers.Turn.{Turn}
use Rattle.promises.specs.declared.serving_promise.answers.Turn.TheVariants as the_turns
use Rattle.promises.specs.declared.serving_promise.marks.MarkKind.TheVariants as kinds
use Rattle.waiting_reads.specs.Waiting.{answer_for, for_others}
use Rattle.volume_state.specs.StateLaws.Parts.{Parts}
use Rattle.volume_state.specs.StateLaws.Stepping.{Steps}

-- The reply at a place is handed out to its session, and its answer is kept no more.
pub record HandsOut {D : Type 0} (who ticket : ℕ) (reply : Reply) (old new : Parts D) : Type 0 where
  pub there : slice_get old.listed.replies ticket ≡ Some (Some reply)
  pub marks : new.listed.marks ≡ old.listed.marks ++ mark who (kinds.Hands ticket reply) ∷ []
  pub answered : new.answered ≡ for_others ticket old.answered
  pub history : new.listed.history ≡ old.listed.history
  pub replies : new.listed.replies ≡ old.listed.replies
  pub calls : new.listed.calls ≡ old.listed.calls
  pub sessions : new.listed.sessions ≡ old.listed.sessions
  pub drive : new.drive ≡ old.drive
  pub stock : new.stock ≡ old.stock
  pub trail : new.trail ≡ old.trail
  pub queue : new.queue ≡ old.queue
  pub reads : new.reads ≡ old.reads
  pub on : new.on ≡ old.on
  pub cached : new.cached ≡ old.cached

-- The answers that were kept still are, and no other but those that came; and each that came of a read is.
pub record KeepsAnswers {D : Type 0} (old new : Parts D) : Type 0 where
  pub stay : (k : ℕ) (a : Answer) → answer_for k old.answered ≡ Some a → answer_for k new.answered ≡ Some a
  pub only : (k : ℕ) (a : Answer) → answer_for k new.answered ≡ Some a → (answer_for k old.answered ≡ Some a)
      ⊎ (slice_get new.listed.replies k ≡ Some (Some (the_replies.Answer a)))
  pub came : (k : ℕ) (a : Answer) → slice_get old.listed.replies k ≡ Some None
      → slice_get new.listed.replies k ≡ Some (Some (the_replies.Answer a)) → a ≢ the_answers.Synced
      → answer_for k new.answered ≡ Some a

-- a step of the head, with the answers that it brings
pub record StepsOn {D : Type 0} (drive : Ghosts D) (added : List Event) (old new : Parts D) : Type 0 where
  pub steps : Steps drive old new added
  pub answers : KeepsAnswers old new

-- What a turn of a session that waits for a place makes of the parts: the reply is there and is handed out; or a step
-- is made, and then it is there and handed out, or not.
pub data TurnsTo {D : Type 0} (drive : Ghosts D) (who ticket : ℕ) (old new : Parts D) : Turn → Type 0 where
  at_once : (reply : Reply) → HandsOut who ticket reply old new
      → TurnsTo drive who ticket old new (the_turns.Ready reply)
  then_ready : (added : List Event) (mid : Parts D) (reply : Reply) → slice_get old.listed.replies ticket ≡ Some None
      → StepsOn drive added old mid → HandsOut who ticket reply mid new
      → TurnsTo drive who ticket old new (the_turns.Ready reply)
  more : (added : List Event) → StepsOn drive added old new → slice_get new.listed.replies ticket ≡ Some None
      → TurnsTo drive who ticket old new the_turns.More
