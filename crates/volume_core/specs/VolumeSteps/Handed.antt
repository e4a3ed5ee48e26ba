-- What a turn asks of the parts of a volume.
use Rattle.std.specs.Prelude.{ℕ, ◌≡◌, ◌≢◌, ◌≤◌, List, Option, Some, length, slice_get}
use Rattle.plain_tree.specs.declared.calls.Answer.{Answer}
use Rattle.plain_tree.specs.declared.calls.Answer.TheVariants as the_answers
use Rattle.plain_tree.specs.declared.calls.Placed.{Placed}
use Rattle.session_script.specs.declared.logs.Reply.{Reply}
use Rattle.session_script.specs.declared.logs.Reply.TheVariants as the_replies
use Rattle.promises.specs.ServingPromise.Marks.{phase, waits}
use Rattle.volume_state.specs.CallLaws.Running.{HasAnswers}
use Rattle.volume_state.specs.StateLaws.Parts.{Parts}

-- A session waits for the reply of a place, which is one of its calls'; so does no other. The answers of reads are kept
-- until they are handed out.
pub record CanHand {D : Type 0} (ticket : ℕ) (p : Parts D) : Type 0 where
  pub placed : Placed
  pub is : slice_get p.listed.history ticket ≡ Some placed
  pub waits_for : phase placed.who p.listed.marks ≡ waits ticket
  pub alone : (who : ℕ) → phase who p.listed.marks ≡ waits ticket → who ≡ placed.who
  pub low : 1 ≤ placed.who
  pub high : placed.who ≤ p.listed.sessions
  pub each : length p.listed.replies ≡ length p.listed.history
  pub answers : HasAnswers p

-- what is handed out of a reply is kept apart: it is an answer, and not that of a sync
abbrev pub IsApart : Reply → Type 0
IsApart reply = (a : Answer) × (reply ≡ the_replies.Answer a) × (a ≢ the_answers.Synced)

-- the reply of a place is such a one, where it is there
abbrev pub IsApartAt : ℕ → List (Option Reply) → Type 0
IsApartAt place told = (reply : Reply) → slice_get told place ≡ Some (Some reply) → IsApart reply
