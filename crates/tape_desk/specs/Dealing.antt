-- How the passes of a desk are dealt when it is opened.
use Rattle.std.specs.Prelude.{ℕ, ◌≡◌, ◌≤◌, ◌<◌, ◌+◌, List, [], ◌∷◌, length, slice_index_or}
use Rattle.atomic_table.specs.Seated.{TableId}
use Rattle.session_script.specs.Grammar.{calls_of}
use Rattle.session_script.specs.Sessions.{greatest_session}
use Rattle.session_script.specs.declared.scripts.ScriptLine.{ScriptLine}
use Rattle.turn_lock.specs.Histories.{numbers_to}
use Rattle.turn_lock.specs.Passes.{PassView, first_pass, with_numbers}
use Rattle.promises.specs.declared.serving_promise.marks.Mark.{Mark}
use Rattle.tape_desk.specs.Held.{Constants}
use Rattle.tape_desk.specs.Passes.{DeskView, IsNew}

-- how many calls the script has for each of the sessions, in order
pub record AreCounts (script : List ScriptLine) (sessions : ℕ) (counts : List ℕ) : Type 0 where
  pub many : length counts ≡ sessions
  pub each : (k d : ℕ) → k < length counts → slice_index_or counts k d ≡ length (calls_of script (k + 1))

module _ {D K : Type 0} (lock : TableId) (sessions : ℕ) (fixed : Constants D K) where
  -- the pass of these numbers, of a volume of which nothing was asked
  abbrev pub of_numbers : List ℕ → PassView Mark (Constants D K)
  of_numbers numbers = with_numbers numbers (first_pass lock sessions [] fixed)

  -- the passes of the sessions after n, in order
  abbrev pub AreDealtAfter : ℕ → List (DeskView D K) → Type 0
  AreDealtAfter n ps = (length ps + n ≡ sessions)
      × ((k : ℕ) (p : DeskView D K) → k < length ps → IsNew lock sessions fixed (n + k + 1) (slice_index_or ps k p))

-- the first pass of a desk, with the counts of its sessions' calls
pub record CanDeal {D K : Type 0} (lock : TableId) (sessions : ℕ) (counts : List ℕ) (whole : PassView Mark (Constants D K))
    : Type 0 where
  pub fixed : Constants D K
  pub whole_is : whole ≡ of_numbers lock sessions fixed (numbers_to sessions)
  pub sessions_are : sessions ≡ greatest_session fixed.volume.script
  pub counts_are : AreCounts fixed.volume.script sessions counts

-- the pass of a session of which nothing was asked, and how many calls the script has for it
pub record CanBegin {D K : Type 0} (who count : ℕ) (pass : PassView Mark (Constants D K)) : Type 0 where
  pub lock : TableId
  pub sessions : ℕ
  pub fixed : Constants D K
  pub pass_is : pass ≡ of_numbers lock sessions fixed (who ∷ [])
  pub sessions_are : sessions ≡ greatest_session fixed.volume.script
  pub count_is : count ≡ length (calls_of fixed.volume.script who)

-- The passes of the sessions after n are dealt, and what is left of the first pass has the numbers 1 to n.
pub record HasDealt {D K : Type 0} (lock : TableId) (sessions : ℕ) (counts : List ℕ) (first : PassView Mark (Constants D K))
    (n : ℕ) (whole : PassView Mark (Constants D K)) (ps : List (DeskView D K)) : Type 0 where
  pub can : CanDeal lock sessions counts first
  pub some : 1 ≤ n
  pub whole_is : whole ≡ of_numbers lock sessions can.fixed (numbers_to n)
  pub dealt : AreDealtAfter lock sessions can.fixed n ps
