-- Scripts within the limits, and their growth by a line.
use Rattle.std.specs.Prelude.{◌≡◌, ℕ, ◌≤◌, List, None, length, sum_by}
use Rattle.session_script.specs.Bounds.{most_calls, most_in_all, most_sessions}
use Rattle.session_script.specs.declared.scripts.ScriptLine.{ScriptLine}
use Rattle.session_script.specs.Grammar.{calls_of, bytes_written, bytes_asked, limit_passed}
use Rattle.session_script.specs.Sessions.{HasSessions}

-- every session is one of 16 and has at most 1,024 calls; all writes and all reads are within their sum
pub record IsBounded (script : List ScriptLine) : Type 0 where
  pub has_sessions : HasSessions script
  pub calls : (who : ℕ) → length (calls_of script who) ≤ most_calls
  pub written : sum_by (λ l. bytes_written l.call) script ≤ most_in_all
  pub asked : sum_by (λ l. bytes_asked l.call) script ≤ most_in_all

-- a line of one of 16 sessions passes no limit behind these lines
pub record CanFollow (before : List ScriptLine) (line : ScriptLine) : Type 0 where
  pub low : 1 ≤ line.who
  pub high : line.who ≤ most_sessions
  pub limited : limit_passed before line ≡ None

-- lines within the limits write so many bytes and ask for so many
pub record AreCounted (script : List ScriptLine) (written asked : ℕ) : Type 0 where
  pub written_in_all : written ≡ sum_by (λ l. bytes_written l.call) script
  pub asked_in_all : asked ≡ sum_by (λ l. bytes_asked l.call) script
  pub bounded : IsBounded script
