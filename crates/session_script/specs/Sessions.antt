-- Which lines of a script are whose calls.
use Rattle.std.specs.Prelude.{◌≡◌, ℕ, ◌+◌, ◌-◌, ◌^◌, ◌<◌, ◌≤◌, max, List, [], ◌∷◌, ◌==◌, if◌then◌else◌, All, fold, map}
use Rattle.std.specs.Prelude.{length, take, slice_get, slice_index, slice_index_or, unwrap_or}
use Rattle.std.specs.Option.{option_map}
use Rattle.session_script.specs.Bounds.{most_sessions}
use Rattle.session_script.specs.declared.scripts.ScriptLine.{ScriptLine}
use Rattle.session_script.specs.Grammar.{calls_of}

-- the number of a line's call: how many calls of its session stand before it
abbrev pub nth_at : List ScriptLine → ℕ → ℕ
nth_at script k = unwrap_or (option_map (λ line. length (calls_of (take k script) line.who)) (slice_get script k)) 0

-- the greatest session that has a call, or 0
abbrev pub greatest_session : List ScriptLine → ℕ
greatest_session script = fold max 0 (map (λ l. l.who) script)

-- every session is one of 16
abbrev pub HasSessions : List ScriptLine → Type 0
HasSessions script = All (λ l. (1 ≤ l.who) × (l.who ≤ most_sessions)) script

-- the places of a session's lines, of which the first line of the list has this place
abbrev pub places_from : ℕ → List ScriptLine → ℕ → List ℕ
places_from place [] who = []
places_from place (line ∷ lines) who =
    if line.who == who then place ∷ places_from (place + 1) lines who else places_from (place + 1) lines who

-- the numbers of the lines' calls, the places of each session's lines, and the greatest session
pub record IsIndexed (lines : List ScriptLine) (nths : List ℕ) (places : List (List ℕ)) (sessions : ℕ) : Type 0 where
  pub has_sessions : HasSessions lines
  pub small : length lines < 2 ^ 32
  pub numbered : length nths ≡ length lines
  pub numbers : (k : ℕ) → k < length lines → slice_index nths k ≡ nth_at lines k
  pub listed : length places ≡ most_sessions
  pub lists : (who : ℕ) → 1 ≤ who → who ≤ most_sessions → slice_index_or places (who - 1) [] ≡ places_from 0 lines who
  pub greatest : sessions ≡ greatest_session lines
