-- A script that grows within its limits.
use Rattle.std.proofs.Common.{◌≡◌, ◌≢◌, ℕ, zero, suc, ◌+◌, ◌*◌, ◌<◌, ◌≤◌, Bool, true, false, cond, eqb, List, [], ◌∷◌, ◌++◌, length, sum_by, sym, ap, ◌∙◌, refl, subst, arith, ⊎_elim, Some, None, Ok, Err, ne_eqb, map}
use Rattle.std.specs.Prelude.{Option, Result, IfOk, IfSome, nat_le, nat_eq, ◌&&◌, not, filter, option_and_then, codes}
use Rattle.std.specs.List.{starts_with}
use Rattle.std.specs.Str.{is_utf8}
use Rattle.std.proofs.lemmas.Bool.{cases_eq, eq-eqb, leb-false, ltb-false, or_parts}
use Rattle.std.proofs.lemmas.List.Sums.{sum_by-append}
use Rattle.std.proofs.lemmas.Bool.Decides.{nat_tests}
use Rattle.plain_tree.specs.declared.calls.Call.{Call}
use Rattle.session_script.specs.Bounds.{most_asked, most_calls, most_in_all, most_sessions, most_written}
use Rattle.session_script.specs.declared.faults.LineFault.{LineFault}
use Rattle.session_script.specs.declared.scripts.ScriptLine.{ScriptLine}
use Rattle.session_script.specs.declared.scripts.ScriptWhy.{ScriptWhy}
use Rattle.session_script.specs.declared.scripts.ScriptWhy.TheVariants as reasons
use Rattle.session_script.specs.Words.{words_of, number_of, session_of}
use Rattle.session_script.specs.Grammar.{calls_of, bytes_written, bytes_asked, limit_passed, unless_passed, limited, is_skipped, line_of, read_as, with_session, call_of, spelled_by}
use Rattle.session_script.specs.Sessions.{HasSessions}
use Rattle.session_script.specs.Limits.{CanFollow, IsBounded}
use Rattle.session_script.specs.Readings.{IsRead}
use Rattle.session_script.proofs.SessionLemmas.{length-calls_more, HasSessions-more}

-- one where it is so, else none
abbrev pub one_if : Bool → ℕ
one_if b = cond b 1 0

-- what passes no limit
pub record IsWithin (before : List ScriptLine) (line : ScriptLine) : Type 0 where
  pub calls : length (calls_of before line.who) < most_calls
  pub small_write : bytes_written line.call ≤ most_written
  pub small_read : bytes_asked line.call ≤ most_asked
  pub written : sum_by (λ l. bytes_written l.call) before + bytes_written line.call ≤ most_in_all
  pub asked : sum_by (λ l. bytes_asked l.call) before + bytes_asked line.call ≤ most_in_all

not_some : {A : Type 0} (b : Bool) (x : A) (o : Option A) → cond b (Some x) o ≡ None → (b ≡ false) × (o ≡ None)
not_some true x o e = cc
not_some false x o e = (refl, e)

-- a line that passes no limit is within the limits
pub IsWithin-passed : (before : List ScriptLine) (line : ScriptLine) → limit_passed before line ≡ None → IsWithin before line
IsWithin-passed before line e =
    let first = not_some _ reasons.Calls _ e in
    let second = not_some _ reasons.Big _ first.1 in
    let third = not_some _ reasons.Sum _ second.1 in
    let fourth = not_some _ reasons.Sum _ third.1 in record {
      calls = leb-false _ _ first.0;
      small_write = ltb-false _ _ (or_parts _ _ second.0).0;
      small_read = ltb-false _ _ (or_parts _ _ second.0).1;
      written = ltb-false _ _ third.0;
      asked = ltb-false _ _ fourth.0;
    }

sum_by-more : {X : Type 0} (f : X → ℕ) (xs : List X) (x : X) → sum_by f (xs ++ x ∷ []) ≡ sum_by f xs + f x
sum_by-more f xs x = sum_by-append f xs (x ∷ []) ∙ omega arith

-- the bytes that are written with one line more
pub written-more : (before : List ScriptLine) (line : ScriptLine) → sum_by (λ l. bytes_written l.call) (before ++ line ∷ []) ≡ sum_by (λ l. bytes_written l.call) before + bytes_written line.call
written-more before line = sum_by-more (λ (l : ScriptLine). bytes_written l.call) before line

-- the bytes that are asked for with one line more
pub asked-more : (before : List ScriptLine) (line : ScriptLine) → sum_by (λ l. bytes_asked l.call) (before ++ line ∷ []) ≡ sum_by (λ l. bytes_asked l.call) before + bytes_asked line.call
asked-more before line = sum_by-more (λ (l : ScriptLine). bytes_asked l.call) before line

-- a script within its bounds is so with one line more that passes no limit
pub IsBounded-more : (before : List ScriptLine) (line : ScriptLine) → IsBounded before → 1 ≤ line.who → line.who ≤ most_sessions → limit_passed before line ≡ None → IsBounded (before ++ line ∷ [])
IsBounded-more before line was low high passed =
    let within = IsWithin-passed before line passed in record {
      has_sessions = HasSessions-more before line was.has_sessions low high;
      calls = λ who. ⊎_elim
          (λ (same : line.who ≡ who).
          let e : length (calls_of before who) < most_calls = subst (λ w. length (calls_of before w) < most_calls) same within.calls in
          omega (arith, length-calls_more before line who, ap one_if (eq-eqb line.who who same)))
          (λ (other : line.who ≢ who). omega (arith, was.calls who, length-calls_more before line who, ap one_if (ne_eqb line.who who other)))
          (cases_eq line.who who);
      written = rw written-more within.written;
      asked = rw asked-more within.asked;
    }

-- how many calls the sessions from 1 to n have
abbrev calls_to : List ScriptLine → ℕ → ℕ
calls_to s zero = 0
calls_to s (suc n) = calls_to s n + length (calls_of s (suc n))

calls_to-le : (s : List ScriptLine) (n : ℕ) → ((who : ℕ) → length (calls_of s who) ≤ most_calls)
    → calls_to s n ≤ n * most_calls
calls_to-le s zero few = omega arith
calls_to-le s (suc n) few = omega (arith, calls_to-le s n few, few (suc n))

one_more : (x : ScriptLine) (s : List ScriptLine) (who : ℕ) → length (calls_of (x ∷ s) who) ≡ length (calls_of s who) + cond (eqb x.who who) 1 0
one_more x s who = at (eqb x.who who)
  where
    at : (b : Bool) → length (map (λ (l : ScriptLine). l.call) (cond b (x ∷ filter (λ l. eqb l.who who) s) (filter (λ l. eqb l.who who) s))) ≡ length (calls_of s who) + cond b 1 0
    at true = omega arith
    at false = omega arith

calls_below : (x : ScriptLine) (s : List ScriptLine) (n : ℕ) → n < x.who → calls_to (x ∷ s) n ≡ calls_to s n
calls_below x s zero lt = refl
calls_below x s (suc n) lt = omega (arith, calls_below x s n (omega arith), one_more x s (suc n), ap one_if (ne_eqb x.who (suc n) (λ e. omega arith)))

calls_from_one : (x : ScriptLine) (s : List ScriptLine) (n : ℕ) → 1 ≤ x.who → x.who ≤ n → calls_to (x ∷ s) n ≡ calls_to s n + 1
calls_from_one x s zero low high = absurd (omega arith)
calls_from_one x s (suc n) low high = ⊎_elim
    (λ (last : x.who ≡ suc n). omega (arith, calls_below x s n (omega arith), one_more x s (suc n), ap one_if (eq-eqb x.who (suc n) last)))
    (λ (other : x.who ≢ suc n). omega (arith, calls_from_one x s n low (omega arith), one_more x s (suc n), ap one_if (ne_eqb x.who (suc n) other)))
    (cases_eq x.who (suc n))

all_counted : (s : List ScriptLine) → HasSessions s → length s ≤ calls_to s most_sessions
all_counted [] has = omega arith
all_counted (x ∷ s) has =
    let first : (1 ≤ x.who) × (x.who ≤ most_sessions) = has 0 x (omega arith) in
    let rest : length s ≤ calls_to s most_sessions = all_counted s (λ k d lt. has (suc k) d (omega arith)) in
    omega (arith, calls_from_one x s most_sessions first.0 first.1)

-- 16 sessions with at most 1,024 calls each
pub few_calls : (s : List ScriptLine) → IsBounded s → length s ≤ most_sessions * most_calls
few_calls s within = omega (arith, all_counted s within.has_sessions, calls_to-le s most_sessions within.calls)

-- what a line spells is a line of one of 16 sessions within the limits
session_low : (word : List ℕ) (who : ℕ) → session_of word ≡ Some who → (1 ≤ who) × (who ≤ most_sessions)
session_low word who e = at (number_of word) e
  where
    inner : (n : ℕ) (b : Bool) → cond (nat_le 1 n && nat_le n most_sessions && b) (Some n) None ≡ Some who
        → (1 ≤ who) × (who ≤ most_sessions)
    inner n b h = grind (arith, nat_tests)

    at : (o : Option ℕ) → option_and_then (λ n. cond (nat_le 1 n && nat_le n most_sessions && not (starts_with nat_eq word (codes "0"))) (Some n) None) o ≡ Some who → (1 ≤ who) × (who ≤ most_sessions)
    at None h = cc
    at (Some n) h = inner n _ h

with_session-who : (who : ℕ) (r : Result Call ScriptWhy) (line : ScriptLine) → with_session who r ≡ Ok line → line.who ≡ who
with_session-who who (Ok call) line e = let same : record { who = who; call = call } ≡ line = cc in ap (λ (l : ScriptLine). l.who) (sym same)
with_session-who who (Err why) line e = cc

spelled_session : (words : List (List ℕ)) (line : ScriptLine) → spelled_by words ≡ Ok line → (1 ≤ line.who) × (line.who ≤ most_sessions)
spelled_session [] line e = cc
spelled_session (word ∷ words) line e = at (session_of word) refl e
  where
    at : (o : Option ℕ) → session_of word ≡ o → read_as o reasons.Who (λ who. with_session who (call_of words)) ≡ Ok line → (1 ≤ line.who) × (line.who ≤ most_sessions)
    at None is h = cc
    at (Some who) is h =
        let same = with_session-who who (call_of words) line h in
        let range = session_low word who is in
        (omega (arith, range.0, same), omega (arith, range.1, same))

-- a line that is taken spells its call, and passes no limit
pub line_spelled : (before : List ScriptLine) (line : List ℕ) (spelled : ScriptLine) → line_of before line ≡ Ok (Some spelled) → (spelled_by (words_of line) ≡ Ok spelled) × (limit_passed before spelled ≡ None)
line_spelled before line spelled e = top (is_utf8 line) (is_skipped line) (spelled_by (words_of line)) e
  where
    unpassed : (o : Option ScriptWhy) (l : ScriptLine) → unless_passed o l ≡ Ok (Some spelled) → (o ≡ None) × (l ≡ spelled)
    unpassed None l h = (refl, cc)
    unpassed (Some why) l h = cc

    within : (r : Result ScriptLine ScriptWhy) → limited before r ≡ Ok (Some spelled) → (r ≡ Ok spelled) × (limit_passed before spelled ≡ None)
    within (Ok l) h = let u = unpassed (limit_passed before l) l h in (ap Ok u.1, ap (limit_passed before) (sym u.1) ∙ u.0)
    within (Err why) h = cc

    top : (utf8 skipped : Bool) (r : Result ScriptLine ScriptWhy) → cond (not utf8) (Err reasons.Utf8) (cond skipped (Ok None) (limited before r)) ≡ Ok (Some spelled) → (r ≡ Ok spelled) × (limit_passed before spelled ≡ None)
    top false skipped r h = cc
    top true true r h = cc
    top true false r h = within r h

-- a line that is taken is of one of the 16 sessions
pub line_session : (before : List ScriptLine) (line : List ℕ) (spelled : ScriptLine) → line_of before line ≡ Ok (Some spelled) → (1 ≤ spelled.who) × (spelled.who ≤ most_sessions)
line_session before line spelled e = spelled_session (words_of line) spelled (line_spelled before line spelled e).0

-- what is read of a line can follow the lines before it
pub can_follow : (before : List ScriptLine) (line : List ℕ) (r : Result (Option ScriptLine) LineFault) → IsRead r (line_of before line) → IfOk r (λ read. IfSome read (CanFollow before))
can_follow before line (Ok None) h = tt
can_follow before line (Ok (Some spelled)) h =
    let session = line_session before line spelled h in record {
      low = session.0;
      high = session.1;
      limited = (line_spelled before line spelled h).1;
    }
can_follow before line (Err why) h = tt
