-- Scripts, as they are read and as they are spelled.
use Rattle.std.proofs.Common.{◌≡◌, ◌≢◌, ⊎_elim, inl, inr, ℕ, ◌+◌, ◌<◌, ◌≤◌, Bool, true, false, cond, eqb, List, [], ◌∷◌, ◌++◌, length, map, sum_by, sym, ap, ◌∙◌, refl, subst, arith, Some, None, Ok, Err, append-nil, append_assoc, length-append, ne_eqb}
use Rattle.std.specs.Prelude.{Option, Result, ◌||◌, nat_le, nat_lt, filter}
use Rattle.std.specs.List.{AllByRecursion}
use Rattle.std.specs.Str.{IsUtf8}
use Rattle.std.proofs.lemmas.Bool.{cases_eq, eq-eqb, ltb-false}
use Rattle.std.proofs.lemmas.Bool.Decides.{nat_tests}
use Rattle.std.proofs.lemmas.List.{map-append}
use Rattle.std.proofs.lemmas.List.Elements.{filter-append}
use Rattle.std.proofs.lemmas.List.Splits.{length-slice_split}
use Rattle.std.proofs.lemmas.List.Sums.{sum_by-append}
use Rattle.session_script.specs.Bounds.{longest_script, most_asked, most_calls, most_in_all, most_written}
use Rattle.session_script.specs.declared.scripts.ScriptErr.{ScriptErr}
use Rattle.session_script.specs.declared.scripts.ScriptLine.{ScriptLine}
use Rattle.session_script.specs.declared.scripts.ScriptWhy.{ScriptWhy}
use Rattle.session_script.specs.declared.scripts.ScriptWhy.TheVariants as reasons
use Rattle.session_script.specs.Grammar.{calls_of, bytes_written, bytes_asked, limit_passed, line_of, with_line, and_then, script_from, lines_of, script_of}
use Rattle.session_script.specs.ScriptText.{IsSkippedLine, IsCallLine, SpellLines, IsWithinLimits, IsScriptText}
use Rattle.session_script.proofs.SessionLemmas.{length-calls_more}
use Rattle.session_script.proofs.Bounds.{IsWithin-passed, written-more, asked-more, one_if, line_spelled}
use Rattle.session_script.proofs.PathLaws.{IsJoined-split, split_joined}
use Rattle.session_script.proofs.LineLaws.{spelled_found, line_utf8, line_none, line_skip_only, line_call_only}

all_push : {X : Type 0} (P : X → Type 0) (xs : List X) (x : X) → AllByRecursion P xs → P x → AllByRecursion P (xs ++ x ∷ [])
all_push P [] x h here = (here, tt)
all_push P (y ∷ xs) x h here = (h.0, all_push P xs x h.1 here)

all_last : {X : Type 0} (P : X → Type 0) (xs ys : List X) (x : X) → AllByRecursion P ((xs ++ x ∷ []) ++ ys) → P x
all_last P [] ys x h = h.0
all_last P (y ∷ xs) ys x h = all_last P xs ys x h.1

calls_of-append : (a b : List ScriptLine) (who : ℕ) → calls_of (a ++ b) who ≡ calls_of a who ++ calls_of b who
calls_of-append a b who =
    ap (map (λ (l : ScriptLine). l.call)) (filter-append (λ (l : ScriptLine). eqb l.who who) a b)
    ∙ map-append (λ (l : ScriptLine). l.call) (filter (λ (l : ScriptLine). eqb l.who who) a) (filter (λ (l : ScriptLine). eqb l.who who) b)

-- a script without lines is within the limits
pub IsWithinLimits-nil : IsWithinLimits []
IsWithinLimits-nil = record { calls = λ who. omega arith; written = tt; asked = tt; written_in_all = omega arith; asked_in_all = omega arith }

-- a script within the limits is so with one line more that passes none
pub IsWithinLimits-more : (before : List ScriptLine) (line : ScriptLine) → IsWithinLimits before → limit_passed before line ≡ None → IsWithinLimits (before ++ line ∷ [])
IsWithinLimits-more before line was passed =
    let within = IsWithin-passed before line passed in record {
      calls = λ who. ⊎_elim
          (λ (same : line.who ≡ who).
          let e : length (calls_of before who) < most_calls = subst (λ w. length (calls_of before w) < most_calls) same within.calls in
          omega (arith, length-calls_more before line who, ap one_if (eq-eqb line.who who same)))
          (λ (other : line.who ≢ who). omega (arith, was.calls who, length-calls_more before line who, ap one_if (ne_eqb line.who who other)))
          (cases_eq line.who who);
      written = all_push (λ l. bytes_written l.call ≤ most_written) before line was.written within.small_write;
      asked = all_push (λ l. bytes_asked l.call ≤ most_asked) before line was.asked within.small_read;
      written_in_all = rw written-more within.written;
      asked_in_all = rw asked-more within.asked;
    }

-- the limits that are left to test
abbrev last_left : List ScriptLine → ScriptLine → Option ScriptWhy
last_left s l = cond (nat_lt most_in_all (sum_by (λ x. bytes_asked x.call) s + bytes_asked l.call))
    (Some reasons.Sum) None

abbrev sums_left : List ScriptLine → ScriptLine → Option ScriptWhy
sums_left s l = cond (nat_lt most_in_all (sum_by (λ x. bytes_written x.call) s + bytes_written l.call)) (Some reasons.Sum) (last_left s l)

abbrev limits_left : List ScriptLine → ScriptLine → Option ScriptWhy
limits_left s l = cond (nat_lt most_written (bytes_written l.call) || nat_lt most_asked (bytes_asked l.call)) (Some reasons.Big) (sums_left s l)

-- a line of a script within the limits passes none behind those before it
limit_kept : (before more : List ScriptLine) (line : ScriptLine) → IsWithinLimits ((before ++ line ∷ []) ++ more) → limit_passed before line ≡ None
limit_kept before more line h =
    ap (λ b. cond b (Some reasons.Calls) (limits_left before line)) calls
    ∙ ap (λ b. cond b (Some reasons.Big) (sums_left before line)) big
    ∙ ap (λ b. cond b (Some reasons.Sum) (last_left before line)) written
    ∙ ap (λ b. cond b (Some reasons.Sum) None) asked
  where
    calls : nat_le most_calls (length (calls_of before line.who)) ≡ false
    calls =
        let few : length (calls_of ((before ++ line ∷ []) ++ more) line.who) ≤ most_calls = h.calls line.who in
        let sum : length (calls_of ((before ++ line ∷ []) ++ more) line.who) ≡ length (calls_of (before ++ line ∷ []) line.who) + length (calls_of more line.who) = ap length (calls_of-append (before ++ line ∷ []) more line.who) ∙ length-append _ _ in
        let here : length (calls_of before line.who) < most_calls = omega (arith, length-calls_more before line line.who, ap one_if (eq-eqb line.who line.who refl)) in
        grind (arith, nat_tests, here)

    big : (nat_lt most_written (bytes_written line.call) || nat_lt most_asked (bytes_asked line.call)) ≡ false
    big =
        let small_write = all_last (λ (l : ScriptLine). bytes_written l.call ≤ most_written)
        before more line h.written in
        let small_read = all_last (λ (l : ScriptLine). bytes_asked l.call ≤ most_asked) before more line h.asked in
        grind (arith, nat_tests, small_write, small_read)

    written : nat_lt most_in_all (sum_by (λ x. bytes_written x.call) before + bytes_written line.call) ≡ false
    written =
        let all = sum_by-append (λ (l : ScriptLine). bytes_written l.call) (before ++ line ∷ []) more in
        let here : sum_by (λ x. bytes_written x.call) before + bytes_written line.call ≤ most_in_all = omega (arith, all, written-more before line, h.written_in_all) in
        grind (arith, nat_tests, here)

    asked : nat_lt most_in_all (sum_by (λ x. bytes_asked x.call) before + bytes_asked line.call) ≡ false
    asked =
        let all = sum_by-append (λ (l : ScriptLine). bytes_asked l.call) (before ++ line ∷ []) more in
        let here : sum_by (λ x. bytes_asked x.call) before + bytes_asked line.call ≤ most_in_all = omega (arith, all, asked-more before line, h.asked_in_all) in
        grind (arith, nat_tests, here)

-- what lines add to a script
pub record Adds (before : List ScriptLine) (lines : List (List ℕ)) (script : List ScriptLine) : Type 0 where
  pub added : List ScriptLine
  pub grown : script ≡ before ++ added
  pub spelled : SpellLines lines added
  pub limited : IsWithinLimits script

-- a line that is skipped in front of lines leaves the script that they spell
pub skipped : (line : List ℕ) (lines : List (List ℕ)) (script : List ScriptLine) → IsUtf8 line → IsSkippedLine line → SpellLines lines script → SpellLines (line ∷ lines) script
skipped line lines [] valid skip rest = (valid, skip, rest)
skipped line lines (spelled ∷ script) valid skip rest = (valid, inl (skip, rest))

from_found : (n : ℕ) (before : List ScriptLine) (lines : List (List ℕ)) (script : List ScriptLine) → script_from n before lines ≡ Ok script → IsWithinLimits before → Adds before lines script
from_found n before [] script e within =
    let same : before ≡ script = cc in record {
      added = [];
      grown = sym same ∙ sym (append-nil before);
      spelled = tt;
      limited = subst IsWithinLimits same within;
    }
from_found n before (line ∷ lines) script e within = at (line_of before line) refl e (λ b h w. from_found (n + 1) b lines script h w)
  where
    at : (r : Result (Option ScriptLine) ScriptWhy) → line_of before line ≡ r → and_then (with_line n before r) (λ s. script_from (n + 1) s lines) ≡ Ok script
        → ((b : List ScriptLine) → script_from (n + 1) b lines ≡ Ok script → IsWithinLimits b → Adds b lines script) → Adds before (line ∷ lines) script
    at (Err why) is h later = cc
    at (Ok None) is h later =
        let more = later before h within in record {
          added = more.added;
          grown = more.grown;
          spelled = skipped line lines more.added (line_utf8 before line None is) (line_none before line is) more.spelled;
          limited = more.limited;
        }
    at (Ok (Some spelled)) is h later =
        let read = line_spelled before line spelled is in
        let more = later (before ++ spelled ∷ []) h (IsWithinLimits-more before spelled within read.1) in record {
          added = spelled ∷ more.added;
          grown = more.grown ∙ append_assoc before (spelled ∷ []) more.added;
          spelled = (line_utf8 before line (Some spelled) is, inr (spelled_found line spelled read.0, more.spelled));
          limited = more.limited;
        }

from_only : (n : ℕ) (before : List ScriptLine) (lines : List (List ℕ)) (added : List ScriptLine) → SpellLines lines added → IsWithinLimits (before ++ added) → script_from n before lines ≡ Ok (before ++ added)
from_only n before [] [] h within = ap Ok (sym (append-nil before))
from_only n before [] (spelled ∷ added) h within = absurd h
from_only n before (line ∷ lines) [] h within =
    ap (λ r. and_then (with_line n before r) (λ s. script_from (n + 1) s lines)) (line_skip_only before line h.0 h.1) ∙ from_only (n + 1) before lines [] h.2 within
from_only n before (line ∷ lines) (spelled ∷ added) h within = ⊎_elim
    (λ (skip : IsSkippedLine line × SpellLines lines (spelled ∷ added)).
    ap (λ r. and_then (with_line n before r) (λ s. script_from (n + 1) s lines)) (line_skip_only before line h.0 skip.0) ∙ from_only (n + 1) before lines (spelled ∷ added) skip.1 within)
    (λ (call : IsCallLine line spelled × SpellLines lines added).
    let moved : (before ++ spelled ∷ []) ++ added ≡ before ++ spelled ∷ added = append_assoc before (spelled ∷ []) added in
    let still : IsWithinLimits ((before ++ spelled ∷ []) ++ added) = subst IsWithinLimits (sym moved) within in
    ap (λ r. and_then (with_line n before r) (λ s. script_from (n + 1) s lines)) (line_call_only before line spelled h.0 call.0 (limit_kept before added spelled still))
    ∙ from_only (n + 1) (before ++ spelled ∷ []) lines added call.1 still ∙ ap Ok moved)
    h.1

-- a text that is not refused for its length is read on
pub short_text : (b : Bool) (e : ScriptErr) (r : Result (List ScriptLine) ScriptErr) (script : List ScriptLine) → cond b (Err e) r ≡ Ok script → (b ≡ false) × (r ≡ Ok script)
short_text true e r script h = cc
short_text false e r script h = (refl, h)

-- a text that is read as a script spells it
pub script_found : (text : List ℕ) (script : List ScriptLine) → script_of text ≡ Ok script → IsScriptText text script
script_found text script e =
    let short = short_text (nat_lt longest_script (length text)) _ (script_from 1 [] (lines_of text)) script e in
    let adds = from_found 1 [] (lines_of text) script short.1 IsWithinLimits-nil in record {
      lines = lines_of text;
      some = omega (arith, length-slice_split (λ b. eqb b 10) text);
      joined = IsJoined-split 10 text;
      short = ltb-false _ _ short.0;
      spelled = subst (SpellLines (lines_of text)) (sym adds.grown) adds.spelled;
      limited = adds.limited;
    }

-- a text that spells a script is read as that script
pub script_only : (text : List ℕ) (script : List ScriptLine) → IsScriptText text script → script_of text ≡ Ok script
script_only text script h =
    let short : nat_lt longest_script (length text) ≡ false = grind (arith, nat_tests, h.short) in
    ap (λ b. cond b (Err (record { line = 0; why = reasons.Long })) (script_from 1 [] (lines_of text))) short
    ∙ ap (script_from 1 []) (ap lines_of h.joined.joined ∙ split_joined 10 h.lines h.some h.joined.free)
    ∙ from_only 1 [] h.lines script h.spelled h.limited
