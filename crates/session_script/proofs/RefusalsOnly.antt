-- Refused scripts, the way back: what lacks a form or passes a limit is refused for that.
use Rattle.std.proofs.Common.{◌≡◌, ◌⊎◌, ⊎_elim, ℕ, ◌+◌, ◌<◌, ◌≤◌, Bool, true, false, cond, eqb, List, [], ◌∷◌, ◌++◌, length, sym, ap, ◌∙◌, refl, arith, Some, None, Ok, Err, length-append}
use Rattle.std.specs.Prelude.{Option, Result, ◌&&◌, not, nat_le, nat_lt}
use Rattle.std.specs.List.{AllByRecursion, list_all, list_any, join_with_byte}
use Rattle.std.proofs.lemmas.Bool.{and_parts, eqb-true, leb-true}
use Rattle.std.specs.Str.{IsUtf8, is_utf8}
use Rattle.std.proofs.lemmas.Bool.Decides.{nat_tests}
use Rattle.std.proofs.lemmas.Str.{IsUtf8-from_is_utf8, is_utf8-from_IsUtf8}
use Rattle.session_script.specs.Bounds.{longest_script}
use Rattle.session_script.specs.declared.scripts.ScriptErr.{ScriptErr}
use Rattle.session_script.specs.declared.scripts.ScriptLine.{ScriptLine}
use Rattle.session_script.specs.declared.scripts.ScriptWhy.{ScriptWhy}
use Rattle.session_script.specs.declared.scripts.ScriptWhy.TheVariants as reasons
use Rattle.session_script.specs.declared.words.Verb.{Verb}
use Rattle.session_script.specs.declared.words.Verb.TheVariants as verbs
use Rattle.session_script.specs.Forms.{Form, rank, forms_of, call_for}
use Rattle.session_script.specs.Words.{is_empty, words_of, verb_of, session_of}
use Rattle.session_script.specs.Grammar.{read_as, read_forms, call_with, call_of, with_session, spelled_by, limit_passed, unless_passed, limited, is_skipped, line_of, with_line, and_then, script_from, lines_of, script_of}
use Rattle.session_script.specs.ScriptText.{Lacks, IsJoined, SpellsSession, IsSkippedLine, IsCallLine, SpellLines, IsWithinLimits}
use Rattle.session_script.specs.ScriptRefusals.{HasWords, NamesVerb, LacksForm, PassesLimit, LacksCall, LacksSession, IsRefusedLine, IsRefusedText, IsTooLong, IsRefusal, StandInOrder}
use Rattle.session_script.proofs.NumberLaws.{session_found, session_only}
use Rattle.session_script.proofs.PathLaws.{split_joined}
use Rattle.session_script.proofs.FormLaws.{wrong_only}
use Rattle.session_script.proofs.CallLaws.{verb_found, by_verb, by_forms}
use Rattle.session_script.proofs.LineLaws.{spelled_only, skip_found}
use Rattle.session_script.proofs.Bounds.{IsWithin, IsWithin-passed}
use Rattle.session_script.proofs.GrammarLaws.{short_text, script_only}
use Rattle.session_script.proofs.RefusalLaws.{all_full, limit_found}

no_verb : (words : List (List ℕ)) → ((verb : Verb) (rest : List (List ℕ)) → NamesVerb words verb rest → ⊥) → call_of words ≡ Err reasons.Verb
no_verb [] never = refl
no_verb (word ∷ words) never = at (verb_of word) refl
  where
    at : (o : Option Verb) → verb_of word ≡ o → read_as o reasons.Verb (λ verb. call_with verb words) ≡ Err reasons.Verb
    at None is = refl
    at (Some verb) is = absurd (never verb words (ap (λ w. w ∷ words) (verb_found word verb is)))

no_words : (verb : Verb) (rest : List (List ℕ)) → (HasWords verb rest → ⊥) → call_with verb rest ≡ Err reasons.Words
no_words verb rest never = at (list_any is_empty rest) refl (eqb (length rest) (length (forms_of verb))) refl
  where
    at : (b : Bool) → list_any is_empty rest ≡ b → (c : Bool) → eqb (length rest) (length (forms_of verb)) ≡ c
        → cond b (Err reasons.Words) (cond c (read_forms (forms_of verb) rest (λ values. Ok (call_for verb values))) (Err reasons.Words)) ≡ Err reasons.Words
    at true is c also = refl
    at false is false also = refl
    at false is true also = absurd (never (record { count = eqb-true _ _ also; full = all_full rest is }))

-- words that lack a form are refused for it
call_refused : (words : List (List ℕ)) (why : ScriptWhy) → LacksForm words why → call_of words ≡ Err why
call_refused words reasons.Verb h = no_verb words h
call_refused words reasons.Words h = by_verb words h.0 h.1 h.2 ∙ no_words h.0 h.1 h.3
call_refused words why h =
    by_verb words h.0 h.1 h.2 ∙ by_forms h.0 h.1 h.3 ∙ wrong_only (forms_of h.0) h.1 (λ values. Ok (call_for h.0 values)) why h.4

same_limit : (before : List ScriptLine) (line : ScriptLine) (a b : ScriptWhy) → PassesLimit before line a → PassesLimit before line b → a ≡ b
same_limit before line reasons.Calls reasons.Calls h k = refl
same_limit before line reasons.Calls reasons.Big h k = absurd (omega (arith, h, k.0))
same_limit before line reasons.Calls reasons.Sum h k = absurd (omega (arith, h, k.0))
same_limit before line reasons.Calls _ h k = absurd k
same_limit before line reasons.Big reasons.Calls h k = absurd (omega (arith, h.0, k))
same_limit before line reasons.Big reasons.Big h k = refl
same_limit before line reasons.Big reasons.Sum h k = absurd (⊎_elim (λ w. omega (arith, w, k.1)) (λ r. omega (arith, r, k.2)) h.1)
same_limit before line reasons.Big _ h k = absurd k
same_limit before line reasons.Sum reasons.Calls h k = absurd (omega (arith, h.0, k))
same_limit before line reasons.Sum reasons.Big h k = absurd (⊎_elim (λ w. omega (arith, w, h.1)) (λ r. omega (arith, r, h.2)) k.1)
same_limit before line reasons.Sum reasons.Sum h k = refl
same_limit before line reasons.Sum _ h k = absurd k
same_limit before line _ b h k = absurd h

passes_none : (before : List ScriptLine) (line : ScriptLine) → IsWithin before line → (why : ScriptWhy) → PassesLimit before line why → ⊥
passes_none before line within reasons.Calls k = omega (arith, within.calls, k)
passes_none before line within reasons.Big k = ⊎_elim (λ w. omega (arith, w, within.small_write)) (λ r. omega (arith, r, within.small_read)) k.1
passes_none before line within reasons.Sum k = ⊎_elim (λ w. omega (arith, w, within.written)) (λ r. omega (arith, r, within.asked)) k.3
passes_none before line within _ k = k

limit_only : (before : List ScriptLine) (line : ScriptLine) (why : ScriptWhy) → PassesLimit before line why → limit_passed before line ≡ Some why
limit_only before line why h = at (limit_passed before line) refl
  where
    at : (o : Option ScriptWhy) → limit_passed before line ≡ o → limit_passed before line ≡ Some why
    at None is = absurd (passes_none before line (IsWithin-passed before line is) why h)
    at (Some told) is = is ∙ ap Some (same_limit before line told why (limit_found before line told is) h)

-- what the tests of a line leave
abbrev tested : List ScriptLine → Bool → Bool → List (List ℕ) → Result (Option ScriptLine) ScriptWhy
tested before utf8 skipped words = cond (not utf8) (Err reasons.Utf8) (cond skipped (Ok None) (limited before (spelled_by words)))

no_utf8 : (line : List ℕ) → (IsUtf8 line → ⊥) → is_utf8 line ≡ false
no_utf8 line never = at (is_utf8 line) refl
  where
    at : (b : Bool) → is_utf8 line ≡ b → is_utf8 line ≡ false
    at true is = absurd (never (IsUtf8-from_is_utf8 line is))
    at false is = is

no_skip : (line : List ℕ) → (IsSkippedLine line → ⊥) → is_skipped line ≡ false
no_skip line never = at (is_skipped line) refl
  where
    at : (b : Bool) → is_skipped line ≡ b → is_skipped line ≡ false
    at true is = absurd (never (skip_found line is))
    at false is = is

no_session : (word : List ℕ) → ((who : ℕ) → SpellsSession word who → ⊥) → session_of word ≡ None
no_session word never = at (session_of word) refl
  where
    at : (o : Option ℕ) → session_of word ≡ o → session_of word ≡ None
    at None is = is
    at (Some who) is = absurd (never who (session_found word who is))

line_limited : (before : List ScriptLine) (line : List ℕ) → IsUtf8 line → (IsSkippedLine line → ⊥) → line_of before line ≡ limited before (spelled_by (words_of line))
line_limited before line valid some =
    ap (λ b. tested before b (is_skipped line) (words_of line)) (is_utf8-from_IsUtf8 line valid) ∙ ap (λ b. tested before true b (words_of line)) (no_skip line some)

words_are : (line : List ℕ) (word : List ℕ) (words : List (List ℕ)) → IsJoined 32 (word ∷ words) line → words_of line ≡ word ∷ words
words_are line word words joined = ap words_of joined.joined ∙ split_joined 32 (word ∷ words) (omega arith) joined.free

session_refused : (before : List ScriptLine) (line : List ℕ) → LacksSession line → limited before (spelled_by (words_of line)) ≡ Err reasons.Who
session_refused before line h =
    ap (λ ws. limited before (spelled_by ws)) (words_are line h.0 h.1 h.2)
    ∙ ap (λ o. limited before (read_as o reasons.Who (λ who. with_session who (call_of h.1)))) (no_session h.0 h.3)

form_refused : (before : List ScriptLine) (line : List ℕ) (why : ScriptWhy) → LacksCall line why → limited before (spelled_by (words_of line)) ≡ Err why
form_refused before line why h =
    ap (λ ws. limited before (spelled_by ws)) (words_are line h.0 h.1 h.3)
    ∙ ap (λ o. limited before (read_as o reasons.Who (λ who. with_session who (call_of h.1)))) (session_only h.0 h.2 h.4)
    ∙ ap (λ r. limited before (with_session h.2 r)) (call_refused h.1 why h.5)

limit_refused : (before : List ScriptLine) (line : List ℕ) (spelled : ScriptLine) (why : ScriptWhy) → IsCallLine line spelled → PassesLimit before spelled why
    → limited before (spelled_by (words_of line)) ≡ Err why
limit_refused before line spelled why called h = ap (limited before) (spelled_only line spelled called) ∙ ap (λ o. unless_passed o spelled) (limit_only before spelled why h)

either_refused : (before : List ScriptLine) (line : List ℕ) (why : ScriptWhy) → LacksCall line why ⊎ ((spelled : ScriptLine) × IsCallLine line spelled × PassesLimit before spelled why)
    → limited before (spelled_by (words_of line)) ≡ Err why
either_refused before line why h = ⊎_elim
    (λ (form : LacksCall line why). form_refused before line why form)
    (λ (limit : (spelled : ScriptLine) × IsCallLine line spelled × PassesLimit before spelled why). limit_refused before line limit.0 why limit.1 limit.2)
    h

line_only : (before : List ScriptLine) (line : List ℕ) (why : ScriptWhy) → IsRefusedLine before line why → line_of before line ≡ Err why
line_only before line reasons.Utf8 h = ap (λ b. tested before b (is_skipped line) (words_of line)) (no_utf8 line h)
line_only before line reasons.Who h = line_limited before line h.0 h.1 ∙ session_refused before line h.2
line_only before line why h = line_limited before line h.0 h.1 ∙ either_refused before line why h.2

-- what lines spell is read on by those behind them
more_lines : (n : ℕ) (before : List ScriptLine) (front more : List (List ℕ)) → script_from n before (front ++ more) ≡ and_then (script_from n before front) (λ s. script_from (length front + n) s more)
more_lines n before [] more = ap (λ k. script_from k before more) (omega arith)
more_lines n before (line ∷ front) more = at (with_line n before (line_of before line)) (λ s. more_lines (n + 1) s front more)
  where
    at : (r : Result (List ScriptLine) ScriptErr) → ((s : List ScriptLine) → script_from (n + 1) s (front ++ more) ≡ and_then (script_from (n + 1) s front) (λ t. script_from (length front + (n + 1)) t more))
        → and_then r (λ s. script_from (n + 1) s (front ++ more)) ≡ and_then (and_then r (λ s. script_from (n + 1) s front)) (λ t. script_from (length (line ∷ front) + n) t more)
    at (Err refusal) later = refl
    at (Ok s) later =
        let same : length front + (n + 1) ≡ length (line ∷ front) + n = omega arith in
        later s ∙ ap (λ k. and_then (script_from (n + 1) s front) (λ t. script_from k t more)) same

join_shorter : (front : List (List ℕ)) (line : List ℕ) (rest : List (List ℕ)) → length (join_with_byte 10 front) ≤ length (join_with_byte 10 (front ++ line ∷ rest))
join_shorter [] line rest = omega arith
join_shorter (l ∷ []) line rest = omega (arith, length-append l (10 ∷ join_with_byte 10 (line ∷ rest)))
join_shorter (l ∷ m ∷ front) line rest =
    omega (arith, length-append l (10 ∷ join_with_byte 10 (m ∷ front)), length-append l (10 ∷ join_with_byte 10 (m ∷ (front ++ line ∷ rest))), join_shorter (m ∷ front) line rest)

front_free : (P : List ℕ → Type 0) (front more : List (List ℕ)) → AllByRecursion P (front ++ more) → AllByRecursion P front
front_free P [] more h = tt
front_free P (l ∷ front) more h = (h.0, front_free P front more h.1)

-- the lines before the one that is refused are read
front_read : (front : List (List ℕ)) (script : List ScriptLine) → AllByRecursion (Lacks 10) front → length (join_with_byte 10 front) ≤ longest_script → SpellLines front script → IsWithinLimits script
    → script_from 1 [] front ≡ Ok script
front_read [] [] free short spelled within = refl
front_read [] (s ∷ script) free short spelled within = absurd spelled
front_read (l ∷ front) script free short spelled within =
    let read = script_only (join_with_byte 10 (l ∷ front)) script (record {
      lines = l ∷ front;
      some = omega arith;
      joined = record { joined = refl; free = free };
      short = short;
      spelled = spelled;
      limited = within;
    }) in
    let parts = short_text (nat_lt longest_script (length (join_with_byte 10 (l ∷ front)))) _ (script_from 1 [] (lines_of (join_with_byte 10 (l ∷ front)))) script read in
    ap (script_from 1 []) (sym (split_joined 10 (l ∷ front) (omega arith) free)) ∙ parts.1

text_refused : (text : List ℕ) (e : ScriptErr) → IsRefusedText text e → script_of text ≡ Err e
text_refused text e h =
    let short : nat_lt longest_script (length text) ≡ false = grind (arith, nat_tests, h.short) in
    let some : 0 < length (h.front ++ h.line ∷ h.rest) = omega (arith, length-append h.front (h.line ∷ h.rest)) in
    let size : length text ≡ length (join_with_byte 10 (h.front ++ h.line ∷ h.rest)) = ap length h.joined.joined in
    let front_short : length (join_with_byte 10 h.front) ≤ longest_script = omega (arith, join_shorter h.front h.line h.rest, size, h.short) in
    ap (λ b. cond b (Err (record { line = 0; why = reasons.Long })) (script_from 1 [] (lines_of text))) short
    ∙ ap (script_from 1 []) (ap lines_of h.joined.joined ∙ split_joined 10 (h.front ++ h.line ∷ h.rest) some h.joined.free)
    ∙ more_lines 1 [] h.front (h.line ∷ h.rest)
    ∙ ap (λ r. and_then r (λ s. script_from (length h.front + 1) s (h.line ∷ h.rest)))
    (front_read h.front h.script (front_free (Lacks 10) h.front (h.line ∷ h.rest) h.joined.free) front_short h.spelled h.limited)
    ∙ ap (λ r. and_then (with_line (length h.front + 1) h.script r) (λ s. script_from (length h.front + 1 + 1) s h.rest)) (line_only h.script h.line e.why h.refused)
    ∙ ap (λ k. Err (record { line = k; why = e.why })) (sym h.number)

long_refused : (text : List ℕ) (e : ScriptErr) → IsTooLong text e → script_of text ≡ Err e
long_refused text e h =
    let long : nat_lt longest_script (length text) ≡ true = grind (arith, nat_tests, h.1) in
    ap (λ b. cond b (Err (record { line = 0; why = reasons.Long })) (script_from 1 [] (lines_of text))) long ∙ ap Err (sym h.0)

-- a text that is too long, or has a first refused line, is refused so
pub refusal_only : (text : List ℕ) (e : ScriptErr) → IsRefusal text e → script_of text ≡ Err e
refusal_only text e h = ⊎_elim (λ (long : IsTooLong text e). long_refused text e long) (λ (refused : IsRefusedText text e). text_refused text e refused) h

rises : List Form → Bool
rises [] = true
rises (form ∷ forms) = list_all (λ later. nat_le (rank form) (rank later)) forms && rises forms

all_later : (form : Form) (forms : List Form) → list_all (λ later. nat_le (rank form) (rank later)) forms ≡ true → AllByRecursion (λ later. rank form ≤ rank later) forms
all_later form [] h = tt
all_later form (later ∷ forms) h =
    let both = and_parts (nat_le (rank form) (rank later)) (list_all (λ l. nat_le (rank form) (rank l)) forms) h in (leb-true _ _ both.0, all_later form forms both.1)

in_order : (forms : List Form) → rises forms ≡ true → StandInOrder forms
unfolding rises
in_order [] h = tt
in_order (form ∷ forms) h =
    let both = and_parts (list_all (λ later. nat_le (rank form) (rank later)) forms) (rises forms) h in (all_later form forms both.0, in_order forms both.1)

all_rise : (verb : Verb) → rises (forms_of verb) ≡ true
unfolding rises
all_rise verbs.Mkdir = refl
all_rise _ = refl

-- the forms of a verb stand in the order of their reasons
pub forms_ordered : (verb : Verb) → StandInOrder (forms_of verb)
forms_ordered verb = in_order (forms_of verb) (all_rise verb)
