-- Refused scripts, as they are read: the lines before the one that is refused, and what is wrong with this.
use Rattle.std.proofs.Common.{◌≡◌, ◌⊎◌, inl, inr, ℕ, ◌+◌, ◌<◌, ◌≤◌, Bool, true, false, cond, eqb, List, [], ◌∷◌, ◌++◌, length, sum_by, sym, ap, ◌∙◌, refl, subst, arith, Some, None, Ok, Err, append-nil, append_assoc}
use Rattle.std.specs.Prelude.{Option, Result, ◌||◌, not, nat_le, nat_lt}
use Rattle.std.specs.List.{AllByRecursion, list_any}
use Rattle.std.specs.Str.{IsUtf8, is_utf8}
use Rattle.std.proofs.lemmas.Bool.{eqb-true, eq-eqb, leb-true, leb-false, ltb-true, ltb-false, or_parts}
use Rattle.std.proofs.lemmas.List.Splits.{length-slice_split}
use Rattle.std.proofs.lemmas.Str.{IsUtf8-from_is_utf8, is_utf8-from_IsUtf8}
use Rattle.plain_tree.specs.declared.calls.Call.{Call}
use Rattle.session_script.specs.Bounds.{longest_script, most_asked, most_calls, most_in_all, most_written}
use Rattle.session_script.specs.declared.scripts.ScriptErr.{ScriptErr}
use Rattle.session_script.specs.declared.scripts.ScriptLine.{ScriptLine}
use Rattle.session_script.specs.declared.scripts.ScriptWhy.{ScriptWhy}
use Rattle.session_script.specs.declared.scripts.ScriptWhy.TheVariants as reasons
use Rattle.session_script.specs.declared.words.Verb.{Verb}
use Rattle.session_script.specs.Forms.{Form, a_path, reason_of, verb_text, forms_of, call_for}
use Rattle.session_script.specs.Words.{is_empty, words_of, verb_of, session_of}
use Rattle.session_script.specs.Grammar.{calls_of, bytes_written, bytes_asked, read_as, read_forms, call_by, call_with, call_of, with_session, spelled_by, limit_passed, unless_passed, limited, is_skipped, line_of, with_line, and_then, script_from, lines_of, script_of}
use Rattle.session_script.specs.ScriptText.{IsJoined, IsSkippedLine, IsCallLine, SpellLines, IsWithinLimits}
use Rattle.session_script.specs.ScriptRefusals.{HasWords, FirstWrong, NamesVerb, LacksForm, PassesLimit, LacksCall, IsRefusedLine, IsRefusedText, IsTooLong}
use Rattle.session_script.proofs.NumberLaws.{session_found, session_only}
use Rattle.session_script.proofs.PathLaws.{IsJoined-split, not_empty}
use Rattle.session_script.proofs.FormLaws.{wrong_found, wrong_reason}
use Rattle.session_script.proofs.CallLaws.{verb_found, verb_only, none_empty}
use Rattle.session_script.proofs.LineLaws.{spelled_found, line_utf8, line_none, line_skip_only}
use Rattle.session_script.proofs.Bounds.{line_spelled}
use Rattle.session_script.proofs.GrammarLaws.{IsWithinLimits-nil, IsWithinLimits-more, skipped}

-- words of which none is found empty have a byte or more each
pub all_full : (words : List (List ℕ)) → list_any is_empty words ≡ false → AllByRecursion (λ w. 1 ≤ length w) words
all_full [] h = tt
all_full (w ∷ words) h = let both = or_parts (is_empty w) (list_any is_empty words) h in (not_empty w both.0, all_full words both.1)

-- the reasons that stand for a form
abbrev is_of_form : ScriptWhy → Bool
is_of_form reasons.Path = true
is_of_form reasons.Key = true
is_of_form reasons.Flag = true
is_of_form reasons.Number = true
is_of_form reasons.Bytes = true
is_of_form _ = false

of_form : (form : Form) → is_of_form (reason_of form) ≡ true
of_form a_path = refl
of_form _ = refl

-- no word is the first wrong one for a reason that stands for no form
not_wrong : (forms : List Form) (words : List (List ℕ)) (why : ScriptWhy) → is_of_form why ≡ false → FirstWrong forms words why → ⊥
not_wrong forms words why other h =
    let form = wrong_reason forms words why h in
    let told : is_of_form why ≡ true = ap is_of_form form.1 ∙ of_form form.0 in cc

form_lacks : (words : List (List ℕ)) (why : ScriptWhy) (verb : Verb) (rest : List (List ℕ)) → NamesVerb words verb rest → HasWords verb rest → FirstWrong (forms_of verb) rest why → LacksForm words why
form_lacks words reasons.Verb verb rest named has wrong = absurd (not_wrong (forms_of verb) rest reasons.Verb refl wrong)
form_lacks words reasons.Words verb rest named has wrong = absurd (not_wrong (forms_of verb) rest reasons.Words refl wrong)
form_lacks words _ verb rest named has wrong = (verb, rest, named, has, wrong)

module _ (told : ScriptWhy) where
  wrong_words : (verb : Verb) (rest : List (List ℕ)) → (HasWords verb rest → ⊥) → (let r : Result Call ScriptWhy = Err reasons.Words in r) ≡ Err told → LacksForm (verb_text verb ∷ rest) told
  wrong_words verb rest no_words e =
      let same : reasons.Words ≡ told = cc in subst (LacksForm (verb_text verb ∷ rest)) same (verb, rest, refl, no_words)

  never : (call : Call) → Ok call ≡ Err told → ⊥
  never call e = cc

  by_lacks : (verb : Verb) (rest : List (List ℕ)) → AllByRecursion (λ w. 1 ≤ length w) rest → call_by verb rest ≡ Err told → LacksForm (verb_text verb ∷ rest) told
  by_lacks verb rest full e = at (eqb (length rest) (length (forms_of verb))) refl e
    where
      at : (b : Bool) → eqb (length rest) (length (forms_of verb)) ≡ b → cond b (read_forms (forms_of verb) rest (λ values. Ok (call_for verb values))) (Err reasons.Words) ≡ Err told
          → LacksForm (verb_text verb ∷ rest) told
      at true is h =
          let count : length rest ≡ length (forms_of verb) = eqb-true _ _ is in
          form_lacks (verb_text verb ∷ rest) told verb rest refl (record { count = count; full = full })
          (wrong_found (forms_of verb) rest (λ values. Ok (call_for verb values)) told count (λ values. never (call_for verb values)) h)
      at false is h = wrong_words verb rest (λ words. let yes : eqb (length rest) (length (forms_of verb)) ≡ true = eq-eqb _ _ words.count in cc) h

  with_lacks : (verb : Verb) (rest : List (List ℕ)) → call_with verb rest ≡ Err told → LacksForm (verb_text verb ∷ rest) told
  with_lacks verb rest e = at (list_any is_empty rest) refl e
    where
      at : (b : Bool) → list_any is_empty rest ≡ b → cond b (Err reasons.Words) (call_by verb rest) ≡ Err told → LacksForm (verb_text verb ∷ rest) told
      at true is h = wrong_words verb rest (λ words. let no : list_any is_empty rest ≡ false = none_empty rest words.full in cc) h
      at false is h = by_lacks verb rest (all_full rest is) h

  -- the words behind a session that are refused lack the form that is told
  pub call_lacks : (words : List (List ℕ)) → call_of words ≡ Err told → LacksForm words told
  call_lacks [] e = let same : reasons.Verb ≡ told = cc in subst (LacksForm []) same (λ verb rest h. cc)
  call_lacks (word ∷ words) e = at (verb_of word) refl e
    where
      other : verb_of word ≡ None → (verb : Verb) (rest : List (List ℕ)) → word ∷ words ≡ verb_text verb ∷ rest → ⊥
      other is verb rest h =
          let text : word ≡ verb_text verb = cc in
          let some : verb_of word ≡ Some verb = ap verb_of text ∙ verb_only verb in cc

      at : (o : Option Verb) → verb_of word ≡ o → read_as o reasons.Verb (λ verb. call_with verb words) ≡ Err told → LacksForm (word ∷ words) told
      at None is h = let same : reasons.Verb ≡ told = cc in subst (LacksForm (word ∷ words)) same (other is)
      at (Some verb) is h = subst (λ w. LacksForm (w ∷ words) told) (sym (verb_found word verb is)) (with_lacks verb words h)

-- a limit that is told is passed, and none that is tested before it
pub limit_found : (before : List ScriptLine) (line : ScriptLine) (told : ScriptWhy) → limit_passed before line ≡ Some told → PassesLimit before line told
limit_found before line told e = calls_at (nat_le most_calls (length (calls_of before line.who))) refl e
  where
    asked_at : length (calls_of before line.who) < most_calls → bytes_written line.call ≤ most_written → bytes_asked line.call ≤ most_asked → (b : Bool)
        → nat_lt most_in_all (sum_by (λ l. bytes_asked l.call) before + bytes_asked line.call) ≡ b → cond b (Some reasons.Sum) None ≡ Some told → PassesLimit before line told
    asked_at few write read true is h = let same : reasons.Sum ≡ told = cc in subst (PassesLimit before line) same (few, write, read, inr (ltb-true _ _ is))
    asked_at few write read false is h = cc

    written_at : length (calls_of before line.who) < most_calls → bytes_written line.call ≤ most_written → bytes_asked line.call ≤ most_asked → (b : Bool)
        → nat_lt most_in_all (sum_by (λ l. bytes_written l.call) before + bytes_written line.call) ≡ b
        → cond b (Some reasons.Sum) (cond (nat_lt most_in_all (sum_by (λ l. bytes_asked l.call) before + bytes_asked line.call)) (Some reasons.Sum) None) ≡ Some told → PassesLimit before line told
    written_at few write read true is h = let same : reasons.Sum ≡ told = cc in subst (PassesLimit before line) same (few, write, read, inl (ltb-true _ _ is))
    written_at few write read false is h = asked_at few write read (nat_lt most_in_all (sum_by (λ l. bytes_asked l.call) before + bytes_asked line.call)) refl h

    big_at : length (calls_of before line.who) < most_calls → (b c : Bool) → nat_lt most_written (bytes_written line.call) ≡ b → nat_lt most_asked (bytes_asked line.call) ≡ c
        → cond (b || c) (Some reasons.Big)
        (cond (nat_lt most_in_all (sum_by (λ l. bytes_written l.call) before + bytes_written line.call))
        (Some reasons.Sum)
        (cond (nat_lt most_in_all (sum_by (λ l. bytes_asked l.call) before + bytes_asked line.call)) (Some reasons.Sum) None)) ≡ Some told → PassesLimit before line told
    big_at few true c write read h = let same : reasons.Big ≡ told = cc in subst (PassesLimit before line) same (few, inl (ltb-true _ _ write))
    big_at few false true write read h = let same : reasons.Big ≡ told = cc in subst (PassesLimit before line) same (few, inr (ltb-true _ _ read))
    big_at few false false write read h =
        written_at few (ltb-false _ _ write) (ltb-false _ _ read) (nat_lt most_in_all (sum_by (λ l. bytes_written l.call) before + bytes_written line.call)) refl h

    calls_at : (b : Bool) → nat_le most_calls (length (calls_of before line.who)) ≡ b
        → cond b (Some reasons.Calls)
        (cond (nat_lt most_written (bytes_written line.call) || nat_lt most_asked (bytes_asked line.call))
        (Some reasons.Big)
        (cond (nat_lt most_in_all (sum_by (λ l. bytes_written l.call) before + bytes_written line.call))
        (Some reasons.Sum)
        (cond (nat_lt most_in_all (sum_by (λ l. bytes_asked l.call) before + bytes_asked line.call)) (Some reasons.Sum) None))) ≡ Some told → PassesLimit before line told
    calls_at true is h = let same : reasons.Calls ≡ told = cc in subst (PassesLimit before line) same (leb-true _ _ is)
    calls_at false is h = big_at (leb-false _ _ is) (nat_lt most_written (bytes_written line.call)) (nat_lt most_asked (bytes_asked line.call)) refl refl h

module _ (before : List ScriptLine) (line : List ℕ) where
  by_form : (told : ScriptWhy) → IsUtf8 line → (IsSkippedLine line → ⊥) → LacksCall line told → IsRefusedLine before line told
  by_form reasons.Utf8 valid some h = absurd (not_wrong _ _ reasons.Utf8 refl h.5.4)
  by_form reasons.Who valid some h = absurd (not_wrong _ _ reasons.Who refl h.5.4)
  by_form _ valid some h = (valid, some, inl h)

  by_limit : (told : ScriptWhy) → IsUtf8 line → (IsSkippedLine line → ⊥) → (spelled : ScriptLine) → IsCallLine line spelled → PassesLimit before spelled told → IsRefusedLine before line told
  by_limit reasons.Utf8 valid some spelled called h = absurd h
  by_limit reasons.Who valid some spelled called h = absurd h
  by_limit _ valid some spelled called h = (valid, some, inr (spelled, called, h))

  module _ (told : ScriptWhy) (valid : IsUtf8 line) (some : IsSkippedLine line → ⊥) where
    words_refused : (words : List (List ℕ)) → 0 < length words → IsJoined 32 words line → spelled_by words ≡ Err told → IsRefusedLine before line told
    words_refused [] full joined e = absurd (omega arith)
    words_refused (word ∷ words) full joined e = at (session_of word) refl e
      where
        called : (who : ℕ) → session_of word ≡ Some who → (r : Result Call ScriptWhy) → call_of words ≡ r → with_session who r ≡ Err told → IsRefusedLine before line told
        called who is (Ok call) are h = cc
        called who is (Err why) are h =
            let same : why ≡ told = cc in by_form told valid some (word, words, who, joined, session_found word who is, call_lacks told words (are ∙ ap Err same))

        at : (o : Option ℕ) → session_of word ≡ o → read_as o reasons.Who (λ who. with_session who (call_of words)) ≡ Err told → IsRefusedLine before line told
        at None is h =
            let same : reasons.Who ≡ told = cc in
            subst (IsRefusedLine before line) same (valid, some, (word, words, joined, λ who spells. let found : session_of word ≡ Some who = session_only word who spells in cc))
        at (Some who) is h = called who is (call_of words) refl h

    spelled_refused : (r : Result ScriptLine ScriptWhy) → spelled_by (words_of line) ≡ r → limited before r ≡ Err told → IsRefusedLine before line told
    spelled_refused (Err why) is h =
        let same : why ≡ told = cc in
        words_refused (words_of line) (omega (arith, length-slice_split (λ b. eqb b 32) line)) (IsJoined-split 32 line) (is ∙ ap Err same)
    spelled_refused (Ok spelled) is h = at (limit_passed before spelled) refl h
      where
        at : (o : Option ScriptWhy) → limit_passed before spelled ≡ o → unless_passed o spelled ≡ Err told → IsRefusedLine before line told
        at None passed k = cc
        at (Some why) passed k =
            let same : why ≡ told = cc in by_limit told valid some spelled (spelled_found line spelled is) (limit_found before spelled told (passed ∙ ap Some same))

  line_refused : (told : ScriptWhy) → line_of before line ≡ Err told → IsRefusedLine before line told
  line_refused told e = at (is_utf8 line) refl (is_skipped line) e
    where
      never_skipped : IsUtf8 line → IsSkippedLine line → ⊥
      never_skipped valid skip = let none : line_of before line ≡ Ok None = line_skip_only before line valid skip in cc

      at : (utf8 : Bool) → is_utf8 line ≡ utf8 → (skip : Bool) → cond (not utf8) (Err reasons.Utf8) (cond skip (Ok None) (limited before (spelled_by (words_of line)))) ≡ Err told
          → IsRefusedLine before line told
      at false is skip h =
          let same : reasons.Utf8 ≡ told = cc in
          subst (IsRefusedLine before line) same (λ valid. let yes : is_utf8 line ≡ true = is_utf8-from_IsUtf8 line valid in cc)
      at true is true h = cc
      at true is false h =
          let valid : IsUtf8 line = IsUtf8-from_is_utf8 line is in spelled_refused told valid (never_skipped valid) (spelled_by (words_of line)) refl h

-- the line of these that is refused behind a script, and what those before it add
record Refuses (n : ℕ) (before : List ScriptLine) (lines : List (List ℕ)) (e : ScriptErr) : Type 0 where
  front : List (List ℕ)
  line : List ℕ
  rest : List (List ℕ)
  added : List ScriptLine
  cut : lines ≡ front ++ line ∷ rest
  number : e.line ≡ length front + n
  spelled : SpellLines front added
  limited : IsWithinLimits (before ++ added)
  refused : IsRefusedLine (before ++ added) line e.why

from_refused : (n : ℕ) (before : List ScriptLine) (lines : List (List ℕ)) (e : ScriptErr) → script_from n before lines ≡ Err e → IsWithinLimits before → Refuses n before lines e
from_refused n before [] e is within = cc
from_refused n before (line ∷ lines) e is within = at (line_of before line) refl is (λ b h w. from_refused (n + 1) b lines e h w)
  where
    here : (why : ScriptWhy) → line_of before line ≡ Err why → Refuses n before (line ∷ lines) (record { line = n; why = why })
    here why was = record {
      front = [];
      line = line;
      rest = lines;
      added = [];
      cut = refl;
      number = omega arith;
      spelled = tt;
      limited = subst IsWithinLimits (sym (append-nil before)) within;
      refused = subst (λ b. IsRefusedLine b line why) (sym (append-nil before)) (line_refused before line why was);
    }

    at : (r : Result (Option ScriptLine) ScriptWhy) → line_of before line ≡ r → and_then (with_line n before r) (λ s. script_from (n + 1) s lines) ≡ Err e
        → ((b : List ScriptLine) → script_from (n + 1) b lines ≡ Err e → IsWithinLimits b → Refuses (n + 1) b lines e) → Refuses n before (line ∷ lines) e
    at (Err why) was h later =
        let same : record { line = n; why = why } ≡ e = cc in subst (Refuses n before (line ∷ lines)) same (here why was)
    at (Ok None) was h later =
        let more = later before h within in record {
          front = line ∷ more.front;
          line = more.line;
          rest = more.rest;
          added = more.added;
          cut = ap (λ l. line ∷ l) more.cut;
          number = omega (arith, more.number);
          spelled = skipped line more.front more.added (line_utf8 before line None was) (line_none before line was) more.spelled;
          limited = more.limited;
          refused = more.refused;
        }
    at (Ok (Some spelled)) was h later =
        let read = line_spelled before line spelled was in
        let more = later (before ++ spelled ∷ []) h (IsWithinLimits-more before spelled within read.1) in
        let moved : (before ++ spelled ∷ []) ++ more.added ≡ before ++ spelled ∷ more.added = append_assoc before (spelled ∷ []) more.added in record {
          front = line ∷ more.front;
          line = more.line;
          rest = more.rest;
          added = spelled ∷ more.added;
          cut = ap (λ l. line ∷ l) more.cut;
          number = omega (arith, more.number);
          spelled = (line_utf8 before line (Some spelled) was, inr (spelled_found line spelled read.0, more.spelled));
          limited = subst IsWithinLimits moved more.limited;
          refused = subst (λ b. IsRefusedLine b more.line e.why) moved more.refused;
        }

-- a text that is refused is too long, or has a first line that is refused
pub first_refused : (text : List ℕ) (e : ScriptErr) → script_of text ≡ Err e → IsTooLong text e ⊎ IsRefusedText text e
first_refused text e is = at (nat_lt longest_script (length text)) refl is
  where
    at : (b : Bool) → nat_lt longest_script (length text) ≡ b → cond b (Err (record { line = 0; why = reasons.Long })) (script_from 1 [] (lines_of text)) ≡ Err e → IsTooLong text e ⊎ IsRefusedText text e
    at true long h = let same : e ≡ record { line = 0; why = reasons.Long } = cc in inl (same, ltb-true _ _ long)
    at false short h =
        let found = from_refused 1 [] (lines_of text) e h IsWithinLimits-nil in inr (record {
          front = found.front;
          line = found.line;
          rest = found.rest;
          script = found.added;
          short = ltb-false _ _ short;
          joined = subst (λ lines. IsJoined 10 lines text) found.cut (IsJoined-split 10 text);
          number = found.number;
          spelled = found.spelled;
          limited = found.limited;
          refused = found.refused;
        })
