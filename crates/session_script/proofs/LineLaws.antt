-- Lines, as they are read and as they are spelled.
use Rattle.std.proofs.Common.{◌≡◌, ℕ, ◌≤◌, Bool, true, false, cond, List, [], ◌∷◌, length, ap, ◌∙◌, refl, subst, arith, Some, None, Ok, Err}
use Rattle.std.specs.Prelude.{Option, Result, not}
use Rattle.std.specs.List.{AllByRecursion, join_with_byte}
use Rattle.std.specs.Str.{IsUtf8, is_utf8}
use Rattle.std.proofs.lemmas.Bool.Decides.{nat_tests}
use Rattle.std.proofs.lemmas.Str.{IsUtf8-from_is_utf8, is_utf8-from_IsUtf8}
use Rattle.plain_tree.specs.declared.calls.Call.{Call}
use Rattle.session_script.specs.declared.scripts.ScriptLine.{ScriptLine}
use Rattle.session_script.specs.declared.scripts.ScriptWhy.{ScriptWhy}
use Rattle.session_script.specs.declared.scripts.ScriptWhy.TheVariants as reasons
use Rattle.session_script.specs.Words.{words_of, session_of}
use Rattle.session_script.specs.Grammar.{read_as, with_session, call_of, spelled_by, limit_passed, unless_passed, limited, is_skipped, line_of}
use Rattle.session_script.specs.ScriptText.{IsDecimalDigit, IsJoined, IsCallLine, IsSkippedLine}
use Rattle.session_script.proofs.NumberLaws.{session_found, session_only}
use Rattle.session_script.proofs.PathLaws.{IsJoined-split, split_joined}
use Rattle.session_script.proofs.CallLaws.{call_found, call_only}

joined_found : (line : List ℕ) (spelled : ScriptLine) (words : List (List ℕ)) → IsJoined 32 words line → spelled_by words ≡ Ok spelled → IsCallLine line spelled
joined_found line spelled [] joined e = cc
joined_found line spelled (word ∷ words) joined e = at (session_of word) refl e
  where
    called : (who : ℕ) → session_of word ≡ Some who → (r : Result Call ScriptWhy) → call_of words ≡ r → with_session who r ≡ Ok spelled → IsCallLine line spelled
    called who is (Err why) are h = cc
    called who is (Ok call) are h =
        let P : ScriptLine → Type 0 = λ s. IsCallLine line s in
        let same : record { who = who; call = call } ≡ spelled = cc in
        subst P same (record { word = word; words = words; joined = joined; session = session_found word who is; call = call_found words call are })

    at : (o : Option ℕ) → session_of word ≡ o → read_as o reasons.Who (λ who. with_session who (call_of words)) ≡ Ok spelled → IsCallLine line spelled
    at None is h = cc
    at (Some who) is h = called who is (call_of words) refl h

-- a line that is read as a session and its call spells them
pub spelled_found : (line : List ℕ) (spelled : ScriptLine) → spelled_by (words_of line) ≡ Ok spelled → IsCallLine line spelled
spelled_found line spelled e = joined_found line spelled (words_of line) (IsJoined-split 32 line) e

-- a line that spells a session and its call is read so
pub spelled_only : (line : List ℕ) (spelled : ScriptLine) → IsCallLine line spelled → spelled_by (words_of line) ≡ Ok spelled
spelled_only line spelled h =
    ap spelled_by (ap words_of h.joined.joined ∙ split_joined 32 (h.word ∷ h.words) (omega arith) h.joined.free)
    ∙ ap (λ o. read_as o reasons.Who (λ who. with_session who (call_of h.words))) (session_only h.word spelled.who h.session)
    ∙ ap (with_session spelled.who) (call_only h.words spelled.call h.call)

digit_line : (d : ℕ) (rest : List ℕ) → IsDecimalDigit d → is_skipped (d ∷ rest) ≡ false
digit_line d rest h = grind (arith, nat_tests)

begins_with_digit : (word : List ℕ) (words : List (List ℕ)) → 1 ≤ length word → AllByRecursion IsDecimalDigit word → is_skipped (join_with_byte 32 (word ∷ words)) ≡ false
begins_with_digit [] words some digits = absurd (omega arith)
begins_with_digit (d ∷ word) [] some digits = digit_line d word digits.0
begins_with_digit (d ∷ word) (next ∷ words) some digits = digit_line d _ digits.0

not_skipped : (line : List ℕ) (spelled : ScriptLine) → IsCallLine line spelled → is_skipped line ≡ false
not_skipped line spelled h = ap is_skipped h.joined.joined ∙ begins_with_digit h.word h.words h.session.number.some h.session.number.digits

-- a line that is taken as skipped is empty or a comment
pub skip_found : (line : List ℕ) → is_skipped line ≡ true → IsSkippedLine line
skip_found [] h = tt
skip_found (c ∷ line) h = grind (arith, nat_tests)

skip_only : (line : List ℕ) → IsSkippedLine line → is_skipped line ≡ true
skip_only [] h = refl
skip_only (c ∷ line) h = grind (arith, nat_tests)

-- what the tests of a line leave
abbrev tested : List ScriptLine → Bool → Bool → Result ScriptLine ScriptWhy → Result (Option ScriptLine) ScriptWhy
tested before utf8 skipped r = cond (not utf8) (Err reasons.Utf8) (cond skipped (Ok None) (limited before r))

tested_utf8 : (before : List ScriptLine) (utf8 skipped : Bool) (r : Result ScriptLine ScriptWhy) (o : Option ScriptLine) → tested before utf8 skipped r ≡ Ok o → utf8 ≡ true
tested_utf8 before true skipped r o h = refl
tested_utf8 before false skipped r o h = cc

-- a line that is not refused is UTF-8
pub line_utf8 : (before : List ScriptLine) (line : List ℕ) (o : Option ScriptLine) → line_of before line ≡ Ok o → IsUtf8 line
line_utf8 before line o e = IsUtf8-from_is_utf8 line (tested_utf8 before (is_utf8 line) (is_skipped line) (spelled_by (words_of line)) o e)

never_none : (before : List ScriptLine) (r : Result ScriptLine ScriptWhy) → limited before r ≡ Ok None → ⊥
never_none before (Err why) h = cc
never_none before (Ok line) h = at (limit_passed before line) h
  where
    at : (o : Option ScriptWhy) → unless_passed o line ≡ Ok None → ⊥
    at None k = cc
    at (Some why) k = cc

tested_none : (before : List ScriptLine) (utf8 skipped : Bool) (r : Result ScriptLine ScriptWhy) → tested before utf8 skipped r ≡ Ok None → skipped ≡ true
tested_none before false skipped r h = cc
tested_none before true true r h = refl
tested_none before true false r h = absurd (never_none before r h)

-- a line that gives nothing is one that is skipped
pub line_none : (before : List ScriptLine) (line : List ℕ) → line_of before line ≡ Ok None → IsSkippedLine line
line_none before line e = skip_found line (tested_none before (is_utf8 line) (is_skipped line) (spelled_by (words_of line)) e)

-- an empty line or comment in UTF-8 gives nothing
pub line_skip_only : (before : List ScriptLine) (line : List ℕ) → IsUtf8 line → IsSkippedLine line → line_of before line ≡ Ok None
line_skip_only before line valid skip =
    ap (λ b. tested before b (is_skipped line) (spelled_by (words_of line))) (is_utf8-from_IsUtf8 line valid)
    ∙ ap (λ b. tested before true b (spelled_by (words_of line))) (skip_only line skip)

-- a line that spells a call within the limits gives that call
pub line_call_only : (before : List ScriptLine) (line : List ℕ) (spelled : ScriptLine) → IsUtf8 line → IsCallLine line spelled → limit_passed before spelled ≡ None → line_of before line ≡ Ok (Some spelled)
line_call_only before line spelled valid called within =
    ap (λ b. tested before b (is_skipped line) (spelled_by (words_of line))) (is_utf8-from_IsUtf8 line valid)
    ∙ ap (λ b. tested before true b (spelled_by (words_of line))) (not_skipped line spelled called)
    ∙ ap (limited before) (spelled_only line spelled called)
    ∙ ap (λ o. unless_passed o spelled) within
