-- The lines of a script, the calls that they spell, and the first line that is refused.
use Rattle.std.specs.Prelude.{◌≡◌, ℕ, ◌+◌, List, [], ◌∷◌, ◌++◌, Bool, ◌||◌, not, ◌==◌, nat_le, nat_lt, if◌then◌else◌}
use Rattle.std.specs.Prelude.{filter, map, length, sum_by, slice_index, Option, Some, None, Result, Ok, Err}
use Rattle.std.specs.List.{list_any, slice_split}
use Rattle.std.specs.Str.{is_utf8}
use Rattle.plain_tree.specs.declared.calls.Call.{Call}
use Rattle.plain_tree.specs.declared.calls.Call.TheVariants.{Write, Read, Setx}
use Rattle.plain_tree.specs.History.{Calls}
use Rattle.session_script.specs.Bounds.{longest_script, most_asked, most_calls, most_in_all, most_written}
use Rattle.session_script.specs.declared.words.Verb.{Verb}
use Rattle.session_script.specs.declared.scripts.ScriptWhy.{ScriptWhy}
use Rattle.session_script.specs.declared.scripts.ScriptWhy.TheVariants as reasons
use Rattle.session_script.specs.declared.scripts.ScriptErr.{ScriptErr}
use Rattle.session_script.specs.declared.scripts.ScriptFault.{ScriptFault}
use Rattle.session_script.specs.declared.scripts.ScriptFault.TheVariants as faults
use Rattle.session_script.specs.declared.scripts.ScriptLine.{ScriptLine}
use Rattle.session_script.specs.Forms.{Form, Values, reason_of, forms_of, call_for}
use Rattle.session_script.specs.Words.{words_of, is_empty, session_of, verb_of, value_of}

-- the calls of each session, in order
abbrev pub calls_of : List ScriptLine → Calls
calls_of script who = map (λ l. l.call) (filter (λ l. l.who == who) script)

-- what a word spells goes on to the next word, or the reason is told
abbrev pub read_as : {A B : Type 0} → Option A → ScriptWhy → (A → Result B ScriptWhy) → Result B ScriptWhy
read_as None reason next = Err reason
read_as (Some value) reason next = next value

-- what the words spell, each by its form, goes on; or the reason of the first that isn't of its form is told
abbrev pub read_forms : (forms : List Form) → List (List ℕ) → (Values forms → Result Call ScriptWhy)
    → Result Call ScriptWhy
read_forms [] [] next = next tt
read_forms (form ∷ forms) (word ∷ words) next =
    read_as (value_of form word) (reason_of form) (λ value. read_forms forms words (λ values. next (value, values)))
read_forms _ _ next = Err reasons.Words

-- the call that the words behind a verb spell, which are as many as its forms
abbrev pub call_by : Verb → List (List ℕ) → Result Call ScriptWhy
call_by verb words =
    if length words == length (forms_of verb)
    then read_forms (forms_of verb) words (λ values. Ok (call_for verb values)) else Err reasons.Words

-- the same, where none of them is empty
abbrev pub call_with : Verb → List (List ℕ) → Result Call ScriptWhy
call_with verb words = if list_any is_empty words then Err reasons.Words else call_by verb words

-- the call that the words of a line spell behind the session
abbrev pub call_of : List (List ℕ) → Result Call ScriptWhy
call_of [] = Err reasons.Verb
call_of (word ∷ words) = read_as (verb_of word) reasons.Verb (λ verb. call_with verb words)

-- a session and its call
abbrev pub with_session : ℕ → Result Call ScriptWhy → Result ScriptLine ScriptWhy
with_session who (Ok call) = Ok (record { who = who; call = call })
with_session who (Err reason) = Err reason

-- what the words of a line spell: a session and its call
abbrev pub spelled_by : List (List ℕ) → Result ScriptLine ScriptWhy
spelled_by [] = Err reasons.Who
spelled_by (word ∷ words) = read_as (session_of word) reasons.Who (λ who. with_session who (call_of words))

-- how many bytes a call writes to a file or gives to a key, and how many it asks to read
abbrev pub bytes_written : Call → ℕ
bytes_written (Write path offset bytes) = length bytes
bytes_written (Setx path key bytes) = length bytes
bytes_written _ = 0

abbrev pub bytes_asked : Call → ℕ
bytes_asked (Read path offset count) = count
bytes_asked _ = 0

-- the first limit that a line passes, behind the lines that stand before it
abbrev pub limit_passed : List ScriptLine → ScriptLine → Option ScriptWhy
limit_passed before line =
    if nat_le most_calls (length (calls_of before line.who)) then Some reasons.Calls
    else if nat_lt most_written (bytes_written line.call) || nat_lt most_asked (bytes_asked line.call)
    then Some reasons.Big
    else if nat_lt most_in_all (sum_by (λ l. bytes_written l.call) before + bytes_written line.call)
    then Some reasons.Sum
    else if nat_lt most_in_all (sum_by (λ l. bytes_asked l.call) before + bytes_asked line.call) then Some reasons.Sum
    else None

-- a line that passes no limit, or the limit that it passes
abbrev pub unless_passed : Option ScriptWhy → ScriptLine → Result (Option ScriptLine) ScriptWhy
unless_passed None line = Ok (Some line)
unless_passed (Some reason) line = Err reason

-- a line within the limits
abbrev pub limited : List ScriptLine → Result ScriptLine ScriptWhy → Result (Option ScriptLine) ScriptWhy
limited before (Ok line) = unless_passed (limit_passed before line) line
limited before (Err reason) = Err reason

-- an empty line and a comment are skipped
abbrev pub is_skipped : List ℕ → Bool
is_skipped line = is_empty line || slice_index line 0 == 35

-- what a line spells behind the lines before it: nothing, or a session and its call
abbrev pub line_of : List ScriptLine → List ℕ → Result (Option ScriptLine) ScriptWhy
line_of before line =
    if not (is_utf8 line) then Err reasons.Utf8
    else if is_skipped line then Ok None
    else limited before (spelled_by (words_of line))

-- the script with one more line, or the line's refusal
abbrev pub with_line : ℕ → List ScriptLine → Result (Option ScriptLine) ScriptWhy → Result (List ScriptLine) ScriptErr
with_line number before (Ok None) = Ok before
with_line number before (Ok (Some spelled)) = Ok (before ++ spelled ∷ [])
with_line number before (Err reason) = Err (record { line = number; why = reason })

-- what was read goes on to the next line
abbrev pub and_then : Result (List ScriptLine) ScriptErr → (List ScriptLine → Result (List ScriptLine) ScriptErr)
    → Result (List ScriptLine) ScriptErr
and_then (Ok script) next = next script
and_then (Err refusal) next = Err refusal

-- the script that lines go on to spell, the first of which has this number; or the first that is refused
abbrev pub script_from : ℕ → List ScriptLine → List (List ℕ) → Result (List ScriptLine) ScriptErr
script_from number before [] = Ok before
script_from number before (line ∷ lines) =
    and_then (with_line number before (line_of before line)) (λ script. script_from (number + 1) script lines)

-- the lines of a text; behind a last line feed stands one more, which is empty
abbrev pub lines_of : List ℕ → List (List ℕ)
lines_of text = slice_split (λ b. b == 10) text

-- the script of a text, or its first refusal
abbrev pub script_of : List ℕ → Result (List ScriptLine) ScriptErr
script_of text =
    if nat_lt longest_script (length text) then Err (record { line = 0; why = reasons.Long })
    else script_from 1 [] (lines_of text)

-- a fault of reading is the text's first refusal, or want of memory
abbrev pub IsFault : ScriptFault → Result (List ScriptLine) ScriptErr → Type 0
IsFault faults.NoMemory script = Unit {0}
IsFault (faults.Bad e) script = script ≡ Err e
