-- Which line of a text is refused, and for which reason.
use Rattle.std.specs.Prelude.{◌≡◌, ◌⊎◌, ℕ, ◌+◌, ◌<◌, ◌≤◌, List, [], ◌∷◌, ◌++◌, Err, length, sum_by}
use Rattle.std.specs.List.{AllByRecursion}
use Rattle.std.specs.Str.{IsUtf8}
use Rattle.session_script.specs.Bounds.{longest_script, most_asked, most_calls, most_in_all, most_written}
use Rattle.session_script.specs.declared.scripts.ScriptErr.{ScriptErr}
use Rattle.session_script.specs.declared.scripts.ScriptLine.{ScriptLine}
use Rattle.session_script.specs.declared.scripts.ScriptWhy.{ScriptWhy}
use Rattle.session_script.specs.declared.scripts.ScriptWhy.TheVariants as reasons
use Rattle.session_script.specs.declared.words.Verb.{Verb}
use Rattle.session_script.specs.Forms.{Form, Value, rank, reason_of, verb_text, forms_of}
use Rattle.session_script.specs.Grammar.{calls_of, bytes_written, bytes_asked, script_of}
use Rattle.session_script.specs.ScriptText.{IsJoined, SpellsSession, SpellsValue}
use Rattle.session_script.specs.ScriptText.{IsSkippedLine, IsCallLine, SpellLines, IsWithinLimits}

-- as many words as the verb has forms, none of them empty
pub record HasWords (verb : Verb) (words : List (List ℕ)) : Type 0 where
  pub count : length words ≡ length (forms_of verb)
  pub full : AllByRecursion (λ w. 1 ≤ length w) words

-- a word of this form
abbrev pub HasForm : Form → List ℕ → Type 0
HasForm form word = (value : Value form) × SpellsValue form word value

-- the first of the words that isn't of its form is refused for this reason
abbrev pub FirstWrong : List Form → List (List ℕ) → ScriptWhy → Type 0
FirstWrong (form ∷ forms) (word ∷ words) why =
    ((HasForm form word → ⊥) × (why ≡ reason_of form)) ⊎ (HasForm form word × FirstWrong forms words why)
FirstWrong _ _ why = ⊥

-- the words behind a session begin with this verb
abbrev pub NamesVerb : List (List ℕ) → Verb → List (List ℕ) → Type 0
NamesVerb words verb rest = words ≡ verb_text verb ∷ rest

-- the first form that the words behind a session lack: they name a call, are as many as it takes, and each is of its
-- form
abbrev pub LacksForm : List (List ℕ) → ScriptWhy → Type 0
LacksForm words reasons.Verb = (verb : Verb) (rest : List (List ℕ)) → NamesVerb words verb rest → ⊥
LacksForm words reasons.Words =
    (verb : Verb) × (rest : List (List ℕ)) × NamesVerb words verb rest × (HasWords verb rest → ⊥)
LacksForm words why =
    (verb : Verb) × (rest : List (List ℕ)) × NamesVerb words verb rest × HasWords verb rest
    × FirstWrong (forms_of verb) rest why

-- each form comes before none whose reason is an earlier one
abbrev pub StandInOrder : List Form → Type 0
StandInOrder [] = Unit {0}
StandInOrder (form ∷ forms) = AllByRecursion (λ later. rank form ≤ rank later) forms × StandInOrder forms

-- the first limit that a call passes behind the lines before it: the calls of its session, the bytes of the call, and
-- those of all writes or of all reads
abbrev pub PassesLimit : List ScriptLine → ScriptLine → ScriptWhy → Type 0
PassesLimit before line reasons.Calls = most_calls ≤ length (calls_of before line.who)
PassesLimit before line reasons.Big =
    (length (calls_of before line.who) < most_calls)
    × ((most_written < bytes_written line.call) ⊎ (most_asked < bytes_asked line.call))
PassesLimit before line reasons.Sum =
    (length (calls_of before line.who) < most_calls) × (bytes_written line.call ≤ most_written)
    × (bytes_asked line.call ≤ most_asked)
    × ((most_in_all < sum_by (λ l. bytes_written l.call) before + bytes_written line.call)
    ⊎ (most_in_all < sum_by (λ l. bytes_asked l.call) before + bytes_asked line.call))
PassesLimit before line _ = ⊥

-- the first word of a line names no session
abbrev pub LacksSession : List ℕ → Type 0
LacksSession line =
    (word : List ℕ) × (words : List (List ℕ)) × IsJoined 32 (word ∷ words) line
    × ((who : ℕ) → SpellsSession word who → ⊥)

-- the first word names a session, and the words behind it lack a form
abbrev pub LacksCall : List ℕ → ScriptWhy → Type 0
LacksCall line reason =
    (word : List ℕ) × (words : List (List ℕ)) × (who : ℕ) × IsJoined 32 (word ∷ words) line × SpellsSession word who
    × LacksForm words reason

-- a line is refused behind the script of those before it: it isn't UTF-8, or it isn't skipped and lacks a form, or
-- it spells a call that passes a limit
abbrev pub IsRefusedLine : List ScriptLine → List ℕ → ScriptWhy → Type 0
IsRefusedLine before line reasons.Utf8 = IsUtf8 line → ⊥
IsRefusedLine before line reasons.Who = IsUtf8 line × (IsSkippedLine line → ⊥) × LacksSession line
IsRefusedLine before line reason =
    IsUtf8 line × (IsSkippedLine line → ⊥)
    × (LacksCall line reason ⊎ ((spelled : ScriptLine) × IsCallLine line spelled × PassesLimit before spelled reason))

-- the lines before one are a script by themselves, and that line is refused behind them; lines are counted from 1
pub record IsRefusedText (text : List ℕ) (e : ScriptErr) : Type 0 where
  pub front : List (List ℕ)
  pub line : List ℕ
  pub rest : List (List ℕ)
  pub script : List ScriptLine
  pub short : length text ≤ longest_script
  pub joined : IsJoined 10 (front ++ line ∷ rest) text
  pub number : e.line ≡ length front + 1
  pub spelled : SpellLines front script
  pub limited : IsWithinLimits script
  pub refused : IsRefusedLine script line e.why

-- a text over its limit is refused at line 0
abbrev pub IsTooLong : List ℕ → ScriptErr → Type 0
IsTooLong text e = (e ≡ record { line = 0; why = reasons.Long }) × (longest_script < length text)

-- what a refusal says of its text
abbrev pub IsRefusal : List ℕ → ScriptErr → Type 0
IsRefusal text e = IsTooLong text e ⊎ IsRefusedText text e

-- What is refused is refused at its first line that lacks a form or passes a limit, for the first of them; and what has
-- such a line is refused so. The first word that isn't of its form has the first of the reasons in their order.
pub record RefusesTheFirst : Type 0 where
  pub found : (text : List ℕ) (e : ScriptErr) → script_of text ≡ Err e → IsRefusal text e
  pub only : (text : List ℕ) (e : ScriptErr) → IsRefusal text e → script_of text ≡ Err e
  pub ordered : (verb : Verb) → StandInOrder (forms_of verb)
