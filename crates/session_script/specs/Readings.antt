-- What the readers of words and lines answer, against what these spell.
use Rattle.std.specs.Prelude.{◌≡◌, ℕ, ◌==◌, List, [], ◌∷◌, Option, Some, None, Result, Ok, Err, replicate}
use Rattle.std.specs.List.{slice_split}
use Rattle.std.specs.Borrow.{Bor}
use Rattle.plain_tree.specs.declared.calls.Call.{Call}
use Rattle.plain_tree.specs.declared.calls.Call.TheVariants as calls
use Rattle.session_script.specs.declared.bytes.Content.{Content}
use Rattle.session_script.specs.declared.bytes.Content.TheVariants as contents
use Rattle.session_script.specs.declared.drafts.Draft.{Draft}
use Rattle.session_script.specs.declared.drafts.Draft.TheVariants as drafts
use Rattle.session_script.specs.declared.faults.LineFault.{LineFault}
use Rattle.session_script.specs.declared.faults.LineFault.TheVariants as faults
use Rattle.session_script.specs.declared.scripts.ScriptLine.{ScriptLine}
use Rattle.session_script.specs.declared.scripts.ScriptWhy.{ScriptWhy}
use Rattle.session_script.specs.declared.scripts.ScriptWhy.TheVariants as reasons
use Rattle.session_script.specs.declared.words.Verb.{Verb}
use Rattle.session_script.specs.declared.words.Arguments.{Arguments}
use Rattle.session_script.specs.declared.words.Arguments.TheVariants as arguments
use Rattle.session_script.specs.Grammar.{call_by}

-- the pieces between such bytes of what is left of a text
abbrev pub pieces_left : ℕ → Option (Bor (List ℕ)) → List (List ℕ)
pieces_left byte None = []
pieces_left byte (Some text) = slice_split (λ b. b == byte) text.now

-- the call that a verb and the words behind it spell
abbrev pub call_given : Verb → Arguments → Result Call ScriptWhy
call_given verb arguments.Nothing = call_by verb []
call_given verb (arguments.One a) = call_by verb (a.now ∷ [])
call_given verb (arguments.Two a b) = call_by verb (a.now ∷ b.now ∷ [])
call_given verb (arguments.Three a b c) = call_by verb (a.now ∷ b.now ∷ c.now ∷ [])
call_given verb arguments.Wrong = Err reasons.Words

-- the bytes that a content stands for
abbrev pub bytes_given : Content → List ℕ
bytes_given (contents.Given bytes) = bytes
bytes_given (contents.Fill value count) = replicate count value

-- the call that a draft stands for
abbrev pub call_drafted : Draft → Call
call_drafted (drafts.Write path offset content) = calls.Write path offset (bytes_given content)
call_drafted (drafts.Setx path key content) = calls.Setx path key (bytes_given content)
call_drafted (drafts.Whole call) = call

-- a word is read as what it spells; one that spells nothing is refused for this reason, or memory was refused
abbrev pub IsReadWord : {A : Type 0} → Result A LineFault → Option A → ScriptWhy → Type 0
IsReadWord (Ok value) spelled reason = spelled ≡ Some value
IsReadWord (Err (faults.Bad why)) spelled reason = (spelled ≡ None) × (why ≡ reason)
IsReadWord (Err faults.NoMemory) spelled reason = Unit {0}

-- the same of bytes
abbrev pub IsReadBytes : Result Content LineFault → Option (List ℕ) → Type 0
IsReadBytes (Ok content) spelled = spelled ≡ Some (bytes_given content)
IsReadBytes (Err (faults.Bad why)) spelled = (spelled ≡ None) × (why ≡ reasons.Bytes)
IsReadBytes (Err faults.NoMemory) spelled = Unit {0}

-- a draft stands for the call that is spelled; or the reason is told, or memory was refused
abbrev pub IsDrafted : Result Draft LineFault → Result Call ScriptWhy → Type 0
IsDrafted (Ok draft) spelled = spelled ≡ Ok (call_drafted draft)
IsDrafted (Err (faults.Bad why)) spelled = spelled ≡ Err why
IsDrafted (Err faults.NoMemory) spelled = Unit {0}

-- the same of a line that is no comment
abbrev pub IsReadLine : Result (ℕ × Draft) LineFault → Result ScriptLine ScriptWhy → Type 0
IsReadLine (Ok line) spelled = spelled ≡ Ok (record { who = line.0; call = call_drafted line.1 })
IsReadLine (Err (faults.Bad why)) spelled = spelled ≡ Err why
IsReadLine (Err faults.NoMemory) spelled = Unit {0}

-- what a reader answers is what is spelled, or the reason for which it is refused; or memory was refused
abbrev pub IsRead : {A : Type 0} → Result A LineFault → Result A ScriptWhy → Type 0
IsRead (Ok value) spelled = spelled ≡ Ok value
IsRead (Err (faults.Bad why)) spelled = spelled ≡ Err why
IsRead (Err faults.NoMemory) spelled = Unit {0}
