-- The verbs of a script, the forms of the words behind each, and the call that these words name.
use Rattle.std.specs.Prelude.{ℕ, List, [], ◌∷◌, Bool, codes}
use Rattle.plain_tree.specs.Paths.{Path}
use Rattle.plain_tree.specs.declared.calls.Call.{Call}
use Rattle.plain_tree.specs.declared.calls.Call.TheVariants.{Mkdir, Create, Write, Truncate, Read, Listing, Stat}
use Rattle.plain_tree.specs.declared.calls.Call.TheVariants.{Rename, Remove, Setx, Getx, Dropx, Readonly}
use Rattle.plain_tree.specs.declared.calls.Call.TheVariants.{LockVolume, UnlockVolume, PermLock, Sync}
use Rattle.session_script.specs.declared.scripts.ScriptWhy.{ScriptWhy}
use Rattle.session_script.specs.declared.scripts.ScriptWhy.TheVariants as reasons
use Rattle.session_script.specs.declared.words.Verb.{Verb}
use Rattle.session_script.specs.declared.words.Verb.TheVariants as verbs

-- what a word behind a verb may be
pub data Form : Type 0 where
  a_path : Form
  a_key : Form
  a_flag : Form
  a_number : Form
  some_bytes : Form

-- why a line is refused that has another word in place of one of this form
abbrev pub reason_of : Form → ScriptWhy
reason_of a_path = reasons.Path
reason_of a_key = reasons.Key
reason_of a_flag = reasons.Flag
reason_of a_number = reasons.Number
reason_of some_bytes = reasons.Bytes

-- the reasons come in this order
abbrev pub rank : Form → ℕ
rank a_path = 0
rank a_key = 1
rank a_flag = 2
rank a_number = 3
rank some_bytes = 4

-- what a word of this form stands for
abbrev pub Value : Form → Type 0
Value a_path = Path
Value a_key = List ℕ
Value a_flag = Bool
Value a_number = ℕ
Value some_bytes = List ℕ

-- what words of these forms stand for, each for its own value
abbrev pub Values : List Form → Type 0
Values [] = Unit {0}
Values (form ∷ forms) = Value form × Values forms

-- the word that names a call
abbrev pub verb_text : Verb → List ℕ
verb_text verbs.Mkdir = codes "mkdir"
verb_text verbs.Create = codes "create"
verb_text verbs.Write = codes "write"
verb_text verbs.Truncate = codes "truncate"
verb_text verbs.Read = codes "read"
verb_text verbs.List = codes "list"
verb_text verbs.Stat = codes "stat"
verb_text verbs.Rename = codes "rename"
verb_text verbs.Remove = codes "remove"
verb_text verbs.Setx = codes "setx"
verb_text verbs.Getx = codes "getx"
verb_text verbs.Dropx = codes "dropx"
verb_text verbs.Readonly = codes "readonly"
verb_text verbs.Lock = codes "lock"
verb_text verbs.Unlock = codes "unlock"
verb_text verbs.Permlock = codes "permlock"
verb_text verbs.Sync = codes "sync"

-- the forms of the words behind a verb
abbrev pub forms_of : Verb → List Form
forms_of verbs.Mkdir = a_path ∷ []
forms_of verbs.Create = a_path ∷ []
forms_of verbs.Write = a_path ∷ a_number ∷ some_bytes ∷ []
forms_of verbs.Truncate = a_path ∷ a_number ∷ []
forms_of verbs.Read = a_path ∷ a_number ∷ a_number ∷ []
forms_of verbs.List = a_path ∷ []
forms_of verbs.Stat = a_path ∷ []
forms_of verbs.Rename = a_path ∷ a_path ∷ []
forms_of verbs.Remove = a_path ∷ []
forms_of verbs.Setx = a_path ∷ a_key ∷ some_bytes ∷ []
forms_of verbs.Getx = a_path ∷ a_key ∷ []
forms_of verbs.Dropx = a_path ∷ a_key ∷ []
forms_of verbs.Readonly = a_path ∷ a_flag ∷ []
forms_of verbs.Lock = []
forms_of verbs.Unlock = []
forms_of verbs.Permlock = []
forms_of verbs.Sync = []

-- the call of a verb, with what the words behind it stand for
abbrev pub call_for : (verb : Verb) → Values (forms_of verb) → Call
call_for verbs.Mkdir (path, end) = Mkdir path
call_for verbs.Create (path, end) = Create path
call_for verbs.Write (path, (offset, (bytes, end))) = Write path offset bytes
call_for verbs.Truncate (path, (length, end)) = Truncate path length
call_for verbs.Read (path, (offset, (count, end))) = Read path offset count
call_for verbs.List (path, end) = Listing path
call_for verbs.Stat (path, end) = Stat path
call_for verbs.Rename (from, (to, end)) = Rename from to
call_for verbs.Remove (path, end) = Remove path
call_for verbs.Setx (path, (key, (bytes, end))) = Setx path key bytes
call_for verbs.Getx (path, (key, end)) = Getx path key
call_for verbs.Dropx (path, (key, end)) = Dropx path key
call_for verbs.Readonly (path, (on, end)) = Readonly path on
call_for verbs.Lock end = LockVolume
call_for verbs.Unlock end = UnlockVolume
call_for verbs.Permlock end = PermLock
call_for verbs.Sync end = Sync
