-- Scripts as they are spelled, line by line and word by word.
use Rattle.std.specs.Prelude.{◌≡◌, ◌≢◌, ◌⊎◌, ℕ, ◌+◌, ◌-◌, ◌*◌, ◌^◌, ◌<◌, ◌≤◌, List, [], ◌∷◌, ◌++◌, Ok, codes, length}
use Rattle.std.specs.Prelude.{replicate, sum_by, slice_index, Bool, true, false}
use Rattle.std.specs.List.{AllByRecursion, join_with_byte}
use Rattle.std.specs.Str.{IsUtf8}
use Rattle.percent_encoding.specs.Percent.{percent_decode}
use Rattle.plain_tree.specs.declared.calls.Call.{Call}
use Rattle.plain_tree.specs.declared.calls.Call.TheVariants.{Mkdir, Create, Write, Truncate, Read, Listing, Stat}
use Rattle.plain_tree.specs.declared.calls.Call.TheVariants.{Rename, Remove, Setx, Getx, Dropx, Readonly}
use Rattle.plain_tree.specs.declared.calls.Call.TheVariants.{LockVolume, UnlockVolume, PermLock, Sync}
use Rattle.plain_tree.specs.Paths.{Name, Path}
use Rattle.session_script.specs.Bounds.{longest_script, most_asked, most_calls, most_in_all, most_sessions}
use Rattle.session_script.specs.Bounds.{most_written}
use Rattle.session_script.specs.declared.scripts.ScriptLine.{ScriptLine}
use Rattle.session_script.specs.declared.words.Verb.{Verb}
use Rattle.session_script.specs.declared.words.Verb.TheVariants as verbs
use Rattle.session_script.specs.Forms.{Form, Value, Values, a_path, a_key, a_flag, a_number, some_bytes}
use Rattle.session_script.specs.Forms.{verb_text, forms_of}
use Rattle.session_script.specs.Grammar.{calls_of, bytes_written, bytes_asked, script_of}

-- a piece that does not have the byte
abbrev pub Lacks : ℕ → List ℕ → Type 0
Lacks byte piece = AllByRecursion (λ b. b ≢ byte) piece

-- the text is the pieces, with this byte between each two and nowhere else
pub record IsJoined (byte : ℕ) (pieces : List (List ℕ)) (text : List ℕ) : Type 0 where
  pub joined : text ≡ join_with_byte byte pieces
  pub free : AllByRecursion (Lacks byte) pieces

abbrev pub IsDecimalDigit : ℕ → Type 0
IsDecimalDigit d = (48 ≤ d) × (d ≤ 57)

-- what decimal digits stand for, each by its place
abbrev pub place_value : List ℕ → ℕ
place_value [] = 0
place_value (d ∷ digits) = (d - 48) * 10 ^ length digits + place_value digits

-- a number is 1 to 20 decimal digits, below 2^64
pub record SpellsNumber (word : List ℕ) (n : ℕ) : Type 0 where
  pub some : 1 ≤ length word
  pub few : length word ≤ 20
  pub digits : AllByRecursion IsDecimalDigit word
  pub value : place_value word ≡ n
  pub small : n < 2 ^ 64

-- a session is a number from 1 to 16 with no zero in front
pub record SpellsSession (word : List ℕ) (who : ℕ) : Type 0 where
  pub number : SpellsNumber word who
  pub low : 1 ≤ who
  pub high : who ≤ most_sessions
  pub no_zero : slice_index word 0 ≢ 48

-- a text is spelled by one byte or more, and is UTF-8 once its escapes are decoded
pub record SpellsText (word text : List ℕ) : Type 0 where
  pub some : 1 ≤ length word
  pub decoded : percent_decode word ≡ text
  pub valid : IsUtf8 text

-- a name is such a text, spelled without a slash
pub record SpellsName (piece : List ℕ) (name : Name) : Type 0 where
  pub no_slash : Lacks 47 piece
  pub spelled : SpellsText piece name

-- a slash before each name
abbrev pub SpellsNames : List ℕ → Path → Type 0
SpellsNames word [] = word ≡ []
SpellsNames word (name ∷ names) =
    (piece : List ℕ) × (rest : List ℕ) × (word ≡ 47 ∷ (piece ++ rest)) × SpellsName piece name × SpellsNames rest names

-- a slash alone for the root, else a slash before each name
abbrev pub SpellsPath : List ℕ → Path → Type 0
SpellsPath word [] = word ≡ codes "/"
SpellsPath word (name ∷ names) = SpellsNames word (name ∷ names)

-- a hexadecimal digit of either case
abbrev pub IsHexDigit : ℕ → ℕ → Type 0
IsHexDigit c v =
    ((v < 10) × (c ≡ 48 + v)) ⊎ (((10 ≤ v) × (v < 16) × (c ≡ 87 + v)) ⊎ ((10 ≤ v) × (v < 16) × (c ≡ 55 + v)))

-- two hexadecimal digits, the higher first
abbrev pub SpellsByte : ℕ → ℕ → ℕ → Type 0
SpellsByte high low byte = (h : ℕ) × (l : ℕ) × IsHexDigit high h × IsHexDigit low l × (byte ≡ 16 * h + l)

-- two hexadecimal digits for each byte
abbrev pub SpellsHex : List ℕ → List ℕ → Type 0
SpellsHex word [] = word ≡ []
SpellsHex word (byte ∷ bytes) =
    (high : ℕ) × (low : ℕ) × (rest : List ℕ) × (word ≡ high ∷ low ∷ rest) × SpellsByte high low byte
    × SpellsHex rest bytes

-- `hex:` and two digits for each byte
abbrev pub IsHexWord : List ℕ → List ℕ → Type 0
IsHexWord word bytes = (digits : List ℕ) × (word ≡ codes "hex:" ++ digits) × SpellsHex digits bytes

-- `text:` and the bytes themselves, at least one
abbrev pub IsTextWord : List ℕ → List ℕ → Type 0
IsTextWord word bytes = (word ≡ codes "text:" ++ bytes) × (1 ≤ length bytes)

-- `fill:`, a byte, `:` and how many there are of it
abbrev pub IsFillWord : List ℕ → List ℕ → Type 0
IsFillWord word bytes =
    (high : ℕ) × (low : ℕ) × (count : List ℕ) × (byte : ℕ) × (n : ℕ)
    × (word ≡ codes "fill:" ++ high ∷ low ∷ 58 ∷ count) × SpellsByte high low byte × SpellsNumber count n
    × (bytes ≡ replicate n byte)

-- bytes, in one of these three ways
abbrev pub SpellsBytes : List ℕ → List ℕ → Type 0
SpellsBytes word bytes = IsHexWord word bytes ⊎ (IsTextWord word bytes ⊎ IsFillWord word bytes)

-- a flag is one of two words
abbrev pub SpellsFlag : List ℕ → Bool → Type 0
SpellsFlag word true = word ≡ codes "true"
SpellsFlag word false = word ≡ codes "false"

-- a word of this form that stands for this value
abbrev pub SpellsValue : (form : Form) → List ℕ → Value form → Type 0
SpellsValue a_path word path = SpellsPath word path
SpellsValue a_key word key = SpellsText word key
SpellsValue a_flag word on = SpellsFlag word on
SpellsValue a_number word n = SpellsNumber word n
SpellsValue some_bytes word bytes = SpellsBytes word bytes

-- a word for each of the forms, each for its value
abbrev pub SpellValues : (forms : List Form) → List (List ℕ) → Values forms → Type 0
SpellValues [] [] values = Unit {0}
SpellValues (form ∷ forms) (word ∷ words) values = SpellsValue form word values.0 × SpellValues forms words values.1
SpellValues _ _ values = ⊥

-- a verb, and the words behind it for these values
pub record SpellsVerb (words : List (List ℕ)) (verb : Verb) (values : Values (forms_of verb)) : Type 0 where
  pub rest : List (List ℕ)
  pub are : words ≡ verb_text verb ∷ rest
  pub spelled : SpellValues (forms_of verb) rest values

-- the words of a call behind its session
abbrev pub SpellsCall : List (List ℕ) → Call → Type 0
SpellsCall words (Mkdir path) = SpellsVerb words verbs.Mkdir (path, tt)
SpellsCall words (Create path) = SpellsVerb words verbs.Create (path, tt)
SpellsCall words (Write path offset bytes) = SpellsVerb words verbs.Write (path, (offset, (bytes, tt)))
SpellsCall words (Truncate path length) = SpellsVerb words verbs.Truncate (path, (length, tt))
SpellsCall words (Read path offset count) = SpellsVerb words verbs.Read (path, (offset, (count, tt)))
SpellsCall words (Listing path) = SpellsVerb words verbs.List (path, tt)
SpellsCall words (Stat path) = SpellsVerb words verbs.Stat (path, tt)
SpellsCall words (Rename from to) = SpellsVerb words verbs.Rename (from, (to, tt))
SpellsCall words (Remove path) = SpellsVerb words verbs.Remove (path, tt)
SpellsCall words (Setx path key bytes) = SpellsVerb words verbs.Setx (path, (key, (bytes, tt)))
SpellsCall words (Getx path key) = SpellsVerb words verbs.Getx (path, (key, tt))
SpellsCall words (Dropx path key) = SpellsVerb words verbs.Dropx (path, (key, tt))
SpellsCall words (Readonly path on) = SpellsVerb words verbs.Readonly (path, (on, tt))
SpellsCall words LockVolume = SpellsVerb words verbs.Lock tt
SpellsCall words UnlockVolume = SpellsVerb words verbs.Unlock tt
SpellsCall words PermLock = SpellsVerb words verbs.Permlock tt
SpellsCall words Sync = SpellsVerb words verbs.Sync tt

-- a session and its call, with exactly one space between two words
pub record IsCallLine (line : List ℕ) (spelled : ScriptLine) : Type 0 where
  pub word : List ℕ
  pub words : List (List ℕ)
  pub joined : IsJoined 32 (word ∷ words) line
  pub session : SpellsSession word spelled.who
  pub call : SpellsCall words spelled.call

-- an empty line or a comment
abbrev pub IsSkippedLine : List ℕ → Type 0
IsSkippedLine [] = Unit {0}
IsSkippedLine (c ∷ line) = c ≡ 35

-- each line is UTF-8, and is skipped or spells the next call
abbrev pub SpellLines : List (List ℕ) → List ScriptLine → Type 0
SpellLines [] [] = Unit {0}
SpellLines [] (spelled ∷ script) = ⊥
SpellLines (line ∷ lines) [] = IsUtf8 line × IsSkippedLine line × SpellLines lines []
SpellLines (line ∷ lines) (spelled ∷ script) =
    IsUtf8 line
    × ((IsSkippedLine line × SpellLines lines (spelled ∷ script)) ⊎ (IsCallLine line spelled × SpellLines lines script))

-- 1,024 calls a session, 65,536 bytes a write or a value of a key and 1,048,576 a read, and 67,108,864 bytes in all for
-- either
pub record IsWithinLimits (script : List ScriptLine) : Type 0 where
  pub calls : (who : ℕ) → length (calls_of script who) ≤ most_calls
  pub written : AllByRecursion (λ l. bytes_written l.call ≤ most_written) script
  pub asked : AllByRecursion (λ l. bytes_asked l.call ≤ most_asked) script
  pub written_in_all : sum_by (λ l. bytes_written l.call) script ≤ most_in_all
  pub asked_in_all : sum_by (λ l. bytes_asked l.call) script ≤ most_in_all

-- a text of one line or more, with a line feed between each two, that spell the script within the limits
pub record IsScriptText (text : List ℕ) (script : List ScriptLine) : Type 0 where
  pub lines : List (List ℕ)
  pub some : 1 ≤ length lines
  pub joined : IsJoined 10 lines text
  pub short : length text ≤ longest_script
  pub spelled : SpellLines lines script
  pub limited : IsWithinLimits script

-- what is read is spelled so, and what is spelled so is read
pub record ReadsGrammar : Type 0 where
  pub found : (text : List ℕ) (script : List ScriptLine) → script_of text ≡ Ok script → IsScriptText text script
  pub only : (text : List ℕ) (script : List ScriptLine) → IsScriptText text script → script_of text ≡ Ok script
