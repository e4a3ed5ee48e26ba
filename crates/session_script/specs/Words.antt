-- The words of a script's line, and what each form of word spells.
use Rattle.std.specs.Prelude.{ℕ, ◌+◌, ◌-◌, ◌*◌, ◌^◌, List, [], ◌∷◌, Bool, true, false, ◌&&◌, not, nat_le, nat_lt, nat_eq, ◌==◌}
use Rattle.std.specs.Prelude.{if◌then◌else◌, fold, length, drop, replicate, Option, Some, None, option_and_then, codes}
use Rattle.std.specs.List.{list_all, slice_split, starts_with}
use Rattle.std.specs.Option.{option_map}
use Rattle.std.specs.Str.{bytes_eq, is_utf8}
use Rattle.std.specs.Char.{digit_value, is_digit}
use Rattle.percent_encoding.specs.Percent.{percent_decode}
use Rattle.plain_tree.specs.Paths.{Name, Path}
use Rattle.session_script.specs.Bounds.{most_sessions}
use Rattle.session_script.specs.Forms.{Form, Value, a_path, a_key, a_flag, a_number, some_bytes}
use Rattle.session_script.specs.declared.words.Verb.{Verb}
use Rattle.session_script.specs.declared.words.Verb.TheVariants as verbs

-- the words between single spaces
abbrev pub words_of : List ℕ → List (List ℕ)
words_of line = slice_split (λ b. b == 32) line

abbrev pub is_empty : List ℕ → Bool
is_empty word = length word == 0

-- the number that decimal digits spell
abbrev pub decimal_value : List ℕ → ℕ
decimal_value digits = fold (λ n d. n * 10 + (d - 48)) 0 digits

-- a number is 1 to 20 decimal digits, below 2^64
abbrev pub number_of : List ℕ → Option ℕ
number_of word =
    if nat_le 1 (length word) && nat_le (length word) 20 && list_all (λ d. is_digit d 10) word
    && nat_lt (decimal_value word) (2 ^ 64)
    then Some (decimal_value word) else None

-- a session is a number from 1 to 16 with no zero in front
abbrev pub session_of : List ℕ → Option ℕ
session_of word =
    option_and_then
    (λ who. if nat_le 1 who && nat_le who most_sessions && not (starts_with nat_eq word (codes "0"))
    then Some who else None)
    (number_of word)

abbrev pub verb_of : List ℕ → Option Verb
verb_of word =
    if bytes_eq word (codes "mkdir") then Some verbs.Mkdir
    else if bytes_eq word (codes "create") then Some verbs.Create
    else if bytes_eq word (codes "write") then Some verbs.Write
    else if bytes_eq word (codes "truncate") then Some verbs.Truncate
    else if bytes_eq word (codes "read") then Some verbs.Read
    else if bytes_eq word (codes "list") then Some verbs.List
    else if bytes_eq word (codes "stat") then Some verbs.Stat
    else if bytes_eq word (codes "rename") then Some verbs.Rename
    else if bytes_eq word (codes "remove") then Some verbs.Remove
    else if bytes_eq word (codes "setx") then Some verbs.Setx
    else if bytes_eq word (codes "getx") then Some verbs.Getx
    else if bytes_eq word (codes "dropx") then Some verbs.Dropx
    else if bytes_eq word (codes "readonly") then Some verbs.Readonly
    else if bytes_eq word (codes "lock") then Some verbs.Lock
    else if bytes_eq word (codes "unlock") then Some verbs.Unlock
    else if bytes_eq word (codes "permlock") then Some verbs.Permlock
    else if bytes_eq word (codes "sync") then Some verbs.Sync
    else None

-- the text of bytes that are UTF-8
abbrev pub text_of : List ℕ → Option (List ℕ)
text_of bytes = if is_utf8 bytes then Some bytes else None

-- the text of a word that isn't empty, and is UTF-8 once its escapes are decoded
abbrev pub unescaped : List ℕ → Option (List ℕ)
unescaped word = if is_empty word then None else text_of (percent_decode word)

-- a name is the text of a piece between slashes
abbrev pub name_of : List ℕ → Option Name
name_of piece = unescaped piece

-- the names of pieces that are all names
abbrev pub names_of : List (List ℕ) → Option Path
names_of [] = Some []
names_of (piece ∷ pieces) =
    option_and_then (λ name. option_map (λ names. name ∷ names) (names_of pieces)) (name_of piece)

-- a path is a slash, or a slash and a name one or more times
abbrev pub path_of : List ℕ → Option Path
path_of [] = None
path_of (c ∷ rest) =
    if c == 47 then (if is_empty rest then Some [] else names_of (slice_split (λ b. b == 47) rest)) else None

-- a key is the text of a whole word
abbrev pub key_of : List ℕ → Option (List ℕ)
key_of word = unescaped word

abbrev pub flag_of : List ℕ → Option Bool
flag_of word =
    if bytes_eq word (codes "true") then Some true
    else if bytes_eq word (codes "false") then Some false
    else None

-- the byte that two hexadecimal digits spell
abbrev pub hex_value : ℕ → ℕ → Option ℕ
hex_value high low =
    if is_digit high 16 && is_digit low 16 then Some (16 * digit_value high + digit_value low) else None

-- pairs of hexadecimal digits, possibly none
abbrev pub hex_bytes : List ℕ → Option (List ℕ)
hex_bytes [] = Some []
hex_bytes (high ∷ []) = None
hex_bytes (high ∷ low ∷ rest) =
    option_and_then (λ byte. option_map (λ bytes. byte ∷ bytes) (hex_bytes rest)) (hex_value high low)

-- one byte or more, taken as they are
abbrev pub text_bytes : List ℕ → Option (List ℕ)
text_bytes bytes = if is_empty bytes then None else Some bytes

-- two hexadecimal digits, a colon and a number: so many bytes of that value
abbrev pub fill_bytes : List ℕ → Option (List ℕ)
fill_bytes (high ∷ low ∷ colon ∷ count) =
    if colon == 58
    then option_and_then (λ byte. option_map (λ n. replicate n byte) (number_of count)) (hex_value high low)
    else None
fill_bytes _ = None

-- the bytes that are written to a file or given to a key
abbrev pub bytes_of : List ℕ → Option (List ℕ)
bytes_of word =
    if starts_with nat_eq word (codes "hex:") then hex_bytes (drop 4 word)
    else if starts_with nat_eq word (codes "text:") then text_bytes (drop 5 word)
    else if starts_with nat_eq word (codes "fill:") then fill_bytes (drop 5 word)
    else None

-- what a word spells that is to be of this form
abbrev pub value_of : (form : Form) → List ℕ → Option (Value form)
value_of a_path word = path_of word
value_of a_key word = key_of word
value_of a_flag word = flag_of word
value_of a_number word = number_of word
value_of some_bytes word = bytes_of word
