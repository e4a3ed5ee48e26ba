-- The other forms of a leaf's value: words of a fixed list, letters, times and identifiers.
use Rattle.std.specs.Prelude.{◌≡◌, ℕ, ◌+◌, List, [], ◌∷◌, Bool, true, false, length, drop, codes, Option, Some, None}
use Rattle.std.specs.Prelude.{Result, Ok, Err, nat_lt, nat_le, ◌==◌, ◌&&◌, ◌||◌, if◌then◌else◌}
use Rattle.tape_types.specs.declared.times.Civil.{Civil}
use Rattle.tape_types.specs.declared.moments.Moment.{Moment}
use Rattle.tape_types.specs.Times.{civil_in, civil_of}
use Rattle.tape_types.specs.Uuids.{uuid_in}
use Rattle.ltfs_documents.specs.declared.doc_fields.values.LockState.{LockState}
use Rattle.ltfs_documents.specs.declared.doc_fields.values.LockState.TheVariants.{Unlocked, Locked, PermLocked}
use Rattle.ltfs_documents.specs.declared.doc_fields.errors.FieldErr.{FieldErr}
use Rattle.ltfs_documents.specs.declared.doc_fields.errors.Why.TheVariants.{Syntax}
use Rattle.ltfs_documents.specs.DocFields.Numbers.{is_digit}
use Rattle.ltfs_documents.specs.DocFields.Reading.{Read, byte, between, syntax_at, begins}

-- a value that doesn't stand there: the text ends within it, or its first byte is wrong
abbrev pub value_fault : Bool → List ℕ → ℕ → FieldErr
value_fault cut text at = record { at = if cut then length text else at; why = Syntax }

-- whether one of these words begins with what is left
abbrev pub is_cut_word : {A : Type 0} → List (List ℕ × A) → List ℕ → Bool
is_cut_word [] rest = false
is_cut_word (w ∷ words) rest = begins rest w.0 || is_cut_word words rest

-- the first of these words that stands at the front of what is left, with what it means and its length
abbrev pub first_word : {A : Type 0} → List (List ℕ × A) → List ℕ → Option (A × ℕ)
first_word [] rest = None
first_word (w ∷ words) rest = if begins w.0 rest then Some (w.1, length w.0) else first_word words rest

abbrev pub word_or_fault : {A : Type 0} → List (List ℕ × A) → List ℕ → ℕ → Option (A × ℕ) → Read (A × ℕ)
word_or_fault words text at (Some w) = Ok (w.0, at + w.1)
word_or_fault words text at None = Err (value_fault (is_cut_word words (drop at text)) text at)

-- one of these words, which must stand there
abbrev pub word_at : {A : Type 0} → List (List ℕ × A) → List ℕ → ℕ → Read (A × ℕ)
word_at words text at = word_or_fault words text at (first_word words (drop at text))

unfoldable pub bool_at : List ℕ → ℕ → Read (Bool × ℕ)
bool_at text at =
    word_at ((codes "true", true) ∷ (codes "false", false) ∷ (codes "1", true) ∷ (codes "0", false) ∷ []) text at

abbrev pub lock_word : LockState → List ℕ
lock_word Unlocked = codes "unlocked"
lock_word Locked = codes "locked"
lock_word PermLocked = codes "permlocked"

unfoldable pub lock_at : List ℕ → ℕ → Read (LockState × ℕ)
lock_at text at =
    let words = (lock_word Unlocked, Unlocked) ∷ (lock_word Locked, Locked) ∷ (lock_word PermLocked, PermLocked) ∷ [] in
    word_at words text at

-- a partition's letter
unfoldable pub letter_at : List ℕ → ℕ → Read (ℕ × ℕ)
letter_at text at =
    if nat_le 97 (byte text at) && nat_le (byte text at) 122 then Ok (byte text at, at + 1) else syntax_at at

abbrev pub is_hex_digit : ℕ → Bool
is_hex_digit b = is_digit b || (nat_le 97 b && nat_le b 102 || nat_le 65 b && nat_le b 70)

-- a byte fits a place of a shape: `0` is a place for a decimal digit, `h` one for a hexadecimal digit, all others are
-- themselves
abbrev pub fits_place : ℕ → ℕ → Bool
fits_place place b = if place == 48 then is_digit b else (if place == 104 then is_hex_digit b else b == place)

abbrev pub fits : List ℕ → List ℕ → Bool
fits shape [] = true
fits [] (b ∷ bytes) = false
fits (place ∷ shape) (b ∷ bytes) = fits_place place b && fits shape bytes

-- the text ends within a value of this shape
abbrev pub is_cut_shape : List ℕ → List ℕ → Bool
is_cut_shape shape rest = nat_lt (length rest) (length shape) && fits shape rest

-- what a value of so many bytes shows that stands at a place
abbrev pub shown : {A : Type 0} → ℕ → (List ℕ → Option A) → List ℕ → ℕ → Option A
shown size read text at = if nat_le (at + size) (length text) then read (between text at (at + size)) else None

abbrev pub time_shape : List ℕ
time_shape = codes "0000-00-00T00:00:00.000000000Z"

abbrev pub time_or_fault : List ℕ → ℕ → Option Civil → Read (Civil × ℕ)
time_or_fault text at (Some c) = Ok (c, at + 30)
time_or_fault text at None = Err (value_fault (is_cut_shape time_shape (drop at text)) text at)

-- the date and the time of day that the 30 bytes at a place show
unfoldable pub time_at : List ℕ → ℕ → Read (Civil × ℕ)
time_at text at = time_or_fault text at (shown 30 civil_in text at)

-- a moment's date and time of day are what was read
abbrev pub IsTimeRead : Result (Moment × ℕ) FieldErr → Read (Civil × ℕ) → Type 0
IsTimeRead (Ok m) read = read ≡ Ok (civil_of m.0, m.1)
IsTimeRead (Err e) read = read ≡ Err e

abbrev pub uuid_shape : List ℕ
uuid_shape = codes "hhhhhhhh-hhhh-hhhh-hhhh-hhhhhhhhhhhh"

abbrev pub uuid_or_fault : List ℕ → ℕ → Option ℕ → Read (ℕ × ℕ)
uuid_or_fault text at (Some uuid) = Ok (uuid, at + 36)
uuid_or_fault text at None = Err (value_fault (is_cut_shape uuid_shape (drop at text)) text at)

-- the number of the UUID whose 36 characters stand at a place
unfoldable pub uuid_at : List ℕ → ℕ → Read (ℕ × ℕ)
uuid_at text at = uuid_or_fault text at (shown 36 uuid_in text at)
