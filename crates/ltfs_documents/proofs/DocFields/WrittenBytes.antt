-- What is written is UTF-8, and no value but a text begins with white space.
use Rattle.std.proofs.Common.{◌≡◌, ℕ, zero, suc, ◌+◌, ◌/◌, ◌%◌, ◌^◌, ◌<◌, Bool, true, false, nat_lt, List, [], ◌∷◌, ◌++◌, length, get_or, drop, codes, IsUtf8, refl, arith, inl}
use Rattle.std.specs.Fmt.{decimal}
use Rattle.std.specs.Int.{w128, to_be_bytes}
use Rattle.std.proofs.lemmas.Bool.Decides.{nat_tests}
use Rattle.std.proofs.lemmas.Str.{IsUtf8-append, IsUtf8-from_ascii, IsUtf8-nil}
use Rattle.std.proofs.lemmas.Bool.{and_parts}
use Rattle.tape_types.specs.declared.moments.Moment.{Moment}
use Rattle.tape_types.specs.declared.times.Civil.{Civil}
use Rattle.tape_types.specs.Times.{civil_of, civil_text, digits, time_text}
use Rattle.tape_types.specs.Uuids.{uuid_text}
use Rattle.uuid.specs.Text.{by_index, lower, hex_digit, nibble}
use Rattle.uuid.proofs.TextLemmas.{hyphenated_ascii}
use Rattle.ltfs_documents.specs.DocFields.Numbers.{is_digit}
use Rattle.ltfs_documents.specs.DocFields.Space.{is_space, space_end}
use Rattle.ltfs_documents.proofs.DocFields.Again.{all_pass, space_again}
use Rattle.ltfs_documents.proofs.DocFields.ValuesAgain.{decimal_written}

-- a byte below 128
abbrev pub is_ascii : ℕ → Bool
is_ascii b = nat_lt b 128

-- one ASCII byte is UTF-8
pub one_valid : (b : ℕ) → b < 128 → IsUtf8 (b ∷ [])
one_valid b lt = IsUtf8-from_ascii (b ∷ []) (λ i. one i)
  where
    one : (i : ℕ) → get_or (b ∷ []) i 0 < 128
    one zero = lt
    one (suc i) = omega arith

-- bytes that are all ASCII are UTF-8
pub ascii_valid : (s : List ℕ) → all_pass is_ascii s ≡ true → IsUtf8 s
ascii_valid [] e = IsUtf8-nil
ascii_valid (b ∷ s) e =
    let x = and_parts (is_ascii b) (all_pass is_ascii s) e in
    let low : b < 128 = grind (arith, nat_tests) in
    IsUtf8-append (b ∷ []) s (one_valid b low) (ascii_valid s x.1)

digits_ascii : (s : List ℕ) → all_pass is_digit s ≡ true → all_pass is_ascii s ≡ true
digits_ascii [] e = refl
digits_ascii (b ∷ s) e =
    let x = and_parts (is_digit b) (all_pass is_digit s) e in
    let low : is_ascii b ≡ true = grind (arith, nat_tests) in
    rw low (digits_ascii s x.1)

-- a number in decimal is UTF-8
pub decimal_valid : (n : ℕ) → n < 2 ^ 64 → IsUtf8 (decimal n)
decimal_valid n lt = ascii_valid (decimal n) (digits_ascii (decimal n) (decimal_written n lt).good)

places_valid : (width n : ℕ) → IsUtf8 (digits width n)
places_valid zero n = IsUtf8-nil
places_valid (suc width) n = IsUtf8-append (digits width (n / 10)) ((48 + n % 10) ∷ []) (places_valid width (n / 10)) (one_valid (48 + n % 10) (omega arith))

-- the text of a date and time of day is UTF-8
pub civil_valid : (c : Civil) → IsUtf8 (civil_text c)
unfolding civil_text
civil_valid c =
    add _ (codes "Z") (add _ (digits 9 c.nanos) (add _ (codes ".") (add _ (digits 2 c.second) (add _ (codes ":") (add _ (digits 2 c.minute) (add _ (codes ":") (add _ (digits 2 c.hour) (add _ (codes "T")
    (add _ (digits 2 c.day) (add _ (codes "-") (add _ (digits 2 c.month) (add _ (codes "-") (places_valid 4 c.year) (mark 45 (omega arith))) (places_valid 2 c.month)) (mark 45 (omega arith))) (places_valid 2 c.day)) (mark 84 (omega arith))) (places_valid 2 c.hour)) (mark 58 (omega arith))) (places_valid 2 c.minute)) (mark 58 (omega arith))) (places_valid 2 c.second)) (mark 46 (omega arith))) (places_valid 9 c.nanos)) (mark 90 (omega arith))
  where
    add : (a b : List ℕ) → IsUtf8 a → IsUtf8 b → IsUtf8 (a ++ b)
    add a b = IsUtf8-append a b

    mark : (b : ℕ) → b < 128 → IsUtf8 (b ∷ [])
    mark b lt = one_valid b lt

-- the text of a UUID is UTF-8
pub uuid_valid : (uuid : ℕ) → IsUtf8 (uuid_text uuid)
uuid_valid uuid = IsUtf8-from_ascii (uuid_text uuid) (hyphenated_ascii lower (to_be_bytes w128 uuid) (inl refl))

-- ---- first bytes

-- white space is not passed where something that begins with none stands
pub space_first : (text : List ℕ) (at : ℕ) (s rest : List ℕ) → 0 < length s → is_space (get_or s 0 0) ≡ false → drop at text ≡ s ++ rest → space_end text at ≡ at
space_first text at [] rest some stop e = absurd (omega arith)
space_first text at (b ∷ s) rest some stop e = space_again text at b (s ++ rest) e stop

digit_stops : (d : ℕ) → is_digit d ≡ true → is_space d ≡ false
digit_stops d h = grind (arith, nat_tests)

first_digit : (s : List ℕ) → 0 < length s → all_pass is_digit s ≡ true → is_space (get_or s 0 0) ≡ false
first_digit [] some e = absurd (omega arith)
first_digit (b ∷ s) some e = digit_stops b (and_parts (is_digit b) (all_pass is_digit s) e).0

-- a number in decimal does not begin with white space
pub decimal_first : (n : ℕ) → n < 2 ^ 64 → is_space (get_or (decimal n) 0 0) ≡ false
decimal_first n lt = let w = decimal_written n lt in first_digit (decimal n) w.some w.good

place_stops : (n : ℕ) → is_space (48 + n % 10) ≡ false
place_stops n = let lt : n % 10 < 10 = omega arith in grind (arith, nat_tests)

-- the text of a moment does not begin with white space
pub time_first : (m : Moment) → is_space (get_or (time_text m) 0 0) ≡ false
unfolding time_text civil_text
time_first m = place_stops ((civil_of m).year / 10 / 10 / 10)

hex_stops : (d : ℕ) → is_space (hex_digit lower d) ≡ false
hex_stops d = grind (arith, nat_tests)

-- the text of a UUID does not begin with white space
pub uuid_first : (uuid : ℕ) → is_space (get_or (uuid_text uuid) 0 0) ≡ false
unfolding by_index
uuid_first uuid = hex_stops (nibble (to_be_bytes w128 uuid) 0)
