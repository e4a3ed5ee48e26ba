-- The values that are written are read again.
use Rattle.std.proofs.Common.{◌≡◌, ℕ, zero, suc, ◌+◌, ◌-◌, ◌*◌, ◌/◌, ◌%◌, ◌^◌, ◌<◌, ◌≤◌, Bool, true, false, nat_le, List, [], ◌∷◌, ◌++◌, length, drop, Option, Some, Ok, refl, sym, ap, ◌∙◌, add-zero, arith, length-append, length-drop, inl}
use Rattle.std.specs.Fmt.{decimal}
use Rattle.std.specs.Int.{w128, byte_at, to_be_bytes, bytes_high_first}
use Rattle.std.specs.List.{slice_index_or}
use Rattle.std.proofs.lemmas.Fmt.{decimal_by_steps, length-decimal-le}
use Rattle.std.proofs.lemmas.Bool.Decides.{nat_tests}
use Rattle.std.proofs.lemmas.Bool.{and_parts}
use Rattle.tape_types.specs.declared.moments.Moment.{Moment}
use Rattle.tape_types.specs.declared.times.Civil.{Civil}
use Rattle.tape_types.specs.Times.{IsCivil, civil_in, civil_of, civil_text, is_civil, time_text}
use Rattle.tape_types.specs.Uuids.{uuid_in, uuid_text}
use Rattle.tape_types.proofs.CivilLemmas.{has_civil, civil_of_only, civil-places, time_text_civil}
use Rattle.tape_types.proofs.ShownLemmas.{civil_in-shown}
use Rattle.tape_types.proofs.UuidLemmas.{length-uuid, uuid_in-written}
use Rattle.uuid.specs.Text.{lower}
use Rattle.uuid.proofs.RoundTrips.{parses_hyphenated}
use Rattle.ltfs_documents.specs.declared.doc_fields.values.LockState.{LockState}
use Rattle.ltfs_documents.specs.declared.doc_fields.values.LockState.TheVariants.{Unlocked, Locked, PermLocked}
use Rattle.ltfs_documents.specs.DocFields.Numbers.{is_digit, digits, number_at}
use Rattle.ltfs_documents.specs.DocFields.Reading.{between}
use Rattle.ltfs_documents.specs.DocFields.Values.{bool_at, letter_at, lock_at, lock_word, shown, time_at, uuid_at}
use Rattle.ltfs_documents.specs.DocFields.Written.{bool_text}
use Rattle.ltfs_documents.proofs.DocFields.NumberLemmas.{of_good}
use Rattle.ltfs_documents.proofs.DocFields.Again.{all_pass, between_again, byte_is}

-- ---- numbers

-- the value of digits, behind others of value n
abbrev worth : ℕ → List ℕ → ℕ
worth n [] = n
worth n (d ∷ ds) = worth (n * 10 + (d - 48)) ds

digits_again : (ds : List ℕ) (c : ℕ) (rest : List ℕ) (n at : ℕ) → all_pass is_digit ds ≡ true → is_digit c ≡ false → digits n at (ds ++ c ∷ rest) ≡ (worth n ds, at + length ds)
digits_again [] c rest n at good stop = rw (stop, add-zero at) refl
digits_again (d ∷ ds) c rest n at good stop =
    let x = and_parts (is_digit d) (all_pass is_digit ds) good in
    let there : at + 1 + length ds ≡ at + suc (length ds) = omega arith in
    rw x.0 (digits_again ds c rest (n * 10 + (d - 48)) (at + 1) x.1 stop ∙ rw there refl)

worth_more : (ds : List ℕ) (n d : ℕ) → worth n (ds ++ d ∷ []) ≡ worth n ds * 10 + (d - 48)
worth_more [] n d = refl
worth_more (x ∷ ds) n d = worth_more ds (n * 10 + (x - 48)) d

digits_more_pass : (ds : List ℕ) (d : ℕ) → all_pass is_digit ds ≡ true → is_digit d ≡ true → all_pass is_digit (ds ++ d ∷ []) ≡ true
digits_more_pass [] d a b = rw b refl
digits_more_pass (x ∷ ds) d a b = let y = and_parts (is_digit x) (all_pass is_digit ds) a in rw y.0 (digits_more_pass ds d y.1 b)

pub record IsWritten (n : ℕ) (ds : List ℕ) : Type 0 where
  pub good : all_pass is_digit ds ≡ true
  pub value : worth 0 ds ≡ n
  pub some : 0 < length ds

digit_is : (d : ℕ) → d < 10 → is_digit (48 + d) ≡ true
digit_is d lt = grind (arith, nat_tests)

-- a number below 2^64 in decimal is as numbers are written
pub decimal_written : (n : ℕ) → n < 2 ^ 64 → IsWritten n (decimal n)
decimal_written n lt = decimal_by_steps IsWritten
    (λ n small. record { good = rw (digit_is n small) refl; value = omega arith; some = omega arith })
    (λ n ds large h. record {
      good = digits_more_pass ds (48 + n % 10) h.good (digit_is (n % 10) (omega arith));
      value = worth_more ds 0 (48 + n % 10) ∙ (let v = h.value in omega arith);
      some = omega (arith, length-append ds ((48 + n % 10) ∷ []));
    }) n lt

-- a number in decimal is read again, up to a byte that is no digit
pub number_again : (text : List ℕ) (at n c : ℕ) (rest : List ℕ) → n < 2 ^ 64 → is_digit c ≡ false → drop at text ≡ decimal n ++ c ∷ rest → number_at text at ≡ Ok (n, at + length (decimal n))
unfolding number_at
number_again text at n c rest lt stop e =
    let w = decimal_written n lt in
    let le : length (decimal n) ≤ 20 = length-decimal-le 20 n (omega arith) (omega arith) lt in
    let read : digits 0 at (drop at text) ≡ (n, at + length (decimal n)) = ap (digits 0 at) e ∙ digits_again (decimal n) c rest 0 at w.good stop ∙ ap (λ (x : ℕ). (x, at + length (decimal n))) w.value in
    rw read (of_good at n (at + length (decimal n)) (omega (arith, w.some)) (omega arith) lt)

-- ---- words and letters

-- a truth value that is written is read again
pub bool_again : (text : List ℕ) (at : ℕ) (is : Bool) (rest : List ℕ) → drop at text ≡ bool_text is ++ rest → bool_at text at ≡ Ok (is, at + length (bool_text is))
unfolding bool_at
bool_again text at true rest e = rw e refl
bool_again text at false rest e = rw e refl

-- the state of a lock that is written is read again
pub lock_again : (text : List ℕ) (at : ℕ) (state : LockState) (rest : List ℕ) → drop at text ≡ lock_word state ++ rest → lock_at text at ≡ Ok (state, at + length (lock_word state))
unfolding lock_at
lock_again text at Unlocked rest e = rw e refl
lock_again text at Locked rest e = rw e refl
lock_again text at PermLocked rest e = rw e refl

-- a small letter is read again
pub letter_again : (text : List ℕ) (at b : ℕ) (rest : List ℕ) → 97 ≤ b → b ≤ 122 → drop at text ≡ b ∷ rest → letter_at text at ≡ Ok (b, at + 1)
unfolding letter_at
letter_again text at b rest low high e =
    let is = byte_is text at b rest e in
    let first : nat_le 97 b ≡ true = grind (arith, nat_tests) in
    let last : nat_le b 122 ≡ true = grind (arith, nat_tests) in
    rw (is, first, last) refl

-- ---- times and identifiers

shown_again : {A : Type 0} (size : ℕ) (read : List ℕ → Option A) (text : List ℕ) (at : ℕ) (s rest : List ℕ) → length s ≡ size → drop at text ≡ s ++ rest → at ≤ length text → shown size read text at ≡ read s
shown_again size read text at s rest long e le =
    let total : length text - at ≡ length s + length rest = sym (length-drop at text) ∙ ap length e ∙ length-append s rest in
    let fits : nat_le (at + size) (length text) ≡ true = grind (arith, nat_tests) in
    let word : between text (at + size) (at + size) ≡ between text (at + size) (at + size) = refl in
    rw fits (ap read (ap (λ (n : ℕ). between text at (at + n)) (sym long) ∙ between_again text at s rest e))

at_within : (text : List ℕ) (at b : ℕ) (rest : List ℕ) → drop at text ≡ b ∷ rest → at ≤ length text
at_within text at b rest e =
    let h : length (drop at text) ≡ suc (length rest) = rw e refl in
    let g = length-drop at text in
    omega arith

some_first : (text : List ℕ) (at : ℕ) (s rest : List ℕ) → 0 < length s → drop at text ≡ s ++ rest → at ≤ length text
some_first text at [] rest some e = absurd (omega arith)
some_first text at (b ∷ s) rest some e = at_within text at b (s ++ rest) e

civil_is : (m : Moment) (c : Civil) → IsCivil m c → is_civil c ≡ true
civil_is m c h =
    let date = h.date in
    let month = date.1.0 in
    let day = date.1.1 in
    let hour = h.hour in
    let minute = h.minute in
    let second = h.second in
    grind (arith, nat_tests)

civil_again : (m : Moment) → civil_in (time_text m) ≡ Some (civil_of m)
civil_again m =
    let h = has_civil m in
    civil_in-shown (time_text m) h.0 true (time_text_civil m h.0 h.1) (civil-places m h.0 h.1) (civil_is m h.0 h.1) ∙ ap Some (sym (civil_of_only m h.0 h.1))

-- the text of a moment has 30 bytes
pub length_time : (m : Moment) → length (time_text m) ≡ 30
unfolding time_text civil_text
length_time m = refl

-- the text of a moment is read again as its date and time of day
pub time_again : (text : List ℕ) (at : ℕ) (m : Moment) (rest : List ℕ) → drop at text ≡ time_text m ++ rest → time_at text at ≡ Ok (civil_of m, at + 30)
unfolding time_at
time_again text at m rest e =
    let long = length_time m in
    let is : shown 30 civil_in text at ≡ Some (civil_of m) = shown_again 30 civil_in text at (time_text m) rest long e (some_first text at (time_text m) rest (omega (arith, long)) e) ∙ civil_again m in
    rw is refl

mod_small : (n : ℕ) → n % 256 < 256
mod_small n = omega arith

byte_small : (k n : ℕ) → byte_at k n < 256
byte_small zero n = mod_small n
byte_small (suc k) n = mod_small (n / 256 ^ suc k)

small_byte : (k n i d : ℕ) → i < length (bytes_high_first k n) → slice_index_or (bytes_high_first k n) i d < 256
small_byte zero n i d lt = absurd (omega arith)
small_byte (suc k) n zero d lt = byte_small k n
small_byte (suc k) n (suc i) d lt = small_byte k n i d (omega arith)

uuid_is : (uuid : ℕ) → uuid < 2 ^ 128 → uuid_in (uuid_text uuid) ≡ Some uuid
uuid_is uuid fits = uuid_in-written (uuid_text uuid) uuid (length-uuid uuid) fits (parses_hyphenated lower (to_be_bytes w128 uuid) (inl refl) refl (λ i d lt. small_byte 16 uuid i d lt))

-- the text of a UUID is read again
pub uuid_again : (text : List ℕ) (at uuid : ℕ) (rest : List ℕ) → uuid < 2 ^ 128 → drop at text ≡ uuid_text uuid ++ rest → uuid_at text at ≡ Ok (uuid, at + 36)
unfolding uuid_at
uuid_again text at uuid rest fits e =
    let long = length-uuid uuid in
    let is : shown 36 uuid_in text at ≡ Some uuid = shown_again 36 uuid_in text at (uuid_text uuid) rest long e (some_first text at (uuid_text uuid) rest (omega (arith, long)) e) ∙ uuid_is uuid fits in
    rw is refl
