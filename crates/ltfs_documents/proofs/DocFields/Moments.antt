-- Each date and time of day that is read is that of a moment, and a text is readable as far as it is UTF-8.
use Rattle.std.proofs.Common.{◌≡◌, ◌≢◌, ◌⊎◌, ℕ, zero, suc, ◌+◌, ◌-◌, ◌*◌, ◌/◌, ◌%◌, ◌^◌, ◌<◌, ◌≤◌, Bool, true, false, cond, ◌&&◌, nat_le, nat_lt, List, [], ◌∷◌, ◌++◌, length, take, Option, Some, None, Ok, inl, inr, refl, sym, ap, subst, ◌∙◌, arith, pos, ◌+ℤ◌, ◌*ℤ◌, ◌≤ℤ◌, IsUtf8}
use Rattle.std.specs.Str.{bytes_eq, is_utf8}
use Rattle.std.specs.Str.Lossy.{utf8_valid_len, valid_len_up_to}
use Rattle.std.proofs.Math.Nat.{pow-suc}
use Rattle.std.proofs.lemmas.Bool.Decides.{nat_tests}
use Rattle.std.proofs.lemmas.List.{length-take, take_all}
use Rattle.std.proofs.lemmas.Slice.Eq.{bytes_eq-Decides}
use Rattle.std.proofs.lemmas.Str.{IsUtf8-from_is_utf8, IsUtf8-nil, is_utf8-from_IsUtf8}
use Rattle.std.proofs.lemmas.Bool.{and_parts}
use Rattle.jiff_core.specs.Calendar.{days_from_civil, days_in_month, IsCivilDate}
use Rattle.jiff_core.proofs.SignedLemmas.{signed_arith}
use Rattle.jiff_core.proofs.DateLemmas.{days_from_civil-max}
use Rattle.tape_types.specs.declared.moments.Moment.{Moment}
use Rattle.tape_types.specs.declared.times.Civil.{Civil}
use Rattle.tape_types.specs.Moments.{first_second, last_second}
use Rattle.tape_types.specs.Times.{civil_in, civil_of, civil_text, digits, is_civil, number_from, numbers_in}
use Rattle.tape_types.proofs.CivilLemmas.{civil_of_only}
use Rattle.tape_types.proofs.DayLemmas.{day_not_early, day_not_late, first_day}
use Rattle.tape_types.proofs.TextLemmas.{parts_of}
use Rattle.ltfs_documents.specs.DocFields.Reading.{between}
use Rattle.ltfs_documents.specs.DocFields.Values.{shown, time_at, time_or_fault}

-- a moment has this date and time of day
abbrev pub HasMoment : Civil → Type 0
HasMoment c = (m : Moment) × (civil_of m ≡ c)

from_snoc : (n : ℕ) (bytes : List ℕ) (b : ℕ) → number_from n (bytes ++ b ∷ []) ≡ number_from n bytes * 10 + (b - 48)
from_snoc n [] b = refl
from_snoc n (a ∷ bytes) b = from_snoc (n * 10 + (a - 48)) bytes b

digits_below : (width n : ℕ) → number_from 0 (digits width n) < 10 ^ width
digits_below zero n = omega arith
digits_below (suc width) n =
    let more = pow-suc 10 width in
    let front = digits_below width (n / 10) in
    let all = from_snoc 0 (digits width (n / 10)) (48 + n % 10) in
    omega (arith, more, front, all)

-- what is tested of a date and a time of day
record Tested (c : Civil) : Type 0 where
  month_low : 1 ≤ c.month
  month_high : c.month ≤ 12
  day_low : 1 ≤ c.day
  day_high : c.day ≤ days_in_month (pos c.year) c.month
  hour : c.hour < 24
  minute : c.minute < 60
  second : c.second < 60

le_is : (a b : ℕ) → nat_le a b ≡ true → a ≤ b
le_is a b h = grind (arith, nat_tests)

lt_is : (a b : ℕ) → nat_lt a b ≡ true → a < b
lt_is a b h = grind (arith, nat_tests)

tested : (c : Civil) → is_civil c ≡ true → Tested c
tested c e =
    let second = and_parts (nat_le 1 c.month && nat_le c.month 12 && nat_le 1 c.day && nat_le c.day (days_in_month (pos c.year) c.month) && nat_lt c.hour 24 && nat_lt c.minute 60) (nat_lt c.second 60) e in
    let minute = and_parts (nat_le 1 c.month && nat_le c.month 12 && nat_le 1 c.day && nat_le c.day (days_in_month (pos c.year) c.month) && nat_lt c.hour 24) (nat_lt c.minute 60) second.0 in
    let hour = and_parts (nat_le 1 c.month && nat_le c.month 12 && nat_le 1 c.day && nat_le c.day (days_in_month (pos c.year) c.month)) (nat_lt c.hour 24) minute.0 in
    let day_high = and_parts (nat_le 1 c.month && nat_le c.month 12 && nat_le 1 c.day) (nat_le c.day (days_in_month (pos c.year) c.month)) hour.0 in
    let day_low = and_parts (nat_le 1 c.month && nat_le c.month 12) (nat_le 1 c.day) day_high.0 in
    let month = and_parts (nat_le 1 c.month) (nat_le c.month 12) day_low.0 in
    record {
      month_low = le_is 1 c.month month.0;
      month_high = le_is c.month 12 month.1;
      day_low = le_is 1 c.day day_low.1;
      day_high = le_is c.day (days_in_month (pos c.year) c.month) day_high.1;
      hour = lt_is c.hour 24 hour.1;
      minute = lt_is c.minute 60 minute.1;
      second = lt_is c.second 60 second.1;
    }

moment_at : (c : Civil) → Tested c → c.year ≤ 9999 → c.nanos < 1000000000 → HasMoment c
moment_at c t year nanos =
    let date : IsCivilDate (pos c.year) c.month c.day = ((omega (arith, signed_arith), omega (arith, signed_arith)), (t.month_low, t.month_high), (t.day_low, t.day_high)) in
    let early = day_not_early c.year c.month c.day date in
    let late = day_not_late c.year c.month c.day date in
    let first = first_day in
    let last = days_from_civil-max in
    let hour = t.hour in
    let minute = t.minute in
    let second = t.second in
    let low : first_second ≤ℤ (days_from_civil (pos c.year) c.month c.day *ℤ pos 86400 +ℤ pos (c.hour * 3600 + c.minute * 60 + c.second)) = omega (arith, signed_arith, early, first) in
    let high : (days_from_civil (pos c.year) c.month c.day *ℤ pos 86400 +ℤ pos (c.hour * 3600 + c.minute * 60 + c.second)) ≤ℤ last_second = omega (arith, signed_arith, late, last) in
    by_secs low high
  where
    by_secs : first_second ≤ℤ (days_from_civil (pos c.year) c.month c.day *ℤ pos 86400 +ℤ pos (c.hour * 3600 + c.minute * 60 + c.second))
        → (days_from_civil (pos c.year) c.month c.day *ℤ pos 86400 +ℤ pos (c.hour * 3600 + c.minute * 60 + c.second)) ≤ℤ last_second → HasMoment c
    by_secs low high = (
      record {
        secs = days_from_civil (pos c.year) c.month c.day *ℤ pos 86400 +ℤ pos (c.hour * 3600 + c.minute * 60 + c.second);
        nanos = c.nanos;
        not_before = low;
        not_after = high;
        within_second = nanos;
      },
      civil_of_only (record {
        secs = days_from_civil (pos c.year) c.month c.day *ℤ pos 86400 +ℤ pos (c.hour * 3600 + c.minute * 60 + c.second);
        nanos = c.nanos;
        not_before = low;
        not_after = high;
        within_second = nanos;
      }) c (record {
        date = ((omega (arith, signed_arith, year), omega (arith, signed_arith, year)), (t.month_low, t.month_high), (t.day_low, t.day_high));
        hour = t.hour;
        minute = t.minute;
        second = t.second;
        secs = refl;
        nanos = refl;
      }),
    )

read_moment : (text : List ℕ) (c : Civil) → civil_in text ≡ Some c → HasMoment c
unfolding civil_in
read_moment text c e = by (bytes_eq text (civil_text (numbers_in text)) && is_civil (numbers_in text)) refl e
  where
    by : (b : Bool) → (bytes_eq text (civil_text (numbers_in text)) && is_civil (numbers_in text)) ≡ b → cond b (Some (numbers_in text)) None ≡ Some c → HasMoment c
    by false is h = absurd (let wrong : None ≡ Some c = h in cc)
    by true is h =
        let parts = and_parts (bytes_eq text (civil_text (numbers_in text))) (is_civil (numbers_in text)) is in
        let shown : text ≡ civil_text (numbers_in text) = (bytes_eq-Decides text (civil_text (numbers_in text))).0 parts.0 in
        let places = parts_of text (numbers_in text) shown in
        let year : (numbers_in text).year ≡ number_from 0 (digits 4 (numbers_in text).year) = ap (number_from 0) places.year in
        let nanos : (numbers_in text).nanos ≡ number_from 0 (digits 9 (numbers_in text).nanos) = ap (number_from 0) places.nanos in
        let year_low : (numbers_in text).year ≤ 9999 = omega (arith, year, digits_below 4 (numbers_in text).year) in
        let nanos_low : (numbers_in text).nanos < 1000000000 = omega (arith, nanos, digits_below 9 (numbers_in text).nanos) in
        let same : numbers_in text ≡ c = cc (h) in
        subst HasMoment same (moment_at (numbers_in text) (tested (numbers_in text) parts.1) year_low nanos_low)

shown_time : (text : List ℕ) (at : ℕ) (b : Bool) (c : Civil) → cond b (civil_in (between text at (at + 30))) None ≡ Some c → HasMoment c
shown_time text at true c e = read_moment (between text at (at + 30)) c e
shown_time text at false c e = absurd (let wrong : None ≡ Some c = e in cc)

-- a date and time of day that is read is that of a moment
pub time_read : (text : List ℕ) (at : ℕ) (x : Civil × ℕ) → time_at text at ≡ Ok x → HasMoment x.0
unfolding time_at
time_read text at x e = by (shown 30 civil_in text at) refl e
  where
    by : (o : Option Civil) → shown 30 civil_in text at ≡ o → time_or_fault text at o ≡ Ok x → HasMoment x.0
    by None is h = absurd cc
    by (Some c) is h =
        let same : (c, at + 30) ≡ x = cc (h) in
        subst (λ (y : Civil × ℕ). HasMoment y.0) same (shown_time text at (nat_le (at + 30) (length text)) c is)

-- ---- texts in UTF-8

up_to_le : (bytes : List ℕ) (n : ℕ) → valid_len_up_to bytes n ≤ n
up_to_le bytes zero = omega arith
up_to_le bytes (suc n) = elim (is_utf8 (take (suc n) bytes)) as (λ b. cond b (suc n) (valid_len_up_to bytes n) ≤ suc n) [
  | true ↦ omega arith
  | false ↦ omega (arith, up_to_le bytes n)
]

cut_short : (bytes : List ℕ) (n : ℕ) → length bytes ≡ n → is_utf8 bytes ≡ false → valid_len_up_to bytes n ≡ n → ⊥
cut_short [] n e f whole = let wrong : true ≡ false = sym (is_utf8-from_IsUtf8 [] IsUtf8-nil) ∙ f in cc
cut_short (b ∷ bytes) zero e f whole = omega (arith, e)
cut_short (b ∷ bytes) (suc n) e f whole =
    let all : take (suc n) (b ∷ bytes) ≡ b ∷ bytes = take_all (suc n) (b ∷ bytes) (omega (arith, e)) in
    let none : is_utf8 (take (suc n) (b ∷ bytes)) ≡ false = ap is_utf8 all ∙ f in
    let cut : valid_len_up_to (b ∷ bytes) (suc n) ≡ valid_len_up_to (b ∷ bytes) n = ap (λ v. cond v (suc n) (valid_len_up_to (b ∷ bytes) n)) none in
    omega (arith, cut, whole, up_to_le (b ∷ bytes) n)

-- a text is UTF-8, or its front that is has fewer bytes
pub utf8_or_cut : (text : List ℕ) → IsUtf8 text ⊎ (length (take (utf8_valid_len text) text) ≢ length text)
unfolding utf8_valid_len
utf8_or_cut text = by (is_utf8 text) refl
  where
    by : (b : Bool) → is_utf8 text ≡ b → IsUtf8 text ⊎ (length (take (valid_len_up_to text (length text)) text) ≢ length text)
    by true is = inl (IsUtf8-from_is_utf8 text is)
    by false is = inr (λ whole.
        let low = up_to_le text (length text) in
        let all : valid_len_up_to text (length text) ≡ length text = omega (arith, whole, low, length-take (valid_len_up_to text (length text)) text) in
        cut_short text (length text) refl is all)
