-- Each day of the years 0 to 9999 has one date, and the counts of years and months name it.
use Rattle.std.proofs.Common.{◌≡◌, ℕ, zero, suc, ◌+◌, ◌-◌, ◌<◌, ◌≤◌, inl, inr, Bool, true, false, cond, refl, sym, ◌∙◌, subst, arith, ℤ, pos, neg_ℤ, ◌-ℤ◌, ◌<ℤ◌, ◌≤ℤ◌, int_cmp, count_by}
use Rattle.std.proofs.lemmas.List.Sums.{sum_by-cons}
use Rattle.std.specs.List.{range_with_len}
use Rattle.std.specs.Ordering.{is_le}
use Rattle.std.proofs.lemmas.Bool.{cases_order}
use Rattle.std.proofs.lemmas.Int.{ints, by_lt_z}
use Rattle.jiff_core.specs.Calendar.{day_count, days_from_civil, days_in_month, IsCivilDate, IsYear}
use Rattle.jiff_core.proofs.SignedLemmas.{signed_arith}
use Rattle.jiff_core.proofs.MarchLemmas.{day_count-early}
use Rattle.jiff_core.proofs.CalendarLemmas.{days_from_civil-day_count, day_count-lt_year, day_count-lt_month, day_count-day, day_count-day_of_year, day_count-next_month, day_count-next_year, day_count-last_of_year, day_count_bounds, day_count-end, days_in_month_bounds}
use Rattle.jiff_core.proofs.DateLemmas.{days_from_civil-max}
use Rattle.tape_types.specs.Times.{year_of, month_of, day_of}
use borrow.Author.Differences.{up, down}

day_count-year_zero : day_count (pos 0) 1 1 ≡ 3_652_425
day_count-year_zero = day_count-early (pos 0) 9999 1 1 refl (omega arith) (omega arith) (omega arith)

-- the number of the first day of year 0
pub first_day : days_from_civil (pos 0) 1 1 ≡ neg_ℤ (pos 719_528)
first_day = omega (arith, signed_arith, days_from_civil-day_count, day_count-year_zero)

year_in : (y : ℕ) → y ≤ 9999 → IsYear (pos y)
year_in y h = (omega (arith, signed_arith), omega (arith, signed_arith))

-- a date has no year after 9999
pub year_bound : (y m d : ℕ) → IsCivilDate (pos y) m d → y ≤ 9999
year_bound y m d h = let high = h.0.1 in omega (arith, signed_arith)

first_of_month : (y m : ℕ) → y ≤ 9999 → 1 ≤ m → m ≤ 12 → IsCivilDate (pos y) m 1
first_of_month y m h low high = (year_in y h, (low, high), (omega arith, omega (arith, days_in_month_bounds (pos y) m)))

-- 1 January comes before the other dates of its year and of later years
from_january : (y k m d : ℕ) → IsCivilDate (pos y) m d → k ≤ y → day_count (pos k) 1 1 ≤ day_count (pos y) m d
from_january y k m d h le =
    let top = year_bound y m d h in
    elim (cases_order k y) [
      | inl same ↦ rw same (omega (arith, day_count-day_of_year (pos y) m d h.2.0))
      | inr (inl lt) ↦ omega (arith, day_count-lt_year (pos k) 1 1 (pos y) m d (first_of_month k 1 (omega arith) (omega arith) (omega arith)) h.2.0 (omega (arith, signed_arith)))
      | inr (inr gt) ↦ absurd (omega arith)
    ]

-- and after the dates of earlier years
before_january : (y k m d : ℕ) → IsCivilDate (pos y) m d → y < k → day_count (pos y) m d < day_count (pos k) 1 1
before_january y k m d h lt = day_count-lt_year (pos y) m d (pos k) 1 1 h (omega arith) (omega (arith, signed_arith))

-- the first of a month comes before the other dates of the month and of later months
from_first : (y k m d : ℕ) → IsCivilDate (pos y) m d → 1 ≤ k → k ≤ m → day_count (pos y) k 1 ≤ day_count (pos y) m d
from_first y k m d h low le =
    elim (cases_order k m) [
      | inl same ↦ rw same (omega (arith, h.2.0, day_count-day (pos y) m 1 d (omega arith) h.2.0))
      | inr (inl lt) ↦ omega (arith, day_count-lt_month (pos y) k 1 m d (first_of_month y k (year_bound y m d h) low (omega (arith, h.1.1))) h.2.0 lt)
      | inr (inr gt) ↦ absurd (omega arith)
    ]

before_first : (y k m d : ℕ) → IsCivilDate (pos y) m d → m < k → day_count (pos y) m d < day_count (pos y) k 1
before_first y k m d h lt = day_count-lt_month (pos y) m d k 1 h (omega arith) lt

le-yes : (a b : ℤ) → a ≤ℤ b → is_le (int_cmp a b) ≡ true
le-yes a b h = grind (arith, ints)

le-no : (a b : ℤ) → b <ℤ a → is_le (int_cmp a b) ≡ false
le-no a b h = grind (arith, ints)

year_begun : (y m d k : ℕ) → IsCivilDate (pos y) m d → k ≤ y → is_le (int_cmp (days_from_civil (pos k) 1 1) (days_from_civil (pos y) m d)) ≡ true
year_begun y m d k h high =
    let fact : days_from_civil (pos k) 1 1 ≤ℤ days_from_civil (pos y) m d = omega (arith, signed_arith, days_from_civil-day_count (pos k) 1 1, days_from_civil-day_count (pos y) m d, from_january y k m d h high) in le-yes _ _ fact

year_not_begun : (y m d k : ℕ) → IsCivilDate (pos y) m d → y < k → is_le (int_cmp (days_from_civil (pos k) 1 1) (days_from_civil (pos y) m d)) ≡ false
year_not_begun y m d k h high =
    let fact : days_from_civil (pos y) m d <ℤ days_from_civil (pos k) 1 1 = omega (arith, signed_arith, days_from_civil-day_count (pos k) 1 1, days_from_civil-day_count (pos y) m d, before_january y k m d h high) in le-no _ _ fact

month_begun : (y m d k : ℕ) → IsCivilDate (pos y) m d → 1 ≤ k → k ≤ m → is_le (int_cmp (days_from_civil (pos y) k 1) (days_from_civil (pos y) m d)) ≡ true
month_begun y m d k h low high =
    let fact : days_from_civil (pos y) k 1 ≤ℤ days_from_civil (pos y) m d = omega (arith, signed_arith, days_from_civil-day_count (pos y) k 1, days_from_civil-day_count (pos y) m d, from_first y k m d h low high) in le-yes _ _ fact

month_not_begun : (y m d k : ℕ) → IsCivilDate (pos y) m d → m < k → is_le (int_cmp (days_from_civil (pos y) k 1) (days_from_civil (pos y) m d)) ≡ false
month_not_begun y m d k h high =
    let fact : days_from_civil (pos y) m d <ℤ days_from_civil (pos y) k 1 = omega (arith, signed_arith, days_from_civil-day_count (pos y) k 1, days_from_civil-day_count (pos y) m d, before_first y k m d h high) in le-no _ _ fact

-- of n numbers from `low` on, those up to `top` pass
count_up : (p : ℕ → Bool) (low n top : ℕ) → ((k : ℕ) → low ≤ k → k ≤ top → p k ≡ true) → ((k : ℕ) → low ≤ k → top < k → p k ≡ false) → top < low + n → count_by p (range_with_len low n) ≡ top + 1 - low
count_up p low zero top passes fails end = omega arith
count_up p low (suc n) top passes fails end =
    let rest : count_by p (range_with_len (low + 1) n) ≡ top + 1 - (low + 1) =
    count_up p (low + 1) n top (λ k from to. passes k (omega arith) to) (λ k from to. fails k (omega arith) to) (omega arith) in
    let step : count_by p (range_with_len low (suc n)) ≡ cond (p low) 1 0 + count_by p (range_with_len (low + 1) n) =
    sum_by-cons (λ x. cond (p x) 1 0) low (range_with_len (low + 1) n) in
    elim (cases_order low top) [
      | inl same ↦ let e = passes low (omega arith) (omega arith) in grind arith
      | inr (inl lt) ↦ let e = passes low (omega arith) (omega arith) in grind arith
      | inr (inr gt) ↦ let e = fails low (omega arith) gt in grind arith
    ]

-- of the numbers from 1 to n, those up to `top` pass
counted_to : (p : ℕ → Bool) (n top : ℕ) → ((k : ℕ) → 1 ≤ k → k ≤ top → p k ≡ true) → ((k : ℕ) → 1 ≤ k → top < k → p k ≡ false) → top ≤ n → count_by p (range_with_len 1 n) ≡ top
counted_to p n top passes fails end =
    let back : top + 1 - 1 ≡ top = omega arith in
    count_up p 1 n top passes fails (omega arith) ∙ back

-- the year that is found for the day of a date is the date's
pub year_of-civil : (y m d : ℕ) → IsCivilDate (pos y) m d → year_of (days_from_civil (pos y) m d) ≡ y
unfolding year_of
year_of-civil y m d h =
    counted_to (λ k. is_le (int_cmp (days_from_civil (pos k) 1 1) (days_from_civil (pos y) m d))) 9999 y (λ k low high. year_begun y m d k h high)
    (λ k low high. year_not_begun y m d k h high)
    (year_bound y m d h)

-- the month that is found for the day of a date is the date's
pub month_of-civil : (y m d : ℕ) → IsCivilDate (pos y) m d → month_of (days_from_civil (pos y) m d) ≡ m
unfolding month_of
month_of-civil y m d h =
    rw (year_of-civil y m d h)
    (counted_to (λ k. is_le (int_cmp (days_from_civil (pos y) k 1) (days_from_civil (pos y) m d))) 12 m (λ k low high. month_begun y m d k h low high)
    (λ k low high. month_not_begun y m d k h high)
    (omega (arith, h.1.1)))

-- the day of the month that is found for the day of a date is the date's
pub day_of-civil : (y m d : ℕ) → IsCivilDate (pos y) m d → day_of (days_from_civil (pos y) m d) ≡ d
unfolding day_of
day_of-civil y m d h =
    let low = h.2.0 in
    let since : days_from_civil (pos y) m d -ℤ days_from_civil (pos y) m 1 ≡ pos (d - 1) =
    omega (arith, signed_arith, days_from_civil-day_count (pos y) m d, days_from_civil-day_count (pos y) m 1, day_count-day (pos y) m 1 d (omega arith) low) in
    rw (year_of-civil y m d h, month_of-civil y m d h, since) (omega arith)

-- a date with a count of days before it
pub record DateAt (n : ℕ) : Type 0 where
  pub year : ℕ
  pub month : ℕ
  pub day : ℕ
  pub civil : IsCivilDate (pos year) month day
  pub count : day_count (pos year) month day ≡ n

next_year : (n y m d : ℕ) → day_count (pos y) m d ≡ n → m ≡ 12 → d ≡ days_in_month (pos y) m → day_count (pos (y + 1)) 1 1 ≡ n + 1
next_year n y m d count december last =
    let d31 : d ≡ 31 = rw december at last in
    let here : day_count (pos y) 12 31 ≡ n = rw (december, d31) at count in
    omega (arith, here, day_count-last_of_year (pos y), day_count-next_year (pos y) (pos (y + 1)) (omega (arith, signed_arith)) (omega (arith, signed_arith)))

next_date : (n : ℕ) → n + 1 < 7_304_850 → DateAt n → DateAt (n + 1)
next_date n end at =
    let y = at.year in
    let m = at.month in
    let d = at.day in
    let long = days_in_month_bounds (pos y) m in
    let within : (1 ≤ m) × (m ≤ 12) × (1 ≤ d) × (d ≤ days_in_month (pos y) m) × (y ≤ 9999) = (at.civil.1.0, at.civil.1.1, at.civil.2.0, at.civil.2.1, year_bound y m d at.civil) in
    elim (cases_order d (days_in_month (pos y) m)) [
      | inr (inl lt) ↦ record { year = y; month = m; day = d + 1; civil = (at.civil.0, at.civil.1, (omega arith, omega arith)); count = omega (arith, at.count, day_count-day (pos y) m d (d + 1) (omega arith) (omega arith)) }
      | inl last ↦ elim (cases_order m 12) [
        | inr (inl lt) ↦ record { year = y; month = m + 1; day = 1; civil = first_of_month y (m + 1) (omega arith) (omega arith) (omega arith); count = omega (arith, at.count, day_count-next_month (pos y) m (omega arith), day_count-day (pos y) m 1 d (omega arith) (omega arith)) }
        | inl december ↦
            let next : day_count (pos (y + 1)) 1 1 ≡ n + 1 = next_year n y m d at.count december last in
            let low : y < 9999 = elim (cases_order y 9999) [
              | inr (inl lt) ↦ lt
              | inl nine ↦ absurd (omega (arith, day_count-end, rw nine at next))
              | inr (inr gt) ↦ absurd (omega arith)
            ] in
            record { year = y + 1; month = 1; day = 1; civil = first_of_month (y + 1) 1 (omega arith) (omega arith) (omega arith); count = next }
        | inr (inr gt) ↦ absurd (omega arith)
      ]
      | inr (inr gt) ↦ absurd (omega arith)
    ]

date_after : (k : ℕ) → 3_652_425 + k < 7_304_850 → DateAt (3_652_425 + k)
date_after zero h = record { year = 0; month = 1; day = 1; civil = first_of_month 0 1 (omega arith) (omega arith) (omega arith); count = omega (arith, day_count-year_zero) }
date_after (suc k) h =
    let next : 3_652_425 + k + 1 ≡ 3_652_425 + suc k = omega arith in
    subst DateAt next (next_date (3_652_425 + k) (omega arith) (date_after k (omega arith)))

-- a date with its day number
pub record DateOn (day_number : ℤ) : Type 0 where
  pub year : ℕ
  pub month : ℕ
  pub day : ℕ
  pub civil : IsCivilDate (pos year) month day
  pub is : days_from_civil (pos year) month day ≡ day_number

-- each day of the years 0 to 9999 has a date
pub date_on : (day : ℤ) → days_from_civil (pos 0) 1 1 ≤ℤ day → day ≤ℤ days_from_civil (pos 9999) 12 31 → DateOn day
date_on day first last =
    let low = first_day in
    let high = days_from_civil-max in
    let k = up day + 719_528 - down day in
    let found = date_after k (omega (arith, signed_arith)) in
    record { year = found.year; month = found.month; day = found.day; civil = found.civil; is = omega (arith, signed_arith, found.count, days_from_civil-day_count (pos found.year) found.month found.day) }

-- the day numbers of the years 0 to 9999
pub day_not_early : (y m d : ℕ) → IsCivilDate (pos y) m d → days_from_civil (pos 0) 1 1 ≤ℤ days_from_civil (pos y) m d
day_not_early y m d h = omega (arith, signed_arith, days_from_civil-day_count, from_january y 0 m d h (omega arith))

-- the day of a date is no later than the last of the year 9999
pub day_not_late : (y m d : ℕ) → IsCivilDate (pos y) m d → days_from_civil (pos y) m d ≤ℤ days_from_civil (pos 9999) 12 31
day_not_late y m d h =
    omega (arith, signed_arith, days_from_civil-day_count, day_count_bounds (pos y) m d h, days_from_civil-max)

-- a date on or after the first day of year 0 has no year below 0
pub year_not_negative : (y : ℤ) (m d : ℕ) → IsCivilDate y m d → days_from_civil (pos 0) 1 1 ≤ℤ days_from_civil y m d → pos 0 ≤ℤ y
year_not_negative y m d h first =
    by_lt_z y (pos 0)
    (λ lt. absurd (omega (arith, signed_arith, days_from_civil-day_count, day_count-lt_year y m d (pos 0) 1 1 h (omega arith) lt)))
    (λ le. le)

-- the same, of a year that is a whole number
pub date_not_early : (y : ℤ) (k m d : ℕ) → y ≡ pos k → IsCivilDate y m d → days_from_civil (pos 0) 1 1 ≤ℤ days_from_civil y m d
date_not_early y k m d e h =
    let P : ℤ → Type 0 = λ z. IsCivilDate z m d → days_from_civil (pos 0) 1 1 ≤ℤ days_from_civil z m d in
    subst P (sym e) (day_not_early k m d) h
