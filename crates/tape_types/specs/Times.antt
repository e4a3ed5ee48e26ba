-- Moments as dates and times of the proleptic Gregorian calendar, and the texts of these (LTFS 2.4 on time stamps).
use Rattle.std.specs.Prelude.{◌≡◌, ℕ, zero, suc, ◌+◌, ◌*◌, ◌/◌, ◌%◌, ◌<◌, ◌-◌, ◌&&◌, nat_le, nat_lt, Bool, Option, Some}
use Rattle.std.specs.Prelude.{None, if◌then◌else◌, ℤ, pos, ◌+ℤ◌, ◌-ℤ◌, ◌*ℤ◌, unsigned_abs, List, [], ◌∷◌, ◌++◌}
use Rattle.std.specs.Prelude.{count_by, codes}
use Rattle.std.specs.List.{range_with_len, slice_range}
use Rattle.std.specs.Int.{int_div_euclid, int_rem_euclid}
use Rattle.std.specs.Ordering.{int_cmp, is_le}
use Rattle.std.specs.Str.{bytes_eq}
use Rattle.jiff_core.specs.Calendar.{days_from_civil, days_in_month, IsCivilDate}
use Rattle.tape_types.specs.declared.moments.Moment.{Moment}
use Rattle.tape_types.specs.declared.times.Civil.{Civil}

-- how many of the years 1 to 9999 have begun by a day, where day 0 is 1 January 1970
unfoldable pub year_of : ℤ → ℕ
year_of day = count_by (λ y. is_le (int_cmp (days_from_civil (pos y) 1 1) day)) (range_with_len 1 9999)

-- how many months of its year have begun by the day
unfoldable pub month_of : ℤ → ℕ
month_of day = count_by (λ m. is_le (int_cmp (days_from_civil (pos (year_of day)) m 1) day)) (range_with_len 1 12)

-- which day of its month it is, from 1
unfoldable pub day_of : ℤ → ℕ
day_of day = unsigned_abs (day -ℤ days_from_civil (pos (year_of day)) (month_of day) 1) + 1

-- the day on which a second lies, and how many seconds of it have passed
abbrev pub day_number : ℤ → ℤ
day_number secs = int_div_euclid secs (pos 86400)

abbrev pub second_of_day : ℤ → ℕ
second_of_day secs = unsigned_abs (int_rem_euclid secs (pos 86400))

-- the date and the time of day of a moment
unfoldable pub civil_of : Moment → Civil
civil_of m =
    let day = day_number m.secs in
    let second = second_of_day m.secs in
    record {
      year = year_of day;
      month = month_of day;
      day = day_of day;
      hour = second / 3600;
      minute = second / 60 % 60;
      second = second % 60;
      nanos = m.nanos;
    }

-- the last `width` decimal digits of a number
abbrev pub digits : ℕ → ℕ → List ℕ
digits zero n = []
digits (suc width) n = digits width (n / 10) ++ (48 + n % 10) ∷ []

-- a date and a time of day, as `2024-01-02T03:04:05.000000000Z`
unfoldable pub civil_text : Civil → List ℕ
civil_text c =
    digits 4 c.year ++ codes "-" ++ digits 2 c.month ++ codes "-" ++ digits 2 c.day
    ++ codes "T" ++ digits 2 c.hour ++ codes ":" ++ digits 2 c.minute ++ codes ":" ++ digits 2 c.second
    ++ codes "." ++ digits 9 c.nanos ++ codes "Z"

-- the text of a moment
unfoldable pub time_text : Moment → List ℕ
time_text m = civil_text (civil_of m)

-- the calendar has this date, the day has this time, and a clock that began with 1970 has then counted the
-- seconds of the moment
pub record IsCivil (m : Moment) (c : Civil) : Type 0 where
  pub date : IsCivilDate (pos c.year) c.month c.day
  pub hour : c.hour < 24
  pub minute : c.minute < 60
  pub second : c.second < 60
  pub secs : m.secs
      ≡ days_from_civil (pos c.year) c.month c.day *ℤ pos 86400 +ℤ pos (c.hour * 3600 + c.minute * 60 + c.second)
  pub nanos : m.nanos ≡ c.nanos

-- the number that decimal digits show, behind others that show n
abbrev pub number_from : ℕ → List ℕ → ℕ
number_from n [] = n
number_from n (b ∷ bytes) = number_from (n * 10 + (b - 48)) bytes

-- the numbers at the places of such a text
abbrev pub numbers_in : List ℕ → Civil
numbers_in text =
    let part = λ (from to : ℕ). number_from 0 (slice_range text from to) in
    record {
      year = part 0 4;
      month = part 5 7;
      day = part 8 10;
      hour = part 11 13;
      minute = part 14 16;
      second = part 17 19;
      nanos = part 20 29;
    }

-- whether the calendar has this date, and the day this time
abbrev pub is_civil : Civil → Bool
is_civil c =
    nat_le 1 c.month && nat_le c.month 12 && nat_le 1 c.day && nat_le c.day (days_in_month (pos c.year) c.month)
    && nat_lt c.hour 24 && nat_lt c.minute 60 && nat_lt c.second 60

-- the date and the time of day that a text shows, where there are such
unfoldable pub civil_in : List ℕ → Option Civil
civil_in text =
    if bytes_eq text (civil_text (numbers_in text)) && is_civil (numbers_in text) then Some (numbers_in text) else None
