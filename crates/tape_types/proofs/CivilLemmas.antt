-- The calendar names each moment by one date and time of day, which its text shows.
use Rattle.std.proofs.Common.{◌≡◌, ℕ, ◌+◌, ◌*◌, ◌/◌, ◌%◌, ◌<◌, refl, sym, ap, ◌∙◌, arith, ℤ, pos, ◌+ℤ◌, ◌*ℤ◌, ◌≤ℤ◌, List, ◌≢◌, Option, Some, None, IfSome, IfNone}
use Rattle.std.proofs.Props.{props}
use mathlib.Core.HLevel.{is_prop→PathP}
use Rattle.jiff_core.specs.Calendar.{days_from_civil}
use Rattle.jiff_core.proofs.SignedLemmas.{signed_arith, unsigned_abs-parts}
use Rattle.jiff_core.proofs.CalendarLemmas.{days_in_month_bounds}
use Rattle.jiff_core.proofs.DateLemmas.{days_from_civil-max}
use Rattle.tape_types.specs.declared.moments.Moment.{Moment}
use Rattle.tape_types.specs.declared.times.Civil.{Civil}
use Rattle.tape_types.specs.Moments.{first_second, last_second}
use Rattle.tape_types.specs.TimeParts.{HasPlaces}
use Rattle.tape_types.specs.Times.{day_number, second_of_day, civil_of, civil_text, time_text, IsCivil}
use Rattle.tape_types.proofs.DayLemmas.{DateOn, date_on, first_day, year_of-civil, month_of-civil, day_of-civil, year_bound}
use Rattle.tape_types.proofs.TextLemmas.{same_civil, civil_text_injective}

-- a count of seconds is its day's first second and the seconds of the day
day_and_second : (secs day : ℤ) (second : ℕ) → second < 86400 → secs ≡ day *ℤ pos 86400 +ℤ pos second → (day_number secs ≡ day) × (second_of_day secs ≡ second)
day_and_second secs day second low e =
    (omega (arith, signed_arith), omega (arith, signed_arith, unsigned_abs-parts))

second_of_day_bound : (secs : ℤ) → second_of_day secs < 86400
second_of_day_bound secs = omega (arith, signed_arith, unsigned_abs-parts)

second-parts : (secs : ℤ) → secs ≡ day_number secs *ℤ pos 86400 +ℤ pos (second_of_day secs)
second-parts secs = omega (arith, signed_arith, unsigned_abs-parts)

-- the days of moments are those of the years 0 to 9999
pub day_not_before : (m : Moment) → days_from_civil (pos 0) 1 1 ≤ℤ day_number m.secs
day_not_before m = let low = first_day in let first = m.not_before in omega (arith, signed_arith)

-- the day of a moment is no later than the last of the year 9999
pub day_not_after : (m : Moment) → day_number m.secs ≤ℤ days_from_civil (pos 9999) 12 31
day_not_after m = let high = days_from_civil-max in let last = m.not_after in omega (arith, signed_arith)

-- what the calendar names a moment is what the counts name it
pub civil_of_only : (m : Moment) (c : Civil) → IsCivil m c → civil_of m ≡ c
unfolding civil_of
civil_of_only m c h =
    let hour = h.hour in
    let minute = h.minute in
    let second = h.second in
    let parts = day_and_second m.secs (days_from_civil (pos c.year) c.month c.day) (c.hour * 3600 + c.minute * 60 + c.second) (omega arith) h.secs in
    same_civil (civil_of m) c (rw parts.0 (year_of-civil c.year c.month c.day h.date)) (rw parts.0 (month_of-civil c.year c.month c.day h.date)) (rw parts.0 (day_of-civil c.year c.month c.day h.date))
    (rw parts.1 (omega arith)) (rw parts.1 (omega arith)) (rw parts.1 (omega arith)) h.nanos

-- a moment has no second date and time of day
pub civil_once : (m : Moment) (c d : Civil) → IsCivil m c → IsCivil m d → c ≡ d
civil_once m c d h k = sym (civil_of_only m c h) ∙ civil_of_only m d k

-- and it names each
named : (m : Moment) → DateOn (day_number m.secs) → (c : Civil) × IsCivil m c
named m on =
    let second = second_of_day m.secs in
    let bound : second < 86400 = second_of_day_bound m.secs in
    let whole = second-parts m.secs in (
      record { year = on.year; month = on.month; day = on.day; hour = second / 3600; minute = second / 60 % 60; second = second % 60; nanos = m.nanos },
      record { date = on.civil; hour = omega arith; minute = omega arith; second = omega arith; secs = omega (arith, signed_arith, on.is); nanos = refl },
    )

-- each moment has a date and a time of day
pub has_civil : (m : Moment) → (c : Civil) × IsCivil m c
has_civil m = named m (date_on (day_number m.secs) (day_not_before m) (day_not_after m))

-- the text of a moment is that of its date and time of day
pub time_text_civil : (m : Moment) (c : Civil) → IsCivil m c → time_text m ≡ civil_text c
unfolding time_text
time_text_civil m c h = ap civil_text (civil_of_only m c h)

-- the parts of a moment's date and time of day fit their places in the text
pub civil-places : (m : Moment) (c : Civil) → IsCivil m c → HasPlaces c
civil-places m c h =
    let hour = h.hour in
    let minute = h.minute in
    let second = h.second in
    let top = year_bound c.year c.month c.day h.date in
    let long = days_in_month_bounds (pos c.year) c.month in
    let within = m.within_second in
    record {
      year = omega arith;
      month = omega (arith, h.date.1.1);
      day = omega (arith, h.date.2.1);
      hour = omega arith;
      minute = omega arith;
      second = omega arith;
      nanos = omega (arith, h.nanos);
    }

-- moments with the same seconds and nanoseconds are one
pub same_moment : (m n : Moment) → m.secs ≡ n.secs → m.nanos ≡ n.nanos → m ≡ n
same_moment m n secs nanos =
    λ i. record {
      secs = secs i;
      nanos = nanos i;
      not_before = is_prop→PathP (λ j. first_second ≤ℤ secs j) (λ j. hlevel props) m.not_before n.not_before i;
      not_after = is_prop→PathP (λ j. secs j ≤ℤ last_second) (λ j. hlevel props) m.not_after n.not_after i;
      within_second = is_prop→PathP (λ j. nanos j < 1000000000) (λ j. hlevel props) m.within_second n.within_second i;
    }

-- one date and time of day is that of one moment
moment_only : (m n : Moment) (c : Civil) → IsCivil m c → IsCivil n c → m ≡ n
moment_only m n c h k = same_moment m n (h.secs ∙ sym k.secs) (h.nanos ∙ sym k.nanos)

-- a text that shows the date and time of day of a moment shows no other
shown_only : (m : Moment) (c : Civil) → HasPlaces c → civil_text c ≡ time_text m → IsCivil m c
shown_only m c places e =
    let found = has_civil m in
    let same : c ≡ found.0 = civil_text_injective c found.0 places (civil-places m found.0 found.1) (e ∙ time_text_civil m found.0 found.1) in
    rw same found.1

-- moments with the same text are one
pub time_text_injective : (m n : Moment) → time_text m ≡ time_text n → m ≡ n
time_text_injective m n e =
    let found = has_civil m in
    moment_only m n found.0 found.1 (shown_only n found.0 (civil-places m found.0 found.1) (sym (time_text_civil m found.0 found.1) ∙ e))

-- a text is that of no moment where none has the date and time of day that it shows
not_shown : (text : List ℕ) (c : Civil) → text ≡ civil_text c → HasPlaces c → ((m : Moment) → ¬ IsCivil m c) → (m : Moment) → text ≡ time_text m → ⊥
not_shown text c shows places none m e = none m (shown_only m c places (sym shows ∙ e))

-- a text that shows no date and time of day is no moment's
pub no_civil_text : (text : List ℕ) → ((c : Civil) → text ≡ civil_text c → ⊥) → (m : Moment) → text ≡ time_text m → ⊥
no_civil_text text none m e =
    let found = has_civil m in
    none found.0 (e ∙ time_text_civil m found.0 found.1)

-- what a call that looks for a moment with a date and time of day answers, as an answer for its text
pub found_text : (text : List ℕ) (c : Civil) (found : Option Moment) → text ≡ civil_text c → IfSome found (λ m. IsCivil m c) → IfSome found (λ m. text ≡ time_text m)
found_text text c None shows h = tt
found_text text c (Some m) shows h = shows ∙ sym (time_text_civil m c h)

-- where no moment has the date and time that a text shows, the text is no moment's
pub missing_text : (text : List ℕ) (c : Civil) (found : Option Moment) → text ≡ civil_text c → HasPlaces c → IfNone found ((m : Moment) → ¬ IsCivil m c) → IfNone found ((m : Moment) → text ≢ time_text m)
missing_text text c None shows places none = not_shown text c shows places none
missing_text text c (Some m) shows places none = tt
