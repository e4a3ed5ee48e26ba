-- The parts of the text of a date and a time of day, for the functions that read and write it.
use Rattle.std.specs.Prelude.{ℕ, ◌<◌, Bool, ◌==◌, ◌&&◌, List, slice_index}
use Rattle.tape_types.specs.declared.times.Civil.{Civil}

-- each number has as many digits as its place in the text
pub record HasPlaces (c : Civil) : Type 0 where
  pub year : c.year < 10000
  pub month : c.month < 100
  pub day : c.day < 100
  pub hour : c.hour < 100
  pub minute : c.minute < 100
  pub second : c.second < 100
  pub nanos : c.nanos < 1000000000

-- the marks between the numbers of such a text stand at their places
abbrev pub has_marks : List ℕ → Bool
has_marks text =
    (slice_index text 4 == 45) && (slice_index text 7 == 45) && (slice_index text 10 == 84)
    && (slice_index text 13 == 58)
    && (slice_index text 16 == 58) && (slice_index text 19 == 46) && (slice_index text 29 == 90)
