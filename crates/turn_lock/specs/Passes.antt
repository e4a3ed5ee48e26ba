-- What contracts see of a pass, and what each call makes of it.
use Rattle.std.specs.Prelude.{ℕ, Bool, true, false, List, ◌++◌, Option, Some}
use Rattle.atomic_table.specs.Seated.{TableId}
use Rattle.turn_lock.specs.Histories.{numbers_to, longer}

-- A pass is of one lock, which has the numbers 1 to `seats`. It has some of these numbers, the history as far as it
-- was seen, and the part of the state that stays. It is in its turn from `enter` until `leave`.
pub record PassView (M F : Type 0) : Type 0 where
  pub lock : TableId
  pub seats : ℕ
  pub numbers : List ℕ
  pub seen : List M
  pub fixed : Option F
  pub in_turn : Bool

module _ {M F : Type 0} where
  -- the pass with all the numbers of a new lock
  abbrev pub first_pass : TableId → ℕ → List M → F → PassView M F
  first_pass lock seats history fixed =
      record {
        lock = lock;
        seats = seats;
        numbers = numbers_to seats;
        seen = history;
        fixed = Some fixed;
        in_turn = false;
      }

  -- in its turn, with the history seen
  abbrev pub entered : List M → PassView M F → PassView M F
  entered history p = record {
    lock = p.lock;
    seats = p.seats;
    numbers = p.numbers;
    seen = history;
    fixed = p.fixed;
    in_turn = true;
  }

  -- no more in its turn, with the history seen
  abbrev pub left_at : List M → PassView M F → PassView M F
  left_at history p = record {
    lock = p.lock;
    seats = p.seats;
    numbers = p.numbers;
    seen = history;
    fixed = p.fixed;
    in_turn = false;
  }

  -- the same with these numbers
  abbrev pub with_numbers : List ℕ → PassView M F → PassView M F
  with_numbers numbers p = record {
    lock = p.lock;
    seats = p.seats;
    numbers = numbers;
    seen = p.seen;
    fixed = p.fixed;
    in_turn = p.in_turn;
  }

  -- with the numbers of both, the first's first, and the longer history
  abbrev pub joined : PassView M F → PassView M F → PassView M F
  joined p q = record {
    lock = p.lock;
    seats = p.seats;
    numbers = p.numbers ++ q.numbers;
    seen = longer p.seen q.seen;
    fixed = p.fixed;
    in_turn = p.in_turn;
  }
