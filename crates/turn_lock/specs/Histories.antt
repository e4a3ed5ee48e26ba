-- What one who owns some of the numbers knows of a history, each entry of which names a number.
use Rattle.std.specs.Prelude.{ℕ, zero, suc, ◌≤◌, ◌≡◌, nat_lt, if◌then◌else◌, List, [], ◌∷◌, ◌++◌, length, All, Contains}
use Rattle.std.specs.Prelude.{filter}
use Rattle.turn_lock.specs.Sums.{times}

-- the numbers of a lock: 1 to n
abbrev pub numbers_to : ℕ → List ℕ
numbers_to zero = []
numbers_to (suc n) = numbers_to n ++ suc n ∷ []

-- the number is one of 1 to `seats`, and none of the list
pub record IsAnothers (seats : ℕ) (numbers : List ℕ) (n : ℕ) : Type 0 where
  pub from_one : 1 ≤ n
  pub to_seats : n ≤ seats
  pub not_own : ¬ Contains numbers n

module _ {M : Type 0} where
  -- the whole history begins with what was seen, and each later entry names a number of the lock that is none of these
  pub record Sees (names : M → ℕ) (seats : ℕ) (numbers : List ℕ) (seen whole : List M) : Type 0 where
    pub later : List M
    pub begins : seen ++ later ≡ whole
    pub anothers : All (λ e. IsAnothers seats numbers (names e)) later

  -- the whole history begins with what was seen, and each later entry names one of these numbers
  pub record AddsOwn (names : M → ℕ) (numbers : List ℕ) (seen whole : List M) : Type 0 where
    pub later : List M
    pub begins : seen ++ later ≡ whole
    pub own : All (λ e. Contains numbers (names e)) later

  -- the entries that name one of these numbers, in order
  abbrev pub own_entries : (M → ℕ) → List ℕ → List M → List M
  own_entries names numbers history = filter (λ e. nat_lt 0 (times (names e) numbers)) history

  -- the longer of two histories, and the first where they are equally long
  abbrev pub longer : List M → List M → List M
  longer a b = if nat_lt (length a) (length b) then b else a
