-- What holds of the lock's table between any two steps.
use Rattle.std.specs.Prelude.{ℕ, ◌+◌, ◌^◌, ◌≤◌, ◌<◌, ◌≡◌, ◌==◌, true, false, if◌then◌else◌, List, length, Option, Some}
use Rattle.std.specs.Prelude.{None, slice_index}
use mathlib.Core.Option.{some}
use lib.ListN.{get_elem?}
use Rattle.atomic_table.specs.Table.{State}
use Rattle.turn_lock.specs.declared.rule.Knowledge.{Knowledge}
use Rattle.turn_lock.specs.Sums.{total, times}
use Rattle.turn_lock.specs.Histories.{numbers_to, Sees}
use Rattle.turn_lock.specs.Knowing.{owns, owns_times}

-- 1 of a ticket, and 0 of none
abbrev pub has : Option ℕ → ℕ
has None = 0
has (Some n) = 1

-- 1 of the ticket n, and else 0
abbrev pub holds_ticket : ℕ → Option ℕ → ℕ
holds_ticket n None = 0
holds_ticket n (Some m) = if m == n then 1 else 0

-- what the rule says of one view, where `whole` is the history as it stands
pub record Fits {M F : Type 0} (names : M → ℕ) (seats serving ticket : ℕ) (whole : List M) (f : F)
    (v : Knowledge M F) : Type 0 where
  -- its ticket was drawn, and has not been served to its end
  pub ranged : (n : ℕ) → v.ticket ≡ Some n → (serving ≤ n) × (n < ticket)
  -- who has a ticket has a number
  pub entitled : has v.ticket ≤ owns v
  pub sees : 0 < length v.numbers → Sees names seats v.numbers v.seen whole
  pub sees_joined : 0 < length v.joined_numbers → Sees names seats v.joined_numbers v.joined_seen whole
  pub same : 0 < length v.numbers → (v.fixed ≡ Some f) × (v.seats ≡ seats)
  pub same_joined : 0 < length v.joined_numbers → v.joined_fixed ≡ Some f
  -- who is served has the ticket that is served, and has seen all
  pub turn : v.served ≡ true → (v.ticket ≡ Some serving) × (v.seen ≡ whole)

-- where no view is served, the slot is home, with a state that has this history and this fixed part
abbrev pub IsHome : {T M F : Type 0} → (T → List M) → (T → F) → List M → F → State (Option T) (Knowledge M F) → Type 0
IsHome {T} {M} {F} history fixed whole f s =
    ((i : ℕ) (v : Knowledge M F) → get_elem? s.views i ≡ some v → v.served ≡ false)
    → (x : T) × (get_elem? s.homes 0 ≡ some (some (Some x))) × (history x ≡ whole) × (fixed x ≡ f)

-- the rule
pub record IsKept {T M F : Type 0} (history : T → List M) (fixed : T → F) (names : M → ℕ) (seats : ℕ) (f : F)
    (s : State (Option T) (Knowledge M F)) : Type 0 where
  pub ticket : ℕ
  pub serving : ℕ
  pub whole : List M
  pub three_words : length s.words ≡ 3
  pub one_slot : length s.homes ≡ 1
  pub ticket_is : slice_index s.words 0 ≡ ticket
  pub serving_is : slice_index s.words 1 ≡ serving
  pub count_is : slice_index s.words 2 ≡ length whole
  pub low : serving ≤ 2 ^ 63
  pub few_seats : seats < 2 ^ 16
  -- the tickets from serving to below ticket are as many as views have, and no two views have the same
  pub drawn : serving + total (λ v. has v.ticket) s.views ≡ ticket
  pub apart : (n : ℕ) → total (λ v. holds_ticket n v.ticket) s.views ≤ 1
  -- the numbers of all views are 1 to seats, each once
  pub shared : total owns s.views ≡ seats
  pub once : (n : ℕ) → total (owns_times n) s.views ≡ times n (numbers_to seats)
  pub each : (i : ℕ) (v : Knowledge M F) → get_elem? s.views i ≡ some v → Fits names seats serving ticket whole f v
  pub home : IsHome history fixed whole f s
