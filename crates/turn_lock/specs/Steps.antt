-- What each kind of step tells the seat m that makes it: the seat afterwards, w, and what it learns.
use Rattle.std.specs.Prelude.{ℕ, ◌≡◌, ◌≢◌, List, [], ◌∷◌, Option, Some}
use Rattle.atomic_table.specs.Table.{Me, Step, rest}
use Rattle.turn_lock.specs.declared.rule.Knowledge.{Knowledge}
use Rattle.turn_lock.specs.Histories.{Sees, own_entries, longer}
use Rattle.turn_lock.specs.Knowing.{drew, in_turn, ended, merged}

-- what a turn tells who waited for it: the slot has a state, and its history is known
pub record Turns {T M F : Type 0} (history : T → List M) (fixed : T → F) (names : M → ℕ)
    (m w : Me (Option T) (Knowledge M F)) : Type 0 where
  pub state : T
  pub known : w.0 ≡ in_turn m.0 (history state)
  pub slot : w.1 ≡ (0, Some state) ∷ m.1
  pub same : m.0.fixed ≡ Some (fixed state)
  pub sees : Sees names m.0.seats m.0.numbers m.0.seen (history state)
  pub own : own_entries names m.0.numbers (history state) ≡ own_entries names m.0.numbers m.0.seen

module _ {T M F : Type 0} where
  -- the number found is the ticket
  abbrev pub draws : Step (Option T) → Me (Option T) (Knowledge M F) → ℕ → Me (Option T) (Knowledge M F) → Type 0
  draws st m found w = (w.0 ≡ drew m.0 found) × (w.1 ≡ m.1)

  -- where the number found is the ticket, the turn has come, and else nothing has changed
  abbrev pub looks : (T → List M) → (T → F) → (M → ℕ) → Step (Option T) → Me (Option T) (Knowledge M F) → ℕ
      → Me (Option T) (Knowledge M F) → Type 0
  looks history fixed names st m found w = (n : ℕ) → m.0.ticket ≡ Some n
      → (found ≡ n → Turns history fixed names m w) × (found ≢ n → w ≡ m)

  -- the history is that of the state in the slot
  abbrev pub counts : (T → List M) → Step (Option T) → Me (Option T) (Knowledge M F) → ℕ
      → Me (Option T) (Knowledge M F) → Type 0
  counts history st m found w = (x : T) → m.1 ≡ (0, Some x) ∷ [] → (w.0 ≡ in_turn m.0 (history x)) × (w.1 ≡ m.1)

  -- ticket and slot are gone
  abbrev pub ends : Step (Option T) → Me (Option T) (Knowledge M F) → ℕ → Me (Option T) (Knowledge M F) → Type 0
  ends st m found w = (w.0 ≡ ended m.0) × (w.1 ≡ rest m.1)

  -- the longer of both histories begins with each, and has no later entry of the numbers of either; both knew the same
  -- of the part that stays
  abbrev pub merges : (M → ℕ) → Step (Option T) → Me (Option T) (Knowledge M F) → ℕ → Me (Option T) (Knowledge M F)
      → Type 0
  merges names st m found w = (w.0 ≡ merged m.0) × (w.1 ≡ m.1)
      × Sees names m.0.seats m.0.numbers m.0.seen (longer m.0.seen m.0.joined_seen)
      × Sees names m.0.seats m.0.joined_numbers m.0.joined_seen (longer m.0.seen m.0.joined_seen)
      × (m.0.joined_fixed ≡ m.0.fixed)
