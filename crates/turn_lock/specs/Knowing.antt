-- What a seat knows: how each step changes it, and in which states it may be.
use Rattle.std.specs.Prelude.{ℕ, ◌+◌, ◌-◌, ◌^◌, ◌<◌, ◌≡◌, Bool, true, false, List, [], ◌∷◌, ◌++◌, length, take, drop}
use Rattle.std.specs.Prelude.{Option, Some, None}
use Rattle.atomic_table.specs.Table.{Me}
use Rattle.turn_lock.specs.declared.rule.Knowledge.{Knowledge}
use Rattle.turn_lock.specs.Sums.{times}
use Rattle.turn_lock.specs.Histories.{longer}

module _ {M F : Type 0} where
  -- a seat alone, with nothing of another one beside its own
  abbrev pub alone : (ticket : Option ℕ) (served : Bool) (numbers : List ℕ) (seen : List M) (seats : ℕ) (fixed : Option F) → Knowledge M F
  alone ticket served numbers seen seats fixed = record {
    ticket = ticket;
    served = served;
    numbers = numbers;
    seen = seen;
    joined_numbers = [];
    joined_seen = [];
    joined_fixed = None;
    seats = seats;
    fixed = fixed;
  }

  -- with no ticket, these numbers, this history seen
  abbrev pub calm : ℕ → List ℕ → List M → F → Knowledge M F
  calm seats ns seen f = alone None false ns seen seats (Some f)

  -- what is left of a seat that was joined to another
  abbrev pub spent : Knowledge M F
  spent = alone None false [] [] 0 None

  -- with the ticket n
  abbrev pub drew : Knowledge M F → ℕ → Knowledge M F
  drew v n = alone (Some n) false v.numbers v.seen v.seats v.fixed

  -- with its ticket served, and the whole history seen
  abbrev pub in_turn : Knowledge M F → List M → Knowledge M F
  in_turn v whole = alone v.ticket true v.numbers whole v.seats v.fixed

  -- with no ticket any more
  abbrev pub ended : Knowledge M F → Knowledge M F
  ended v = alone None false v.numbers v.seen v.seats v.fixed

  abbrev pub without_last : Knowledge M F → Knowledge M F
  without_last v = alone None false (take (length v.numbers - 1) v.numbers) v.seen v.seats v.fixed

  abbrev pub last_alone : Knowledge M F → Knowledge M F
  last_alone v = alone None false (drop (length v.numbers - 1) v.numbers) v.seen v.seats v.fixed

  -- the other's numbers and history beside its own, and what that one knew of the part that stays
  abbrev pub beside : Knowledge M F → Knowledge M F → Knowledge M F
  beside v w = record (ended v) { joined_numbers = w.numbers; joined_seen = w.seen; joined_fixed = w.fixed }

  -- the numbers of both, and the longer history
  abbrev pub merged : Knowledge M F → Knowledge M F
  merged v = alone None false (v.numbers ++ v.joined_numbers) (longer v.seen v.joined_seen) v.seats v.fixed

  -- the same but for its numbers
  pub record SameBut (v w : Knowledge M F) : Type 0 where
    pub seen : w.seen ≡ v.seen
    pub seats : w.seats ≡ v.seats
    pub fixed : w.fixed ≡ v.fixed

  -- how many numbers it has, those beside its own among them
  abbrev pub owns : Knowledge M F → ℕ
  owns v = length v.numbers + length v.joined_numbers

  -- how often it has the number n
  abbrev pub owns_times : ℕ → Knowledge M F → ℕ
  owns_times n v = times n v.numbers + times n v.joined_numbers

module _ {T M F : Type 0} where
  -- it has not entered, or has left since: no ticket, no slot, and at least one number
  pub record IsCalm (m : Me (Option T) (Knowledge M F)) : Type 0 where
    pub no_slot : m.1 ≡ []
    pub no_ticket : m.0.ticket ≡ None
    pub unserved : m.0.served ≡ false
    pub none_joined : m.0.joined_numbers ≡ []
    pub no_more_seen : m.0.joined_seen ≡ []
    pub some_number : 0 < length m.0.numbers

  -- it waits with the ticket n
  pub record IsWaiting (n : ℕ) (m : Me (Option T) (Knowledge M F)) : Type 0 where
    pub no_slot : m.1 ≡ []
    pub ticket : m.0.ticket ≡ Some n
    pub unserved : m.0.served ≡ false
    pub none_joined : m.0.joined_numbers ≡ []
    pub no_more_seen : m.0.joined_seen ≡ []
    pub some_number : 0 < length m.0.numbers

  -- it has the turn, by a ticket below 2^63, and the slot, with this in it
  pub record HasTurn (slot : Option T) (m : Me (Option T) (Knowledge M F)) : Type 0 where
    pub n : ℕ
    pub low : n < 2 ^ 63
    pub ticket : m.0.ticket ≡ Some n
    pub has_slot : m.1 ≡ (0, slot) ∷ []
    pub served : m.0.served ≡ true
    pub none_joined : m.0.joined_numbers ≡ []
    pub no_more_seen : m.0.joined_seen ≡ []
    pub some_number : 0 < length m.0.numbers

  -- it has joined another, and what that one had lies beside its own
  pub record IsBeside (m : Me (Option T) (Knowledge M F)) : Type 0 where
    pub no_slot : m.1 ≡ []
    pub no_ticket : m.0.ticket ≡ None
    pub unserved : m.0.served ≡ false
    pub some_number : 0 < length m.0.numbers
    pub some_joined : 0 < length m.0.joined_numbers

  -- between calls a pass is calm, or it is in its turn and the state is out with the caller
  abbrev pub Stands : Bool → Me (Option T) (Knowledge M F) → Type 0
  Stands false m = IsCalm m
  Stands true m = HasTurn None m
