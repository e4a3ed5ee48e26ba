-- How the lock begins, and how it ends.
use Rattle.std.proofs.Common.{◌≡◌, ◌≢◌, ℕ, zero, suc, ◌^◌, ◌<◌, false, List, [], ◌∷◌, length, Option, Some, sym, refl, ap, ◌∙◌, subst, arith}
use Rattle.std.proofs.lemmas.Option.{same_Some}
use Rattle.std.proofs.lemmas.Bool.{false_from_ne_true}
use mathlib.Core.Option.{some, some-injective, some-ne-none}
use mathlib.Core.Logic.{dite}
use native.Mathlib.Decide.{ℕ_discrete}
use lib.ListN.{get_elem?}
use Rattle.atomic_table.specs.Table.{State, Me, opening, Final, Seen}
use Rattle.turn_lock.specs.declared.rule.Knowledge.{Knowledge}
use Rattle.turn_lock.specs.Sums.{times}
use Rattle.turn_lock.specs.Histories.{numbers_to}
use Rattle.turn_lock.specs.Knowing.{owns, owns_times, calm, IsCalm}
use Rattle.turn_lock.specs.Rule.{Fits, IsKept}
use Rattle.turn_lock.proofs.SumLemmas.{total_two, total_one, numbers_length, no_length}
use Rattle.turn_lock.proofs.HistoryLemmas.{sees_all, sees_whole}
use Rattle.turn_lock.proofs.RuleLemmas.{no_some, not_both, has_some}

nothing_joined : {P : Type 0} → 0 < 0 → P
nothing_joined lt = absurd (omega (arith, lt))

module _ {T M F : Type 0} (history : T → List M) (fixed : T → F) (names : M → ℕ) (seats : ℕ) (f : F) where
  abbrev V : Type 0
  V = Knowledge M F

  abbrev Rule : State (Option T) V → Type 0
  Rule = IsKept history fixed names seats f

  -- a lock begins by the rule: with all numbers, and its state home
  pub opens : (count : ℕ) (x : T) → seats < 2 ^ 16 → fixed x ≡ f → count ≡ length (history x) → Rule (opening (0 ∷ 0 ∷ count ∷ []) (Some x ∷ []) (calm seats (numbers_to seats) (history x) f))
  opens count x small fix long = record {
    ticket = 0;
    serving = 0;
    whole = history x;
    three_words = refl;
    one_slot = refl;
    ticket_is = refl;
    serving_is = refl;
    count_is = long;
    low = omega arith;
    few_seats = small;
    drawn = refl;
    apart = λ j. omega arith;
    shared = omega (arith, numbers_length seats);
    once = λ j. omega arith;
    each = first_fits;
    home = λ _. (x, refl, refl, fix);
  } where
    first_fits : (i : ℕ) (v : V) → get_elem? (calm seats (numbers_to seats) (history x) f ∷ []) i ≡ some v → Fits names seats 0 0 (history x) f v
    first_fits zero v e = subst (Fits names seats 0 0 (history x) f) (some-injective (calm seats (numbers_to seats) (history x) f) v e) record {
      ranged = λ j b. absurd (no_some j b);
      entitled = omega arith;
      sees = λ _. sees_all names seats (numbers_to seats) (history x);
      sees_joined = λ lt. nothing_joined lt;
      same = λ _. (refl, refl);
      same_joined = λ lt. nothing_joined lt;
      turn = λ up. absurd (not_both false up refl);
    }
    first_fits (suc i) v e = absurd (some-ne-none v (sym e))

  -- beside a seat that has all the numbers, each other has none
  others_have_none : (s : State (Option T) V) (k : Rule s) (id : ℕ) (v : V) → get_elem? s.views id ≡ some v → length v.numbers ≡ seats → v.joined_numbers ≡ [] → (i : ℕ) (u : V) → i ≢ id → get_elem? s.views i ≡ some u → owns u ≡ 0
  others_have_none s k id v at all empty i u ne there = let d = k.shared in let a : length v.joined_numbers ≡ 0 = ap length empty in omega (arith, d, all, a, total_two owns s.views i id u v ne there at)

  -- so it has exactly the numbers of the lock
  has_all : (s : State (Option T) V) (k : Rule s) (id : ℕ) (v : V) → get_elem? s.views id ≡ some v → length v.numbers ≡ seats → v.joined_numbers ≡ [] → (n : ℕ) → times n v.numbers ≡ times n (numbers_to seats)
  has_all s k id v at all empty n =
      let rest : (i : ℕ) (u : V) → i ≢ id → get_elem? s.views i ≡ some u → owns_times n u ≡ 0 = λ i u ne there. let z = others_have_none s k id v at all empty i u ne there in omega (arith, no_length n u.numbers (omega (arith, z)), no_length n u.joined_numbers (omega (arith, z))) in
      let d = k.once n in let b : times n v.joined_numbers ≡ 0 = ap (times n) empty in omega (arith, d, b, total_one (owns_times n) s.views id v at rest)

  -- and none is served
  none_served : (s : State (Option T) V) (k : Rule s) (id : ℕ) (m : Me (Option T) V) → IsCalm m → get_elem? s.views id ≡ some m.0 → length m.0.numbers ≡ seats → (i : ℕ) (u : V) → get_elem? s.views i ≡ some u → u.served ≡ false
  none_served s k id m still at all i u there = false_from_ne_true u.served (λ up. dite (ℕ_discrete i id)
      (λ same. not_both u.served up (ap (λ (z : V). z.served) (some-injective u m.0 (sym there ∙ (ap (get_elem? s.views) same ∙ at))) ∙ still.unserved))
      (λ ne. let r = k.each i u there in let e = r.entitled in let z = others_have_none s k id m.0 at all still.none_joined i u ne there in let one = has_some u.ticket k.serving (r.turn up).0 in absurd (omega (arith, e, z, one))))

  -- the slot of a lock that is closed by a seat with all the numbers
  pub closed : (id : ℕ) (m : Me (Option T) V) (words : List ℕ) (xs : List (Option T)) (slot : Option T) → IsCalm m → length m.0.numbers ≡ m.0.seats → Final (Seen Rule id m.0) words xs → get_elem? xs 0 ≡ some slot
      → (x : T) × (slot ≡ Some x) × (m.0.fixed ≡ Some (fixed x)) × (history x ≡ m.0.seen)
  closed id m words xs slot still as_many last there =
      let s : State (Option T) V = last.0 in let k = last.1.0 in let at = last.1.1 in let v : V = m.0 in let t = k.each id v at in
      let q = t.same still.some_number in let all : length v.numbers ≡ seats = as_many ∙ q.1 in let h = k.home (none_served s k id m still at all) in (
        h.0,
        some-injective slot (Some h.0) (sym there ∙ last.4 0 (Some h.0) h.1),
        q.0 ∙ ap (λ (z : F). Some z) (sym h.3),
        h.2 ∙ sees_whole names seats v.numbers v.seen k.whole (has_all s k id v at all still.none_joined) (t.sees still.some_number),
      )

  -- the one pass that has all numbers knows the whole history of the lock's state
  pub closed_state : (id : ℕ) (m : Me (Option T) V) (words : List ℕ) (xs : List (Option T)) (slot : Option T) (y : T) → IsCalm m → length m.0.numbers ≡ m.0.seats → Final (Seen Rule id m.0) words xs → get_elem? xs 0 ≡ some slot → slot ≡ Some y
      → (m.0.fixed ≡ Some (fixed y)) × (history y ≡ m.0.seen)
  closed_state id m words xs slot y still all last there is = let r = closed id m words xs slot still all last there in let same : r.0 ≡ y = same_Some r.0 y (sym r.1 ∙ is) in subst (λ (z : T). (m.0.fixed ≡ Some (fixed z)) × (history z ≡ m.0.seen)) same (r.2, r.3)
