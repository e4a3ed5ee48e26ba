-- From one state of a seat to the next.
use Rattle.std.proofs.Common.{◌≡◌, ℕ, ◌-◌, ◌<◌, ◌≤◌, List, [], ◌∷◌, ◌++◌, length, take, drop, Option, sym, refl, ap, ◌∙◌, subst, arith, take-append-drop, length-drop}
use Rattle.atomic_table.specs.Table.{Me}
use Rattle.turn_lock.specs.declared.rule.Knowledge.{Knowledge}
use Rattle.turn_lock.specs.Knowing.{calm, IsCalm}

only_one : (ns : List ℕ) → length ns ≡ 1 → (last : ℕ) × (ns ≡ last ∷ [])
only_one [] e = absurd (omega (arith, e))
only_one (x ∷ []) e = (x, refl)
only_one (x ∷ y ∷ xs) e = absurd (omega (arith, e))

-- the last of a list, cut off
pub cut_last : (ns : List ℕ) → 2 ≤ length ns → (last : ℕ) × (ns ≡ take (length ns - 1) ns ++ last ∷ []) × (drop (length ns - 1) ns ≡ last ∷ [])
cut_last ns two = let n : ℕ = length ns - 1 in let r = only_one (drop n ns) (omega (arith, two, length-drop n ns)) in (r.0, sym (take-append-drop n ns) ∙ ap (λ l. take n ns ++ l) r.1, r.1)

module _ {T M F : Type 0} where
  -- the seat of a new lock
  pub first_calm : (m : Me (Option T) (Knowledge M F)) (seats : ℕ) (ns : List ℕ) (seen : List M) (f : F) → m ≡ (calm seats ns seen f, []) → 0 < length ns → IsCalm m
  first_calm m seats ns seen f e some = record {
    no_slot = ap (λ (z : Me (Option T) (Knowledge M F)). z.1) e;
    no_ticket = ap (λ (z : Me (Option T) (Knowledge M F)). z.0.ticket) e;
    unserved = ap (λ (z : Me (Option T) (Knowledge M F)). z.0.served) e;
    none_joined = ap (λ (z : Me (Option T) (Knowledge M F)). z.0.joined_numbers) e;
    no_more_seen = ap (λ (z : Me (Option T) (Knowledge M F)). z.0.joined_seen) e;
    some_number = subst (λ (z : Me (Option T) (Knowledge M F)). 0 < length z.0.numbers) (sym e) some;
  }
