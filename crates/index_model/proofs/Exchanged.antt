-- Where elements go as two of a list change places.
use Rattle.std.proofs.Common.{◌≡◌, ◌≢◌, ◌⊎◌, ℕ, ◌<◌, List, length, get_or, inl, inr, refl, sym, ap, ◌∙◌, arith}
use Rattle.std.proofs.Math.ListN.{set, length-set}
use Rattle.std.proofs.lemmas.Bool.{cases_eq}
use Rattle.std.proofs.lemmas.List.{get_or-set_same, get_or-set_other}
use Rattle.std.proofs.lemmas.List.Edits.{length-swap, swap_is}
use Rattle.std.proofs.lemmas.Option.{get_or_from_slice_get, slice_get_read, slice_get_within}
use Rattle.std.specs.List.{swap}
use Rattle.index_model.specs.Places.{IsAt}

-- the place to which an element goes as those at i and j change places
abbrev pub IsMoved : ℕ → ℕ → ℕ → ℕ → Type 0
IsMoved i j from to = ((from ≡ i) × (to ≡ j)) ⊎ (((from ≡ j) × (to ≡ i)) ⊎ ((from ≢ i) × (from ≢ j) × (to ≡ from)))

-- places that differ go to places that differ
pub stay_apart : (i j from to other there : ℕ) → IsMoved i j from to → IsMoved i j other there → from ≢ other → to ≢ there
stay_apart i j from to other there (inl a) (inl b) apart same = apart (omega (arith, a, b))
stay_apart i j from to other there (inl a) (inr (inl b)) apart same = apart (omega (arith, a, b, same))
stay_apart i j from to other there (inl a) (inr (inr b)) apart same = b.1 (omega (arith, a, b.2, same))
stay_apart i j from to other there (inr (inl a)) (inl b) apart same = apart (omega (arith, a, b, same))
stay_apart i j from to other there (inr (inl a)) (inr (inl b)) apart same = apart (omega (arith, a, b))
stay_apart i j from to other there (inr (inl a)) (inr (inr b)) apart same = b.0 (omega (arith, a, b.2, same))
stay_apart i j from to other there (inr (inr a)) (inl b) apart same = a.1 (omega (arith, a.2, b, same))
stay_apart i j from to other there (inr (inr a)) (inr (inl b)) apart same = a.0 (omega (arith, a.2, b, same))
stay_apart i j from to other there (inr (inr a)) (inr (inr b)) apart same = apart (omega (arith, a.2, b.2, same))

module _ {X : Type 0} (xs : List X) (i j : ℕ) (in_i : i < length xs) (in_j : j < length xs) where
  -- what stands at a place stands at another afterwards
  pub record GoesTo (from : ℕ) (x : X) : Type 0 where
    pub to : ℕ
    pub moved : IsMoved i j from to
    pub is : IsAt (swap xs i j) to x

  read : (to : ℕ) (x : X) → to < length xs → x ≡ get_or (swap xs i j) to x → IsAt (swap xs i j) to x
  read to x less is = slice_get_read (swap xs i j) (length xs) to x (sym (length-swap xs i j)) less is

  -- so an element goes where its place does
  pub goes_to : (from : ℕ) (x : X) → IsAt xs from x → GoesTo from x
  goes_to from x is =
      let value : get_or xs from x ≡ x = get_or_from_slice_get xs from x x is in
      let less = slice_get_within xs from x is in
      let swapped : (k : ℕ) → get_or (set (set xs i (get_or xs j x)) j (get_or xs i x)) k x ≡ get_or (swap xs i j) k x = λ k. ap (λ ys. get_or ys k x) (swap_is xs i j x in_i in_j) in
      let inner : j < length (set xs i (get_or xs j x)) = omega (arith, in_j, length-set xs i (get_or xs j x)) in
      elim (cases_eq from i) [
        | inl at_i ↦
            let here = get_or-set_same (set xs i (get_or xs j x)) j (get_or xs i x) x inner in
            record { to = j; moved = inl (at_i, refl); is = read j x in_j (sym value ∙ ap (λ k. get_or xs k x) at_i ∙ sym here ∙ swapped j) }
        | inr not_i ↦ elim (cases_eq from j) [
          | inl at_j ↦
              let apart : i ≢ j = λ same. not_i (at_j ∙ sym same) in
              let here = get_or-set_other (set xs i (get_or xs j x)) j i (get_or xs i x) x apart ∙ get_or-set_same xs i (get_or xs j x) x in_i in
              record { to = i; moved = inr (inl (at_j, refl)); is = read i x in_i (sym value ∙ ap (λ k. get_or xs k x) at_j ∙ sym here ∙ swapped i) }
          | inr not_j ↦
              let here = get_or-set_other (set xs i (get_or xs j x)) j from (get_or xs i x) x not_j ∙ get_or-set_other xs i from (get_or xs j x) x not_i in
              record { to = from; moved = inr (inr (not_i, not_j, refl)); is = read from x less (sym value ∙ sym here ∙ swapped from) }
        ]
      ]
