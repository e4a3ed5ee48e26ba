-- What a list has.
use Rattle.std.proofs.Common.{◌≡◌, ◌≢◌, ℕ, zero, suc, ◌≤◌, List, [], ◌∷◌, ◌++◌, length, Some, sym, ap, ◌∙◌, refl, subst, arith, inl, inr, ⊎_elim}
use Rattle.std.specs.Prelude.{⊤}
use Rattle.std.specs.List.{AllByRecursion, swap}
use Rattle.std.specs.List.Sorted.{IsPermutation}
use Rattle.std.proofs.lemmas.List.Sorted.{IsPermutation-keeps}
use Rattle.index_model.specs.Places.{IsAt}
use Rattle.index_model.proofs.Exchanged.{IsMoved, goes_to}
use Rattle.file_tree.specs.Order.{IsIn}
use Rattle.name_tries.proofs.ItemLemmas.{some_same}
pub use Rattle.name_tries.proofs.ItemLemmas.{in_front, in_rest, in_either}

module _ {X : Type 0} where
  -- what is in a list stands at some place of it
  pub placed : (x : X) (xs : List X) → IsIn x xs → (i : ℕ) × IsAt xs i x
  placed x [] none = elim none [ ]
  placed x (y ∷ xs) (inl same) = (0, ap (λ z. Some z) (sym same))
  placed x (y ∷ xs) (inr more) = let at = placed x xs more in (suc at.0, at.1)

  -- what stands at a place of a list is in it
  pub found : (x : X) (xs : List X) (i : ℕ) → IsAt xs i x → IsIn x xs
  found x [] i is = cc
  found x (y ∷ xs) zero is = inl (sym (some_same y x is))
  found x (y ∷ xs) (suc i) is = inr (found x xs i is)

  -- what holds of all elements holds of one that is in the list
  pub of_all : (P : X → Type 0) (x : X) (xs : List X) → AllByRecursion P xs → IsIn x xs → P x
  of_all P x [] all none = elim none [ ]
  of_all P x (y ∷ xs) all (inl same) = subst P (sym same) all.0
  of_all P x (y ∷ xs) all (inr more) = of_all P x xs all.1 more

  -- what holds of whatever is in a list holds of all elements
  pub to_all : (P : X → Type 0) (xs : List X) → ((x : X) → IsIn x xs → P x) → AllByRecursion P xs
  to_all P [] each = tt
  to_all P (x ∷ xs) each = (each x (inl refl), to_all P xs (λ y more. each y (inr more)))

  -- a rearranged list has what the first had
  pub moved_in : (xs ys : List X) → IsPermutation xs ys → (x : X) → IsIn x xs → IsIn x ys
  moved_in xs ys moved x here = IsPermutation-keeps xs (IsIn x) here
      (λ l i j in_i in_j is. let at = placed x l is in let there = goes_to l i j in_i in_j at.0 x at.1 in found x (swap l i j) there.to there.is)
      ys moved

-- places that differ go to places that differ, as two elements change places
pub still_apart : (i j from to other there : ℕ) → IsMoved i j from to → IsMoved i j other there → from ≢ other → to ≢ there
still_apart i j from to other there (inl a) (inl b) apart same = apart (omega (arith, a, b))
still_apart i j from to other there (inl a) (inr (inl b)) apart same = apart (omega (arith, a, b, same))
still_apart i j from to other there (inl a) (inr (inr b)) apart same = b.1 (omega (arith, a, b.2, same))
still_apart i j from to other there (inr (inl a)) (inl b) apart same = apart (omega (arith, a, b, same))
still_apart i j from to other there (inr (inl a)) (inr (inl b)) apart same = apart (omega (arith, a, b))
still_apart i j from to other there (inr (inl a)) (inr (inr b)) apart same = b.0 (omega (arith, a, b.2, same))
still_apart i j from to other there (inr (inr a)) (inl b) apart same = a.1 (omega (arith, a.2, b, same))
still_apart i j from to other there (inr (inr a)) (inr (inl b)) apart same = a.0 (omega (arith, a.2, b, same))
still_apart i j from to other there (inr (inr a)) (inr (inr b)) apart same = apart (omega (arith, a.2, b.2, same))

-- ---- lists in an order

module _ {X : Type 0} (R : X → X → Type 0) where
  -- each comes before all later ones
  abbrev pub Up : List X → Type 0
  Up [] = ⊤
  Up (x ∷ xs) = AllByRecursion (R x) xs × Up xs

  module _ (asym : (x y : X) → R x y → R y x → ⊥) where
    same_head : (x y : X) (xs ys : List X) → AllByRecursion (R x) xs → AllByRecursion (R y) ys → IsIn x (y ∷ ys) → IsIn y (x ∷ xs) → x ≡ y
    same_head x y xs ys up also (inl same) back = same
    same_head x y xs ys up also (inr later) (inl same) = sym same
    same_head x y xs ys up also (inr later) (inr early) = absurd (asym x y (of_all (R x) y xs up early) (of_all (R y) x ys also later))

    later_too : (x y : X) (xs ys : List X) → AllByRecursion (R x) xs → x ≡ y → ((e : X) → IsIn e (x ∷ xs) → IsIn e (y ∷ ys)) → (e : X) → IsIn e xs → IsIn e ys
    later_too x y xs ys up same forth e here = ⊎_elim
        (λ (is : e ≡ y). let self : R x x = subst (R x) (is ∙ sym same) (of_all (R x) e xs up here) in absurd (asym x x self self))
        (λ more. more)
        (forth e (inr here))

    -- two lists in order that have the same are one
    pub same_up : (xs ys : List X) → Up xs → Up ys → ((e : X) → IsIn e xs → IsIn e ys) → ((e : X) → IsIn e ys → IsIn e xs) → xs ≡ ys
    same_up [] [] up also forth back = refl
    same_up [] (y ∷ ys) up also forth back = absurd (back y (inl refl))
    same_up (x ∷ xs) [] up also forth back = absurd (forth x (inl refl))
    same_up (x ∷ xs) (y ∷ ys) up also forth back =
        let head = same_head x y xs ys up.0 also.0 (forth x (inl refl)) (back y (inl refl)) in
        ap (λ z. z ∷ xs) head ∙ ap (λ l. y ∷ l) (same_up xs ys up.1 also.1 (later_too x y xs ys up.0 head forth) (later_too y x ys xs also.0 (sym head) back))

    -- a list in order is no longer than one that has all of it
    pub no_longer : (xs ys : List X) → Up xs → Up ys → ((e : X) → IsIn e xs → IsIn e ys) → length xs ≤ length ys
    no_longer [] ys up also forth = omega arith
    no_longer (x ∷ xs) [] up also forth = absurd (forth x (inl refl))
    no_longer (x ∷ xs) (y ∷ ys) up also forth = by (forth x (inl refl)) (λ same. no_longer xs ys up.1 also.1 (later_too x y xs ys up.0 same forth)) (λ all. no_longer (x ∷ xs) ys up also.1 all)
      where
        by : IsIn x (y ∷ ys) → (x ≡ y → length xs ≤ length ys) → (((e : X) → IsIn e (x ∷ xs) → IsIn e ys) → length (x ∷ xs) ≤ length ys) → length (x ∷ xs) ≤ length (y ∷ ys)
        by (inl same) less more = omega (arith, less same)
        by (inr later) less more = omega (arith, more all)
          where
            all : (e : X) → IsIn e (x ∷ xs) → IsIn e ys
            all e (inl same) = subst (λ z. IsIn z ys) (sym same) later
            all e (inr here) = ⊎_elim
                (λ (is : e ≡ y). absurd (asym x y (subst (R x) is (of_all (R x) e xs up.0 here)) (of_all (R y) x ys also.0 later)))
                (λ more. more)
                (forth e (inr here))

  -- two ascending lists, the first below the second, ascend together
  pub up_join : (xs ys : List X) → Up xs → Up ys → ((a b : X) → IsIn a xs → IsIn b ys → R a b) → Up (xs ++ ys)
  up_join [] ys up also across = also
  up_join (x ∷ xs) ys up also across = (
    to_all (R x) (xs ++ ys) (λ e here. ⊎_elim (λ front. of_all (R x) e xs up.0 front) (λ rest. across x e (inl refl) rest) (in_either e xs ys here)),
    up_join xs ys up.1 also (λ a b front rest. across a b (inr front) rest),
  )
