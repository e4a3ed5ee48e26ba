-- The items of a list.
use Rattle.std.proofs.Common.{Option, get_or, ◌≡◌, ◌≢◌, ℕ, zero, suc, ◌<◌, List, [], ◌∷◌, ◌++◌, length, set, Some, None, slice_get, is_some, sym, ap, ◌∙◌, refl, arith, inl, inr, ⊎_elim, ◌⊎◌, true≢false}
use Rattle.std.proofs.lemmas.Option.{slice_get_read}
use Rattle.name_tries.specs.Listing.{IsIn}

module _ {X : Type 0} where
  -- two things that are given as the same are one
  pub some_same : (x y : X) → ◌≡◌ {A = Option X} (Some x) (Some y) → x ≡ y
  some_same x y is = cc

  -- the item that was set
  pub set_here : (xs : List X) (i : ℕ) (x : X) → i < length xs → slice_get (set xs i x) i ≡ Some x
  set_here [] i x lt = absurd (omega arith)
  set_here (y ∷ xs) zero x lt = refl
  set_here (y ∷ xs) (suc i) x lt = set_here xs i x (omega arith)

  -- all other items stay
  pub set_other : (xs : List X) (i k : ℕ) (x : X) → k ≢ i → slice_get (set xs i x) k ≡ slice_get xs k
  set_other [] i k x apart = refl
  set_other (y ∷ xs) zero zero x apart = absurd (apart refl)
  set_other (y ∷ xs) zero (suc k) x apart = refl
  set_other (y ∷ xs) (suc i) zero x apart = refl
  set_other (y ∷ xs) (suc i) (suc k) x apart = set_other xs i k x (λ e. apart (ap suc e))

  -- what stood in the list stays as one more comes behind
  pub push_other : (xs : List X) (x : X) (k : ℕ) (y : X) → slice_get xs k ≡ Some y → slice_get (xs ++ x ∷ []) k ≡ Some y
  push_other [] x k y is = cc
  push_other (z ∷ xs) x zero y is = is
  push_other (z ∷ xs) x (suc k) y is = push_other xs x k y is

  -- the one that comes behind
  pub push_here : (xs : List X) (x : X) (k : ℕ) → k ≡ length xs → slice_get (xs ++ x ∷ []) k ≡ Some x
  push_here [] x zero long = refl
  push_here [] x (suc k) long = absurd (omega arith)
  push_here (z ∷ xs) x zero long = absurd (omega arith)
  push_here (z ∷ xs) x (suc k) long = push_here xs x k (omega arith)

  -- what stands there is what stood there, or the one that came behind
  pub push_cases : (xs : List X) (x : X) (k : ℕ) (y : X) → slice_get (xs ++ x ∷ []) k ≡ Some y → (slice_get xs k ≡ Some y) ⊎ ((k ≡ length xs) × (x ≡ y))
  push_cases [] x zero y is = inr (refl, some_same x y is)
  push_cases [] x (suc k) y is = cc
  push_cases (z ∷ xs) x zero y is = inl is
  push_cases (z ∷ xs) x (suc k) y is = ⊎_elim (λ old. inl old) (λ new. inr (ap suc new.0, new.1)) (push_cases xs x k y is)

  -- what was read at a place within
  pub read_at : (xs : List X) (k : ℕ) (x : X) → k < length xs → x ≡ get_or xs k x → slice_get xs k ≡ Some x
  read_at xs k x lt is = slice_get_read xs (length xs) k x refl lt is

  -- something stands at each place within
  pub item_at : (xs : List X) (k : ℕ) → k < length xs → (x : X) × (slice_get xs k ≡ Some x)
  item_at [] k lt = absurd (omega arith)
  item_at (x ∷ xs) zero lt = (x, refl)
  item_at (x ∷ xs) (suc k) lt = item_at xs k (omega arith)

  -- nothing is not something
  pub none_not : (o : Option X) (x : X) → o ≡ None → o ≡ Some x → ⊥
  none_not o x none some = true≢false (sym (ap is_some some) ∙ ap is_some none)

  -- ---- what a list has

  -- what is in the first list is in both together
  pub in_front : (x : X) (xs ys : List X) → IsIn x xs → IsIn x (xs ++ ys)
  in_front x [] ys none = elim none [ ]
  in_front x (y ∷ xs) ys (inl same) = inl same
  in_front x (y ∷ xs) ys (inr more) = inr (in_front x xs ys more)

  -- what is in the second list is in both together
  pub in_rest : (x : X) (xs ys : List X) → IsIn x ys → IsIn x (xs ++ ys)
  in_rest x [] ys more = more
  in_rest x (y ∷ xs) ys more = inr (in_rest x xs ys more)

  -- what is in two lists together is in one of them
  pub in_either : (x : X) (xs ys : List X) → IsIn x (xs ++ ys) → IsIn x xs ⊎ IsIn x ys
  in_either x [] ys more = inr more
  in_either x (y ∷ xs) ys (inl same) = inl (inl same)
  in_either x (y ∷ xs) ys (inr more) = ⊎_elim (λ here. inl (inr here)) (λ there. inr there) (in_either x xs ys more)
