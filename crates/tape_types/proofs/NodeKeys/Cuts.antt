-- What a change at the place of a key does to the entries.
use Rattle.std.proofs.Common.{◌≡◌, ℕ, zero, suc, ◌+◌, ◌<◌, ◌≤◌, cond, not, List, [], ◌∷◌, length, get_or, set, Some, None, refl, sym, ap, ◌∙◌, subst, arith, Ordering, Less, Equal, Greater, is_eq}
use Rattle.std.specs.Ordering.{eq_by_cmp, ordering_reverse}
use Rattle.std.specs.List.{insert, remove}
use Rattle.std.proofs.lemmas.Cmp.{tied_itself}
use Rattle.std.proofs.lemmas.List.{length-map, get_or-map}
use Rattle.std.proofs.lemmas.Map.Keys.{Less-from_sorted}
use Rattle.std.specs.FinMap as fin
use Rattle.tape_types.specs.declared.node_keys.xattrs.Xattr.{Xattr}
use Rattle.tape_types.specs.NodeKeys.Keys.{key_cmp, keys_of, entries_of, IsAscending}
use Rattle.tape_types.specs.NodeKeys.Places.{IsKeyAt}
use Rattle.tape_types.proofs.NodeKeys.Ordered.{key_total}

-- the order of two attributes by their places
pub rising : (xs : List Xattr) → IsAscending xs → (i j : ℕ) (d : Xattr) → i < j → j < length xs → key_cmp (get_or xs i d).key (get_or xs j d).key ≡ Less
rising xs up i j d lt within =
    let key : Xattr → List ℕ = λ x. x.key in
    subst (λ k. key_cmp k (get_or xs j d).key ≡ Less) (get_or-map key xs i d d.key (omega arith))
    (subst (λ k. key_cmp (get_or (keys_of xs) i d.key) k ≡ Less) (get_or-map key xs j d d.key within)
    (Less-from_sorted key_cmp (keys_of xs) i j d.key up lt (subst (λ n. j < n) (sym (length-map xs key)) within)))

turned : (a b : List ℕ) (r : Ordering) → key_cmp a b ≡ r → key_cmp b a ≡ ordering_reverse r
turned a b r is = key_total.antisymm b a ∙ ap ordering_reverse is

module _ (key : List ℕ) where
  -- those before a place are below the key; those from a place on are above it
  abbrev pub IsLow : List Xattr → ℕ → Type 0
  IsLow xs at = (k : ℕ) (d : Xattr) → k < at → key_cmp (get_or xs k d).key key ≡ Less

  abbrev pub IsHigh : List Xattr → ℕ → Type 0
  IsHigh xs at = (k : ℕ) (d : Xattr) → at ≤ k → k < length xs → key_cmp (get_or xs k d).key key ≡ Greater

  -- those in front of a key's place are below the key
  pub low_here : (xs : List Xattr) (at : ℕ) → IsAscending xs → IsKeyAt xs key at → IsLow xs at
  low_here xs at up here k d lt = subst (λ q. key_cmp (get_or xs k d).key q ≡ Less) (here.is d) (rising xs up k at d lt here.in_range)

  -- those behind a key's place are above the key
  pub high_here : (xs : List Xattr) (at : ℕ) → IsAscending xs → IsKeyAt xs key at → IsHigh xs (at + 1)
  high_here xs at up here k d le within =
      turned key (get_or xs k d).key Less (subst (λ q. key_cmp q (get_or xs k d).key ≡ Less) (here.is d) (rising xs up at k d (omega arith) within))

  -- the key's place in a list that is one shorter
  next : (x : Xattr) (xs : List Xattr) (at : ℕ) → IsKeyAt (x ∷ xs) key (suc at) → IsKeyAt xs key at
  next x xs at here = record { in_range = omega (arith, here.in_range); is = here.is }

  tie : (x : Xattr) → x.key ≡ key → key_cmp key x.key ≡ Equal
  tie x is = subst (λ k. key_cmp key k ≡ Equal) (sym is) (tied_itself key_total key)

  -- an entry below the key is passed over
  over : (x : Xattr) (xs : List Xattr) (at : ℕ) → IsLow (x ∷ xs) (suc at) → key_cmp key x.key ≡ Greater
  over x xs at low = turned x.key key Less (low 0 x (omega arith))

  -- nothing is found, nor taken out, where all stand above the key
  pub none_found : (xs : List Xattr) → IsHigh xs 0 → fin.find key_cmp key (entries_of xs) ≡ None
  none_found [] high = refl
  none_found (x ∷ xs) high =
      ap (λ r. cond (is_eq r) (Some x.value) (fin.find key_cmp key (entries_of xs))) (turned x.key key Greater (high 0 x (omega arith) (omega arith)))
      ∙ none_found xs (λ k d le within. high (suc k) d (omega arith) (omega (arith, within)))

  abbrev pub others : List (List ℕ × List ℕ) → List (List ℕ × List ℕ)
  others es = fin.Entries.where_key key_cmp (λ k. not (eq_by_cmp key_cmp key k)) es

  pub none_out : (xs : List Xattr) → IsHigh xs 0 → others (entries_of xs) ≡ entries_of xs
  none_out [] high = refl
  none_out (x ∷ xs) high =
      ap (λ r. cond (not (is_eq r)) ((x.key, x.value) ∷ others (entries_of xs)) (others (entries_of xs))) (turned x.key key Greater (high 0 x (omega arith) (omega arith)))
      ∙ ap (λ es. (x.key, x.value) ∷ es) (none_out xs (λ k d le within. high (suc k) d (omega arith) (omega (arith, within))))

  -- at the place of the key
  pub found_here : (xs : List Xattr) (at : ℕ) (d : Xattr) → IsLow xs at → IsKeyAt xs key at → fin.find key_cmp key (entries_of xs) ≡ Some (get_or xs at d).value
  found_here [] at d low here = absurd (omega (arith, here.in_range))
  found_here (x ∷ xs) zero d low here = ap (λ r. cond (is_eq r) (Some x.value) (fin.find key_cmp key (entries_of xs))) (tie x (here.is d))
  found_here (x ∷ xs) (suc at) d low here =
      ap (λ r. cond (is_eq r) (Some x.value) (fin.find key_cmp key (entries_of xs))) (over x xs at low)
      ∙ found_here xs at d (λ k e lt. low (suc k) e (omega (arith, lt))) (next x xs at here)

  -- putting a value in for a key that stands there replaces the attribute at its place
  pub put_here : (value : List ℕ) (xs : List Xattr) (at : ℕ) (y : Xattr) → IsLow xs at → IsKeyAt xs key at → y.key ≡ key → y.value ≡ value → fin.put key_cmp key value (entries_of xs) ≡ entries_of (set xs at y)
  put_here value [] at y low here is told = absurd (omega (arith, here.in_range))
  put_here value (x ∷ xs) zero y low here is told =
      ap (λ r. fin.Entries.by_order r ((key, value) ∷ entries_of (x ∷ xs)) ((x.key, value) ∷ entries_of xs) ((x.key, x.value) ∷ fin.put key_cmp key value (entries_of xs))) (tie x (here.is y))
      ∙ (λ i. ((here.is y ∙ sym is) i, sym told i) ∷ entries_of xs)
  put_here value (x ∷ xs) (suc at) y low here is told =
      ap (λ r. fin.Entries.by_order r ((key, value) ∷ entries_of (x ∷ xs)) ((x.key, value) ∷ entries_of xs) ((x.key, x.value) ∷ fin.put key_cmp key value (entries_of xs))) (over x xs at low)
      ∙ ap (λ es. (x.key, x.value) ∷ es) (put_here value xs at y (λ k e lt. low (suc k) e (omega (arith, lt))) (next x xs at here) is told)

  -- the entries of other keys are those without the one at the key's place
  pub out_here : (xs : List Xattr) (at : ℕ) → IsLow xs at → IsKeyAt xs key at → IsHigh xs (at + 1) → others (entries_of xs) ≡ entries_of (remove xs at)
  out_here [] at low here high = absurd (omega (arith, here.in_range))
  out_here (x ∷ xs) zero low here high =
      ap (λ r. cond (not (is_eq r)) ((x.key, x.value) ∷ others (entries_of xs)) (others (entries_of xs))) (tie x (here.is x))
      ∙ none_out xs (λ k d le within. high (suc k) d (omega arith) (omega (arith, within)))
  out_here (x ∷ xs) (suc at) low here high =
      ap (λ r. cond (not (is_eq r)) ((x.key, x.value) ∷ others (entries_of xs)) (others (entries_of xs))) (over x xs at low)
      ∙ ap (λ es. (x.key, x.value) ∷ es)
      (out_here xs at (λ k e lt. low (suc k) e (omega (arith, lt))) (next x xs at here) (λ k d le within. high (suc k) d (omega (arith, le)) (omega (arith, within))))

  -- at the place where the key would stand
  pub found_gap : (xs : List Xattr) (at : ℕ) → at ≤ length xs → IsLow xs at → IsHigh xs at → fin.find key_cmp key (entries_of xs) ≡ None
  found_gap xs zero le low high = none_found xs high
  found_gap [] (suc at) le low high = refl
  found_gap (x ∷ xs) (suc at) le low high =
      ap (λ r. cond (is_eq r) (Some x.value) (fin.find key_cmp key (entries_of xs))) (over x xs at low)
      ∙ found_gap xs at (omega (arith, le)) (λ k e lt. low (suc k) e (omega (arith, lt))) (λ k d up within. high (suc k) d (omega (arith, up)) (omega (arith, within)))

  -- putting a value in for a new key inserts an attribute at its gap
  pub put_gap : (value : List ℕ) (xs : List Xattr) (at : ℕ) (y : Xattr) → at ≤ length xs → IsLow xs at → IsHigh xs at → y.key ≡ key → y.value ≡ value → fin.put key_cmp key value (entries_of xs) ≡ entries_of (insert xs at y)
  put_gap value [] zero y le low high is told = λ i. (sym is i, sym told i) ∷ []
  put_gap value [] (suc at) y le low high is told = absurd (omega (arith, le))
  put_gap value (x ∷ xs) zero y le low high is told =
      ap (λ r. fin.Entries.by_order r ((key, value) ∷ entries_of (x ∷ xs)) ((x.key, value) ∷ entries_of xs) ((x.key, x.value) ∷ fin.put key_cmp key value (entries_of xs))) (turned x.key key Greater (high 0 x (omega arith) (omega arith)))
      ∙ (λ i. (sym is i, sym told i) ∷ entries_of (x ∷ xs))
  put_gap value (x ∷ xs) (suc at) y le low high is told =
      ap (λ r. fin.Entries.by_order r ((key, value) ∷ entries_of (x ∷ xs)) ((x.key, value) ∷ entries_of xs) ((x.key, x.value) ∷ fin.put key_cmp key value (entries_of xs))) (over x xs at low)
      ∙ ap (λ es. (x.key, x.value) ∷ es)
      (put_gap value xs at y (omega (arith, le)) (λ k e lt. low (suc k) e (omega (arith, lt))) (λ k d up within. high (suc k) d (omega (arith, up)) (omega (arith, within))) is told)

  -- where a key has only a gap, all entries are of other keys
  pub out_gap : (xs : List Xattr) (at : ℕ) → at ≤ length xs → IsLow xs at → IsHigh xs at → others (entries_of xs) ≡ entries_of xs
  out_gap xs zero le low high = none_out xs high
  out_gap [] (suc at) le low high = refl
  out_gap (x ∷ xs) (suc at) le low high =
      ap (λ r. cond (not (is_eq r)) ((x.key, x.value) ∷ others (entries_of xs)) (others (entries_of xs))) (over x xs at low)
      ∙ ap (λ es. (x.key, x.value) ∷ es) (out_gap xs at (omega (arith, le)) (λ k e lt. low (suc k) e (omega (arith, lt))) (λ k d up within. high (suc k) d (omega (arith, up)) (omega (arith, within))))
