-- What a search by halves finds among attributes in order.
use Rattle.std.proofs.Common.{◌≡◌, ℕ, ◌≤◌, List, length, get_or, ⊎_elim, eq-or-lt_of_le, le_refl, refl, ◌∙◌, Result, Ok, Err, IfOk, IfErr, sym, subst, arith, Ordering, Less, Equal, Greater}
use Rattle.std.specs.Ordering.{ordering_index}
use Rattle.std.specs.List.Sorted.{IsSearchInRange, IsBinarySearchResult, IsNonDecreasingBy}
use Rattle.std.proofs.lemmas.Cmp.{alike_right}
use Rattle.tape_types.specs.declared.node_keys.xattrs.Xattr.{Xattr}
use Rattle.tape_types.specs.NodeKeys.Keys.{key_cmp, IsAscending}
use Rattle.tape_types.specs.NodeKeys.Places.{IsKeyAt, IsGapFor}
use Rattle.tape_types.proofs.NodeKeys.Ordered.{key_total, key_exact}
use Rattle.tape_types.proofs.NodeKeys.Cuts.{rising}

top : (r : Ordering) → ordering_index r ≤ 2
top Less = omega arith
top Equal = omega arith
top Greater = omega arith

-- the lower of two keys compares no higher with a third
climbs : (a b key : List ℕ) → key_cmp a b ≡ Less → ordering_index (key_cmp a key) ≤ ordering_index (key_cmp b key)
climbs a b key lt = cases (key_cmp b key) refl
  where
    cases : (r : Ordering) → key_cmp b key ≡ r → ordering_index (key_cmp a key) ≤ ordering_index (key_cmp b key)
    cases Less is = rw (is, key_total.trans a b key lt is) (le_refl _)
    cases Equal is = rw (is, sym (alike_right key_total b key a is) ∙ lt) (omega arith)
    cases Greater is = rw is (top (key_cmp a key))

keys_rise : (xs : List Xattr) (key : List ℕ) → IsAscending xs → IsNonDecreasingBy (λ (x : Xattr). ordering_index (key_cmp x.key key)) xs
keys_rise xs key up i j d le within = ⊎_elim (λ (same : i ≡ j). subst (λ k. ordering_index (key_cmp (get_or xs i d).key key) ≤ ordering_index (key_cmp (get_or xs k d).key key)) same (le_refl _))
    (λ lt. climbs (get_or xs i d).key (get_or xs j d).key key (rising xs up i j d lt within)) (eq-or-lt_of_le le)

-- a search by halves finds the place of a key, or the gap for it
pub searched : (xs : List Xattr) (key : List ℕ) (r : Result ℕ ℕ) → IsAscending xs → IsSearchInRange r (length xs) → IsBinarySearchResult (λ (x : Xattr). key_cmp x.key key) xs r → record { there : IfOk r (IsKeyAt xs key); absent : IfErr r (IsGapFor xs key) }
searched xs key (Ok at) up within equal = record { there = record { in_range = within; is = λ d. key_exact _ key (equal d) }; absent = tt }
searched xs key (Err at) up within parted =
    let parts = parted (keys_rise xs key up) in
    record { there = tt; absent = record { in_range = within; below = λ k d lt. parts.0 k d (omega arith) lt; above = λ k d le lt. parts.1 k d le lt } }
