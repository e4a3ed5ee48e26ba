-- Attributes that are sorted by their keys: they ascend where no key stands twice, and say the same map.
use Rattle.std.proofs.Common.{◌≡◌, ℕ, zero, suc, ◌+◌, ◌<◌, Bool, true, false, cond, List, [], ◌∷◌, length, get_or, Some, None, Option, Contains, refl, sym, ap, ap₂, ◌∙◌, subst, arith, Ordering, Less, Equal, Greater, is_lt, is_eq}
use Rattle.std.specs.Ordering.{eq_by_cmp, ordering_reverse}
use Rattle.std.specs.Cmp.{IsStrictWeakOrder}
use Rattle.std.specs.List.Sorted.{IsPermutation, IsSortedBy}
use Rattle.std.proofs.lemmas.Cmp.{tied_itself, eq_by_cmp_equiv}
use Rattle.std.proofs.lemmas.List.{length-map, get_or-map}
use Rattle.std.proofs.lemmas.List.Sorted.{ranks_by, IsPermutation-map, IsPermutation-sym, Contains-permutation}
use Rattle.std.proofs.lemmas.Map.Keys.{IsDistinct-IsPermutation, IsDistinct-tail, apart_from_distinct, sorted_from_all_adjacent}
use Rattle.std.specs.FinMap as fin
use Rattle.std.proofs.lemmas.Option.{same_Some}
use Rattle.tape_types.specs.declared.node_keys.xattrs.Xattr.{Xattr}
use Rattle.tape_types.specs.NodeKeys.Keys.{key_cmp, keys_of, entries_of, map_of, IsAscending, AreKeysApart}
use Rattle.tape_types.proofs.NodeKeys.Ordered.{key_total, key_exact, get_is}

-- by the keys
abbrev pub by_key : Xattr → Xattr → Bool
by_key x y = is_lt (key_cmp x.key y.key)

-- comparing attributes by their keys ranks them
pub by_key_ranks : IsStrictWeakOrder by_key
by_key_ranks = ranks_by key_total (λ (x : Xattr). x.key)

-- no key stands twice, in whatever order
pub still_apart : (xs ys : List Xattr) → IsPermutation xs ys → AreKeysApart xs → AreKeysApart ys
still_apart xs ys moved apart =
    IsDistinct-IsPermutation (eq_by_cmp key_cmp) (eq_by_cmp_equiv key_total).symm (keys_of xs) (keys_of ys) (IsPermutation-map (λ (x : Xattr). x.key) xs ys moved) apart

-- neither equal nor above
lower : (a b : List ℕ) → is_lt (key_cmp b a) ≡ false → eq_by_cmp key_cmp a b ≡ false → key_cmp a b ≡ Less
lower a b not_above differ = cases (key_cmp a b) refl
  where
    cases : (r : Ordering) → key_cmp a b ≡ r → key_cmp a b ≡ Less
    cases Less is = is
    cases Equal is = let wrong : true ≡ false = ap is_eq (sym is) ∙ differ in cc
    cases Greater is = let wrong : true ≡ false = ap is_lt (sym (key_total.antisymm b a ∙ ap ordering_reverse is)) ∙ not_above in cc

-- sorted attributes with each key once ascend strictly
pub ascend_sorted : (ys : List Xattr) → IsSortedBy by_key ys → AreKeysApart ys → IsAscending ys
ascend_sorted [] up apart = sorted_from_all_adjacent key_total [] [] (λ k lt. absurd (omega (arith, lt)))
ascend_sorted (y ∷ ys) up apart = sorted_from_all_adjacent key_total (keys_of (y ∷ ys)) y.key (λ k lt.
    let key : Xattr → List ℕ = λ x. x.key in
    let all = y ∷ ys in
    let within : k + 1 < length all = subst (λ n. k + 1 < n) (length-map all key) lt in
    let here : get_or (keys_of all) k y.key ≡ (get_or all k y).key = get_or-map key all k y y.key (omega arith) in
    let next : get_or (keys_of all) (k + 1) y.key ≡ (get_or all (k + 1) y).key = get_or-map key all (k + 1) y y.key within in
    lower (get_or (keys_of all) k y.key) (get_or (keys_of all) (k + 1) y.key)
    (ap₂ (λ a b. is_lt (key_cmp a b)) next here ∙ up k y (omega arith) within)
    (apart_from_distinct (eq_by_cmp key_cmp) (keys_of all) k (k + 1) y.key apart (omega arith) lt))

-- what compares as equal does so by its order
pub tied : (r : Ordering) → is_eq r ≡ true → r ≡ Equal
tied Less e = cc
tied Equal e = refl
tied Greater e = cc

-- an attribute of the list with this key and this value
abbrev pub HasOne : List Xattr → List ℕ → List ℕ → Type 0
HasOne xs key value = (x : Xattr) × Contains xs x × (x.key ≡ key) × (x.value ≡ value)

-- what is found under a key is the value of one that has it
pub found_one : (xs : List Xattr) (key value : List ℕ) → fin.find key_cmp key (entries_of xs) ≡ Some value → HasOne xs key value
found_one [] key value is = cc
found_one (x ∷ xs) key value is = cases (eq_by_cmp key_cmp key x.key) refl (found_one xs key value)
  where
    cases : (b : Bool) → eq_by_cmp key_cmp key x.key ≡ b → (fin.find key_cmp key (entries_of xs) ≡ Some value → HasOne xs key value) → HasOne (x ∷ xs) key value
    cases true tie behind =
        let told : Some x.value ≡ Some value = ap (λ b. cond b (Some x.value) (fin.find key_cmp key (entries_of xs))) (sym tie) ∙ is in
        (x, (0, omega arith, refl), sym (key_exact key x.key (tied (key_cmp key x.key) tie)), same_Some x.value value told)
    cases false differ behind =
        let rest = behind (ap (λ b. cond b (Some x.value) (fin.find key_cmp key (entries_of xs))) (sym differ) ∙ is) in
        (rest.0, (suc rest.1.0, omega (arith, rest.1.1), rest.1.2), rest.2, rest.3)

-- one that is there is found, where no key stands twice
pub one_found : (xs : List Xattr) (x : Xattr) → AreKeysApart xs → Contains xs x → fin.find key_cmp x.key (entries_of xs) ≡ Some x.value
one_found [] x apart here = absurd (omega (arith, here.1))
one_found (y ∷ ys) x apart (zero, within, is) =
    ap (λ (z : Xattr). fin.find key_cmp x.key (entries_of (z ∷ ys))) is ∙ ap (λ r. cond (is_eq r) (Some x.value) (fin.find key_cmp x.key (entries_of ys))) (tied_itself key_total x.key)
one_found (y ∷ ys) x apart (suc k, within, is) =
    let key : Xattr → List ℕ = λ z. z.key in
    let in_rest : k < length ys = omega (arith, within) in
    let there : get_or (keys_of ys) k x.key ≡ x.key = get_or-map key ys k x x.key in_rest ∙ ap key is in
    let differ : eq_by_cmp key_cmp x.key y.key ≡ false =
    (eq_by_cmp_equiv key_total).symm x.key y.key ∙ ap (eq_by_cmp key_cmp y.key) (sym there)
    ∙ apart_from_distinct (eq_by_cmp key_cmp) (keys_of (y ∷ ys)) 0 (suc k) x.key apart (omega arith) (subst (λ n. suc k < n) (sym (length-map (y ∷ ys) key)) (omega (arith, in_rest))) in
    ap (λ b. cond b (Some y.value) (fin.find key_cmp x.key (entries_of ys))) differ ∙ one_found ys x (IsDistinct-tail (eq_by_cmp key_cmp) y.key (keys_of ys) apart) (k, in_rest, is)

carried : (xs ys : List Xattr) → IsPermutation xs ys → AreKeysApart ys → (key value : List ℕ) → fin.find key_cmp key (entries_of xs) ≡ Some value → fin.find key_cmp key (entries_of ys) ≡ Some value
carried xs ys moved apart key value is =
    let one = found_one xs key value is in
    subst (λ k. fin.find key_cmp k (entries_of ys) ≡ Some value) one.2 (one_found ys one.0 apart (Contains-permutation xs ys one.0 moved one.1) ∙ ap (λ v. Some v) one.3)

same_found : (xs ys : List Xattr) → IsPermutation xs ys → AreKeysApart xs → (key : List ℕ) → fin.find key_cmp key (entries_of xs) ≡ fin.find key_cmp key (entries_of ys)
same_found xs ys moved apart key = cases (fin.find key_cmp key (entries_of xs)) (fin.find key_cmp key (entries_of ys)) refl refl
  where
    cases : (a b : Option (List ℕ)) → fin.find key_cmp key (entries_of xs) ≡ a → fin.find key_cmp key (entries_of ys) ≡ b → fin.find key_cmp key (entries_of xs) ≡ fin.find key_cmp key (entries_of ys)
    cases (Some v) b is also = is ∙ sym (carried xs ys moved (still_apart xs ys moved apart) key v is)
    cases None (Some v) is also = carried ys xs (IsPermutation-sym xs ys moved) apart key v also ∙ sym also
    cases None None is also = is ∙ sym also

-- attributes in any order say one map
pub same_map : (xs ys : List Xattr) → IsPermutation xs ys → AreKeysApart xs → map_of xs ≡ map_of ys
same_map xs ys moved apart = fin.same_map key_total key_exact (map_of xs) (map_of ys) (λ q. get_is xs q ∙ same_found xs ys moved apart q ∙ sym (get_is ys q))
