-- The list that a map of attributes says, and what a map says of the list that it came from.
use Rattle.std.proofs.Common.{◌≡◌, ℕ, zero, suc, ◌<◌, Bool, true, false, T, List, [], ◌∷◌, map, Some, Contains, refl, sym, ap, ◌∙◌, subst, arith, is_eq}
use Rattle.std.specs.List.{AllByRecursion, slice_get, IsDistinct}
use Rattle.std.specs.Ordering.{eq_by_cmp}
use Rattle.std.proofs.lemmas.Cmp.{tied_itself}
use Rattle.std.proofs.lemmas.Map.Keys.{IsDistinct-from_sorted, IsDistinct-cons, IsDistinct-head, IsDistinct-tail}
use Rattle.std.specs.FinMap as fin
use Rattle.std.proofs.lemmas.Option.{same_Some}
use Rattle.tape_types.specs.declared.node_keys.xattrs.Xattr.{Xattr}
use Rattle.tape_types.specs.NodeKeys.Keys.{KeyMap, key_cmp, keys_of, entries_of, map_of, list_of, IsAscending, AreKeysApart}
use Rattle.tape_types.proofs.NodeKeys.Ordered.{key_total, key_exact, get_is, entries_are, from_sorted}
use Rattle.tape_types.proofs.NodeKeys.SortLemmas.{found_one, one_found, tied}

-- ---- a map and its list

abbrev rows : List (List ℕ × List ℕ) → List Xattr
rows es = map (λ e. record { key = e.0; value = e.1 }) es

told : (es : List (List ℕ × List ℕ)) → entries_of (rows es) ≡ es
told [] = refl
told (e ∷ es) = ap (λ l. e ∷ l) (told es)

untold : (xs : List Xattr) → rows (entries_of xs) ≡ xs
untold [] = refl
untold (x ∷ xs) = ap (λ l. x ∷ l) (untold xs)

-- the list of a map has the map's entries
pub list_entries : (m : KeyMap) → entries_of (list_of m) ≡ fin.entries m
list_entries m = told (fin.entries m)

-- the list of a map is in the order of the keys
pub list_ascends : (m : KeyMap) → IsAscending (list_of m)
list_ascends m = from_sorted (list_of m) (subst (λ es. T (fin.is_sorted key_cmp es)) (sym (list_entries m)) (fin.entries_sorted m))

-- the list of a map has each key once
pub list_apart : (m : KeyMap) → AreKeysApart (list_of m)
list_apart m = IsDistinct-from_sorted key_cmp (keys_of (list_of m)) (list_ascends m)

-- the map that the list of a map says is that map
pub map_back : (m : KeyMap) → map_of (list_of m) ≡ m
map_back m = fin.same_entries_map (map_of (list_of m)) m (entries_are (list_of m) (list_ascends m) ∙ list_entries m)

-- a list whose entries are those of a map is the list that the map says
pub is_list : (xs : List Xattr) (m : KeyMap) → entries_of xs ≡ fin.entries m → xs ≡ list_of m
is_list xs m is = sym (untold xs) ∙ ap rows is

-- ---- what holds of all attributes

all_from : (P : Xattr → Type 0) (xs : List Xattr) → ((x : Xattr) → Contains xs x → P x) → AllByRecursion P xs
all_from P [] each = tt
all_from P (x ∷ xs) each = (each x (0, omega arith, refl), all_from P xs (λ y in_rest. each y (suc in_rest.0, omega (arith, in_rest.1), in_rest.2)))

from_all : (P : Xattr → Type 0) (xs : List Xattr) → AllByRecursion P xs → (x : Xattr) → Contains xs x → P x
from_all P [] all x here = absurd (omega (arith, here.1))
from_all P (y ∷ ys) all x (zero, within, is) = subst P is all.0
from_all P (y ∷ ys) all x (suc k, within, is) = from_all P ys all.1 x (k, omega (arith, within), is)

-- what holds of each attribute of a list holds of each in its map
pub found_in_map : (P : Xattr → Type 0) (xs : List Xattr) → AllByRecursion P xs → (key value : List ℕ) → fin.get (map_of xs) key ≡ Some value → P (record { key = key; value = value })
found_in_map P xs all key value is =
    let one = found_one xs key value (sym (get_is xs key) ∙ is) in
    subst P (λ i. record { key = one.2 i; value = one.3 i }) (from_all P xs all one.0 one.1)

-- a value that the map of a list has stands in that list
pub in_list : (xs : List Xattr) (key value : List ℕ) → fin.get (map_of xs) key ≡ Some value → Contains xs (record { key = key; value = value })
in_list xs key value is =
    let one = found_one xs key value (sym (get_is xs key) ∙ is) in
    subst (Contains xs) (λ i. record { key = one.2 i; value = one.3 i }) one.1

-- and what holds of each in a map holds of each attribute of its list
pub found_in_list : (P : Xattr → Type 0) (m : KeyMap) → ((key value : List ℕ) → fin.get m key ≡ Some value → P (record { key = key; value = value })) → AllByRecursion P (list_of m)
found_in_list P m each = all_from P (list_of m) (λ x here.
    each x.key x.value (ap (λ n. fin.get n x.key) (sym (map_back m)) ∙ get_is (list_of m) x.key ∙ one_found (list_of m) x (list_apart m) here))

-- ---- keys that differ, by places

differ : (a b : List ℕ) → (a ≡ b → ⊥) → eq_by_cmp key_cmp a b ≡ false
differ a b apart = cases (eq_by_cmp key_cmp a b) refl
  where
    cases : (r : Bool) → eq_by_cmp key_cmp a b ≡ r → eq_by_cmp key_cmp a b ≡ false
    cases true is = absurd (apart (key_exact a b (tied (key_cmp a b) is)))
    cases false is = is

all_differ : (key : List ℕ) (xs : List Xattr) → ((at : ℕ) (x : Xattr) → slice_get xs at ≡ Some x → key ≡ x.key → ⊥) → AllByRecursion (λ k. eq_by_cmp key_cmp key k ≡ false) (keys_of xs)
all_differ key [] each = tt
all_differ key (x ∷ xs) each = (differ key x.key (each 0 x refl), all_differ key xs (λ at y is. each (suc at) y is))

none_same : (key : List ℕ) (xs : List Xattr) → AllByRecursion (λ k. eq_by_cmp key_cmp key k ≡ false) (keys_of xs) → (at : ℕ) (x : Xattr) → slice_get xs at ≡ Some x → key ≡ x.key → ⊥
none_same key [] all at x is same = cc
none_same key (y ∷ ys) all zero x is same =
    let here : eq_by_cmp key_cmp key key ≡ false = ap (eq_by_cmp key_cmp key) (same ∙ ap (λ (z : Xattr). z.key) (sym (same_Some y x is))) ∙ all.0 in
    let tie : eq_by_cmp key_cmp key key ≡ true = ap is_eq (tied_itself key_total key) in
    let wrong : true ≡ false = sym tie ∙ here in
    cc
none_same key (y ∷ ys) all (suc at) x is same = none_same key ys all.1 at x is same

-- no two places have one key
abbrev pub NoKeyTwice : List Xattr → Type 0
NoKeyTwice xs = (earlier later : ℕ) (one other : Xattr) → earlier < later → slice_get xs earlier ≡ Some one → slice_get xs later ≡ Some other → one.key ≡ other.key → ⊥

-- where no two places have the same key, each key stands once
pub apart_by_places : (xs : List Xattr) → NoKeyTwice xs → AreKeysApart xs
unfolding IsDistinct
apart_by_places [] none = tt
apart_by_places (x ∷ xs) none = IsDistinct-cons (eq_by_cmp key_cmp) x.key (keys_of xs)
    (all_differ x.key xs (λ at y is same. none 0 (suc at) x y (omega arith) refl is same))
    (apart_by_places xs (λ earlier later one other lt is also same. none (suc earlier) (suc later) one other (omega (arith, lt)) is also same))

-- where each key stands once, no two places have the same key
pub places_apart : (xs : List Xattr) → AreKeysApart xs → NoKeyTwice xs
places_apart [] apart earlier later one other lt is also same = cc
places_apart (x ∷ xs) apart earlier zero one other lt is also same = absurd (omega (arith, lt))
places_apart (x ∷ xs) apart zero (suc later) one other lt is also same =
    none_same x.key xs (IsDistinct-head (eq_by_cmp key_cmp) x.key (keys_of xs) apart) later other also (ap (λ (z : Xattr). z.key) (same_Some x one is) ∙ same)
places_apart (x ∷ xs) apart (suc earlier) (suc later) one other lt is also same =
    places_apart xs (IsDistinct-tail (eq_by_cmp key_cmp) x.key (keys_of xs) apart) earlier later one other (omega (arith, lt)) is also same
