-- Attributes in the order of their keys are the entries of the map that they say.
use Rattle.std.proofs.Common.{◌≡◌, ℕ, suc, arith, Bool, true, false, cond, ◌&&◌, T, not, List, [], ◌∷◌, length, get_or, drop, None, Option, refl, sym, ap, ◌∙◌, subst, Ordering, Less, Equal, Greater, is_lt, is_eq}
use Rattle.std.specs.List.{AllByRecursion}
use Rattle.std.specs.List.Sorted.{IsStrictlySortedBy}
use Rattle.std.specs.Cmp.{IsTotalOrder}
use Rattle.std.specs.Ordering.{eq_by_cmp}
use Rattle.std.proofs.lemmas.Cmp.{nat_list_cmp_total, alike_right, eq_by_cmp_equiv}
use Rattle.std.proofs.lemmas.List.{length-map}
use Rattle.std.specs.FinMap as fin
use Rattle.tape_types.specs.declared.node_keys.xattrs.Xattr.{Xattr}
use Rattle.tape_types.specs.NodeKeys.Keys.{key_cmp, keys_of, entries_of, map_of, IsAscending}

-- keys are ordered as texts are, and equal ones alone tie
pub key_total : IsTotalOrder key_cmp
key_total = nat_list_cmp_total

-- keys of which none is before the other are the same
pub key_exact : fin.IsAntisymmetric key_cmp
key_exact = fin.slice_cmp-IsAntisymmetric fin.nat_cmp-IsAntisymmetric

both : (a b : Bool) → T a → T b → T (a && b)
both true b p q = q
both false b p q = p

first : (a b : Bool) → T (a && b) → T a
first true b p = tt
first false b p = p

second : (a b : Bool) → T (a && b) → T b
second true b p = p
second false b p = absurd p

less : (r : Ordering) → T (is_lt r) → r ≡ Less
less Less p = refl
less Equal p = absurd p
less Greater p = absurd p

below : (key : List ℕ) (xs : List Xattr) → AllByRecursion (λ k. key_cmp key k ≡ Less) (keys_of xs) → T (fin.Entries.below_all key_cmp key (entries_of xs))
below key [] all = tt
below key (x ∷ xs) all = both _ _ (subst (λ r. T (is_lt r)) (sym all.0) tt) (below key xs all.1)

from_below : (key : List ℕ) (xs : List Xattr) → T (fin.Entries.below_all key_cmp key (entries_of xs)) → AllByRecursion (λ k. key_cmp key k ≡ Less) (keys_of xs)
from_below key [] all = tt
from_below key (x ∷ xs) all = (less _ (first _ _ all), from_below key xs (second _ _ all))

-- the two ways to say that keys ascend
to_sorted : (xs : List Xattr) → IsAscending xs → T (fin.is_sorted key_cmp (entries_of xs))
unfolding IsStrictlySortedBy
to_sorted [] up = tt
to_sorted (x ∷ xs) up = both _ _ (below x.key xs up.0) (to_sorted xs up.1)

-- entries in the order of their keys are of attributes in that order
pub from_sorted : (xs : List Xattr) → T (fin.is_sorted key_cmp (entries_of xs)) → IsAscending xs
unfolding IsStrictlySortedBy
from_sorted [] up = tt
from_sorted (x ∷ xs) up = (from_below x.key xs (first _ _ up), from_sorted xs (second _ _ up))

-- what is found in the map of a list is what the list says
pub get_is : (xs : List Xattr) (key : List ℕ) → fin.get (map_of xs) key ≡ fin.find key_cmp key (entries_of xs)
get_is xs key = fin.get-from_entries key_total (entries_of xs) key

-- in order it has the list's entries
pub entries_are : (xs : List Xattr) → IsAscending xs → fin.entries (map_of xs) ≡ entries_of xs
entries_are xs up = fin.Entries.same_entries key_cmp key_total key_exact (fin.entries (map_of xs)) (entries_of xs)
    (fin.entries_sorted (map_of xs)) (to_sorted xs up) (λ q. sym (fin.get-entries (map_of xs) q) ∙ get_is xs q)

-- the map of attributes in order is as large as their list is long
pub len_is : (xs : List Xattr) → IsAscending xs → fin.len (map_of xs) ≡ length xs
len_is xs up = fin.len-entries (map_of xs) ∙ ap length (entries_are xs up) ∙ length-map xs (λ x. (x.key, x.value))

-- a list with the entries that are put into those of another list in order, or left of them
pub is_inserted : (xs ys : List Xattr) (key value : List ℕ) → IsAscending xs → fin.put key_cmp key value (entries_of xs) ≡ entries_of ys → IsAscending ys × (map_of ys ≡ fin.insert (map_of xs) key value)
is_inserted xs ys key value up is =
    let sorted = subst (λ es. T (fin.is_sorted key_cmp es)) is (fin.Entries.is_sorted-put key_cmp key_total key value (entries_of xs) (to_sorted xs up)) in
    let then : IsAscending ys = from_sorted ys sorted in (
      then,
      fin.same_entries_map (map_of ys) (fin.insert (map_of xs) key value)
          (entries_are ys then ∙ sym is ∙ ap (fin.put key_cmp key value) (sym (entries_are xs up)) ∙ sym (fin.entries-insert key_total (map_of xs) key value)),
    )

flipped : (b : Bool) (x y : Option (List ℕ)) → cond (not b) x y ≡ cond b y x
flipped true x y = refl
flipped false x y = refl

-- without the entries of a key, the list is in order and its map is the map without the key
pub is_removed : (xs ys : List Xattr) (key : List ℕ) → IsAscending xs → fin.Entries.where_key key_cmp (λ k. not (eq_by_cmp key_cmp key k)) (entries_of xs) ≡ entries_of ys → IsAscending ys × (map_of ys ≡ fin.remove (map_of xs) key)
is_removed xs ys key up is =
    let stays : List ℕ → Bool = λ k. not (eq_by_cmp key_cmp key k) in
    let sorted = subst (λ es. T (fin.is_sorted key_cmp es)) is (fin.Entries.is_sorted-where_key key_cmp stays (entries_of xs) (to_sorted xs up)) in
    let then : IsAscending ys = from_sorted ys sorted in (
      then,
      fin.same_map key_total key_exact (map_of ys) (fin.remove (map_of xs) key) (λ q.
          get_is ys q ∙ ap (fin.find key_cmp q) (sym is)
          ∙ fin.Entries.find-where_key key_cmp stays q (λ k tie. ap (λ r. not (is_eq r)) (sym (alike_right key_total q k key tie))) (entries_of xs)
          ∙ flipped (eq_by_cmp key_cmp key q) (fin.find key_cmp q (entries_of xs)) None
          ∙ ap (λ b. cond b None (fin.find key_cmp q (entries_of xs))) ((eq_by_cmp_equiv key_total).symm key q)
          ∙ ap (cond (eq_by_cmp key_cmp q key) None) (sym (get_is xs q))
          ∙ sym (fin.get-remove key_total (map_of xs) key q)),
    )

first_of : (x : Xattr) {es fs : List (List ℕ × List ℕ)} → es ≡ fs → get_or es 0 (x.key, x.value) ≡ get_or fs 0 (x.key, x.value)
first_of x e = ap (λ (es : List (List ℕ × List ℕ)). get_or es 0 (x.key, x.value)) e

from_entries : (xs ys : List Xattr) → entries_of xs ≡ entries_of ys → xs ≡ ys
from_entries [] [] e = refl
from_entries [] (y ∷ ys) e = let wrong : 0 ≡ suc (length (entries_of ys)) = ap length e in absurd (omega (arith, wrong))
from_entries (x ∷ xs) [] e = let wrong : suc (length (entries_of xs)) ≡ 0 = ap length e in absurd (omega (arith, wrong))
from_entries (x ∷ xs) (y ∷ ys) e =
    let same : (x.key, x.value) ≡ (y.key, y.value) = first_of x e in
    λ i. record { key = (same i).0; value = (same i).1 } ∷ from_entries xs ys (ap (drop 1) e) i

-- two lists in order that say one map are one
pub one_list : (xs ys : List Xattr) → IsAscending xs → IsAscending ys → map_of xs ≡ map_of ys → xs ≡ ys
one_list xs ys up also is = from_entries xs ys (sym (entries_are xs up) ∙ ap fin.entries is ∙ entries_are ys also)
