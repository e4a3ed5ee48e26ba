-- The order of bits is that of bytes.
use Rattle.std.proofs.Common.{Option, ◌≡◌, ℕ, zero, suc, ◌+◌, ◌-◌, ◌*◌, ◌/◌, ◌%◌, ◌^◌, ◌<◌, ◌≤◌, true, false, ◌==◌, List, [], ◌∷◌, ◌++◌, Some, None, slice_get, sym, ap, ◌∙◌, refl, arith, inl, inr, ⊎_elim, nat_cmp, Less, Equal, Ordering, shr-shr, mul-le-mul_right}
use Rattle.std.specs.Bool.{⊤}
use Rattle.std.specs.Cmp.Lexicographic.{slice_cmp}
use Rattle.std.specs.Ordering.{ordering_then}
use Rattle.std.proofs.lemmas.Bool.Decides.{nat_tests}
use Rattle.std.proofs.lemmas.Nat.{shr_split, mod_below, pow_pos}
use Rattle.name_tries.specs.Bits.{Name, AreBytes, bit_in, bit_of, level, AreAlike}
use Rattle.name_tries.specs.Tries.{Trie, leaf, inner, HasLeaf, Rises, Parts}
use Rattle.name_tries.specs.Listing.{IsIn, numbers_in, Ascend}
use Rattle.name_tries.proofs.ItemLemmas.{in_front, in_rest, in_either}
use Rattle.name_tries.proofs.BitLemmas.{bits_tell, bit_some, same_upper}

-- ---- bytes

-- what is read at a byte comes before what another name has there
abbrev Precedes : Option ℕ → Option ℕ → Type 0
Precedes o None = ⊥
Precedes None (Some y) = ⊤
Precedes (Some x) (Some y) = x < y

quotient_less : (x y k : ℕ) → x / 2 ^ k < y / 2 ^ k → x < y
quotient_less x y k lt =
    let row : (x / 2 ^ k + 1) * 2 ^ k ≤ y / 2 ^ k * 2 ^ k = mul-le-mul_right (2 ^ k) (omega arith) in
    omega (arith, row, shr_split x k, shr_split y k, mod_below x (2 ^ k) (pow_pos k))

odd_even : (x y : ℕ) → x / 2 ≡ y / 2 → (x % 2 == 1) ≡ false → (y % 2 == 1) ≡ true → x < y
odd_even x y half even odd = grind (arith, nat_tests)

bytes_less : (x y w : ℕ) → x < 256 → y < 256 → w < 9 → ((v : ℕ) → v < w → bit_in (Some x) v ≡ bit_in (Some y) v)
    → bit_in (Some x) w ≡ false → bit_in (Some y) w ≡ true → x < y
bytes_less x y zero x_byte y_byte nine same even odd = let wrong : true ≡ false = even in cc
bytes_less x y (suc j) x_byte y_byte nine same even odd = less (8 - suc j) (omega arith) (sym (bit_some x (suc j) (omega arith)) ∙ even)
    (sym (bit_some y (suc j) (omega arith)) ∙ odd)
  where
    less : (k : ℕ) → k + suc j ≡ 8 → (x / 2 ^ k % 2 == 1) ≡ false → (y / 2 ^ k % 2 == 1) ≡ true → x < y
    less k is x_bit y_bit =
        let upper = same_upper x y (suc j) x_byte y_byte same (k + 1) j (omega arith) (omega arith) in
        quotient_less x y k (odd_even (x / 2 ^ k) (y / 2 ^ k) (shr-shr x k 1 ∙ upper ∙ sym (shr-shr y k 1)) x_bit y_bit)

precedes : (o p : Option ℕ) (w : ℕ) → ((b : ℕ) → o ≡ Some b → b < 256) → ((b : ℕ) → p ≡ Some b → b < 256) → w < 9
    → ((v : ℕ) → v < w → bit_in o v ≡ bit_in p v) → bit_in o w ≡ false → bit_in p w ≡ true → Precedes o p
precedes None None w o_byte p_byte nine same even odd = let wrong : false ≡ true = odd in cc
precedes (Some x) None w o_byte p_byte nine same even odd = let wrong : false ≡ true = odd in cc
precedes None (Some y) w o_byte p_byte nine same even odd = tt
precedes (Some x) (Some y) w o_byte p_byte nine same even odd = bytes_less x y w (o_byte x refl) (p_byte y refl) nine same even odd

-- ---- names

nat_less : (a b : ℕ) → a < b → nat_cmp a b ≡ Less
nat_less a b lt = grind (arith, nat_tests)

nat_same : (a : ℕ) → nat_cmp a a ≡ Equal
nat_same a = grind (arith, nat_tests)

less_at : (x y : Name) (b : ℕ) → ((k : ℕ) → k < b → slice_get x k ≡ slice_get y k) → Precedes (slice_get x b) (slice_get y b)
    → slice_cmp nat_cmp x y ≡ Less
less_at [] [] b same less = elim less [ ]
less_at [] (c ∷ y) b same less = refl
less_at (a ∷ x) [] zero same less = elim less [ ]
less_at (a ∷ x) [] (suc b) same less = let wrong : Some a ≡ None = same 0 (omega arith) in cc
less_at (a ∷ x) (c ∷ y) zero same less = ap (λ (o : Ordering). ordering_then o (slice_cmp nat_cmp x y)) (nat_less a c less)
less_at (a ∷ x) (c ∷ y) (suc b) same less =
    let head : Some a ≡ Some c = same 0 (omega arith) in
    let head_is : a ≡ c = cc in
    ap (λ (o : Ordering). ordering_then o (slice_cmp nat_cmp x y)) (ap (nat_cmp a) (sym head_is) ∙ nat_same a)
    ∙ less_at x y b (λ k lt. same (suc k) (omega arith)) less

-- of two names that part at a bit, the one that has a 0 there comes first
names_less : (x y : Name) (b w : ℕ) → AreBytes x → AreBytes y → w < 9 → AreAlike (level b w) x y
    → bit_of x b w ≡ false → bit_of y b w ≡ true → slice_cmp nat_cmp x y ≡ Less
names_less x y b w x_bytes y_bytes nine alike even odd =
    less_at x y b
    (λ k lt. bits_tell (slice_get x k) (slice_get y k) (x_bytes k) (y_bytes k) (λ v v_nine. alike k v v_nine (omega arith)))
    (precedes (slice_get x b) (slice_get y b) w (x_bytes b) (y_bytes b) nine (λ v lt. alike b v (omega arith) (omega arith)) even odd)

-- ---- tries

-- a number in the list of a trie is one of its numbers
pub listed_leaf : (t : Trie) (n : ℕ) → IsIn n (numbers_in t) → HasLeaf n t
listed_leaf (leaf m) n (inl same) = same
listed_leaf (leaf m) n (inr none) = elim none [ ]
listed_leaf (inner b w f l r) n here = ⊎_elim (λ left. inl (listed_leaf l n left)) (λ right. inr (listed_leaf r n right))
    (in_either n (numbers_in l) (numbers_in r) here)

-- a number of a trie is in its list
pub leaf_listed : (t : Trie) (n : ℕ) → HasLeaf n t → IsIn n (numbers_in t)
leaf_listed (leaf m) n same = inl same
leaf_listed (inner b w f l r) n (inl here) = in_front n (numbers_in l) (numbers_in r) (leaf_listed l n here)
leaf_listed (inner b w f l r) n (inr here) = in_rest n (numbers_in l) (numbers_in r) (leaf_listed r n here)

ascend_join : (name : ℕ → Name) (xs ys : List ℕ) → Ascend name xs → Ascend name ys
    → ((n m : ℕ) → IsIn n xs → IsIn m ys → slice_cmp nat_cmp (name n) (name m) ≡ Less) → Ascend name (xs ++ ys)
ascend_join name [] ys one other across = other
ascend_join name (x ∷ xs) ys one other across = (
  λ m here. ⊎_elim (λ front. one.0 m front) (λ rest. across x m (inl refl) rest) (in_either m xs ys here),
  ascend_join name xs ys one.1 other (λ n m front rest. across n m (inr front) rest),
)

-- the numbers of a trie stand by their names
pub trie_ascends : (name : ℕ → Name) (t : Trie) → ((n : ℕ) → HasLeaf n t → AreBytes (name n)) → Rises t → Parts name t → Ascend name (numbers_in t)
trie_ascends name (leaf m) bytes rises parts = (λ n none. elim none [ ], tt)
trie_ascends name (inner b w f l r) bytes rises parts =
    ascend_join name (numbers_in l) (numbers_in r) (trie_ascends name l (λ n here. bytes n (inl here)) rises.3 parts.3)
    (trie_ascends name r (λ n here. bytes n (inr here)) rises.4 parts.4)
    (λ n m left right.
    let one = listed_leaf l n left in
    let other = listed_leaf r m right in
    names_less (name n) (name m) b w (bytes n (inl one)) (bytes m (inr other)) rises.0 (parts.2 n m (inl one) (inr other))
    (parts.0 n one) (parts.1 m other))
