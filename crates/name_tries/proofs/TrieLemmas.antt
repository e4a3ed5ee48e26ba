-- What a trie has, and to which of its numbers the bits of a name lead.
use Rattle.std.proofs.Common.{if◌then◌else◌, ◌≡◌, ◌⊎◌, ℕ, ◌+◌, ◌<◌, ◌≤◌, Bool, true, false, List, Some, slice_get, sym, ap, ◌∙◌, refl, subst, arith, inl, inr}
use Rattle.name_tries.specs.Bits.{Name, bit_of, level, AreAlike}
use Rattle.name_tries.specs.Tries.{Trie, leaf, inner, HasLeaf, HasFork, AreOnce, IsAbove, Rises, Parts, nearest_in, Shows}
use Rattle.name_tries.specs.Ways.{IsFrom}
use Rattle.name_tries.specs.declared.forks.Branch.{Branch}
use Rattle.name_tries.specs.declared.forks.Fork.{Fork}
use Rattle.name_tries.proofs.BitLemmas.{alike_self, alike_back, alike_on, alike_below, same_level}

-- a trie has a number
pub some_leaf : (t : Trie) → (n : ℕ) × HasLeaf n t
some_leaf (leaf m) = (m, refl)
some_leaf (inner b w f l r) = let s = some_leaf l in (s.0, inl s.1)

-- ---- the nearest one

abbrev either : Bool → ℕ → ℕ → ℕ
either v n m = if v then n else m

nearest_has_at : (x : Name) (l r : Trie) (v : Bool) → HasLeaf (nearest_in x l) l → HasLeaf (nearest_in x r) r
    → HasLeaf (either v (nearest_in x r) (nearest_in x l)) l ⊎ HasLeaf (either v (nearest_in x r) (nearest_in x l)) r
nearest_has_at x l r true left right = inr right
nearest_has_at x l r false left right = inl left

-- the number to which the bits of a name lead is one of the trie's
pub nearest_has : (x : Name) (t : Trie) → HasLeaf (nearest_in x t) t
nearest_has x (leaf m) = refl
nearest_has x (inner b w f l r) = nearest_has_at x l r (bit_of x b w) (nearest_has x l) (nearest_has x r)

-- the number of a name is the one to which its bits lead
pub nearest_is : (name : ℕ → Name) (t : Trie) (n : ℕ) → Parts name t → HasLeaf n t → nearest_in (name n) t ≡ n
nearest_is name (leaf m) n parts is = sym is
nearest_is name (inner b w f l r) n parts (inl here) =
    ap (λ v. either v (nearest_in (name n) r) (nearest_in (name n) l)) (parts.0 n here) ∙ nearest_is name l n parts.3 here
nearest_is name (inner b w f l r) n parts (inr here) =
    ap (λ v. either v (nearest_in (name n) r) (nearest_in (name n) l)) (parts.1 n here) ∙ nearest_is name r n parts.4 here

-- at the first fork the nearest name has the bit of the name
nearest_bit_at : (name : ℕ → Name) (x : Name) (b w f : ℕ) (l r : Trie) (v : Bool) → Parts name (inner b w f l r)
    → bit_of (name (either v (nearest_in x r) (nearest_in x l))) b w ≡ v
nearest_bit_at name x b w f l r true parts = parts.1 (nearest_in x r) (nearest_has x r)
nearest_bit_at name x b w f l r false parts = parts.0 (nearest_in x l) (nearest_has x l)

nearest_bit : (name : ℕ → Name) (x : Name) (b w f : ℕ) (l r : Trie) → Parts name (inner b w f l r)
    → bit_of (name (nearest_in x (inner b w f l r))) b w ≡ bit_of x b w
nearest_bit name x b w f l r parts = nearest_bit_at name x b w f l r (bit_of x b w) parts

-- ---- names that change elsewhere

-- a trie parts its names as before where they stay the same
pub parts_same : (name other : ℕ → Name) (t : Trie) → ((n : ℕ) → HasLeaf n t → other n ≡ name n) → Parts name t → Parts other t
parts_same name other (leaf m) same parts = tt
parts_same name other (inner b w f l r) same parts = (
  λ n here. ap (λ y. bit_of y b w) (same n (inl here)) ∙ parts.0 n here,
  λ n here. ap (λ y. bit_of y b w) (same n (inr here)) ∙ parts.1 n here,
  λ n m one two c v nine lt. ap (λ y. bit_of y c v) (same n one) ∙ parts.2 n m one two c v nine lt ∙ sym (ap (λ y. bit_of y c v) (same m two)),
  parts_same name other l (λ n here. same n (inl here)) parts.3,
  parts_same name other r (λ n here. same n (inr here)) parts.4,
)

-- ---- a new name beside a trie

-- behind a level at which the names of a trie don't part yet, they are the same up to it
alike_above : (name : ℕ → Name) (p : ℕ) (s : Trie) (n m : ℕ) → IsAbove p s → Parts name s → HasLeaf n s → HasLeaf m s
    → AreAlike (p + 1) (name n) (name m)
alike_above name p (leaf k) n m above parts one other =
    subst (λ (i : ℕ). AreAlike (p + 1) (name n) (name i)) (one ∙ sym other) (alike_self (p + 1) (name n))
alike_above name p (inner b w f l r) n m above parts one other =
    alike_below (p + 1) (level b w) (name n) (name m) (omega arith) (parts.2 n m one other)

-- a name that parts from the nearest one at a bit, where the forks of the way are of no bit before it, parts before them
pub parts_before : (name : ℕ → Name) (x : Name) (b w : ℕ) (s : Trie) → w < 9 → IsFrom (level b w) s → Rises s → Parts name s
    → (bit_of x b w ≡ bit_of (name (nearest_in x s)) b w → ⊥) → IsAbove (level b w) s
parts_before name x b w (leaf m) nine from rises parts apart = tt
parts_before name x b w (inner c v f l r) nine from rises parts apart = elim (le_cases from) [
  | inl lt ↦ lt
  | inr same ↦ let e = same_level b w c v nine rises.0 same in
      absurd (apart (subst (λ (i : ℕ). bit_of x i w ≡ bit_of (name (nearest_in x (inner c v f l r))) i w) (sym e.0)
      (subst (λ (i : ℕ). bit_of x c i ≡ bit_of (name (nearest_in x (inner c v f l r))) c i) (sym e.1)
      (sym (nearest_bit name x c v f l r parts)))))
]
  where
    le_cases : level b w ≤ level c v → (level b w < level c v) ⊎ (level b w ≡ level c v)
    le_cases le = grind arith

-- the trie with a number beside it
abbrev pub parted : Bool → ℕ → ℕ → ℕ → ℕ → Trie → Trie
parted v b w f k s = if v then inner b w f s (leaf k) else inner b w f (leaf k) s

-- a number with such a name beside the trie
module _ (name : ℕ → Name) (b w f k n : ℕ) (s : Trie) (nine : w < 9) (above : IsAbove (level b w) s) (rises : Rises s)
    (parts : Parts name s) (there : HasLeaf n s) (alike : AreAlike (level b w) (name k) (name n))
    (apart : bit_of (name k) b w ≡ bit_of (name n) b w → ⊥) where
  -- at the bit all that were there have that of the nearest one
  bit_there : (m : ℕ) → HasLeaf m s → bit_of (name m) b w ≡ bit_of (name n) b w
  bit_there m here = alike_above name (level b w) s m n above parts here there b w nine (omega arith)

  -- all names of a part are alike to the new one up to the fork's bit
  pub alike_there : (m : ℕ) → HasLeaf m s → AreAlike (level b w) (name k) (name m)
  alike_there m here = alike_on (level b w) (name k) (name n) (name m) alike
      (alike_below (level b w) (level b w + 1) (name n) (name m) (omega arith) (alike_above name (level b w) s n m above parts there here))

  alike_two : (i j : ℕ) → ((i ≡ k) ⊎ HasLeaf i s) → ((j ≡ k) ⊎ HasLeaf j s) → AreAlike (level b w) (name i) (name j)
  alike_two i j (inl one) (inl two) = subst (λ (m : ℕ). AreAlike (level b w) (name i) (name m)) (one ∙ sym two) (alike_self (level b w) (name i))
  alike_two i j (inl one) (inr two) = subst (λ (m : ℕ). AreAlike (level b w) (name m) (name j)) (sym one) (alike_there j two)
  alike_two i j (inr one) (inl two) = subst (λ (m : ℕ). AreAlike (level b w) (name i) (name m)) (sym two)
      (alike_back (level b w) (name k) (name i) (alike_there i one))
  alike_two i j (inr one) (inr two) = alike_below (level b w) (level b w + 1) (name i) (name j) (omega arith)
      (alike_above name (level b w) s i j above parts one two)

  turned : (m : ℕ) {A : Type 0} → (m ≡ k) ⊎ A → A ⊎ (m ≡ k)
  turned m (inl e) = inr e
  turned m (inr a) = inl a

  -- a new fork parts the new name from those of the part
  pub parted_parts : (v : Bool) → bit_of (name k) b w ≡ v → Parts name (parted v b w f k s)
  parted_parts true is = (
    λ m here. bit_there m here ∙ other_bit (bit_of (name n) b w) is,
    λ m here. ap (λ (i : ℕ). bit_of (name i) b w) here ∙ is,
    λ i j one two. alike_two i j (swap i one) (swap j two),
    parts,
    tt,
  )
    where
      other_bit : (u : Bool) → bit_of (name k) b w ≡ true → bit_of (name n) b w ≡ false
      other_bit u has = not_true (bit_of (name n) b w) refl
        where
          not_true : (q : Bool) → bit_of (name n) b w ≡ q → bit_of (name n) b w ≡ false
          not_true true e = absurd (apart (has ∙ sym e))
          not_true false e = e

      swap : (i : ℕ) → HasLeaf i s ⊎ (i ≡ k) → (i ≡ k) ⊎ HasLeaf i s
      swap i (inl a) = inr a
      swap i (inr e) = inl e
  parted_parts false is = (
    λ m here. ap (λ (i : ℕ). bit_of (name i) b w) here ∙ is,
    λ m here. bit_there m here ∙ other_bit (bit_of (name n) b w) refl,
    λ i j one two. alike_two i j one two,
    tt,
    parts,
  )
    where
      other_bit : (q : Bool) → bit_of (name n) b w ≡ q → bit_of (name n) b w ≡ true
      other_bit true e = e
      other_bit false e = absurd (apart (is ∙ sym e))

  -- below a new fork the names part at later bits
  pub parted_rises : (v : Bool) → Rises (parted v b w f k s)
  parted_rises true = (nine, above, tt, rises, tt)
  parted_rises false = (nine, tt, above, tt, rises)

-- what it has
pub parted_leaves : (v : Bool) (b w f k : ℕ) (s : Trie) (n : ℕ) → HasLeaf n (parted v b w f k s) → (n ≡ k) ⊎ HasLeaf n s
parted_leaves true b w f k s n (inl here) = inr here
parted_leaves true b w f k s n (inr new) = inl new
parted_leaves false b w f k s n (inl new) = inl new
parted_leaves false b w f k s n (inr here) = inr here

-- a new fork has the new number
pub parted_new : (v : Bool) (b w f k : ℕ) (s : Trie) → HasLeaf k (parted v b w f k s)
parted_new true b w f k s = inr refl
parted_new false b w f k s = inl refl

-- a new fork has the numbers of the part
pub parted_old : (v : Bool) (b w f k : ℕ) (s : Trie) (n : ℕ) → HasLeaf n s → HasLeaf n (parted v b w f k s)
parted_old true b w f k s n here = inl here
parted_old false b w f k s n here = inr here

-- a new fork adds its own place to those of the part
pub parted_forks : (v : Bool) (b w f k : ℕ) (s : Trie) (g : ℕ) → HasFork g (parted v b w f k s) → (g ≡ f) ⊎ HasFork g s
parted_forks true b w f k s g (inl new) = inl new
parted_forks true b w f k s g (inr (inl here)) = inr here
parted_forks true b w f k s g (inr (inr none)) = elim none [ ]
parted_forks false b w f k s g (inl new) = inl new
parted_forks false b w f k s g (inr (inl none)) = elim none [ ]
parted_forks false b w f k s g (inr (inr here)) = inr here

-- a new fork at a free place keeps each place that of one fork
pub parted_once : (v : Bool) (b w f k : ℕ) (s : Trie) → (HasFork f s → ⊥) → AreOnce s → AreOnce (parted v b w f k s)
parted_once true b w f k s fresh once = (fresh, λ none. none, λ g here none. none, once, tt)
parted_once false b w f k s fresh once = (λ none. none, fresh, λ g none here. none, tt, once)

-- the names at a new fork part behind an earlier level
pub parted_above : (v : Bool) (b w f k q : ℕ) (s : Trie) → q < level b w → IsAbove q (parted v b w f k s)
parted_above true b w f k q s lt = lt
parted_above false b w f k q s lt = lt

-- ---- where it stands

-- forks that the trie doesn't have don't count
pub shows_kept : (forks next : List Fork) (t : Trie) (at : Branch)
    → ((g : ℕ) (k : Fork) → HasFork g t → slice_get forks g ≡ Some k → slice_get next g ≡ Some k) → Shows forks at t → Shows next at t
shows_kept forks next (leaf m) at keep is = is
shows_kept forks next (inner b w f l r) at keep is = (
  is.0,
  is.1,
  keep f is.1 (inl refl) is.2,
  is.3,
  is.4,
  shows_kept forks next l is.1.zero (λ g k here. keep g k (inr (inl here))) is.5,
  shows_kept forks next r is.1.one (λ g k here. keep g k (inr (inr here))) is.6,
)
