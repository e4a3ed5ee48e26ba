-- Tries over numbers that have names: how the names part by their bits.
use Rattle.std.specs.Prelude.{◌≡◌, ◌⊎◌, ⊤, ℕ, ◌<◌, true, false, if◌then◌else◌, List, Some, slice_get}
use Rattle.name_tries.specs.Bits.{Name, bit_of, level, AreAlike}
use Rattle.name_tries.specs.declared.forks.Branch.{Branch}
use Rattle.name_tries.specs.declared.forks.Branch.TheVariants as branch
use Rattle.name_tries.specs.declared.forks.Fork.{Fork}

-- a number, or a fork: the bit that parts its names, its place, what has a 0 there and what has a 1
pub data Trie : Type 0 where
  leaf : ℕ → Trie
  inner : ℕ → ℕ → ℕ → Trie → Trie → Trie

-- the numbers that a trie has
abbrev pub HasLeaf : ℕ → Trie → Type 0
HasLeaf n (leaf m) = n ≡ m
HasLeaf n (inner b w f l r) = HasLeaf n l ⊎ HasLeaf n r

-- the places of its forks
abbrev pub HasFork : ℕ → Trie → Type 0
HasFork g (leaf m) = ⊥
HasFork g (inner b w f l r) = (g ≡ f) ⊎ (HasFork g l ⊎ HasFork g r)

-- each place is that of one fork
abbrev pub AreOnce : Trie → Type 0
AreOnce (leaf m) = ⊤
AreOnce (inner b w f l r) = (HasFork f l → ⊥) × (HasFork f r → ⊥) × ((g : ℕ) → HasFork g l → HasFork g r → ⊥)
    × AreOnce l × AreOnce r

-- the names part behind a level
abbrev pub IsAbove : ℕ → Trie → Type 0
IsAbove p (leaf m) = ⊤
IsAbove p (inner b w f l r) = p < level b w

-- below each fork the names part at later bits
abbrev pub Rises : Trie → Type 0
Rises (leaf m) = ⊤
Rises (inner b w f l r) = (w < 9) × IsAbove (level b w) l × IsAbove (level b w) r × Rises l × Rises r

-- the names at a fork have the same bits before its own, at which they part
abbrev pub Parts : (ℕ → Name) → Trie → Type 0
Parts name (leaf m) = ⊤
Parts name (inner b w f l r) = ((n : ℕ) → HasLeaf n l → bit_of (name n) b w ≡ false)
    × ((n : ℕ) → HasLeaf n r → bit_of (name n) b w ≡ true)
    × ((n m : ℕ) → HasLeaf n (inner b w f l r) → HasLeaf m (inner b w f l r) → AreAlike (level b w) (name n) (name m))
    × Parts name l × Parts name r

-- the number to which the bits of a name lead
abbrev pub nearest_in : Name → Trie → ℕ
nearest_in x (leaf m) = m
nearest_in x (inner b w f l r) = if bit_of x b w then nearest_in x r else nearest_in x l

-- the trie stands in the forks at their places, below this branch
abbrev pub Shows : List Fork → Branch → Trie → Type 0
Shows forks at (leaf m) = at ≡ branch.Leaf m
Shows forks at (inner b w f l r) = (at ≡ branch.Inner f) × (k : Fork) × (slice_get forks f ≡ Some k)
    × (k.byte ≡ b) × (k.within ≡ w) × Shows forks k.zero l × Shows forks k.one r

-- so it does, and can be gone along
abbrev pub IsAt : List Fork → Branch → Trie → Type 0
IsAt forks at t = Rises t × Shows forks at t
