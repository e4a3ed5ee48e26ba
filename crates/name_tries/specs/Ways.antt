-- Ways through a trie, from its first fork down to a part of it.
use Rattle.std.specs.Prelude.{◌≡◌, ⊤, ℕ, ◌-◌, ◌*◌, ◌^◌, ◌<◌, ◌≤◌, Bool, true, false, if◌then◌else◌, List, [], ◌∷◌, Option, Some, None}
use Rattle.std.specs.Prelude.{slice_get}
use Rattle.name_tries.specs.Bits.{Name, bit_of, level}
use Rattle.name_tries.specs.Tries.{Trie, leaf, inner, Rises, Shows, IsAt}
use Rattle.name_tries.specs.declared.forks.Branch.{Branch}
use Rattle.name_tries.specs.declared.forks.Branch.TheVariants as branch
use Rattle.name_tries.specs.declared.forks.Fork.{Fork}
use Rattle.name_tries.specs.declared.forks.Last.{Last}
use Rattle.name_tries.specs.declared.forks.Side.{Side}
use Rattle.name_tries.specs.declared.forks.Trail.{Trail}
use Rattle.name_tries.specs.declared.forks.Way.{Way}

-- a fork of which one side was taken, with what hangs on the other
pub data Step : Type 0 where
  on_zero : ℕ → ℕ → ℕ → Trie → Step
  on_one : ℕ → ℕ → ℕ → Trie → Step

-- the whole of which this is the part at the end of the steps, the first step first
abbrev pub whole_of : List Step → Trie → Trie
whole_of [] s = s
whole_of (on_zero b w f r ∷ steps) s = inner b w f (whole_of steps s) r
whole_of (on_one b w f l ∷ steps) s = inner b w f l (whole_of steps s)

abbrev pub side : ℕ → Bool → Side
side f one = record { fork = f; one = one }

abbrev pub side_of : Step → Option Side
side_of (on_zero b w f r) = Some (side f false)
side_of (on_one b w f l) = Some (side f true)

-- the side of the last step, or what was before all steps
abbrev pub last_side : Option Side → List Step → Option Side
last_side before [] = before
last_side before (step ∷ steps) = last_side (side_of step) steps

-- the step is the one that the bits of a name take, and its fork is below a level
abbrev pub IsTaken : Name → ℕ → Step → Type 0
IsTaken x p (on_zero b w f r) = (bit_of x b w ≡ false) × (w < 9) × (level b w < p)
IsTaken x p (on_one b w f l) = (bit_of x b w ≡ true) × (w < 9) × (level b w < p)

abbrev pub AreTaken : Name → ℕ → List Step → Type 0
AreTaken x p [] = ⊤
AreTaken x p (step ∷ steps) = IsTaken x p step × AreTaken x p steps

-- the names of the trie are alike up to a level
abbrev pub IsFrom : ℕ → Trie → Type 0
IsFrom p (leaf m) = ⊤
IsFrom p (inner b w f l r) = p ≤ level b w

-- the place of the fork to which a branch leads
abbrev pub inner_at : Branch → Option ℕ
inner_at (branch.Leaf n) = None
inner_at (branch.Inner f) = Some f

abbrev pub first_at : Option Branch → Option ℕ
first_at None = None
first_at (Some at) = inner_at at

-- more than each level
abbrev pub most : ℕ
most = 9 * 2 ^ 64

abbrev pub left_at : Option Fork → ℕ
left_at None = 0
left_at (Some k) = most - level k.byte k.within

abbrev pub left_of : List Fork → Option ℕ → ℕ
left_of forks None = 0
left_of forks (Some f) = left_at (slice_get forks f)

-- how far the levels can rise from a branch on
abbrev pub left : List Fork → Branch → ℕ
left forks at = left_of forks (inner_at at)

-- the fork with a number on one side and a branch on the other
abbrev pub parted_fork : Bool → ℕ → ℕ → ℕ → Branch → Fork
parted_fork v b w n at = if v then record { byte = b; within = w; zero = at; one = branch.Leaf n }
    else record { byte = b; within = w; zero = branch.Leaf n; one = at }

-- the branch of a fork
abbrev pub branch_at : Bool → Fork → Branch
branch_at one k = if one then k.one else k.zero

abbrev pub with_branch : Bool → Branch → Fork → Fork
with_branch one at k = if one then record k { one = at } else record k { zero = at }

-- past a fork, on one of its sides
abbrev pub past : ℕ → Bool → Fork → Way
past f one k = record { side = Some (side f one); below = branch_at one k }

-- a part of a trie to which the bits of a name lead, past all forks below a level
pub record IsTowards (forks : List Fork) (at : Branch) (x : Name) (t : Trie) : Type 0 where
  pub p : ℕ
  pub steps : List Step
  pub part : Trie
  pub whole : t ≡ whole_of steps part
  pub taken : AreTaken x p steps
  pub from : IsFrom p part
  pub is : IsAt forks at part

-- all branches of a trail lead to such parts
pub record AreTowards (forks : List Fork) (trail : Trail) (x : Name) (t : Trie) : Type 0 where
  pub at : IsTowards forks trail.at x t
  pub last : IsTowards forks trail.last x t
  pub second : IsTowards forks trail.second x t
  pub third : IsTowards forks trail.third x t
  pub fourth : IsTowards forks trail.fourth x t

-- the way of a name through the forks below a level
pub record IsWay (forks : List Fork) (t : Trie) (x : Name) (p : ℕ) (way : Way) : Type 0 where
  pub steps : List Step
  pub part : Trie
  pub is : t ≡ whole_of steps part
  pub taken : AreTaken x p steps
  pub side : way.side ≡ last_side None steps
  pub rises : Rises part
  pub shown : Shows forks way.below part

-- such a way that ends before the first fork that isn't below the level
pub record IsWayUpTo (forks : List Fork) (t : Trie) (x : Name) (p : ℕ) (way : Way) : Type 0 where
  pub to : IsWay forks t x p way
  pub ends : IsFrom p to.part

abbrev pub way_of : Last → Way
way_of last = record { side = last.side; below = last.below }

-- the way of a name to a fork, and past it
pub record IsWayToLast (forks : List Fork) (t : Trie) (x : Name) (last : Last) : Type 0 where
  pub steps : List Step
  pub byte : ℕ
  pub within : ℕ
  pub place : ℕ
  pub zero : Trie
  pub one : Trie
  pub is : t ≡ whole_of steps (inner byte within place zero one)
  pub taken : AreTaken x (level byte within) steps
  pub side : last.above ≡ last_side None steps
  pub rises : Rises (inner byte within place zero one)
  pub fork : Fork
  pub there : slice_get forks place ≡ Some fork
  pub byte_is : fork.byte ≡ byte
  pub within_is : fork.within ≡ within
  pub shows_zero : Shows forks fork.zero zero
  pub shows_one : Shows forks fork.one one
  pub ends : way_of last ≡ past place (bit_of x byte within) fork
