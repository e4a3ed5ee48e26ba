-- Names in directories, and the tries over them.
use Rattle.std.specs.Prelude.{◌≡◌, ℕ, Bool, ◌<◌, ◌≤◌, List, [], length, Option, Some, None, slice_get, set}
use Rattle.name_tries.specs.Bits.{Name, AreBytes}
use Rattle.name_tries.specs.Tries.{Trie, HasLeaf, HasFork, AreOnce, Rises, Parts, Shows, nearest_in}
use Rattle.name_tries.specs.Ways.{with_branch, IsTowards}
use Rattle.name_tries.specs.declared.forks.Branch.{Branch}
use Rattle.name_tries.specs.declared.forks.Fork.{Fork}
use Rattle.name_tries.specs.declared.forks.Near.{Near}
use Rattle.name_tries.specs.declared.forks.Side.{Side}
use Rattle.name_tries.specs.declared.tries.Tries.{Tries}

-- the directory and the name of each number that has some
abbrev pub Keys : Type 0
Keys = ℕ → Option (ℕ × Name)

abbrev pub name_of : Option (ℕ × Name) → Name
name_of None = []
name_of (Some key) = key.1

abbrev pub name_in : Keys → ℕ → Name
name_in keys n = name_of (keys n)

-- the trie hangs from this root, if there is one
abbrev pub IsRoot : List Fork → Option Branch → Option Trie → Type 0
IsRoot forks root None = root ≡ None
IsRoot forks root (Some t) = (at : Branch) × (root ≡ Some at) × Shows forks at t

-- the place of a fork is that of one of the trie's numbers
pub record IsOwned (owned owners : List ℕ) (t : Trie) (f : ℕ) : Type 0 where
  pub number : ℕ
  pub owner : slice_get owners f ≡ Some number
  pub owns : slice_get owned number ≡ Some f
  pub there : HasLeaf number t

-- a trie over the names of a directory
pub record IsTrieOf (owned owners : List ℕ) (keys : Keys) (dir : ℕ) (t : Trie) : Type 0 where
  pub rises : Rises t
  pub once : AreOnce t
  pub parts : Parts (name_in keys) t
  pub leaves : (n : ℕ) → HasLeaf n t → keys n ≡ Some (dir, name_in keys n)
  pub forks : (f : ℕ) → HasFork f t → IsOwned owned owners t f

-- each number has the place of one fork, and each place is that of one number
pub record ArePaired (owned owners : List ℕ) (places : ℕ) : Type 0 where
  pub pair : (n f : ℕ) → slice_get owned n ≡ Some f → slice_get owners f ≡ Some n
  pub below : (n f : ℕ) → slice_get owned n ≡ Some f → f < length owned
  pub owners_fit : length owned ≤ length owners
  pub places_fit : length owned ≤ places

-- for each directory a trie over the names in it, the numbers of all names in these
pub record AreTriesIn (roots : List (Option Branch)) (forks : List Fork) (owned owners : List ℕ) (keys : Keys) : Type 0 where
  pub shape : ℕ → Option Trie
  pub rooted : (dir : ℕ) (root : Option Branch) → slice_get roots dir ≡ Some root → IsRoot forks root (shape dir)
  pub tries : (dir : ℕ) (t : Trie) → shape dir ≡ Some t → IsTrieOf owned owners keys dir t
  pub every : (n dir : ℕ) (name : Name) → keys n ≡ Some (dir, name) → (t : Trie) × (shape dir ≡ Some t) × HasLeaf n t
  pub below : (n dir : ℕ) (name : Name) → keys n ≡ Some (dir, name) → dir < length roots
  pub within : (n dir : ℕ) (name : Name) → keys n ≡ Some (dir, name) → n < length owned
  pub paired : ArePaired owned owners (length forks)
  pub bytes : (n dir : ℕ) (name : Name) → keys n ≡ Some (dir, name) → AreBytes name

abbrev pub AreTries : Tries → Keys → Type 0
AreTries tries keys = AreTriesIn tries.roots.items tries.forks.items tries.owned.items tries.owners.items keys

abbrev pub number_in : Near → ℕ
number_in near = near.number

-- ---- what calls need, and what they leave

-- one number has this key now, or none, and all others what they had
pub record IsKeyed (before next : Keys) (n : ℕ) (key : Option (ℕ × Name)) : Type 0 where
  pub here : next n ≡ key
  pub others : (k : ℕ) → (k ≡ n → ⊥) → next k ≡ before k

-- nothing is in the directory, and the number has no name
pub record CanPutFirst (tries : Tries) (keys : Keys) (dir n : ℕ) : Type 0 where
  pub are : AreTries tries keys
  pub none : are.shape dir ≡ None
  pub free : keys n ≡ None
  pub within : n < length tries.owned.items
  pub below : dir < length tries.roots.items

-- another name is the nearest one in the directory, and the number has no name
pub record CanPut (tries : Tries) (keys : Keys) (dir n : ℕ) (name : Name) (near : Near) (other : Name) : Type 0 where
  pub are : AreTries tries keys
  pub trie : Trie
  pub shape : are.shape dir ≡ Some trie
  pub nearest : name_in keys (nearest_in name trie) ≡ other
  pub from : IsTowards tries.forks.items near.from name trie
  pub apart : name ≡ other → ⊥
  pub free : keys n ≡ None
  pub within : n < length tries.owned.items

-- the number has this name in the directory
pub record CanCut (tries : Tries) (keys : Keys) (dir n : ℕ) (name : Name) : Type 0 where
  pub are : AreTries tries keys
  pub there : keys n ≡ Some (dir, name)

-- a branch is set at the side of a fork
pub record IsSet (forks next : List Fork) (f : ℕ) (one : Bool) (at : Branch) : Type 0 where
  pub here : (k : Fork) → slice_get forks f ≡ Some k → slice_get next f ≡ Some (with_branch one at k)
  pub others : (g : ℕ) → (g ≡ f → ⊥) → slice_get next g ≡ slice_get forks g
  pub long : length next ≡ length forks

-- a side of a fork leads to a branch now, or where there is no side, the root of a directory
pub record IsLinked (roots next_roots : List (Option Branch)) (forks next : List Fork) (dir : ℕ) (side : Option Side)
    (at : Branch) : Type 0 where
  pub root : side ≡ None → (next_roots ≡ set roots dir (Some at)) × (next ≡ forks)
  pub fork : (s : Side) → side ≡ Some s → (next_roots ≡ roots) × IsSet forks next s.fork s.one at

-- the root, or the fork, is there
pub record CanLink (roots : List (Option Branch)) (forks : List Fork) (dir : ℕ) (side : Option Side) : Type 0 where
  pub root : dir < length roots
  pub fork : (s : Side) → side ≡ Some s → s.fork < length forks

-- a number has the place that another one had, and the other one the place of the first
pub record IsHandedOver (owned next_owned owners next_owners : List ℕ) (n f : ℕ) : Type 0 where
  pub spare : ℕ
  pub owner : ℕ
  pub spare_is : slice_get owned n ≡ Some spare
  pub owner_is : slice_get owners f ≡ Some owner
  pub owned_is : next_owned ≡ set (set owned owner spare) n f
  pub owners_is : next_owners ≡ set (set owners spare owner) f n

pub record CanHandOver (owned owners : List ℕ) (n f : ℕ) : Type 0 where
  pub number : n < length owned
  pub place : f < length owners
  pub spare : (s : ℕ) → slice_get owned n ≡ Some s → s < length owners
  pub owner : (m : ℕ) → slice_get owners f ≡ Some m → m < length owned
