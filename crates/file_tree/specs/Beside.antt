-- What is kept beside the places: for each directory a trie over the names in it, and the places that are empty.
use Rattle.std.specs.Prelude.{◌≡◌, ◌≢◌, ℕ, ◌+◌, ◌<◌, ◌≤◌, ◌==◌, if◌then◌else◌, List, length, Option, Some, None, IsSome}
use Rattle.std.specs.Option.{option_map}
use Rattle.name_tries.specs.Keys.{Keys, AreTries}
use Rattle.name_tries.specs.declared.tries.Tries.{Tries}
use Rattle.plain_tree.specs.Paths.{Name}
use Rattle.file_tree.specs.declared.nodes.Spot.{Spot}
use Rattle.file_tree.specs.Order.{AreEmpty}
use Rattle.file_tree.specs.Places.{used}
use Rattle.file_tree.specs.Seen.{Held, held, IsKept}

-- the number of a directory, and a name in it
abbrev pub Key : Type 0
Key = ℕ × Name

abbrev pub key_in : Spot → Key
key_in z = (z.parent, z.name)

-- the directory and the name of each node that is kept, and of no root
abbrev pub keys_of : Held → Keys
keys_of at n = if n == 0 then None else option_map key_in (at n)

-- no two nodes are kept under one name in one directory
abbrev pub KeysDiffer : Held → Type 0
KeysDiffer at = (a b : ℕ) (key : Key) → keys_of at a ≡ Some key → keys_of at b ≡ Some key → a ≡ b

-- something but the root is kept at the number
abbrev pub IsNode : Held → ℕ → Type 0
IsNode at n = (n ≢ 0) × IsSome (at n)

-- the nodes that are kept are found by their names
abbrev pub AreNamed : Tries → Held → Type 0
AreNamed names at = AreTries names (keys_of at)

-- The nodes are in the tries, and the empty places are told. There is room for all of these, whatever is kept at the
-- places that there are.
pub record IsIndexed (spots : List (Option Spot)) (names : Tries) (free : List ℕ) (free_room : ℕ) : Type 0 where
  pub names_in : AreNamed names (held spots)
  pub empty : AreEmpty (held spots) (length spots) free
  pub places : used spots + length free ≡ length spots
  pub names_fit : length spots ≤ length names.owned.items
  pub dirs_fit : length names.owned.items ≤ length names.roots.items
  pub few_names : length names.owned.items < 4294967296
  pub free_fits : length spots ≤ free_room

-- a number that has no name comes under that of what is kept there, which no other node has in its directory
pub record CanName (names : Tries) (spots : List (Option Spot)) (at next : Held) (n : ℕ) : Type 0 where
  pub old : AreNamed names at
  pub free : at n ≡ None
  pub other : n ≢ 0
  pub spot : Spot
  pub kept : IsKept at next n (Some spot)
  pub there : (k : ℕ) (z : Spot) → next k ≡ Some z → held spots k ≡ Some z
  pub within : n < length names.owned.items
  pub below : spot.parent < length names.roots.items
  pub apart : (k : ℕ) → keys_of at k ≡ Some (spot.parent, spot.name) → ⊥

-- the directory of each node is one of so many
abbrev pub AreBelow : ℕ → Held → Type 0
AreBelow count at = (n : ℕ) (z : Spot) → at n ≡ Some z → z.parent < count
