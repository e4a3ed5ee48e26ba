-- What stands in each directory under each name, and where paths lead.
use Rattle.std.specs.Prelude.{◌≡◌, ℕ, ◌+◌, ◌<◌, List, [], ◌∷◌, length, take, map, Option, Some, None}
use Rattle.std.specs.Ordering.{nat_cmp}
use Rattle.std.specs.Cmp.Lexicographic.{slice_cmp}
use Rattle.std.specs.BTreeMap.{BTreeMap, get}
use Rattle.plain_tree.specs.declared.nodes.Node.{Node}
use Rattle.plain_tree.specs.declared.calls.Entry.{Entry}
use Rattle.plain_tree.specs.declared.links.Links.{Links}
use Rattle.plain_tree.specs.Tree.{sort_of}
use Rattle.plain_tree.specs.Paths.{Path, Name}

-- what stands in the directory of a uid under a name
abbrev pub Child : Type 0
Child = ℕ → Name → Option Node

abbrev pub name_cmp : Name → Name → Rattle.std.specs.declared.cmp.Ordering.Ordering
name_cmp x y = slice_cmp nat_cmp x y

abbrev pub Names : Type 0
Names = BTreeMap Name Node

abbrev pub under : Option Names → Name → Option Node
under None name = None
under (Some names) name = get name_cmp names name

abbrev pub child : Links → Child
child links uid name = under (get nat_cmp links.dirs uid) name

abbrev pub line_of : Name × Node → Entry
line_of e = record { sort = sort_of e.1.kind; name = e.0 }

-- the lines of a directory, by the bytes of the names
abbrev pub lines : Option Names → List Entry
lines None = []
lines (Some names) = map line_of names.entries

abbrev pub lines_of : Links → ℕ → List Entry
lines_of links uid = lines (get nat_cmp links.dirs uid)

-- under one name stands this now, and under all others what stood there
pub record IsPutIn (before next : Names) (name : Name) (node : Option Node) : Type 0 where
  pub here : get name_cmp next name ≡ node
  pub others : (n : Name) → (n ≡ name → ⊥) → get name_cmp next n ≡ get name_cmp before n

-- under one name of one directory stands this now, and all else stays
pub record IsPut (before next : Child) (uid : ℕ) (name : Name) (node : Option Node) : Type 0 where
  pub here : next uid name ≡ node
  pub others : (u : ℕ) (n : Name) → (u ≡ uid → n ≡ name → ⊥) → next u n ≡ before u n

-- what stood under one name of a directory stands under another one, and all else stays
pub record IsMovedTo (before next : Child) (old : ℕ) (old_name : Name) (uid : ℕ) (name : Name) : Type 0 where
  pub here : next uid name ≡ before old old_name
  pub gone : next old old_name ≡ None
  pub others : (u : ℕ) (n : Name) → (u ≡ old → n ≡ old_name → ⊥) → (u ≡ uid → n ≡ name → ⊥) → next u n ≡ before u n

abbrev pub IsSame : Child → Child → Type 0
IsSame before next = (u : ℕ) (n : Name) → next u n ≡ before u n

-- what stands where a path leads to from a node on
abbrev pub walk : Child → Option Node → Path → Option Node
walk child at [] = at
walk child None (name ∷ path) = None
walk child (Some node) (name ∷ path) = walk child (child node.uid name) path

-- the path leads nowhere, and this is the last node on its way
pub record IsLast (child : Child) (root : Node) (path : Path) (node : Node) : Type 0 where
  pub names : ℕ
  pub shorter : names < length path
  pub there : walk child (Some root) (take names path) ≡ Some node
  pub missing : walk child (Some root) (take (names + 1) path) ≡ None
