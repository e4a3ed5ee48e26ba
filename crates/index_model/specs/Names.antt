-- The names of nodes (LTFS 2.4 on names). A name is given by its bytes in UTF-8.
use Rattle.std.specs.Prelude.{◌≡◌, ℕ, ◌<◌, ◌≤◌, List, false, length}
use Rattle.std.specs.Str.{IsUtf8, chars}
use Rattle.tape_types.specs.Bounds.{longest_name}
use Rattle.tape_types.specs.Names.{has_byte, is_dot}
use Rattle.index_model.specs.declared.nodes.Node.{Node}
use Rattle.index_model.specs.Places.{IsAt}

-- the name of a volume, which is its root's: up to 255 characters without a slash and a NUL
pub record IsVolumeName (name : List ℕ) : Type 0 where
  pub utf8 : IsUtf8 name
  pub short : length (chars name) ≤ longest_name
  pub no_slash : has_byte 47 name ≡ false
  pub no_nul : has_byte 0 name ≡ false

-- the name of another node: it also has a character, and is neither `.` nor `..`
pub record IsNodeName (name : List ℕ) : Type 0 where
  pub text : IsVolumeName name
  pub some : 1 ≤ length name
  pub no_dot : is_dot name ≡ false

-- each node has a name that it may have
pub record AreNames (nodes : List Node) : Type 0 where
  pub volume : (root : Node) → IsAt nodes 0 root → IsVolumeName root.name
  pub others : (at : ℕ) (node : Node) → 0 < at → IsAt nodes at node → IsNodeName node.name

-- at these two places, neither of them the root's, stand nodes of one directory with one name
pub record HaveOneName (nodes : List Node) (at other : ℕ) : Type 0 where
  pub behind_root : 0 < at
  pub other_behind_root : 0 < other
  pub node : Node
  pub is : IsAt nodes at node
  pub named : Node
  pub other_is : IsAt nodes other named
  pub parent : node.parent ≡ named.parent
  pub name : node.name ≡ named.name

-- no two nodes of one directory have one name
abbrev pub AreNamesApart : List Node → Type 0
AreNamesApart nodes = (at other : ℕ) → HaveOneName nodes at other → at ≡ other

-- the node at this place has the name of an earlier one of its directory
pub record HasTakenName (nodes : List Node) (at : ℕ) : Type 0 where
  pub earlier : ℕ
  pub before : earlier < at
  pub taken : HaveOneName nodes earlier at
