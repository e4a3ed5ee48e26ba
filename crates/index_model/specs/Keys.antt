-- The extended attributes of nodes (LTFS 2.4 on extended attributes).
use Rattle.std.specs.Prelude.{◌≡◌, ℕ, ◌<◌, List, true}
use Rattle.std.specs.Str.{IsUtf8}
use Rattle.base64.specs.GeneralPurpose.{IsBytes}
use Rattle.tape_types.specs.declared.node_keys.xattrs.Xattr.{Xattr}
use Rattle.tape_types.specs.NodeKeys.Keys.{is_key}
use Rattle.index_model.specs.declared.nodes.Node.{Node}
use Rattle.index_model.specs.Places.{IsAt}

-- the key is a text that may be one, and the value is a list of bytes
pub record IsXattr (x : Xattr) : Type 0 where
  pub utf8 : IsUtf8 x.key
  pub key : is_key x.key ≡ true
  pub bytes : IsBytes x.value

-- the node at this place has one key at two places of its list
pub record HasKeyTwice (nodes : List Node) (at : ℕ) : Type 0 where
  pub node : Node
  pub is : IsAt nodes at node
  pub earlier : ℕ
  pub later : ℕ
  pub two : earlier < later
  pub one : Xattr
  pub one_is : IsAt node.xattrs earlier one
  pub other : Xattr
  pub other_is : IsAt node.xattrs later other
  pub same : one.key ≡ other.key

-- no node has a key twice
abbrev pub AreKeysApart : List Node → Type 0
AreKeysApart nodes = (at : ℕ) → ¬ HasKeyTwice nodes at
