-- What the document of an index tells: facts of the volume, and its directories, files and links as they stand in one
-- another (LTFS 2.4 on the index). Moments are given as a date and a time of day, texts by their bytes in UTF-8.
use Rattle.std.specs.Prelude.{◌≡◌, ℕ, ◌+◌, List, [], ◌∷◌, ◌++◌, Bool, Option, map}
use Rattle.ltfs_documents.specs.declared.doc_fields.values.LockState.{LockState}
use Rattle.tape_types.specs.declared.moments.Times.{Times}
use Rattle.tape_types.specs.declared.times.Civil.{Civil}
use Rattle.tape_types.specs.Times.{civil_of}
use Rattle.tape_types.specs.declared.node_keys.xattrs.Xattr.{Xattr}
use Rattle.index_model.specs.declared.indexes.Index.{Index}
use Rattle.index_model.specs.declared.indexes.Policy.{Policy}
use Rattle.index_model.specs.declared.indexes.Spot.{Spot}
use Rattle.index_model.specs.declared.nodes.NodeKind.{NodeKind}
use Rattle.index_model.specs.declared.nodes.NodeKind.TheVariants as kinds
use Rattle.index_model.specs.declared.nodes.Node.{Node}
use Rattle.index_model.specs.declared.nodes.RawExtent.{RawExtent}

-- the five times of a node
pub record TimesValue : Type 0 where
  pub create : Civil
  pub change : Civil
  pub modify : Civil
  pub access : Civil
  pub backup : Civil

-- what is told of each node, whatever it is
pub record NodeFacts : Type 0 where
  pub uid : ℕ
  pub name : List ℕ
  pub times : TimesValue
  pub readonly : Bool
  pub xattrs : List Xattr

-- the nodes of a directory in the order of the document, each directory with the nodes in it
pub data Nodes : Type 0 where
  no_nodes : Nodes
  directory : NodeFacts → (inside behind : Nodes) → Nodes
  file : NodeFacts → ℕ → List RawExtent → (behind : Nodes) → Nodes
  link : NodeFacts → List ℕ → (behind : Nodes) → Nodes

-- what is told of the volume
pub record VolumeFacts : Type 0 where
  pub creator : List ℕ
  pub comment : Option (List ℕ)
  pub uuid : ℕ
  pub generation : ℕ
  pub updated : Civil
  pub here : Spot
  pub back : Option Spot
  pub allow : Bool
  pub policy : Option Policy
  pub lock : Option LockState
  pub highest : ℕ

pub record IndexValue : Type 0 where
  pub volume : VolumeFacts
  pub root : NodeFacts
  pub inside : Nodes

-- ---- the same as a list of nodes

-- a node with the place of the directory that it is in
pub record NodeValue : Type 0 where
  pub parent : ℕ
  pub facts : NodeFacts
  pub kind : NodeKind

abbrev pub value_in : ℕ → NodeFacts → NodeKind → NodeValue
value_in parent facts kind = record { parent = parent; facts = facts; kind = kind }

abbrev pub count : Nodes → ℕ
count no_nodes = 0
count (directory facts inside behind) = 1 + (count inside + count behind)
count (file facts bytes extents behind) = 1 + count behind
count (link facts text behind) = 1 + count behind

-- The nodes of the directory at place `parent` and all that is in them, of which the first stands at place `at`: a
-- directory before what is in it, and all of that before what is behind the directory.
abbrev pub listed : (parent at : ℕ) → Nodes → List NodeValue
listed parent at no_nodes = []
listed parent at (directory facts inside behind) =
    value_in parent facts kinds.Dir ∷ (listed at (at + 1) inside ++ listed parent (at + 1 + count inside) behind)
listed parent at (file facts bytes extents behind) =
    value_in parent facts (kinds.File bytes extents) ∷ listed parent (at + 1) behind
listed parent at (link facts text behind) = value_in parent facts (kinds.Link text) ∷ listed parent (at + 1) behind

-- all nodes, the root first
abbrev pub all_nodes : IndexValue → List NodeValue
all_nodes v = value_in 0 v.root kinds.Dir ∷ listed 0 1 v.inside

-- ---- what an index tells

abbrev pub times_of : Times → TimesValue
times_of t = record {
  create = civil_of t.create;
  change = civil_of t.change;
  modify = civil_of t.modify;
  access = civil_of t.access;
  backup = civil_of t.backup;
}

abbrev pub facts_of : Node → NodeFacts
facts_of node = record {
  uid = node.uid;
  name = node.name;
  times = times_of node.times;
  readonly = node.readonly;
  xattrs = node.xattrs;
}

abbrev pub value_of : Node → NodeValue
value_of node = value_in node.parent (facts_of node) node.kind

abbrev pub volume_of : Index → VolumeFacts
volume_of index = record {
  creator = index.creator;
  comment = index.comment;
  uuid = index.uuid;
  generation = index.generation;
  updated = civil_of index.updated;
  here = index.here;
  back = index.back;
  allow = index.allow;
  policy = index.policy;
  lock = index.lock;
  highest = index.highest;
}

-- the index tells this: the same facts of the volume, and these nodes in this order
pub record Tells (index : Index) (v : IndexValue) : Type 0 where
  pub volume : volume_of index ≡ v.volume
  pub nodes : map value_of index.nodes ≡ all_nodes v
