-- How each file of a volume lies on tape, and the index that tells it.
use Rattle.std.specs.Prelude.{ℕ, zero, suc, ◌==◌, ◌&&◌, nat_lt, cond, List, [], ◌∷◌, length, map, filter, codes, Option}
use Rattle.std.specs.Prelude.{Some, None}
use Rattle.std.specs.Option.{option_map, unwrap_or}
use Rattle.std.specs.List.{enumerate_from, find}
use Rattle.std.specs.FinMap as fin
use Rattle.tape_types.specs.declared.moments.Moment.{Moment}
use Rattle.tape_types.specs.declared.cartridges.Part.{Part}
use Rattle.plain_tree.specs.Paths.{parent_of, last_name}
use Rattle.plain_tree.specs.Tree.{Tree}
use Rattle.plain_tree.specs.declared.nodes.Node as plain_node
use Rattle.plain_tree.specs.declared.nodes.Kind as plain_kind
use Rattle.plain_tree.specs.declared.nodes.Kind.TheVariants as plain_kinds
use Rattle.extent_map.specs.Laid.{Laid}
use Rattle.file_tree.specs.Locks.{told_lock}
use Rattle.file_tree.specs.Mounts.{Letters, laid_of}
use Rattle.file_tree.specs.Told.{letter_of, raw_of, place_of, name_or}
use Rattle.tape_types.specs.NodeKeys.Keys.{list_of}
use Rattle.index_model.specs.Canonical.{canonical}
use Rattle.index_model.specs.Values.{IndexValue, Nodes, no_nodes, directory, file, link, facts_of, volume_of}
use Rattle.index_model.specs.declared.indexes.Index.{Index}
use Rattle.index_model.specs.declared.nodes.Node.{Node}
use Rattle.index_model.specs.declared.nodes.NodeKind.{NodeKind}
use Rattle.index_model.specs.declared.nodes.NodeKind.TheVariants as kinds
use Rattle.space_laws.specs.Mount.{MountFacts}

-- how the file of each uid lies
abbrev pub Files : Type 0
Files = ℕ → Laid

abbrev pub letters : MountFacts → Letters
letters m = (m.label.index, m.label.dpart)

abbrev pub laid_node : MountFacts → NodeKind → Laid
laid_node m (kinds.File size extents) = laid_of (letters m) m.label.block size extents
laid_node m _ = laid_of (letters m) m.label.block 0 []

abbrev pub laid_found : MountFacts → Option Node → Laid
laid_found m (Some node) = laid_node m node.kind
laid_found m None = laid_node m kinds.Dir

-- as the mounted index tells it; a file that it doesn't tell has no bytes
abbrev pub mounted_files : MountFacts → Files
mounted_files m uid = laid_found m (find (λ n. n.uid == uid) m.index.nodes)

-- one file lies otherwise
abbrev pub with_file : ℕ → (Laid → Laid) → Files → Files
with_file uid change files n = cond (n == uid) (change (files n)) (files n)

-- ---- the index

-- what an index tells of what a node is
abbrev pub told_kind : Letters → Laid → plain_kind.Kind → NodeKind
told_kind both laid plain_kinds.Dir = kinds.Dir
told_kind both laid (plain_kinds.File cells) = kinds.File (length cells) (map (raw_of both) laid.extents)
told_kind both laid (plain_kinds.Link text) = kinds.Link text

-- what an index tells of the node at a path
abbrev pub told_node : Letters → List ℕ → Files → List (List (List ℕ)) → (List (List ℕ) × plain_node.Node) → Node
told_node both root files paths e = record {
  parent = place_of (parent_of e.0) paths;
  uid = e.1.uid;
  name = name_or root (last_name e.0);
  times = e.1.times;
  readonly = e.1.readonly;
  xattrs = list_of e.1.keys;
  kind = told_kind both (files e.1.uid) e.1.kind;
}

-- the name of the root, which no call changes
abbrev pub root_name : MountFacts → List ℕ
root_name m = unwrap_or (option_map (λ (n : Node). n.name) (find (λ n. n.uid == 1) m.index.nodes)) []

-- all nodes in the order of the document, which is that of their paths
abbrev pub told_nodes : MountFacts → Tree → Files → List Node
told_nodes m tree files = map (told_node (letters m) (root_name m) files (fin.keys tree.nodes)) (fin.entries tree.nodes)

-- the index of a tree as it stands at a place of a partition, with what no call changes as the mounted index has it;
-- its lock state is the tree's
abbrev pub index_at : MountFacts → Tree → Files → ℕ → Moment → Part → ℕ → Option ℕ → Index
index_at m tree files generation at part pos back = record {
  creator = codes "ltfs_server 1.0.0";
  comment = m.index.comment;
  uuid = m.label.uuid;
  generation = generation;
  updated = at;
  here = record { letter = letter_of (letters m) part; block = pos };
  back = option_map (λ block. record { letter = m.label.dpart; block = block }) back;
  allow = m.index.allow;
  policy = m.index.policy;
  lock = told_lock tree.lock;
  highest = tree.highest;
  nodes = told_nodes m tree files;
}

-- ---- its text

-- a node, with what stands in it where it is a directory, and the nodes behind it
abbrev pub followed : Node → NodeKind → (inside behind : Nodes) → Nodes
followed node kinds.Dir inside behind = directory (facts_of node) inside behind
followed node (kinds.File size extents) inside behind = file (facts_of node) size extents behind
followed node (kinds.Link text) inside behind = link (facts_of node) text behind

-- these nodes in their order, each with its place
abbrev pub gathered : (ℕ → Nodes) → List (ℕ × Node) → Nodes
gathered inside [] = no_nodes
gathered inside (e ∷ behind) = followed e.1 e.1.kind (inside e.0) (gathered inside behind)

-- the nodes in the directory at a place, to this depth
abbrev pub nodes_in : ℕ → List (ℕ × Node) → ℕ → Nodes
nodes_in zero all parent = no_nodes
nodes_in (suc depth) all parent = gathered (nodes_in depth all) (filter (λ e. e.1.parent == parent && nat_lt 0 e.0) all)

abbrev pub with_root : Index → List Node → Option IndexValue
with_root index [] = None
with_root index (root ∷ more) = Some record {
  volume = volume_of index;
  root = facts_of root;
  inside = nodes_in (length (root ∷ more)) (enumerate_from 0 (root ∷ more)) 0;
}

-- what an index tells, where it has a root
abbrev pub value_of : Index → Option IndexValue
value_of index = with_root index index.nodes

-- the one text of an index
abbrev pub canon : Index → List ℕ
canon index = unwrap_or (option_map canonical (value_of index)) []
