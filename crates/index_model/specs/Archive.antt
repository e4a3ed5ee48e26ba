-- A small index, on which the definitions are tried: a volume `Archive` with a file in a directory, which has three
-- attributes, and a link to it.
use Rattle.std.specs.Prelude.{ℕ, ◌+◌, ◌^◌, List, [], ◌∷◌, Some, None, true, false, codes}
use Rattle.tape_types.specs.declared.moments.Moment.{Moment}
use Rattle.tape_types.specs.declared.moments.Times.{Times}
use Rattle.tape_types.specs.declared.node_keys.xattrs.Xattr.{Xattr}
use Rattle.index_model.specs.declared.indexes.Index.{Index}
use Rattle.ltfs_documents.specs.declared.doc_fields.values.LockState.TheVariants as locks
use Rattle.index_model.specs.declared.nodes.NodeKind.{NodeKind}
use Rattle.index_model.specs.declared.nodes.NodeKind.TheVariants as kinds
use Rattle.index_model.specs.declared.nodes.Node.{Node}
use Rattle.index_model.specs.declared.nodes.RawExtent.{RawExtent}

-- five bytes of a file, in the block at position 7
abbrev pub hello : RawExtent
hello = record { offset = 0; letter = 98; block = 7; byte = 0; count = 5 }

abbrev pub node : Times → ℕ → ℕ → List ℕ → NodeKind → Node
node times parent uid name kind =
    record { parent = parent; uid = uid; name = name; times = times; readonly = false; xattrs = []; kind = kind }

-- a node with attributes
abbrev pub keyed : List Xattr → Node → Node
keyed xattrs node = record node { xattrs = xattrs }

abbrev pub note : Xattr
note = record { key = codes "user.note"; value = codes "hi" }

-- bytes that are no text
abbrev pub bin : Xattr
bin = record { key = codes "user.bin"; value = 0 ∷ 255 ∷ [] }

-- the bytes of the note under another key
abbrev pub hi : Xattr
hi = record { key = codes "user.hi"; value = codes "hi" }

-- what stands behind the root
abbrev pub archive_rest : Times → List Node
archive_rest times =
    node times 0 2 (codes "docs") kinds.Dir
    ∷ keyed (note ∷ bin ∷ hi ∷ []) (node times 1 3 (codes "read me.txt") (kinds.File 5 (hello ∷ [])))
    ∷ node times 0 4 (codes "latest") (kinds.Link (codes "docs/read me.txt"))
    ∷ []

abbrev pub archive_nodes : Times → List Node
archive_nodes times = node times 0 1 (codes "Archive") kinds.Dir ∷ archive_rest times

-- an index of these nodes
abbrev pub index_of : Moment → ℕ → List Node → Index
index_of at highest nodes = record {
  creator = codes "Example LTFS 2.4.0.0 - Linux - ltfs";
  comment = Some (codes "Nightly & weekly");
  uuid = 0x30a91a08daae48d1ae7569804e61d2ea;
  generation = 3;
  updated = at;
  here = record { letter = 98; block = 9 };
  back = Some record { letter = 98; block = 5 };
  allow = true;
  policy = None;
  lock = Some locks.Unlocked;
  highest = highest;
  nodes = nodes;
}

abbrev pub archive : Moment → Times → Index
archive at times = index_of at 4 (archive_nodes times)

-- Damaged in one way each.

-- the root, and one more node in it
abbrev pub with_keys : Times → List Xattr → NodeKind → List Node
with_keys times xattrs kind = node times 0 1 [] kinds.Dir ∷ keyed xattrs (node times 0 2 (codes "f") kind) ∷ []

abbrev pub with_file : Times → NodeKind → List Node
with_file times kind = with_keys times [] kind

-- two nodes of one directory with one name
abbrev pub one_name : Times → List Node
one_name times =
    node times 0 1 [] kinds.Dir ∷ node times 0 3 (codes "docs") kinds.Dir ∷ node times 0 2 (codes "docs") kinds.Dir
    ∷ []

-- a file a byte too long, with two notes
abbrev pub two_notes : Times → List Node
two_notes times =
    with_keys times (note ∷ bin ∷ record { key = codes "user.note"; value = [] } ∷ []) (kinds.File (2 ^ 40 + 1) [])

-- a file a byte too long
abbrev pub long_file : Times → List Node
long_file times = with_file times (kinds.File (2 ^ 40 + 1) [])

-- extents that touch, and one of no bytes within the second of them
abbrev pub touching : List RawExtent
touching =
    record { offset = 0; letter = 98; block = 7; byte = 0; count = 3 }
    ∷ record { offset = 3; letter = 98; block = 9; byte = 0; count = 2 }
    ∷ record { offset = 4; letter = 98; block = 9; byte = 0; count = 0 }
    ∷ []

-- two extents that share a byte
abbrev pub shared_byte : Times → List Node
shared_byte times =
    with_file times (kinds.File 5 (hello ∷ record { offset = 4; letter = 98; block = 9; byte = 0; count = 1 } ∷ []))

-- a node behind its directory's sibling
abbrev pub late_node : Times → List Node
late_node times =
    node times 0 1 [] kinds.Dir ∷ node times 0 2 (codes "a") kinds.Dir ∷ node times 0 3 (codes "b") kinds.Dir
    ∷ node times 1 4 (codes "c") kinds.Dir ∷ []

-- a node in a file
abbrev pub node_in_file : Times → List Node
node_in_file times =
    node times 0 1 [] kinds.Dir ∷ node times 0 2 (codes "f") (kinds.File 0 []) ∷ node times 1 3 (codes "g") kinds.Dir
    ∷ []
