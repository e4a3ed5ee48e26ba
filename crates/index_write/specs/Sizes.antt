-- Counts of bytes in 64 bits.
use Rattle.std.specs.Prelude.{ℕ, ◌-◌, ◌^◌, List, [], ◌++◌, length, map, min}
use Rattle.std.specs.List.{sum}
use Rattle.index_model.specs.declared.nodes.Node.{Node}
use Rattle.index_model.specs.declared.nodes.NodeKind.{NodeKind}
use Rattle.index_model.specs.declared.nodes.NodeKind.TheVariants as kinds
use Rattle.ltfs_documents.specs.declared.doc_fields.tags.Tag.TheVariants.{FileUid, Name, ReadOnly}
use Rattle.index_model.specs.Canonical.{attributes, number, name, times, truth, directory_text, file_text, link_text}
use Rattle.index_model.specs.Values.{NodeFacts, NodeValue, value_of}

-- the count, or the greatest number of 64 bits where it is greater
abbrev pub bounded : ℕ → ℕ
bounded n = min n (2 ^ 64 - 1)

-- the bytes of a text
abbrev pub size : List ℕ → ℕ
size text = bounded (length text)

-- the bytes of what is told of each node, whatever it is
unfoldable pub facts_length : NodeFacts → ℕ
facts_length f =
    length (number FileUid f.uid ++ name Name f.name ++ times f.times ++ truth ReadOnly f.readonly ++ attributes f.xattrs)

-- the bytes of a directory without its children
unfoldable pub directory_length : NodeFacts → ℕ
directory_length f = length (directory_text f [])

-- the bytes of a node; those of a directory without its children
abbrev pub node_length : NodeValue → ℕ
node_length node = by node.kind
  where
    by : NodeKind → ℕ
    by kinds.Dir = directory_length node.facts
    by (kinds.File bytes extents) = length (file_text node.facts bytes extents)
    by (kinds.Link text) = length (link_text node.facts text)

-- the bytes of these nodes
abbrev pub nodes_sum : List Node → ℕ
nodes_sum nodes = sum (map node_length (map value_of nodes))
