-- The trees that the fields of a tree are.
use Rattle.std.proofs.Common.{ℕ}
use Rattle.file_tree.specs.declared.tree.Tree.TheInside.{Inside}
use Rattle.file_tree.specs.Tree.{Nodes, FileTree}

-- with other nodes, and room for so many more
abbrev pub with_nodes : Inside → Nodes → ℕ → FileTree
with_nodes i nodes spare = record { highest = i.highest; lock = i.lock; name = i.volume; block_size = i.block_size; nodes = nodes; spare = spare }

-- the tree that these fields are
abbrev pub tree_of : Inside → FileTree
tree_of i = with_nodes i i.places.nodes i.places.spare
