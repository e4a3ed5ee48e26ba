-- How many nodes the tree has that is held.
use Rattle.std.proofs.Common.{◌≡◌, List, length, sym, ap, ◌∙◌}
use Rattle.std.proofs.lemmas.List.{length-map}
use Rattle.std.specs.FinMap as fin
use Rattle.extent_map.specs.Cells.{Tape}
use Rattle.file_tree.specs.Tree.{FileTree, plain_node_of, plain_of}
use Rattle.file_tree.specs.declared.nodes.Node.{Node}
use Rattle.file_tree.proofs.PlainLemmas.{plain_entries}
use Rattle.plain_tree.specs.Paths.{Path}
use Rattle.plain_tree.specs.Tree.{Tree}
use Rattle.plain_tree.specs.declared.nodes.Node as plain

-- a plain tree has a node for each of those of which it is made
pub as_many : (tape : Tape) (t : FileTree) (tree : Tree) → plain_of tape t ≡ tree
    → fin.len t.nodes ≡ fin.len tree.nodes
as_many tape t tree is =
    fin.len-entries t.nodes
    ∙ sym (length-map (fin.entries t.nodes) (λ (e : Path × Node). (e.0, plain_node_of tape e.1)))
    ∙ ap (λ (l : List (Path × plain.Node)). length l) (sym (plain_entries tape t.nodes))
    ∙ sym (fin.len-entries (plain_of tape t).nodes)
    ∙ ap (λ (u : Tree). fin.len u.nodes) is
