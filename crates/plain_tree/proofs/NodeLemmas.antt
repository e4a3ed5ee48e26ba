-- The order of paths, and a change of the node at one.
use Rattle.std.proofs.Common.{◌≡◌, Some, None, refl}
use Rattle.std.specs.Cmp.{IsTotalOrder}
use Rattle.std.specs.Cmp.Lexicographic.{lists_total, nat_list_cmp_total}
use Rattle.std.specs.FinMap as fin
pub use Rattle.tape_types.proofs.NodeKeys.SortLemmas.{tied}
use Rattle.plain_tree.specs.declared.nodes.Node.{Node}
use Rattle.plain_tree.specs.Paths.{Path, path_cmp}
use Rattle.plain_tree.specs.Tree.{Nodes, changed_at}

-- a change where there is a node, and where there is none
pub changed_found : (change : Node → Node) (p : Path) (m : Nodes) (node : Node) → fin.get m p ≡ Some node → changed_at change p m ≡ fin.insert m p (change node)
changed_found change p m node is = rw is refl

-- a change at a path where nothing stands changes nothing
pub changed_missing : (change : Node → Node) (p : Path) (m : Nodes) → fin.get m p ≡ None → changed_at change p m ≡ m
changed_missing change p m is = rw is refl

-- the order of paths is total
pub path_total : IsTotalOrder path_cmp
path_total = lists_total nat_list_cmp_total

-- paths of which none is before the other are the same
pub path_exact : fin.IsAntisymmetric path_cmp
path_exact = fin.slice_cmp-IsAntisymmetric (fin.slice_cmp-IsAntisymmetric fin.nat_cmp-IsAntisymmetric)
