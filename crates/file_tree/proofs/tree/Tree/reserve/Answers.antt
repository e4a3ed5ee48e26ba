use Rattle.file_tree.specs.Tree.{FileTree}
use Rattle.file_tree.proofs.TreeLemmas.{good_same}
use Rattle.file_tree.proofs.InsideLemmas.{tree_of}
use Rattle.file_tree.proofs.tree.Tree.reserve.Goals as goal

pub invariant_of-self : goal.invariant_of-self
invariant_of-self c =
    let t : FileTree = tree_of c.self.inside in
    good_same t c.reserve.new.self.nodes c.reserve.new.self.spare c.self.invariant c.reserve.ensures.same
