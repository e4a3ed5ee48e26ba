use Rattle.file_tree.proofs.InsideLemmas.{tree_of}
use Rattle.file_tree.proofs.TreeLemmas.{good_locked}
use Rattle.file_tree.proofs.tree.Tree.set_lock.Goals as goal

pub invariant_of-self : goal.invariant_of-self
invariant_of-self c = good_locked (tree_of c.self.inside) c.args.state c.self.invariant
