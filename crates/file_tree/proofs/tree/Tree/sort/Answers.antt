use Rattle.std.proofs.Common.{sym, ap, ◌∙◌}
use Rattle.std.specs.FinMap as fin
use Rattle.file_tree.specs.Tree.{FileTree, number_at}
use Rattle.file_tree.proofs.tree.Tree.sort.Goals as goal

pub returns : goal.returns
returns c path stands = (
  c.node.result.now,
  ap (λ (t : FileTree). fin.get t.nodes path) (sym c.self.view_is) ∙ c.node.ensures path (ap (λ (t : FileTree). number_at t.nodes path) c.self.view_is ∙ stands),
  sym c.sort_of.ensures,
)
