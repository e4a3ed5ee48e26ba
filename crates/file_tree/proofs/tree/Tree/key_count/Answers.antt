use Rattle.std.proofs.Common.{sym, ap, ◌∙◌}
use Rattle.std.specs.FinMap as fin
use Rattle.file_tree.specs.Tree.{FileTree, number_at}
use Rattle.file_tree.proofs.AttributeLemmas.{count_read}
use Rattle.file_tree.proofs.tree.Tree.key_count.Goals as goal

pub returns : goal.returns
returns c tape path stands = c.len.ensures ∙ sym (count_read tape c.args.self.now.nodes path c.node.result.now
    (ap (λ (t : FileTree). fin.get t.nodes path) (sym c.self.view_is) ∙ c.node.ensures path (ap (λ (t : FileTree). number_at t.nodes path) c.self.view_is ∙ stands)))
