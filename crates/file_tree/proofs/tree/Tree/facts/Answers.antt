use Rattle.std.proofs.Common.{sym, ap, ◌∙◌}
use Rattle.std.specs.FinMap as fin
use Rattle.file_tree.specs.Tree.{FileTree, number_at}
use Rattle.file_tree.proofs.ReadLemmas.{if_ok, facts_are}
use Rattle.file_tree.proofs.tree.Tree.facts.Goals as goal

pub returns : goal.returns
returns c = if_ok c.facts_of.result
    (λ facts are. facts_are c.args.self.now c.args.number c.node.result.now facts
    (λ path stands. ap (λ (t : FileTree). fin.get t.nodes path) (sym c.self.view_is) ∙ c.node.ensures path (ap (λ (t : FileTree). number_at t.nodes path) c.self.view_is ∙ stands)) are)
    c.facts_of.ensures
