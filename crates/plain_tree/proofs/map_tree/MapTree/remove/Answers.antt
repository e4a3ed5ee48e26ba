use Rattle.std.proofs.Common.{sym, ◌∙◌, subst, rules}
use Rattle.plain_tree.specs.Tree.{Tree}
use Rattle.plain_tree.specs.Valid.{IsValid}
use Rattle.plain_tree.proofs.Validity.{may_leave}
use Rattle.plain_tree.proofs.KeptLemmas.{some_names}
use Rattle.plain_tree.proofs.map_tree.MapTree.remove.Goals as goal

pub remove-requires : goal.remove-requires
remove-requires c =
    may_leave c.self.inside.nodes c.args.path.now (c.self.inside.highest, subst (λ (t : Tree). IsValid t) (sym c.self.view_is) c.requires)
    (some_names c.args.path.now (search rules)) (sym c.no_node.ensures ∙ c.in_default.is) (sym c.has_entries.ensures ∙ c.if-has_entries.false)
