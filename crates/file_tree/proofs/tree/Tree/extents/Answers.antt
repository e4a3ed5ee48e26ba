use Rattle.std.proofs.Common.{sym, ap, ◌∙◌, subst, Some}
use Rattle.file_tree.specs.Tree.{FileTree, HasExtents}
use Rattle.file_tree.specs.Valid.{IsFileOf}
use Rattle.file_tree.proofs.PathLemmas.{number_is}
use Rattle.file_tree.proofs.InsideLemmas.{tree_of}
use Rattle.file_tree.proofs.tree.Tree.extents.Goals as goal

pub returns-clause-laid : goal.returns-clause-laid
returns-clause-laid c =
    let t : FileTree = tree_of c.self.inside in
    let h : HasExtents t.nodes c.args.file c.requires.0 = subst (λ (t : FileTree). HasExtents t.nodes c.args.file c.requires.0) (sym c.self.view_is) c.requires.1 in
    let there = c.node.ensures h.path (number_is t.nodes h.path h.node h.there ∙ ap (λ n. Some n) h.is) in
    subst (λ (t : FileTree). IsFileOf t.block_size c.in-File.extents.laid) c.self.view_is (c.self.invariant.files h.path c.node.result.now c.in-File.extents there c.in-File.is)
