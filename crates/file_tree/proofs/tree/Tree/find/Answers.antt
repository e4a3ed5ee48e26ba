use Rattle.std.proofs.Common.{sym, ap, ◌∙◌}
use Rattle.std.specs.FinMap as fin
use Rattle.extent_map.specs.Cells.{Tape}
use Rattle.plain_tree.specs.Refusals.{no_node}
use Rattle.file_tree.specs.Tree.{FileTree, plain_of, whole}
use Rattle.file_tree.specs.Reads.{refusal_found}
use Rattle.file_tree.proofs.ReadLemmas.{lost, found_there, lost_found, lost_refusal}
use Rattle.file_tree.proofs.InsideLemmas.{tree_of}
use Rattle.file_tree.proofs.tree.Tree.find.Goals as goal

pub returns-in-Ok-clause-refusal : goal.returns-in-Ok-clause-refusal
returns-in-Ok-clause-refusal c tape =
    let t : FileTree = tree_of c.self.inside in
    ap (λ (t : FileTree). no_node (plain_of tape t).nodes c.args.path.now) (sym c.self.view_is) ∙ found_there tape t.nodes c.args.path.now c.in-Ok.number c.in-Ok.ensures.there

pub returns-in-Err-clause-number : goal.returns-in-Err-clause-number
returns-in-Err-clause-number c =
    let t : FileTree = tree_of c.self.inside in
    let tape : Tape = whole in
    let gone = lost tape t.nodes (t.highest, c.self.invariant.valid tape) c.args.path.now c.in-Err.last c.node.result.now c.in-Err.ensures.missing c.node.ensures in
    lost_found c.args.self.now c.args.path.now c.node.result.now.kind c.lost_below.result c.lost_below.ensures (ap (λ (t : FileTree). fin.get t.nodes c.args.path.now) (sym c.self.view_is) ∙ gone.0)

pub returns-in-Err-clause-refusal : goal.returns-in-Err-clause-refusal
returns-in-Err-clause-refusal c tape =
    let t : FileTree = tree_of c.self.inside in
    let gone = lost tape t.nodes (t.highest, c.self.invariant.valid tape) c.args.path.now c.in-Err.last c.node.result.now c.in-Err.ensures.missing c.node.ensures in
    ap (λ (t : FileTree). no_node (plain_of tape t).nodes c.args.path.now) (sym c.self.view_is) ∙ gone.1 ∙ lost_refusal tape c.node.result.now.kind ∙ ap refusal_found (sym c.lost_below.ensures)
