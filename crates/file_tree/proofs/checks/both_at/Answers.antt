use Rattle.std.proofs.Common.{[], ◌∷◌, ◌++◌, sym, ap, ◌∙◌, subst}
use Rattle.plain_tree.specs.Paths.{Path}
use Rattle.plain_tree.specs.Refusals.{first_of, no_node, no_dir}
use Rattle.plain_tree.proofs.MoveLemmas.{same_is}
use Rattle.file_tree.specs.Tree.{plain_nodes, whole}
use Rattle.file_tree.specs.Checks.{AreChecked}
use Rattle.file_tree.proofs.checks.both_at.Goals as goal

pub returns-then-same_path : goal.returns-then-same_path
returns-then-same_path c =
    let same = same_is c.in-Some.front.now c.args.up.now (sym c.same_path.ensures ∙ c.if-same_path.true) in
    subst (λ (p : Path). AreChecked (first_of (no_node (plain_nodes whole c.args.tree.now.nodes) p ∷ no_dir (plain_nodes whole c.args.tree.now.nodes) c.args.up.now ∷ [])) c.args.tree.now p c.args.up.now c.both_in.result)
    (sym (c.in-Some.ensures.cases.0 ∙ ap (λ (p : Path). p ++ c.in-Some.name.now ∷ []) same)) c.both_in.ensures
