use Rattle.std.proofs.Common.{◌≡◌, rules, None}
use Rattle.plain_tree.specs.Refusals.{at_root, bad_name}
use Rattle.file_tree.specs.Tree.{plain_nodes, whole}
use Rattle.file_tree.proofs.ReadyLemmas.{rename_refused}
use Rattle.file_tree.proofs.checks.find_move.Goals as goal

pub returns-in-Err : goal.returns-in-Err
returns-in-Err c =
    let good : bad_name c.args.to.now ≡ None = search rules in
    let some : at_root c.args.from.now ≡ None = search rules in
    rename_refused (plain_nodes whole c.args.tree.now.nodes) c.args.from.now c.args.to.now c.in-Some-split_last.up.now c.in-Some-split_last.name.now c.in-Err.refusal good some c.in-Some-split_last.ensures.cases.0 c.in-Err.ensures
