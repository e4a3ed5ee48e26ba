use Rattle.std.proofs.Common.{ap, is_some, sym}
use Rattle.plain_tree.specs.Tree.{changed_by}
use Rattle.plain_tree.proofs.LinkLemmas.{changed_in}
use Rattle.plain_tree.proofs.links.change_name.Goals as goal

pub returns-in-Some : goal.returns-in-Some
returns-in-Some c =
    let new = c.change_node.new.node in
    let through = c.get_mut.follows.holds new in
    changed_in (changed_by c.args.change c.args.at) c.args.names.now (c.get_mut.follows.lender new) c.args.name.now c.in-Some.node.now new c.in-Some.ensures.value c.change_node.ensures (through.3 (ap is_some (sym c.in-Some.ensures.value)))
