use Rattle.std.proofs.Common.{ap, is_some, sym}
use Rattle.plain_tree.proofs.LinkLemmas.{changed_in}
use Rattle.plain_tree.proofs.links.replace_name.Goals as goal

pub returns-in-Some : goal.returns-in-Some
returns-in-Some c =
    let new = c.put_node.new.place in
    let through = c.get_mut.follows.holds new in
    changed_in (λ _. c.args.node) c.args.names.now (c.get_mut.follows.lender new) c.args.name.now c.in-Some.place.now new c.in-Some.ensures.value c.put_node.ensures (through.3 (ap is_some (sym c.in-Some.ensures.value)))
