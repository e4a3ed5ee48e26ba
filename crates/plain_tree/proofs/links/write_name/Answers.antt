use Rattle.std.proofs.Common.{ap, is_some, sym}
use Rattle.plain_tree.specs.Tree.{written_by}
use Rattle.plain_tree.proofs.LinkLemmas.{changed_in, same_in, on_ok, on_err}
use Rattle.plain_tree.proofs.links.write_name.Goals as goal

pub returns-in-Some-clause-ok : goal.returns-in-Some-clause-ok
returns-in-Some-clause-ok c =
    let new = c.write_node.new.node in
    let through = c.get_mut.follows.holds new in
    on_ok c.write_node.result
    (λ is. changed_in (written_by c.args.write c.args.at) c.args.names.now (c.get_mut.follows.lender new) c.args.name.now c.in-Some.node.now new c.in-Some.ensures.value is (through.3 (ap is_some (sym c.in-Some.ensures.value))))
    c.write_node.ensures.ok

pub returns-in-Some-clause-err : goal.returns-in-Some-clause-err
returns-in-Some-clause-err c =
    let new = c.write_node.new.node in
    let through = c.get_mut.follows.holds new in
    on_err c.write_node.result
    (λ is. same_in c.args.names.now (c.get_mut.follows.lender new) c.args.name.now c.in-Some.node.now new c.in-Some.ensures.value is (through.3 (ap is_some (sym c.in-Some.ensures.value))))
    c.write_node.ensures.err
