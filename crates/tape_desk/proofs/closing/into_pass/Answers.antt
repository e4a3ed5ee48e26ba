use Rattle.tape_desk.proofs.Gathers.{is_pass}
use Rattle.tape_desk.proofs.closing.into_pass.Goals as goal

pub returns : goal.returns
returns g c =
    is_pass c.next.inside.pass c.next.inside.who c.next.inside.placed c.next.inside.count c.args.next c.next.invariant
    c.next.view_is
