use Rattle.tape_desk.proofs.Gathers.{takes_in}
use Rattle.tape_desk.proofs.closing.take_in.Goals as goal

pub returns : goal.returns
returns g c =
    takes_in c.args.next c.args.whole.now c.into_pass.result c.join.new.pass c.into_pass.ensures c.join.ensures.pass
    c.requires.out c.join.ensures.sees c.join.ensures.sees_other c.join.ensures.fixed
