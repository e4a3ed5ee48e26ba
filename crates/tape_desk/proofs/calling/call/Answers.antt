use Rattle.tape_desk.proofs.Making.{held_again}
use Rattle.tape_desk.proofs.calling.call.Goals as goal

pub invariant_of-pass : goal.invariant_of-pass
invariant_of-pass g c = held_again c.pass.inside.who c.pass.inside.placed c.pass.inside.count c.make-reply.result c.pass.inside.pass c.make-reply.new.pass c.args.pass.now c.pass.view_is c.pass.invariant c.requires.more c.make-reply.ensures
