use Rattle.tape_desk.proofs.Deals.{held}
use Rattle.tape_desk.proofs.opening.begin.Goals as goal

pub invariant_of-result : goal.invariant_of-result
invariant_of-result g c = held c.args.who c.args.count c.args.pass c.requires
