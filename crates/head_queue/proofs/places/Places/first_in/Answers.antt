use Rattle.std.proofs.Common.{Some}
use Rattle.head_queue.specs.Entries.{waiting}
use Rattle.head_queue.proofs.FirstLemmas.{ahead, second_least, second_none}
use Rattle.head_queue.proofs.places.Places.first_in.Goals as goal

pub returns-in-Some-clause-least : goal.returns-in-Some-clause-least
returns-in-Some-clause-least c = ahead c.args.self.now.order c.args.part c.args.pos (waiting c.in-Some.first.0 (Some c.in-Some.first.1)) c.in-Some.ensures.kept c.in-Some.ensures.some c.in-Some.ensures.part

pub returns-in-None-clause-least : goal.returns-in-None-clause-least
returns-in-None-clause-least c = second_least c.args.self.now.order c.args.part c.args.pos c.first_from-in-None.result c.first_from-in-None.ensures.kept c.first_from-in-None.ensures.some c.first_from-in-None.ensures.part c.in-None.ensures.none

pub returns-in-None-clause-none : goal.returns-in-None-clause-none
returns-in-None-clause-none c = second_none c.args.self.now.order c.args.part c.first_from-in-None.result c.first_from-in-None.ensures.none
