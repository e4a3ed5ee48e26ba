use Rattle.name_tries.proofs.LoopLemmas.{fork_there, side_taken, down_past}
use Rattle.name_tries.proofs.forks.last_past.Goals as goal

pub pass-way-requires : goal.pass-way-requires
pass-way-requires c =
    let s = side_taken c.args.forks.now c.requires.on.0 c.args.name.now c.args.last c.requires.on.1 in
    fork_there c.args.forks.now c.args.name.now s.next c.args.last.below c.args.place s.at c.requires.place

pub returns-clause-on : goal.returns-clause-on
returns-clause-on c = λ t on.
    (down_past c.args.forks.now t c.args.name.now c.args.last c.pass-way.result c.args.place on c.requires.place c.pass-way.ensures.past c.pass-way.ensures.range).0

pub returns-clause-less : goal.returns-clause-less
returns-clause-less c =
    (down_past c.args.forks.now c.requires.on.0 c.args.name.now c.args.last c.pass-way.result c.args.place c.requires.on.1 c.requires.place
    c.pass-way.ensures.past c.pass-way.ensures.range).1
