use Rattle.name_tries.proofs.LoopLemmas.{fork_there, on_past}
use Rattle.name_tries.proofs.forks.trail_past.Goals as goal

pub pass-way-requires : goal.pass-way-requires
pass-way-requires c =
    let on = c.requires.on.1.at in
    fork_there c.args.forks.now c.args.name.now on.part c.args.trail.at c.args.place on.is c.requires.place

pub returns-clause-towards : goal.returns-clause-towards
returns-clause-towards c = λ t on. record {
  at = (on_past c.args.forks.now c.args.trail.at c.pass-way.result c.args.name.now t c.args.place on.at
      c.requires.place c.pass-way.ensures.past c.pass-way.ensures.range).0;
  last = on.at;
  second = on.last;
  third = on.second;
  fourth = on.third;
}

pub returns-clause-less : goal.returns-clause-less
returns-clause-less c =
    (on_past c.args.forks.now c.args.trail.at c.pass-way.result c.args.name.now c.requires.on.0 c.args.place c.requires.on.1.at
    c.requires.place c.pass-way.ensures.past c.pass-way.ensures.range).1
