use Rattle.name_tries.specs.Bits.{level}
use Rattle.name_tries.proofs.LoopLemmas.{fork_there, up_from}
use Rattle.name_tries.proofs.forks.way_from.Goals as goal

pub pass-requires : goal.pass-requires
pass-requires c =
    let on = c.requires.there.2 in
    fork_there c.args.forks.now c.args.name.now on.part c.args.from c.in-Some.place on.is c.in-Some.ensures.some

pub returns-in-Some : goal.returns-in-Some
returns-in-Some c = λ t is on.
    let forks = c.args.forks.now in
    let k = fork_there forks c.args.name.now on.part c.args.from c.in-Some.place on.is c.in-Some.ensures.some in
    up_from forks c.args.from c.pass.result c.args.name.now (level c.args.bit.byte c.args.bit.within) t c.in-Some.place k.0 on
    c.in-Some.ensures.some k.1 (c.in-Some.ensures.before k.0 k.1) (c.pass.ensures.past k.0 k.1)
