use Rattle.std.proofs.Common.{sym, ap}
use Rattle.name_tries.specs.declared.forks.Way.{Way}
use Rattle.name_tries.proofs.LoopLemmas.{fork_there, way_begins, way_goes_on}
use Rattle.name_tries.proofs.forks.few_on.Goals as goal

pub pass-at-requires : goal.pass-at-requires
pass-at-requires c =
    let on = c.loop.invariant c.requires.0 c.requires.1 in
    fork_there c.args.forks.now c.args.name.now on.part c.loop.at c.in-Some.place on.is (sym c.in-Some.ensures)

pub loop-init : goal.loop-init
loop-init c = λ t is. way_begins c.args.forks.now c.args.root c.args.name.now t is

pub loop-preserved : goal.loop-preserved
loop-preserved c = λ t is.
    let forks = c.args.forks.now in
    let x = c.args.name.now in
    let on = c.loop.invariant t is in
    let k = fork_there forks x on.part c.loop.at c.in-Some.place on.is (sym c.in-Some.ensures) in
    way_goes_on forks c.loop.at c.pass-at.result.below x t c.in-Some.place k.0 on (sym c.in-Some.ensures) k.1
    (ap (λ (v : Way). v.below) (c.pass-at.ensures.past k.0 k.1))
