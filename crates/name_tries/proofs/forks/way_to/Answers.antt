use Rattle.std.proofs.Common.{sym, ap, subst, arith}
use Rattle.name_tries.specs.Bits.{level}
use Rattle.name_tries.specs.Tries.{Shows}
use Rattle.name_tries.specs.declared.forks.Branch.{Branch}
use Rattle.name_tries.specs.declared.forks.Way.{Way}
use Rattle.name_tries.proofs.LoopLemmas.{fork_there, passed, left_less, up_goes_on}
use Rattle.name_tries.proofs.forks.way_to.Goals as goal

pub loop-place-init : goal.loop-place-init
loop-place-init c = c.way_from-way.ensures

pub fork_before-requires-clause-there : goal.fork_before-requires-clause-there
fork_before-requires-clause-there c =
    let w = c.loop-place.invariant c.requires.there.0 c.requires.there.1 c.requires.there.2 in (w.part, (w.rises, w.shown))

pub pass-way-requires : goal.pass-way-requires
pass-way-requires c =
    let w = c.loop-place.invariant c.requires.there.0 c.requires.there.1 c.requires.there.2 in
    fork_there c.args.forks.now c.args.name.now w.part c.loop-place.way.below c.in-Some.place (w.rises, w.shown) c.in-Some.ensures.some

pub loop-place-smaller : goal.loop-place-smaller
loop-place-smaller c =
    let forks = c.args.forks.now in
    let x = c.args.name.now in
    let goes = c.in-Some.ensures.some in
    let w = c.loop-place.invariant c.requires.there.0 c.requires.there.1 c.requires.there.2 in
    let k = fork_there forks x w.part c.loop-place.way.below c.in-Some.place (w.rises, w.shown) goes in
    let p = passed forks x w.part c.loop-place.way.below c.in-Some.place k.0 (w.rises, w.shown) goes k.1 in
    let range = c.pass-way.ensures.range k.0 k.1 in
    left_less forks c.loop-place.way.below c.pass-way.result.below c.in-Some.place k.0 p.next goes k.1 (omega (arith, range, k.2)) p.above
    (subst (λ (b : Branch). Shows forks b p.next) (sym (ap (λ (v : Way). v.below) (c.pass-way.ensures.past k.0 k.1))) p.at.1)

pub loop-place-preserved : goal.loop-place-preserved
loop-place-preserved c = λ t is on.
    let forks = c.args.forks.now in
    let x = c.args.name.now in
    let goes = c.in-Some.ensures.some in
    let w = c.loop-place.invariant t is on in
    let k = fork_there forks x w.part c.loop-place.way.below c.in-Some.place (w.rises, w.shown) goes in
    up_goes_on forks c.loop-place.way c.pass-way.result x (level c.args.bit.byte c.args.bit.within) t c.in-Some.place k.0 w goes k.1
    (c.in-Some.ensures.before k.0 k.1) (c.pass-way.ensures.past k.0 k.1)

pub returns : goal.returns
returns c = λ t is on.
    let w = c.loop-place.invariant t is on in
    record { to = w; ends = c.in_default.ensures.none w.part (w.rises, w.shown) }
