use Rattle.std.proofs.Common.{refl}
use Rattle.name_tries.specs.declared.forks.Branch.TheVariants as branch
use Rattle.name_tries.proofs.LoopLemmas.{fork_there, down_begins}
use Rattle.name_tries.proofs.forks.last_from.Goals as goal

pub pass-way-requires : goal.pass-way-requires
pass-way-requires c = fork_there c.args.forks.now c.args.name.now c.requires.0 (branch.Inner c.args.root) c.args.root c.requires.1 refl

pub returns : goal.returns
returns c = λ t is.
    let forks = c.args.forks.now in
    let k = fork_there forks c.args.name.now t (branch.Inner c.args.root) c.args.root is refl in
    down_begins forks c.args.root c.args.name.now t k.0 c.pass-way.result is k.1 (c.pass-way.ensures.past k.0 k.1)
