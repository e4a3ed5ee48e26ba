use Rattle.name_tries.proofs.LoopLemmas.{way_begins}
use Rattle.name_tries.proofs.forks.trail_from.Goals as goal

pub returns : goal.returns
returns c = λ forks x t is.
    let on = way_begins forks c.args.root x t is in
    record { at = on; last = on; second = on; third = on; fourth = on }
