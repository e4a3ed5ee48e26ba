use Rattle.std.proofs.Common.{Some, set, sym, subst}
use Rattle.name_tries.specs.declared.forks.Branch.{Branch}
use Rattle.name_tries.specs.Keys.{AreTriesIn}
use Rattle.name_tries.proofs.KeyLemmas.{put_first}
use Rattle.name_tries.proofs.tries.Tries.put_first.Goals as goal

pub returns-clause-are : goal.returns-clause-are
returns-clause-are c = λ before next name bytes can now.
    let old = c.args.self.now in
    subst (λ (at : Branch). AreTriesIn (set old.roots.items c.args.dir (Some at)) old.forks.items old.owned.items old.owners.items next)
    (sym c.leaf.ensures)
    (put_first old.roots.items old.forks.items old.owned.items old.owners.items before next c.args.dir c.args.number name can.are can.none can.free
    can.within can.below bytes now)
