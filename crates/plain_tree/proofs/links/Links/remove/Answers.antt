use Rattle.std.proofs.Common.{None, ap, is_some, sym}
use Rattle.plain_tree.proofs.LinkLemmas.{put_through, put_in}
use Rattle.plain_tree.proofs.links.Links.remove.Goals as goal

pub returns-in-Some-clause-rest : goal.returns-in-Some-clause-rest
returns-in-Some-clause-rest c =
    let new = c.remove.new.self in
    let through = c.get_mut.follows.holds new in
    put_through c.args.self.now.dirs (c.get_mut.follows.lender new) c.args.uid new c.args.name.now None (through.3 (ap is_some (sym c.in-Some.ensures.value))) c.in-Some.names.now c.in-Some.ensures.value
    (put_in c.in-Some.names.now new c.args.name.now None c.remove.ensures.updates)
