use Rattle.std.proofs.Common.{drop}
use Rattle.volume_core.proofs.DoLemmas.{can_do_first}
use Rattle.volume_core.proofs.MayLemmas.{may_first}
use Rattle.volume_core.proofs.commands.do_first.Goals as goal

pub step-requires-clause-can : goal.step-requires-clause-can
step-requires-clause-can g c =
    can_do_first g.D.Drive c.args.stock.now.layout.ops c.args.head.now.drive c.in-Some.op.now
    (drop 1 c.args.stock.now.layout.ops) c.requires.can (c.in-Some.ensures {u = tt}).first

pub step-requires-clause-may : goal.step-requires-clause-may
step-requires-clause-may g c =
    may_first g.D.Drive c.args.stock.now.layout.ops c.in-Some.op.now (drop 1 c.args.stock.now.layout.ops)
    c.args.head.now.drive c.requires.may (c.in-Some.ensures {u = tt}).first
