use Rattle.volume_core.specs.Commands.{DoesOps}
use Rattle.volume_core.proofs.DoLemmas.{can_go_on, does_more}
use Rattle.volume_core.proofs.MayLemmas.{may_go_on}
use Rattle.volume_core.proofs.commands.do_ops.Goals as goal

pub loop-head-init : goal.loop-head-init
loop-head-init g c =
    (DoesOps.rest c.args.stock.now.layout.ops c.args.head.now.drive, c.requires.can, c.requires.may)

pub loop-head-preserved : goal.loop-head-preserved
loop-head-preserved g c =
    let did = c.in-Ok.ensures in (
      does_more g.D.Drive c.args.stock.now.layout.ops c.loop-head.stock.layout.ops c.do_first.new.stock.layout.ops
          did.1 did.0
          c.args.head.now.drive c.loop-head.head.drive c.do_first.new.head.drive c.loop-head.invariant.0 did.2 did.3,
      can_go_on g.D.Drive c.loop-head.stock.layout.ops c.do_first.new.stock.layout.ops did.1 did.0
          c.loop-head.head.drive
          c.do_first.new.head.drive c.loop-head.invariant.1 did.2 did.3,
      may_go_on g.D.Drive c.loop-head.stock.layout.ops c.do_first.new.stock.layout.ops did.1 did.0
          c.loop-head.head.drive
          c.do_first.new.head.drive c.loop-head.invariant.2 did.2 did.3,
    )
