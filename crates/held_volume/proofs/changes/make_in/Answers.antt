use Rattle.held_volume.proofs.changes.make_in.Goals as goal
use Rattle.held_volume.proofs.Lies.{made_step}

pub returns : goal.returns
returns c can =
    let m = c.make-number.ensures in
    made_step c.args.tree.now c.make-number.new.self c.args.dir c.make-number.result c.args.name c.args.sort c.args.at can
    c.count-count.ensures.good c.count-count_now.ensures.good (m.plain can) m.number m.numbers m.fresh m.extents m.blocks m.empty m.volume
