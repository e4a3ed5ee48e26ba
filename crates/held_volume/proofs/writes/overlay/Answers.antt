use Rattle.held_volume.proofs.writes.overlay.Goals as goal
use Rattle.held_volume.proofs.WriteSteps.{written_step}

pub returns : goal.returns
returns c path bytes stands free some =
    let o = c.overlay.ensures in
    written_step c.args.tree.now c.overlay.new.self c.args.file c.args.new c.args.at c.requires path bytes stands free some
    c.count-count.ensures.good c.count-count_now.ensures.good o.plain o.numbers o.extents o.others o.blocks o.volume
