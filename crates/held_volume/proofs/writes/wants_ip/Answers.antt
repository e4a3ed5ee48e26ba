use Rattle.std.proofs.Common.{max, ap, ◌∙◌}
use Rattle.held_volume.proofs.writes.wants_ip.Goals as goal
use Rattle.held_volume.proofs.WriteSteps.{wants_by}

pub returns : goal.returns
returns c tape = c.chooses_ip.ensures.value ∙ wants_by c.args.tree.now c.args.path.now c.args.file c.extents.result.now c.args.policy.now c.last_name.result.now c.max.result c.args.end tape
    c.count-count.ensures.good c.requires.stands c.extents.ensures.extents c.last_name.ensures (c.max.ensures ∙ ap (λ n. max n c.args.end) c.length.ensures)
