use Rattle.std.proofs.Common.{◌∙◌}
use Rattle.file_tree.proofs.PlaceLemmas.{held_or, held_within, used_same}
use Rattle.file_tree.proofs.spots.shift_spot.Goals as goal

pub returns-clause-filled : goal.returns-clause-filled
returns-clause-filled c =
    used_same c.args.spots.now.items c.args.number c.in-Some.spot (record { parent = c.args.dir; name = c.args.name; node = c.in-Some.spot.node })
    (held_or c.args.spots.now.items c.args.number c.index_mut.result.now (held_within c.args.spots.now.items c.args.number c.requires) c.index_mut.ensures.value ∙ c.in-Some.is)
