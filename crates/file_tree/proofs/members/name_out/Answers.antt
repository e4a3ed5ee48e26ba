use Rattle.std.proofs.Common.{◌∙◌}
use Rattle.file_tree.specs.Seen.{held}
use Rattle.file_tree.specs.Beside.{keys_of}
use Rattle.file_tree.proofs.NameLemmas.{can_cut, cut_keyed}
use Rattle.file_tree.proofs.members.name_out.Goals as goal

pub cut-requires : goal.cut-requires
cut-requires c = (
  keys_of (held c.args.spots.now),
  can_cut c.args.names.now (held c.args.spots.now) c.args.number c.requires.named c.requires.there
      c.spot_at-spot.result.now c.spot_at-spot.ensures c.as_bytes.result.now (c.as_bytes.ensures.value ∙ c.as_str.ensures),
)

pub returns-clause-named : goal.returns-clause-named
returns-clause-named c next kept =
    let at = held c.args.spots.now in
    c.cut.ensures.are (keys_of at) (keys_of next)
    (can_cut c.args.names.now at c.args.number c.requires.named c.requires.there
    c.spot_at-spot.result.now c.spot_at-spot.ensures c.as_bytes.result.now (c.as_bytes.ensures.value ∙ c.as_str.ensures))
    (cut_keyed at c.args.number c.requires.there next kept)
