use Rattle.std.proofs.Common.{◌∙◌, ℕ, List, Some, ap, subst, sym}
use Rattle.image_slots.specs.Slots.{HasValue}
use Rattle.image_format.specs.Images.{header_by}
use Rattle.image_format.specs.Offsets.{Offsets}
use Rattle.image_format.proofs.ReadLemmas.{header_is}
use Rattle.image_format.proofs.room.Room.header.Goals as goal

pub returns-clause-said : goal.returns-clause-said
returns-clause-said g c = λ d held.
    let has = subst (λ (v : List ℕ). HasValue d.cm v) (sym c.get.ensures.value)
    (c.known_values_are_left.ensures c.args.slots.now c.get.ensures.kept c.requires d held).0 in
    header_is c.args.self.now.limits d c.get.result.now has c.decode_header.result
    (c.decode_header.ensures.said ∙ ap (λ (room : Offsets). header_by room.limits (Some c.get.result.now)) c.self.view_is)
