use Rattle.std.proofs.Common.{◌+◌, ap, refl}
use Rattle.tape_types.specs.declared.cartridges.Place.{Place}
use Rattle.tape_layout.proofs.Admitting.{HasIndex, has_index, left_is}
use Rattle.tape_layout.proofs.layouts.Layout.admit_on.Goals as goal

has : (c : goal.After-admit-arg-1) → HasIndex c.args.self.now c.args.part c.args.doc.now c.args.first.ops c.put_index.new.self.ops
has c =
    has_index c.args.self.now _ c.args.part c.args.doc.now c.blocks-2.result c.capacity-limit.result c.place_on-place.result c.args.first c.put_index.new.self
    c.self.view_is c.self.invariant.standing.can_be c.place_on-place.ensures.place c.blocks-2.ensures.count c.capacity-limit.ensures c.if-need-limit.false c.requires.lead c.in_ok-put_index.ensures

pub admit-requires-clause-ready : goal.admit-requires-clause-ready
admit-requires-clause-ready c = (has c).is_ready.can

pub returns : goal.returns
returns c =
    let h : HasIndex c.args.self.now c.args.part c.args.doc.now c.args.first.ops c.put_index.new.self.ops =
    has_index c.args.self.now _ c.args.part c.args.doc.now c.blocks-2.result c.capacity-limit.result c.place_on-place.result c.args.first c.put_index.new.self
    c.self.view_is c.self.invariant.standing.can_be c.place_on-place.ensures.place c.blocks-2.ensures.count c.capacity-limit.ensures c.if-need-limit.false c.requires.lead c.in_ok-put_index.ensures in
    (h.fits, ap (λ (at : Place). record { part = c.args.part; pos = at.pos + 1 }) c.place_on-place.ensures.place, left_is _ _ _ _ _ _ _ c.in_ok-admit.ensures.ok h.is_ready h.same refl)
