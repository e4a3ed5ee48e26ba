use Rattle.tape_layout.proofs.Admitting.{HasData, has_data, left_is}
use Rattle.tape_layout.proofs.layouts.Layout.admit_data_on.Goals as goal

has : (c : goal.After-admit-arg-1) → HasData c.args.self.now c.args.part c.args.bytes.now c.put_all.new.self.ops
has c =
    has_data c.args.self.now _ c.args.part c.args.bytes.now c.blocks-2.result c.capacity.result c.data_limit-limit.result c.place_on-place.result _ c.new-draft.result c.put_all.new.self
    c.self.view_is c.self.invariant.standing.can_be c.place_on-place.ensures.place c.blocks-2.ensures.count c.capacity.ensures c.data_limit-limit.ensures c.if-need-limit.false c.new-draft.ensures c.in_ok-put_all.ensures

pub admit-requires-clause-ready : goal.admit-requires-clause-ready
admit-requires-clause-ready c = (has c).is_ready.can

pub returns : goal.returns
returns c =
    let h : HasData c.args.self.now c.args.part c.args.bytes.now c.put_all.new.self.ops =
    has_data c.args.self.now _ c.args.part c.args.bytes.now c.blocks-2.result c.capacity.result c.data_limit-limit.result c.place_on-place.result _ c.new-draft.result c.put_all.new.self
    c.self.view_is c.self.invariant.standing.can_be c.place_on-place.ensures.place c.blocks-2.ensures.count c.capacity.ensures c.data_limit-limit.ensures c.if-need-limit.false c.new-draft.ensures c.in_ok-put_all.ensures in
    (h.fits, c.place_on-place.ensures.place, left_is _ _ _ _ _ _ _ c.in_ok-admit.ensures.ok h.is_ready h.same c.flush_due_after-flush_due.ensures)
