use Rattle.std.proofs.Common.{sym}
use Rattle.image_slots.proofs.Upkeep.{kept_found, kept_look, kept_size, not_recovered, recovered, recovered_before, unknown_at}
use Rattle.image_slots.proofs.slots.Slots.recover.Goals as goal

pub settle-requires : goal.settle-requires
settle-requires g c = kept_size g.B.ByteDisk _ c.self.invariant

pub returns-then-is_known : goal.returns-then-is_known
returns-then-is_known g c = recovered_before g.B.ByteDisk c.args.self.now (sym c.if-is_known.ensures)

pub invariant_of-self : goal.invariant_of-self
invariant_of-self g c = kept_found g.B.ByteDisk _ c.settle.new.disk c.in-Ok.found c.self.invariant c.in-Ok.ensures.look c.in-Ok.ensures.sure

pub returns-in-Ok : goal.returns-in-Ok
returns-in-Ok g c = recovered g.B.ByteDisk _ _ c.settle.new.disk c.in-Ok.found c.self.view_is c.in-Ok.ensures.look
    (unknown_at _ _ c.self.view_is c.if-is_known.ensures)

pub invariant_of-self-in-Err : goal.invariant_of-self-in-Err
invariant_of-self-in-Err g c = kept_look g.B.ByteDisk _ c.settle.new.disk c.self.invariant c.in-Err.ensures.look.count.later c.in-Err.ensures.look.held c.in-Err.ensures.look.crash

pub returns-in-Err : goal.returns-in-Err
returns-in-Err g c = not_recovered g.B.ByteDisk _ _ c.settle.new.disk c.in-Err.why c.self.view_is c.self.invariant c.in-Err.ensures.look
    (unknown_at _ _ c.self.view_is c.if-is_known.ensures)
