use Rattle.std.proofs.Common.{◌≤◌, length, subst, sym}
use Rattle.disk_layers.specs.Held.{LooksOver, moment}
use Rattle.disk_layers.proofs.Holding.{kept_out, looks_out, out_none}
use Rattle.disk_layers.proofs.held.HeldWrites.write_run.Goals as goal

pub write_to-requires : goal.write_to-requires
write_to-requires g c = c.self.invariant.fit

pub invariant_of-self : goal.invariant_of-self
invariant_of-self g c =
    kept_out g.B.ByteDisk (λ b d is. g.met.B.ByteDisk.bytes b d is) c.write_to.result c.self.inside.disk c.write_to.new.disk c.self.inside.run c.write_to.new.self
    c.self.inside.known c.set.new.self _ _ c.file.result c.self.invariant c.file.ensures c.set.ensures c.write_to.ensures.run c.write_to.ensures.told c.write_to.ensures.untold
    c.write_to.ensures.count c.write_to.ensures.crash

pub returns-clause-none : goal.returns-clause-none
returns-clause-none g c =
    out_none g.B.ByteDisk (λ b d is. g.met.B.ByteDisk.bytes b d is) c.write_to.result c.self.inside.run c.write_to.new.self c.write_to.ensures.run

pub returns-clause-looks : goal.returns-clause-looks
returns-clause-looks g c =
    subst (λ v. LooksOver g.B.ByteDisk c.write_to.result (moment v) (c.write_to.new.self, c.write_to.new.disk)) c.self.view_is
    (looks_out g.B.ByteDisk (λ b d is. g.met.B.ByteDisk.bytes b d is) c.write_to.result c.self.inside.run c.write_to.new.self c.self.inside.disk c.write_to.new.disk c.self.invariant.fit
    (subst (λ v. 1 ≤ length v.run.bytes) (sym c.self.view_is) c.requires) c.write_to.ensures.run c.write_to.ensures.told c.write_to.ensures.untold
    c.write_to.ensures.count c.write_to.ensures.cause c.write_to.ensures.crash)
