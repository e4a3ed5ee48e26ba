use Rattle.std.proofs.Common.{arith, subst}
use Rattle.disk_layers.specs.Held.{PutIf, moment}
use Rattle.disk_layers.proofs.Holding.{fit_on, kept, put_on}
use Rattle.disk_layers.proofs.held.HeldWrites.hold_on.Goals as goal

pub hold_on-requires : goal.hold_on-requires
hold_on-requires g c = c.self.invariant.fit.end

pub invariant_of-self : goal.invariant_of-self
invariant_of-self g c =
    kept g.B.ByteDisk (λ b d is. g.met.B.ByteDisk.bytes b d is) c.self.inside.disk c.self.inside.disk c.self.inside.run c.hold_on.new.self _ _ _ _ c.self.invariant (omega arith)
    (fit_on g.B.ByteDisk (λ b d is. g.met.B.ByteDisk.bytes b d is) c.hold_on.result c.self.inside.run c.hold_on.new.self c.self.inside.disk c.args.file c.args.at c.args.bytes.now
    c.hold_on.ensures c.are_bytes.ensures c.requires c.self.invariant.fit)
    c.self.invariant.sure

pub returns-clause-put : goal.returns-clause-put
returns-clause-put g c =
    subst (λ v. PutIf g.B.ByteDisk c.hold_on.result c.args.file c.args.at c.args.bytes.now (moment v) (c.hold_on.new.self, c.self.inside.disk)) c.self.view_is
    (put_on g.B.ByteDisk (λ b d is. g.met.B.ByteDisk.bytes b d is) c.hold_on.result c.self.inside.run c.hold_on.new.self c.self.inside.disk c.args.file c.args.at c.args.bytes.now
    c.hold_on.ensures c.are_bytes.ensures c.requires c.self.invariant.fit)
