use Rattle.std.proofs.Common.{◌≡◌, [], true, arith, subst, sym, Ok, Err}
use Rattle.disk_layers.specs.Held.{IsKept, LooksOver, is_known, moment}
use Rattle.disk_layers.proofs.Holding.{fit_same, kept, kept_looked, looks_inside, looks_none, sure_over, sure_synced}
use Rattle.disk_layers.proofs.held.HeldWrites.sync_inside.Goals as goal

pub returns-then-has-clause-sure : goal.returns-then-has-clause-sure
returns-then-has-clause-sure g c =
    sure_over g.B.ByteDisk (λ b d is. g.met.B.ByteDisk.bytes b d is) c.args.file (moment c.args.self.now) c.requires
    ((subst (λ v. IsKept g.B.ByteDisk v) c.self.view_is c.self.invariant).sure c.args.file (subst (λ v. is_known c.args.file v.known ≡ true) c.self.view_is (sym c.if-has.ensures)))

pub returns-then-has-clause-looks : goal.returns-then-has-clause-looks
returns-then-has-clause-looks g c = looks_none g.B.ByteDisk (λ b d is. g.met.B.ByteDisk.bytes b d is) tt (moment c.args.self.now)

pub invariant_of-self : goal.invariant_of-self
invariant_of-self g c =
    kept g.B.ByteDisk (λ b d is. g.met.B.ByteDisk.bytes b d is) c.self.inside.disk c.sync.new.self c.self.inside.run c.self.inside.run c.self.inside.known c.set.new.self _ _ c.self.invariant
    (omega (arith, c.sync.ensures.count.in_range, c.sync.ensures.count.one_more))
    (fit_same g.B.ByteDisk (λ b d is. g.met.B.ByteDisk.bytes b d is) c.self.inside.run c.self.inside.disk c.sync.new.self c.sync.ensures.held c.self.invariant.fit)
    (sure_synced g.B.ByteDisk (λ b d is. g.met.B.ByteDisk.bytes b d is) c.self.inside.known c.set.new.self c.args.file c.self.inside.disk c.sync.new.self c.sync.ensures.held c.sync.ensures.crash
    c.set.ensures c.in-Ok.ensures.sure c.self.invariant.sure)

pub returns-in-Ok-clause-sure : goal.returns-in-Ok-clause-sure
returns-in-Ok-clause-sure g c =
    sure_over g.B.ByteDisk (λ b d is. g.met.B.ByteDisk.bytes b d is) c.args.file (c.self.inside.run, c.sync.new.self) (subst (λ v. v.run.bytes ≡ []) (sym c.self.view_is) c.requires)
    c.in-Ok.ensures.sure

pub returns-in-Ok-clause-looks : goal.returns-in-Ok-clause-looks
returns-in-Ok-clause-looks g c =
    subst (λ v. LooksOver g.B.ByteDisk (Ok tt) (moment v) (c.self.inside.run, c.sync.new.self)) c.self.view_is
    (looks_inside g.B.ByteDisk (λ b d is. g.met.B.ByteDisk.bytes b d is) (Ok tt) c.self.inside.run c.self.inside.disk c.sync.new.self
    c.sync.ensures.held c.sync.ensures.count c.in-Ok.ensures.cause c.sync.ensures.crash)

pub invariant_of-self-in-Err : goal.invariant_of-self-in-Err
invariant_of-self-in-Err g c =
    kept_looked g.B.ByteDisk (λ b d is. g.met.B.ByteDisk.bytes b d is) c.self.inside.disk c.sync.new.self c.self.inside.run _ _ _ c.self.invariant
    c.sync.ensures.held c.sync.ensures.count c.sync.ensures.crash

pub returns-in-Err-clause-looks : goal.returns-in-Err-clause-looks
returns-in-Err-clause-looks g c =
    subst (λ v. LooksOver g.B.ByteDisk (Err c.in-Err.fault) (moment v) (c.self.inside.run, c.sync.new.self)) c.self.view_is
    (looks_inside g.B.ByteDisk (λ b d is. g.met.B.ByteDisk.bytes b d is) (Err c.in-Err.fault) c.self.inside.run c.self.inside.disk c.sync.new.self
    c.sync.ensures.held c.sync.ensures.count c.in-Err.ensures.cause c.sync.ensures.crash)
