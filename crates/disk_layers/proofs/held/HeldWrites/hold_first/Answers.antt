use Rattle.std.proofs.Common.{◌≡◌, ◌≤◌, [], arith, length, subst, sym, IfSome}
use Rattle.byte_disk.specs.Files.{bytes_of}
use Rattle.disk_layers.specs.Held.{PutIf, held_of, moment}
use Rattle.disk_layers.proofs.Holding.{fit_first, kept, put_at_first}
use Rattle.disk_layers.proofs.held.HeldWrites.hold_first.Goals as goal

pub hold_first-requires : goal.hold_first-requires
hold_first-requires g c = subst (λ v. v.run.bytes ≡ []) (sym c.self.view_is) c.requires.none

pub invariant_of-self : goal.invariant_of-self
invariant_of-self g c =
    kept g.B.ByteDisk (λ b d is. g.met.B.ByteDisk.bytes b d is) c.self.inside.disk c.self.inside.disk c.self.inside.run c.hold_first.new.self _ _ _ _ c.self.invariant (omega arith)
    (fit_first g.B.ByteDisk (λ b d is. g.met.B.ByteDisk.bytes b d is) c.hold_first.result c.self.inside.run c.hold_first.new.self c.self.inside.disk c.args.file c.args.at c.args.bytes.now
    c.hold_first.ensures c.are_bytes.ensures c.requires.end
    (subst (λ v. IfSome (held_of g.B.ByteDisk (moment v)) (λ d. c.args.at ≤ length (bytes_of c.args.file d))) (sym c.self.view_is) c.requires.within)
    (subst (λ v. v.run.bytes ≡ []) (sym c.self.view_is) c.requires.none) c.self.invariant.fit)
    c.self.invariant.sure

pub returns-clause-put : goal.returns-clause-put
returns-clause-put g c =
    subst (λ v. PutIf g.B.ByteDisk c.hold_first.result c.args.file c.args.at c.args.bytes.now (moment v) (c.hold_first.new.self, c.self.inside.disk)) c.self.view_is
    (put_at_first g.B.ByteDisk (λ b d is. g.met.B.ByteDisk.bytes b d is) c.hold_first.result c.self.inside.run c.hold_first.new.self c.self.inside.disk c.args.file c.args.at c.args.bytes.now
    c.hold_first.ensures c.are_bytes.ensures c.requires.end
    (subst (λ v. IfSome (held_of g.B.ByteDisk (moment v)) (λ d. c.args.at ≤ length (bytes_of c.args.file d))) (sym c.self.view_is) c.requires.within)
    (subst (λ v. v.run.bytes ≡ []) (sym c.self.view_is) c.requires.none) c.self.invariant.fit)
