use Rattle.std.proofs.Common.{◌≡◌, ◌≤◌, [], length, subst, sym, IfSome}
use Rattle.byte_disk.specs.Files.{bytes_of}
use Rattle.disk_layers.specs.Held.{IsKept, PutsOver, held_of, moment, overlaid}
use Rattle.disk_layers.proofs.Holding.{asked, kept_through, puts_through}
use Rattle.disk_layers.proofs.Overlaid.{over_none}
use Rattle.disk_layers.proofs.held.HeldWrites.write_through.Goals as goal

pub write-requires-clause-within : goal.write-requires-clause-within
write-requires-clause-within g c =
    asked g.B.ByteDisk (λ b d is. g.met.B.ByteDisk.bytes b d is) (λ d. c.args.at ≤ length (bytes_of c.args.file d)) (λ d. c.args.at ≤ length (bytes_of c.args.file d)) (c.self.inside.run, c.self.inside.disk) c.self.invariant.fit
    (λ d is le. subst (λ x. c.args.at ≤ length (bytes_of c.args.file x)) (over_none c.self.inside.run d (subst (λ v. v.run.bytes ≡ []) (sym c.self.view_is) c.requires.none)) le)
    (subst (λ v. IfSome (held_of g.B.ByteDisk (moment v)) (λ d. c.args.at ≤ length (bytes_of c.args.file d))) (sym c.self.view_is) c.requires.within)

pub invariant_of-self : goal.invariant_of-self
invariant_of-self g c =
    kept_through g.B.ByteDisk (λ b d is. g.met.B.ByteDisk.bytes b d is) c.write.result c.self.inside.disk c.write.new.self c.self.inside.run c.self.inside.known c.set.new.self _ _
    c.args.file c.args.at c.args.bytes.now c.self.invariant (subst (λ v. v.run.bytes ≡ []) (sym c.self.view_is) c.requires.none)
    (subst (λ v. IfSome (held_of g.B.ByteDisk (moment v)) (λ d. c.args.at ≤ length (bytes_of c.args.file d))) (sym c.self.view_is) c.requires.within)
    c.set.ensures c.write.ensures.told c.write.ensures.untold c.write.ensures.count c.write.ensures.crash

pub returns-clause-puts : goal.returns-clause-puts
returns-clause-puts g c =
    subst (λ v. PutsOver g.B.ByteDisk c.write.result c.args.file c.args.at c.args.bytes.now (moment v) (c.self.inside.run, c.write.new.self)) c.self.view_is
    (puts_through g.B.ByteDisk (λ b d is. g.met.B.ByteDisk.bytes b d is) c.write.result c.self.inside.run c.self.inside.disk c.write.new.self c.args.file c.args.at c.args.bytes.now c.self.invariant.fit
    ((kept_through g.B.ByteDisk (λ b d is. g.met.B.ByteDisk.bytes b d is) c.write.result c.self.inside.disk c.write.new.self c.self.inside.run c.self.inside.known c.set.new.self _ _
    c.args.file c.args.at c.args.bytes.now c.self.invariant (subst (λ v. v.run.bytes ≡ []) (sym c.self.view_is) c.requires.none)
    (subst (λ v. IfSome (held_of g.B.ByteDisk (moment v)) (λ d. c.args.at ≤ length (bytes_of c.args.file d))) (sym c.self.view_is) c.requires.within)
    c.set.ensures c.write.ensures.told c.write.ensures.untold c.write.ensures.count c.write.ensures.crash).fit)
    (subst (λ v. v.run.bytes ≡ []) (sym c.self.view_is) c.requires.none)
    c.write.ensures.told c.write.ensures.untold c.write.ensures.count c.write.ensures.cause c.write.ensures.crash)
