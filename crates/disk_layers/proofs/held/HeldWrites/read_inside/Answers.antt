use Rattle.std.proofs.Common.{◌≡◌, ◌≤◌, ◌+◌, length, subst, sym, IfSome, OnOk, Some}
use Rattle.byte_disk.specs.Files.{Files, bytes_at, bytes_of}
use Rattle.disk_layers.specs.Held.{IsClear, LooksOver, held_of, moment}
use Rattle.disk_layers.proofs.Holding.{asked, kept_looked, looks_inside, read_is}
use Rattle.disk_layers.proofs.Overlaid.{clear_within}
use Rattle.disk_layers.proofs.held.HeldWrites.read_inside.Goals as goal

pub read-requires : goal.read-requires
read-requires g c = record {
  within = asked g.B.ByteDisk (λ b d is. g.met.B.ByteDisk.bytes b d is) (λ d. c.args.at + length c.args.buf.now ≤ length (bytes_of c.args.file d)) (λ d. c.args.at + length c.args.buf.now ≤ length (bytes_of c.args.file d)) (c.self.inside.run, c.self.inside.disk) c.self.invariant.fit
      (λ d is le. clear_within c.self.inside.run c.args.file (c.args.at + length c.args.buf.now) d
      (subst (λ v. IsClear v.run c.args.file (c.args.at + length c.args.buf.now)) (sym c.self.view_is) c.requires.clear)
      (c.self.invariant.fit.within d is) le)
      (subst (λ v. IfSome (held_of g.B.ByteDisk (moment v)) (λ d. c.args.at + length c.args.buf.now ≤ length (bytes_of c.args.file d))) (sym c.self.view_is) c.requires.within);
}

pub invariant_of-self : goal.invariant_of-self
invariant_of-self g c =
    kept_looked g.B.ByteDisk (λ b d is. g.met.B.ByteDisk.bytes b d is) c.self.inside.disk c.read.new.self c.self.inside.run _ _ _ c.self.invariant
    c.read.ensures.held c.read.ensures.count c.read.ensures.crash

pub returns-clause-value : goal.returns-clause-value
returns-clause-value g c =
    subst (λ v. (d : Files) → held_of g.B.ByteDisk (moment v) ≡ Some d
    → OnOk c.read.result (c.read.new.buf ≡ bytes_at c.args.at (length c.args.buf.now) (bytes_of c.args.file d))) c.self.view_is
    (read_is g.B.ByteDisk (λ b d is. g.met.B.ByteDisk.bytes b d is) c.read.result (c.self.inside.run, c.self.inside.disk) c.args.file c.args.at (length c.args.buf.now) c.read.new.buf
    c.self.invariant.fit (subst (λ v. IsClear v.run c.args.file (c.args.at + length c.args.buf.now)) (sym c.self.view_is) c.requires.clear) c.read.ensures.value)

pub returns-clause-looks : goal.returns-clause-looks
returns-clause-looks g c =
    subst (λ v. LooksOver g.B.ByteDisk c.read.result (moment v) (c.self.inside.run, c.read.new.self)) c.self.view_is
    (looks_inside g.B.ByteDisk (λ b d is. g.met.B.ByteDisk.bytes b d is) c.read.result c.self.inside.run c.self.inside.disk c.read.new.self
    c.read.ensures.held c.read.ensures.count c.read.ensures.cause c.read.ensures.crash)
