use Rattle.std.proofs.Common.{◌≡◌, ◌∙◌, ℕ, length, subst, sym, IfOk, Result, Some}
use Rattle.byte_disk.specs.Files.{Files, bytes_of}
use Rattle.byte_disk.specs.declared.disk.DiskFault.{DiskFault}
use Rattle.disk_layers.specs.Held.{held_of, moment}
use Rattle.disk_layers.proofs.Holding.{kept_looked, length_is}
use Rattle.disk_layers.proofs.held.HeldWrites.measure.Goals as goal
use Rattle.disk_layers.proofs.held.HeldWrites.measure.Goals.{in-Ok, in-Err}

pub invariant_of-self : goal.invariant_of-self
invariant_of-self g c =
    kept_looked g.B.ByteDisk (λ b d is. g.met.B.ByteDisk.bytes b d is) c.self.inside.disk c.length.new.self c.self.inside.run _ _ _ c.self.invariant
    c.length.ensures.held c.length.ensures.count c.length.ensures.crash

pub returns-clause-value : goal.returns-clause-value
returns-clause-value g c = elim c.match-length.branch [
  | in-Ok w ↦ subst (λ (r : Result ℕ DiskFault). IfOk r (λ n. (d : Files) → held_of g.B.ByteDisk (moment c.args.self.now) ≡ Some d → n ≡ length (bytes_of c.args.file d)))
      (sym w.result-is)
      (subst (λ v. (d : Files) → held_of g.B.ByteDisk (moment v) ≡ Some d → w.length_of.result ≡ length (bytes_of c.args.file d)) c.self.view_is
      (λ d is. w.length_of.ensures
      ∙ length_is g.B.ByteDisk (λ b d is. g.met.B.ByteDisk.bytes b d is) w.in-Ok.size (c.self.inside.run, c.self.inside.disk) c.args.file c.self.invariant.fit
      (w.in-Ok.ensures {u = tt}).value d is))
  | in-Err w ↦ subst (λ (r : Result ℕ DiskFault). IfOk r (λ n. (d : Files) → held_of g.B.ByteDisk (moment c.args.self.now) ≡ Some d → n ≡ length (bytes_of c.args.file d)))
      (sym w.result-is) tt
]
