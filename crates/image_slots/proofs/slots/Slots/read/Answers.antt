use Rattle.std.proofs.Common.{◌+◌, ◌≤◌, ◌≡◌, sym, subst, length, IfSome, OnOk, Some}
use Rattle.byte_disk.specs.Files.{Files, bytes_at, bytes_of}
use Rattle.byte_disk.specs.declared.disk.File.{File}
use Rattle.image_slots.specs.State.{file_of}
use Rattle.image_slots.proofs.Chains.{one_at_most}
use Rattle.image_slots.proofs.Upkeep.{commanded, kept_look}
use Rattle.image_slots.proofs.slots.Slots.read.Goals as goal

pub invariant_of-self : goal.invariant_of-self
invariant_of-self g c = kept_look g.B.ByteDisk _ c.read.new.self c.self.invariant (one_at_most c.read.ensures.count).later c.read.ensures.held c.read.ensures.crash

pub read-requires : goal.read-requires
read-requires g c = record {
  within =
      subst (λ (f : File). IfSome (g.B.ByteDisk.held c.self.inside.disk) (λ d. c.args.at + length c.args.buf.now ≤ length (bytes_of f d))) (sym c.file_of.ensures)
      (subst (λ v. IfSome (g.B.ByteDisk.held v.disk) (λ d. c.args.at + length c.args.buf.now ≤ length (bytes_of (file_of c.args.part) d))) (sym c.self.view_is) c.requires.within);
}

pub returns-clause-value : goal.returns-clause-value
returns-clause-value g c =
    subst (λ v. (d : Files) → g.B.ByteDisk.held v.disk ≡ Some d → OnOk c.read.result (c.read.new.buf ≡ bytes_at c.args.at (length c.args.buf.now) (bytes_of (file_of c.args.part) d))) c.self.view_is
    (subst (λ (f : File). (d : Files) → g.B.ByteDisk.held c.self.inside.disk ≡ Some d → OnOk c.read.result (c.read.new.buf ≡ bytes_at c.args.at (length c.args.buf.now) (bytes_of f d))) c.file_of.ensures
    c.read.ensures.value)

pub returns-clause-held : goal.returns-clause-held
returns-clause-held g c = subst (λ v. g.B.ByteDisk.held c.read.new.self ≡ g.B.ByteDisk.held v.disk) c.self.view_is c.read.ensures.held

pub returns-clause-command : goal.returns-clause-command
returns-clause-command g c = commanded g.B.ByteDisk c.read.result _ _ c.read.new.self c.self.view_is c.read.ensures.count c.read.ensures.cause c.read.ensures.crash
