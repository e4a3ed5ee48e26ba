use Rattle.std.proofs.Common.{◌≡◌, subst, length, IfOk, Some}
use Rattle.byte_disk.specs.Files.{Files, bytes_of}
use Rattle.byte_disk.specs.declared.disk.File.{File}
use Rattle.image_slots.specs.State.{file_of}
use Rattle.image_slots.proofs.Chains.{one_at_most}
use Rattle.image_slots.proofs.Upkeep.{commanded, kept_look}
use Rattle.image_slots.proofs.slots.Slots.length.Goals as goal

pub invariant_of-self : goal.invariant_of-self
invariant_of-self g c = kept_look g.B.ByteDisk _ c.length.new.self c.self.invariant (one_at_most c.length.ensures.count).later c.length.ensures.held c.length.ensures.crash

pub returns-clause-value : goal.returns-clause-value
returns-clause-value g c =
    subst (λ v. IfOk c.length.result (λ n. (d : Files) → g.B.ByteDisk.held v.disk ≡ Some d → n ≡ length (bytes_of (file_of c.args.part) d))) c.self.view_is
    (subst (λ (f : File). IfOk c.length.result (λ n. (d : Files) → g.B.ByteDisk.held c.self.inside.disk ≡ Some d → n ≡ length (bytes_of f d))) c.file_of.ensures
    c.length.ensures.value)

pub returns-clause-held : goal.returns-clause-held
returns-clause-held g c = subst (λ v. g.B.ByteDisk.held c.length.new.self ≡ g.B.ByteDisk.held v.disk) c.self.view_is c.length.ensures.held

pub returns-clause-command : goal.returns-clause-command
returns-clause-command g c = commanded g.B.ByteDisk c.length.result _ _ c.length.new.self c.self.view_is c.length.ensures.count c.length.ensures.cause c.length.ensures.crash
