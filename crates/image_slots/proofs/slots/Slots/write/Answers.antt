use Rattle.std.proofs.Common.{◌≤◌, ◌≡◌, sym, subst, length, IfSome, Some, None}
use Rattle.byte_disk.specs.Commands.{WithinWrite}
use Rattle.byte_disk.specs.Files.{AfterWrite, Files, bytes_of}
use Rattle.byte_disk.specs.declared.disk.File.{File}
use Rattle.image_slots.specs.Pieces.{CrashesIn}
use Rattle.image_slots.specs.State.{file_of}
use Rattle.image_slots.proofs.Chains.{one_at_most}
use Rattle.image_slots.proofs.Upkeep.{commanded, kept_write}
use Rattle.image_slots.proofs.slots.Slots.write.Goals as goal

pub invariant_of-self : goal.invariant_of-self
invariant_of-self g c =
    kept_write g.B.ByteDisk c.write.result c.args.part c.args.at (length c.args.bytes.now) c.args.bytes.now _ c.write.new.self c.self.invariant (one_at_most c.write.ensures.count).later
    (subst (λ (f : File). (d : Files) → g.B.ByteDisk.held c.self.inside.disk ≡ Some d → (e : Files) × (g.B.ByteDisk.held c.write.new.self ≡ Some e) × AfterWrite c.write.result f c.args.at c.args.bytes.now d e)
    c.file_of.ensures c.write.ensures.told)
    c.write.ensures.untold
    (subst (λ (f : File). CrashesIn g.B.ByteDisk (WithinWrite f c.args.at (length c.args.bytes.now)) c.self.inside.disk c.write.new.self) c.file_of.ensures c.write.ensures.crash)

pub write-requires-clause-within : goal.write-requires-clause-within
write-requires-clause-within g c =
    subst (λ (f : File). IfSome (g.B.ByteDisk.held c.self.inside.disk) (λ d. c.args.at ≤ length (bytes_of f d))) (sym c.file_of.ensures)
    (subst (λ v. IfSome (g.B.ByteDisk.held v.disk) (λ d. c.args.at ≤ length (bytes_of (file_of c.args.part) d))) (sym c.self.view_is) c.requires.within)

pub returns-clause-told : goal.returns-clause-told
returns-clause-told g c =
    subst (λ v. (d : Files) → g.B.ByteDisk.held v.disk ≡ Some d → (e : Files) × (g.B.ByteDisk.held c.write.new.self ≡ Some e) × AfterWrite c.write.result (file_of c.args.part) c.args.at c.args.bytes.now d e)
    c.self.view_is
    (subst (λ (f : File). (d : Files) → g.B.ByteDisk.held c.self.inside.disk ≡ Some d → (e : Files) × (g.B.ByteDisk.held c.write.new.self ≡ Some e) × AfterWrite c.write.result f c.args.at c.args.bytes.now d e)
    c.file_of.ensures c.write.ensures.told)

pub returns-clause-untold : goal.returns-clause-untold
returns-clause-untold g c = subst (λ v. g.B.ByteDisk.held v.disk ≡ None → g.B.ByteDisk.held c.write.new.self ≡ None) c.self.view_is c.write.ensures.untold

pub returns-clause-command : goal.returns-clause-command
returns-clause-command g c = commanded g.B.ByteDisk c.write.result _ _ c.write.new.self c.self.view_is c.write.ensures.count c.write.ensures.cause
    (subst (λ (f : File). CrashesIn g.B.ByteDisk (WithinWrite f c.args.at (length c.args.bytes.now)) c.self.inside.disk c.write.new.self) c.file_of.ensures c.write.ensures.crash)
