use Rattle.std.proofs.Common.{◌≡◌, subst, OnOk}
use Rattle.byte_disk.specs.Commands.{IsFileSure}
use Rattle.byte_disk.specs.declared.disk.File.{File}
use Rattle.image_slots.proofs.Chains.{one_at_most}
use Rattle.image_slots.proofs.Upkeep.{commanded, kept_look}
use Rattle.image_slots.proofs.slots.Slots.sync.Goals as goal

pub invariant_of-self : goal.invariant_of-self
invariant_of-self g c = kept_look g.B.ByteDisk _ c.sync.new.self c.self.invariant (one_at_most c.sync.ensures.count).later c.sync.ensures.held c.sync.ensures.crash

pub returns-clause-sure : goal.returns-clause-sure
returns-clause-sure g c =
    subst (λ (f : File). OnOk c.sync.result (IsFileSure f (g.B.ByteDisk.held c.sync.new.self) (g.B.ByteDisk.leaves c.sync.new.self))) c.file_of.ensures c.sync.ensures.sure

pub returns-clause-held : goal.returns-clause-held
returns-clause-held g c = subst (λ v. g.B.ByteDisk.held c.sync.new.self ≡ g.B.ByteDisk.held v.disk) c.self.view_is c.sync.ensures.held

pub returns-clause-command : goal.returns-clause-command
returns-clause-command g c = commanded g.B.ByteDisk c.sync.result _ _ c.sync.new.self c.self.view_is c.sync.ensures.count c.sync.ensures.cause c.sync.ensures.crash
