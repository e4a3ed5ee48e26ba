use Rattle.std.proofs.Common.{IfNone, IfSome, None, ◌≡◌, subst}
use Rattle.image_tape.specs.Steps.{IsFound}
use Rattle.image_tape.proofs.Blaming.{found_nothing}
use Rattle.image_tape.proofs.Surely.{found_is, steady_in}
use Rattle.image_tape.proofs.tape.ImageTape.found.Goals as goal

pub returns-clause-found : goal.returns-clause-found
returns-clause-found g c =
    subst (λ v. IfSome c.decode_header.result (λ s. IsFound g.B.ByteDisk v s)) c.self.view_is
    (found_is g.B.ByteDisk c.known_values_are_left.ensures _ c.limits.result c.get.result.now c.decode_header.result c.get.ensures.kept
    (steady_in g.B.ByteDisk _ _ c.self.view_is c.requires) c.get.ensures.value c.limits.ensures c.decode_header.ensures.said)

pub returns-clause-none : goal.returns-clause-none
returns-clause-none g c =
    subst (λ v. IfNone c.decode_header.result (g.B.ByteDisk.held v.slots.disk ≡ None)) c.self.view_is
    (found_nothing g.B.ByteDisk c.known_values_are_left.ensures _ c.limits.result c.get.result.now c.decode_header.result c.self.invariant c.get.ensures.kept
    (steady_in g.B.ByteDisk _ _ c.self.view_is c.requires) c.get.ensures.value c.limits.ensures c.decode_header.ensures.said)
