use Rattle.std.proofs.Common.{◌≡◌, ◌≤◌, Some, sym, subst}
use Rattle.byte_disk.specs.Files.{Files}
use Rattle.image_tape.specs.Halves.{half_of}
use Rattle.image_tape.specs.Writes.{IsPlace}
use Rattle.image_tape.proofs.Shaping.{cuts, cuts_not, renamed_cut}
use Rattle.image_tape.proofs.Surely.{settled_in}
use Rattle.image_tape.proofs.Wholes.{kept_at}
use Rattle.image_tape.proofs.tape.ImageTape.cut.Goals as goal

pub invariant_of-self : goal.invariant_of-self
invariant_of-self g c =
    (cuts g.B.ByteDisk _ c.self.invariant (settled_in g.B.ByteDisk _ _ c.self.view_is c.requires.settled) c.args.at c.in-Some.end c.cut.new.self c.ended-self-inside.result
    (subst (λ v. (d : Files) → g.B.ByteDisk.held v.slots.disk ≡ Some d → (half_of c.args.at.part v.base).count ≤ c.args.at.pos) (sym c.self.view_is) c.requires.uncounted)
    (subst (λ v. IsPlace c.args.at c.in-Some.end v) (sym c.self.view_is) c.in-Some.ensures.some) c.cut.ensures c.ended-self-inside.ensures).0

pub returns-in-Some-clause-cut : goal.returns-in-Some-clause-cut
returns-in-Some-clause-cut g c =
    renamed_cut g.B.ByteDisk c.args.at _ _ _ c.self.view_is
    (cuts g.B.ByteDisk _ c.self.invariant (settled_in g.B.ByteDisk _ _ c.self.view_is c.requires.settled) c.args.at c.in-Some.end c.cut.new.self c.ended-self-inside.result
    (subst (λ v. (d : Files) → g.B.ByteDisk.held v.slots.disk ≡ Some d → (half_of c.args.at.part v.base).count ≤ c.args.at.pos) (sym c.self.view_is) c.requires.uncounted)
    (subst (λ v. IsPlace c.args.at c.in-Some.end v) (sym c.self.view_is) c.in-Some.ensures.some) c.cut.ensures c.ended-self-inside.ensures).1

pub returns-in_default-clause-cut : goal.returns-in_default-clause-cut
returns-in_default-clause-cut g c =
    cuts_not g.B.ByteDisk c.args.self.now (kept_at g.B.ByteDisk _ _ c.self.view_is c.self.invariant) c.requires.settled c.args.at c.in_default.ensures.none
