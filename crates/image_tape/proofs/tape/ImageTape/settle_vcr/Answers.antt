use Rattle.std.proofs.Common.{refl, subst}
use Rattle.image_tape.specs.Steps.{IsCommit, Looks, MayStand}
use Rattle.image_tape.specs.Tape.{View}
use Rattle.image_tape.proofs.Surely.{settled_in}
use Rattle.image_tape.proofs.Wholes.{back, there, vcr_looks, vcr_stand}
use Rattle.image_tape.proofs.tape.ImageTape.settle_vcr.Goals as goal

pub commit-requires-clause-stands : goal.commit-requires-clause-stands
commit-requires-clause-stands g c =
    there (λ b s x. MayStand g.B.ByteDisk b s x) c.with_vcr-base.result c.self.inside.reads _ _ _ _ c.with_vcr-base.ensures refl c.self.view_is
    (vcr_stand g.B.ByteDisk _ c.self.invariant (settled_in g.B.ByteDisk _ _ c.self.view_is c.requires))

pub returns-clause-looks : goal.returns-clause-looks
returns-clause-looks g c =
    subst (λ (v : View g.row.B.Denot). Looks g.B.ByteDisk 6 v c.commit.new.self) c.self.view_is
    (vcr_looks g.B.ByteDisk _ c.self.invariant (settled_in g.B.ByteDisk _ _ c.self.view_is c.requires) c.commit.result c.commit.new.self
    (back (λ b s x. IsCommit g.B.ByteDisk b s c.commit.result x c.commit.new.self) c.with_vcr-base.result c.self.inside.reads _ _ _ _ c.with_vcr-base.ensures refl c.self.view_is
    c.commit.ensures.commit))
