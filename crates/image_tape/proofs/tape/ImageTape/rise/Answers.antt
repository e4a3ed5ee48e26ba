use Rattle.std.proofs.Common.{rules, ◌∙◌, ap, sym, subst}
use Rattle.image_format.specs.declared.values.SlotValue.{SlotValue}
use Rattle.image_tape.specs.Steps.{MayStand}
use Rattle.image_tape.specs.Writes.{IsCounted, IsUncounted, cut_value}
use Rattle.tape_drive.specs.declared.drive.DriveErr.{DriveErr}
use Rattle.image_tape.proofs.Lagging.{lags}
use Rattle.image_tape.proofs.Rising.{cut_stand, rises_cut, rises_not, rises_uncut, risen_stand}
use Rattle.image_tape.proofs.Surely.{settled_in}
use Rattle.image_tape.proofs.Wholes.{there}
use Rattle.image_tape.proofs.tape.ImageTape.rise.Goals as goal

pub returns-in_default-clause-rises : goal.returns-in_default-clause-rises
returns-in_default-clause-rises g c = rises_not g.B.ByteDisk c.args.at _ c.args.self.now

pub commit-requires-clause-stands : goal.commit-requires-clause-stands
commit-requires-clause-stands g c =
    let at_v = subst (λ v. IsCounted c.args.at c.in-Some-counted_end.end v) (sym c.self.view_is) c.in-Some-counted_end.ensures.some in
    there (λ b s x. MayStand g.B.ByteDisk b s x) c.ended-shorter.result c.ended-left.result _ _ _ _
    (c.ended-shorter.ensures ∙ ap (λ (s : SlotValue). cut_value c.args.at.part c.args.at.pos c.in-Some-counted_end.end s) c.with_vcr-base.ensures)
    (c.ended-left.ensures ∙ ap (λ (s : SlotValue). cut_value c.args.at.part c.args.at.pos c.in-Some-counted_end.end s) c.with_vcr-reads.ensures) c.self.view_is
    (cut_stand g.B.ByteDisk _ c.self.invariant (settled_in g.B.ByteDisk _ _ c.self.view_is c.requires) c.in-Some.vcr (search rules) (search rules) c.args.at.part c.args.at.pos
    c.in-Some-counted_end.end at_v.in_base at_v.in_reads at_v.place)

pub commit-requires-in-Each-clause-stands : goal.commit-requires-in-Each-clause-stands
commit-requires-in-Each-clause-stands g c =
    there (λ b s x. MayStand g.B.ByteDisk b s x) c.with_vcr-base.result c.with_vcr-reads.result _ _ _ _ c.with_vcr-base.ensures c.with_vcr-reads.ensures c.self.view_is
    (risen_stand g.B.ByteDisk _ c.self.invariant (settled_in g.B.ByteDisk _ _ c.self.view_is c.requires) c.in-Some.vcr (search rules) (search rules))

pub returns-in-Some-counted_end-clause-rises : goal.returns-in-Some-counted_end-clause-rises
returns-in-Some-counted_end-clause-rises g c =
    let at_v = subst (λ v. IsCounted c.args.at c.in-Some-counted_end.end v) (sym c.self.view_is) c.in-Some-counted_end.ensures.some in
    rises_cut g.B.ByteDisk c.commit.result c.args.at c.ended-shorter.result c.ended-left.result _ _ c.commit.new.self c.self.view_is c.self.invariant c.requires c.in-Some.vcr
    (search rules) (search rules) c.in-Some-counted_end.end at_v
    (c.ended-shorter.ensures ∙ ap (λ (s : SlotValue). cut_value c.args.at.part c.args.at.pos c.in-Some-counted_end.end s) c.with_vcr-base.ensures)
    (c.ended-left.ensures ∙ ap (λ (s : SlotValue). cut_value c.args.at.part c.args.at.pos c.in-Some-counted_end.end s) c.with_vcr-reads.ensures)
    c.commit.ensures.commit c.commit.ensures.set

pub returns-in-Each-clause-rises : goal.returns-in-Each-clause-rises
returns-in-Each-clause-rises g c =
    rises_uncut g.B.ByteDisk c.commit-in-Each.result c.args.at c.with_vcr-base.result c.with_vcr-reads.result _ _ c.commit-in-Each.new.self c.self.view_is c.self.invariant c.requires
    c.in-Some.vcr (search rules) (search rules) c.with_vcr-base.ensures c.with_vcr-reads.ensures
    (subst (λ v. IsUncounted c.args.at v) (sym c.self.view_is) c.in-None.ensures.none) c.commit-in-Each.ensures.commit c.commit-in-Each.ensures.set

pub invariant_of-self : goal.invariant_of-self
invariant_of-self g c =
    (lags {T = Unit {0}} {E = DriveErr} g.B.ByteDisk _ _ c.self.invariant c.with_vcr-reads.result c.args.at tt c.self.view_is c.requires c.in-Some.vcr (search rules) (search rules)
    c.with_vcr-reads.ensures c.in-None.ensures.none).0

pub returns-in-AtFlush-clause-rises : goal.returns-in-AtFlush-clause-rises
returns-in-AtFlush-clause-rises g c =
    (lags g.B.ByteDisk _ _ c.self.invariant c.with_vcr-reads.result c.args.at tt c.self.view_is c.requires c.in-Some.vcr (search rules) (search rules)
    c.with_vcr-reads.ensures c.in-None.ensures.none).1
