use Rattle.std.proofs.Common.{ℕ, sym, subst, arith}
use Rattle.generation_view.specs.Told.{AreCounts, refusal}
use Rattle.generation_view.specs.Views.{RefusesView}
use Rattle.generation_view.specs.declared.errors.ViewErr.{ViewErr}
use Rattle.generation_view.proofs.Mounts.{counts_told}
use Rattle.generation_view.proofs.Seekings.{all_looks, can_be_read, refuses_view, seen_broken, seen_lacking, seen_there}
use Rattle.generation_view.proofs.views.open_view.Goals as goal

pub invariant_of-result : goal.invariant_of-result
invariant_of-result g c =
    can_be_read g.D.Drive c.begin-start.result c.args.drive.now c.seek.new.drive c.args.generation c.in-Ok-There.field-0 c.of.result.value c.in-Ok-There.tree c.in-Ok-There.spot
    c.in-Ok-There.field-0-is c.of.ensures c.in-Ok-There.ensures

pub returns-in-Ok-There-clause-found : goal.returns-in-Ok-There-clause-found
returns-in-Ok-There-clause-found g c = λ held h.
    let t = seen_there g.D.Drive c.begin-start.result c.args.drive.now c.seek.new.drive c.args.generation c.in-Ok-There.field-0 held c.in-Ok-There.tree c.in-Ok-There.spot
    c.in-Ok-There.field-0-is h c.in-Ok-There.ensures in
    record { found = t.0; gen = t.1.gen; made = t.1.made; k = t.1.k; older = t.1.older; stands = t.1.stands; spot_is = t.1.spot_is }

pub returns-in-Ok-There-clause-looks : goal.returns-in-Ok-There-clause-looks
returns-in-Ok-There-clause-looks g c =
    all_looks g.D.Drive c.begin-start.result c.args.drive.now c.seek.new.drive c.args.generation c.in-Ok-There.field-0 c.begin-start.ensures.since c.in-Ok-There.ensures

pub returns-in-Ok-Lacking-clause-refused : goal.returns-in-Ok-Lacking-clause-refused
returns-in-Ok-Lacking-clause-refused g c = λ held h.
    seen_lacking g.D.Drive c.begin-start.result c.args.drive.now c.seek.new.drive c.args.generation c.in-Ok-Lacking.field-0 held c.in-Ok-Lacking.field-0-is h c.in-Ok-Lacking.ensures

pub returns-in-Ok-Broken-clause-refused : goal.returns-in-Ok-Broken-clause-refused
returns-in-Ok-Broken-clause-refused g c = λ held h.
    seen_broken g.D.Drive c.begin-start.result c.args.drive.now c.seek.new.drive c.args.generation c.in-Ok-Broken.field-0 held c.in-Ok-Broken.pos c.in-Ok-Broken.why
    c.in-Ok-Broken.field-0-is h c.in-Ok-Broken.ensures

pub returns-in-Err-clause-refused : goal.returns-in-Err-clause-refused
returns-in-Err-clause-refused g c = λ held h.
    subst (λ (e : ViewErr). RefusesView c.args.generation e held) (sym c.refusal.ensures) (refuses_view held c.args.generation c.in-Err.fault (c.in-Err.ensures.refused held h))

pub returns-in-Err-clause-counts : goal.returns-in-Err-clause-counts
returns-in-Err-clause-counts g c = record {
  later = omega (arith, c.in-Err.ensures.counts.later, c.begin-start.ensures.faults);
  told = subst (λ (e : ViewErr). AreCounts (g.D.Drive.faults c.args.drive.now) (g.D.Drive.faults c.seek.new.drive) e) (sym c.refusal.ensures)
      (subst (λ (n : ℕ). AreCounts n (g.D.Drive.faults c.seek.new.drive) (refusal c.in-Err.fault)) c.begin-start.ensures.faults
      (counts_told c.begin-start.result.faults (g.D.Drive.faults c.seek.new.drive) c.in-Err.fault c.in-Err.ensures.counts.told));
}
