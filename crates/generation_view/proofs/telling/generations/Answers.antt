use Rattle.std.proofs.Common.{ℕ, sym, subst, arith}
use Rattle.generation_view.specs.Told.{AreCounts, RefusesChain, refusal}
use Rattle.generation_view.specs.declared.errors.ViewErr.{ViewErr}
use Rattle.generation_view.proofs.Mounts.{broken_told, counts_told, refuses_chain, whole_told}
use Rattle.generation_view.proofs.telling.generations.Goals as goal

pub returns-in-Ok-Whole-clause-found : goal.returns-in-Ok-Whole-clause-found
returns-in-Ok-Whole-clause-found g c = λ held h.
    whole_told held _ c.in-Ok-Whole.told c.in-Ok-Whole.field-0-is (c.in-Ok-Whole.ensures.found held h)

pub returns-in-Ok-Broken-clause-refused : goal.returns-in-Ok-Broken-clause-refused
returns-in-Ok-Broken-clause-refused g c = λ held h.
    broken_told held _ c.in-Ok-Broken.pos c.in-Ok-Broken.why c.in-Ok-Broken.field-0-is (c.in-Ok-Broken.ensures.found held h)

pub returns-in-Err-clause-refused : goal.returns-in-Err-clause-refused
returns-in-Err-clause-refused g c = λ held h.
    subst (λ (e : ViewErr). RefusesChain e held) (sym c.refusal.ensures) (refuses_chain held c.in-Err.fault (c.in-Err.ensures.refused held h))

pub returns-in-Err-clause-counts : goal.returns-in-Err-clause-counts
returns-in-Err-clause-counts g c = record {
  later = omega (arith, c.in-Err.ensures.counts.later, c.begin-start.ensures.faults);
  told = subst (λ (e : ViewErr). AreCounts (g.D.Drive.faults c.args.drive.now) (g.D.Drive.faults c.walk_all.new.drive) e) (sym c.refusal.ensures)
      (subst (λ (n : ℕ). AreCounts n (g.D.Drive.faults c.walk_all.new.drive) (refusal c.in-Err.fault)) c.begin-start.ensures.faults
      (counts_told c.begin-start.result.faults (g.D.Drive.faults c.walk_all.new.drive) c.in-Err.fault c.in-Err.ensures.counts.told));
}
