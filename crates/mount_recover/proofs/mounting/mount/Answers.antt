use Rattle.std.proofs.Common.{◌≡◌, ◌*◌, Some, ℕ, subst, sym}
use Rattle.std.specs.Prelude.{IfOk}
use Rattle.tape_types.specs.declared.cartridges.Limits.{Limits}
use Rattle.tape_drive.specs.Looks.{Looks}
use Rattle.mount_recover.specs.Known.{mount_most}
use Rattle.mount_recover.specs.Labels.{HasCounts}
use Rattle.mount_recover.specs.Lasts.{IsSoundMount}
use Rattle.mount_recover.proofs.MountLemmas.{only_mounts}
use Rattle.mount_recover.proofs.StepLemmas.{looks_more}
use Rattle.mount_recover.proofs.mounting.mount.Goals as goal

pub returns-clause-found : goal.returns-clause-found
returns-clause-found g c = c.find.ensures.step.found

pub returns-clause-refused : goal.returns-clause-refused
returns-clause-refused g c = c.find.ensures.step.refused

pub returns-clause-any : goal.returns-clause-any
returns-clause-any g c = subst (λ (l : Limits). IfOk c.find.result (IsSoundMount l)) (sym c.begin-start.ensures.since.limits) c.find.ensures.step.any

pub returns-clause-counts : goal.returns-clause-counts
returns-clause-counts g c = subst (λ (n : ℕ). HasCounts n (g.D.Drive.faults c.find.new.drive) c.find.result) c.begin-start.ensures.faults c.find.ensures.step.counts

pub returns-clause-looks : goal.returns-clause-looks
returns-clause-looks g c =
    subst (λ (l : Limits). Looks g.D.Drive (mount_most l * g.D.Drive.MOST) c.args.drive.now c.find.new.drive) (sym c.begin-start.ensures.since.limits)
    (looks_more g.D.Drive c.begin-start.result _ _ c.args.drive.now c.find.new.drive c.find.ensures.most_is c.find.ensures.step.looks)

pub returns-clause-by_notes : goal.returns-clause-by_notes
returns-clause-by_notes g c = λ held h known.
    looks_more g.D.Drive c.begin-start.result _ _ c.args.drive.now c.find.new.drive (c.find.ensures.by held h known) c.find.ensures.step.looks

pub returns-clause-only : goal.returns-clause-only
returns-clause-only g c = only_mounts c.find.result (λ held. g.D.Drive.held c.args.drive.now ≡ Some held) c.find.ensures.step.refused
