use Rattle.std.proofs.Common.{◌≤◌, arith}
use Rattle.cartridge_meaning.specs.Labels.{HasLabels}
use Rattle.cartridge_meaning.specs.Notes.{HasHonestNotes}
use Rattle.mount_recover.specs.Noted.{AreNotes}
use Rattle.mount_recover.proofs.MountLemmas.{still_told}
use Rattle.mount_recover.proofs.StepLemmas.{at_told, by_at, by_more, by_step, by_then, known, stops}
use Rattle.mount_recover.proofs.mounting.find_by_notes.Goals as goal

pub find_by_labels-requires-clause-honest : goal.find_by_labels-requires-clause-honest
find_by_labels-requires-clause-honest g c =
    still_told HasHonestNotes (g.D.Drive.held c.args.drive.now) (g.D.Drive.held c.find_labels.new.drive) c.in-Ok.ensures.looks.held c.requires.honest

pub find_by_labels-requires-clause-known : goal.find_by_labels-requires-clause-known
find_by_labels-requires-clause-known g c =
    known g.D.Drive c.args.start c.in-Ok.ensures (λ held. HasLabels held c.in-Ok.labels × AreNotes c.args.notes.now held)
    (λ held h has. (has, at_told (AreNotes c.args.notes.now) h c.requires.notes))

pub returns : goal.returns
returns g c =
    by_more g.D.Drive c.args.start (omega arith)
    (by_then g.D.Drive c.args.start (by_at g.D.Drive c.args.start (λ held n. n ≤ 12) c.in-Ok.ensures (λ held. omega arith)) c.find_by_labels.ensures
    (λ held h has m mounts. mounts) (λ are m sound. sound) (λ held h has e blames. blames)
    (λ held h has i k first second known. let few = second known in omega (arith, first, few)))

pub returns-in-Err : goal.returns-in-Err
returns-in-Err g c =
    by_step g.D.Drive c.args.start (omega arith) (stops g.D.Drive c.args.start {m = 12} {n = 12} (omega arith) c.in-Err.ensures (λ held h blames. blames)) (λ held h known. omega arith)
