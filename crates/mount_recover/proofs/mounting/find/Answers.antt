use Rattle.std.proofs.Common.{◌≤◌, arith}
use Rattle.cartridge_meaning.specs.Notes.{HasHonestNotes}
use Rattle.mount_recover.specs.Noted.{AreNotes}
use Rattle.mount_recover.proofs.MountLemmas.{free_blames, still_told}
use Rattle.mount_recover.proofs.StepLemmas.{by_at, by_more, by_step, by_then, known, stops}
use Rattle.mount_recover.proofs.mounting.find.Goals as goal

pub find_by_notes-requires-clause-honest : goal.find_by_notes-requires-clause-honest
find_by_notes-requires-clause-honest g c =
    still_told HasHonestNotes (g.D.Drive.held c.args.drive.now) (g.D.Drive.held c.read_notes.new.drive) c.in-Ok.ensures.looks.held c.requires.honest

pub find_by_notes-requires-clause-notes : goal.find_by_notes-requires-clause-notes
find_by_notes-requires-clause-notes g c = known g.D.Drive c.args.start c.in-Ok.ensures (AreNotes c.in-Ok.notes) (λ held h are. are)

pub returns : goal.returns
returns g c =
    by_more g.D.Drive c.args.start (omega arith)
    (by_then g.D.Drive c.args.start (by_at g.D.Drive c.args.start (λ held n. n ≤ 3) c.in-Ok.ensures (λ held. omega arith)) c.find_by_notes.ensures
    (λ held h are m mounts. mounts) (λ are m sound. sound) (λ held h are e blames. blames)
    (λ held h are i k first second known. let few = second known in omega (arith, first, few)))

pub returns-in-Err : goal.returns-in-Err
returns-in-Err g c =
    by_step g.D.Drive c.args.start (omega arith) (stops g.D.Drive c.args.start {m = 3} {n = 3} (omega arith) c.in-Err.ensures (λ held h free. free_blames held c.in-Err.fault free)) (λ held h known. omega arith)
