use Rattle.std.proofs.Common.{arith}
use Rattle.mount_recover.specs.Noted.{AreNotes}
use Rattle.mount_recover.proofs.MountLemmas.{free_blames}
use Rattle.mount_recover.proofs.StepLemmas.{known, step_of_more, stops, then_step}
use Rattle.mount_recover.proofs.mounting.mount_by_scan.Goals as goal

pub scan_with_notes-requires-clause-notes : goal.scan_with_notes-requires-clause-notes
scan_with_notes-requires-clause-notes g c = known g.D.Drive c.args.start c.in-Ok.ensures (AreNotes c.in-Ok.notes) (λ held h are. are)

pub returns : goal.returns
returns g c =
    step_of_more g.D.Drive c.args.start (omega arith)
    (then_step g.D.Drive c.args.start c.in-Ok.ensures c.scan_with_notes.ensures (λ held h are m mounts. mounts) (λ are m sound. sound) (λ held h are e blames. blames))

pub returns-in-Err : goal.returns-in-Err
returns-in-Err g c = stops g.D.Drive c.args.start (omega arith) c.in-Err.ensures (λ held h free. free_blames held c.in-Err.fault free)
