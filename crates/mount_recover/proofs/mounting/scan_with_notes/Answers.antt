use Rattle.std.proofs.Common.{arith}
use Rattle.cartridge_meaning.specs.Labels.{HasLabels}
use Rattle.mount_recover.specs.Noted.{AreNotes}
use Rattle.mount_recover.proofs.StepLemmas.{at_told, known, step_of_more, stops, then_step}
use Rattle.mount_recover.proofs.mounting.scan_with_notes.Goals as goal

pub find_by_scan-requires-clause-known : goal.find_by_scan-requires-clause-known
find_by_scan-requires-clause-known g c =
    known g.D.Drive c.args.start c.in-Ok.ensures (λ held. HasLabels held c.in-Ok.labels × AreNotes c.args.notes.now held)
    (λ held h has. (has, at_told (AreNotes c.args.notes.now) h c.requires.notes))

pub returns : goal.returns
returns g c =
    step_of_more g.D.Drive c.args.start (omega arith)
    (then_step g.D.Drive c.args.start c.in-Ok.ensures c.find_by_scan.ensures (λ held h has m mounts. mounts) (λ are m sound. sound) (λ held h has e blames. blames))

pub returns-in-Err : goal.returns-in-Err
returns-in-Err g c = stops g.D.Drive c.args.start (omega arith) c.in-Err.ensures (λ held h blames. blames)
