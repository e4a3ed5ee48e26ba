use Rattle.std.proofs.Common.{refl, arith}
use Rattle.cartridge_meaning.specs.Labels.{HasLabels}
use Rattle.mount_recover.specs.Noted.{AreNotes}
use Rattle.mount_recover.proofs.MountLemmas.{free_blames, mounts_by_notes, sound_mount, still_told}
use Rattle.mount_recover.proofs.StepLemmas.{by_found, by_is, by_more, by_at, by_stops, by_then, found_after, stops_as}
use Rattle.mount_recover.proofs.mounting.find_by_labels.Goals as goal

pub returns-in-Ok-Some : goal.returns-in-Ok-Some
returns-in-Ok-Some g c =
    by_found g.D.Drive c.args.start (omega arith) (by_is g.D.Drive c.args.start c.in-Ok-Some.field-0-is c.in-Ok-Some.ensures)
    (λ held h is. mounts_by_notes held c.args.labels c.in-Ok-Some.choice _ c.mounted.result is refl refl refl c.mounted.ensures)
    (λ sound. sound_mount c.args.start.limits c.args.labels c.in-Ok-Some.choice _ c.mounted.result c.requires.sound sound c.mounted.ensures)
    (λ held h is i few known. few)

pub find_by_scan-requires-clause-known : goal.find_by_scan-requires-clause-known
find_by_scan-requires-clause-known g c =
    still_told (λ held. HasLabels held c.args.labels × AreNotes c.args.notes.now held) (g.D.Drive.held c.args.drive.now) (g.D.Drive.held c.choose_by_notes.new.drive)
    c.in-Ok-None.ensures.step.looks.held c.requires.known

pub returns-in-Ok : goal.returns-in-Ok
returns-in-Ok g c =
    by_more g.D.Drive c.args.start (omega arith)
    (by_then g.D.Drive c.args.start (by_is g.D.Drive c.args.start c.in-Ok-None.field-0-is c.in-Ok-None.ensures)
    (by_at g.D.Drive c.args.start (λ held n. Unit {0})
    (found_after g.D.Drive c.args.start c.in-Ok.ensures (λ held h scanned. scanned.mounts) (λ sound. sound.mounted)) (λ held. tt))
    (λ held h none m mounts. mounts) (λ any m sound. sound) (λ held h none e blames. blames) (λ held h none i k few scanned known. absurd (none known)))

pub returns-in-Err-find_by_scan : goal.returns-in-Err-find_by_scan
returns-in-Err-find_by_scan g c =
    by_more g.D.Drive c.args.start (omega arith)
    (by_then g.D.Drive c.args.start (by_is g.D.Drive c.args.start c.in-Ok-None.field-0-is c.in-Ok-None.ensures)
    (by_at g.D.Drive c.args.start (λ held n. Unit {0})
    (stops_as g.D.Drive c.args.start c.in-Err-find_by_scan.ensures) (λ held. tt))
    (λ held h none m mounts. mounts) (λ any m sound. sound) (λ held h none e blames. blames) (λ held h none i k few scanned known. absurd (none known)))

pub returns-in-Err : goal.returns-in-Err
returns-in-Err g c =
    by_stops g.D.Drive c.args.start (omega arith) c.in-Err.ensures (λ held h free. free_blames held c.in-Err.fault free) (λ held h i few known. few)
