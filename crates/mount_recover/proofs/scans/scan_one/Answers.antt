use Rattle.mount_recover.proofs.ScanLemmas.{scanned}
use Rattle.mount_recover.proofs.scans.scan_one.Goals as goal

pub returns-in-Ok : goal.returns-in-Ok
returns-in-Ok g c =
    scanned g.D.Drive c.args.start c.args.drive.now c.scan.new.drive c.args.part c.in-Ok.found _ c.requires.since
    c.in-Ok.ensures.told c.in-Ok.ensures.places c.in-Ok.ensures.counts c.in-Ok.ensures.looks
