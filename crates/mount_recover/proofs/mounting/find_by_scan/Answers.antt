use Rattle.std.proofs.Common.{arith}
use Rattle.cartridge_meaning.specs.Labels.{HasLabels}
use Rattle.mount_recover.specs.Lasts.{IsScan}
use Rattle.mount_recover.specs.Noted.{AreNotes}
use Rattle.mount_recover.proofs.MountLemmas.{scan_of}
use Rattle.mount_recover.proofs.ScanLemmas.{within}
use Rattle.mount_recover.proofs.StepLemmas.{at_told, both_after, given_step, known, stops, stops_after, told_then}
use Rattle.mount_recover.proofs.mounting.find_by_scan.Goals as goal

pub scan_both-requires-clause-labels : goal.scan_both-requires-clause-labels
scan_both-requires-clause-labels g c = told_then (g.D.Drive.held c.args.drive.now) c.requires.known (λ held k. (c.args.labels, k.0))

pub returns-in_err-scans : goal.returns-in_err-scans
returns-in_err-scans g c =
    given_step g.D.Drive c.args.start c.from_residual.ensures.1
    (stops g.D.Drive c.args.start (omega arith) c.in_err-scans.ensures (λ held h blames. blames))

pub find_by_scans-requires-clause-known : goal.find_by_scans-requires-clause-known
find_by_scans-requires-clause-known g c =
    known g.D.Drive c.args.start c.in_ok-scans.ensures (λ held. IsScan c.args.labels c.in_ok-scans.scans held × AreNotes c.args.notes.now held)
    (λ held h are.
    let k = at_told (λ held. HasLabels held c.args.labels × AreNotes c.args.notes.now held) h c.requires.known in
    (scan_of held c.args.labels c.in_ok-scans.scans k.0 are, k.1))

pub returns-in_err-mounted : goal.returns-in_err-mounted
returns-in_err-mounted g c =
    given_step g.D.Drive c.args.start c.from_residual-in_err-mounted.ensures.1
    (stops_after g.D.Drive c.args.start (omega arith) c.in_ok-scans.ensures c.in_err-mounted.ensures (λ held h are blames. blames))

pub returns : goal.returns
returns g c =
    both_after g.D.Drive c.args.start c.in_ok-scans.ensures c.in_ok-mounted.ensures
    (λ held h are mounts.
    let k = at_told (λ held. HasLabels held c.args.labels × AreNotes c.args.notes.now held) h c.requires.known in
    record { mounts = mounts; places_are = (scan_of held c.args.labels c.in_ok-scans.scans k.0 are).dp.constructs })
    (λ are sound. record { mounted = sound; places = within c.args.start.limits.cap_dp c.in_ok-scans.scans.dp are.1 })
