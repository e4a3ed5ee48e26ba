use Rattle.std.proofs.Common.{arith}
use Rattle.mount_recover.specs.Lasts.{AreLasts, IsScan}
use Rattle.mount_recover.specs.Noted.{AreNotes}
use Rattle.mount_recover.proofs.StepLemmas.{at_told, given_step, known, stops, then_step, told_then}
use Rattle.mount_recover.proofs.mounting.find_by_scans.Goals as goal

pub returns-in_err-lasts : goal.returns-in_err-lasts
returns-in_err-lasts g c =
    given_step g.D.Drive c.args.start c.from_residual.ensures.1
    (stops g.D.Drive c.args.start (omega arith) c.in_err-lasts.ensures (λ held h blames. blames))

pub find_by_lasts-requires-clause-known : goal.find_by_lasts-requires-clause-known
find_by_lasts-requires-clause-known g c =
    known g.D.Drive c.args.start c.in_ok-lasts.ensures (λ held. IsScan c.args.labels c.args.scans.now held × AreNotes c.args.notes.now held × AreLasts c.args.labels.ip c.in_ok-lasts.lasts held)
    (λ held h are.
    let k = at_told (λ held. IsScan c.args.labels c.args.scans.now held × AreNotes c.args.notes.now held) h c.requires.known in (k.0, k.1, are))

pub returns : goal.returns
returns g c =
    then_step g.D.Drive c.args.start c.in_ok-lasts.ensures c.find_by_lasts.ensures (λ held h are m mounts. mounts) (λ are m sound. sound) (λ held h are e blames. blames)

pub read_lasts-requires-clause-known : goal.read_lasts-requires-clause-known
read_lasts-requires-clause-known g c = told_then (g.D.Drive.held c.args.drive.now) c.requires.known (λ held k. k.0)
