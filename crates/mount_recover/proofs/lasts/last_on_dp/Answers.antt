use Rattle.std.proofs.Common.{sym, ◌∙◌}
use Rattle.mount_recover.proofs.LastLemmas.{known_dp, last_in_place}
use Rattle.mount_recover.proofs.StepLemmas.{told_then}
use Rattle.mount_recover.proofs.lasts.last_on_dp.Goals as goal

pub read_on_dp-requires-clause-place : goal.read_on_dp-requires-clause-place
read_on_dp-requires-clause-place g c =
    last_in_place c.args.basis.now.start.limits.cap_dp c.args.basis.now.scans.now.dp c.in-Some.older.now c.in-Some.place.now c.requires.places.1
    (sym c.as_slice.ensures ∙ c.in-Some.ensures.cases.0)

pub read_on_dp-requires-clause-known : goal.read_on_dp-requires-clause-known
read_on_dp-requires-clause-known g c =
    told_then (g.D.Drive.held c.args.drive.now) c.requires.known
    (λ held scan. known_dp held c.args.basis.now.labels.now c.args.basis.now.scans.now c.in-Some.older.now c.in-Some.place.now scan
    (sym c.as_slice.ensures ∙ c.in-Some.ensures.cases.0))
