use Rattle.std.proofs.Common.{◌≡◌, ◌∙◌, true, false, sym, arith}
use Rattle.mount_recover.specs.Lasts.{IsKnownDp}
use Rattle.mount_recover.proofs.LastLemmas.{blamed_dp, newest_there, right_dp, wrong_dp}
use Rattle.mount_recover.proofs.StepLemmas.{at_told, found_after, given_step, more_step, refused_after, stops, told_then}
use Rattle.mount_recover.proofs.lasts.read_on_dp.Goals as goal

pub read_index_at-requires-clause-known : goal.read_index_at-requires-clause-known
read_index_at-requires-clause-known g c =
    told_then (g.D.Drive.held c.args.drive.now) c.requires.known (λ held known. newest_there held.dp c.args.place known.newest)

pub returns-in_err-index : goal.returns-in_err-index
returns-in_err-index g c =
    given_step g.D.Drive c.args.basis.now.start c.from_residual.ensures.1
    (stops g.D.Drive c.args.basis.now.start (omega (arith, c.requires.place.after)) c.in_err-index.ensures
    (λ held h bad. blamed_dp held c.args.basis.now.labels.now c.args.place c.args.older.now
    (at_told (IsKnownDp c.args.basis.now.labels.now c.args.place c.args.older.now) h c.requires.known) c.in_err-index.field-0.0 bad))

pub returns-then-not-points_on_dp : goal.returns-then-not-points_on_dp
returns-then-not-points_on_dp g c =
    refused_after g.D.Drive c.args.basis.now.start (more_step g.D.Drive c.args.basis.now.start (omega (arith, c.requires.place.after)) c.in_ok-index.ensures) tt
    (λ held h of. wrong_dp held c.args.basis.now.labels.now c.args.place c.args.older.now
    (at_told (IsKnownDp c.args.basis.now.labels.now c.args.place c.args.older.now) h c.requires.known) c.in_ok-index.index of
    (λ k ks first are points. let bad : true ≡ false = sym ((c.points_on_dp.ensures k ks first are).1 points) ∙ c.if-not-points_on_dp.true in cc bad))

pub returns : goal.returns
returns g c =
    found_after g.D.Drive c.args.basis.now.start (more_step g.D.Drive c.args.basis.now.start (omega (arith, c.requires.place.after)) c.in_ok-index.ensures)
    (λ held h of. right_dp held c.args.basis.now.labels.now c.args.place c.args.older.now
    (at_told (IsKnownDp c.args.basis.now.labels.now c.args.place c.args.older.now) h c.requires.known) c.in_ok-index.index of
    (λ k ks first are. (c.points_on_dp.ensures k ks first are).0 c.if-not-points_on_dp.false))
    (λ read. record { sound = record { index = read.0; place = c.requires.place }; text = read.1 })
