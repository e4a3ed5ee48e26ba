use Rattle.std.proofs.Common.{List, ℕ, Some, refl, subst, sym, arith}
use Rattle.index_model.specs.Grammar.{IndexText}
use Rattle.cartridge_meaning.specs.Pointers.{indexes_of}
use Rattle.mount_recover.specs.Lasts.{IsDocument, IsKnownIp, IsLastDp, twin_of}
use Rattle.mount_recover.proofs.LastLemmas.{newest_document, newest_there}
use Rattle.mount_recover.proofs.MountLemmas.{free_blames}
use Rattle.mount_recover.proofs.StepLemmas.{at_told, found_after, given_step, more_step, refused_after, stops, told_then}
use Rattle.mount_recover.proofs.TwinLemmas.{right_twin, sound_twin}
use Rattle.mount_recover.proofs.lasts.read_beside.Goals as goal

pub read_document-requires-clause-known : goal.read_document-requires-clause-known
read_document-requires-clause-known g c =
    told_then (g.D.Drive.held c.args.drive.now) c.requires.known (λ held known. newest_there held.ip c.args.place known.newest)

pub returns-in_err-same : goal.returns-in_err-same
returns-in_err-same g c =
    given_step g.D.Drive c.args.basis.now.start c.from_residual.ensures.1
    (stops g.D.Drive c.args.basis.now.start (omega (arith, c.requires.place.after)) c.in_err-same.ensures (λ held h free. free_blames held _ free))

pub returns-then-same : goal.returns-then-same
returns-then-same g c =
    found_after g.D.Drive c.args.basis.now.start (more_step g.D.Drive c.args.basis.now.start (omega (arith, c.requires.place.after)) c.in_ok-same.ensures)
    (λ held h is.
    (record {
      dp_is = refl;
      ip = right_twin c.args.basis.now.labels.now c.args.basis.now.start.limits c.args.place c.args.dp c.twin_at-twin.result c.twin_at-twin.ensures c.requires.since.range
          c.requires.sound c.requires.place c.requires.sound_dp.sound held c.args.basis.now.scans.now.dp.constructs
          (at_told (IsKnownIp c.args.basis.now.labels.now c.args.place c.args.basis.now.scans.now.dp.constructs (Some c.args.dp.index)) h c.requires.known)
          (at_told (IsLastDp c.args.basis.now.labels.now.ip (Some c.args.dp)) h c.requires.dp) c.read_document.new.document.items
          (newest_document held.ip c.args.place c.read_document.new.document.items (at_told (IsKnownIp c.args.basis.now.labels.now c.args.place c.args.basis.now.scans.now.dp.constructs (Some c.args.dp.index)) h c.requires.known).newest is)
          (subst (λ (t : List ℕ). IndexText t (twin_of c.args.dp.index c.twin_at-twin.result)) (sym (c.in_ok-same.ensures.any c.if-same.true)) (c.repoint-likely.ensures c.if-likely.true c.requires.sound_dp.text));
    }))
    (λ same.
    (record {
      dp_is = refl;
      ip = sound_twin c.args.basis.now.labels.now c.args.basis.now.start.limits c.args.place c.args.dp c.twin_at-twin.result c.twin_at-twin.ensures c.requires.since.range
          c.requires.sound c.requires.place c.requires.sound_dp.sound;
    }))

pub returns-in-Ok : goal.returns-in-Ok
returns-in-Ok g c =
    found_after g.D.Drive c.args.basis.now.start (more_step g.D.Drive c.args.basis.now.start (omega (arith, c.requires.place.after)) c.in_ok-same.ensures)
    (λ held h is.
    (record {
      dp_is = refl;
      ip = c.in-Ok.ensures.found held (Some c.args.dp.index) refl
          (at_told (IsKnownIp c.args.basis.now.labels.now c.args.place c.args.basis.now.scans.now.dp.constructs (Some c.args.dp.index)) h c.requires.known)
          (subst (λ (t : List ℕ). IsDocument t (indexes_of held.ip)) (sym c.as_slice.ensures.value)
          (newest_document held.ip c.args.place c.read_document.new.document.items (at_told (IsKnownIp c.args.basis.now.labels.now c.args.place c.args.basis.now.scans.now.dp.constructs (Some c.args.dp.index)) h c.requires.known).newest is));
    }))
    (λ same.
    (record { dp_is = refl; ip = c.in-Ok.ensures.sound c.args.basis.now.start.limits.cap_ip c.requires.place }))

pub returns-in-Err : goal.returns-in-Err
returns-in-Err g c =
    refused_after g.D.Drive c.args.basis.now.start (more_step g.D.Drive c.args.basis.now.start (omega (arith, c.requires.place.after)) c.in_ok-same.ensures) (c.in-Err.ensures.counts _ _)
    (λ held h is. c.in-Err.ensures.refused held (Some c.args.dp.index) refl
    (at_told (IsKnownIp c.args.basis.now.labels.now c.args.place c.args.basis.now.scans.now.dp.constructs (Some c.args.dp.index)) h c.requires.known)
    (subst (λ (t : List ℕ). IsDocument t (indexes_of held.ip)) (sym c.as_slice.ensures.value)
    (newest_document held.ip c.args.place c.read_document.new.document.items (at_told (IsKnownIp c.args.basis.now.labels.now c.args.place c.args.basis.now.scans.now.dp.constructs (Some c.args.dp.index)) h c.requires.known).newest is)))
