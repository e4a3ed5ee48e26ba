use Rattle.std.proofs.Common.{List, ℕ, None, refl, subst, sym, arith}
use Rattle.cartridge_meaning.specs.Pointers.{indexes_of}
use Rattle.mount_recover.specs.Lasts.{IsDocument, IsKnownIp}
use Rattle.mount_recover.proofs.LastLemmas.{newest_document, newest_there}
use Rattle.mount_recover.proofs.MountLemmas.{free_blames}
use Rattle.mount_recover.proofs.StepLemmas.{at_told, found_after, given_step, more_step, refused_after, stops, told_then}
use Rattle.mount_recover.proofs.lasts.read_alone.Goals as goal

pub read_document-requires-clause-known : goal.read_document-requires-clause-known
read_document-requires-clause-known g c =
    told_then (g.D.Drive.held c.args.drive.now) c.requires.known (λ held known. newest_there held.ip c.args.place known.newest)

pub returns-in_err-read_document : goal.returns-in_err-read_document
returns-in_err-read_document g c =
    given_step g.D.Drive c.args.basis.now.start c.from_residual.ensures.1
    (stops g.D.Drive c.args.basis.now.start (omega (arith, c.requires.place.after)) c.in_err-read_document.ensures (λ held h free. free_blames held _ free))

pub returns-in-Ok : goal.returns-in-Ok
returns-in-Ok g c =
    found_after g.D.Drive c.args.basis.now.start (more_step g.D.Drive c.args.basis.now.start (omega (arith, c.requires.place.after)) c.in_ok-read_document.ensures)
    (λ held h is. record {
      dp_is = refl;
      ip = c.in-Ok.ensures.found held None refl (at_told (IsKnownIp c.args.basis.now.labels.now c.args.place c.args.basis.now.scans.now.dp.constructs None) h c.requires.known)
          (subst (λ (t : List ℕ). IsDocument t (indexes_of held.ip)) (sym c.as_slice.ensures.value)
          (newest_document held.ip c.args.place c.read_document.new.document.items (at_told (IsKnownIp c.args.basis.now.labels.now c.args.place c.args.basis.now.scans.now.dp.constructs None) h c.requires.known).newest is));
    })
    (λ same. record { dp_is = refl; ip = c.in-Ok.ensures.sound c.args.basis.now.start.limits.cap_ip c.requires.place })

pub returns-in-Err : goal.returns-in-Err
returns-in-Err g c =
    refused_after g.D.Drive c.args.basis.now.start (more_step g.D.Drive c.args.basis.now.start (omega (arith, c.requires.place.after)) c.in_ok-read_document.ensures) (c.in-Err.ensures.counts _ _)
    (λ held h is. c.in-Err.ensures.refused held None refl (at_told (IsKnownIp c.args.basis.now.labels.now c.args.place c.args.basis.now.scans.now.dp.constructs None) h c.requires.known)
    (subst (λ (t : List ℕ). IsDocument t (indexes_of held.ip)) (sym c.as_slice.ensures.value)
    (newest_document held.ip c.args.place c.read_document.new.document.items (at_told (IsKnownIp c.args.basis.now.labels.now c.args.place c.args.basis.now.scans.now.dp.constructs None) h c.requires.known).newest is)))
