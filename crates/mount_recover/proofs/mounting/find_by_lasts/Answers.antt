use Rattle.std.proofs.Common.{arith}
use Rattle.mount_recover.specs.Lasts.{AreLasts, IsScan, dp_in, ip_in}
use Rattle.mount_recover.specs.Noted.{AreNotes}
use Rattle.mount_recover.proofs.ChoiceLemmas.{scanned_ends, scanned_within}
use Rattle.mount_recover.proofs.FlagLemmas.{front_of}
use Rattle.mount_recover.proofs.LastLemmas.{forms_of}
use Rattle.mount_recover.proofs.MountLemmas.{fault_blames, free_blames, mounts, sound_mount}
use Rattle.mount_recover.proofs.StepLemmas.{at_told, found_after, given_step, more_step, no_step, stops, told_then}
use Rattle.mount_recover.proofs.mounting.find_by_lasts.Goals as goal

pub returns-in-Err : goal.returns-in-Err
returns-in-Err g c =
    more_step g.D.Drive c.args.start (omega arith)
    (no_step g.D.Drive c.args.start c.requires.since tt tt
    (λ held h.
    let k = at_told (λ held. IsScan c.args.labels c.args.scans.now held × AreNotes c.args.notes.now held × AreLasts c.args.labels.ip c.args.lasts held) h c.requires.known in
    fault_blames held c.in-Err.fault
    (c.in-Err.ensures.refused held (forms_of held c.args.labels c.args.scans.now k.0)
    (scanned_ends held c.args.labels c.args.scans.now c.args.lasts c.ends_scanned-ends.result k.0 k.2 c.ends_scanned-ends.ensures.ip c.ends_scanned-ends.ensures.dp) k.2))
    (c.in-Err.ensures.counts _ _))

pub read_flags-requires-clause-notes : goal.read_flags-requires-clause-notes
read_flags-requires-clause-notes g c = told_then (g.D.Drive.held c.args.drive.now) c.requires.known (λ held k. k.1)

pub read_flags-requires-clause-ip : goal.read_flags-requires-clause-ip
read_flags-requires-clause-ip g c =
    told_then (g.D.Drive.held c.args.drive.now) c.requires.known
    (λ held k. front_of held.ip c.args.scans.now.ip (ip_in c.args.lasts) c.in-Ok.choice.ip k.0.ip k.2.ip.place
    (c.in-Ok.ensures.found held (forms_of held c.args.labels c.args.scans.now k.0)
    (scanned_ends held c.args.labels c.args.scans.now c.args.lasts c.ends_scanned-ends.result k.0 k.2 c.ends_scanned-ends.ensures.ip c.ends_scanned-ends.ensures.dp) k.2).choice_is.ip)

pub read_flags-requires-clause-dp : goal.read_flags-requires-clause-dp
read_flags-requires-clause-dp g c =
    told_then (g.D.Drive.held c.args.drive.now) c.requires.known
    (λ held k. front_of held.dp c.args.scans.now.dp (dp_in c.args.lasts) c.in-Ok.choice.dp k.0.dp k.2.dp.place
    (c.in-Ok.ensures.found held (forms_of held c.args.labels c.args.scans.now k.0)
    (scanned_ends held c.args.labels c.args.scans.now c.args.lasts c.ends_scanned-ends.result k.0 k.2 c.ends_scanned-ends.ensures.ip c.ends_scanned-ends.ensures.dp) k.2).choice_is.dp)

pub returns-in_err-flags : goal.returns-in_err-flags
returns-in_err-flags g c =
    given_step g.D.Drive c.args.start c.from_residual.ensures.1
    (stops g.D.Drive c.args.start (omega arith) c.in_err-flags.ensures (λ held h free. free_blames held c.in_err-flags.field-0.0 free))

pub returns : goal.returns
returns g c =
    found_after g.D.Drive c.args.start c.in_ok-flags.ensures
    (λ held h flags.
    let k = at_told (λ held. IsScan c.args.labels c.args.scans.now held × AreNotes c.args.notes.now held × AreLasts c.args.labels.ip c.args.lasts held) h c.requires.known in
    mounts held c.args.labels c.args.lasts c.in-Ok.choice
    (c.in-Ok.ensures.found held (forms_of held c.args.labels c.args.scans.now k.0)
    (scanned_ends held c.args.labels c.args.scans.now c.args.lasts c.ends_scanned-ends.result k.0 k.2 c.ends_scanned-ends.ensures.ip c.ends_scanned-ends.ensures.dp) k.2)
    c.in_ok-flags.flags flags.0 flags.1 flags.2 c.mounted.result c.mounted.ensures)
    (λ unit. sound_mount c.args.start.limits c.args.labels c.in-Ok.choice c.in_ok-flags.flags c.mounted.result c.requires.sound
    (c.in-Ok.ensures.any c.args.start.limits
    (scanned_within c.args.labels.ip c.args.start.limits c.args.scans.now c.args.lasts c.ends_scanned-ends.result c.requires.places c.requires.sound_lasts
    c.ends_scanned-ends.ensures.ip c.ends_scanned-ends.ensures.dp) c.requires.sound_lasts) c.mounted.ensures)
