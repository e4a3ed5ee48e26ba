use Rattle.std.proofs.Common.{arith}
use Rattle.tape_types.specs.Cartridges.{FitsLimits}
use Rattle.cartridge_meaning.specs.Labels.{HasLabels}
use Rattle.cartridge_meaning.specs.Notes.{HasHonestNotes}
use Rattle.mount_recover.specs.Noted.{AreNotes}
use Rattle.mount_recover.proofs.ByNotes.{named_told, unnamed}
use Rattle.mount_recover.proofs.StepLemmas.{at_told, both_told, by_step, no_step}
use Rattle.mount_recover.proofs.noted.choose_by_notes.Goals as goal

pub choose_named-requires-clause-known : goal.choose_named-requires-clause-known
choose_named-requires-clause-known g c =
    both_told (g.D.Drive.held c.args.drive.now) c.requires.honest c.requires.known
    (λ held honest k. named_told held c.args.labels.now k.0 honest c.args.notes.now k.1 c.args.start.limits c.in-Some.named c.in-Some.ensures.some)

pub returns-in-None : goal.returns-in-None
returns-in-None g c =
    by_step g.D.Drive c.args.start (omega arith)
    (no_step g.D.Drive c.args.start c.requires.since
    (λ held h.
    let k = at_told (λ held. HasLabels held c.args.labels.now × AreNotes c.args.notes.now held) h c.requires.known in
    unnamed held c.args.labels.now k.0 (at_told HasHonestNotes h c.requires.honest) c.args.notes.now k.1 c.args.start.limits
    (at_told (FitsLimits c.args.start.limits) h c.requires.since.fits) c.in-None.ensures.all)
    tt tt tt)
    (λ held h. omega arith)
