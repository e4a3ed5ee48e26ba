use Rattle.std.proofs.Common.{◌≡◌, length, refl, arith}
use Rattle.tape_types.specs.Cartridges.{FitsLimits, items_of}
use Rattle.content_laws.specs.Readings.{front}
use Rattle.content_laws.proofs.Whole.{front_within}
use Rattle.tape_drive.proofs.Looking.{one_look}
use Rattle.mount_recover.proofs.FlagLemmas.{at_capacity, end_step}
use Rattle.mount_recover.proofs.StepLemmas.{at_told, more_step, no_step, told_then}
use Rattle.mount_recover.proofs.flags.ends_at.Goals as goal

pub returns-then-capacity_of-count : goal.returns-then-capacity_of-count
returns-then-capacity_of-count g c =
    more_step g.D.Drive c.args.start (omega arith)
    (no_step g.D.Drive c.args.start c.requires.since
    (λ held h. (
      (λ yes. at_capacity held c.args.part c.args.start.limits c.args.count (at_told (FitsLimits c.args.start.limits) h c.requires.since.fits)
          (omega (arith, c.if-capacity_of-count.true, c.capacity_of.ensures))
          (at_told (λ held. c.args.count ≡ length (front (items_of c.args.part held))) h c.requires.front)),
      λ all. refl,
    ))
    tt tt tt)

pub locate-requires-clause-within : goal.locate-requires-clause-within
locate-requires-clause-within g c =
    told_then (g.D.Drive.held c.args.drive.now) c.requires.front (λ held is. omega (arith, is, front_within (items_of c.args.part held)))

pub returns-in-Ok-read : goal.returns-in-Ok-read
returns-in-Ok-read g c =
    end_step g.D.Drive c.args.start c.args.drive.now c.locate.new.self c.read.new.self c.args.part c.args.count c.is_end.result c.in-Ok-read.got c.read.new.buf.items
    c.requires.since c.requires.front
    (one_look g.D.Drive g.D.Drive.MOST c.args.drive.now c.locate.new.self (g.met.D.Drive.counts_now c.args.drive.now)
    c.in-Ok.ensures.held c.in-Ok.ensures.command c.in-Ok.ensures.crash)
    c.in-Ok.ensures.command.cause.later c.in-Ok.ensures.head
    (one_look g.D.Drive g.D.Drive.MOST c.locate.new.self c.read.new.self (g.met.D.Drive.counts_now c.locate.new.self)
    c.in-Ok-read.ensures.held c.in-Ok-read.ensures.command c.in-Ok-read.ensures.crash)
    c.in-Ok-read.ensures.command.cause.later c.in-Ok-read.ensures.item c.is_end.ensures
