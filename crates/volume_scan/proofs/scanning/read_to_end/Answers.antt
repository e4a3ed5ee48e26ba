use Rattle.std.proofs.Common.{sym, ◌∙◌}
use Rattle.tape_drive.proofs.Looking.{one_look}
use Rattle.volume_scan.proofs.Looping.{goes_on, looks_after, told_at_capacity, told_at_end, told_at_fault}
use Rattle.volume_scan.proofs.scanning.read_to_end.Goals as goal

pub returns-then-ends-clause-told : goal.returns-then-ends-clause-told
returns-then-ends-clause-told g c =
    told_at_end g.D.Drive c.args.drive.now c.loop-reading.drive c.args.part c.args.positions c.args.before c.loop-reading.reading c.loop-reading.invariant.1
    c.in-Ok.answer c.read.new.buf.items c.in-Ok.ensures.item c.content_of.result (sym c.ends.ensures ∙ c.if-ends.true)
    c.content_of.ensures.constructs c.content_of.ensures.lead c.content_of.ensures.front

pub loop-reading-preserved : goal.loop-reading-preserved
loop-reading-preserved g c = (
  c.in-Ok.ensures.room,
  goes_on g.D.Drive c.args.drive.now c.loop-reading.drive c.args.part c.args.positions c.args.before c.loop-reading.reading c.loop-reading.invariant.1
      c.in-Ok.answer c.read.new.buf.items c.in-Ok.ensures.item c.read.new.self c.go.new.reading (sym c.ends.ensures ∙ c.if-ends.false) c.loop-reading-test.true
      c.in-Ok-go.ensures.ok c.in-Ok.ensures.head c.in-Ok.ensures.command.cause.later
      (one_look g.D.Drive g.D.Drive.MOST c.loop-reading.drive c.read.new.self (g.met.D.Drive.counts_now c.loop-reading.drive) c.in-Ok.ensures.held c.in-Ok.ensures.command c.in-Ok.ensures.crash),
)

pub returns-in-Err-go-clause-told : goal.returns-in-Err-go-clause-told
returns-in-Err-go-clause-told g c =
    told_at_fault g.D.Drive c.args.drive.now c.loop-reading.drive c.args.part c.args.positions c.args.before c.loop-reading.reading c.loop-reading.invariant.1
    c.in-Ok.answer c.read.new.buf.items c.in-Ok.ensures.item c.in-Err-go.fault c.in-Err-go.ensures.err

pub returns-clause-told : goal.returns-clause-told
returns-clause-told g c =
    told_at_capacity g.D.Drive c.args.drive.now c.loop-reading.drive c.args.part c.args.positions c.args.before c.loop-reading.reading c.loop-reading.invariant.1
    c.content_of-2.result c.loop-reading-test.false c.content_of-2.ensures.constructs c.content_of-2.ensures.lead c.content_of-2.ensures.front

pub returns-in-Err-clause-looks : goal.returns-in-Err-clause-looks
returns-in-Err-clause-looks g c =
    looks_after g.D.Drive c.args.drive.now c.loop-reading.drive c.args.part c.args.positions c.args.before c.loop-reading.reading c.loop-reading.invariant.1 c.read.new.self c.loop-reading-test.true
    (one_look g.D.Drive g.D.Drive.MOST c.loop-reading.drive c.read.new.self (g.met.D.Drive.counts_now c.loop-reading.drive) c.read.ensures.held c.read.ensures.command c.read.ensures.crash)

pub returns-then-ends-clause-looks : goal.returns-then-ends-clause-looks
returns-then-ends-clause-looks g c =
    looks_after g.D.Drive c.args.drive.now c.loop-reading.drive c.args.part c.args.positions c.args.before c.loop-reading.reading c.loop-reading.invariant.1 c.read.new.self c.loop-reading-test.true
    (one_look g.D.Drive g.D.Drive.MOST c.loop-reading.drive c.read.new.self (g.met.D.Drive.counts_now c.loop-reading.drive) c.read.ensures.held c.read.ensures.command c.read.ensures.crash)

pub returns-in-Err-go-clause-looks : goal.returns-in-Err-go-clause-looks
returns-in-Err-go-clause-looks g c =
    looks_after g.D.Drive c.args.drive.now c.loop-reading.drive c.args.part c.args.positions c.args.before c.loop-reading.reading c.loop-reading.invariant.1 c.read.new.self c.loop-reading-test.true
    (one_look g.D.Drive g.D.Drive.MOST c.loop-reading.drive c.read.new.self (g.met.D.Drive.counts_now c.loop-reading.drive) c.read.ensures.held c.read.ensures.command c.read.ensures.crash)
