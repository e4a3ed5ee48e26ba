use Rattle.std.proofs.Common.{arith}
use Rattle.tape_types.specs.Cartridges.{items_of}
use Rattle.tape_drive.proofs.Looking.{one_look}
use Rattle.mount_recover.proofs.EndingLemmas.{ending_failed, ending_refused, ending_step, last_within, looks_once, stop_rose}
use Rattle.mount_recover.proofs.StepLemmas.{by_step, failed_by, no_step, told_then}
use Rattle.mount_recover.proofs.endings.read_ending.Goals as goal

pub returns-in-Err : goal.returns-in-Err
returns-in-Err g c = by_step g.D.Drive c.args.start (omega arith) (no_step g.D.Drive c.args.start c.requires.since tt tt (λ held h. tt) tt) (λ held h. omega arith)

pub locate-requires-clause-within : goal.locate-requires-clause-within
locate-requires-clause-within g c = told_then (g.D.Drive.held c.args.drive.now) c.requires.known (λ held last. last_within (items_of c.args.part held) c.args.mark last)

pub returns-in-Err-locate : goal.returns-in-Err-locate
returns-in-Err-locate g c =
    failed_by g.D.Drive c.args.start {m = 1} (omega (arith, c.requires.range.1)) c.requires.since
    (looks_once g.D.Drive c.args.drive.now c.locate.new.self
    (one_look g.D.Drive g.D.Drive.MOST c.args.drive.now c.locate.new.self (g.met.D.Drive.counts_now c.args.drive.now)
    c.in-Err-locate.ensures.held c.in-Err-locate.ensures.command c.in-Err-locate.ensures.crash))
    c.in-Err-locate.ensures.command.cause.later c.in-Err-locate.ensures.command.cause.failed c.failed.ensures (λ held h. omega arith)

pub returns-in-Ok-read_index_here : goal.returns-in-Ok-read_index_here
returns-in-Ok-read_index_here g c =
    ending_step g.D.Drive c.args.start c.args.drive.now c.locate.new.self c.read_index_here.new.drive c.args.part c.args.mark c.capacity_of-positions.result
    c.requires.since c.requires.range c.requires.known c.capacity_of-positions.ensures
    (one_look g.D.Drive g.D.Drive.MOST c.args.drive.now c.locate.new.self (g.met.D.Drive.counts_now c.args.drive.now)
    c.in-Ok-locate.ensures.held c.in-Ok-locate.ensures.command c.in-Ok-locate.ensures.crash)
    c.in-Ok-locate.ensures.head c.in-Ok-read_index_here.ensures.took c.args.document.now.items c.read_index_here.new.document.items c.in-Ok-read_index_here.found
    (omega (arith, c.in-Ok-locate.ensures.command.cause.later, c.in-Ok-read_index_here.ensures.cause.later)) c.in-Ok-read_index_here.ensures.told c.in-Ok-read_index_here.ensures.any

pub returns-in-Err-Drive : goal.returns-in-Err-Drive
returns-in-Err-Drive g c =
    ending_failed g.D.Drive c.args.start c.args.drive.now c.locate.new.self c.read_index_here.new.drive c.args.part c.args.mark c.capacity_of-positions.result
    c.requires.since c.requires.range c.requires.known c.capacity_of-positions.ensures
    (one_look g.D.Drive g.D.Drive.MOST c.args.drive.now c.locate.new.self (g.met.D.Drive.counts_now c.args.drive.now)
    c.in-Ok-locate.ensures.held c.in-Ok-locate.ensures.command c.in-Ok-locate.ensures.crash)
    c.in-Ok-locate.ensures.head c.in-Err-Drive.ensures.took _ c.in-Ok-locate.ensures.command.cause.later c.in-Err-Drive.ensures.cause.later
    (stop_rose _ _ c.in-Err-Drive.field-0 c.in-Err-Drive.field-0-is c.in-Err-Drive.ensures.cause.stopped) c.failed-in-Err-Drive.ensures

pub returns : goal.returns
returns g c =
    ending_refused g.D.Drive c.args.start c.args.drive.now c.locate.new.self c.read_index_here.new.drive c.args.part c.args.mark c.capacity_of-positions.result
    c.requires.since c.requires.range c.requires.known c.capacity_of-positions.ensures
    (one_look g.D.Drive g.D.Drive.MOST c.args.drive.now c.locate.new.self (g.met.D.Drive.counts_now c.args.drive.now)
    c.in-Ok-locate.ensures.held c.in-Ok-locate.ensures.command c.in-Ok-locate.ensures.crash)
    c.in-Ok-locate.ensures.head c.in-Err-NoMemory.ensures.took c.in-Ok-locate.ensures.command.cause.later c.in-Err-NoMemory.ensures.cause.later
