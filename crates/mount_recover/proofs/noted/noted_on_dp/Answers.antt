use Rattle.std.proofs.Common.{refl, arith}
use Rattle.tape_types.specs.declared.cartridges.Part.TheVariants.{Dp}
use Rattle.mount_recover.specs.Noted.{IsTold}
use Rattle.mount_recover.proofs.NotedLemmas.{last_from, noted_dp, noted_read}
use Rattle.mount_recover.proofs.StepLemmas.{at_told, by_found, by_is, by_refused, by_stops, told_then}
use Rattle.mount_recover.proofs.noted.noted_on_dp.Goals as goal

pub read_ending-requires-clause-range : goal.read_ending-requires-clause-range
read_ending-requires-clause-range g c = (omega (arith, c.requires.begins.0), omega (arith, c.requires.begins.0, c.requires.begins.1))

pub read_ending-requires-clause-known : goal.read_ending-requires-clause-known
read_ending-requires-clause-known g c =
    told_then (g.D.Drive.held c.args.drive.now) c.requires.known (λ held told. last_from c.args.labels.now.ip Dp c.args.note held told)

pub returns-in-Ok : goal.returns-in-Ok
returns-in-Ok g c =
    by_found g.D.Drive c.args.start (omega arith) (by_is g.D.Drive c.args.start c.in-Ok-Some.field-0-is c.in-Ok-Some.ensures)
    (λ held h ends. noted_dp held c.args.labels.now.ip c.args.note _ c.as_slice.result.now c.in-Ok-Some.e.place c.in-Ok.last c.as_slice.ensures.value
    c.in-Ok.ensures.some c.in-Ok.ensures.all (at_told (IsTold c.args.labels.now.ip Dp c.args.note) h c.requires.known) ends)
    (λ any. noted_read c.args.labels.now.ip Dp c.args.labels.now.ip.dpart c.args.start.limits.cap_dp c.args.note c.as_slice.result.now _ _ _ c.in-Ok-Some.e c.in-Ok.last
    c.as_slice.ensures.value refl c.requires.begins.0 c.in-Ok.ensures.some any)
    (λ held h ends n few. few)

pub returns-in-Err-noted_text : goal.returns-in-Err-noted_text
returns-in-Err-noted_text g c =
    by_refused g.D.Drive c.args.start (omega arith) (by_is g.D.Drive c.args.start c.in-Ok-Some.field-0-is c.in-Ok-Some.ensures) (λ held. tt) (λ held h ends n few. few)

pub returns-in-Ok-None : goal.returns-in-Ok-None
returns-in-Ok-None g c =
    by_found g.D.Drive c.args.start (omega arith) (by_is g.D.Drive c.args.start c.in-Ok-None.field-0-is c.in-Ok-None.ensures)
    (λ held h none. none) (λ any. tt) (λ held h ends n few. few)

pub returns-in-Err : goal.returns-in-Err
returns-in-Err g c =
    by_stops g.D.Drive c.args.start (omega arith) c.in-Err.ensures (λ held h free. free) (λ held h n few. few)
