use Rattle.std.proofs.Common.{Some, arith}
use Rattle.content_laws.specs.Ends.{EndsWithLast}
use Rattle.cartridge_meaning.specs.Pointers.{indexes_of}
use Rattle.mount_recover.specs.Lasts.{IsLastDp}
use Rattle.mount_recover.specs.Noted.{AreTold}
use Rattle.mount_recover.proofs.ByNotes.{count_one, counts_both}
use Rattle.mount_recover.proofs.NotedLemmas.{dp_goes_on}
use Rattle.mount_recover.proofs.StepLemmas.{at_told, by_found, by_is, by_stops, by_then, known, told_then}
use Rattle.mount_recover.proofs.noted.read_noted.Goals as goal

pub noted_on_dp-requires-clause-known : goal.noted_on_dp-requires-clause-known
noted_on_dp-requires-clause-known g c = told_then (g.D.Drive.held c.args.drive.now) c.requires.known (λ held told. told.dp)

pub noted_on_ip-requires-clause-known : goal.noted_on_ip-requires-clause-known
noted_on_ip-requires-clause-known g c =
    known g.D.Drive c.args.start (by_is g.D.Drive c.args.start c.in-Ok-Some.field-0-is c.in-Ok-Some.ensures).step
    (λ held. AreTold c.args.labels.now c.args.named held × IsLastDp c.args.labels.now.ip (Some c.in-Ok-Some.dp) held × EndsWithLast held.dp (indexes_of held.dp))
    (λ held h last. (at_told (AreTold c.args.labels.now c.args.named) h c.requires.known, last.0, last.1))

pub returns-in-Ok-Some : goal.returns-in-Ok-Some
returns-in-Ok-Some g c =
    by_then g.D.Drive c.args.start (by_is g.D.Drive c.args.start c.in-Ok-Some.field-0-is c.in-Ok-Some.ensures) c.noted_on_ip.ensures
    (λ held h last found is. is) (λ noted found is. is) (λ held h last e free. free) (λ held h last i k first second. counts_both held i k first second)

pub returns-in-Ok-None : goal.returns-in-Ok-None
returns-in-Ok-None g c =
    by_found g.D.Drive c.args.start (omega arith) (by_is g.D.Drive c.args.start c.in-Ok-None.field-0-is c.in-Ok-None.ensures)
    (λ held h none. dp_goes_on held none) (λ any. tt) (λ held h none i few. count_one held i few)

pub returns : goal.returns
returns g c = by_stops g.D.Drive c.args.start (omega arith) c.in-Err.ensures (λ held h free. free) (λ held h i few. count_one held i few)
