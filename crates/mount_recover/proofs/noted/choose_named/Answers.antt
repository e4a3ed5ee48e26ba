use Rattle.std.proofs.Common.{arith}
use Rattle.mount_recover.specs.Noted.{AreTold}
use Rattle.mount_recover.proofs.ByNotes.{maybe_chosen, maybe_sound}
use Rattle.mount_recover.proofs.StepLemmas.{at_told, by_found, by_is, by_stops}
use Rattle.mount_recover.proofs.noted.choose_named.Goals as goal

pub returns-in-Ok-Some : goal.returns-in-Ok-Some
returns-in-Ok-Some g c =
    by_found g.D.Drive c.args.start (omega arith) (by_is g.D.Drive c.args.start c.in-Ok-Some.field-0-is c.in-Ok-Some.ensures)
    (λ held h lasts. maybe_chosen c.args.labels.now c.in-Ok-Some.lasts c.decide_noted.result held c.args.named c.args.start.limits c.decide_noted.ensures.found
    c.decide_noted.ensures.none (at_told (AreTold c.args.labels.now c.args.named) h c.requires.known) lasts.0 lasts.1
    (by_is g.D.Drive c.args.start c.in-Ok-Some.field-0-is c.in-Ok-Some.ensures).step.any)
    (λ noted. maybe_sound c.args.labels.now c.args.named c.args.start.limits c.in-Ok-Some.lasts c.decide_noted.result noted c.decide_noted.ensures.any)
    (λ held h lasts i few. few)

pub returns-in-Ok-None : goal.returns-in-Ok-None
returns-in-Ok-None g c =
    by_found g.D.Drive c.args.start (omega arith) (by_is g.D.Drive c.args.start c.in-Ok-None.field-0-is c.in-Ok-None.ensures)
    (λ held h none. none) (λ any. tt) (λ held h none i few. few)

pub returns-in-Err : goal.returns-in-Err
returns-in-Err g c = by_stops g.D.Drive c.args.start (omega arith) c.in-Err.ensures (λ held h free. free) (λ held h i few. few)
