use Rattle.std.proofs.Common.{List, ℕ, Some, refl, sym, subst, arith}
use Rattle.tape_types.specs.declared.cartridges.Part.TheVariants.{Ip}
use Rattle.index_model.specs.Grammar.{IndexText}
use Rattle.cartridge_meaning.specs.Pointers.{indexes_of}
use Rattle.content_laws.specs.Ends.{EndsWithLast}
use Rattle.mount_recover.specs.Lasts.{IsLastDp, pointed}
use Rattle.mount_recover.specs.Noted.{AreTold}
use Rattle.mount_recover.proofs.NotedLemmas.{alike_found, alike_sound, ip_goes_on, last_from, noted_both, sound_both}
use Rattle.mount_recover.proofs.StepLemmas.{at_told, by_found, by_is, told_then}
use Rattle.mount_recover.proofs.noted.noted_on_ip.Goals as goal

pub read_ending-requires-clause-range : goal.read_ending-requires-clause-range
read_ending-requires-clause-range g c = (omega (arith, c.requires.begins.0), omega (arith, c.requires.begins.0, c.requires.begins.1))

pub read_ending-requires-clause-known : goal.read_ending-requires-clause-known
read_ending-requires-clause-known g c =
    told_then (g.D.Drive.held c.args.drive.now) c.requires.known (λ held told. last_from c.args.labels.now.ip Ip c.args.named.ip held told.0.ip)

pub returns-then-e : goal.returns-then-e
returns-then-e g c =
    let step = by_is g.D.Drive c.args.start c.in-Ok-Some.field-0-is c.in-Ok-Some.ensures in
    let any = step.step.any in
    by_found g.D.Drive c.args.start (omega arith) (by_is g.D.Drive c.args.start c.in-Ok-Some.field-0-is c.in-Ok-Some.ensures)
    (λ held h ends.
    let k = at_told (λ held. AreTold c.args.labels.now c.args.named held × IsLastDp c.args.labels.now.ip (Some c.args.dp) held × EndsWithLast held.dp (indexes_of held.dp)) h c.requires.known in
    alike_found c.args.labels.now c.args.named c.args.start.limits c.args.dp _ refl
    c.in-Ok-Some.e _ c.requires.begins.0 refl refl refl c.requires.since.range c.requires.sound c.requires.noted.last _ _ any c.alike.result c.alike.ensures.some c.alike.ensures.none
    held k.0 k.1 k.2 c.read_ending.new.document.items ends
    (subst (λ (t : List ℕ). IndexText t (pointed c.args.dp.index (record { letter = c.args.labels.now.ip.index; block = c.args.named.ip.block }) (record { letter = c.args.labels.now.ip.dpart; block = c.args.dp.place.first }))) (sym (any.same c.if-e.true)) (c.repoint-likely.ensures c.if-likely.true c.requires.noted.text)))
    (λ any.
    alike_sound c.args.labels.now c.args.named c.args.start.limits c.args.dp _ refl
    c.in-Ok-Some.e _ c.requires.begins.0 refl refl refl c.requires.since.range c.requires.sound c.requires.noted.last _ _ any c.alike.result c.alike.ensures.some c.alike.ensures.none)
    (λ held h ends n few. few)

pub returns-in-Ok : goal.returns-in-Ok
returns-in-Ok g c =
    by_found g.D.Drive c.args.start (omega arith) (by_is g.D.Drive c.args.start c.in-Ok-Some.field-0-is c.in-Ok-Some.ensures)
    (λ held h ends.
    let k = at_told (λ held. AreTold c.args.labels.now c.args.named held × IsLastDp c.args.labels.now.ip (Some c.args.dp) held × EndsWithLast held.dp (indexes_of held.dp)) h c.requires.known in
    noted_both held c.args.labels.now c.args.named c.args.dp _ c.read_ending.new.document.items c.as_slice.result.now c.in-Ok-Some.e.place c.in-Ok.lasts
    c.as_slice.ensures.value refl
    c.in-Ok.ensures.some c.in-Ok.ensures.all k.0 k.1 k.2 ends)
    (λ any.
    sound_both c.args.labels.now c.args.named c.args.start.limits c.args.dp _ _ _ c.as_slice.result.now c.in-Ok-Some.e c.in-Ok.lasts
    refl c.requires.begins.0 c.in-Ok.ensures.some c.requires.noted.last any)
    (λ held h ends n few. few)

pub returns-in-Ok-None : goal.returns-in-Ok-None
returns-in-Ok-None g c =
    by_found g.D.Drive c.args.start (omega arith) (by_is g.D.Drive c.args.start c.in-Ok-None.field-0-is c.in-Ok-None.ensures)
    (λ held h none. ip_goes_on held none) (λ any. tt) (λ held h ends n few. few)
