use Rattle.std.proofs.Common.{Option, sym, subst, ◌∙◌}
use Rattle.mount_recover.specs.Lasts.{IsKnownIp, index_in}
use Rattle.mount_recover.specs.declared.lasts.LastIndex.{LastIndex}
use Rattle.mount_recover.proofs.LastLemmas.{known_ip, last_in_place}
use Rattle.mount_recover.proofs.StepLemmas.{both_told}
use Rattle.mount_recover.proofs.lasts.last_on_ip.Goals as goal

pub read_alone-requires-clause-place : goal.read_alone-requires-clause-place
read_alone-requires-clause-place g c =
    last_in_place c.args.basis.now.start.limits.cap_ip c.args.basis.now.scans.now.ip c.in-Some-None.field-0-1-0.now c.in-Some-None.place.now c.requires.places.0
    (sym c.as_slice.ensures ∙ c.in-Some-None.ensures.cases.0)

pub read_beside-requires-clause-place : goal.read_beside-requires-clause-place
read_beside-requires-clause-place g c =
    last_in_place c.args.basis.now.start.limits.cap_ip c.args.basis.now.scans.now.ip c.in-Some-Some.field-0-1-0.now c.in-Some-Some.place.now c.requires.places.0
    (sym c.as_slice.ensures ∙ c.in-Some-Some.ensures.cases.0)

pub read_alone-requires-clause-known : goal.read_alone-requires-clause-known
read_alone-requires-clause-known g c =
    both_told (g.D.Drive.held c.args.drive.now) c.requires.known c.requires.dp
    (λ held scan dp.
    subst (λ (o : Option LastIndex). IsKnownIp c.args.basis.now.labels.now c.in-Some-None.place.now c.args.basis.now.scans.now.dp.constructs (index_in o) held) c.in-Some-None.is-1
    (known_ip held c.args.basis.now.labels.now c.args.basis.now.scans.now c.args.dp c.in-Some-None.field-0-1-0.now c.in-Some-None.place.now scan dp
    (sym c.as_slice.ensures ∙ c.in-Some-None.ensures.cases.0)))

pub read_beside-requires-clause-known : goal.read_beside-requires-clause-known
read_beside-requires-clause-known g c =
    both_told (g.D.Drive.held c.args.drive.now) c.requires.known c.requires.dp
    (λ held scan dp.
    subst (λ (o : Option LastIndex). IsKnownIp c.args.basis.now.labels.now c.in-Some-Some.place.now c.args.basis.now.scans.now.dp.constructs (index_in o) held) c.in-Some-Some.is-1
    (known_ip held c.args.basis.now.labels.now c.args.basis.now.scans.now c.args.dp c.in-Some-Some.field-0-1-0.now c.in-Some-Some.place.now scan dp
    (sym c.as_slice.ensures ∙ c.in-Some-Some.ensures.cases.0)))
