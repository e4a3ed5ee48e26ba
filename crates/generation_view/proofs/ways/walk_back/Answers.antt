use Rattle.std.proofs.Common.{◌∙◌, ◌++◌, List, [], ◌∷◌, Some, ap, sym, subst, arith, rules}
use Rattle.tape_types.specs.declared.cartridges.Cartridge.{Cartridge}
use Rattle.cartridge_meaning.specs.Meaning.{Found}
use Rattle.volume_scan.specs.declared.content.Construct.{Construct}
use Rattle.generation_view.specs.Chain.{AreNewer}
use Rattle.generation_view.specs.Views.{IsSoundWay, IsWayAs}
use Rattle.generation_view.specs.declared.links.Step.{Step}
use Rattle.generation_view.specs.Steps.{IsSoundStep}
use Rattle.generation_view.specs.declared.ways.Way.{Way}
use Rattle.generation_view.proofs.Walks.{Going, begun, broken, ended, goes, in_place, known_there, mark_within, newer_on, reached, stopped}
use Rattle.generation_view.proofs.ways.walk_back.Goals as goal

pub loop-place-init : goal.loop-place-init
loop-place-init g c =
    begun g.D.Drive c.args.start c.args.label.now c.args.end_ip c.args.drive.now c.args.places.items (λ (held : Cartridge). AreNewer c.args.generation) (λ held. tt)
    c.requires.since c.requires.inside c.requires.known

pub read_link-requires-clause-place : goal.read_link-requires-clause-place
read_link-requires-clause-place g c =
    in_place g.D.Drive c.args.start c.args.label.now c.args.end_ip _ _ _ _ _ c.in-Some.place _ _ c.loop-place.invariant c.in-Some.ensures.items

pub read_link-requires-clause-known : goal.read_link-requires-clause-known
read_link-requires-clause-known g c =
    known_there g.D.Drive c.args.start c.args.label.now c.args.end_ip _ _ _ _ _ c.in-Some.place _ _ c.loop-place.invariant c.in-Some.ensures.items

pub loop-place-preserved : goal.loop-place-preserved
loop-place-preserved g c =
    subst (λ (left : List Construct). Going g.D.Drive c.args.start c.args.label.now c.args.end_ip c.args.drive.now c.read_link.new.drive c.args.places.items left (Some c.in-Ok-Link.index.generation) (λ (held : Cartridge). AreNewer c.args.generation))
    c.as_slice.ensures.value
    (goes g.D.Drive c.args.start c.args.label.now c.args.end_ip _ _ _ _ c.as_slice.result.now c.in-Some.place _ _ c.loop-place.invariant
    (c.in-Some.ensures.items ∙ ap (λ (l : List Construct). l ++ c.in-Some.place ∷ []) (sym c.as_slice.ensures.value))
    c.read_link.new.drive _ c.in-Ok-Link.block c.in-Ok-Link.index (λ (held : Cartridge). AreNewer c.args.generation) c.in-Ok-Link.field-0-is c.in-Ok-Link.ensures
    (λ held done k older there at so. newer_on c.args.generation done c.in-Ok-Link.index so (search rules)))

pub returns-then-index-generation : goal.returns-then-index-generation
returns-then-index-generation g c =
    reached g.D.Drive c.args.start c.args.label.now c.args.end_ip _ _ _ _ c.as_slice.result.now c.in-Some.place _ _ c.loop-place.invariant
    (c.in-Some.ensures.items ∙ ap (λ (l : List Construct). l ++ c.in-Some.place ∷ []) (sym c.as_slice.ensures.value))
    (λ (held : Cartridge) (found : Found held). IsWayAs held found c.args.generation) (IsSoundWay c.args.label.now c.args.end_ip c.args.start.limits.cap_dp)
    c.read_link.new.drive _ c.in-Ok-Link.block c.in-Ok-Link.index _ c.in-Ok-Link.field-0-is c.in-Ok-Link.ensures
    (λ held found done ends so. (done, ends, so, (λ newer. search rules)))
    (record {
      sound = (subst (IsSoundStep c.args.label.now c.args.end_ip c.in-Some.place.mark) c.in-Ok-Link.field-0-is c.in-Ok-Link.ensures.any).0;
      mark = c.in-Some.place.mark;
      within = mark_within g.D.Drive c.args.start c.args.label.now c.args.end_ip _ _ _ _ _ c.in-Some.place _ _ c.loop-place.invariant c.in-Some.ensures.items;
      fits = (subst (IsSoundStep c.args.label.now c.args.end_ip c.in-Some.place.mark) c.in-Ok-Link.field-0-is c.in-Ok-Link.ensures.any).1;
    })

pub returns-in-Ok-Broken : goal.returns-in-Ok-Broken
returns-in-Ok-Broken g c =
    broken g.D.Drive c.args.start c.args.label.now c.args.end_ip _ _ _ _ c.as_slice.result.now c.in-Some.place _ _ c.loop-place.invariant
    (c.in-Some.ensures.items ∙ ap (λ (l : List Construct). l ++ c.in-Some.place ∷ []) (sym c.as_slice.ensures.value))
    (λ (held : Cartridge) (found : Found held). IsWayAs held found c.args.generation) (IsSoundWay c.args.label.now c.args.end_ip c.args.start.limits.cap_dp)
    c.read_link.new.drive _ c.in-Ok-Broken.block c.in-Ok-Broken.why _ c.in-Ok-Broken.field-0-is c.in-Ok-Broken.ensures
    (λ held found done breaks so. (done, breaks, so)) tt

pub returns-in-Err : goal.returns-in-Err
returns-in-Err g c =
    stopped g.D.Drive c.args.start c.args.label.now c.args.end_ip _ _ _ _ c.as_slice.result.now c.in-Some.place _ _ c.loop-place.invariant
    (c.in-Some.ensures.items ∙ ap (λ (l : List Construct). l ++ c.in-Some.place ∷ []) (sym c.as_slice.ensures.value))
    (λ (held : Cartridge) (found : Found held). IsWayAs held found c.args.generation) (IsSoundWay c.args.label.now c.args.end_ip c.args.start.limits.cap_dp)
    c.read_link.new.drive c.in-Err.fault c.in-Err.ensures

pub returns : goal.returns
returns g c =
    ended g.D.Drive c.args.start c.args.label.now c.args.end_ip
    (λ (held : Cartridge) (found : Found held). IsWayAs held found c.args.generation) (IsSoundWay c.args.label.now c.args.end_ip c.args.start.limits.cap_dp)
    _ _ _ _ _ _ _ c.loop-place.invariant
    (omega (arith, c.in_default.ensures.cases.0)) (λ held found links chain so. (links, chain, so)) tt
