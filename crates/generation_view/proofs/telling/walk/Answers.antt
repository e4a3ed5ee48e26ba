use Rattle.std.proofs.Common.{◌≡◌, ◌∙◌, ◌++◌, List, [], ◌∷◌, Some, ap, refl, sym, subst, arith}
use Rattle.tape_types.specs.declared.cartridges.Cartridge.{Cartridge}
use Rattle.index_model.specs.declared.indexes.Index.{Index}
use Rattle.cartridge_meaning.specs.Pointers.{indexes_of}
use Rattle.volume_scan.specs.declared.content.Construct.{Construct}
use Rattle.generation_view.specs.Told.{TellsWalk, told_of}
use Rattle.generation_view.specs.declared.telling.Generation.{Generation}
use Rattle.generation_view.specs.declared.telling.Walked.{Walked}
use Rattle.generation_view.proofs.Walks.{Going, begun, broken, ended, goes, in_place, known_there, stopped, told_on, unheard}
use Rattle.generation_view.proofs.telling.walk.Goals as goal

-- this is told of the links so far
abbrev So : List Generation → Cartridge → List Index → Type 0
So told c done = told ≡ told_of (indexes_of c.dp) done

pub loop-place-init : goal.loop-place-init
loop-place-init g c =
    begun g.D.Drive c.args.start c.args.label.now c.args.end_ip c.args.drive.now c.args.places.items (So _) (λ held. c.new-told.ensures)
    c.requires.since c.requires.inside c.requires.known

pub read_link-requires-clause-place : goal.read_link-requires-clause-place
read_link-requires-clause-place g c =
    in_place g.D.Drive c.args.start c.args.label.now c.args.end_ip _ _ _ _ _ c.in-Some.place _ _ c.loop-place.invariant c.in-Some.ensures.items

pub read_link-requires-clause-known : goal.read_link-requires-clause-known
read_link-requires-clause-known g c =
    known_there g.D.Drive c.args.start c.args.label.now c.args.end_ip _ _ _ _ _ c.in-Some.place _ _ c.loop-place.invariant c.in-Some.ensures.items

pub loop-place-preserved : goal.loop-place-preserved
loop-place-preserved g c =
    subst (λ (left : List Construct). Going g.D.Drive c.args.start c.args.label.now c.args.end_ip c.args.drive.now c.read_link.new.drive c.args.places.items left (Some c.in-Ok-Link.index.generation) (So c.push.new.self))
    c.as_slice.ensures.value
    (goes g.D.Drive c.args.start c.args.label.now c.args.end_ip _ _ _ _ c.as_slice.result.now c.in-Some.place _ _ c.loop-place.invariant
    (c.in-Some.ensures.items ∙ ap (λ (l : List Construct). l ++ c.in-Some.place ∷ []) (sym c.as_slice.ensures.value))
    c.read_link.new.drive _ c.in-Ok-Link.block c.in-Ok-Link.index (So c.push.new.self) c.in-Ok-Link.field-0-is c.in-Ok-Link.ensures
    (λ held done k older there at so.
    told_on c.args.label.now held k older c.in-Ok-Link.index done c.in-Ok-Link.block c.told_of.result _ _ there at c.told_of.ensures c.in-Ok.ensures.ok so))

pub returns-in-Err-push : goal.returns-in-Err-push
returns-in-Err-push g c =
    unheard g.D.Drive c.args.start c.args.label.now c.args.end_ip _ _ _ _ c.as_slice.result.now c.in-Some.place _ _ c.loop-place.invariant
    (c.in-Some.ensures.items ∙ ap (λ (l : List Construct). l ++ c.in-Some.place ∷ []) (sym c.as_slice.ensures.value))
    TellsWalk (λ (w : Walked). Unit {0}) c.read_link.new.drive _ c.in-Ok-Link.ensures

pub returns-in-Ok-Broken : goal.returns-in-Ok-Broken
returns-in-Ok-Broken g c =
    broken g.D.Drive c.args.start c.args.label.now c.args.end_ip _ _ _ _ c.as_slice.result.now c.in-Some.place _ _ c.loop-place.invariant
    (c.in-Some.ensures.items ∙ ap (λ (l : List Construct). l ++ c.in-Some.place ∷ []) (sym c.as_slice.ensures.value))
    TellsWalk (λ (w : Walked). Unit {0}) c.read_link.new.drive _ c.in-Ok-Broken.block c.in-Ok-Broken.why _ c.in-Ok-Broken.field-0-is c.in-Ok-Broken.ensures
    (λ held found done breaks so. (done, breaks)) tt

pub returns-in-Err : goal.returns-in-Err
returns-in-Err g c =
    stopped g.D.Drive c.args.start c.args.label.now c.args.end_ip _ _ _ _ c.as_slice.result.now c.in-Some.place _ _ c.loop-place.invariant
    (c.in-Some.ensures.items ∙ ap (λ (l : List Construct). l ++ c.in-Some.place ∷ []) (sym c.as_slice.ensures.value))
    TellsWalk (λ (w : Walked). Unit {0}) c.read_link.new.drive c.in-Err.fault c.in-Err.ensures

pub returns : goal.returns
returns g c =
    ended g.D.Drive c.args.start c.args.label.now c.args.end_ip TellsWalk (λ (w : Walked). Unit {0}) _ _ _ _ _ _ _ c.loop-place.invariant
    (omega (arith, c.in_default.ensures.cases.0)) (λ held found links chain so. (links, chain, so)) tt
