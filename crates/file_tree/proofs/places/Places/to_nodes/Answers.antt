use Rattle.std.proofs.Common.{◌≡◌, ◌<◌, ap, ◌∙◌, length, arith}
use Rattle.std.specs.FinMap as fin
use Rattle.file_tree.specs.Seen.{held}
use Rattle.file_tree.specs.Places.{Stored}
use Rattle.file_tree.specs.Told.{told_of}
use Rattle.std.specs.List.{slice_get}
use Rattle.std.proofs.lemmas.Option.{slice_get-get_or}
use Rattle.file_tree.proofs.ShownLemmas.{one_number}
use Rattle.file_tree.proofs.PlaceLemmas.{stored_now, used_most}
use Rattle.file_tree.proofs.ToldLemmas.{few, count_most, numbers_there, numbers_apart, are_places, told_step}
use Rattle.file_tree.proofs.places.Places.to_nodes.Goals as goal

pub places_of-requires-clause-few : goal.places_of-requires-clause-few
places_of-requires-clause-few c =
    let i = c.self.inside in
    let m = c.args.self.now.nodes in
    let same : i.store.nodes ≡ m = ap (λ (t : Stored). t.nodes) c.self.view_is in
    let s = stored_now i.store.spots _ i.store.nodes m c.spots.ensures.stored same in
    omega (arith, count_most m c.deref.result.now (c.deref.ensures.value ∙ c.in_ok-numbers.ensures), s.counted, s.filled, used_most i.store.spots, s.few, ap fin.len same)

pub places_of-requires-clause-below : goal.places_of-requires-clause-below
places_of-requires-clause-below c place number at =
    let i = c.self.inside in
    let m = c.args.self.now.nodes in
    let same : i.store.nodes ≡ m = ap (λ (t : Stored). t.nodes) c.self.view_is in
    let s = stored_now i.store.spots _ i.store.nodes m c.spots.ensures.stored same in
    let there = numbers_there m c.deref.result.now (c.deref.ensures.value ∙ c.in_ok-numbers.ensures) place number at in
    let less : number < length i.store.spots = few i.store.spots m s.shown there.0 number there.1 in
    omega (arith, less, ap length c.spots.ensures.spots)

pub places_of-requires-clause-apart : goal.places_of-requires-clause-apart
places_of-requires-clause-apart c =
    let i = c.self.inside in
    let m = c.args.self.now.nodes in
    let same : i.store.nodes ≡ m = ap (λ (t : Stored). t.nodes) c.self.view_is in
    let s = stored_now i.store.spots _ i.store.nodes m c.spots.ensures.stored same in
    numbers_apart m c.deref.result.now (c.deref.ensures.value ∙ c.in_ok-numbers.ensures) (one_number (held i.store.spots) m s.shown)

pub told-requires-clause-there : goal.told-requires-clause-there
told-requires-clause-there c =
    numbers_there c.args.self.now.nodes c.deref-number-items.result.now (c.deref-number-items.ensures.value ∙ c.in_ok-numbers.ensures) c.loop-number.number-index _ (slice_get-get_or c.deref-number-items.result.now c.loop-number.number-index 0 c.loop-number-test.true)

pub told-requires-clause-places : goal.told-requires-clause-places
told-requires-clause-places c =
    let i = c.self.inside in
    let m = c.args.self.now.nodes in
    let same : i.store.nodes ≡ m = ap (λ (t : Stored). t.nodes) c.self.view_is in
    let s = stored_now i.store.spots _ i.store.nodes m c.spots.ensures.stored same in
    are_places m c.in_ok-numbers.numbers.items c.in_ok-numbers.ensures (one_number (held i.store.spots) m s.shown) c.deref-in-loop-number.result.now
    (λ place n at. ap (λ l. slice_get l n) c.deref-in-loop-number.ensures.value ∙ c.in_ok-places.ensures place n (ap (λ l. slice_get l place) c.deref.ensures.value ∙ at))

pub loop-number-preserved : goal.loop-number-preserved
loop-number-preserved c =
    c.in_ok-push.ensures.ok ∙ told_step c.args.self.now.nodes c.deref-number-items.result.now (c.deref-number-items.ensures.value ∙ c.in_ok-numbers.ensures) (told_of c.args.letters c.args.volume.now (fin.keys c.args.self.now.nodes))
    c.loop-number.nodes c.loop-number.number-index _ c.in_ok-told.field-0 (slice_get-get_or c.deref-number-items.result.now c.loop-number.number-index 0 c.loop-number-test.true) c.loop-number.invariant c.in_ok-told.ensures
