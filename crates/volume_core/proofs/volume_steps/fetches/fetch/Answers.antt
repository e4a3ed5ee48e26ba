use Rattle.std.proofs.Common.{List, subst}
use Rattle.tape_types.specs.declared.cartridges.Place.{Place}
use Rattle.volume_core.specs.VolumeSteps.Wanted.{AreTakenFrom}
use Rattle.volume_core.proofs.VolumeSteps.AwaitLemmas.{fetched}
use Rattle.volume_core.proofs.volume_steps.fetches.fetch.Goals as goal

pub returns : goal.returns
returns c path readable =
    let first = c.in_ok-reading.reading in
    let read = c.take_held.new.reading in
    fetched c.args.stock.now c.args.cache.now c.args.ticket path c.args.offset c.args.count c.in_ok-pieces.pieces first read
    c.in_ok-places.places c.new-wanted.result c.take_held.new.wanted c.new-found.result c.take_held.new.found (c.in_ok-pieces.ensures.reads path readable)
    c.in_ok-reading.ensures.ticket c.in_ok-reading.ensures.pieces c.in_ok-reading.ensures.begins c.in_ok-places.ensures c.new-wanted.ensures
    c.new-found.ensures
    (subst (λ (ps : List Place). AreTakenFrom c.args.stock.now.layout.ops c.args.cache.now ps first read c.new-wanted.result c.take_held.new.wanted
    c.new-found.result c.take_held.new.found)
    c.as_slice-places.ensures c.in_ok-take_held.ensures)
