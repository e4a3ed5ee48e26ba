use Rattle.tape_types.specs.declared.cartridges.Part.TheVariants.{Ip}
use Rattle.volume_core.proofs.VolumeSteps.FillLemmas.{taken_next}
use Rattle.volume_core.proofs.volume_steps.fetches.take_held.Goals as goal

pub loop-place-preserved : goal.loop-place-preserved
loop-place-preserved c =
    taken_next c.args.stock.now.layout.ops c.args.cache.now c.args.places.now c.loop-place.place-index (record { part = Ip; pos = 0 })
    c.args.reading.now c.loop-place.reading c.take_block.new.reading c.args.wanted.now c.loop-place.wanted
    c.take_block.new.wanted c.args.found.now c.loop-place.found c.take_block.new.found c.loop-place-test.true
    c.loop-place.invariant c.in_ok-take_block.ensures
