use Rattle.tape_types.specs.declared.cartridges.Part.TheVariants.{Ip}
use Rattle.generation_view.proofs.Fetches.{fetched_next}
use Rattle.generation_view.proofs.reads.fetch_all.Goals as goal

pub loop-place-preserved : goal.loop-place-preserved
loop-place-preserved g c = (
  c.in-Ok.ensures.buffer,
  fetched_next g.D.Drive c.args.places.now c.loop-place.place-index (record { part = Ip; pos = 0 }) c.args.drive.now c.loop-place.drive c.fetch.new.drive
      c.args.reading.now c.loop-place.reading c.fetch.new.reading c.loop-place-test.true c.loop-place.invariant.1 c.in-Ok.ensures.blocks
      c.in-Ok.ensures.cause.later c.in-Ok.ensures.looks,
)
