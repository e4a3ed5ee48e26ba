use Rattle.std.proofs.Common.{◌∙◌}
use Rattle.std.proofs.lemmas.List.{append-nil}
use Rattle.tape_types.specs.declared.cartridges.Part.TheVariants.{Ip}
use Rattle.tape_types.specs.declared.cartridges.Place.{Place}
use Rattle.volume_core.proofs.VolumeSteps.RequestLemmas.{asking_on}
use Rattle.volume_core.proofs.volume_steps.fetches.ask_all.Goals as goal

pub loop-place-preserved : goal.loop-place-preserved
loop-place-preserved c =
    let first : Place = record { part = Ip; pos = 0 } in
    asking_on c.args.ticket c.args.wanted.now c.loop-place.place-index first c.add-node.result c.args.trail.now
    c.loop-place.trail c.write.new.self c.args.queue.now c.loop-place.queue c.add-node.new.self c.loop-place-test.true
    c.loop-place.invariant c.write.ensures.events (c.write.ensures.acks ∙ append-nil _) (c.write.ensures.kept ∙ append-nil _) c.write.ensures.spare
    c.add-node.ensures.waiting c.add-node.ensures.arrived c.add-node.ensures.spare
