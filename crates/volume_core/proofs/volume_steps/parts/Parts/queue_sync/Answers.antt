use Rattle.std.proofs.Common.{arith, drop, map, ap}
use Rattle.std.proofs.lemmas.List.{length-map}
use Rattle.tape_layout.specs.Ops.{place_of}
use Rattle.volume_core.proofs.VolumeSteps.QueueLemmas.{stand_then}
use Rattle.volume_core.proofs.volume_steps.parts.Parts.queue_sync.Goals as goal

pub returns : goal.returns
returns g c = record { mid = c.queue_ops.new.trail; queues = c.queue_ops.ensures.queues; waits = c.wait_synced.ensures }

pub wait_synced-requires-clause-ops : goal.wait_synced-requires-clause-ops
wait_synced-requires-clause-ops g c =
    let behind = drop c.args.others c.args.self.now.stock.layout.ops in
    let then = stand_then (map place_of behind) c.args.self.now.trail c.queue_ops.new.trail c.queue_ops.ensures.queues in
    omega (arith, then, length-map behind place_of, c.requires.numbers.ops)
