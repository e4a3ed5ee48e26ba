use Rattle.std.proofs.Common.{rules, ◌<◌, ◌≤◌, length, slice_get, ap, sym, ◌∙◌, arith}
use Rattle.std.specs.Option.{option_map}
use Rattle.tape_layout.specs.Ops.{place_of}
use Rattle.tape_layout.specs.Plans.{Plan}
use Rattle.volume_core.proofs.VolumeSteps.QueueLemmas.{queuing_on, queuing_room}
use Rattle.volume_core.proofs.volume_steps.submits.queue_ops.Goals as goal

pub loop-nth-preserved : goal.loop-nth-preserved
loop-nth-preserved c =
    let more : c.loop-nth.nth < length c.args.stock.now.layout.ops = search rules in (
      omega (arith, c.loop-nth.invariant.0),
      queuing_on c.args.others c.loop-nth.nth c.args.stock.now.layout.ops c.place_behind.result c.args.trail.now c.loop-nth.trail c.note_op.new.trail
          c.loop-nth.invariant.1 c.loop-nth.invariant.0 more (ap (λ (l : Plan). option_map place_of (slice_get l.ops c.loop-nth.nth)) (sym c.layout-layout.ensures) ∙ c.place_behind.ensures) c.note_op.ensures.events c.note_op.ensures.acks
          c.note_op.ensures.kept c.note_op.ensures.spare c.note_op.ensures.waiters,
    )
