use Rattle.std.proofs.Common.{arith, length, drop, length-drop, length-take-le, ◌-◌}
use Rattle.tape_edge.proofs.Known.{Appends-more}
use Rattle.tape_edge.proofs.streams.WriterSinkSink.write.Goals as goal

pub loop-at-preserved : goal.loop-at-preserved
loop-at-preserved g c = (
  omega (arith, c.in-Ok.ensures.bound, length-take-le (length c.args.bytes.now - c.loop-at.at) (drop c.loop-at.at c.args.bytes.now), length-drop c.loop-at.at c.args.bytes.now),
  c.loop-at.invariant.1,
  Appends-more _ _ _ c.args.bytes.now c.loop-at.at c.in-Ok.count c.loop-at.invariant.2 c.in-Ok.ensures.bytes,
)
