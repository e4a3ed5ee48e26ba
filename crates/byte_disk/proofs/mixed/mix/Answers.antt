use Rattle.byte_disk.proofs.Mixing.{mixed_step}
use Rattle.byte_disk.proofs.mixed.mix.Goals as goal

pub loop-place-preserved : goal.loop-place-preserved
loop-place-preserved c =
    mixed_step c.loop-place.bytes.items c.push.new.self.items _ c.args.held.now c.args.old.now c.loop-place.state c.stirred-state.result c.loop-place.place c.args.size c.mixed_byte.result
    c.loop-place-test.true c.in_ok-push.ensures.items c.stirred-state.ensures c.mixed_byte.ensures c.loop-place.invariant
