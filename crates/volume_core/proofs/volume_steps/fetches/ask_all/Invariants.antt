use Rattle.volume_core.proofs.VolumeSteps.RequestLemmas.{Asking}
use Rattle.volume_core.proofs.volume_steps.fetches.ask_all.Given as goal

abbrev pub invariant-loop-place : goal.invariant-loop-place
invariant-loop-place l = Asking l.ticket l.wanted l.place-index l.fn.trail l.trail l.fn.queue l.queue
