use Rattle.std.proofs.Common.{take}
use Rattle.volume_core.specs.VolumeSteps.Wanted.{AreTakenFrom}
use Rattle.volume_core.proofs.volume_steps.fetches.take_held.Given as goal

abbrev pub invariant-loop-place : goal.invariant-loop-place
invariant-loop-place l =
    AreTakenFrom l.stock.layout.ops l.cache (take l.place-index l.places) l.fn.reading l.reading l.fn.wanted l.wanted
    l.fn.found l.found
