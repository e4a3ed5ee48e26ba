-- What the head did in a step.
use Rattle.std.proofs.Common.{List, Option, ap}
use Rattle.tape_types.specs.declared.moments.Moment.{Moment}
use Rattle.tape_drive.specs.declared.drive.Drive.{Ghosts}
use Rattle.session_script.specs.declared.logs.Event.{Event}
use Rattle.head_core.specs.declared.work.StepDone.TheVariants as outcome
use Rattle.promises.specs.ServingPromise.Served.{Fixed}
use Rattle.promises.specs.CrashLaws.Changes.{AreDriven}
use Rattle.held_volume.specs.Stocks.{Stocked}
use Rattle.volume_state.specs.StateLaws.Parts.{Parts, view_of}
use Rattle.volume_state.specs.StateLaws.Stepping.{Steps, does, fails, misses, reads}

-- in a step the head did what its event tells
pub steps_driven : {D : Type 0} (drive : Ghosts D) (fixed : Fixed D) (next : Option Moment) (old new : Parts D)
    (added : List Event) → Steps drive old new added
    → AreDriven drive (view_of fixed next old) (view_of fixed next new) added
steps_driven drive fixed next old new all (does op end tickets did) = (op, end, did.done.first, did.step, did.well)
steps_driven drive fixed next old new all (fails op later counts did) =
    (op, later, counts, did.first, ap (λ (k : Stocked). k.layout.ops) did.told.stock, did.step)
steps_driven drive fixed next old new all (reads ticket place got block did) =
    (outcome.Read got, ap (λ (k : Stocked). k.layout.ops) did.taken.only.stock, did.step)
steps_driven drive fixed next old new all (misses ticket place counts did) =
    (outcome.Failed counts, ap (λ (k : Stocked). k.layout.ops) did.missed.only.stock, did.step)
