-- A volume of which nothing was asked yet is served in order.
use Rattle.std.proofs.Common.{refl, arith}
use Rattle.tape_drive.specs.declared.drive.Drive.{Ghosts}
use Rattle.promises.specs.ServingPromise.Trials.{by_reference}
use Rattle.promises.proofs.ServingPromise.StartLaw.{begins_served}
use Rattle.promises.specs.OrderLaws.Kept.{seen}
use Rattle.promises.specs.OrderLaws.Laws.{VolumesBeginInOrder}

-- a volume of which nothing was asked yet is served in order
pub volumes_begin : {D : Type 0} (drive : Ghosts D) → VolumesBeginInOrder drive
volumes_begin drive fixed next sessions = record {
  orderly = (begins_served by_reference (seen drive fixed.first) fixed next).orderly;
  sessions = sessions;
  count = refl;
  done = λ k p e. cc;
  apart = λ k. refl;
  rising = refl;
  commands = λ k d less. absurd (omega (arith, less));
  once = λ who. omega arith;
  more = λ who e. absurd (cc);
  course = λ who. refl;
}
