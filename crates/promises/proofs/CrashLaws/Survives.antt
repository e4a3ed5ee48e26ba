-- A safe volume keeps the promise on crashes.
use Rattle.tape_drive.specs.declared.drive.Drive.{Ghosts}
use Rattle.promises.specs.ImageLaws.Kept.{IsHeld}
use Rattle.promises.specs.ImageLaws.Moments.{moment_of}
use Rattle.promises.proofs.ServingPromise.FineLaw.{fine_cartridges_stand}
use Rattle.promises.specs.CrashLaws.Laws.{SafeVolumesSurvive}
use Rattle.promises.specs.CrashLaws.Safe.{trees_of, volume_of}
use Rattle.promises.proofs.CrashLaws.Waits.{all_has}

module _ {D : Type 0} (drive : Ghosts D) where
  -- a safe volume keeps the promise on crashes
  pub safe_volumes_survive : SafeVolumesSurvive drive
  safe_volumes_survive planned s v safe =
      let volume = volume_of planned.labels v in
      let trees = trees_of v in
      record {
        always = λ image left. (fine_cartridges_stand volume trees 0 image (safe.serving.kept.always image left)).0;
        sound = λ image left. (fine_cartridges_stand volume trees 0 image (safe.serving.kept.always image left)).1;
        acknowledged = λ ack has short image left.
            let held = all_has (IsHeld volume trees safe.made.base (moment_of drive v.drive safe.held)) v.acks ack safe.serving.kept.acked has in
            (fine_cartridges_stand volume trees ack.place image (held.held short image left)).0;
      }
