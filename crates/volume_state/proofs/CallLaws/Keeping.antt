-- A volume of which nothing was asked yet is kept, by the plan that is what stands on the cartridge.
use Rattle.std.specs.Prelude.{ℕ, ◌≤◌, Option}
use Rattle.std.proofs.Common.{refl}
use Rattle.tape_types.specs.declared.cartridges.Cartridge.{Cartridge}
use Rattle.tape_types.specs.declared.moments.Moment.{Moment}
use Rattle.tape_drive.specs.declared.drive.Drive.{Ghosts}
use Rattle.cartridge_meaning.specs.Mounts.{Mounts}
use Rattle.session_script.specs.Sessions.{HasSessions}
use Rattle.index_model.specs.declared.indexes.Index.{Index}
use Rattle.promises.specs.ImageLaws.Starts.{made_of}
use Rattle.promises.specs.ServingPromise.Ends.{begun}
use Rattle.promises.specs.ServingPromise.Meanings.{cartridges}
use Rattle.promises.specs.ServingPromise.Served.{Fixed}
use Rattle.promises.proofs.ServingPromise.StartLaw.{begins_served}
use Rattle.promises.specs.OrderLaws.Kept.{seen}
use Rattle.promises.proofs.OrderLaws.BeginLaw.{volumes_begin}
use Rattle.promises.proofs.ReplyLaws.Waiting.{staying_gives}
use Rattle.promises.specs.CrashLaws.Laws.{CanServe}
use Rattle.promises.proofs.CrashLaws.Begins.{starts_are_safe}
use Rattle.promises.specs.PromiseLaws.Kept.{IsKept, Plan}

module _ {D : Type 0} (drive : Ghosts D)
    (counts_now : (d : D) (t : ℕ) (image : Cartridge) → t ≤ drive.commands d → drive.leaves d image
    → drive.left_since d t image)
    (fixed : Fixed D) (mounts : (can : CanServe drive fixed) → Mounts can.held fixed.mounted)
    (next : Option Moment) where
  -- the last index of the data partition
  abbrev pub last_of : (can : CanServe drive fixed) → Index
  last_of can = (starts_are_safe drive counts_now fixed next can (mounts can)).0

  -- the plan that is what stands on the cartridge at the start
  abbrev pub plan_of : Plan drive fixed
  plan_of can = record {
    labels = can.reads_as.0.reads.found.labels;
    made = made_of can.held can.reads_as.0.reads.found.on_ip (last_of can);
  }

  -- a volume of which nothing was asked yet is kept by that plan
  pub begins_kept : HasSessions fixed.script → IsKept drive fixed plan_of (begun fixed next)
  begins_kept sessions = record {
    fixed_is = refl;
    order = volumes_begin drive fixed next sessions;
    truth = λ can. (staying_gives (seen drive)).begins fixed.first (begun fixed next) refl
        ((begins_served cartridges (seen drive fixed.first) fixed next).truly can);
    safe = λ can. (starts_are_safe drive counts_now fixed next can (mounts can)).2;
  }
