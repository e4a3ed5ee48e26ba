-- The laws of what is kept.
use Rattle.std.proofs.Common.{◌≡◌, ℕ, ◌+◌, ◌++◌, List, [], ◌∷◌, length, Some, refl, sym, ap, subst}
use Rattle.tape_types.specs.declared.cartridges.Cartridge.{Cartridge}
use Rattle.index_model.specs.declared.indexes.Index.{Index}
use Rattle.tape_drive.specs.declared.drive.Drive.{Ghosts}
use Rattle.promises.specs.ImageLaws.Kept.{Moment, Serves}
use Rattle.promises.specs.ImageLaws.Made.{after}
use Rattle.promises.specs.ImageLaws.Laws.{AdmissionsKeep, ClosesLeave, HistoriesGoOn, ImagesAreFine, KeptGives, StartsAreKept, State, StepsKeep, SyncsAreHeld, next_wait}
use Rattle.promises.specs.ImageLaws.Moments.{moment_of}
use Rattle.promises.specs.ImageLaws.Starts.{begun_with, made_of}
use Rattle.promises.proofs.ImageLaws.Admits.{served_unchanged}
use Rattle.promises.proofs.ImageLaws.Closes.{admitted_close, close_leaves}
use Rattle.promises.proofs.ImageLaws.Data.{admitted_data}
use Rattle.promises.proofs.ImageLaws.Events.{kept_beside, op_may_leave, kept_done, kept_failed, kept_read}
use Rattle.promises.proofs.ImageLaws.Fines.{fine, fine_same, weaker}
use Rattle.promises.proofs.ImageLaws.Gives.{acked_fine, history_stands, next_reached, now_fine}
use Rattle.promises.proofs.ImageLaws.Growth.{fine_on, kept_on, planned_changed, planned_on, still_covered}
use Rattle.promises.proofs.ImageLaws.Indexes.{admitted_index, index_served, index_settled}
use Rattle.promises.proofs.ImageLaws.Noted.{kept_noted, note_may_leave, noted_sure}
use Rattle.promises.proofs.ImageLaws.Starts.{begins_to_serve, has_last}

-- each image that a crash may leave is fine
pub images_are_fine : ImagesAreFine
images_are_fine = record {
  fine = λ v t plan b grounded c image. fine v t plan b grounded c image;
  weaker = weaker;
  same = fine_same;
  longer = λ v old new more k c is. fine_on v old new more k c is;
}

module _ {D : Type 0} (drive : Ghosts D) where
  -- a mount begins with all that is kept
  pub starts_are_kept : StartsAreKept drive
  starts_are_kept = record {
    serving = λ v d c since tree generation can. (
      (has_last v (moment_of drive d c) since tree generation can).0,
      (has_last v (moment_of drive d c) since tree generation can).1,
      λ space is. begins_to_serve v (moment_of drive d c) since tree generation can space is,
    );
  }

  -- each step of the head keeps what is kept
  pub steps_keep : StepsKeep drive
  steps_keep = record {
    done = λ x job jobs old new before now kept is step sure.
        kept_done x.volume x.trees x.made x.since (moment_of drive old before) (moment_of drive new now) x.done job jobs x.waits x.acks kept step is sure;
    failed = λ x job jobs old new before now kept is step.
        kept_failed x.volume x.trees x.made x.since (moment_of drive old before) (moment_of drive new now) x.done job jobs x.waits x.acks kept step is;
    read = λ x old new c kept step.
        kept_read x.volume x.trees x.made x.since (moment_of drive old c) (moment_of drive new c) x.done x.jobs x.waits x.acks kept refl step;
    flushed = λ x old new c kept step.
        kept_beside x.volume x.trees x.made x.since (moment_of drive old c) (moment_of drive new c) x.done x.jobs x.waits x.acks kept refl step;
    noted = λ x old new before now part note values kept sure has vcr tells step after.
        kept_noted x.volume x.trees x.made x.since (moment_of drive old before) (moment_of drive new now) x.done x.jobs x.waits x.acks kept sure part note values has vcr tells step after;
    sure = λ old new before now part note pending step noted settled.
        noted_sure (moment_of drive old before) (moment_of drive new now) pending part note step noted settled;
  }

  -- each admission keeps what is kept
  pub admissions_keep : AdmissionsKeep drive
  admissions_keep = record {
    stored = λ x space d c rules part bytes serving may.
        admitted_data x.volume x.trees x.made x.since (moment_of drive d c) x.done x.jobs x.waits x.acks space rules part bytes serving may;
    indexed = λ x space d c rules text e serving due size.
        admitted_index x.volume x.trees x.made x.since (moment_of drive d c) x.done x.jobs x.waits x.acks space rules text e serving due size;
    settled = λ x space d c rules text e serving due size.
        index_settled x.volume x.trees x.made x.since (moment_of drive d c) x.done x.jobs x.waits x.acks space rules text e serving due size;
    closed = λ x space d c rules text index serving due none size.
        admitted_close x.volume x.trees x.made x.since (moment_of drive d c) x.done x.jobs x.waits x.acks space rules text index serving due none size;
  }

  -- a sync that is answered is held
  pub syncs_are_held : SyncsAreHeld drive
  syncs_are_held = record {
    changed = λ x space d c rules text e serving due size.
        index_served x.volume x.trees x.made x.since (moment_of drive d c) x.done x.jobs x.waits x.acks space rules text e serving due size;
    unchanged = λ x space d c serving still.
        served_unchanged x.volume x.trees x.made x.since (moment_of drive d c) x.done x.jobs x.waits x.acks space serving still;
  }

  -- a history that goes on keeps what is kept
  pub histories_go_on : HistoriesGoOn drive
  histories_go_on = record {
    kept = λ x trees d c more kept. kept_on x.volume x.trees trees more x.made x.since (moment_of drive d c) x.done x.jobs x.waits x.acks kept;
    still = λ x space trees d c more same serving. record {
      kept = kept_on x.volume x.trees trees more x.made x.since (moment_of drive d c) x.done x.jobs x.waits x.acks serving.kept;
      planned = planned_on x.volume x.trees trees more (after x.made x.jobs) space serving.planned
          (still_covered x.volume x.trees trees more (after x.made x.jobs) space serving.planned same);
    };
    changed = λ x space trees d c more serving. record {
      kept = kept_on x.volume x.trees trees more x.made x.since (moment_of drive d c) x.done x.jobs x.waits x.acks serving.kept;
      planned = planned_changed x.volume x.trees trees more (after x.made x.jobs) space serving.planned;
    };
  }

  -- where all is kept, the next op is in reach, and each image of a crash is fine
  pub kept_gives : KeptGives drive
  kept_gives = record {
    next = λ x job jobs d held kept. next_reached x.volume x.trees x.made x.since (moment_of drive d held) x.done job jobs x.waits x.acks kept;
    now = λ x d held c kept leaves. now_fine x.volume x.trees x.made x.since (moment_of drive d held) x.done x.jobs x.waits x.acks kept c leaves;
    always = λ x d held c kept left. kept.always c left;
    op_may = λ x job jobs d held before c kept leaves within.
        op_may_leave x.volume x.trees x.made x.since (moment_of drive d held) x.done job jobs x.waits x.acks kept before c leaves within;
    note_may = λ x d held before c part note values kept sure has vcr tells leaves within.
        note_may_leave x.volume x.trees x.made x.since (moment_of drive d held) x.done x.jobs x.waits x.acks kept sure part note values has vcr tells before c leaves within;
    since = λ x front a behind d held c kept parts less left.
        acked_fine x.volume x.trees x.made x.since (moment_of drive d held) x.done x.jobs x.waits x.acks kept front a behind parts less c left;
    synced = λ x d held kept same. history_stands x.volume x.trees x.made x.since (moment_of drive d held) x.done x.jobs x.waits x.acks kept same;
  }

  -- what a close that is done leaves on the cartridge
  pub closes_leave : ClosesLeave drive
  closes_leave = record {
    closed = λ x before space rules text index d held kept done.
        close_leaves x.volume x.trees before x.made space rules x.since (moment_of drive d held) x.done x.waits x.acks text index kept done;
  }
