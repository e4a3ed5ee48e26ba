-- A volume as it runs: all that is kept of it from one call to the next.
use Rattle.std.specs.Prelude.{ℕ, ◌≡◌, ◌≢◌, false, [], Option, Some, slice_get}
use Rattle.tape_types.specs.declared.cartridges.Cartridge.{Cartridge}
use Rattle.tape_types.specs.declared.cartridges.Part.TheVariants.{Ip}
use Rattle.tape_types.specs.declared.moments.Moment.{Moment}
use Rattle.tape_drive.specs.declared.drive.Drive.{Ghosts}
use Rattle.plain_tree.specs.declared.calls.Answer.{Answer}
use Rattle.plain_tree.specs.declared.calls.Answer.TheVariants as the_answers
use Rattle.session_script.specs.declared.logs.Reply.TheVariants as the_replies
use Rattle.promises.specs.ServingPromise.Marks.{phase, waits}
use Rattle.cartridge_meaning.specs.Meaning.{HasOneIndex}
use Rattle.cartridge_meaning.specs.Mounts.{Mounts}
use Rattle.cartridge_meaning.specs.Pointers.{indexes_of}
use Rattle.promises.specs.ServingPromise.Served.{Fixed, View}
use Rattle.promises.specs.ReplyLaws.Draining.{DrainsForWrites}
use Rattle.promises.specs.CrashLaws.Laws.{CanServe}
use Rattle.promises.specs.CrashLaws.May.{IsAllowed}
use Rattle.promises.specs.CrashLaws.Safe.{space_now}
use Rattle.promises.specs.PromiseLaws.Kept.{CanRead, IsKept, Plan}
use Rattle.volume_state.specs.ClosingLaws.Indexed.{IsIndexed}
use Rattle.volume_state.specs.ClosingLaws.Owned.{KeepsOwn}
use Rattle.volume_state.specs.ClosingLaws.Ready.{HasNoneAhead, IsTapeReady}
use Rattle.waiting_reads.specs.Waiting.{answer_for}
use Rattle.volume_state.specs.PlanLaws.Planned.{Items}
use Rattle.volume_state.specs.StateLaws.Parts.{Parts, view_of}
use Rattle.volume_state.specs.StateLaws.Tied.{IsPlannedAs, IsTied}

-- Each answer that is kept is a reply that stands at its place; and for a session that waits for a place whose reply is
-- the answer of a read, it is kept.
pub record HasAnswers {D : Type 0} (p : Parts D) : Type 0 where
  pub each : (k : ℕ) (a : Answer) → answer_for k p.answered ≡ Some a
      → slice_get p.listed.replies k ≡ Some (Some (the_replies.Answer a))
  pub kept : (who k : ℕ) (a : Answer) → phase who p.listed.marks ≡ waits k
      → slice_get p.listed.replies k ≡ Some (Some (the_replies.Answer a)) → a ≢ the_answers.Synced
      → answer_for k p.answered ≡ Some a

-- What a close will ask for: what was mounted is that of the cartridge, no index of the index partition is ahead where
-- none is due on the data partition, what both partitions end with, and which indexes the run has put on the data
-- partition.
pub record IsReadyToClose {D : Type 0} (drive : Ghosts D) (fixed : Fixed D) (plan : Plan drive fixed) (planned : Items)
    (v : View D) : Type 0 where
  pub mounts : (c : Cartridge) → drive.held fixed.first ≡ Some c → Mounts c fixed.mounted
  pub none_ahead : (can : CanServe drive fixed) → HasNoneAhead (plan can) (drive.limits fixed.first) v
  -- as long as nothing changed and no index was admitted, a crash leaves no more than at the start
  pub rests : CanRead drive fixed → (space_now (drive.limits fixed.first) v).changed ≡ false
      → (space_now (drive.limits fixed.first) v).admitted ≡ false
      → (image : Cartridge) → drive.leaves v.drive image → drive.leaves fixed.first image
  -- where the index partition had one index at most, nothing of it is left before the end
  pub alone : CanRead drive fixed → (c : Cartridge) → drive.held fixed.first ≡ Some c → HasOneIndex c
      → indexes_of (planned Ip) ≡ []
  pub tape : CanRead drive fixed → IsTapeReady drive planned (drive.limits fixed.first) v
  pub indexed : CanRead drive fixed → IsIndexed planned (drive.limits fixed.first) v
  pub own : CanRead drive fixed → (c : Cartridge) → drive.held fixed.first ≡ Some c
      → KeepsOwn planned (drive.limits fixed.first) (indexes_of c.dp) v

-- All that is promised of the volume is kept, with a plan; its parts are tied, on a tape that is that plan; a session
-- drains for a write alone; the answers of reads are kept until they are handed out; it can be closed; and the owner of
-- its drive allows what its script may leave.
pub record IsRunning {D : Type 0} (drive : Ghosts D) (fixed : Fixed D) (next : Option Moment) (p : Parts D)
    : Type 0 where
  pub planned : Items
  pub plan : Plan drive fixed
  pub kept : IsKept drive fixed plan (view_of fixed next p)
  pub tied : IsTied drive fixed planned p
  pub planned_as : IsPlannedAs drive fixed plan planned
  pub writes : DrainsForWrites (view_of fixed next p)
  pub answers : HasAnswers p
  pub closes : IsReadyToClose drive fixed plan planned (view_of fixed next p)
  pub allowed : IsAllowed drive fixed
