-- A volume that was mounted runs.
use Rattle.std.specs.Prelude.{ℕ, ◌≤◌, ◌≡◌, List, Option, None, Some, IfSome, slice_get}
use Rattle.std.proofs.Common.{sym, ap, subst, ◌∙◌}
use Rattle.tape_types.specs.declared.cartridges.Cartridge.{Cartridge}
use Rattle.tape_types.specs.declared.cartridges.Part.{Part}
use Rattle.tape_types.specs.declared.moments.Moment.{Moment}
use Rattle.tape_drive.specs.declared.drive.Drive.{Ghosts}
use Rattle.tape_layout.specs.declared.ops.Op.{Op}
use Rattle.tape_layout.specs.declared.standing.Ends.{Ends}
use Rattle.cartridge_meaning.specs.Mounts.{Mounts}
use Rattle.promises.specs.ServingPromise.Served.{Fixed, View}
use Rattle.promises.specs.OrderLaws.Kept.{seen}
use Rattle.waiting_reads.specs.Waiting.{answer_for}
use Rattle.promises.specs.ReplyLaws.Sides.{standing_here}
use Rattle.promises.proofs.ReplyLaws.Draining.{drains_stay_for_writes}
use Rattle.promises.specs.CrashLaws.Laws.{IsSafeNow}
use Rattle.held_volume.specs.Mounted.{mounted_ends}
use Rattle.volume_state.specs.PlanLaws.Planned.{IsOnWay, Items, ends_in, mounted_items}
use Rattle.volume_state.specs.StateLaws.Parts.{Parts, view_of}
use Rattle.volume_state.specs.StateLaws.Tied.{IsTied}
use Rattle.volume_state.specs.CallLaws.StartLaws.{IsFresh}
use Rattle.volume_state.proofs.CallLaws.Started.{beginnings_are_tied}
use Rattle.volume_state.proofs.CallLaws.Tying.{view_begun}
use Rattle.volume_state.specs.CallLaws.Laws.{VolumesRun}
use Rattle.volume_state.specs.CallLaws.Running.{HasAnswers, IsReadyToClose}
use Rattle.volume_state.proofs.CallLaws.ToClose.{begins_ready, begun_items}

-- no answer is kept, and no reply is there
none_yet : {D : Type 0} (drive : Ghosts D) (fixed : Fixed D) (p : Parts D) → IsFresh drive fixed p → HasAnswers p
none_yet drive fixed p e = record {
  each = λ k a is. absurd (let no = sym (ap (answer_for k) e.answered) ∙ is in cc);
  kept = λ who k a waiting there no_sync. absurd (let no = sym (ap (λ rs. slice_get rs k) e.replies) ∙ there in cc);
}

-- what is planned is what was mounted
module _ {D : Type 0} (drive : Ghosts D) (fixed : Fixed D) where
  mounts_at : IfSome (drive.held fixed.first) (λ c. Mounts c fixed.mounted) → (c : Cartridge)
      → drive.held fixed.first ≡ Some c → Mounts c fixed.mounted
  mounts_at mounts c told = subst (λ (o : Option Cartridge). IfSome o (λ c. Mounts c fixed.mounted)) told mounts

  items_at : (next : Option Moment) (p : Parts D) → IsFresh drive fixed p → (planned : Items)
      → IsTied drive fixed planned p
      → ((c : Cartridge) → drive.held fixed.first ≡ Some c → Mounts c fixed.mounted)
      → (c : Cartridge) → drive.held fixed.first ≡ Some c → (part : Part) → planned part ≡ mounted_items c part
  items_at next p fresh planned tied mounts c told =
      let way = tied.way c (ap (λ (d : D). drive.held d) fresh.drive_is ∙ told) in
      let ends : ends_in planned ≡ mounted_ends fixed.mounted = sym tied.ends
      ∙ ap (λ (v : View D). (standing_here (seen drive fixed.first) v).space.ends)
      (view_begun drive fixed None p fresh) in
      begun_items planned c (subst (λ (l : List Op). IsOnWay planned l c) fresh.ops way)
      (ap (λ (e : Ends). e.ip) ends ∙ (mounts c told).ip_end) (ap (λ (e : Ends). e.dp) ends ∙ (mounts c told).dp_end)

module _ {D : Type 0} (drive : Ghosts D)
    (counts_now : (d : D) (t : ℕ) (image : Cartridge) → t ≤ drive.commands d → drive.leaves d image → drive.left_since d t image) where
  -- a volume that was mounted runs
  pub volumes_run : VolumesRun drive
  volumes_run fixed next p sessions range mount mounts fresh allowed =
      let b = beginnings_are_tied drive counts_now fixed next p sessions range mount mounts fresh in
      record {
        starts = record {
          tree = fixed.tree;
          reads_as = b.reads_as;
          begins = view_begun drive fixed next p fresh;
        };
        runs = record {
          planned = b.planned;
          plan = b.plan;
          kept = b.kept;
          tied = b.tied;
          planned_as = b.planned_as;
          writes = (drains_stay_for_writes (seen drive)).begins (view_of fixed next p) fresh.marks;
          answers = none_yet drive fixed p fresh;
          closes = subst (IsReadyToClose drive fixed b.plan b.planned) (sym (view_begun drive fixed next p fresh))
              (begins_ready drive fixed b.plan b.planned next (mounts_at drive fixed mounts)
              (λ can. subst (IsSafeNow drive (b.plan can) (drive.limits fixed.first))
              (view_begun drive fixed next p fresh) (b.kept.safe can))
              (items_at drive fixed next p fresh b.planned b.tied (mounts_at drive fixed mounts)));
          allowed = allowed b.reads_as;
        };
      }
