-- A volume which was mounted begins kept and tied.
use Rattle.std.specs.Prelude.{ℕ, ◌≤◌}
use Rattle.std.proofs.Common.{refl, sym, subst, ◌∙◌, arith}
use Rattle.tape_types.specs.declared.cartridges.Cartridge.{Cartridge}
use Rattle.tape_drive.specs.declared.drive.Drive.{Ghosts}
use Rattle.cartridge_meaning.specs.Mounts.{Mounts}
use Rattle.promises.specs.CrashLaws.Laws.{CanServe}
use Rattle.promises.specs.PromiseLaws.Kept.{IsKept}
use Rattle.volume_state.proofs.DueLaws.Labels.{tell_labels}
use Rattle.volume_state.proofs.PlanLaws.Agrees.{plans_agree}
use Rattle.volume_state.specs.CallLaws.StartLaws.{BeginningsAreTied}
use Rattle.volume_state.proofs.CallLaws.First.{is_first}
use Rattle.volume_state.proofs.CallLaws.Keeping.{begins_kept, last_of, plan_of}
use Rattle.volume_state.proofs.CallLaws.Tying.{first_given, planned, tied, view_begun}

module _ {D : Type 0} (drive : Ghosts D)
    (counts_now : (d : D) (t : ℕ) (image : Cartridge) → t ≤ drive.commands d → drive.leaves d image
    → drive.left_since d t image) where
  -- a volume that was mounted begins kept and tied
  pub beginnings_are_tied : BeginningsAreTied drive
  beginnings_are_tied fixed next p sessions range is mounts e =
      let g = first_given drive fixed in
      let f = is_first (drive.limits fixed.first) fixed.mounted (omega (arith, is.blocks.0)) fixed.tree g refl refl refl
      p.stock (λ tape from. e.stands tape g from) e.tree (drive.held fixed.first) mounts e.tree_is in
      let has : (can : CanServe drive fixed) → Mounts can.held fixed.mounted = λ can. f.mounts can.held can.told in
      let plan = plan_of drive counts_now fixed has next in
      record {
        planned = planned drive fixed;
        plan = plan;
        kept = subst (IsKept drive fixed plan) (sym (view_begun drive fixed next p e))
            (begins_kept drive counts_now fixed has next sessions);
        tied = tied drive fixed p range is e f;
        planned_as = λ can.
            let found = can.reads_as.0.reads.found in
            let last = last_of drive counts_now fixed has next can in
            record {
              label_is = tell_labels can.held fixed.mounted found (has can);
              items = λ part. sym (plans_agree.begins can.held found.on_ip last part) ∙ f.items can.held can.told part;
            };
        reads_as = f.reads_as;
      }
