-- The laws of order, truth and safety, joined.
use Rattle.std.specs.Prelude.{ℕ, ◌-◌, ◌^◌, ◌<◌, ◌≤◌, ◌≡◌, ◌++◌, List, Option}
use Rattle.std.proofs.Common.{refl, sym, subst, ◌∙◌}
use Rattle.tape_types.specs.declared.cartridges.Cartridge.{Cartridge}
use Rattle.tape_types.specs.declared.moments.Moment.{Moment}
use Rattle.tape_drive.specs.declared.drive.Drive.{Ghosts}
use Rattle.cartridge_meaning.specs.Mounts.{Mounts}
use Rattle.tape_layout.specs.declared.ops.Op.{Op}
use Rattle.promises.specs.ServingPromise.Ends.{begun}
use Rattle.promises.specs.ServingPromise.Meanings.{cartridges}
use Rattle.promises.specs.ServingPromise.Served.{Fixed, View}
use Rattle.promises.specs.ServingPromise.Submits.{CanSubmit, Submits}
use Rattle.promises.specs.declared.serving_promise.answers.Submitted.{Submitted}
use Rattle.promises.specs.ImageLaws.Starts.{made_of}
use Rattle.promises.proofs.ServingPromise.StartLaw.{begins_served}
use Rattle.promises.specs.OrderLaws.Kept.{seen}
use Rattle.promises.proofs.OrderLaws.BeginLaw.{volumes_begin}
use Rattle.promises.proofs.OrderLaws.SubmitLaw.{submissions_keep}
use Rattle.promises.proofs.OrderLaws.TurnLaw.{drain_turns_keep, turns_keep}
use Rattle.promises.specs.ReplyLaws.Within.{StaysTrue}
use Rattle.promises.proofs.ReplyLaws.Waiting.{drain_turns_keep_true, staying_gives, submissions_keep_true, turns_keep_true}
use Rattle.promises.specs.CrashLaws.Laws.{CanServe, IsSafeNow, IsSafeWith}
use Rattle.promises.specs.CrashLaws.Safe.{Planned, space_now}
use Rattle.promises.proofs.CrashLaws.Asked.{submits_are_safe}
use Rattle.promises.proofs.CrashLaws.Begins.{starts_are_safe}
use Rattle.promises.proofs.CrashLaws.Survives.{safe_volumes_survive}
use Rattle.promises.proofs.CrashLaws.Turned.{turns_are_safe}
use Rattle.promises.specs.PromiseLaws.Kept.{CanRead, IsKept, IsKeptOn, Plan, SubmitsRightly}
use Rattle.promises.specs.PromiseLaws.Laws.{DrainTurnsKeep, KeptIsPromised, SubmissionsKeep, TurnsKeep, VolumesBegin}

-- what is said of the part that no call changes, said of a volume that has it
module _ {D : Type 0} (drive : Ghosts D) (v w : View D) (fixed : Fixed D) (same : v.fixed ≡ fixed) where
  true_there : StaysTrue (seen drive fixed.first) w → StaysTrue (seen drive v.fixed.first) w
  true_there h = subst (λ (f : Fixed D). StaysTrue (seen drive f.first) w) (sym same) h

  true_here : StaysTrue (seen drive v.fixed.first) w → StaysTrue (seen drive fixed.first) w
  true_here h = subst (λ (f : Fixed D). StaysTrue (seen drive f.first) w) same h

  safe_there : (p : Planned) → IsSafeNow drive p (drive.limits fixed.first) w → IsSafeNow drive p (drive.limits v.fixed.first) w
  safe_there p h = subst (λ (f : Fixed D). IsSafeNow drive p (drive.limits f.first) w) (sym same) h

  safe_here : (p : Planned) → IsSafeNow drive p (drive.limits v.fixed.first) w → IsSafeNow drive p (drive.limits fixed.first) w
  safe_here p h = subst (λ (f : Fixed D). IsSafeNow drive p (drive.limits f.first) w) same h

module _ {D : Type 0} (drive : Ghosts D) where
  -- what is kept is all that is promised
  pub kept_is_promised : KeptIsPromised drive
  kept_is_promised fixed plan v kept on = record {
    orderly = kept.order.orderly;
    cached = on;
    truly = λ can. (true_there drive v v fixed kept.fixed_is (kept.truth (subst (CanRead drive) kept.fixed_is can))).truth;
    crash = λ can.
        let now = subst (CanServe drive) kept.fixed_is can in
        safe_volumes_survive drive (plan now) (space_now (drive.limits fixed.first) v) v (kept.safe now);
  }

module _ {D : Type 0} (drive : Ghosts D)
    (counts_now : (d : D) (t : ℕ) (image : Cartridge) → t ≤ drive.commands d → drive.leaves d image → drive.left_since d t image) where
  begins : (fixed : Fixed D) (next : Option Moment) → ((can : CanServe drive fixed) → Mounts can.held fixed.mounted)
      → (can : CanServe drive fixed)
      → (p : Planned) × IsSafeNow drive p (drive.limits fixed.first) (begun fixed next)
  begins fixed next mounts can =
      let safe = starts_are_safe drive counts_now fixed next can (mounts can) in
      (record { labels = can.reads_as.0.reads.found.labels; made = made_of can.held can.reads_as.0.reads.found.on_ip safe.0 }, safe.2)

  -- all is kept of a volume of which nothing was asked yet
  pub volumes_begin_kept : VolumesBegin drive
  volumes_begin_kept fixed next sessions mounts = (
    λ can. (begins fixed next mounts can).0,
    record {
      fixed_is = refl;
      order = volumes_begin drive fixed next sessions;
      truth = λ can. (staying_gives (seen drive)).begins fixed.first (begun fixed next) refl
          ((begins_served cartridges (seen drive fixed.first) fixed next).truly can);
      safe = λ can. (begins fixed next mounts can).1;
    },
  )

module _ {D : Type 0} (drive : Ghosts D)
    (only_now : (d : D) (image : Cartridge) → drive.commands d < 2 ^ 64 - 1 → drive.left_since d (drive.commands d) image → drive.leaves d image) where
  -- a submission, where the part that no call changes is the old volume's
  submitted : (old new : View D) (plan : Plan drive old.fixed) (who nth : ℕ) (answer : Submitted) → IsKept drive old.fixed plan old
      → CanSubmit old who nth → (s : Submits (seen drive old.fixed.first) (seen drive new.drive) old new who nth answer)
      → SubmitsRightly drive old.fixed plan old new who nth s.added answer
      → (can : CanServe drive old.fixed)
      → (asked : List Op) × (new.ops ≡ old.ops ++ asked) × IsSafeWith drive (plan can) (drive.limits old.fixed.first) asked new
  submitted old new plan who nth answer kept may s rightly can =
      submits_are_safe drive only_now (plan can) old new who nth answer (kept.safe can) s (rightly.ops can)
      rightly.order.follows.standing (rightly.size can) (rightly.due can)

  submissions_of_old : (old new : View D) (plan : Plan drive old.fixed) (who nth : ℕ) (answer : Submitted)
      → IsKept drive old.fixed plan old → CanSubmit old who nth
      → (s : Submits (seen drive old.fixed.first) (seen drive new.drive) old new who nth answer)
      → SubmitsRightly drive old.fixed plan old new who nth s.added answer → IsKeptOn drive old.fixed plan old new
  submissions_of_old old new plan who nth answer kept may s rightly = record {
    next = λ can. (submitted old new plan who nth answer kept may s rightly can).2.0;
    grows = λ can.
        let safe = submitted old new plan who nth answer kept may s rightly can in
        (safe.0, safe.1, safe.2.1);
    kept = record {
      fixed_is = s.fixed;
      order = submissions_keep drive old new who nth answer kept.order may s rightly.order;
      truth = λ can. submissions_keep_true (seen drive) old.fixed.first new.drive old new who nth answer (kept.truth can) s (rightly.truth can);
      safe = λ can. (submitted old new plan who nth answer kept may s rightly can).2.2;
    };
  }

  -- a submission keeps order, truth and safety
  pub submissions_keep_all : SubmissionsKeep drive
  submissions_keep_all fixed plan old new who nth answer kept may s rightly = by fixed plan kept.fixed_is kept rightly
    where
      by : (f : Fixed D) (plan : Plan drive f) → old.fixed ≡ f → IsKept drive f plan old
          → SubmitsRightly drive f plan old new who nth s.added answer → IsKeptOn drive f plan old new
      by f plan same = subst (λ (f : Fixed D). (plan : Plan drive f) → IsKept drive f plan old
          → SubmitsRightly drive f plan old new who nth s.added answer → IsKeptOn drive f plan old new) same
          (λ plan kept rightly. submissions_of_old old new plan who nth answer kept may s rightly) plan

  -- a turn of a session that waits keeps order, truth and safety
  pub turns_keep_all : TurnsKeep drive
  turns_keep_all fixed plan most old new who ticket answer kept waiting t rightly =
      let order = turns_keep drive most old new who ticket answer kept.order waiting t rightly.order in
      record {
        fixed_is = t.fixed ∙ kept.fixed_is;
        order = order;
        truth = λ can. turns_keep_true (seen drive) most fixed.first old.drive new.drive old new who ticket answer (kept.truth can) t
            order.orderly.trail (rightly.truth can);
        safe = λ can. (turns_are_safe drive only_now).waiting (plan can) (drive.limits fixed.first) old new most who ticket answer
            (kept.safe can) t (rightly.driven can) order.orderly.trail kept.order.orderly.standing;
      }

  -- a turn of a session that drains keeps order, truth and safety
  pub drain_turns_keep_all : DrainTurnsKeep drive
  drain_turns_keep_all fixed plan most old new who answer kept drains t rightly =
      let order = drain_turns_keep drive most old new who answer kept.order drains t rightly.order in
      record {
        fixed_is = t.fixed ∙ kept.fixed_is;
        order = order;
        truth = λ can. drain_turns_keep_true (seen drive) most fixed.first old.drive new.drive old new who answer (kept.truth can) t
            order.orderly.trail (rightly.truth can);
        safe = λ can. (turns_are_safe drive only_now).draining (plan can) (drive.limits fixed.first) old new most who answer
            (kept.safe can) t (rightly.driven can) order.orderly.trail kept.order.orderly.standing;
      }
