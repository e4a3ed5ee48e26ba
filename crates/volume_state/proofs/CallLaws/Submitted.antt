-- A submission adds what is promised of it, and the volume runs on.
use Rattle.std.specs.Prelude.{ℕ, ◌≡◌, ◌==◌, ◌++◌, ◌<◌, ◌^◌, ◌-◌, Bool, true, false, cond, List, [], ◌∷◌, Option, Some, None, fold, length, map, slice_get}
use Rattle.std.proofs.Common.{⊎_elim, refl, sym, ap, subst, ◌∙◌, arith}
use Rattle.std.proofs.lemmas.Bool.{eq-eqb}
use Rattle.std.proofs.lemmas.List.{append-nil, append_cancel_left}
use Rattle.tape_types.proofs.LongerLists.{slice_get-seam}
use Rattle.tape_types.specs.declared.cartridges.Cartridge.{Cartridge}
use Rattle.tape_types.specs.declared.moments.Moment.{Moment}
use Rattle.tape_drive.specs.declared.drive.Drive.{Ghosts}
use Rattle.tape_layout.specs.declared.ops.Op.{Op}
use Rattle.plain_tree.specs.declared.calls.Call.{Call}
use Rattle.plain_tree.specs.declared.calls.Call.TheVariants as calls
use Rattle.session_script.specs.declared.logs.Reply.{Reply}
use Rattle.promises.specs.ServingPromise.Marks.{after, draining, idle, mark, phase, waits}
use Rattle.promises.specs.ServingPromise.Served.{Drive, Fixed, View}
use Rattle.promises.specs.ServingPromise.Submits.{CanSubmit, Submits}
use Rattle.promises.specs.declared.serving_promise.answers.Submitted.{Submitted}
use Rattle.promises.specs.declared.serving_promise.answers.Submitted.TheVariants as submitted
use Rattle.promises.specs.declared.serving_promise.marks.MarkKind.{MarkKind}
use Rattle.promises.specs.declared.serving_promise.marks.MarkKind.TheVariants.{Places as places, Hands as hands, Begins as begins}
use Rattle.promises.specs.OrderLaws.Kept.{seen}
use Rattle.promises.specs.OrderLaws.Laws.{IsInOrder}
use Rattle.promises.proofs.OrderLaws.Lists.{at_more, at_push}
use Rattle.promises.proofs.ReplyLaws.Draining.{drains_stay_for_writes}
use Rattle.promises.specs.CrashLaws.Safe.{Follows}
use Rattle.promises.specs.PromiseLaws.Kept.{IsKeptOn, Plan}
use Rattle.promises.proofs.PromiseLaws.Joined.{submissions_keep_all}
use Rattle.volume_state.specs.PlanLaws.Planned.{Items, with_ops}
use Rattle.volume_state.proofs.PlanLaws.Agrees.{plans_agree}
use Rattle.volume_state.specs.StateLaws.Parts.{Parts, view_of}
use Rattle.volume_state.specs.StateLaws.Tied.{IsPlannedAs}
use Rattle.volume_state.specs.CallLaws.SubmitLaws.{Made, changes, puts_off, syncs, tells, voids, waits as waits_for}
use Rattle.volume_state.proofs.CallLaws.SubmitDues.{due_with}
use Rattle.volume_state.proofs.CallLaws.Shown.{submissions_show}
use Rattle.volume_state.specs.CallLaws.Laws.{SubmissionsRun}
use Rattle.volume_state.specs.CallLaws.Running.{HasAnswers}
use Rattle.volume_state.proofs.CallLaws.AnswersKept.{KeepsTheReplies, answers_stay}
use Rattle.volume_state.proofs.CallLaws.Fitting.{adds_within, goes_by, placed_within}
use Rattle.volume_state.proofs.CallLaws.ToClose.{submitted_ready}
use Rattle.volume_state.proofs.CallLaws.Within.{waits_within}

-- ---- ops

-- the ops that were made are those that were added
made_ops : {D : Type 0} (drive : Ghosts D) (who nth : ℕ) (call : Call) (at : Moment) (old new : Parts D) (answer : Submitted) (asked : List Op)
    → Made drive who nth call at old new answer asked → new.stock.layout.ops ≡ old.stock.layout.ops ++ asked
made_ops drive who nth call at old new answer asked (voids reply v) = ap (λ l. l.ops) v.stock.layout ∙ sym (append-nil old.stock.layout.ops)
made_ops drive who nth call at old new answer asked (tells told v) = ap (λ s. s.layout.ops) v.stock ∙ sym (append-nil old.stock.layout.ops)
made_ops drive who nth call at old new answer asked (changes v) = v.ops
made_ops drive who nth call at old new answer asked (syncs is v) = v.ops
made_ops drive who nth call at old new answer asked (waits_for path offset count is v) = ap (λ s. s.layout.ops) v.stock ∙ sym (append-nil old.stock.layout.ops)
made_ops drive who nth call at old new answer asked (puts_off v) = ap (λ s. s.layout.ops) v.stock ∙ sym (append-nil old.stock.layout.ops)

-- what is planned with them is what the theory of crashes knows of then
planned_on : {D : Type 0} (drive : Ghosts D) (fixed : Fixed D) (plan : Plan drive fixed) (planned : Items) (asked : List Op) (old new : View D)
    → IsPlannedAs drive fixed plan planned → new.ops ≡ old.ops ++ asked → (on : IsKeptOn drive fixed plan old new)
    → IsPlannedAs drive fixed on.next (with_ops asked planned)
planned_on drive fixed plan planned asked old new is ops on can =
    let known = is can in
    let grows = on.grows can in
    let same : grows.0 ≡ asked = append_cancel_left old.ops grows.0 asked (sym grows.1 ∙ ops) in
    let follows : Follows (plan can) (on.next can) asked = subst (Follows (plan can) (on.next can)) same grows.2 in
    record {
      label_is = known.label_is ∙ sym (ap (λ l. l.ip) follows.labels);
      items = λ part. plans_agree.follows planned (plan can) (on.next can) asked known.items follows part;
    }

-- ---- answers

waits_never : {P : Type 0} (k : ℕ) (b : Bool) → b ≡ true → (here : ℕ) → cond b idle (waits here) ≡ waits k → P
waits_never k true is here e = absurd (cc)
waits_never k false is here e = absurd (cc)

-- one placement more, whose reply is there where it was handed out at once
module _ {D : Type 0} (old new : Parts D) (who : ℕ) (kinds : List MarkKind) (reply : Option Reply)
    (answered : new.answered ≡ old.answered)
    (marks : new.listed.marks ≡ old.listed.marks ++ map (mark who) kinds)
    (replies : new.listed.replies ≡ old.listed.replies ++ reply ∷ [])
    (within : (w k : ℕ) → phase w old.listed.marks ≡ waits k → k < length old.listed.replies)
    (never : (k : ℕ) (r : Reply) → fold after (phase who old.listed.marks) kinds ≡ waits k
    → slice_get (old.listed.replies ++ reply ∷ []) k ≡ Some (Some r) → ⊥) where
  placed_keeps : KeepsTheReplies old new who kinds
  placed_keeps = record {
    answered = answered;
    marks = marks;
    stay = λ k r is. ap (λ rs. slice_get rs k) replies ∙ at_more old.listed.replies (reply ∷ []) k (Some r) is;
    were = λ w k r waiting is.
        ⊎_elim (λ there. there) (λ last. absurd (let less = within w k waiting in omega (arith, less, last.0)))
        (at_push old.listed.replies reply (Some r) k (sym (ap (λ rs. slice_get rs k) replies) ∙ is));
    never = λ k r waiting is. never k r waiting (sym (ap (λ rs. slice_get rs k) replies) ∙ is);
  }

module _ {D : Type 0} (first now : Drive) (fixed : Fixed D) (before after_it : Option Moment) (who nth : ℕ) (old new : Parts D)
    (can : CanSubmit (view_of fixed before old) who nth) (answered : new.answered ≡ old.answered)
    (within : (w k : ℕ) → phase w old.listed.marks ≡ waits k → k < length old.listed.replies)
    (count : length old.listed.replies ≡ length old.listed.history) where
  keeps_replies : (answer : Submitted) → Submits first now (view_of fixed before old) (view_of fixed after_it new) who nth answer
      → HasAnswers old → HasAnswers new
  keeps_replies (submitted.Ready reply) s are =
      let here : ℕ = length old.listed.history in
      let kinds : List MarkKind = places here ∷ hands here reply ∷ [] in
      answers_stay old new who kinds
      (placed_keeps old new who kinds (Some reply) answered s.marks s.placing.replies within
      (λ k r waiting there. waits_never k (here == here) (eq-eqb here here refl) here (ap (λ ph. fold after ph kinds) (sym can.free) ∙ waiting))) are
  keeps_replies (submitted.Wait ticket) s are =
      let kinds : List MarkKind = places ticket ∷ [] in
      answers_stay old new who kinds
      (placed_keeps old new who kinds None answered s.marks s.placing.1.replies within
      (λ k r waiting there.
      let same : waits ticket ≡ waits k = ap (λ ph. fold after ph kinds) (sym can.free) ∙ waiting in
      none_there ticket k r same s.placing.0 there)) are
    where
      none_there : (ticket k : ℕ) (r : Reply) → waits ticket ≡ waits k → ticket ≡ length old.listed.history
          → slice_get (old.listed.replies ++ None ∷ []) k ≡ Some (Some r) → ⊥
      none_there ticket k r same is there =
          let n : ticket ≡ k = cc in
          let k_is : k ≡ length old.listed.replies = sym n ∙ is ∙ sym count in
          let e : Some None ≡ Some (Some r) = sym (slice_get-seam old.listed.replies None) ∙ ap (slice_get (old.listed.replies ++ None ∷ [])) (sym k_is) ∙ there in
          absurd (cc)
  keeps_replies submitted.Drain s are =
      let kinds : List MarkKind = begins ∷ [] in
      answers_stay old new who kinds
      (record {
        answered = answered;
        marks = s.marks;
        stay = λ k r is. ap (λ rs. slice_get rs k) s.placing.replies ∙ is;
        were = λ w k r waiting is. sym (ap (λ rs. slice_get rs k) s.placing.replies) ∙ is;
        never = λ k r waiting is. absurd (let no : draining ≡ waits k = ap (λ ph. fold after ph kinds) (sym can.free) ∙ waiting in cc);
      }) are

-- ---- a submission

module _ {D : Type 0} (drive : Ghosts D)
    (only_now : (d : D) (image : Cartridge) → drive.commands d < 2 ^ 64 - 1 → drive.left_since d (drive.commands d) image → drive.leaves d image) where
  -- a submission adds what is promised of it, and the volume runs on
  pub submissions_run : SubmissionsRun drive
  submissions_run fixed before after_it who nth call at answer asked old new runs c made =
      let v : View D = view_of fixed before old in
      let w : View D = view_of fixed after_it new in
      let shown = submissions_show drive fixed runs.plan runs.planned before after_it who nth call at answer asked old new (record {
        kept = runs.kept;
        tied = runs.tied;
        planned_as = runs.planned_as;
        good = c.good;
        can = c.can;
        is_call = c.is_call;
        put_off = c.put_off;
        moment = c.moment;
        one_moment = c.one_moment;
        unasked = c.unasked;
      }) made in
      let on = submissions_keep_all drive only_now fixed runs.plan v w who nth answer runs.kept c.can shown.submits shown.rightly in
      let ops = made_ops drive who nth call at old new answer asked made in
      let order : IsInOrder drive v = runs.kept.order in
      let first : Drive = seen drive fixed.first in (
        shown.submits,
        record {
          planned = with_ops asked runs.planned;
          plan = on.next;
          kept = on.kept;
          tied = shown.tied;
          planned_as = planned_on drive fixed runs.plan runs.planned asked v w runs.planned_as ops on;
          writes = (drains_stay_for_writes (seen drive)).submits fixed.first new.drive v w who nth answer c.can shown.submits runs.writes;
          answers = keeps_replies (seen drive fixed.first) (seen drive new.drive) fixed before after_it who nth old new c.can c.answered
              (λ w k waiting. let less = waits_within drive v order w k waiting in omega (arith, less, order.count)) order.count answer shown.submits runs.answers;
          closes = submitted_ready drive fixed before after_it runs.plan runs.planned asked old new runs.closes on
              shown.submits.drive shown.submits.on ops (goes_by v w who nth answer shown.submits.placing) shown.rightly.ops
              (λ can. adds_within first v w who nth answer shown.submits.placing (shown.rightly.truth can))
              runs.tied.ends (omega (arith, runs.tied.mount.blocks.0))
              (λ can p label_is items placed history done is changed.
              due_with drive fixed runs.planned before placed.at old runs.tied c.good
              (placed_within first v w who nth answer shown.submits.placing (shown.rightly.truth can)
              placed history done calls.Sync is) changed p items label_is);
          allowed = runs.allowed;
        },
      )
