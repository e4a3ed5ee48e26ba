-- Steps of the head keep a volume safe.
use Rattle.std.proofs.Common.{◌≡◌, ◌⊎◌, ⊎_elim, inl, inr, ℕ, ◌+◌, ◌-◌, ◌*◌, ◌^◌, ◌≤◌, ◌<◌, Bool, true, false, cond, not, ◌&&◌, ◌||◌, List, [], ◌∷◌, ◌++◌, length, map, Option, Some, None, refl, sym, ap, subst, ◌∙◌, arith, append_assoc, append-nil}
use Rattle.std.specs.Prelude.{All, filter, ◌==◌}
use Rattle.std.specs.List.{AllByRecursion, fold, list_any}
use Rattle.std.proofs.lemmas.Bool.{eqb-true}
use Rattle.std.proofs.lemmas.List.Elements.{All-head, All-tail}
use Rattle.std.proofs.lemmas.Option.{same_Some}
use Rattle.tape_types.specs.declared.cartridges.Cartridge.{Cartridge}
use Rattle.tape_types.specs.declared.cartridges.Limits.{Limits}
use Rattle.tape_types.specs.declared.cartridges.Part.{Part}
use Rattle.tape_types.specs.declared.cartridges.Part.TheVariants.{Ip, Dp}
use Rattle.tape_types.specs.declared.cartridges.Place.{Place}
use Rattle.tape_types.specs.declared.cartridges.Twin.{Twin}
use Rattle.tape_drive.specs.declared.drive.Drive.{Ghosts}
use Rattle.tape_layout.specs.declared.ops.Op.{Op}
use Rattle.tape_layout.specs.declared.ops.Op.TheVariants as ops
use Rattle.tape_layout.specs.Ops.{HasRoom, is_flush}
use Rattle.plain_tree.specs.declared.calls.Placed.{Placed}
use Rattle.session_script.specs.declared.logs.Ack.{Ack}
use Rattle.session_script.specs.declared.logs.Event.{Event}
use Rattle.session_script.specs.declared.logs.Event.TheVariants.{Wants, Queues, Syncs, Synced, Drains, Rests, Served, Worked}
use Rattle.head_queue.specs.EventLaws.Waiting as waiting
use Rattle.head_queue.specs.EventLaws.Waiting.{State, Waiter, first_of, same_part, start, waiting_op}
use Rattle.head_queue.specs.EventLaws.Trail.{after, after_all, is_answer, is_answered, is_trail_from}
use Rattle.head_queue.proofs.EventLaws.TrailLaw.{first_of as left_of, second_of as right_of}
use Rattle.head_core.specs.Steps.{CanDo, IsOpStep, IsReadStep}
use Rattle.head_core.specs.declared.work.StepDone.{StepDone}
use Rattle.head_core.specs.declared.work.StepDone.TheVariants as outcome
use Rattle.space_laws.specs.Space.{Space}
use Rattle.space_laws.specs.Standing.{is_on}
use Rattle.promises.specs.ImageLaws.Events.{IsDone, IsFailed, IsReached, Within}
use Rattle.promises.specs.ImageLaws.Kept.{IsStep, IsSureAfter, Wait}
use Rattle.promises.specs.ImageLaws.Laws.{IsKept, IsServing, with_jobs}
use Rattle.promises.specs.ImageLaws.Laws.{State as State_of}
use Rattle.promises.specs.ImageLaws.Made.{Job, Made, makes}
use Rattle.promises.specs.ImageLaws.Moments.{moment_of}
use Rattle.promises.specs.ImageLaws.Made.{after as after_jobs}
use Rattle.promises.proofs.ImageLaws.Flushes.{none_stays}
use Rattle.promises.proofs.ImageLaws.Stated.{kept_gives, steps_keep}
use Rattle.promises.specs.ServingPromise.Mount.{facts_of}
use Rattle.promises.specs.ServingPromise.Served.{Fixed, View, headed}
use Rattle.promises.specs.ServingPromise.Steps.{does_dp_flush, on_after}
use Rattle.promises.specs.ServingPromise.Submits.{acks_for}
use Rattle.promises.specs.CrashLaws.Changes.{IsStepped, IsWell}
use Rattle.promises.specs.CrashLaws.Laws.{StepsAreSafe}
use Rattle.promises.specs.CrashLaws.Safe.{AreInOrder, IsDpFlush, IsSafe, Settle, state_of, wait_of, Planned}
use Rattle.promises.proofs.CrashLaws.Admits.{at_acked, at_others, op_of}
use Rattle.promises.proofs.CrashLaws.Bridge.{heads_do_ops, looked}
use Rattle.promises.proofs.CrashLaws.Fields.{At, of_view, state_at, to_view}
use Rattle.promises.proofs.CrashLaws.Submitted.{state_after}
use Rattle.promises.proofs.CrashLaws.Trails.{IsFewer, first_allowed, le_is, not_due, op_done, op_failed, order_filter, order_on, order_weaker, rest_allowed, served_keeps, taken, trail_behind, waits_first}
use Rattle.promises.proofs.CrashLaws.Waits.{all_filter}

-- ---- from where on files may go to the index partition

no_flush_of : (o : Option waiting.Op) (e : Event) → is_answer e ≡ true → does_dp_flush o e ≡ false
no_flush_of o (Wants ticket place) is = absurd cc
no_flush_of o (Queues place) is = absurd cc
no_flush_of o (Syncs ticket) is = absurd cc
no_flush_of None (Synced ticket) is = refl
no_flush_of (Some op) (Synced ticket) is = refl
no_flush_of o (Drains who) is = absurd cc
no_flush_of o (Rests who) is = absurd cc
no_flush_of o (Served ticket place fault) is = absurd cc
no_flush_of o (Worked place fault) is = absurd cc

no_flush : (o : Option waiting.Op) (es : List Event) → All (λ (e : Event). is_answer e ≡ true) es → list_any (does_dp_flush o) es ≡ false
no_flush o [] all = refl
no_flush o (e ∷ es) all =
    ap (λ (b : Bool). b || list_any (does_dp_flush o) es) (no_flush_of o e (All-head (λ (x : Event). is_answer x ≡ true) e es all)) ∙ no_flush o es (All-tail (λ (x : Event). is_answer x ≡ true) e es all)

only_first : (o : Option waiting.Op) (e : Event) (es : List Event) → All (λ (x : Event). is_answer x ≡ true) es
    → (b : Bool) → does_dp_flush o e ≡ b → list_any (does_dp_flush o) (e ∷ es) ≡ b
only_first o e es all true is = ap (λ (b : Bool). b || list_any (does_dp_flush o) es) is
only_first o e es all false is = ap (λ (b : Bool). b || list_any (does_dp_flush o) es) is ∙ no_flush o es all

-- where placement on the index partition is on, it stays on from the same place
pub on_already : {D : Type 0} (old : View D) (added : List Event) (first : ℕ) → old.on ≡ Some first → on_after old added ≡ Some first
on_already old added first is = rw is refl

-- where no flush of the data partition is done, placement stays off
pub on_never : {D : Type 0} (old : View D) (added : List Event) → old.on ≡ None → list_any (does_dp_flush (waiting_op (after_all old.events))) added ≡ false
    → on_after old added ≡ None
on_never old added is none = rw (is, none) refl

-- the first flush of the data partition turns placement on at the end of the history
pub on_turned : {D : Type 0} (old : View D) (added : List Event) → old.on ≡ None → list_any (does_dp_flush (waiting_op (after_all old.events))) added ≡ true
    → on_after old added ≡ Some (length old.history)
on_turned old added is flush = rw (is, flush) refl

on_same : {D : Type 0} (old : View D) (added : List Event) → list_any (does_dp_flush (waiting_op (after_all old.events))) added ≡ false
    → on_after old added ≡ old.on
on_same old added none = by old.on refl
  where
    by : (on : Option ℕ) → old.on ≡ on → on_after old added ≡ old.on
    by (Some first) is = on_already old added first is ∙ sym is
    by None is = on_never old added is none ∙ sym is

failed_no_flush : (o : Option waiting.Op) (place : Place) (counts : Twin) → does_dp_flush o (Worked place (Some counts)) ≡ false
failed_no_flush None place counts = refl
failed_no_flush (Some op) place counts = refl

read_no_flush : (o : Option waiting.Op) (ticket : ℕ) (place : Place) (fault : Option Twin) → does_dp_flush o (Served ticket place fault) ≡ false
read_no_flush None ticket place fault = refl
read_no_flush (Some op) ticket place fault = refl

same_dp : (part : Part) → same_part part Dp ≡ true → part ≡ Dp
same_dp Ip is = absurd cc
same_dp Dp is = refl

flushes_dp : (op : Op) → (is_flush op && same_part (headed op).place.part Dp) ≡ true → IsDpFlush op
flushes_dp (ops.Put place bytes) is = absurd cc
flushes_dp (ops.Mark place) is = absurd cc
flushes_dp (ops.Flush place) is = same_dp place.part is

-- ---- answers

module _ {D : Type 0} (drive : Ghosts D)
    (only_now : (d : D) (image : Cartridge) → drive.commands d < 2 ^ 64 - 1 → drive.left_since d (drive.commands d) image → drive.leaves d image)
    (planned : Planned) (space : Space) where
  module _ (fixed : Fixed D) (d : D) (history : List Placed) (on : Option ℕ) (asked : List Op) where
    one_by : (st : State) (ticket : ℕ) (acks : List Ack) (syncs : List Waiter) → is_answered st ticket syncs ≡ true
        → At drive planned space fixed d history acks st.done syncs on asked
        → At drive planned space fixed d history (acks ++ record { place = ticket; command = drive.commands d } ∷ []) st.done
        (filter (λ (s : Waiter). not (s.ticket == ticket)) syncs) on asked
    one_by st ticket acks [] answered a = absurd cc
    one_by st ticket acks (s ∷ more) answered a =
        let its : s.ticket ≡ ticket = eqb-true s.ticket ticket (left_of _ _ answered) in
        let low = le_is s.due st.done (right_of _ _ answered) in
        let due : s.due ≡ st.done = omega (arith, a.in_order.0, low) in
        let acked = at_acked drive planned fixed d on (only_now d) space history acks st.done [] s more asked due
        (λ order. order_weaker st.done s.due more order.0 order.1) a in
        let rest : At drive planned space fixed d history (acks ++ record { place = s.ticket; command = drive.commands d } ∷ []) st.done
        (filter (λ (x : Waiter). not (x.ticket == ticket)) more) on asked =
        at_others drive planned fixed d on space history (acks ++ record { place = s.ticket; command = drive.commands d } ∷ []) st.done more
        (filter (λ (x : Waiter). not (x.ticket == ticket)) more) asked
        (λ P all. all_filter P (λ (x : Waiter). not (x.ticket == ticket)) more all)
        (λ order. order_filter (λ (x : Waiter). not (x.ticket == ticket)) st.done more order) acked in
        let gone : filter (λ (x : Waiter). not (x.ticket == ticket)) (s ∷ more) ≡ filter (λ (x : Waiter). not (x.ticket == ticket)) more =
        ap (λ b. cond (not b) (s ∷ filter (λ (x : Waiter). not (x.ticket == ticket)) more) (filter (λ (x : Waiter). not (x.ticket == ticket)) more)) (left_of _ _ answered) in
        subst (λ (n : ℕ). At drive planned space fixed d history (acks ++ record { place = n; command = drive.commands d } ∷ []) st.done
        (filter (λ (x : Waiter). not (x.ticket == ticket)) (s ∷ more)) on asked) its
        (subst (λ (l : List Waiter). At drive planned space fixed d history (acks ++ record { place = s.ticket; command = drive.commands d } ∷ []) st.done l on asked)
        (sym gone) rest)

    -- each answer is the ack of a sync that is due
    pub answered : (st : State) (acks : List Ack) (es : List Event) → All (λ (e : Event). is_answer e ≡ true) es → is_trail_from st es ≡ true
        → At drive planned space fixed d history acks st.done st.syncs on asked
        → At drive planned space fixed d history (acks ++ acks_for (drive.commands d) es) (fold after st es).done (fold after st es).syncs on asked
    answered st acks [] all trail a =
        subst (λ (l : List Ack). At drive planned space fixed d history l st.done st.syncs on asked) (sym (append-nil acks)) a
    answered st acks (Synced ticket ∷ es) all trail a =
        let fit : is_answered st ticket st.syncs ≡ true = left_of _ _ (first_allowed st (Synced ticket) es trail) in
        let more = answered (after st (Synced ticket)) (acks ++ record { place = ticket; command = drive.commands d } ∷ []) es (All-tail (λ (x : Event). is_answer x ≡ true) (Synced ticket) es all)
        (rest_allowed st (Synced ticket) es trail) (one_by st ticket acks st.syncs fit a) in
        subst (λ (l : List Ack). At drive planned space fixed d history l (fold after st (Synced ticket ∷ es)).done (fold after st (Synced ticket ∷ es)).syncs on asked)
        (append_assoc acks (record { place = ticket; command = drive.commands d } ∷ []) (acks_for (drive.commands d) es)) more
    answered st acks (Wants ticket place ∷ es) all trail a = absurd (let no : false ≡ true = All-head (λ (x : Event). is_answer x ≡ true) (Wants ticket place) es all in cc)
    answered st acks (Queues place ∷ es) all trail a = absurd (let no : false ≡ true = All-head (λ (x : Event). is_answer x ≡ true) (Queues place) es all in cc)
    answered st acks (Syncs ticket ∷ es) all trail a = absurd (let no : false ≡ true = All-head (λ (x : Event). is_answer x ≡ true) (Syncs ticket) es all in cc)
    answered st acks (Drains who ∷ es) all trail a = absurd (let no : false ≡ true = All-head (λ (x : Event). is_answer x ≡ true) (Drains who) es all in cc)
    answered st acks (Rests who ∷ es) all trail a = absurd (let no : false ≡ true = All-head (λ (x : Event). is_answer x ≡ true) (Rests who) es all in cc)
    answered st acks (Served ticket place fault ∷ es) all trail a = absurd (let no : false ≡ true = All-head (λ (x : Event). is_answer x ≡ true) (Served ticket place fault) es all in cc)
    answered st acks (Worked place fault ∷ es) all trail a = absurd (let no : false ≡ true = All-head (λ (x : Event). is_answer x ≡ true) (Worked place fault) es all in cc)

  -- ---- the drive's part of a step

  module _ (fixed : Fixed D) (history : List Placed) (acks : List Ack) (done : ℕ) (syncs : List Waiter) where
    done_with : (on turned : Option ℕ) (op : Op) (later : List Op) (end : StepDone) (old new : D) → IsOpStep drive op end old new → IsWell end
        → AreInOrder (done + 1) syncs
        → ((place : ℕ) → is_on (facts_of fixed.mounted) turned place ≡ true → IsDpFlush op ⊎ (is_on (facts_of fixed.mounted) on place ≡ true))
        → (made : Made) (jobs : List Job) (held : Cartridge) → drive.held old ≡ Some held → map op_of jobs ≡ op ∷ later → after_jobs made jobs ≡ planned.made
        → IsServing drive (state_at planned.labels fixed history acks done syncs made jobs) space old held
        → ((place : ℕ) → is_on (facts_of fixed.mounted) on place ≡ true → (after_jobs made jobs).base.ahead ≡ None) → Settle made jobs
        → At drive planned space fixed new history acks (done + 1) syncs turned later
    done_with on turned op later end old new step well order turns made [] held told are plan serving may settles = absurd (let no : [] ≡ op ∷ later = are in cc)
    done_with on turned op later end old new step well order turns made (job ∷ jobs) held told are plan serving may settles =
        let its : op ≡ job.op = cc in
        let rest : map op_of jobs ≡ later = cc in
        let it = step.told held told in
        let did = (heads_do_ops drive).done op end old new held it.0 step well told it.1 in
        let kept = (steps_keep drive).done (state_at planned.labels fixed history acks done syncs made []) job jobs old new held it.0 serving.kept
        (subst (λ (o : Op). IsDone o held it.0) its did.0)
        (subst (λ (o : Op). IsStep (Within o held) (moment_of drive old held) (moment_of drive new it.0)) its
        ((heads_do_ops drive).step op end old new held it.0 step told it.1))
        (subst (λ (o : Op). IsSureAfter o (moment_of drive new it.0)) its did.1) in
        record {
          made = makes job made;
          jobs = jobs;
          held = it.0;
          told = it.1;
          ops = rest;
          plan = plan;
          serving = record { kept = kept; planned = serving.planned };
          in_order = order;
          may_write = λ place is. ⊎_elim
              (λ (flush : IsDpFlush op). none_stays jobs (makes job made) (settles.0 (subst IsDpFlush its flush)))
              (λ (was : is_on (facts_of fixed.mounted) on place ≡ true). may place was)
              (turns place is);
          settles = settles.1;
        }

    pub at_done : (on turned : Option ℕ) (op : Op) (later : List Op) (end : StepDone) (old new : D) → IsOpStep drive op end old new → IsWell end
        → AreInOrder (done + 1) syncs
        → ((place : ℕ) → is_on (facts_of fixed.mounted) turned place ≡ true → IsDpFlush op ⊎ (is_on (facts_of fixed.mounted) on place ≡ true))
        → At drive planned space fixed old history acks done syncs on (op ∷ later) → At drive planned space fixed new history acks (done + 1) syncs turned later
    at_done on turned op later end old new step well order turns a =
        done_with on turned op later end old new step well order turns a.made a.jobs a.held a.told a.ops a.plan a.serving a.may_write a.settles

    failed_with : (op : Op) (later : List Op) (counts : Twin) (old new : D) → IsOpStep drive op (outcome.Failed counts) old new
        → (made : Made) (jobs : List Job) (held : Cartridge) → drive.held old ≡ Some held → map op_of jobs ≡ op ∷ later
        → IsServing drive (state_at planned.labels fixed history acks done syncs made jobs) space old held
        → (now : Cartridge) × (drive.held new ≡ Some now) × IsServing drive (state_at planned.labels fixed history acks done syncs made jobs) space new now
    failed_with op later counts old new step made [] held told are serving = absurd (let no : [] ≡ op ∷ later = are in cc)
    failed_with op later counts old new step made (job ∷ jobs) held told are serving =
        let its : op ≡ job.op = cc in
        let it = step.told held told in (
          it.0,
          it.1,
          record {
            kept = (steps_keep drive).failed (state_at planned.labels fixed history acks done syncs made []) job jobs old new held it.0 serving.kept
                (subst (λ (o : Op). IsFailed o held it.0) its ((heads_do_ops drive).failed op counts old new held it.0 step told it.1))
                (subst (λ (o : Op). IsStep (Within o held) (moment_of drive old held) (moment_of drive new it.0)) its
                ((heads_do_ops drive).step op (outcome.Failed counts) old new held it.0 step told it.1));
            planned = serving.planned;
          },
        )

    pub at_failed : (on : Option ℕ) (op : Op) (later : List Op) (counts : Twin) (old new : D) → IsOpStep drive op (outcome.Failed counts) old new
        → At drive planned space fixed old history acks done syncs on (op ∷ later) → At drive planned space fixed new history acks done syncs on (op ∷ later)
    at_failed on op later counts old new step a =
        let it = failed_with op later counts old new step a.made a.jobs a.held a.told a.ops a.serving in
        record {
          made = a.made;
          jobs = a.jobs;
          held = it.0;
          told = it.1;
          ops = a.ops;
          plan = a.plan;
          serving = it.2;
          in_order = a.in_order;
          may_write = a.may_write;
          settles = a.settles;
        }

    pub at_read : (on : Option ℕ) (asked : List Op) (place : Place) (end : StepDone) (old new : D) → IsReadStep drive place end old new
        → At drive planned space fixed old history acks done syncs on asked → At drive planned space fixed new history acks done syncs on asked
    at_read on asked place end old new step a = record {
      made = a.made;
      jobs = a.jobs;
      held = a.held;
      told = step.looks.held ∙ a.told;
      ops = a.ops;
      plan = a.plan;
      serving = record {
        kept = (steps_keep drive).read (state_at planned.labels fixed history acks done syncs a.made a.jobs) old new a.held a.serving.kept
            (looked drive (2 * drive.MOST) old new a.held step.looks);
        planned = a.serving.planned;
      };
      in_order = a.in_order;
      may_write = a.may_write;
      settles = a.settles;
    }

  -- ---- a whole step

  trail_of : (old new : View D) (step : Event) (answers : List Event) → IsStepped drive old new step answers
      → is_trail_from (after_all old.events) (step ∷ answers) ≡ true
  trail_of old new step answers s =
      trail_behind start old.events (step ∷ answers) (subst (λ (es : List Event). is_trail_from start es ≡ true) s.adds.events s.trail)

  -- a step, once the drive's part is shown of the state that its event leaves
  stepped : (old new : View D) (step : Event) (answers : List Event) (asked : List Op) → IsStepped drive old new step answers
      → acks_for (drive.commands new.drive) (step ∷ answers) ≡ acks_for (drive.commands new.drive) answers → new.ops ≡ asked
      → At drive planned space old.fixed new.drive old.history old.acks (after (after_all old.events) step).done (after (after_all old.events) step).syncs new.on asked
      → IsSafe drive planned space new
  stepped old new step answers asked s quiet ops_are a =
      let st = after (after_all old.events) step in
      let behind = state_after old.events new.events (step ∷ answers) s.adds.events in
      let all = answered old.fixed new.drive old.history new.on asked st old.acks answers s.answers_are
      (rest_allowed (after_all old.events) step answers (trail_of old new step answers s)) a in
      to_view drive planned space new old.fixed new.drive old.history (old.acks ++ acks_for (drive.commands new.drive) answers) (fold after st answers).done
      (fold after st answers).syncs new.on asked s.fixed refl s.history (s.adds.acks ∙ ap (λ (l : List Ack). old.acks ++ l) quiet)
      (ap (λ (x : State). x.done) behind) (ap (λ (x : State). x.syncs) behind) refl ops_are all

  -- the op that waits for the head is the first that stands
  waiting_is : (old : View D) (op : Op) (later : List Op) (w : waiting.Op) → map headed old.ops ≡ waiting.ops (after_all old.events) → old.ops ≡ op ∷ later
      → waiting_op (after_all old.events) ≡ Some w → w ≡ headed op
  waiting_is old op later w are is waits =
      same_Some w (headed op) (sym (waits_first (after_all old.events) w waits)
      ∙ ap (λ (l : List waiting.Op). first_of l) (sym are ∙ ap (λ (l : List Op). map headed l) is))

  turns_on : (old : View D) (op : Op) (later : List Op) (place : Place) (answers : List Event) (w : waiting.Op)
      → map headed old.ops ≡ waiting.ops (after_all old.events) → old.ops ≡ op ∷ later → waiting_op (after_all old.events) ≡ Some w
      → All (λ (a : Event). is_answer a ≡ true) answers
      → (at : ℕ) → is_on (facts_of old.fixed.mounted) (on_after old (Worked place None ∷ answers)) at ≡ true
      → IsDpFlush op ⊎ (is_on (facts_of old.fixed.mounted) old.on at ≡ true)
  turns_on old op later place answers w are is waits all at on = by (is_flush op && same_part (headed op).place.part Dp) refl
    where
      seen : does_dp_flush (waiting_op (after_all old.events)) (Worked place None) ≡ (is_flush op && same_part (headed op).place.part Dp)
      seen =
          ap (λ (o : Option waiting.Op). does_dp_flush o (Worked place None)) waits
          ∙ ap (λ (x : waiting.Op). x.flush && same_part x.place.part Dp) (waiting_is old op later w are is waits)

      by : (b : Bool) → (is_flush op && same_part (headed op).place.part Dp) ≡ b → IsDpFlush op ⊎ (is_on (facts_of old.fixed.mounted) old.on at ≡ true)
      by true flush = inl (flushes_dp op flush)
      by false none = inr (subst (λ (o : Option ℕ). is_on (facts_of old.fixed.mounted) o at ≡ true)
          (on_same old (Worked place None ∷ answers)
          (only_first (waiting_op (after_all old.events)) (Worked place None) answers all false (seen ∙ none))) on)

  -- the first op, done, keeps a volume safe
  pub done_safe : (old new : View D) (op : Op) (place : Place) (end : StepDone) (answers : List Event) → IsSafe drive planned space old
      → IsStepped drive old new (Worked place None) answers → old.ops ≡ op ∷ new.ops → IsOpStep drive op end old.drive new.drive → IsWell end
      → IsSafe drive planned space new
  done_safe old new op place end answers safe s is step well =
      let st = after_all old.events in
      let allowed = first_allowed st (Worked place None) answers (trail_of old new (Worked place None) answers s) in
      let first = taken st place (waiting_op st) (left_of _ _ allowed) in
      let after_it = op_done st place first.0 first.1 in
      let before = subst (λ (l : List Op). At drive planned space old.fixed old.drive old.history old.acks st.done st.syncs old.on l) is (of_view drive planned space old safe) in
      let order = order_on st (not_due st (Worked place None) refl allowed) safe.in_order in
      let did = at_done old.fixed old.history old.acks st.done st.syncs old.on new.on op new.ops end old.drive new.drive step well order
      (λ at on. turns_on old op new.ops place answers first.0 s.headed_are is first.1 s.answers_are at
      (subst (λ (o : Option ℕ). is_on (facts_of old.fixed.mounted) o at ≡ true) s.on on)) before in
      stepped old new (Worked place None) answers new.ops s refl refl
      (subst (λ (n : ℕ). At drive planned space old.fixed new.drive old.history old.acks n (after st (Worked place None)).syncs new.on new.ops) (sym after_it.0)
      (subst (λ (l : List Waiter). At drive planned space old.fixed new.drive old.history old.acks (st.done + 1) l new.on new.ops) (sym after_it.1) did))

  fewer_all : (syncs others : List Waiter) → IsFewer syncs others → (P : Wait → Type 0) → AllByRecursion P (map wait_of syncs) → AllByRecursion P (map wait_of others)
  fewer_all syncs others is P all = ⊎_elim
      (λ (e : others ≡ syncs). subst (λ (l : List Waiter). AllByRecursion P (map wait_of l)) (sym e) all)
      (λ (x : (w : Waiter) × (syncs ≡ w ∷ others)).
      let each : AllByRecursion P (map wait_of (x.0 ∷ others)) = subst (λ (l : List Waiter). AllByRecursion P (map wait_of l)) x.1 all in each.1)
      is

  fewer_order : (n : ℕ) (syncs others : List Waiter) → IsFewer syncs others → AreInOrder n syncs → AreInOrder n others
  fewer_order n syncs others is order = ⊎_elim
      (λ (e : others ≡ syncs). subst (λ (l : List Waiter). AreInOrder n l) (sym e) order)
      (λ (x : (w : Waiter) × (syncs ≡ w ∷ others)).
      let each : AreInOrder n (x.0 ∷ others) = subst (λ (l : List Waiter). AreInOrder n l) x.1 order in order_weaker n x.0.due others each.0 each.1)
      is

  -- the first op, failed, keeps a volume safe
  pub failed_safe : (old new : View D) (op : Op) (later : List Op) (place : Place) (counts told : Twin) (answers : List Event) → IsSafe drive planned space old
      → IsStepped drive old new (Worked place (Some told)) answers → old.ops ≡ op ∷ later → new.ops ≡ old.ops
      → IsOpStep drive op (outcome.Failed counts) old.drive new.drive → IsSafe drive planned space new
  failed_safe old new op later place counts told answers safe s is same_ops step =
      let st = after_all old.events in
      let next = after st (Worked place (Some told)) in
      let after_it = op_failed st place told in
      let before = subst (λ (l : List Op). At drive planned space old.fixed old.drive old.history old.acks st.done st.syncs old.on l) is (of_view drive planned space old safe) in
      let did = at_failed old.fixed old.history old.acks st.done st.syncs old.on op later counts old.drive new.drive step before in
      let dropped = at_others drive planned old.fixed new.drive old.on space old.history old.acks st.done st.syncs next.syncs (op ∷ later)
      (fewer_all st.syncs next.syncs after_it.0) (fewer_order st.done st.syncs next.syncs after_it.0) did in
      let on_is : new.on ≡ old.on = s.on ∙ on_same old (Worked place (Some told) ∷ answers)
      (only_first (waiting_op st) (Worked place (Some told)) answers s.answers_are false (failed_no_flush (waiting_op st) place told)) in
      stepped old new (Worked place (Some told)) answers (op ∷ later) s refl (same_ops ∙ is)
      (subst (λ (o : Option ℕ). At drive planned space old.fixed new.drive old.history old.acks next.done next.syncs o (op ∷ later)) (sym on_is)
      (subst (λ (n : ℕ). At drive planned space old.fixed new.drive old.history old.acks n next.syncs old.on (op ∷ later)) (sym after_it.1) dropped))

  -- a read, however it ends, keeps a volume safe
  pub read_safe : (old new : View D) (ticket : ℕ) (place : Place) (fault : Option Twin) (end : StepDone) (answers : List Event) → IsSafe drive planned space old
      → IsStepped drive old new (Served ticket place fault) answers → new.ops ≡ old.ops → IsReadStep drive place end old.drive new.drive → IsSafe drive planned space new
  read_safe old new ticket place fault end answers safe s same_ops step =
      let st = after_all old.events in
      let kept = served_keeps st ticket place fault in
      let did = at_read old.fixed old.history old.acks st.done st.syncs old.on old.ops place end old.drive new.drive step (of_view drive planned space old safe) in
      let on_is : new.on ≡ old.on = s.on ∙ on_same old (Served ticket place fault ∷ answers)
      (only_first (waiting_op st) (Served ticket place fault) answers s.answers_are false (read_no_flush (waiting_op st) ticket place fault)) in
      stepped old new (Served ticket place fault) answers old.ops s refl same_ops
      (subst (λ (o : Option ℕ). At drive planned space old.fixed new.drive old.history old.acks (after st (Served ticket place fault)).done
      (after st (Served ticket place fault)).syncs o old.ops) (sym on_is)
      (subst (λ (n : ℕ). At drive planned space old.fixed new.drive old.history old.acks n (after st (Served ticket place fault)).syncs old.on old.ops) (sym kept.done)
      (subst (λ (l : List Waiter). At drive planned space old.fixed new.drive old.history old.acks st.done l old.on old.ops) (sym kept.syncs) did)))

  -- ---- what the head can do

  can_by : (op : Op) (limits : Limits) (size : ℕ) (held : Cartridge) → IsReached op held → HasRoom limits size op → size ≤ 1048576 → CanDo op limits (Some held)
  can_by (ops.Put place bytes) limits size held reached room most =
      (record { room = room.0; within = reached }, room.1, omega (arith, room.2, most))
  can_by (ops.Mark place) limits size held reached room most = record { room = room; within = reached }
  can_by (ops.Flush place) limits size held reached room most = tt

  reached_by : (x : State_of) (d : D) (op : Op) (later : List Op) (jobs : List Job) (held : Cartridge) → map op_of jobs ≡ op ∷ later
      → IsKept drive (with_jobs jobs x) d held → IsReached op held
  reached_by x d op later [] held are kept = absurd (let no : [] ≡ op ∷ later = are in cc)
  reached_by x d op later (job ∷ jobs) held are kept =
      let its : job.op ≡ op = cc in subst (λ (o : Op). IsReached o held) its ((kept_gives drive).next x job jobs d held kept)

  pub can_do : (v : View D) (op : Op) (later : List Op) (size : ℕ) → IsSafe drive planned space v → v.ops ≡ op ∷ later
      → HasRoom (drive.limits v.drive) size op → size ≤ 1048576 → CanDo op (drive.limits v.drive) (drive.held v.drive)
  can_do v op later size safe is room most = subst (λ (held : Option Cartridge). CanDo op (drive.limits v.drive) held) (sym safe.told)
      (can_by op (drive.limits v.drive) size safe.held
      (reached_by (state_of planned.labels v safe.made []) v.drive op later safe.jobs safe.held (safe.ops ∙ is) safe.serving.kept) room most)

module _ {D : Type 0} (drive : Ghosts D)
    (only_now : (d : D) (image : Cartridge) → drive.commands d < 2 ^ 64 - 1 → drive.left_since d (drive.commands d) image → drive.leaves d image) where
  -- each step of the head keeps a volume safe
  pub steps_are_safe : StepsAreSafe drive
  steps_are_safe = record {
    done = λ planned s old new op place end answers safe stepped is step well.
        done_safe drive only_now planned s old new op place end answers safe stepped is step well;
    failed = λ planned s old new op later place counts told answers safe stepped is same_ops step.
        failed_safe drive only_now planned s old new op later place counts told answers safe stepped is same_ops step;
    read = λ planned s old new ticket place fault end answers safe stepped same_ops step.
        read_safe drive only_now planned s old new ticket place fault end answers safe stepped same_ops step;
    can_do = λ planned s v op later size safe is room most. can_do drive only_now planned s v op later size safe is room most;
  }
