-- Turns keep the order.
use Rattle.std.specs.Prelude.{◌≡◌, ◌==◌, not, ℕ, ◌≤◌, Bool, true, false, cond, List, [], ◌∷◌, ◌++◌, All, filter, filter_map, fold, length, map, Option, Some, None, slice_get}
use Rattle.std.specs.List.{cons_option}
use Rattle.std.proofs.Common.{inl, refl, sym, ap, subst, ◌∙◌, arith, append-nil, append_assoc}
use Rattle.std.proofs.lemmas.Bool.{and_parts, eq-eqb}
use Rattle.std.proofs.lemmas.List.Elements.{All-head, filter_map-append}
use Rattle.std.proofs.lemmas.Option.{same_Some}
use Rattle.tape_types.specs.Counts.{IsRise}
use Rattle.tape_types.specs.declared.cartridges.Twin.{Twin}
use Rattle.tape_drive.specs.declared.drive.Drive.{Ghosts}
use Rattle.session_script.specs.Sessions.{greatest_session}
use Rattle.session_script.specs.declared.logs.Event.{Event}
use Rattle.session_script.specs.declared.logs.Event.TheVariants as events
use Rattle.session_script.specs.declared.logs.Reply.{Reply}
use Rattle.session_script.specs.declared.logs.Reply.TheVariants as replies
use Rattle.head_queue.specs.EventLaws.Trail.{after as after_event, after_all, fault_of, is_trail_from}
use Rattle.head_queue.specs.EventLaws.Waiting.{ops}
use Rattle.promises.specs.ServingPromise.Acks.{synced_places, synced_ticket}
use Rattle.promises.specs.ServingPromise.Faults.{AreRises, kept_for}
use Rattle.promises.specs.ServingPromise.Marks.{after, draining, idle, mark, phase, places_of}
use Rattle.promises.specs.ServingPromise.Served.{View, headed, Drive}
use Rattle.promises.specs.ServingPromise.Steps.{AreOfStep, DrainsOnce, Turns, drain_faults, no_step, one_step, rest_of, without_session}
use Rattle.promises.specs.ServingPromise.Submits.{acks_for}
use Rattle.promises.specs.ServingPromise.Cached.{IsCache}
use Rattle.promises.proofs.ServingPromise.CacheLaws.{later, steps_stay}
use Rattle.promises.specs.declared.serving_promise.answers.Drained.{Drained}
use Rattle.promises.specs.declared.serving_promise.answers.Drained.TheVariants as drained
use Rattle.promises.specs.declared.serving_promise.answers.Turn.{Turn}
use Rattle.promises.specs.declared.serving_promise.answers.Turn.TheVariants as turns
use Rattle.promises.specs.declared.serving_promise.marks.MarkKind.TheVariants.{Places as places, Hands as hands, Rests as rests}
use Rattle.promises.specs.OrderLaws.Kept.{IsKeptOrder, seen}
use Rattle.promises.specs.OrderLaws.Laws.{DrainTurnsKeepOrder, IsInOrder, TurnsKeepOrder}
use Rattle.promises.specs.OrderLaws.Phases.{goes_on}
use Rattle.promises.specs.OrderLaws.Sides.{DrainsInOrder, IsBrought, MayFollow, TurnsInOrder}
use Rattle.promises.proofs.OrderLaws.Apart.{still_untouched}
use Rattle.promises.proofs.OrderLaws.FaultLaw.{CanFail, failed_view, failing_keeps}
use Rattle.promises.proofs.OrderLaws.Frames.{no_step_no_fault}
use Rattle.promises.proofs.OrderLaws.Marked.{marked}
use Rattle.promises.proofs.OrderLaws.Owned.{after_more, trail_more}
use Rattle.promises.proofs.OrderLaws.OwnFault.{own_fault}
use Rattle.promises.proofs.OrderLaws.SessionLaw.{CanDrain, CanHand, drained_view, draining_keeps, drains_less, handed_view, handing_keeps, rests_is}
use Rattle.promises.proofs.OrderLaws.StepLaw.{Brought, CanStep, stepped_view, stepping_keeps}
use Rattle.promises.proofs.OrderLaws.SubmitLaw.{stand_by}
use Rattle.promises.proofs.OrderLaws.Turning.{all_turn, answers_step}
use Rattle.promises.proofs.OrderLaws.Views.{one_moment, view_is}

-- the counts of one step
rises_by : (before now : ℕ) (fault : Option Twin) → before ≤ now → All (λ (t : Twin). IsRise before now t.before t.after) (cons_option fault []) → AreRises before now (cons_option fault [])
rises_by before now None later rose = later
rises_by before now (Some t) later rose = let r = All-head (λ (t : Twin). IsRise before now t.before t.after) t [] rose in (r.lowest, r.rose, r.highest)

rises_of : (before now : ℕ) (added : List Event) → AreOfStep added → before ≤ now → All (λ (t : Twin). IsRise before now t.before t.after) (filter_map fault_of added) → AreRises before now (filter_map fault_of added)
rises_of before now all no_step later rose = later
rises_of before now all (one_step e answers is every) later rose =
    let none = no_step_no_fault answers (answers_step answers every) in
    subst (λ l. AreRises before now (cons_option (fault_of e) l)) (sym none)
    (rises_by before now (fault_of e) later (subst (λ l. All (λ (t : Twin). IsRise before now t.before t.after) (cons_option (fault_of e) l)) none rose))

-- a place that still waits is untouched, and what is shown of a reply is all
brought : {D : Type 0} (first before : Drive) (old : View D) (added : List Event) (k : ℕ) (reply : Option Reply) → IsKeptOrder first before old → AreOfStep added → is_trail_from (after_all old.events) added ≡ true
    → IsBrought (after_all old.events) added k reply → Brought (after_all old.events) added k reply
brought first before old added k None kept shape trail waits =
    let none = still_untouched (after_all old.events) (synced_places old.replies) added k kept.apart kept.rising trail (all_turn added shape) waits in
    record { waits = waits; fault = sym none.unowned; synced = sym none.unanswered }
brought first before old added k (Some reply) kept shape trail is = record { waits = is.waits; fault = is.fault; synced = is.synced }

-- ---- turns of a session that waits

turn_step : {D : Type 0} (drive : Ghosts D) (most : ℕ) (old new : View D) (who ticket : ℕ) (answer : Turn) → IsInOrder drive old
    → (t : Turns most (seen drive old.drive) (seen drive new.drive) old new who ticket answer) → TurnsInOrder (seen drive old.drive) (seen drive new.drive) old new t.added
    → CanStep (seen drive old.fixed.first) (seen drive old.drive) (seen drive new.drive) old new.replies t.added
turn_step drive most old new who ticket answer kept t side = record {
  kept = kept;
  shape = t.step.shape;
  trail = side.follows.trail;
  count = t.replies.count;
  each = t.replies.each;
  replied = λ k reply o n. brought (seen drive old.fixed.first) (seen drive old.drive) old t.added k reply kept t.step.shape side.follows.trail (side.replied k reply o n);
  later = t.step.counts.later;
  least = t.step.counts.at_least;
  rises = rises_of (drive.faults old.drive) (drive.faults new.drive) t.added t.step.shape t.step.counts.faults side.moves.rises;
  limits = side.moves.limits;
  untold = side.moves.untold;
}

-- each turn of a session that waits keeps the order
pub turns_keep : {D : Type 0} (drive : Ghosts D) → TurnsKeepOrder drive
turns_keep {D = D} drive most old new who ticket (turns.Ready reply) kept waiting t side =
    let first = seen drive old.fixed.first in
    let before = seen drive old.drive in
    let now = seen drive new.drive in
    let v : View D = stepped_view first before now old new.replies t.added new.drive new.next new.on new.ops new.cached in
    let stepped : IsKeptOrder first now v = stepping_keeps first before now old new.replies t.added (turn_step drive most old new who ticket (turns.Ready reply) kept t side) new.drive new.next new.on new.ops new.cached
    (stand_by old new t.added side.follows t.adds.events) (steps_stay before.held old.events t.added old.cached new.cached kept.orderly.cached t.step.cached) in
    let c : CanHand first now v who ticket reply = record { kept = stepped; waiting = waiting; there = t.answered } in
    let is : new ≡ handed_view first now v who ticket reply = view_is new (handed_view first now v who ticket reply) t.fixed refl refl t.history refl t.adds.acks t.adds.events t.marks t.kept refl refl refl in
    subst (λ (v : View D). IsInOrder drive v) (sym is) (handing_keeps first now v who ticket reply c)
turns_keep {D = D} drive most old new who ticket turns.More kept waiting t side =
    let first = seen drive old.fixed.first in
    let before = seen drive old.drive in
    let now = seen drive new.drive in
    let v : View D = stepped_view first before now old new.replies t.added new.drive new.next new.on new.ops new.cached in
    let stepped : IsKeptOrder first now v = stepping_keeps first before now old new.replies t.added (turn_step drive most old new who ticket turns.More kept t side) new.drive new.next new.on new.ops new.cached
    (stand_by old new t.added side.follows t.adds.events) (steps_stay before.held old.events t.added old.cached new.cached kept.orderly.cached t.step.cached) in
    let is : new ≡ v = view_is new v t.fixed refl refl t.history refl t.adds.acks t.adds.events (t.marks ∙ append-nil old.marks) t.kept refl refl refl in
    subst (λ (v : View D). IsInOrder drive v) (sym is) stepped

-- ---- turns of a session that drains

without_none : (who : ℕ) (kept : List (ℕ × Twin)) → kept_for who kept ≡ [] → without_session who kept ≡ kept
without_none who [] none = refl
without_none who (x ∷ kept) none = by (x.0 == who) none (without_none who kept)
  where
    by : (b : Bool) → cons_option (cond b (Some x.1) None) (kept_for who kept) ≡ [] → (kept_for who kept ≡ [] → without_session who kept ≡ kept) → cond (not b) (x ∷ without_session who kept) (without_session who kept) ≡ x ∷ kept
    by true h more = absurd (cc)
    by false h more = ap (λ l. x ∷ l) (more h)

-- a rest adds no ack
acks_rest : (command who : ℕ) (made : List Event) → acks_for command (made ++ events.Rests who ∷ []) ≡ acks_for command made
acks_rest command who made = ap (map (λ (ticket : ℕ). record { place = ticket; command = command })) (filter_map-append synced_ticket made (events.Rests who ∷ []) ∙ append-nil (filter_map synced_ticket made))

trail_of : {D : Type 0} (old new : View D) (who : ℕ) (answer : Drained) (made : List Event) → MayFollow old new (made ++ rest_of who answer) → is_trail_from (after_all old.events) made ≡ true
trail_of old new who answer made follows =
    (and_parts (is_trail_from (after_all old.events) made) (is_trail_from (fold after_event (after_all old.events) made) (rest_of who answer)) (sym (trail_more (after_all old.events) made (rest_of who answer)) ∙ follows.trail)).0

drain_step : {D : Type 0} (drive : Ghosts D) (most : ℕ) (old new : View D) (who : ℕ) (answer : Drained) (replies : List (Option Reply)) → IsInOrder drive old
    → (t : DrainsOnce most (seen drive old.drive) (seen drive new.drive) old new who answer) → DrainsInOrder (seen drive old.drive) (seen drive new.drive) old new who t.made answer
    → length replies ≡ length old.replies → ((k : ℕ) (reply : Reply) → slice_get old.replies k ≡ Some (Some reply) → slice_get replies k ≡ Some (Some reply))
    → ((k : ℕ) (reply : Option Reply) → slice_get old.replies k ≡ Some None → slice_get replies k ≡ Some reply → Brought (after_all old.events) t.made k reply)
    → CanStep (seen drive old.fixed.first) (seen drive old.drive) (seen drive new.drive) old replies t.made
drain_step drive most old new who answer replies kept t side count each replied = record {
  kept = kept;
  shape = t.step.shape;
  trail = trail_of old new who answer t.made side.follows;
  count = count;
  each = each;
  replied = replied;
  later = t.step.counts.later;
  least = t.step.counts.at_least;
  rises = rises_of (drive.faults old.drive) (drive.faults new.drive) t.made t.step.shape t.step.counts.faults side.moves.rises;
  limits = side.moves.limits;
  untold = side.moves.untold;
}

-- each turn of a session that drains keeps the order
pub drain_turns_keep : {D : Type 0} (drive : Ghosts D) → DrainTurnsKeepOrder drive
drain_turns_keep {D = D} drive most old new who drained.Room kept draining_is t side =
    let first = seen drive old.fixed.first in
    let before = seen drive old.drive in
    let now = seen drive new.drive in
    let answered = t.answered.2 in
    let cache : IsCache (old.events ++ t.made) new.cached = steps_stay before.held old.events t.made old.cached new.cached kept.orderly.cached t.step.cached in
    let v : View D = stepped_view first before now old new.replies t.made new.drive new.next new.on new.ops new.cached in
    let rest : List Event = events.Rests who ∷ [] in
    let joined : old.events ++ (t.made ++ rest) ≡ (old.events ++ t.made) ++ rest = sym (append_assoc old.events t.made rest) in
    let stand : map headed new.ops ≡ ops (after_all ((old.events ++ t.made) ++ rest)) = stand_by old new (t.made ++ rest) side.follows t.adds.events ∙ ap (λ l. ops (after_all l)) joined in
    let stepped : IsKeptOrder first now v = stepping_keeps first before now old new.replies t.made
    (drain_step drive most old new who drained.Room new.replies kept t side answered.replies.count answered.replies.each (λ k reply o n. brought (seen drive old.fixed.first) (seen drive old.drive) old t.made k reply kept t.step.shape (trail_of old new who drained.Room t.made side.follows) (side.replied k reply o n))) new.drive new.next new.on new.ops new.cached
    (stand ∙ ap ops (after_more (old.events ++ t.made) rest)) cache in
    let st = after_all (old.events ++ t.made) in
    let none : kept_for who v.kept ≡ [] = t.answered.0 in
    let less = drains_less who who st.drains in
    let zero_of : cond (who == who) 0 (length (filter (λ w. w == who) st.drains)) ≡ 0 = ap {B = ℕ} (λ b. cond b 0 (length (filter (λ w. w == who) st.drains))) (eq-eqb who who refl) in
    let to_idle : after (phase who v.marks) rests ≡ idle = ap (λ ph. after ph rests) draining_is in
    let c : CanDrain first now v who (events.Rests who) rests = record {
      kept = stepped;
      of = rests_is who;
      trail = ap (λ s. is_trail_from s rest) (after_more old.events t.made)
          ∙ (and_parts (is_trail_from (after_all old.events) t.made) (is_trail_from (fold after_event (after_all old.events) t.made) rest) (sym (trail_more (after_all old.events) t.made rest) ∙ side.follows.trail)).1;
      who_is = marked (λ w. (1 ≤ w) × (w ≤ greatest_session old.fixed.script)) who old.marks kept.orderly.marks.sessions_are (λ is. let h : draining ≡ idle = sym draining_is ∙ is in cc);
      comes = ap (λ ph. goes_on ph rests) draining_is;
      placeless = refl;
      handless = refl;
      owes = record { drains = λ e. absurd (let h : idle ≡ draining = sym to_idle ∙ e in cc); drained = λ some. absurd (omega (arith, some, less, zero_of, ap length none)) };
      once = omega (arith, less, zero_of, ap length none);
      others = λ w other. let same : cond (who == w) 0 (length (filter (λ x. x == w) st.drains)) ≡ length (filter (λ x. x == w) st.drains) = ap (λ b. cond b 0 (length (filter (λ x. x == w) st.drains))) other in
          omega (arith, drains_less w who st.drains, same);
      more = λ e. absurd (let h : idle ≡ draining = sym to_idle ∙ e in cc);
    } in
    let acks : new.acks ≡ (old.acks ++ acks_for now.commands t.made) ++ [] = t.adds.acks ∙ ap (λ l. old.acks ++ l) (acks_rest now.commands who t.made) ∙ sym (append-nil (old.acks ++ acks_for now.commands t.made)) in
    let is : new ≡ drained_view first now v who (events.Rests who) rests new.next new.on new.ops new.cached = view_is new (drained_view first now v who (events.Rests who) rests new.next new.on new.ops new.cached) t.fixed refl refl answered.history refl
    acks (t.adds.events ∙ joined) t.marks (t.kept ∙ without_none who (old.kept ++ drain_faults old t.made) none) refl refl refl in
    subst (λ (v : View D). IsInOrder drive v) (sym is) (draining_keeps first now v who (events.Rests who) rests c new.next new.on new.ops new.cached stand (later (old.events ++ t.made) rest new.cached cache))
drain_turns_keep {D = D} drive most old new who drained.More kept draining_is t side =
    let first = seen drive old.fixed.first in
    let before = seen drive old.drive in
    let now = seen drive new.drive in
    let answered = t.answered.3 in
    let cache : IsCache (old.events ++ t.made) new.cached = steps_stay before.held old.events t.made old.cached new.cached kept.orderly.cached t.step.cached in
    let v : View D = stepped_view first before now old new.replies t.made new.drive new.next new.on new.ops new.cached in
    let stand : map headed new.ops ≡ ops (after_all (old.events ++ t.made)) = stand_by old new (t.made ++ []) side.follows t.adds.events ∙ ap (λ l. ops (after_all (old.events ++ l))) (append-nil t.made) in
    let stepped : IsKeptOrder first now v = stepping_keeps first before now old new.replies t.made
    (drain_step drive most old new who drained.More new.replies kept t side answered.replies.count answered.replies.each (λ k reply o n. brought (seen drive old.fixed.first) (seen drive old.drive) old t.made k reply kept t.step.shape (trail_of old new who drained.More t.made side.follows) (side.replied k reply o n))) new.drive new.next new.on new.ops new.cached stand cache in
    let is : new ≡ v = view_is new v t.fixed refl refl answered.history refl (t.adds.acks ∙ ap (λ l. old.acks ++ acks_for now.commands l) (append-nil t.made)) (t.adds.events ∙ ap (λ l. old.events ++ l) (append-nil t.made))
    (t.marks ∙ append-nil old.marks) (t.kept ∙ without_none who (old.kept ++ drain_faults old t.made) t.answered.0) refl refl refl in
    subst (λ (v : View D). IsInOrder drive v) (sym is) stepped
drain_turns_keep {D = D} drive most old new who (drained.Fault counts) kept draining_is t side =
    let first = seen drive old.fixed.first in
    let before = seen drive old.drive in
    let now = seen drive new.drive in
    let cache : IsCache (old.events ++ t.made) new.cached = steps_stay before.held old.events t.made old.cached new.cached kept.orderly.cached t.step.cached in
    let pl = t.answered.1 in
    let p = pl.placed in
    let v : View D = stepped_view first before now old old.replies t.made new.drive old.next new.on new.ops new.cached in
    let stand : map headed new.ops ≡ ops (after_all (old.events ++ t.made)) = stand_by old new (t.made ++ []) side.follows t.adds.events ∙ ap (λ l. ops (after_all (old.events ++ l))) (append-nil t.made) in
    let stepped : IsKeptOrder first now v = stepping_keeps first before now old old.replies t.made
    (drain_step drive most old new who (drained.Fault counts) old.replies kept t side refl (λ k reply e. e)
    (λ k reply e f. subst (Brought (after_all old.events) t.made k) (same_Some None reply (sym e ∙ f))
    (own_fault (after_all old.events) t.made old.kept who k counts t.step.shape (trail_of old new who (drained.Fault counts) t.made side.follows) (λ some. t.none (inl some)) t.answered.0 (kept.orderly.waiting.none_yet k e)))) new.drive old.next new.on new.ops new.cached stand cache in
    let c : CanFail first now v p counts = record {
      kept = stepped;
      drains = ap (λ w. phase w old.marks) pl.who_is ∙ draining_is;
      next = pl.nth_is ∙ ap (λ w. length (places_of w old.marks)) (sym pl.who_is);
      fate = pl.fate_is;
      owns = ap (λ w. kept_for w (old.kept ++ drain_faults old t.made)) pl.who_is ∙ t.answered.0;
      moment = one_moment old.fixed.moment old.next p side.moment pl.moment;
    } in
    let is : new ≡ failed_view first now v p counts new.next = view_is new (failed_view first now v p counts new.next) t.fixed refl refl pl.history pl.replies
    (t.adds.acks ∙ ap (λ l. old.acks ++ acks_for now.commands l) (append-nil t.made)) (t.adds.events ∙ ap (λ l. old.events ++ l) (append-nil t.made))
    (t.marks ∙ ap (λ w. old.marks ++ map (mark w) (places (length old.history) ∷ hands (length old.history) (replies.Fault counts) ∷ [])) (sym pl.who_is))
    (t.kept ∙ ap (λ w. without_session w (old.kept ++ drain_faults old t.made)) (sym pl.who_is)) refl refl refl in
    subst (λ (v : View D). IsInOrder drive v) (sym is) (failing_keeps first now v p counts c new.next)
