-- A step of the head, with the answers behind it, keeps the order.
use Rattle.std.specs.Prelude.{◌≡◌, ◌⊎◌, ◌==◌, min, ◌^◌, ◌-◌, ℕ, ◌+◌, ◌≤◌, true, false, cond, List, [], ◌∷◌, ◌++◌, filter_map, fold, length, map, Option, Some, None, slice_get, not, is_some}
use Rattle.std.specs.Option.{option_to_list}
use Rattle.std.specs.List.{list_all, list_any}
use Rattle.std.proofs.Common.{inl, inr, refl, sym, ap, subst, ◌∙◌, arith, append-nil, length-append}
use Rattle.std.proofs.lemmas.Bool.{and_from, both_ways, cases_Bool, false_from_ne_true}
use Rattle.std.proofs.lemmas.List.Elements.{All-weaker, filter_map-append}
use Rattle.tape_types.specs.declared.cartridges.Twin.{Twin}
use Rattle.tape_types.specs.declared.moments.Moment.{Moment}
use Rattle.plain_tree.specs.declared.calls.Fate.TheVariants as fates
use Rattle.plain_tree.specs.declared.calls.Placed.{Placed}
use Rattle.session_script.specs.Sessions.{greatest_session}
use Rattle.session_script.specs.declared.logs.Ack.{Ack}
use Rattle.session_script.specs.declared.logs.Event.{Event}
use Rattle.session_script.specs.declared.logs.Event.TheVariants.{Wants, Queues, Syncs, Synced, Drains, Rests, Served, Worked}
use Rattle.session_script.specs.declared.logs.Reply.{Reply}
use Rattle.head_queue.specs.EventLaws.Trail.{after as after_event, after_all, fault_of, is_trail_from, of_call, steps}
use Rattle.head_queue.specs.EventLaws.Waiting.{State, ops, start}
use Rattle.tape_layout.specs.declared.ops.Op.{Op}
use Rattle.block_cache.specs.Kept.{Kept}
use Rattle.promises.specs.ServingPromise.Cached.{IsCache}
use Rattle.promises.specs.ServingPromise.Acks.{answers, is_synced, synced_places, synced_ticket, syncs_ticket}
use Rattle.promises.specs.ServingPromise.Faults.{AreRises, kept_for, told}
use Rattle.promises.specs.ServingPromise.Served.{Drive, IsOrderly, View, headed, is_waiting}
use Rattle.promises.specs.ServingPromise.Steps.{AreOfStep, drain_faults}
use Rattle.promises.specs.ServingPromise.Submits.{acks_for}
use Rattle.promises.specs.OrderLaws.Kept.{AreApart, IsKeptOrder, is_rising, owed}
use Rattle.promises.specs.OrderLaws.Sides.{owned_from}
use Rattle.promises.proofs.OrderLaws.Acked.{AreAnswered, acks_more, commands_more, has_answered, reached_more, synced_at, synced_turn}
use Rattle.promises.proofs.OrderLaws.Apart.{turning_apart}
use Rattle.promises.proofs.OrderLaws.Frames.{is_turning, turning_list}
use Rattle.promises.proofs.OrderLaws.Marked.{marks_stay}
use Rattle.promises.proofs.OrderLaws.Owned.{after_more, trail_more}
use Rattle.promises.proofs.OrderLaws.Rising.{has, rising_front}
use Rattle.promises.proofs.OrderLaws.Told.{AreTold, faults_turn}
use Rattle.promises.proofs.OrderLaws.Turning.{all_turn, drains_are_kept, drains_of, no_step_behind, tickets, turns_rise, unanswered, unowned}
use Rattle.promises.proofs.OrderLaws.Views.{not_before}
use Rattle.promises.proofs.OrderLaws.Waits.{AreTurned, At, at, not_yet, past, still_past, there, waiting_turn}

turning_syncs : (events : List Event) → list_all is_turning events ≡ true → filter_map syncs_ticket events ≡ []
turning_syncs [] every = refl
turning_syncs (Synced ticket ∷ events) every = turning_syncs events every
turning_syncs (Served ticket place fault ∷ events) every = turning_syncs events every
turning_syncs (Worked place fault ∷ events) every = turning_syncs events every
turning_syncs (Wants ticket place ∷ events) every = absurd (cc)
turning_syncs (Queues place ∷ events) every = absurd (cc)
turning_syncs (Syncs ticket ∷ events) every = absurd (cc)
turning_syncs (Drains who ∷ events) every = absurd (cc)
turning_syncs (Rests who ∷ events) every = absurd (cc)

-- what stands at a place that had no reply
pub record Brought (st : State) (added : List Event) (k : ℕ) (reply : Option Reply) : Type 0 where
  pub waits : is_waiting (fold after_event st added) k ≡ not (is_some reply)
  pub fault : option_to_list (told reply) ≡ owned_from st (of_call k) added
  pub synced : is_synced reply ≡ list_any (answers k) added

module _ {D : Type 0} (first before now : Drive) (old : View D) (new : List (Option Reply)) (added : List Event) where
  -- what is shown of the step
  pub record CanStep : Type 0 where
    pub kept : IsKeptOrder first before old
    pub shape : AreOfStep added
    pub trail : is_trail_from (after_all old.events) added ≡ true
    pub count : length new ≡ length old.replies
    pub each : (k : ℕ) (reply : Reply) → slice_get old.replies k ≡ Some (Some reply) → slice_get new k ≡ Some (Some reply)
    pub replied : (k : ℕ) (reply : Option Reply) → slice_get old.replies k ≡ Some None → slice_get new k ≡ Some reply → Brought (after_all old.events) added k reply
    pub later : before.commands ≤ now.commands
    pub least : min (before.commands + steps added) (2 ^ 64 - 1) ≤ now.commands
    pub rises : AreRises before.faults now.faults (filter_map fault_of added)
    pub limits : now.limits ≡ before.limits
    pub untold : before.held ≡ None → now.held ≡ None

  -- the volume after a step of the head with the answers behind it
  abbrev pub stepped_view : D → Option Moment → Option ℕ → List Op → List Kept → View D
  stepped_view drive next on ops cached = record old {
    drive = drive;
    next = next;
    replies = new;
    acks = old.acks ++ acks_for now.commands added;
    events = old.events ++ added;
    kept = old.kept ++ drain_faults old added;
    on = on;
    ops = ops;
    cached = cached;
  }

  rests : CanStep → (k : ℕ) → (slice_get old.replies k ≡ Some None → ⊥) → is_waiting (after_all old.events) k ≡ false
  rests c k other = false_from_ne_true (is_waiting (after_all old.events) k) (λ waits. other (c.kept.orderly.waiting.waits k waits))

  rests_past : CanStep → (k : ℕ) → slice_get old.replies k ≡ None → is_waiting (after_all old.events) k ≡ false
  rests_past c k e = rests c k (λ not. let h : None ≡ Some None = sym e ∙ not in cc)

  rests_there : CanStep → (k : ℕ) (reply : Reply) → slice_get old.replies k ≡ Some (Some reply) → is_waiting (after_all old.events) k ≡ false
  rests_there c k reply e = rests c k (λ not. let h : Some (Some reply) ≡ Some None = sym e ∙ not in cc)

  turned : CanStep → AreTurned (after_all old.events) (after_all (old.events ++ added)) old.replies new
  turned c = record {
    count = c.count;
    each = c.each;
    rests = λ k e. ap (λ (s : State). is_waiting s k) (after_more old.events added) ∙ turning_list (after_all old.events) added k (all_turn added c.shape) e;
    replied = λ k reply o n. ap (λ (s : State). is_waiting s k) (after_more old.events added) ∙ (c.replied k reply o n).waits;
  }

  answered : CanStep → AreAnswered added old.replies new
  answered c = record {
    count = c.count;
    each = λ k reply e. (c.each k reply e, unanswered (after_all old.events) added k c.trail (all_turn added c.shape) (rests_there c k reply e));
    past_end = λ k e. unanswered (after_all old.events) added k c.trail (all_turn added c.shape) (rests_past c k e);
    replied = λ k reply o n. (c.replied k reply o n).synced;
  }

  told_now : CanStep → AreTold (after_all old.events) added old.history old.replies new
  told_now c = record {
    placed = c.kept.count;
    count = c.count;
    each = λ k reply e. (c.each k reply e, unowned (after_all old.events) added k c.trail (all_turn added c.shape) (rests_there c k reply e));
    past_end = λ k e. unowned (after_all old.events) added k c.trail (all_turn added c.shape) (rests_past c k e);
    replied = λ k reply o n. (c.replied k reply o n).fault;
    done = c.kept.done;
  }

  rises_on : CanStep → is_rising ((synced_places old.replies ++ filter_map synced_ticket added) ++ tickets (fold after_event (after_all old.events) added).syncs) ≡ true
  rises_on c = turns_rise (after_all old.events) (synced_places old.replies) added c.trail (all_turn added c.shape) c.kept.rising

  synced_are : CanStep → synced_places new ≡ synced_places old.replies ++ filter_map synced_ticket added
  synced_are c =
      synced_turn added old.replies new (answered c)
      (rising_front (synced_places old.replies ++ filter_map synced_ticket added) (tickets (fold after_event (after_all old.events) added).syncs) (rises_on c))

  first_answered : CanStep → (t : ℕ) → has t (filter_map synced_ticket added) ≡ true → list_any (answers t) old.events ≡ false
  first_answered c t h = not_before old.events old.replies old.acks t c.kept.orderly.acks (by (cases_Bool (is_waiting (after_all old.events) t)))
    where
      by : (is_waiting (after_all old.events) t ≡ true) ⊎ (is_waiting (after_all old.events) t ≡ false) → synced_at (slice_get old.replies t) ≡ false
      by (inl waits) = ap synced_at (c.kept.orderly.waiting.waits t waits)
      by (inr rests) = absurd (both_ways (list_any (answers t) added) (unanswered (after_all old.events) added t c.trail (all_turn added c.shape) rests) (sym (has_answered added t) ∙ h))

  same_owed : CanStep → (w : ℕ) → owed (after_all (old.events ++ added)) (old.kept ++ drain_faults old added) w ≡ owed (after_all old.events) old.kept w
  same_owed c w =
      let kept = drains_are_kept (after_all old.events) added w (all_turn added c.shape) in
      let joined = ap length (filter_map-append (λ (e : ℕ × Twin). cond (e.0 == w) (Some e.1) None) old.kept (drain_faults old added)) in
      let counted = length-append (kept_for w old.kept) (kept_for w (drain_faults old added)) in
      let moved = ap (λ (s : State). drains_of s w) (after_more old.events added) in
      omega (arith, kept, joined, counted, moved)

  orderly : CanStep → (drive : D) (next : Option Moment) (on : Option ℕ) (standing : List Op) (cached : List Kept) → map headed standing ≡ ops (after_all (old.events ++ added)) → IsCache (old.events ++ added) cached → IsOrderly first now (stepped_view drive next on standing cached)
  orderly c drive next on standing cached stand cache = record {
    placed = c.kept.orderly.placed;
    moments = c.kept.orderly.moments;
    trail = trail_more start old.events added ∙ and_from (is_trail_from start old.events) (is_trail_from (after_all old.events) added) c.kept.orderly.trail c.trail;
    standing = stand;
    waiting = waiting_turn (after_all old.events) (after_all (old.events ++ added)) old.replies new c.kept.orderly.waiting (turned c);
    syncs = filter_map-append syncs_ticket old.events added ∙ ap (λ l. filter_map syncs_ticket old.events ++ l) (turning_syncs added (all_turn added c.shape)) ∙ append-nil (filter_map syncs_ticket old.events) ∙ c.kept.orderly.syncs;
    acks = acks_more old.events added old.replies new old.acks now.commands c.kept.orderly.acks
        (All-weaker (λ (a : Ack). a.command ≤ before.commands) (λ (a : Ack). a.command ≤ now.commands) (λ a h. omega (arith, h, c.later)) old.acks c.kept.commands) (synced_are c);
    reached = reached_more old.events added old.acks before.commands now.commands c.kept.orderly.reached c.later c.least (first_answered c) (λ t. no_step_behind t added c.shape);
    faults = faults_turn old.events added old.history old.replies new old.kept first.faults before.faults now.faults (told_now c) c.rises c.kept.orderly.faults;
    marks = marks_stay (greatest_session old.fixed.script) old.history old.replies new (after_all old.events) (after_all (old.events ++ added)) old.kept (old.kept ++ drain_faults old added) old.marks
        c.kept.orderly.marks c.each (same_owed c) c.kept.once;
    limits = c.limits ∙ c.kept.orderly.limits;
    untold = λ e. c.untold (c.kept.orderly.untold e);
    cached = cache;
  }

  -- a step of the head with the answers behind it keeps the order
  pub stepping_keeps : CanStep → (drive : D) (next : Option Moment) (on : Option ℕ) (standing : List Op) (cached : List Kept) → map headed standing ≡ ops (after_all (old.events ++ added)) → IsCache (old.events ++ added) cached → IsKeptOrder first now (stepped_view drive next on standing cached)
  stepping_keeps c drive next on standing cached stand cache = record {
    orderly = orderly c drive next on standing cached stand cache;
    sessions = c.kept.sessions;
    count = c.count ∙ c.kept.count;
    done = λ k p h r. by k p h r (at old.replies k);
    rising = subst (λ l. is_rising (l ++ tickets (after_all (old.events ++ added)).syncs) ≡ true) (sym (synced_are c))
        (subst (λ (s : State). is_rising ((synced_places old.replies ++ filter_map synced_ticket added) ++ tickets s.syncs) ≡ true) (sym (after_more old.events added)) (rises_on c));
    apart = subst AreApart (sym (after_more old.events added)) (turning_apart (after_all old.events) added (all_turn added c.shape) c.kept.apart);
    commands = commands_more added old.acks before.commands now.commands c.later c.kept.commands;
    once = λ w. omega (arith, same_owed c w, c.kept.once w);
    more = c.kept.more;
    course = c.kept.course;
  }
    where
      by : (k : ℕ) (p : Placed) → slice_get old.history k ≡ Some p → slice_get new k ≡ Some None → At old.replies k → p.fate ≡ fates.Done
      by k p h r (past e) = absurd (let no : Some None ≡ None = sym r ∙ still_past old.replies new k c.count e in cc)
      by k p h r (not_yet e) = c.kept.done k p h e
      by k p h r (there reply e) = absurd (let no : Some None ≡ Some (Some reply) = sym r ∙ c.each k reply e in cc)
