-- A submission that places its call keeps the order.
use Rattle.std.specs.Prelude.{◌≡◌, ◌==◌, ◌||◌, not, ℕ, zero, suc, ◌+◌, ◌≤◌, ◌<◌, Bool, true, false, cond, List, [], ◌∷◌, ◌++◌, Contains, IfSome, filter, filter_map, fold, length, map, Option, Some, None, is_some, slice_get, ◌&&◌}
use Rattle.std.specs.List.{list_any}
use Rattle.std.proofs.Common.{⊎_elim, refl, sym, ap, subst, ◌∙◌, arith, append-nil}
use Rattle.std.proofs.lemmas.Bool.{and_from, eq-eqb, eqb-true, false_from_ne_true}
use Rattle.std.proofs.lemmas.List.{length_push}
use Rattle.std.proofs.lemmas.List.Elements.{filter_map-append}
use Rattle.std.proofs.lemmas.Option.{slice_get_past, slice_get_within}
use Rattle.tape_types.proofs.LongerLists.{slice_get-seam}
use Rattle.tape_types.specs.declared.moments.Moment.{Moment}
use Rattle.plain_tree.specs.declared.calls.Fate.TheVariants as fates
use Rattle.plain_tree.specs.declared.calls.Placed.{Placed}
use Rattle.session_script.specs.Grammar.{calls_of}
use Rattle.session_script.specs.Sessions.{greatest_session}
use Rattle.session_script.specs.declared.logs.Event.{Event}
use Rattle.session_script.specs.declared.logs.Reply.{Reply}
use Rattle.head_queue.specs.EventLaws.Trail.{after_all, is_trail_from, step_to, steps, after as after_event}
use Rattle.head_queue.specs.EventLaws.Waiting.{State, ops, start}
use Rattle.tape_layout.specs.declared.ops.Op.{Op}
use Rattle.block_cache.specs.Kept.{Kept}
use Rattle.promises.specs.ServingPromise.Cached.{IsCache}
use Rattle.promises.specs.ServingPromise.Acks.{answers, is_synced, synced_places, synced_ticket, syncs_ticket}
use Rattle.promises.specs.ServingPromise.Faults.{kept_for, told}
use Rattle.promises.specs.ServingPromise.Marks.{Phase, after, draining, hand_in, idle, mark, phase, place_in, places_of, waits}
use Rattle.promises.specs.ServingPromise.Served.{Drive, IsOrderly, View, headed, is_waiting, placed_by}
use Rattle.promises.specs.ServingPromise.Submits.{CanSubmit, acks_for}
use Rattle.promises.specs.declared.serving_promise.marks.MarkKind.{MarkKind}
use Rattle.promises.specs.declared.serving_promise.marks.MarkKind.TheVariants.{Places as places, Hands as hands}
use Rattle.promises.specs.OrderLaws.Kept.{IsKeptOrder, is_rising, owed}
use Rattle.promises.specs.OrderLaws.Phases.{is_course_from}
use Rattle.promises.proofs.OrderLaws.Acked.{acks_more, commands_more, reached_more, synced_at, synced_push}
use Rattle.promises.proofs.OrderLaws.Frames.{no_step_no_fault, no_step_owned, own_drains, own_list, own_same, own_steps, syncs_it, wants_it}
use Rattle.promises.proofs.OrderLaws.Lists.{at_more, at_push, count_after}
use Rattle.promises.proofs.OrderLaws.Marked.{AreMore, IsOwed, course_more, marks_more, phase_more, places_more, to_owed}
use Rattle.promises.proofs.OrderLaws.Owned.{AreOwn, after_more, trail_more}
use Rattle.promises.proofs.OrderLaws.Placing.{as_many_places, placed_push, places_push}
use Rattle.promises.proofs.OrderLaws.Rising.{has}
use Rattle.promises.proofs.OrderLaws.Told.{faults_push}
use Rattle.promises.proofs.OrderLaws.Turning.{tickets}
use Rattle.promises.proofs.OrderLaws.Views.{moments_push, not_before, session_is, syncs_before}
use Rattle.promises.proofs.OrderLaws.Waits.{waiting_push}

-- the kinds of the marks of a placement: its place, and at once its reply where it is there
pub data AreKinds (here : ℕ) : List MarkKind → Option Reply → Type 0 where
  placed_alone : AreKinds here (places here ∷ []) None
  handed_too : (reply : Reply) → AreKinds here (places here ∷ hands here reply ∷ []) (Some reply)

-- the marks of a submission place its call once, at its own place
pub kinds_place : (here : ℕ) (kinds : List MarkKind) (reply : Option Reply) → AreKinds here kinds reply → (b : Bool) → cond b (here ∷ []) [] ≡ filter_map place_in (cond b kinds [])
kinds_place here kinds reply placed_alone true = refl
kinds_place here kinds reply placed_alone false = refl
kinds_place here kinds reply (handed_too r) true = refl
kinds_place here kinds reply (handed_too r) false = refl

-- a reply that a submission hands out is its own, at its own place
pub kinds_hand : (here : ℕ) (kinds : List MarkKind) (reply : Option Reply) → AreKinds here kinds reply → (k : ℕ) (r : Reply) → Contains (filter_map hand_in kinds) (k, r) → (here ≡ k) × (reply ≡ Some r)
kinds_hand here kinds reply placed_alone k r has = absurd (omega (arith, has.1))
kinds_hand here kinds reply (handed_too given) k r (zero, less, is) = (ap (λ e. e.0) is, ap (λ e. Some e.1) is)
kinds_hand here kinds reply (handed_too given) k r (suc n, less, is) = absurd (omega (arith, less))

-- behind it the session doesn't drain
kinds_phase : (here : ℕ) (kinds : List MarkKind) (reply : Option Reply) → AreKinds here kinds reply → (ph : Phase) → ph ≡ idle → fold after ph kinds ≡ draining → ⊥
kinds_phase here kinds reply placed_alone ph is e = let h : waits here ≡ draining = sym (ap (λ ph. after ph (places here)) is) ∙ e in cc
kinds_phase here kinds reply (handed_too r) ph is e =
    let h : idle ≡ draining = sym (ap (λ ph. after (after ph (places here)) (hands here r)) is ∙ ap (λ b. cond b idle (waits here)) (eq-eqb here here refl)) ∙ e in cc

kinds_go_on : (here : ℕ) (kinds : List MarkKind) (reply : Option Reply) → AreKinds here kinds reply → (ph : Phase) → ph ≡ idle → is_course_from ph kinds ≡ true
kinds_go_on here kinds reply placed_alone ph is = ap (λ ph. is_course_from ph (places here ∷ [])) is
kinds_go_on here kinds reply (handed_too r) ph is =
    ap (λ ph. is_course_from ph (places here ∷ hands here r ∷ [])) is ∙ and_from (here == here) true (eq-eqb here here refl) refl

module _ {D : Type 0} (first now : Drive) (old : View D) (p : Placed) (reply : Option Reply) (added : List Event) (kinds : List MarkKind) where
  here : ℕ
  here = length old.history

  -- what is shown of the placement
  pub record CanPlace : Type 0 where
    pub kept : IsKeptOrder first now old
    pub can : CanSubmit old p.who p.nth
    pub fate : reply ≡ None → p.fate ≡ fates.Done
    pub moment : IfSome old.fixed.moment (λ m. p.at ≡ m)
    pub trail : is_trail_from (after_all old.events) added ≡ true
    pub own : AreOwn (calls_of old.fixed.script) old.history p (after_all old.events) added
    pub waits_for : is_waiting (after_all (old.events ++ added)) (length old.history) ≡ not (is_some reply)
    pub no_fault : told reply ≡ None
    pub synced : is_synced reply ≡ list_any (answers (length old.history)) added
    pub kinds_are : AreKinds (length old.history) kinds reply

  -- the volume with one more placement, its reply, its events and its marks
  abbrev pub placed_view : Option Moment → Option ℕ → List Op → List Kept → View D
  placed_view next on ops cached = record old {
    next = next;
    history = old.history ++ p ∷ [];
    replies = old.replies ++ reply ∷ [];
    acks = old.acks ++ acks_for now.commands added;
    events = old.events ++ added;
    marks = old.marks ++ map (mark p.who) kinds;
    on = on;
    ops = ops;
    cached = cached;
  }

  same_owed : CanPlace → (w : ℕ) → owed (after_all (old.events ++ added)) old.kept w ≡ owed (after_all old.events) old.kept w
  same_owed c w =
      ap (λ (l : List ℕ). length (filter (λ v. v == w) l) + length (kept_for w old.kept))
      (ap (λ (s : State). s.drains) (after_more old.events added) ∙ own_drains (after_all old.events) added (length old.history) c.own.own)

  was_owed : CanPlace → (w : ℕ) → IsOwed (phase w old.marks) (owed (after_all old.events) old.kept w)
  was_owed c w = to_owed (greatest_session old.fixed.script) old.history old.replies (after_all old.events) old.kept old.marks c.kept.orderly.marks w

  owes : CanPlace → (w : ℕ) → IsOwed (fold after (phase w old.marks) (cond (p.who == w) kinds [])) (owed (after_all (old.events ++ added)) old.kept w)
  owes c w = subst (IsOwed (fold after (phase w old.marks) (cond (p.who == w) kinds []))) (sym (same_owed c w)) (by (p.who == w) refl)
    where
      by : (b : Bool) → (p.who == w) ≡ b → IsOwed (fold after (phase w old.marks) (cond b kinds [])) (owed (after_all old.events) old.kept w)
      by false is = was_owed c w
      by true is =
          let free : phase w old.marks ≡ idle = subst (λ n. phase n old.marks ≡ idle) (eqb-true p.who w is) c.can.free in
          record {
            drains = λ e. absurd (kinds_phase (length old.history) kinds reply c.kinds_are (phase w old.marks) free e);
            drained = λ some. absurd (let h : idle ≡ draining = sym free ∙ (was_owed c w).drained some in cc);
          }

  marks_are : CanPlace → AreMore (greatest_session old.fixed.script) p.who old.history (old.history ++ p ∷ []) old.replies (old.replies ++ reply ∷ []) (after_all (old.events ++ added)) old.kept old.marks kinds
  marks_are c = record {
    who_is = session_is p.who old.fixed.script c.kept.sessions (omega (arith, c.can.more));
    places = λ w. places_push w old.history p ∙ ap (λ l. placed_by w old.history ++ l) (kinds_place (length old.history) kinds reply c.kinds_are (p.who == w));
    stay = λ k r e. at_more old.replies (reply ∷ []) k (Some r) e;
    handed = λ k r has.
        let is = kinds_hand (length old.history) kinds reply c.kinds_are k r has in
        subst (λ n. slice_get (old.replies ++ reply ∷ []) n ≡ Some (Some r)) (c.kept.count ∙ is.0) (slice_get-seam old.replies reply ∙ ap Some is.1);
    owes = owes c;
    once = λ w. omega (arith, same_owed c w, c.kept.once w);
  }

  synced_are : CanPlace → synced_places (old.replies ++ reply ∷ []) ≡ synced_places old.replies ++ filter_map synced_ticket added
  synced_are c =
      synced_push old.replies reply
      ∙ ap (λ b. synced_places old.replies ++ cond b (length old.replies ∷ []) []) c.synced
      ∙ ap (λ n. synced_places old.replies ++ cond (list_any (answers (length old.history)) added) (n ∷ []) []) c.kept.count
      ∙ ap (λ l. synced_places old.replies ++ l) (sym c.own.answered)

  none_made : CanPlace → steps added ≡ 0
  none_made c = ap length (own_steps added (length old.history) c.own.own)

  first_answered : CanPlace → (t : ℕ) → has t (filter_map synced_ticket added) ≡ true → list_any (answers t) old.events ≡ false
  first_answered c t h = not_before old.events old.replies old.acks t c.kept.orderly.acks (ap synced_at (slice_get_past old.replies t (by (list_any (answers (length old.history)) added) (sym (ap (has t) c.own.answered) ∙ h))))
    where
      by : (b : Bool) → has t (cond b (length old.history ∷ []) []) ≡ true → length old.replies ≤ t
      by true e = at_here (length old.history == t) refl e
        where
          at_here : (b : Bool) → (length old.history == t) ≡ b → (b || false) ≡ true → length old.replies ≤ t
          at_here true is e = omega (arith, c.kept.count, eqb-true (length old.history) t is)
          at_here false is e = absurd (cc)
      by false e = absurd (cc)

  orderly : CanPlace → (next : Option Moment) (on : Option ℕ) (standing : List Op) (cached : List Kept) → map headed standing ≡ ops (after_all (old.events ++ added)) → IsCache (old.events ++ added) cached → IsOrderly first now (placed_view next on standing cached)
  orderly c next on standing cached stand cache = record {
    placed = placed_push (calls_of old.fixed.script) old.history p c.kept.orderly.placed
        (c.can.next ∙ ap length (c.kept.orderly.marks.places p.who) ∙ as_many_places p.who old.history) c.can.more;
    moments = moments_push old.fixed.moment old.history p c.kept.orderly.moments c.moment;
    trail = trail_more start old.events added ∙ and_from (is_trail_from start old.events) (is_trail_from (after_all old.events) added) c.kept.orderly.trail c.trail;
    standing = stand;
    waiting = waiting_push (after_all old.events) (after_all (old.events ++ added)) old.replies reply (length old.history) (sym c.kept.count) c.kept.orderly.waiting
        (λ k other. ap (λ (s : State). is_waiting s k) (after_more old.events added) ∙ own_list (after_all old.events) added (length old.history) k other c.own.own) c.waits_for;
    syncs = filter_map-append syncs_ticket old.events added ∙ ap (λ l. l ++ filter_map syncs_ticket added) c.kept.orderly.syncs ∙ sym c.own.syncs;
    acks = acks_more old.events added old.replies (old.replies ++ reply ∷ []) old.acks now.commands c.kept.orderly.acks c.kept.commands (synced_are c);
    reached = reached_more old.events added old.acks now.commands now.commands c.kept.orderly.reached (omega arith) (omega (arith, none_made c)) (first_answered c)
        (λ t. omega (arith, count_after (answers t) step_to added, none_made c));
    faults = faults_push old.events added old.history old.replies old.kept p reply first.faults now.faults c.kept.count c.no_fault
        (λ owner. no_step_owned (after_all old.events) owner added (own_steps added (length old.history) c.own.own)) (no_step_no_fault added (own_steps added (length old.history) c.own.own)) c.kept.orderly.faults;
    marks = marks_more (greatest_session old.fixed.script) p.who old.history (old.history ++ p ∷ []) old.replies (old.replies ++ reply ∷ []) (after_all old.events) (after_all (old.events ++ added))
        old.kept old.kept old.marks kinds c.kept.orderly.marks (marks_are c);
    limits = c.kept.orderly.limits;
    untold = c.kept.orderly.untold;
    cached = cache;
  }

  more : CanPlace → (w : ℕ) → phase w (old.marks ++ map (mark p.who) kinds) ≡ draining → length (places_of w (old.marks ++ map (mark p.who) kinds)) < length (calls_of old.fixed.script w)
  more c w e = by (p.who == w) refl (sym (phase_more p.who w old.marks kinds) ∙ e) (places_more p.who w old.marks kinds)
    where
      by : (b : Bool) → (p.who == w) ≡ b → fold after (phase w old.marks) (cond b kinds []) ≡ draining
          → places_of w (old.marks ++ map (mark p.who) kinds) ≡ places_of w old.marks ++ filter_map place_in (cond b kinds [])
          → length (places_of w (old.marks ++ map (mark p.who) kinds)) < length (calls_of old.fixed.script w)
      by true is e same = absurd (kinds_phase (length old.history) kinds reply c.kinds_are (phase w old.marks) (subst (λ n. phase n old.marks ≡ idle) (eqb-true p.who w is) c.can.free) e)
      by false is e same = omega (arith, c.kept.more w e, ap length (same ∙ append-nil (places_of w old.marks)))

  still_apart : CanPlace → (k : ℕ) → (list_any (wants_it k) (fold after_event (after_all old.events) added).requests && list_any (syncs_it k) (fold after_event (after_all old.events) added).syncs) ≡ false
  still_apart c k = by (length old.history == k) refl
    where
      by : (b : Bool) → (length old.history == k) ≡ b → (list_any (wants_it k) (fold after_event (after_all old.events) added).requests && list_any (syncs_it k) (fold after_event (after_all old.events) added).syncs) ≡ false
      by false other =
          let same = own_same (after_all old.events) added (length old.history) k other c.own.own in
          ap (λ b. b && list_any (syncs_it k) (fold after_event (after_all old.events) added).syncs) same.wants ∙ ap (λ b. list_any (wants_it k) (after_all old.events).requests && b) same.syncs ∙ c.kept.apart k
      by true is = subst (λ n. (list_any (wants_it n) (fold after_event (after_all old.events) added).requests && list_any (syncs_it n) (fold after_event (after_all old.events) added).syncs) ≡ false) (eqb-true (length old.history) k is)
          (c.own.apart (false_from_ne_true (is_waiting (after_all old.events) (length old.history))
          (λ waits. omega (arith, c.kept.count, slice_get_within old.replies (length old.history) None (c.kept.orderly.waiting.waits (length old.history) waits)))))

  still_rising : CanPlace → is_rising (synced_places (old.replies ++ reply ∷ []) ++ tickets (after_all (old.events ++ added)).syncs) ≡ true
  still_rising c =
      subst (λ l. is_rising (l ++ tickets (after_all (old.events ++ added)).syncs) ≡ true) (sym (synced_are c))
      (subst (λ (s : State). is_rising ((synced_places old.replies ++ filter_map synced_ticket added) ++ tickets s.syncs) ≡ true) (sym (after_more old.events added))
      (c.own.rises (synced_places old.replies) c.kept.rising (syncs_before (after_all old.events) old.replies (length old.history) c.kept.count c.kept.orderly.waiting)))

  -- a submission that places its call keeps the order
  pub placing_keeps : CanPlace → (next : Option Moment) (on : Option ℕ) (standing : List Op) (cached : List Kept) → map headed standing ≡ ops (after_all (old.events ++ added)) → IsCache (old.events ++ added) cached → IsKeptOrder first now (placed_view next on standing cached)
  placing_keeps c next on standing cached stand cache = record {
    orderly = orderly c next on standing cached stand cache;
    sessions = c.kept.sessions;
    count = omega (arith, length_push old.replies reply, length_push old.history p, c.kept.count);
    done = λ k q h r. ⊎_elim
        (λ was. ⊎_elim (λ now. c.kept.done k q was now)
        (λ last. absurd (omega (arith, last.0, c.kept.count, slice_get_within old.history k q was)))
        (at_push old.replies reply None k r))
        (λ last. subst (λ (q : Placed). q.fate ≡ fates.Done) last.1
        (c.fate (⊎_elim (λ was. absurd (omega (arith, last.0, c.kept.count, slice_get_within old.replies k None was))) (λ end. end.1) (at_push old.replies reply None k r))))
        (at_push old.history p q k h);
    apart = λ k. subst (λ (s : State). (list_any (wants_it k) s.requests && list_any (syncs_it k) s.syncs) ≡ false) (sym (after_more old.events added)) (still_apart c k);
    rising = still_rising c;
    commands = commands_more added old.acks now.commands now.commands (omega arith) c.kept.commands;
    once = λ w. omega (arith, same_owed c w, c.kept.once w);
    more = more c;
    course = course_more p.who old.marks kinds (kinds_go_on (length old.history) kinds reply c.kinds_are (phase p.who old.marks) c.can.free) c.kept.course;
  }
