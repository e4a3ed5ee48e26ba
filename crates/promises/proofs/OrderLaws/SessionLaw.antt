-- A drain that begins or ends, and a reply that is handed out, keep the order.
use Rattle.std.specs.Prelude.{◌≡◌, ◌==◌, not, ℕ, zero, suc, ◌+◌, ◌≤◌, ◌<◌, Bool, true, false, cond, List, [], ◌∷◌, ◌++◌, Contains, filter, filter_map, fold, length, map, Option, Some, None, slice_get, ◌&&◌}
use Rattle.std.specs.List.{list_any, cons_option}
use Rattle.std.proofs.Common.{refl, sym, ap, subst, ◌∙◌, arith, append-nil, length-append}
use Rattle.std.proofs.lemmas.Bool.{and_from, eq-eqb, eqb-true}
use Rattle.std.proofs.lemmas.List.Elements.{filter-append, filter_map-append}
use Rattle.tape_types.specs.declared.moments.Moment.{Moment}
use Rattle.session_script.specs.Grammar.{calls_of}
use Rattle.session_script.specs.Sessions.{greatest_session}
use Rattle.session_script.specs.declared.logs.Event.{Event}
use Rattle.session_script.specs.declared.logs.Event.TheVariants.{Drains, Rests}
use Rattle.session_script.specs.declared.logs.Reply.{Reply}
use Rattle.head_queue.specs.EventLaws.Trail.{after as after_event, after_all, is_trail_from, step_to}
use Rattle.head_queue.specs.EventLaws.Waiting.{Request, State, Waiter, ops, start}
use Rattle.tape_layout.specs.declared.ops.Op.{Op}
use Rattle.block_cache.specs.Kept.{Kept}
use Rattle.promises.specs.ServingPromise.Cached.{IsCache}
use Rattle.promises.specs.ServingPromise.Acks.{answers, synced_places, synced_ticket, syncs_ticket}
use Rattle.promises.specs.ServingPromise.Marks.{after, draining, hand_in, idle, mark, phase, place_in, places_of, waits}
use Rattle.promises.specs.ServingPromise.Served.{AreWaiting, Drive, IsOrderly, View, headed, is_waiting, placed_by}
use Rattle.promises.specs.ServingPromise.Submits.{acks_for}
use Rattle.promises.specs.declared.serving_promise.marks.MarkKind.{MarkKind}
use Rattle.promises.specs.declared.serving_promise.marks.MarkKind.TheVariants.{Hands as hands}
use Rattle.promises.specs.OrderLaws.Kept.{IsKeptOrder, is_rising, owed}
use Rattle.promises.specs.OrderLaws.Phases.{goes_on, is_course_from}
use Rattle.promises.proofs.OrderLaws.Acked.{acks_more, commands_more, reached_more}
use Rattle.promises.proofs.OrderLaws.Frames.{no_step_no_fault, no_step_owned, syncs_it, wants_it}
use Rattle.promises.proofs.OrderLaws.Lists.{count_after}
use Rattle.promises.proofs.OrderLaws.Marked.{AreMore, IsOwed, course_more, marked, marks_more, phase_more, places_more, to_owed}
use Rattle.promises.proofs.OrderLaws.Owned.{after_more, trail_more}
use Rattle.promises.proofs.OrderLaws.Told.{faults_same}
use Rattle.promises.proofs.OrderLaws.Turning.{tickets}

-- ---- an event of a session's drain

-- it makes no step, and changes who drains alone
pub record IsOfDrain (e : Event) : Type 0 where
  pub stepless : filter_map step_to (e ∷ []) ≡ []
  pub begins_none : filter_map syncs_ticket (e ∷ []) ≡ []
  pub answers_none : filter_map synced_ticket (e ∷ []) ≡ []
  pub waits : (st : State) (k : ℕ) → is_waiting (after_event st e) k ≡ is_waiting st k
  pub syncs : (st : State) → (after_event st e).syncs ≡ st.syncs
  pub requests : (st : State) → (after_event st e).requests ≡ st.requests

-- the begin of a drain is an event of a drain
pub drains_is : (who : ℕ) → IsOfDrain (Drains who)
drains_is who = record { stepless = refl; begins_none = refl; answers_none = refl; waits = λ st k. refl; syncs = λ st. refl; requests = λ st. refl }

-- the end of a drain is an event of a drain
pub rests_is : (who : ℕ) → IsOfDrain (Rests who)
rests_is who = record { stepless = refl; begins_none = refl; answers_none = refl; waits = λ st k. refl; syncs = λ st. refl; requests = λ st. refl }

module _ {D : Type 0} (first now : Drive) (v : View D) (who : ℕ) (e : Event) (kind : MarkKind) where
  -- what is shown of it
  pub record CanDrain : Type 0 where
    pub kept : IsKeptOrder first now v
    pub of : IsOfDrain e
    pub trail : is_trail_from (after_all v.events) (e ∷ []) ≡ true
    pub who_is : (1 ≤ who) × (who ≤ greatest_session v.fixed.script)
    pub comes : goes_on (phase who v.marks) kind ≡ true
    pub placeless : place_in kind ≡ None
    pub handless : hand_in kind ≡ None
    pub owes : IsOwed (after (phase who v.marks) kind) (owed (after_event (after_all v.events) e) v.kept who)
    pub once : owed (after_event (after_all v.events) e) v.kept who ≤ 1
    pub others : (w : ℕ) → (who == w) ≡ false → owed (after_event (after_all v.events) e) v.kept w ≡ owed (after_all v.events) v.kept w
    pub more : after (phase who v.marks) kind ≡ draining → length (places_of who v.marks) < length (calls_of v.fixed.script who)

  -- the volume with one more event and mark of a session's drain
  abbrev pub drained_view : Option Moment → Option ℕ → List Op → List Kept → View D
  drained_view next on ops cached = record v {
    next = next;
    acks = v.acks ++ acks_for now.commands (e ∷ []);
    events = v.events ++ e ∷ [];
    marks = v.marks ++ map (mark who) (kind ∷ []);
    on = on;
    ops = ops;
    cached = cached;
  }

  state_is : after_all (v.events ++ e ∷ []) ≡ after_event (after_all v.events) e
  state_is = after_more v.events (e ∷ [])

  owes_all : CanDrain → (w : ℕ) → IsOwed (fold after (phase w v.marks) (cond (who == w) (kind ∷ []) [])) (owed (after_all (v.events ++ e ∷ [])) v.kept w)
  owes_all c w = subst (λ (s : State). IsOwed (fold after (phase w v.marks) (cond (who == w) (kind ∷ []) [])) (owed s v.kept w)) (sym state_is) (by (who == w) refl)
    where
      by : (b : Bool) → (who == w) ≡ b → IsOwed (fold after (phase w v.marks) (cond b (kind ∷ []) [])) (owed (after_event (after_all v.events) e) v.kept w)
      by true is = subst (λ n. IsOwed (after (phase n v.marks) kind) (owed (after_event (after_all v.events) e) v.kept n)) (eqb-true who w is) c.owes
      by false is = subst (IsOwed (phase w v.marks)) (sym (c.others w is)) (to_owed (greatest_session v.fixed.script) v.history v.replies (after_all v.events) v.kept v.marks c.kept.orderly.marks w)

  once_all : CanDrain → (w : ℕ) → owed (after_all (v.events ++ e ∷ [])) v.kept w ≤ 1
  once_all c w = subst (λ (s : State). owed s v.kept w ≤ 1) (sym state_is) (by (who == w) refl)
    where
      by : (b : Bool) → (who == w) ≡ b → owed (after_event (after_all v.events) e) v.kept w ≤ 1
      by true is = subst (λ n. owed (after_event (after_all v.events) e) v.kept n ≤ 1) (eqb-true who w is) c.once
      by false is = omega (arith, c.others w is, c.kept.once w)

  no_place : CanDrain → (b : Bool) → filter_map place_in (cond b (kind ∷ []) []) ≡ []
  no_place c true = ap (λ o. cons_option o []) c.placeless
  no_place c false = refl

  marks_are : CanDrain → AreMore (greatest_session v.fixed.script) who v.history v.history v.replies v.replies (after_all (v.events ++ e ∷ [])) v.kept v.marks (kind ∷ [])
  marks_are c = record {
    who_is = c.who_is;
    places = λ w. sym (ap (λ l. placed_by w v.history ++ l) (no_place c (who == w)) ∙ append-nil (placed_by w v.history));
    stay = λ k reply h. h;
    handed = λ k reply has. absurd (let none = subst (λ (l : List (ℕ × Reply)). Contains l (k, reply)) (ap (λ o. cons_option o []) c.handless) has in omega (arith, none.1));
    owes = owes_all c;
    once = once_all c;
  }

  no_more_synced : CanDrain → synced_places v.replies ≡ synced_places v.replies ++ filter_map synced_ticket (e ∷ [])
  no_more_synced c = sym (ap (λ l. synced_places v.replies ++ l) c.of.answers_none ∙ append-nil (synced_places v.replies))

  orderly : CanDrain → (next : Option Moment) (on : Option ℕ) (standing : List Op) (cached : List Kept) → map headed standing ≡ ops (after_all (v.events ++ e ∷ [])) → IsCache (v.events ++ e ∷ []) cached → IsOrderly first now (drained_view next on standing cached)
  orderly c next on standing cached stand cache = record {
    placed = c.kept.orderly.placed;
    moments = c.kept.orderly.moments;
    trail = trail_more start v.events (e ∷ []) ∙ and_from (is_trail_from start v.events) (is_trail_from (after_all v.events) (e ∷ [])) c.kept.orderly.trail c.trail;
    standing = stand;
    waiting = subst (λ (s : State). AreWaiting s v.replies) (sym state_is)
        (record { none_yet = λ k h. c.of.waits (after_all v.events) k ∙ c.kept.orderly.waiting.none_yet k h; waits = λ k h. c.kept.orderly.waiting.waits k (sym (c.of.waits (after_all v.events) k) ∙ h) });
    syncs = filter_map-append syncs_ticket v.events (e ∷ []) ∙ ap (λ l. filter_map syncs_ticket v.events ++ l) c.of.begins_none ∙ append-nil (filter_map syncs_ticket v.events) ∙ c.kept.orderly.syncs;
    acks = acks_more v.events (e ∷ []) v.replies v.replies v.acks now.commands c.kept.orderly.acks c.kept.commands (no_more_synced c);
    reached = reached_more v.events (e ∷ []) v.acks now.commands now.commands c.kept.orderly.reached (omega arith) (omega (arith, ap length c.of.stepless))
        (λ t h. absurd (let none = sym (ap (λ l. list_any (λ x. x == t) l) c.of.answers_none) ∙ h in cc))
        (λ t. omega (arith, count_after (answers t) step_to (e ∷ []), ap length c.of.stepless));
    faults = faults_same v.events (e ∷ []) v.history v.replies v.kept first.faults now.faults (λ owner. no_step_owned (after_all v.events) owner (e ∷ []) c.of.stepless) (no_step_no_fault (e ∷ []) c.of.stepless) c.kept.orderly.faults;
    marks = marks_more (greatest_session v.fixed.script) who v.history v.history v.replies v.replies (after_all v.events) (after_all (v.events ++ e ∷ [])) v.kept v.kept v.marks (kind ∷ []) c.kept.orderly.marks (marks_are c);
    limits = c.kept.orderly.limits;
    untold = c.kept.orderly.untold;
    cached = cache;
  }

  more_all : CanDrain → (w : ℕ) → phase w (v.marks ++ map (mark who) (kind ∷ [])) ≡ draining → length (places_of w (v.marks ++ map (mark who) (kind ∷ []))) < length (calls_of v.fixed.script w)
  more_all c w h =
      let same = ap length (places_more who w v.marks (kind ∷ []) ∙ ap (λ l. places_of w v.marks ++ l) (no_place c (who == w)) ∙ append-nil (places_of w v.marks)) in
      omega (arith, same, by (who == w) refl (sym (phase_more who w v.marks (kind ∷ [])) ∙ h))
    where
      by : (b : Bool) → (who == w) ≡ b → fold after (phase w v.marks) (cond b (kind ∷ []) []) ≡ draining → length (places_of w v.marks) < length (calls_of v.fixed.script w)
      by true is h = subst (λ n. after (phase n v.marks) kind ≡ draining → length (places_of n v.marks) < length (calls_of v.fixed.script n)) (eqb-true who w is) c.more h
      by false is h = c.kept.more w h

  -- a drain that begins or rests keeps the order
  pub draining_keeps : CanDrain → (next : Option Moment) (on : Option ℕ) (standing : List Op) (cached : List Kept) → map headed standing ≡ ops (after_all (v.events ++ e ∷ [])) → IsCache (v.events ++ e ∷ []) cached → IsKeptOrder first now (drained_view next on standing cached)
  draining_keeps c next on standing cached stand cache = record {
    orderly = orderly c next on standing cached stand cache;
    sessions = c.kept.sessions;
    count = c.kept.count;
    done = c.kept.done;
    rising = subst (λ (s : State). is_rising (synced_places v.replies ++ tickets s.syncs) ≡ true) (sym state_is)
        (subst (λ l. is_rising (synced_places v.replies ++ tickets l) ≡ true) (sym (c.of.syncs (after_all v.events))) c.kept.rising);
    commands = commands_more (e ∷ []) v.acks now.commands now.commands (omega arith) c.kept.commands;
    apart = λ k. subst (λ (s : State). (list_any (wants_it k) s.requests && list_any (syncs_it k) s.syncs) ≡ false) (sym state_is)
        (ap (λ (l : List Request). list_any (wants_it k) l && list_any (syncs_it k) (after_event (after_all v.events) e).syncs) (c.of.requests (after_all v.events))
        ∙ ap (λ (l : List Waiter). list_any (wants_it k) (after_all v.events).requests && list_any (syncs_it k) l) (c.of.syncs (after_all v.events)) ∙ c.kept.apart k);
    once = once_all c;
    more = more_all c;
    course = course_more who v.marks (kind ∷ []) (and_from (goes_on (phase who v.marks) kind) true c.comes refl) c.kept.course;
  }

-- ---- how often a session drains

-- one more drain counts for its own session alone
pub drains_more : (w who : ℕ) (drains : List ℕ) → length (filter (λ v. v == w) (drains ++ who ∷ [])) ≡ length (filter (λ v. v == w) drains) + cond (who == w) 1 0
drains_more w who drains = ap length (filter-append (λ v. v == w) drains (who ∷ [])) ∙ length-append (filter (λ v. v == w) drains) (filter (λ v. v == w) (who ∷ [])) ∙ ap (λ n. length (filter (λ v. v == w) drains) + n) (one (who == w))
  where
    one : (b : Bool) → length (cond b (who ∷ []) []) ≡ cond b 1 0
    one true = refl
    one false = refl

-- without a session's drains that session has none, and the others have theirs
pub drains_less : (w who : ℕ) (drains : List ℕ) → length (filter (λ v. v == w) (filter (λ v. not (v == who)) drains)) ≡ cond (who == w) 0 (length (filter (λ v. v == w) drains))
drains_less w who [] = by (who == w)
  where
    by : (b : Bool) → ◌≡◌ {A = ℕ} 0 (cond b 0 0)
    by true = refl
    by false = refl
drains_less w who (x ∷ drains) = by (x == who) refl (who == w) refl (drains_less w who drains)
  where
    rest : List ℕ
    rest = filter (λ v. not (v == who)) drains

    by : (b : Bool) → (x == who) ≡ b → (c : Bool) → (who == w) ≡ c → length (filter (λ v. v == w) (filter (λ v. not (v == who)) drains)) ≡ cond (who == w) 0 (length (filter (λ v. v == w) drains))
        → length (filter (λ v. v == w) (cond (not b) (x ∷ filter (λ v. not (v == who)) drains) (filter (λ v. not (v == who)) drains))) ≡ cond (who == w) 0 (length (cond (x == w) (x ∷ filter (λ v. v == w) drains) (filter (λ v. v == w) drains)))
    by true is true isw more = more ∙ ap (λ b. cond b 0 (length (filter (λ v. v == w) drains))) isw ∙ sym (ap (λ b. cond b 0 (length (cond (x == w) (x ∷ filter (λ v. v == w) drains) (filter (λ v. v == w) drains)))) isw)
    by true is false isw more =
        let other : (x == w) ≡ false = subst (λ n. (n == w) ≡ false) (sym (eqb-true x who is)) isw in
        more ∙ sym (ap (λ b. cond (who == w) 0 (length (cond b (x ∷ filter (λ v. v == w) drains) (filter (λ v. v == w) drains)))) other)
    by false is true isw more =
        let other : (x == w) ≡ false = subst (λ n. (x == n) ≡ false) (eqb-true who w isw) is in
        ap (λ b. length (cond b (x ∷ filter (λ v. v == w) (filter (λ v. not (v == who)) drains)) (filter (λ v. v == w) (filter (λ v. not (v == who)) drains)))) other ∙ more
        ∙ sym (ap (λ b. cond (who == w) 0 (length (cond b (x ∷ filter (λ v. v == w) drains) (filter (λ v. v == w) drains)))) other)
    by false is false isw more = at (x == w) (more ∙ ap (λ b. cond b 0 (length (filter (λ v. v == w) drains))) isw) ∙ sym (ap (λ b. cond b 0 (length (cond (x == w) (x ∷ filter (λ v. v == w) drains) (filter (λ v. v == w) drains)))) isw)
      where
        at : (d : Bool) → length (filter (λ v. v == w) (filter (λ v. not (v == who)) drains)) ≡ length (filter (λ v. v == w) drains)
            → length (cond d (x ∷ filter (λ v. v == w) (filter (λ v. not (v == who)) drains)) (filter (λ v. v == w) (filter (λ v. not (v == who)) drains))) ≡ length (cond d (x ∷ filter (λ v. v == w) drains) (filter (λ v. v == w) drains))
        at true e = ap suc e
        at false e = e

-- ---- a reply that is handed out

module _ {D : Type 0} (first now : Drive) (v : View D) (who ticket : ℕ) (reply : Reply) where
  -- a session waits for a ticket, and the reply of that ticket is there
  pub record CanHand : Type 0 where
    pub kept : IsKeptOrder first now v
    pub waiting : phase who v.marks ≡ waits ticket
    pub there : slice_get v.replies ticket ≡ Some (Some reply)

  -- the volume with one more mark, of the reply that is handed out
  abbrev pub handed_view : View D
  handed_view = record v { marks = v.marks ++ map (mark who) (hands ticket reply ∷ []) }

  idle_then : CanHand → (w : ℕ) → (who == w) ≡ true → after (phase w v.marks) (hands ticket reply) ≡ idle
  idle_then c w is =
      ap (λ ph. after ph (hands ticket reply)) (subst (λ n. phase n v.marks ≡ waits ticket) (eqb-true who w is) c.waiting) ∙ ap (λ b. cond b idle (waits ticket)) (eq-eqb ticket ticket refl)

  was : CanHand → (w : ℕ) → IsOwed (phase w v.marks) (owed (after_all v.events) v.kept w)
  was c w = to_owed (greatest_session v.fixed.script) v.history v.replies (after_all v.events) v.kept v.marks c.kept.orderly.marks w

  hand_owes : CanHand → (w : ℕ) → IsOwed (fold after (phase w v.marks) (cond (who == w) (hands ticket reply ∷ []) [])) (owed (after_all v.events) v.kept w)
  hand_owes c w = by (who == w) refl
    where
      by : (b : Bool) → (who == w) ≡ b → IsOwed (fold after (phase w v.marks) (cond b (hands ticket reply ∷ []) [])) (owed (after_all v.events) v.kept w)
      by false is = was c w
      by true is = record {
        drains = λ e. absurd (let h : idle ≡ draining = sym (idle_then c w is) ∙ e in cc);
        drained = λ some. absurd (let h : waits ticket ≡ draining = sym (subst (λ n. phase n v.marks ≡ waits ticket) (eqb-true who w is) c.waiting) ∙ (was c w).drained some in cc);
      }

  hand_marks : CanHand → AreMore (greatest_session v.fixed.script) who v.history v.history v.replies v.replies (after_all v.events) v.kept v.marks (hands ticket reply ∷ [])
  hand_marks c = record {
    who_is = marked (λ w. (1 ≤ w) × (w ≤ greatest_session v.fixed.script)) who v.marks c.kept.orderly.marks.sessions_are (λ rests. let h : waits ticket ≡ idle = sym c.waiting ∙ rests in cc);
    places = λ w. sym (none w (who == w));
    stay = λ k r h. h;
    handed = λ k r has. only k r has;
    owes = hand_owes c;
    once = c.kept.once;
  }
    where
      none : (w : ℕ) (b : Bool) → placed_by w v.history ++ filter_map place_in (cond b (hands ticket reply ∷ []) []) ≡ placed_by w v.history
      none w true = append-nil (placed_by w v.history)
      none w false = append-nil (placed_by w v.history)

      only : (k : ℕ) (r : Reply) → Contains (filter_map hand_in (hands ticket reply ∷ [])) (k, r) → slice_get v.replies k ≡ Some (Some r)
      only k r (zero, less, is) = subst (λ (e : ℕ × Reply). slice_get v.replies e.0 ≡ Some (Some e.1)) is c.there
      only k r (suc n, less, is) = absurd (omega (arith, less))

  hand_more : CanHand → (w : ℕ) → phase w (v.marks ++ map (mark who) (hands ticket reply ∷ [])) ≡ draining
      → length (places_of w (v.marks ++ map (mark who) (hands ticket reply ∷ []))) < length (calls_of v.fixed.script w)
  hand_more c w h = by (who == w) refl (sym (phase_more who w v.marks (hands ticket reply ∷ [])) ∙ h) (places_more who w v.marks (hands ticket reply ∷ []))
    where
      by : (b : Bool) → (who == w) ≡ b → fold after (phase w v.marks) (cond b (hands ticket reply ∷ []) []) ≡ draining
          → places_of w (v.marks ++ map (mark who) (hands ticket reply ∷ [])) ≡ places_of w v.marks ++ filter_map place_in (cond b (hands ticket reply ∷ []) [])
          → length (places_of w (v.marks ++ map (mark who) (hands ticket reply ∷ []))) < length (calls_of v.fixed.script w)
      by true is e same = absurd (let h : idle ≡ draining = sym (idle_then c w is) ∙ e in cc)
      by false is e same = omega (arith, c.kept.more w e, ap length (same ∙ append-nil (places_of w v.marks)))

  -- a reply that is handed out keeps the order
  pub handing_keeps : CanHand → IsKeptOrder first now handed_view
  handing_keeps c = record {
    orderly = record {
      placed = c.kept.orderly.placed;
      moments = c.kept.orderly.moments;
      trail = c.kept.orderly.trail;
      standing = c.kept.orderly.standing;
      waiting = c.kept.orderly.waiting;
      syncs = c.kept.orderly.syncs;
      acks = c.kept.orderly.acks;
      reached = c.kept.orderly.reached;
      faults = c.kept.orderly.faults;
      marks = marks_more (greatest_session v.fixed.script) who v.history v.history v.replies v.replies (after_all v.events) (after_all v.events) v.kept v.kept v.marks (hands ticket reply ∷ []) c.kept.orderly.marks (hand_marks c);
      limits = c.kept.orderly.limits;
      untold = c.kept.orderly.untold;
      cached = c.kept.orderly.cached;
    };
    sessions = c.kept.sessions;
    count = c.kept.count;
    done = c.kept.done;
    apart = c.kept.apart;
    rising = c.kept.rising;
    commands = c.kept.commands;
    once = c.kept.once;
    more = hand_more c;
    course = course_more who v.marks (hands ticket reply ∷ [])
        (ap (λ ph. is_course_from ph (hands ticket reply ∷ [])) c.waiting ∙ and_from (ticket == ticket) true (eq-eqb ticket ticket refl) refl) c.kept.course;
  }
