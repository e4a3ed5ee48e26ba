-- What is kept of a trail as an event comes.
use Rattle.std.specs.Prelude.{◌≡◌, ◌==◌, ◌&&◌, ◌||◌, not, ℕ, ◌+◌, ◌-◌, ◌*◌, ◌≤◌, Bool, true, false, cond, List, []}
use Rattle.std.specs.Prelude.{◌∷◌, ◌++◌, length, filter, fold, map, drop, min, Option, Some, None, nat_le, vec_len}
use Rattle.std.specs.Prelude.{vec_capacity}
use Rattle.std.specs.List.{list_any}
use Rattle.std.proofs.Common.{refl, sym, ap, subst, ◌∙◌, arith, length-append}
use Rattle.std.proofs.lemmas.Bool.{eq-eqb}
use Rattle.std.proofs.lemmas.List.{length-map, map-append}
use Rattle.std.proofs.lemmas.List.Sums.{fold-append}
use Rattle.std.proofs.lemmas.List.Filters.{length-filter_both}
use Rattle.tape_types.specs.declared.cartridges.Place.{Place}
use Rattle.tape_types.specs.declared.cartridges.Twin.{Twin}
use Rattle.session_script.specs.declared.logs.Event.{Event}
use Rattle.session_script.specs.declared.logs.Event.TheVariants.{Wants, Queues, Syncs, Synced, Drains, Rests, Served}
use Rattle.session_script.specs.declared.logs.Event.TheVariants.{Worked}
use Rattle.head_queue.specs.EventLaws.Load.{load}
use Rattle.head_queue.specs.EventLaws.Trail.{after, after_all, after_op, allows, is_answered, is_trail_from, without_first_op}
use Rattle.head_queue.specs.EventLaws.Trail.{without_first_waiter}
use Rattle.head_queue.specs.EventLaws.Waiting.{Op, State, start, ops, waiting_op, with_flushes}
use Rattle.head_queue.specs.EventLaws.Waiting as waiting
use Rattle.head_queue.proofs.EventLaws.TrailLaw.{first_of as left_of, second_of as right_of}
use Rattle.head_queue.proofs.EventLaws.LoadLaw.{fewer, steps_lower_the_load, trails_change_the_load}
use Rattle.head_queue.proofs.EventLaws.OpLaw.{all_wait, done_more, ever, ever_one, ops_done, ops_queued}
use Rattle.promises.specs.ServingPromise.Steps.{without_session}
use Rattle.event_journal.specs.declared.trails.KeptFault.{KeptFault}
use Rattle.event_journal.specs.declared.trails.SyncWait.{SyncWait}
use Rattle.event_journal.specs.declared.trails.Trail.TheInside.{Inside}
use Rattle.event_journal.specs.Trails.{IsTracked, acks_of, asked_by, kept_as, drains_left, due_of}
use Rattle.event_journal.specs.Trails.{due_ticket, kept_from, waiter_of, waiters_of}

-- ---- trails

and_true : (a b : Bool) → a ≡ true → b ≡ true → (a && b) ≡ true
and_true true b e f = f
and_true false b e f = cc

or_right : (a b : Bool) → b ≡ true → (a || b) ≡ true
or_right true b e = refl
or_right false b e = e

trail_more : (st : State) (events : List Event) (e : Event) → is_trail_from st events ≡ true
    → allows (fold after st events) e ≡ true
    → is_trail_from st (events ++ e ∷ []) ≡ true
trail_more st [] e trail may = and_true (allows st e) true may refl
trail_more st (x ∷ xs) e trail may = and_true (allows st x) (is_trail_from (after st x) (xs ++ e ∷ []))
    (left_of (allows st x) (is_trail_from (after st x) xs) trail)
    (trail_more (after st x) xs e (right_of (allows st x) (is_trail_from (after st x) xs) trail) may)

after_more : (events : List Event) (e : Event) → after_all (events ++ e ∷ []) ≡ after (after_all events) e
after_more events e = fold-append after start events (e ∷ [])

-- ---- the load

answered_any : (st : State) (ticket : ℕ) (syncs : List waiting.Waiter) → is_answered st ticket syncs ≡ true
    → list_any (λ s. s.ticket == ticket) syncs ≡ true
answered_any st ticket [] h = cc
answered_any st ticket (s ∷ more) h =
    ap (λ b. b || list_any (λ s. s.ticket == ticket) more) (left_of (s.ticket == ticket) (nat_le s.due st.done) h)

synced_one : (st : State) (ticket : ℕ) → allows st (Synced ticket) ≡ true
    → length (filter (λ s. not (s.ticket == ticket)) st.syncs) + 1 ≤ length st.syncs
synced_one st ticket may =
    fewer (λ s. s.ticket == ticket) st.syncs
    (answered_any st ticket st.syncs (left_of (is_answered st ticket st.syncs) _ may))

rests_one : (st : State) (who : ℕ) → allows st (Rests who) ≡ true
    → length (filter (λ w. not (w == who)) st.drains) + 1 ≤ length st.drains
rests_one st who may = fewer (λ w. w == who) st.drains
    (right_of (nat_le (length (ops st)) 64) (list_any (λ w. w == who) st.drains)
    (left_of (nat_le (length (ops st)) 64 && list_any (λ w. w == who) st.drains) _ may))

asks_one : (st : State) (e : Event) → allows st e ≡ true → is_trail_from st (e ∷ []) ≡ true
asks_one st e may = and_true (allows st e) true may refl

-- an event that asks for something leaves one more to do at most, and any other one less at least
load_behind : (st : State) (e : Event) → allows st e ≡ true → load (after st e) + 1 ≤ load st + 2 * asked_by e
load_behind st (Wants ticket place) may =
    omega (arith, trails_change_the_load st (Wants ticket place ∷ []) (asks_one st (Wants ticket place) may))
load_behind st (Queues place) may =
    omega (arith, trails_change_the_load st (Queues place ∷ []) (asks_one st (Queues place) may))
load_behind st (Syncs ticket) may =
    omega (arith, trails_change_the_load st (Syncs ticket ∷ []) (asks_one st (Syncs ticket) may))
load_behind st (Drains who) may =
    omega (arith, trails_change_the_load st (Drains who ∷ []) (asks_one st (Drains who) may))
load_behind st (Synced ticket) may = omega (arith, synced_one st ticket may)
load_behind st (Rests who) may = omega (arith, rests_one st who may)
load_behind st (Served ticket place fault) may =
    omega (arith, steps_lower_the_load st (Served ticket place fault) may (λ no. no))
load_behind st (Worked place fault) may = omega (arith, steps_lower_the_load st (Worked place fault) may (λ no. no))

-- there is something to do, or the event asks for more
pub some_left : (events : List Event) (bound : ℕ) (e : Event) → load (after_all events) ≤ bound
    → allows (after_all events) e ≡ true
    → 1 ≤ bound + 2 * asked_by e
some_left events bound e low may = omega (arith, load_behind (after_all events) e may, low)

-- ---- what is due

due_is : (st : State) (ticket : ℕ) (syncs : List waiting.Waiter) → due_of st.done syncs ≡ Some ticket
    → is_answered st ticket syncs ≡ true
due_is st ticket [] e = absurd (let no : None ≡ Some ticket = e in cc)
due_is st ticket (s ∷ more) e = by (nat_le s.due st.done) refl e
  where
    by : (b : Bool) → nat_le s.due st.done ≡ b → cond b (Some s.ticket) None ≡ Some ticket
        → (s.ticket == ticket && nat_le s.due st.done) ≡ true
    by true is some = let same : s.ticket ≡ ticket =
        cc in and_true (s.ticket == ticket) (nat_le s.due st.done)
        (subst (λ t. (s.ticket == t) ≡ true) same (eq-eqb s.ticket s.ticket refl)) is
    by false is some = absurd (let no : None ≡ Some ticket = some in cc)

-- the sync that is due may be answered
pub due_may_come : (st : State) (ticket : ℕ) → due_ticket st ≡ Some ticket → allows st (Synced ticket) ≡ true
due_may_come st ticket e =
    and_true (is_answered st ticket st.syncs) _ (due_is st ticket st.syncs e) (or_right _ true refl)

-- ---- who waits once an event has come

-- the syncs that wait: one more with all ops that were queued, or fewer
abbrev pub syncs_behind : ℕ → Event → List SyncWait → List SyncWait
syncs_behind queued (Syncs ticket) syncs = syncs ++ record { ticket = ticket; due = queued } ∷ []
syncs_behind queued (Synced ticket) syncs = filter (λ s. not (s.ticket == ticket)) syncs
syncs_behind queued (Worked place (Some counts)) syncs = drop 1 syncs
syncs_behind queued _ syncs = syncs

-- the sessions that drain
abbrev pub drains_behind : Event → List SyncWait → List ℕ → List ℕ
drains_behind (Drains who) syncs drains = drains ++ who ∷ []
drains_behind (Rests who) syncs drains = filter (λ w. not (w == who)) drains
drains_behind (Worked place (Some counts)) syncs drains = drains_left syncs drains
drains_behind _ syncs drains = drains

-- the fault that is kept for one of them
abbrev pub kept_behind : Event → List SyncWait → List ℕ → List (ℕ × Twin)
kept_behind (Worked place (Some counts)) syncs drains = kept_from syncs drains counts
kept_behind _ syncs drains = []

filter_waiters : (ticket : ℕ) (syncs : List SyncWait)
    → map waiter_of (filter (λ s. not (s.ticket == ticket)) syncs)
    ≡ filter (λ s. not (s.ticket == ticket)) (map waiter_of syncs)
filter_waiters ticket [] = refl
filter_waiters ticket (s ∷ syncs) = by (not (s.ticket == ticket)) (filter_waiters ticket syncs) refl
  where
    by : (b : Bool) → map waiter_of (filter (λ s. not (s.ticket == ticket)) syncs)
        ≡ filter (λ s. not (s.ticket == ticket)) (map waiter_of syncs)
        → not (s.ticket == ticket) ≡ b
        → map waiter_of (filter (λ s. not (s.ticket == ticket)) (s ∷ syncs))
        ≡ filter (λ s. not (s.ticket == ticket)) (map waiter_of (s ∷ syncs))
    by true more is = rw (is, more) refl
    by false more is = rw (is, more) refl

after_first : (ended : List Op) (st : State) → st.ended ≡ ended
    → ((without_first_op st).syncs ≡ st.syncs) × ((without_first_op st).drains ≡ st.drains)
after_first [] st is = (rw is refl, rw is refl)
after_first (op ∷ more) st is = (rw is refl, rw is refl)

done_keeps : (st : State) (waits : Option Op)
    → ((after_op waits st).syncs ≡ st.syncs) × ((after_op waits st).drains ≡ st.drains)
done_keeps st None = (refl, refl)
done_keeps st (Some op) = after_first st.ended st refl

waiters_left : (before : List SyncWait) (st : State) → map waiter_of before ≡ st.syncs
    → (map waiter_of (drop 1 before) ≡ (without_first_waiter st).syncs) ×
    (drains_left before st.drains ≡ (without_first_waiter st).drains)
waiters_left [] st is = (rw (sym is) refl, rw (sym is) refl)
waiters_left (s ∷ more) st is = (rw (sym is) refl, rw (sym is) refl)

syncs_shown : (st : State) (e : Event) (queued : ℕ) (syncs : List SyncWait) → map waiter_of syncs ≡ st.syncs
    → queued ≡ ever st
    → map waiter_of (syncs_behind queued e syncs) ≡ (after st e).syncs
syncs_shown st (Wants ticket place) queued syncs is all = is
syncs_shown st (Queues place) queued syncs is all = is
syncs_shown st (Syncs ticket) queued syncs is all =
    let due : queued ≡ st.done + length (st.ended ++ with_flushes st.group) = omega (arith, all, all_wait st) in
    map-append waiter_of syncs (record { ticket = ticket; due = queued } ∷ []) ∙ rw (is, due) refl
syncs_shown st (Synced ticket) queued syncs is all =
    filter_waiters ticket syncs ∙ ap (filter (λ s. not (s.ticket == ticket))) is
syncs_shown st (Drains who) queued syncs is all = is
syncs_shown st (Rests who) queued syncs is all = is
syncs_shown st (Served ticket place None) queued syncs is all = is
syncs_shown st (Served ticket place (Some counts)) queued syncs is all = is
syncs_shown st (Worked place None) queued syncs is all = is ∙ sym (done_keeps st (waiting_op st)).0
syncs_shown st (Worked place (Some counts)) queued syncs is all = (waiters_left syncs st is).0

drains_shown : (st : State) (e : Event) (syncs : List SyncWait) (drains : List ℕ) → map waiter_of syncs ≡ st.syncs
    → drains ≡ st.drains
    → drains_behind e syncs drains ≡ (after st e).drains
drains_shown st (Wants ticket place) syncs drains are is = is
drains_shown st (Queues place) syncs drains are is = is
drains_shown st (Syncs ticket) syncs drains are is = is
drains_shown st (Synced ticket) syncs drains are is = is
drains_shown st (Drains who) syncs drains are is = ap (λ ws. ws ++ who ∷ []) is
drains_shown st (Rests who) syncs drains are is = ap (filter (λ w. not (w == who))) is
drains_shown st (Served ticket place None) syncs drains are is = is
drains_shown st (Served ticket place (Some counts)) syncs drains are is = is
drains_shown st (Worked place None) syncs drains are is = is ∙ sym (done_keeps st (waiting_op st)).1
drains_shown st (Worked place (Some counts)) syncs drains are is =
    ap (drains_left syncs) is ∙ (waiters_left syncs st are).1

-- ---- room

fewer_syncs : (syncs : List SyncWait) → length (drop 1 syncs) ≤ length syncs
fewer_syncs [] = omega arith
fewer_syncs (s ∷ syncs) = omega arith

-- each sync that waits has room for its acknowledgement
syncs_fit : (st : State) (e : Event) (commands queued : ℕ) (syncs : List SyncWait) → map waiter_of syncs ≡ st.syncs
    → allows st e ≡ true
    → length (syncs_behind queued e syncs) + length (acks_of commands e) ≤ length syncs + waiters_of e
syncs_fit st (Syncs ticket) commands queued syncs is may =
    omega (arith, length-append syncs (record { ticket = ticket; due = queued } ∷ []))
syncs_fit st (Synced ticket) commands queued syncs is may =
    let left : length (filter (λ s. not (s.ticket == ticket)) syncs)
    ≡ length (filter (λ s. not (s.ticket == ticket)) st.syncs) =
    sym (length-map (filter (λ s. not (s.ticket == ticket)) syncs) waiter_of)
    ∙ ap length (filter_waiters ticket syncs ∙ ap (filter (λ s. not (s.ticket == ticket))) is) in
    let were : length syncs ≡ length st.syncs = sym (length-map syncs waiter_of) ∙ ap length is in
    omega (arith, left, were, synced_one st ticket may)
syncs_fit st (Worked place (Some counts)) commands queued syncs is may = omega (arith, fewer_syncs syncs)
syncs_fit st _ commands queued syncs is may = omega arith

-- and each session that drains has room for a fault
drains_fit : (e : Event) (syncs : List SyncWait) (drains : List ℕ)
    → length (drains_behind e syncs drains) + length (kept_behind e syncs drains) ≤ length drains + waiters_of e
drains_fit (Drains who) syncs drains = omega (arith, length-append drains (who ∷ []))
drains_fit (Rests who) syncs drains =
    omega (arith, length-filter_both (λ w. w == who) (λ w. not (w == who)) (λ w. refl) drains)
drains_fit (Worked place (Some counts)) (s ∷ more) drains = omega arith
drains_fit (Worked place (Some counts)) [] [] = omega arith
drains_fit (Worked place (Some counts)) [] (who ∷ drains) = omega arith
drains_fit _ syncs drains = omega arith

one_queued : (e : Event) → ops_queued e ≤ 1
one_queued (Queues place) = omega arith
one_queued _ = omega arith

-- for how many more waiters there is room
abbrev pub free : Inside → ℕ
free a = min
    (min (vec_capacity a.syncs - vec_len a.syncs) (vec_capacity a.acks - vec_len a.acks - vec_len a.syncs))
    (min (vec_capacity a.drains - vec_len a.drains) (vec_capacity a.kept - vec_len a.kept - vec_len a.drains))

-- ---- an event is written down

-- what an event makes of all that is kept beside the events
pub record IsMoved (e : Event) (commands bound : ℕ) (old new : Inside) : Type 0 where
  pub events : new.events ≡ old.events
  pub syncs : new.syncs.items ≡ syncs_behind old.queued e old.syncs.items
  pub drains : new.drains.items ≡ drains_behind e old.syncs.items old.drains.items
  pub queued : new.queued ≡ old.queued + ops_queued e
  pub done : new.done ≡ old.done + ops_done e
  pub bound_is : new.bound ≡ bound
  pub acks : new.acks.items ≡ old.acks.items ++ acks_of commands e
  pub kept : map kept_as new.kept.items ≡ map kept_as old.kept.items ++ kept_behind e old.syncs.items old.drains.items
  pub for_acks : vec_capacity old.acks ≤ vec_capacity new.acks
  pub for_kept : vec_capacity old.kept ≤ vec_capacity new.kept

-- all that is kept beside the events is right
abbrev pub Tracked : Inside → Type 0
Tracked a = IsTracked a.events.items a.syncs.items a.drains.items a.queued a.done a.head a.bound
    (vec_capacity a.events - vec_len a.events) (vec_capacity a.acks - vec_len a.acks)
    (vec_capacity a.kept - vec_len a.kept)

-- an event that is written down leaves all that is kept beside it right
pub written_tracked : (e : Event) (commands bound : ℕ) (old new : Inside) (now : List Event) (head : Place) (left : ℕ)
    → Tracked old → allows (after_all old.events.items) e ≡ true → IsMoved e commands bound old new
    → bound + 1 ≡ old.bound + 2 * asked_by e
    → now ≡ new.events.items ++ e ∷ [] → head ≡ (after (after_all old.events.items) e).head
    → waiters_of e ≤ free old → 2 * asked_by e ≤ vec_capacity old.events - vec_len old.events - old.bound
    → vec_capacity old.events - vec_len old.events ≤ left + 1
    → IsTracked now new.syncs.items new.drains.items new.queued new.done head new.bound left
    (vec_capacity new.acks - vec_len new.acks) (vec_capacity new.kept - vec_len new.kept)
written_tracked e commands bound old new now head left h may m bound_is is head_is waits enough less =
    let st : State = after_all old.events.items in
    let now_is : now ≡ old.events.items ++ e ∷ [] = is ∙ ap (λ es. es.items ++ e ∷ []) m.events in
    let then : after_all now ≡ after st e = ap after_all now_is ∙ after_more old.events.items e in
    let low : load (after st e) ≤ new.bound = omega (arith, load_behind st e may, h.bounded, m.bound_is, bound_is) in
    let queued_is : new.queued ≡ ever (after st e) = omega (arith, m.queued, h.queued_is, ever_one st e) in
    record {
      trail = subst (λ es. is_trail_from start es ≡ true) (sym now_is)
          (trail_more start old.events.items e h.trail may);
      syncs_are = ap (map waiter_of) m.syncs ∙ syncs_shown st e old.queued old.syncs.items h.syncs_are h.queued_is
          ∙ ap (λ (s : State). s.syncs) (sym then);
      drains_are = m.drains ∙ drains_shown st e old.syncs.items old.drains.items h.syncs_are h.drains_are
          ∙ ap (λ (s : State). s.drains) (sym then);
      queued_is = queued_is ∙ ap ever (sym then);
      few = omega (arith, m.queued, one_queued e, h.few, ap length now_is, length-append old.events.items (e ∷ []));
      done_is = m.done ∙ ap (λ (n : ℕ). n + ops_done e) h.done_is ∙ sym (done_more st e may)
          ∙ ap (λ (s : State). s.done) (sym then);
      head_is = head_is ∙ ap (λ (s : State). s.head) (sym then);
      bounded = subst (λ s. load s ≤ new.bound) (sym then) low;
      room = omega (arith, load_behind st e may, h.bounded, h.room, m.bound_is, bound_is, enough, less);
      acks = omega (
        arith,
        syncs_fit st e commands old.queued old.syncs.items h.syncs_are may,
        ap length m.syncs,
        h.acks,
        waits,
        m.for_acks,
        ap length m.acks,
        length-append old.acks.items (acks_of commands e),
      );
      kept = omega (
        arith,
        drains_fit e old.syncs.items old.drains.items,
        ap length m.drains,
        h.kept,
        waits,
        m.for_kept,
        ap length m.kept,
        length-append (map kept_as old.kept.items) (kept_behind e old.syncs.items old.drains.items),
        length-map new.kept.items kept_as,
        length-map old.kept.items kept_as,
      );
    }

-- ---- faults that are kept

-- without a session's faults those of the others are kept
pub kept_left : (who : ℕ) (kept left : List KeptFault) (shown : List (ℕ × Twin))
    → left ≡ filter (λ k. not (k.who == who)) kept → map kept_as kept ≡ shown
    → map kept_as left ≡ without_session who shown
kept_left who kept left shown is are = ap (map kept_as) is ∙ by kept ∙ ap (without_session who) are
  where
    one : (k : KeptFault) (rest : List KeptFault)
        → map kept_as (filter (λ k. not (k.who == who)) rest) ≡ without_session who (map kept_as rest)
        → (b : Bool) → not (k.who == who) ≡ b
        → map kept_as (filter (λ k. not (k.who == who)) (k ∷ rest)) ≡ without_session who (map kept_as (k ∷ rest))
    one k rest more true is = rw (is, more) refl
    one k rest more false is = rw (is, more) refl

    by : (ks : List KeptFault)
        → map kept_as (filter (λ k. not (k.who == who)) ks) ≡ without_session who (map kept_as ks)
    by [] = refl
    by (k ∷ ks) = one k ks (by ks) (not (k.who == who)) refl
