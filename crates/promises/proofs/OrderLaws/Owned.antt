-- What the events of a submission say.
use Rattle.std.specs.Prelude.{◌≡◌, ◌==◌, ◌&&◌, ◌||◌, not, ℕ, ◌+◌, nat_lt, Bool, true, false, cond, List, [], ◌∷◌, ◌++◌, filter, filter_map, fold, length, map, Option, Some, None}
use Rattle.std.specs.List.{list_all, list_any}
use Rattle.std.proofs.Common.{refl, sym, ap, subst, ◌∙◌, append-nil, append_assoc}
use Rattle.std.proofs.lemmas.Bool.{and_from, and_parts, both_ways, eq-eqb, or_from, and_right}
use Rattle.std.proofs.lemmas.List.{map-append}
use Rattle.std.proofs.lemmas.List.Elements.{filter_map-append}
use Rattle.std.proofs.lemmas.List.Folds.{list_all-append, list_any-append}
use Rattle.std.proofs.lemmas.List.Sums.{fold-append}
use Rattle.tape_types.specs.declared.cartridges.Place.{Place}
use Rattle.plain_tree.specs.History.{Calls, call_at}
use Rattle.plain_tree.specs.declared.calls.Call.{Call}
use Rattle.plain_tree.specs.declared.calls.Call.TheVariants.{Sync, Read, Write}
use Rattle.plain_tree.specs.declared.calls.Fate.{Fate}
use Rattle.plain_tree.specs.declared.calls.Fate.TheVariants as fates
use Rattle.plain_tree.specs.declared.calls.Placed.{Placed}
use Rattle.session_script.specs.declared.logs.Event.{Event}
use Rattle.session_script.specs.declared.logs.Event.TheVariants.{Wants, Queues, Syncs, Synced, Drains, Rests, Served, Worked}
use Rattle.head_queue.specs.EventLaws.Trail.{after, after_all, allows, is_trail_from}
use Rattle.head_queue.specs.EventLaws.Waiting.{Op, State, Waiter, ops, with_flushes}
use Rattle.promises.specs.ServingPromise.Acks.{answers, done_syncs, synced_ticket, syncs_ticket}
use Rattle.promises.specs.ServingPromise.Served.{is_waiting}
use Rattle.promises.specs.ServingPromise.Submits.{IsOfDone, IsOfFate, queues_at, synced_at}
use Rattle.promises.specs.OrderLaws.Kept.{is_rising}
use Rattle.promises.proofs.OrderLaws.Frames.{is_own, is_turning, syncs_it, wants_it}
use Rattle.promises.proofs.OrderLaws.Placing.{done_push_other, done_push_sync}
use Rattle.promises.proofs.OrderLaws.Rising.{rising_push}
use Rattle.promises.proofs.OrderLaws.Turning.{tickets, turns_rise}

-- ---- trails

-- two lists make a trail just if the first does, and the second does from where it ends
pub trail_more : (st : State) (xs ys : List Event) → is_trail_from st (xs ++ ys) ≡ (is_trail_from st xs && is_trail_from (fold after st xs) ys)
trail_more st [] ys = refl
trail_more st (e ∷ xs) ys = by (allows st e) (trail_more (after st e) xs ys)
  where
    by : (b : Bool) → is_trail_from (after st e) (xs ++ ys) ≡ (is_trail_from (after st e) xs && is_trail_from (fold after (after st e) xs) ys)
        → (b && is_trail_from (after st e) (xs ++ ys)) ≡ ((b && is_trail_from (after st e) xs) && is_trail_from (fold after (after st e) xs) ys)
    by true more = more
    by false more = refl

-- the state after two lists of events is the second's from where the first ends
pub after_more : (events added : List Event) → after_all (events ++ added) ≡ fold after (after_all events) added
after_more events added = fold-append after Rattle.head_queue.specs.EventLaws.Waiting.start events added

-- ---- requests and ops

abbrev is_plain : ℕ → Event → Bool
is_plain here (Wants ticket place) = ticket == here
is_plain here (Queues place) = true
is_plain here _ = false

record IsPlain (here : ℕ) (events : List Event) : Type 0 where
  own : list_all (is_own here) events ≡ true
  begun : filter_map syncs_ticket events ≡ []
  answered : filter_map synced_ticket events ≡ []
  unanswered : list_any (answers here) events ≡ false
  syncs : (st : State) → (fold after st events).syncs ≡ st.syncs

plain : (here : ℕ) (events : List Event) → list_all (is_plain here) events ≡ true → IsPlain here events
plain here [] every = record { own = refl; begun = refl; answered = refl; unanswered = refl; syncs = λ st. refl }
plain here (Wants ticket place ∷ events) every =
    let parts = and_parts (ticket == here) (list_all (is_plain here) events) every in
    let more = plain here events parts.1 in
    record {
      own = and_from (ticket == here) (list_all (is_own here) events) parts.0 more.own;
      begun = more.begun;
      answered = more.answered;
      unanswered = more.unanswered;
      syncs = λ st. more.syncs (after st (Wants ticket place));
    }
plain here (Queues place ∷ events) every =
    let more = plain here events every in
    record { own = more.own; begun = more.begun; answered = more.answered; unanswered = more.unanswered; syncs = λ st. more.syncs (after st (Queues place)) }
plain here (Syncs ticket ∷ events) every = absurd (cc)
plain here (Synced ticket ∷ events) every = absurd (cc)
plain here (Drains who ∷ events) every = absurd (cc)
plain here (Rests who ∷ events) every = absurd (cc)
plain here (Served ticket place fault ∷ events) every = absurd (cc)
plain here (Worked place fault ∷ events) every = absurd (cc)

queues_plain : (here : ℕ) (places : List Place) → list_all (is_plain here) (queues_at places) ≡ true
queues_plain here [] = refl
queues_plain here (place ∷ places) = queues_plain here places

wants_plain : (here : ℕ) (places : List Place) → list_all (is_plain here) (map (λ place. Wants here place) places) ≡ true
wants_plain here [] = refl
wants_plain here (place ∷ places) = and_from (here == here) (list_all (is_plain here) (map (λ place. Wants here place) places)) (eq-eqb here here refl) (wants_plain here places)

-- ---- all that a submission adds

-- what the events of a placement say: they are its own, of its sync, its answer and its waits
pub record AreOwn (calls : Calls) (history : List Placed) (p : Placed) (st : State) (added : List Event) : Type 0 where
  pub own : list_all (is_own (length history)) added ≡ true
  pub syncs : done_syncs calls (history ++ p ∷ []) ≡ done_syncs calls history ++ filter_map syncs_ticket added
  pub answered : filter_map synced_ticket added ≡ cond (list_any (answers (length history)) added) (length history ∷ []) []
  pub rises : (front : List ℕ) → is_rising (front ++ tickets st.syncs) ≡ true → list_all (λ x. nat_lt x (length history)) (front ++ tickets st.syncs) ≡ true
      → is_rising ((front ++ filter_map synced_ticket added) ++ tickets (fold after st added).syncs) ≡ true
  pub apart : is_waiting st (length history) ≡ false
      → (list_any (wants_it (length history)) (fold after st added).requests && list_any (syncs_it (length history)) (fold after st added).syncs) ≡ false

queues_ask : (st : State) (places : List Place) → (fold after st (queues_at places)).requests ≡ st.requests
queues_ask st [] = refl
queues_ask st (place ∷ places) = queues_ask (after st (Queues place)) places

or_left_false : (a b : Bool) → (a || b) ≡ false → a ≡ false
or_left_false true b h = absurd (cc)
or_left_false false b h = refl

or_right_false : (a b : Bool) → (a || b) ≡ false → b ≡ false
or_right_false true b h = absurd (cc)
or_right_false false b h = h

-- requests and ops alone
plain_own : (calls : Calls) (history : List Placed) (p : Placed) (st : State) (added : List Event) → list_all (is_plain (length history)) added ≡ true
    → done_syncs calls (history ++ p ∷ []) ≡ done_syncs calls history → AreOwn calls history p st added
plain_own calls history p st added every same =
    let is = plain (length history) added every in
    record {
      own = is.own;
      syncs = same ∙ sym (ap (λ l. done_syncs calls history ++ l) is.begun ∙ append-nil (done_syncs calls history));
      answered = is.answered ∙ sym (ap (λ b. cond b (length history ∷ []) []) is.unanswered);
      rises = λ front rising below.
          subst (λ l. is_rising ((front ++ l) ++ tickets (fold after st added).syncs) ≡ true) (sym is.answered)
          (subst (λ l. is_rising (l ++ tickets (fold after st added).syncs) ≡ true) (sym (append-nil front))
          (subst (λ l. is_rising (front ++ tickets l) ≡ true) (sym (is.syncs st)) rising));
      apart = λ rests. and_right (list_any (wants_it (length history)) (fold after st added).requests) (list_any (syncs_it (length history)) (fold after st added).syncs)
          (ap (list_any (syncs_it (length history))) (is.syncs st) ∙ or_right_false (list_any (wants_it (length history)) st.requests) (list_any (syncs_it (length history)) st.syncs) rests);
    }

-- ---- a sync

record IsAnsweredAtOnce (here : ℕ) (added : List Event) : Type 0 where
  own : list_all (is_own here) added ≡ true
  turns : list_all is_turning added ≡ true
  begun : filter_map syncs_ticket added ≡ []
  answered : filter_map synced_ticket added ≡ cond (list_any (answers here) added) (here ∷ []) []
  requests : (st : State) → (fold after st added).requests ≡ st.requests

at_once : (here : ℕ) (stand : List Op) → IsAnsweredAtOnce here (synced_at here stand)
at_once here [] =
    let same = eq-eqb here here refl in
    record { own = and_from (here == here) true same refl; turns = refl; begun = refl; answered = sym (ap (λ b. cond (b || false) (here ∷ []) []) same); requests = λ st. refl }
at_once here (op ∷ later) = record { own = refl; turns = refl; begun = refl; answered = refl; requests = λ st. refl }

sync_own : (calls : Calls) (history : List Placed) (p : Placed) (st : State) (places : List Place) (answer : List Event) → IsAnsweredAtOnce (length history) answer
    → p.fate ≡ fates.Done → call_at calls p ≡ Some Sync → is_trail_from st (queues_at places ++ Syncs (length history) ∷ answer) ≡ true
    → AreOwn calls history p st (queues_at places ++ Syncs (length history) ∷ answer)
sync_own calls history p st places answer once fate call trail =
    let here = length history in
    let q = plain here (queues_at places) (queues_plain here places) in
    let same = eq-eqb here here refl in
    let begun : filter_map syncs_ticket (queues_at places ++ Syncs here ∷ answer) ≡ here ∷ []
    = filter_map-append syncs_ticket (queues_at places) (Syncs here ∷ answer) ∙ ap (λ l. l ++ here ∷ filter_map syncs_ticket answer) q.begun ∙ ap (λ l. here ∷ l) once.begun in
    let told : filter_map synced_ticket (queues_at places ++ Syncs here ∷ answer) ≡ filter_map synced_ticket answer
    = filter_map-append synced_ticket (queues_at places) (Syncs here ∷ answer) ∙ ap (λ l. l ++ filter_map synced_ticket answer) q.answered in
    let any : list_any (answers here) (queues_at places ++ Syncs here ∷ answer) ≡ list_any (answers here) answer
    = list_any-append (answers here) (queues_at places) (Syncs here ∷ answer) ∙ ap (λ b. b || list_any (answers here) answer) q.unanswered in
    record {
      own = list_all-append (is_own here) (queues_at places) (Syncs here ∷ answer)
          ∙ and_from (list_all (is_own here) (queues_at places)) ((here == here) && list_all (is_own here) answer) q.own (and_from (here == here) (list_all (is_own here) answer) same once.own);
      syncs = done_push_sync calls history p fate call ∙ ap (λ l. done_syncs calls history ++ l) (sym begun);
      answered = told ∙ once.answered ∙ ap (λ b. cond b (here ∷ []) []) (sym any);
      rises = λ front rising below.
          let st1 = fold after st (queues_at places) in
          let last : Waiter = record { ticket = here; due = st1.done + length (st1.ended ++ with_flushes st1.group) } in
          let parts = and_parts (is_trail_from st (queues_at places)) (is_trail_from st1 (Syncs here ∷ answer)) (sym (trail_more st (queues_at places) (Syncs here ∷ answer)) ∙ trail) in
          let later = (and_parts (allows st1 (Syncs here)) (is_trail_from (after st1 (Syncs here)) answer) parts.1).1 in
          let pushed = rising_push (front ++ tickets st.syncs) here rising below in
          let joined : (front ++ tickets st.syncs) ++ here ∷ [] ≡ front ++ tickets (st1.syncs ++ last ∷ [])
          = append_assoc front (tickets st.syncs) (here ∷ []) ∙ ap (λ l. front ++ (l ++ here ∷ [])) (ap tickets (sym (q.syncs st))) ∙ ap (λ l. front ++ l) (sym (map-append (λ (s : Waiter). s.ticket) st1.syncs (last ∷ []))) in
          let began : is_rising (front ++ tickets (after st1 (Syncs here)).syncs) ≡ true = subst (λ l. is_rising l ≡ true) joined pushed in
          let done = turns_rise (after st1 (Syncs here)) front answer later once.turns began in
          subst (λ l. is_rising ((front ++ l) ++ tickets (fold after st (queues_at places ++ Syncs here ∷ answer)).syncs) ≡ true) (sym told)
          (subst (λ (s : State). is_rising ((front ++ filter_map synced_ticket answer) ++ tickets s.syncs) ≡ true) (sym (fold-append after st (queues_at places) (Syncs here ∷ answer))) done);
      apart = λ rests.
          let whole = fold after st (queues_at places ++ Syncs here ∷ answer) in
          let same : whole.requests ≡ st.requests = ap (λ (s : State). s.requests) (fold-append after st (queues_at places) (Syncs here ∷ answer)) ∙ once.requests (after (fold after st (queues_at places)) (Syncs here)) ∙ queues_ask st places in
          ap (λ b. b && list_any (syncs_it here) whole.syncs) (ap (list_any (wants_it here)) same ∙ or_left_false (list_any (wants_it here) st.requests) (list_any (syncs_it here) st.syncs) rests);
    }

no_events : (calls : Calls) (history : List Placed) (p : Placed) (st : State) (added : List Event) → added ≡ [] → done_syncs calls (history ++ p ∷ []) ≡ done_syncs calls history → AreOwn calls history p st added
no_events calls history p st added none same = subst (AreOwn calls history p st) (sym none) (plain_own calls history p st [] refl same)

-- the events of a submission are its placement's own
pub submitted : (calls : Calls) (history : List Placed) (p : Placed) (events : List Event) (fate : Fate) (call : Option Call) (added : List Event) → p.fate ≡ fate → call_at calls p ≡ call
    → is_trail_from (after_all events) added ≡ true → IsOfFate fate (length history) events call added → AreOwn calls history p (after_all events) added
submitted calls history p events fates.Void call added fate is trail of = no_events calls history p (after_all events) added of (done_push_other calls history p fates.Void call fate is (λ e. absurd (cc)))
submitted calls history p events fates.Done (Some Sync) added fate is trail of =
    subst (AreOwn calls history p (after_all events)) (sym of.1)
    (sync_own calls history p (after_all events) of.0 (synced_at (length history) (ops (after_all (events ++ queues_at of.0)))) (at_once (length history) (ops (after_all (events ++ queues_at of.0)))) fate is
    (subst (λ l. is_trail_from (after_all events) l ≡ true) of.1 trail))
submitted calls history p events fates.Done (Some (Read path offset count)) added fate is trail of =
    subst (AreOwn calls history p (after_all events)) (sym of.1)
    (plain_own calls history p (after_all events) (map (λ place. Wants (length history) place) of.0) (wants_plain (length history) of.0) (done_push_other calls history p fates.Done (Some (Read path offset count)) fate is (λ e. refl)))
submitted calls history p events fates.Done (Some (Write path offset bytes)) added fate is trail of =
    subst (AreOwn calls history p (after_all events)) (sym of.1)
    (plain_own calls history p (after_all events) (queues_at of.0) (queues_plain (length history) of.0) (done_push_other calls history p fates.Done (Some (Write path offset bytes)) fate is (λ e. refl)))
submitted calls history p events fates.Done None added fate is trail of = no_events calls history p (after_all events) added of (done_push_other calls history p fates.Done None fate is (λ e. refl))
submitted calls history p events fates.Done (Some call) added fate is trail of = no_events calls history p (after_all events) added of (done_push_other calls history p fates.Done (Some call) fate is (λ e. refl))

-- ---- a ticket that waits is not answered

-- once the syncs of a ticket are gone, none of that ticket is left
pub none_left : (ticket : ℕ) (syncs : List Waiter) → list_any (syncs_it ticket) (filter (λ (s : Waiter). not (s.ticket == ticket)) syncs) ≡ false
none_left ticket [] = refl
none_left ticket (s ∷ syncs) = by (s.ticket == ticket) refl (none_left ticket syncs)
  where
    by : (b : Bool) → (s.ticket == ticket) ≡ b → list_any (syncs_it ticket) (filter (λ (s : Waiter). not (s.ticket == ticket)) syncs) ≡ false
        → list_any (syncs_it ticket) (cond (not b) (s ∷ filter (λ (s : Waiter). not (s.ticket == ticket)) syncs) (filter (λ (s : Waiter). not (s.ticket == ticket)) syncs)) ≡ false
    by true is rest = rest
    by false is rest = ap (λ b. b || list_any (syncs_it ticket) (filter (λ (s : Waiter). not (s.ticket == ticket)) syncs)) is ∙ rest

sync_waits : (here : ℕ) (st : State) (places : List Place) (stand : List Op) → is_waiting st here ≡ false → is_waiting (fold after st (queues_at places ++ Syncs here ∷ synced_at here stand)) here ≡ true
    → list_any (answers here) (queues_at places ++ Syncs here ∷ synced_at here stand) ≡ false
sync_waits here st places [] rests waits =
    let st1 = fold after st (queues_at places) in
    let ended : fold after st (queues_at places ++ Syncs here ∷ Synced here ∷ []) ≡ after (after st1 (Syncs here)) (Synced here) = fold-append after st (queues_at places) (Syncs here ∷ Synced here ∷ []) in
    let asked : list_any (wants_it here) st1.requests ≡ false = ap (list_any (wants_it here)) (queues_ask st places) ∙ or_left_false (list_any (wants_it here) st.requests) (list_any (syncs_it here) st.syncs) rests in
    let gone : is_waiting (after (after st1 (Syncs here)) (Synced here)) here ≡ false = or_from (list_any (wants_it here) st1.requests)
    (list_any (syncs_it here) (filter (λ (s : Waiter). not (s.ticket == here)) (after st1 (Syncs here)).syncs)) asked (none_left here (after st1 (Syncs here)).syncs) in
    absurd (both_ways (is_waiting (fold after st (queues_at places ++ Syncs here ∷ Synced here ∷ [])) here) (ap (λ (s : State). is_waiting s here) ended ∙ gone) waits)
sync_waits here st places (op ∷ stand) rests waits =
    list_any-append (answers here) (queues_at places) (Syncs here ∷ []) ∙ ap (λ b. b || false) (plain here (queues_at places) (queues_plain here places)).unanswered

none_answered : (here : ℕ) (added : List Event) → added ≡ [] → list_any (answers here) added ≡ false
none_answered here added none = ap (list_any (answers here)) none

-- a place that waits after its own submission wasn't answered by it
pub unanswered_waits : (here : ℕ) (events : List Event) (call : Option Call) (added : List Event) → is_waiting (after_all events) here ≡ false → is_waiting (fold after (after_all events) added) here ≡ true
    → IsOfDone here events call added → list_any (answers here) added ≡ false
unanswered_waits here events (Some Sync) added rests waits of =
    let stand = ops (after_all (events ++ queues_at of.0)) in
    subst (λ l. list_any (answers here) l ≡ false) (sym of.1) (sync_waits here (after_all events) of.0 stand rests (subst (λ l. is_waiting (fold after (after_all events) l) here ≡ true) of.1 waits))
unanswered_waits here events (Some (Read path offset count)) added rests waits of =
    ap (list_any (answers here)) of.1 ∙ (plain here (map (λ place. Wants here place) of.0) (wants_plain here of.0)).unanswered
unanswered_waits here events (Some (Write path offset bytes)) added rests waits of = ap (list_any (answers here)) of.1 ∙ (plain here (queues_at of.0) (queues_plain here of.0)).unanswered
unanswered_waits here events None added rests waits of = none_answered here added of
unanswered_waits here events (Some call) added rests waits of = none_answered here added of
