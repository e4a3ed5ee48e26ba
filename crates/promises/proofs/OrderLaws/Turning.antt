-- What the events of a turn leave, from a state in which they may come.
use Rattle.std.specs.Prelude.{◌≡◌, ◌==◌, ◌||◌, not, ℕ, ◌+◌, nat_le, Bool, true, false, cond, List, [], ◌∷◌, ◌++◌, All, filter, filter_map, fold, length, map, Option, Some, None}
use Rattle.std.specs.List.{after_first, list_all, list_any, scan, cons_option}
use Rattle.std.specs.Option.{option_to_list}
use Rattle.std.proofs.Common.{⊎_elim, inl, inr, refl, sym, ap, subst, ◌∙◌, arith, append-nil, append_assoc}
use Rattle.std.proofs.lemmas.Bool.{and_from, and_parts, both_ways, eqb-true, eq-eqb, false_from_ne_true, or_left, or_right}
use Rattle.std.proofs.lemmas.List.Elements.{All-head, All-tail}
use Rattle.tape_types.specs.declared.cartridges.Place.{Place}
use Rattle.tape_types.specs.declared.cartridges.Twin.{Twin}
use Rattle.session_script.specs.declared.logs.Event.{Event}
use Rattle.session_script.specs.declared.logs.Event.TheVariants.{Wants, Queues, Syncs, Synced, Drains, Rests, Served, Worked}
use Rattle.head_queue.specs.EventLaws.Trail.{Owner, of_call, of_session, after, after_op, allows, asks, both, fault_of, fits, is_answer, is_answered, is_of, is_trail_from, op_owner, owner_of, step_to, takes_request, without_first_waiter}
use Rattle.head_queue.specs.EventLaws.Waiting.{Op, Request, State, Waiter, is_due, is_least, keys, request_key, same_place, waiting_op}
use Rattle.promises.specs.ServingPromise.Acks.{answers, synced_ticket}
use Rattle.promises.specs.ServingPromise.Faults.{kept_for}
use Rattle.promises.specs.ServingPromise.Served.{is_waiting}
use Rattle.promises.specs.ServingPromise.Steps.{AreOfStep, drain_fault, is_step, no_step, one_step, session_of}
use Rattle.promises.specs.OrderLaws.Kept.{is_rising}
use Rattle.promises.specs.OrderLaws.Sides.{owned_from}
use Rattle.promises.proofs.OrderLaws.Lists.{after_first-later, count_after}
use Rattle.promises.proofs.OrderLaws.Rising.{rising_without}
use Rattle.promises.proofs.OrderLaws.Frames.{is_turning, syncs_it, turning_waits, wants_it, worked_stays}

-- a test for equal numbers gives the same in both orders
pub eqb_flip : (a b : ℕ) → (a == b) ≡ (b == a)
eqb_flip a b = by (a == b) (b == a) refl refl
  where
    by : (c d : Bool) → (a == b) ≡ c → (b == a) ≡ d → (a == b) ≡ (b == a)
    by true d e f = e ∙ sym (eq-eqb b a (sym (eqb-true a b e)))
    by false true e f = absurd (both_ways (a == b) e (eq-eqb a b (sym (eqb-true b a f))))
    by false false e f = e ∙ sym f

-- ---- which events a turn makes

step_turns : (e : Event) → is_step e ≡ true → is_turning e ≡ true
step_turns (Served ticket place fault) is = refl
step_turns (Worked place fault) is = refl
step_turns (Wants ticket place) is = absurd (cc)
step_turns (Queues place) is = absurd (cc)
step_turns (Syncs ticket) is = absurd (cc)
step_turns (Synced ticket) is = absurd (cc)
step_turns (Drains who) is = absurd (cc)
step_turns (Rests who) is = absurd (cc)

-- an answer is no step, and turns
record IsPlainAnswer (e : Event) : Type 0 where
  turns : is_turning e ≡ true
  stepless : step_to e ≡ None

plain_answer : (e : Event) → is_answer e ≡ true → IsPlainAnswer e
plain_answer (Synced ticket) is = record { turns = refl; stepless = refl }
plain_answer (Served ticket place fault) is = absurd (cc)
plain_answer (Worked place fault) is = absurd (cc)
plain_answer (Wants ticket place) is = absurd (cc)
plain_answer (Queues place) is = absurd (cc)
plain_answer (Syncs ticket) is = absurd (cc)
plain_answer (Drains who) is = absurd (cc)
plain_answer (Rests who) is = absurd (cc)

answers_turn : (events : List Event) → All (λ a. is_answer a ≡ true) events → list_all is_turning events ≡ true
answers_turn [] every = refl
answers_turn (e ∷ events) every =
    and_from (is_turning e) (list_all is_turning events) (plain_answer e (All-head (λ a. is_answer a ≡ true) e events every)).turns
    (answers_turn events (All-tail (λ a. is_answer a ≡ true) e events every))

-- answers alone hold no step of the head
pub answers_step : (events : List Event) → All (λ a. is_answer a ≡ true) events → filter_map step_to events ≡ []
answers_step [] every = refl
answers_step (e ∷ events) every =
    ap (λ o. cons_option o (filter_map step_to events)) (plain_answer e (All-head (λ a. is_answer a ≡ true) e events every)).stepless
    ∙ answers_step events (All-tail (λ a. is_answer a ≡ true) e events every)

-- the events of a step are all such as a turn brings
pub all_turn : (events : List Event) → AreOfStep events → list_all is_turning events ≡ true
all_turn events no_step = refl
all_turn all (one_step e events is every) = and_from (is_turning e) (list_all is_turning events) (step_turns e is) (answers_turn events every)

not_answered_by_step : (t : ℕ) (e : Event) → is_step e ≡ true → answers t e ≡ false
not_answered_by_step t (Served ticket place fault) is = refl
not_answered_by_step t (Worked place fault) is = refl
not_answered_by_step t (Synced ticket) is = absurd (cc)
not_answered_by_step t (Wants ticket place) is = refl
not_answered_by_step t (Queues place) is = refl
not_answered_by_step t (Syncs ticket) is = refl
not_answered_by_step t (Drains who) is = refl
not_answered_by_step t (Rests who) is = refl

-- behind an answer there is no step
pub no_step_behind : (t : ℕ) (events : List Event) → AreOfStep events → length (filter_map step_to (after_first (answers t) events)) ≡ 0
no_step_behind t all no_step = refl
no_step_behind t all (one_step e events is every) =
    subst (λ l. length (filter_map step_to l) ≡ 0) (sym (after_first-later (answers t) e events (not_answered_by_step t e is)))
    (omega (arith, count_after (answers t) step_to events, ap length (answers_step events every)))

-- ---- who owns a fault

-- what one owns of a fault with its owner
abbrev pub owned_head : Owner → Option (Owner × Twin) → List Twin
owned_head o None = []
owned_head o (Some e) = cond (is_of o e.0) (e.1 ∷ []) []

-- the faults that one owns are that of the first event, if it has one, and those of the rest
pub owned-cons : (st : State) (o : Owner) (e : Event) (events : List Event)
    → owned_from st o (e ∷ events) ≡ owned_head o (both (owner_of st e) (fault_of e)) ++ owned_from (after st e) o events
owned-cons st o e events = by (both (owner_of st e) (fault_of e))
  where
    rest : List (Owner × Twin)
    rest = filter_map (λ o. o) (scan after (λ st e. both (owner_of st e) (fault_of e)) (after st e) events)

    by : (x : Option (Owner × Twin)) → filter_map (λ e. cond (is_of o e.0) (Some e.1) None) (cons_option x rest) ≡ owned_head o x ++ owned_from (after st e) o events
    by None = refl
    by (Some x) = at (is_of o x.0)
      where
        at : (b : Bool) → cons_option (cond b (Some x.1) None) (owned_from (after st e) o events) ≡ cond b (x.1 ∷ []) [] ++ owned_from (after st e) o events
        at true = refl
        at false = refl

-- without the second there are not both
pub both_none : {X Y : Type 0} (o : Option X) → both {Y = Y} o None ≡ None
both_none None = refl
both_none (Some x) = refl

-- where one passes a test, one passes each weaker test
pub any_weaker : {X : Type 0} (p q : X → Bool) (xs : List X) → ((x : X) → p x ≡ true → q x ≡ true) → list_any p xs ≡ true → list_any q xs ≡ true
any_weaker p q [] w h = h
any_weaker p q (x ∷ xs) w h = by (p x) (w x) h (any_weaker p q xs w)
  where
    by : (b : Bool) → (b ≡ true → q x ≡ true) → (b || list_any p xs) ≡ true → (list_any p xs ≡ true → list_any q xs ≡ true) → (q x || list_any q xs) ≡ true
    by true one h more = or_left (q x) (list_any q xs) (one refl)
    by false one h more = or_right (q x) (list_any q xs) (more h)

-- the request that a read takes away is of its ticket
pub request_of : (st : State) (ticket : ℕ) (place : Place) (r : Request) → takes_request st ticket place r ≡ true → wants_it ticket r ≡ true
request_of st ticket place r h =
    (and_parts (r.ticket == ticket) (same_place r.place place) (and_parts (asks ticket place r) (is_least (request_key st.head r) (keys st)) h).0).0

wanted_waits : (st : State) (ticket : ℕ) (place : Place) → list_any (takes_request st ticket place) st.requests ≡ true → is_waiting st ticket ≡ true
wanted_waits st ticket place h =
    or_left (list_any (wants_it ticket) st.requests) (list_any (syncs_it ticket) st.syncs) (any_weaker (takes_request st ticket place) (wants_it ticket) st.requests (request_of st ticket place) h)

not_same : (st : State) (k t : ℕ) → is_waiting st k ≡ false → is_waiting st t ≡ true → (k == t) ≡ false
not_same st k t rests waits = false_from_ne_true (k == t) (λ same. both_ways (is_waiting st k) rests (subst (λ n. is_waiting st n ≡ true) (sym (eqb-true k t same)) waits))

or_right_false : (a b : Bool) → (a || b) ≡ false → b ≡ false
or_right_false true b h = absurd (cc)
or_right_false false b h = h

or_left_false : (a b : Bool) → (a || b) ≡ false → a ≡ false
or_left_false true b h = absurd (cc)
or_left_false false b h = refl

unowned_op : (k : ℕ) (c : Twin) (syncs : List Waiter) (drains : List ℕ) → list_any (syncs_it k) syncs ≡ false → owned_head (of_call k) (both (op_owner syncs drains) (Some c)) ≡ []
unowned_op k c [] [] h = refl
unowned_op k c [] (w ∷ drains) h = refl
unowned_op k c (s ∷ syncs) drains h = ap (λ b. cond b (c ∷ []) []) (eqb_flip k s.ticket ∙ or_left_false (s.ticket == k) (list_any (syncs_it k) syncs) h)

unowned_head : (st : State) (e : Event) (k : ℕ) → fits st e ≡ true → is_turning e ≡ true → is_waiting st k ≡ false → owned_head (of_call k) (both (owner_of st e) (fault_of e)) ≡ []
unowned_head st (Synced ticket) k h is rests = refl
unowned_head st (Served ticket place None) k h is rests = refl
unowned_head st (Served ticket place (Some counts)) k h is rests = ap (λ b. cond b (counts ∷ []) []) (not_same st k ticket rests (wanted_waits st ticket place h))
unowned_head st (Worked place None) k h is rests = ap (owned_head (of_call k)) (both_none (op_owner st.syncs st.drains))
unowned_head st (Worked place (Some counts)) k h is rests = unowned_op k counts st.syncs st.drains (or_right_false (list_any (wants_it k) st.requests) (list_any (syncs_it k) st.syncs) rests)
unowned_head st (Wants ticket place) k h is rests = absurd (cc)
unowned_head st (Queues place) k h is rests = absurd (cc)
unowned_head st (Syncs ticket) k h is rests = absurd (cc)
unowned_head st (Drains who) k h is rests = absurd (cc)
unowned_head st (Rests who) k h is rests = absurd (cc)

first_answered : (st : State) (ticket : ℕ) (syncs : List Waiter) → is_answered st ticket syncs ≡ true → list_any (syncs_it ticket) syncs ≡ true
first_answered st ticket [] h = absurd (cc)
first_answered st ticket (s ∷ syncs) h = or_left (s.ticket == ticket) (list_any (syncs_it ticket) syncs) (and_parts (s.ticket == ticket) (nat_le s.due st.done) h).0

unanswered_head : (st : State) (e : Event) (k : ℕ) → fits st e ≡ true → is_waiting st k ≡ false → answers k e ≡ false
unanswered_head st (Synced ticket) k h rests =
    eqb_flip ticket k ∙ not_same st k ticket rests (or_right (list_any (wants_it ticket) st.requests) (list_any (syncs_it ticket) st.syncs) (first_answered st ticket st.syncs h))
unanswered_head st (Served ticket place fault) k h rests = refl
unanswered_head st (Worked place fault) k h rests = refl
unanswered_head st (Wants ticket place) k h rests = refl
unanswered_head st (Queues place) k h rests = refl
unanswered_head st (Syncs ticket) k h rests = refl
unanswered_head st (Drains who) k h rests = refl
unanswered_head st (Rests who) k h rests = refl

-- what an event that may come, and those behind it, satisfy
pub record MayCome (st : State) (e : Event) (events : List Event) : Type 0 where
  pub fits_now : fits st e ≡ true
  pub later : is_trail_from (after st e) events ≡ true

-- the first event of a trail may come, and the rest goes on from there
pub may_come : (st : State) (e : Event) (events : List Event) → is_trail_from st (e ∷ events) ≡ true → MayCome st e events
may_come st e events h =
    let parts = and_parts (allows st e) (is_trail_from (after st e) events) h in
    record { fits_now = (and_parts (fits st e) (not (is_due st) || is_answer e) parts.0).0; later = parts.1 }

still_rests : (st : State) (e : Event) (k : ℕ) → is_turning e ≡ true → is_waiting st k ≡ false → is_waiting (after st e) k ≡ false
still_rests st e k is rests = false_from_ne_true (is_waiting (after st e) k) (λ waits. both_ways (is_waiting st k) rests (turning_waits st e k is waits))

-- a place that doesn't wait owns no fault, and isn't answered
pub unowned : (st : State) (events : List Event) (k : ℕ) → is_trail_from st events ≡ true → list_all is_turning events ≡ true → is_waiting st k ≡ false → owned_from st (of_call k) events ≡ []
unowned st [] k h every rests = refl
unowned st (e ∷ events) k h every rests =
    let may = may_come st e events h in
    let parts = and_parts (is_turning e) (list_all is_turning events) every in
    owned-cons st (of_call k) e events
    ∙ ap (λ l. l ++ owned_from (after st e) (of_call k) events) (unowned_head st e k may.fits_now parts.0 rests)
    ∙ unowned (after st e) events k may.later parts.1 (still_rests st e k parts.0 rests)

-- a place that doesn't wait isn't answered in a turn
pub unanswered : (st : State) (events : List Event) (k : ℕ) → is_trail_from st events ≡ true → list_all is_turning events ≡ true → is_waiting st k ≡ false → list_any (answers k) events ≡ false
unanswered st [] k h every rests = refl
unanswered st (e ∷ events) k h every rests =
    let may = may_come st e events h in
    let parts = and_parts (is_turning e) (list_all is_turning events) every in
    ap (λ b. b || list_any (answers k) events) (unanswered_head st e k may.fits_now rests)
    ∙ unanswered (after st e) events k may.later parts.1 (still_rests st e k parts.0 rests)

-- ---- sessions that drain

-- the faults among events that sessions own by their drains, from a state on
abbrev pub drain_faults_from : State → List Event → List (ℕ × Twin)
drain_faults_from st events = filter_map (λ o. o) (scan after drain_fault st events)

-- the faults kept for a session are that of the first, if it is its own, and those of the rest
pub kept-cons : (who : ℕ) (o : Option (ℕ × Twin)) (rest : List (ℕ × Twin)) → kept_for who (cons_option o rest) ≡ kept_for who (option_to_list o) ++ kept_for who rest
kept-cons who None rest = refl
kept-cons who (Some x) rest = by (x.0 == who)
  where
    by : (b : Bool) → cons_option (cond b (Some x.1) None) (kept_for who rest) ≡ cons_option (cond b (Some x.1) None) [] ++ kept_for who rest
    by true = refl
    by false = refl

-- the faults of a session's drains are those that it owns
session_head : (who : ℕ) (o : Option Owner) (f : Option Twin) → kept_for who (option_to_list (both (session_of o) f)) ≡ owned_head (of_session who) (both o f)
session_head who None f = refl
session_head who (Some (of_call k)) None = refl
session_head who (Some (of_call k)) (Some c) = refl
session_head who (Some (of_session w)) None = refl
session_head who (Some (of_session w)) (Some c) = ap (λ b. cons_option (cond b (Some c) None) []) (eqb_flip w who) ∙ by (who == w)
  where
    by : (b : Bool) → cons_option (cond b (Some c) None) [] ≡ cond b (c ∷ []) []
    by true = refl
    by false = refl

-- the faults kept for a session are those that it owns by its drain
pub drained_is_owned : (st : State) (events : List Event) (who : ℕ) → kept_for who (drain_faults_from st events) ≡ owned_from st (of_session who) events
drained_is_owned st [] who = refl
drained_is_owned st (e ∷ events) who =
    kept-cons who (drain_fault st e) (drain_faults_from (after st e) events)
    ∙ ap (λ l. l ++ kept_for who (drain_faults_from (after st e) events)) (session_head who (owner_of st e) (fault_of e))
    ∙ ap (λ l. owned_head (of_session who) (both (owner_of st e) (fault_of e)) ++ l) (drained_is_owned (after st e) events who)
    ∙ sym (owned-cons st (of_session who) e events)

-- a session drains no more where a fault is kept for it
abbrev pub drains_of : State → ℕ → ℕ
drains_of st who = length (filter (λ w. w == who) st.drains)

failed_drains : (head : Place) (arrived : ℕ) (requests : List Request) (done : ℕ) (ended : List Op) (group : List Place) (syncs : List Waiter) (drains : List ℕ) (who : ℕ) (c : Twin)
    → length (filter (λ w. w == who) (without_first_waiter (record { head = head; arrived = arrived; requests = requests; done = done; ended = ended; group = group; syncs = syncs; drains = drains })).drains)
    + length (kept_for who (option_to_list (both (session_of (op_owner syncs drains)) (Some c)))) ≡ length (filter (λ w. w == who) drains)
failed_drains head arrived requests done ended group [] [] who c = refl
failed_drains head arrived requests done ended group [] (w ∷ drains) who c = by (w == who)
  where
    by : (b : Bool) → length (filter (λ w. w == who) drains) + length (cons_option (cond b (Some c) None) []) ≡ length (cond b (w ∷ filter (λ w. w == who) drains) (filter (λ w. w == who) drains))
    by true = omega arith
    by false = omega arith
failed_drains head arrived requests done ended group (s ∷ syncs) drains who c = omega arith

nothing_kept : (who : ℕ) (o : Option ℕ) → length (kept_for who (option_to_list (both o None))) ≡ 0
nothing_kept who None = refl
nothing_kept who (Some w) = refl

one_drains : (st : State) (e : Event) (who : ℕ) → is_turning e ≡ true → drains_of (after st e) who + length (kept_for who (option_to_list (drain_fault st e))) ≡ drains_of st who
one_drains st (Synced ticket) who is = omega arith
one_drains st (Served ticket place None) who is = omega arith
one_drains st (Served ticket place (Some counts)) who is = omega arith
one_drains st (Worked place None) who is =
    let same : drains_of (after_op (waiting_op st) st) who ≡ drains_of st who = ap (λ l. length (filter (λ w. w == who) l)) (worked_stays st (waiting_op st)).drains in
    omega (arith, same, nothing_kept who (session_of (op_owner st.syncs st.drains)))
one_drains st (Worked place (Some counts)) who is = failed_drains st.head st.arrived st.requests st.done st.ended st.group st.syncs st.drains who counts
one_drains st (Wants ticket place) who is = absurd (cc)
one_drains st (Queues place) who is = absurd (cc)
one_drains st (Syncs ticket) who is = absurd (cc)
one_drains st (Drains w) who is = absurd (cc)
one_drains st (Rests w) who is = absurd (cc)

-- a turn turns each drain of a session that fails into one fault kept for it
pub drains_are_kept : (st : State) (events : List Event) (who : ℕ) → list_all is_turning events ≡ true
    → drains_of (fold after st events) who + length (kept_for who (drain_faults_from st events)) ≡ drains_of st who
drains_are_kept st [] who every = omega arith
drains_are_kept st (e ∷ events) who every =
    let parts = and_parts (is_turning e) (list_all is_turning events) every in
    let one = one_drains st e who parts.0 in
    let more = drains_are_kept (after st e) events who parts.1 in
    let joined = ap length (kept-cons who (drain_fault st e) (drain_faults_from (after st e) events)) in
    omega (arith, one, more, joined, Rattle.std.proofs.Common.length-append (kept_for who (option_to_list (drain_fault st e))) (kept_for who (drain_faults_from (after st e) events)))

-- ---- syncs in the order of their places

-- the tickets of the syncs that wait
abbrev pub tickets : List Waiter → List ℕ
tickets syncs = map (λ s. s.ticket) syncs

rising_kept : (p : Waiter → Bool) (front : List ℕ) (syncs : List Waiter) → is_rising (front ++ tickets syncs) ≡ true → is_rising (front ++ tickets (filter p syncs)) ≡ true
rising_kept p front [] h = h
rising_kept p front (s ∷ syncs) h =
    by (p s) (rising_kept p (front ++ s.ticket ∷ []) syncs (subst (λ l. is_rising l ≡ true) (sym (append_assoc front (s.ticket ∷ []) (tickets syncs))) h))
    (rising_kept p front syncs (rising_without front s.ticket (tickets syncs) h))
  where
    by : (b : Bool) → is_rising ((front ++ s.ticket ∷ []) ++ tickets (filter p syncs)) ≡ true → is_rising (front ++ tickets (filter p syncs)) ≡ true
        → is_rising (front ++ tickets (cond b (s ∷ filter p syncs) (filter p syncs))) ≡ true
    by true one two = subst (λ l. is_rising l ≡ true) (append_assoc front (s.ticket ∷ []) (tickets (filter p syncs))) one
    by false one two = two

rising_same_front : (front : List ℕ) (xs ys : List Waiter) → xs ≡ ys → is_rising (front ++ tickets ys) ≡ true → is_rising ((front ++ []) ++ tickets xs) ≡ true
rising_same_front front xs ys same h = subst (λ l. is_rising (l ++ tickets xs) ≡ true) (sym (append-nil front)) (subst (λ l. is_rising (front ++ tickets l) ≡ true) (sym same) h)

answered_rises : (st : State) (front : List ℕ) (ticket : ℕ) (syncs : List Waiter) → is_answered st ticket syncs ≡ true → is_rising (front ++ tickets syncs) ≡ true
    → is_rising ((front ++ ticket ∷ []) ++ tickets (filter (λ (s : Waiter). not (s.ticket == ticket)) syncs)) ≡ true
answered_rises st front ticket [] is h = absurd (cc)
answered_rises st front ticket (s ∷ syncs) is h =
    let first = (and_parts (s.ticket == ticket) (nat_le s.due st.done) is).0 in
    let gone : filter (λ (s : Waiter). not (s.ticket == ticket)) (s ∷ syncs) ≡ filter (λ (s : Waiter). not (s.ticket == ticket)) syncs
    = ap (λ b. cond (not b) (s ∷ filter (λ (s : Waiter). not (s.ticket == ticket)) syncs) (filter (λ (s : Waiter). not (s.ticket == ticket)) syncs)) first in
    let begun = subst (λ n. is_rising (front ++ n ∷ tickets syncs) ≡ true) (eqb-true s.ticket ticket first) h in
    subst (λ l. is_rising ((front ++ ticket ∷ []) ++ tickets l) ≡ true) (sym gone)
    (rising_kept (λ (s : Waiter). not (s.ticket == ticket)) (front ++ ticket ∷ []) syncs (subst (λ l. is_rising l ≡ true) (sym (append_assoc front (ticket ∷ []) (tickets syncs))) begun))

failed_rises : (head : Place) (arrived : ℕ) (requests : List Request) (done : ℕ) (ended : List Op) (group : List Place) (syncs : List Waiter) (drains : List ℕ) (front : List ℕ)
    → is_rising (front ++ tickets syncs) ≡ true
    → is_rising (front ++ tickets (without_first_waiter (record { head = head; arrived = arrived; requests = requests; done = done; ended = ended; group = group; syncs = syncs; drains = drains })).syncs) ≡ true
failed_rises head arrived requests done ended group [] drains front h = h
failed_rises head arrived requests done ended group (s ∷ syncs) drains front h = rising_without front s.ticket (tickets syncs) h

-- one event of a turn leaves the answered and waiting syncs in the order of their places
pub one_rises : (st : State) (front : List ℕ) (e : Event) → fits st e ≡ true → is_turning e ≡ true → is_rising (front ++ tickets st.syncs) ≡ true
    → is_rising ((front ++ option_to_list (synced_ticket e)) ++ tickets (after st e).syncs) ≡ true
one_rises st front (Synced ticket) fit is h = answered_rises st front ticket st.syncs fit h
one_rises st front (Served ticket place None) fit is h = rising_same_front front st.syncs st.syncs refl h
one_rises st front (Served ticket place (Some counts)) fit is h = rising_same_front front st.syncs st.syncs refl h
one_rises st front (Worked place None) fit is h = rising_same_front front (after_op (waiting_op st) st).syncs st.syncs (worked_stays st (waiting_op st)).syncs h
one_rises st front (Worked place (Some counts)) fit is h =
    rising_same_front front (without_first_waiter st).syncs (without_first_waiter st).syncs refl (failed_rises st.head st.arrived st.requests st.done st.ended st.group st.syncs st.drains front h)
one_rises st front (Wants ticket place) fit is h = absurd (cc)
one_rises st front (Queues place) fit is h = absurd (cc)
one_rises st front (Syncs ticket) fit is h = absurd (cc)
one_rises st front (Drains w) fit is h = absurd (cc)
one_rises st front (Rests w) fit is h = absurd (cc)

cons_joins : (front : List ℕ) (o : Option ℕ) (rest : List ℕ) → front ++ cons_option o rest ≡ (front ++ option_to_list o) ++ rest
cons_joins front None rest = ap (λ l. l ++ rest) (sym (append-nil front))
cons_joins front (Some n) rest = sym (append_assoc front (n ∷ []) rest)

-- those that were answered come before those that are answered now, and these before those that wait
pub turns_rise : (st : State) (front : List ℕ) (events : List Event) → is_trail_from st events ≡ true → list_all is_turning events ≡ true → is_rising (front ++ tickets st.syncs) ≡ true
    → is_rising ((front ++ filter_map synced_ticket events) ++ tickets (fold after st events).syncs) ≡ true
turns_rise st front [] h every rises = rising_same_front front st.syncs st.syncs refl rises
turns_rise st front (e ∷ events) h every rises =
    let may = may_come st e events h in
    let parts = and_parts (is_turning e) (list_all is_turning events) every in
    subst (λ l. is_rising (l ++ tickets (fold after (after st e) events).syncs) ≡ true) (sym (cons_joins front (synced_ticket e) (filter_map synced_ticket events)))
    (turns_rise (after st e) (front ++ option_to_list (synced_ticket e)) events may.later parts.1 (one_rises st front e may.fits_now parts.0 rises))
