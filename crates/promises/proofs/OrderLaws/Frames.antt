-- What single events leave as it was.
use Rattle.std.specs.Prelude.{◌≡◌, ◌==◌, ◌||◌, not, ℕ, ◌+◌, Bool, true, false, List, [], ◌∷◌, ◌++◌, filter, filter_map, fold, length, Option, Some, None}
use Rattle.std.specs.List.{list_all, list_any}
use Rattle.std.proofs.Common.{refl, sym, ap, subst, ◌∙◌}
use Rattle.std.proofs.lemmas.Bool.{and_parts, both_ways, eqb-true, eq-eqb, false_from_ne_true, or_left, or_right}
use Rattle.std.proofs.lemmas.List.Folds.{list_any-append}
use Rattle.tape_types.specs.declared.cartridges.Place.{Place}
use Rattle.session_script.specs.declared.logs.Event.{Event}
use Rattle.session_script.specs.declared.logs.Event.TheVariants.{Wants, Queues, Syncs, Synced, Drains, Rests, Served, Worked}
use Rattle.head_queue.specs.EventLaws.Trail.{Owner, after, after_op, asks, fault_of, step_to, without_first_waiter}
use Rattle.head_queue.specs.EventLaws.Waiting.{Op, Request, State, Waiter, is_least, keys, request_key, same_place, waiting_op}
use Rattle.promises.specs.ServingPromise.Served.{is_waiting}
use Rattle.promises.specs.OrderLaws.Sides.{owned_from}
use Rattle.promises.proofs.OrderLaws.Lists.{any_filter, any_filter_same}

-- ---- kinds of events

-- a submission at this place brings it, but for a drain
abbrev pub is_own : ℕ → Event → Bool
is_own here (Wants ticket place) = ticket == here
is_own here (Queues place) = true
is_own here (Syncs ticket) = ticket == here
is_own here (Synced ticket) = ticket == here
is_own here _ = false

-- a turn brings it, but for a rest
abbrev pub is_turning : Event → Bool
is_turning (Synced ticket) = true
is_turning (Served ticket place fault) = true
is_turning (Worked place fault) = true
is_turning _ = false

-- ---- what an op leaves

-- who waits, and for what, stays
pub record Stays (a b : State) : Type 0 where
  pub requests : a.requests ≡ b.requests
  pub syncs : a.syncs ≡ b.syncs
  pub drains : a.drains ≡ b.drains

op_stays : (head : Place) (arrived : ℕ) (requests : List Request) (done : ℕ) (ended : List Op) (group : List Place) (syncs : List Waiter) (drains : List ℕ) (o : Option Op)
    → Stays (after_op o (record { head = head; arrived = arrived; requests = requests; done = done; ended = ended; group = group; syncs = syncs; drains = drains }))
    (record { head = head; arrived = arrived; requests = requests; done = done; ended = ended; group = group; syncs = syncs; drains = drains })
op_stays head arrived requests done [] group syncs drains None = record { requests = refl; syncs = refl; drains = refl }
op_stays head arrived requests done [] group syncs drains (Some op) = record { requests = refl; syncs = refl; drains = refl }
op_stays head arrived requests done (x ∷ ended) group syncs drains None = record { requests = refl; syncs = refl; drains = refl }
op_stays head arrived requests done (x ∷ ended) group syncs drains (Some op) = record { requests = refl; syncs = refl; drains = refl }

-- an op that is done leaves the requests, the syncs and the drains as they were
pub worked_stays : (st : State) (o : Option Op) → Stays (after_op o st) st
worked_stays st o = op_stays st.head st.arrived st.requests st.done st.ended st.group st.syncs st.drains o

-- ---- who waits

-- the request is of this ticket
abbrev pub wants_it : ℕ → Request → Bool
wants_it k r = r.ticket == k

-- the sync is of this ticket
abbrev pub syncs_it : ℕ → Waiter → Bool
syncs_it k s = s.ticket == k

waiting_by : (k : ℕ) (a b : State) → Stays a b → is_waiting a k ≡ is_waiting b k
waiting_by k a b s = ap (λ (l : List Request). list_any (wants_it k) l || list_any (syncs_it k) a.syncs) s.requests ∙ ap (λ (l : List Waiter). list_any (wants_it k) b.requests || list_any (syncs_it k) l) s.syncs

or_weaker : (a b c d : Bool) → (a ≡ true → c ≡ true) → (b ≡ true → d ≡ true) → (a || b) ≡ true → (c || d) ≡ true
or_weaker true b c d f g h = or_left c d (f refl)
or_weaker false b c d f g h = or_right c d (g h)

fewer_syncs : (head : Place) (arrived : ℕ) (requests : List Request) (done : ℕ) (ended : List Op) (group : List Place) (syncs : List Waiter) (drains : List ℕ) (k : ℕ)
    → is_waiting (without_first_waiter (record { head = head; arrived = arrived; requests = requests; done = done; ended = ended; group = group; syncs = syncs; drains = drains })) k ≡ true
    → is_waiting (record { head = head; arrived = arrived; requests = requests; done = done; ended = ended; group = group; syncs = syncs; drains = drains }) k ≡ true
fewer_syncs head arrived requests done ended group [] drains k h = h
fewer_syncs head arrived requests done ended group (s ∷ syncs) drains k h =
    or_weaker (list_any (wants_it k) requests) (list_any (syncs_it k) syncs) (list_any (wants_it k) requests) (list_any (syncs_it k) (s ∷ syncs)) (λ e. e) (λ e. or_right (s.ticket == k) (list_any (syncs_it k) syncs) e) h

-- no turn makes anybody wait
pub turning_waits : (st : State) (e : Event) (k : ℕ) → is_turning e ≡ true → is_waiting (after st e) k ≡ true → is_waiting st k ≡ true
turning_waits st (Wants ticket place) k is h = absurd (cc)
turning_waits st (Queues place) k is h = absurd (cc)
turning_waits st (Syncs ticket) k is h = absurd (cc)
turning_waits st (Drains who) k is h = absurd (cc)
turning_waits st (Rests who) k is h = absurd (cc)
turning_waits st (Synced ticket) k is h =
    or_weaker (list_any (wants_it k) st.requests) (list_any (syncs_it k) (filter (λ (s : Waiter). not (s.ticket == ticket)) st.syncs)) (list_any (wants_it k) st.requests) (list_any (syncs_it k) st.syncs)
    (λ e. e) (any_filter (syncs_it k) (λ (s : Waiter). not (s.ticket == ticket)) st.syncs) h
turning_waits st (Served ticket place None) k is h =
    or_weaker (list_any (wants_it k) (filter (λ (r : Request). not (asks ticket place r)) st.requests)) (list_any (syncs_it k) st.syncs) (list_any (wants_it k) st.requests) (list_any (syncs_it k) st.syncs)
    (any_filter (wants_it k) (λ (r : Request). not (asks ticket place r)) st.requests) (λ e. e) h
turning_waits st (Served ticket place (Some counts)) k is h =
    or_weaker (list_any (wants_it k) (filter (λ (r : Request). not (r.ticket == ticket)) st.requests)) (list_any (syncs_it k) st.syncs) (list_any (wants_it k) st.requests) (list_any (syncs_it k) st.syncs)
    (any_filter (wants_it k) (λ (r : Request). not (r.ticket == ticket)) st.requests) (λ e. e) h
turning_waits st (Worked place None) k is h = sym (waiting_by k (after_op (waiting_op st) st) st (worked_stays st (waiting_op st))) ∙ h
turning_waits st (Worked place (Some counts)) k is h = fewer_syncs st.head st.arrived st.requests st.done st.ended st.group st.syncs st.drains k h

-- nor do the events of a submission, but for its own place
differs : (here k t : ℕ) → (here == k) ≡ false → (t == here) ≡ true → (t == k) ≡ false
differs here k t other is = subst (λ n. (n == k) ≡ false) (sym (eqb-true t here is)) other

or_false : (a b : Bool) → b ≡ false → (a || b) ≡ a
or_false true b e = refl
or_false false b e = e

own_wants : (st : State) (e : Event) (here k : ℕ) → (here == k) ≡ false → is_own here e ≡ true → list_any (wants_it k) (after st e).requests ≡ list_any (wants_it k) st.requests
own_wants st (Wants ticket place) here k other is =
    let last : Request = record { ticket = ticket; place = place; arrival = st.arrived } in
    list_any-append (wants_it k) st.requests (last ∷ []) ∙ or_false (list_any (wants_it k) st.requests) ((ticket == k) || false) (ap (λ b. b || false) (differs here k ticket other is))
own_wants st (Queues place) here k other is = refl
own_wants st (Syncs ticket) here k other is = refl
own_wants st (Synced ticket) here k other is = refl
own_wants st (Drains who) here k other is = absurd (cc)
own_wants st (Rests who) here k other is = absurd (cc)
own_wants st (Served ticket place fault) here k other is = absurd (cc)
own_wants st (Worked place fault) here k other is = absurd (cc)

own_syncs : (st : State) (e : Event) (here k : ℕ) → (here == k) ≡ false → is_own here e ≡ true → list_any (syncs_it k) (after st e).syncs ≡ list_any (syncs_it k) st.syncs
own_syncs st (Wants ticket place) here k other is = refl
own_syncs st (Queues place) here k other is = refl
own_syncs st (Syncs ticket) here k other is =
    let last : Waiter = record { ticket = ticket; due = st.done + length (st.ended ++ Rattle.head_queue.specs.EventLaws.Waiting.with_flushes st.group) } in
    list_any-append (syncs_it k) st.syncs (last ∷ []) ∙ or_false (list_any (syncs_it k) st.syncs) ((ticket == k) || false) (ap (λ b. b || false) (differs here k ticket other is))
own_syncs st (Synced ticket) here k other is = any_filter_same (syncs_it k) (λ (s : Waiter). not (s.ticket == ticket)) st.syncs keeps
  where
    flip : (ticket == k) ≡ false → (k == ticket) ≡ false
    flip e = false_from_ne_true (k == ticket) (λ same. both_ways (ticket == k) e (eq-eqb ticket k (sym (eqb-true k ticket same))))

    keeps : (s : Waiter) → (s.ticket == k) ≡ true → not (s.ticket == ticket) ≡ true
    keeps s e = ap not (subst (λ n. (n == ticket) ≡ false) (sym (eqb-true s.ticket k e)) (flip (differs here k ticket other is)))
own_syncs st (Drains who) here k other is = absurd (cc)
own_syncs st (Rests who) here k other is = absurd (cc)
own_syncs st (Served ticket place fault) here k other is = absurd (cc)
own_syncs st (Worked place fault) here k other is = absurd (cc)

-- ---- over lists of events

-- nobody comes to wait by the events of a turn
pub turning_list : (st : State) (events : List Event) (k : ℕ) → list_all is_turning events ≡ true → is_waiting st k ≡ false → is_waiting (fold after st events) k ≡ false
turning_list st [] k every h = h
turning_list st (e ∷ events) k every h =
    let parts = and_parts (is_turning e) (list_all is_turning events) every in
    turning_list (after st e) events k parts.1 (false_from_ne_true (is_waiting (after st e) k) (λ is. both_ways (is_waiting st k) h (turning_waits st e k parts.0 is)))

-- at another place a submission changes neither what is asked for nor which syncs wait
pub record AreSame (a b : State) (k : ℕ) : Type 0 where
  pub wants : list_any (wants_it k) a.requests ≡ list_any (wants_it k) b.requests
  pub syncs : list_any (syncs_it k) a.syncs ≡ list_any (syncs_it k) b.syncs

-- a placement's own events leave what waits for another place
pub own_same : (st : State) (events : List Event) (here k : ℕ) → (here == k) ≡ false → list_all (is_own here) events ≡ true → AreSame (fold after st events) st k
own_same st [] here k other every = record { wants = refl; syncs = refl }
own_same st (e ∷ events) here k other every =
    let parts = and_parts (is_own here e) (list_all (is_own here) events) every in
    let later = own_same (after st e) events here k other parts.1 in
    record { wants = later.wants ∙ own_wants st e here k other parts.0; syncs = later.syncs ∙ own_syncs st e here k other parts.0 }

-- a placement's own events leave whether another place waits
pub own_list : (st : State) (events : List Event) (here k : ℕ) → (here == k) ≡ false → list_all (is_own here) events ≡ true → is_waiting (fold after st events) k ≡ is_waiting st k
own_list st events here k other every =
    let same = own_same st events here k other every in
    ap (λ b. b || list_any (syncs_it k) (fold after st events).syncs) same.wants ∙ ap (λ b. list_any (wants_it k) st.requests || b) same.syncs

-- a submission makes no step and drains nothing
pub own_steps : (events : List Event) (here : ℕ) → list_all (is_own here) events ≡ true → filter_map step_to events ≡ []
own_steps [] here every = refl
own_steps (Wants ticket place ∷ events) here every = own_steps events here (and_parts (ticket == here) (list_all (is_own here) events) every).1
own_steps (Queues place ∷ events) here every = own_steps events here every
own_steps (Syncs ticket ∷ events) here every = own_steps events here (and_parts (ticket == here) (list_all (is_own here) events) every).1
own_steps (Synced ticket ∷ events) here every = own_steps events here (and_parts (ticket == here) (list_all (is_own here) events) every).1
own_steps (Drains who ∷ events) here every = absurd (cc)
own_steps (Rests who ∷ events) here every = absurd (cc)
own_steps (Served ticket place fault ∷ events) here every = absurd (cc)
own_steps (Worked place fault ∷ events) here every = absurd (cc)

-- a placement's own events leave the sessions that drain
pub own_drains : (st : State) (events : List Event) (here : ℕ) → list_all (is_own here) events ≡ true → (fold after st events).drains ≡ st.drains
own_drains st [] here every = refl
own_drains st (Wants ticket place ∷ events) here every = own_drains (after st (Wants ticket place)) events here (and_parts (ticket == here) (list_all (is_own here) events) every).1
own_drains st (Queues place ∷ events) here every = own_drains (after st (Queues place)) events here every
own_drains st (Syncs ticket ∷ events) here every = own_drains (after st (Syncs ticket)) events here (and_parts (ticket == here) (list_all (is_own here) events) every).1
own_drains st (Synced ticket ∷ events) here every = own_drains (after st (Synced ticket)) events here (and_parts (ticket == here) (list_all (is_own here) events) every).1
own_drains st (Drains who ∷ events) here every = absurd (cc)
own_drains st (Rests who ∷ events) here every = absurd (cc)
own_drains st (Served ticket place fault ∷ events) here every = absurd (cc)
own_drains st (Worked place fault ∷ events) here every = absurd (cc)

-- where no step is made nothing fails
pub no_step_no_fault : (events : List Event) → filter_map step_to events ≡ [] → filter_map fault_of events ≡ []
no_step_no_fault [] none = refl
no_step_no_fault (Wants ticket place ∷ events) none = no_step_no_fault events none
no_step_no_fault (Queues place ∷ events) none = no_step_no_fault events none
no_step_no_fault (Syncs ticket ∷ events) none = no_step_no_fault events none
no_step_no_fault (Synced ticket ∷ events) none = no_step_no_fault events none
no_step_no_fault (Drains who ∷ events) none = no_step_no_fault events none
no_step_no_fault (Rests who ∷ events) none = no_step_no_fault events none
no_step_no_fault (Served ticket place fault ∷ events) none = absurd (cc)
no_step_no_fault (Worked place fault ∷ events) none = absurd (cc)

-- events without a step of the head hold no fault of anybody
pub no_step_owned : (st : State) (owner : Owner) (events : List Event) → filter_map step_to events ≡ [] → owned_from st owner events ≡ []
no_step_owned st owner [] none = refl
no_step_owned st owner (Wants ticket place ∷ events) none = no_step_owned (after st (Wants ticket place)) owner events none
no_step_owned st owner (Queues place ∷ events) none = no_step_owned (after st (Queues place)) owner events none
no_step_owned st owner (Syncs ticket ∷ events) none = no_step_owned (after st (Syncs ticket)) owner events none
no_step_owned st owner (Synced ticket ∷ events) none = no_step_owned (after st (Synced ticket)) owner events none
no_step_owned st owner (Drains who ∷ events) none = no_step_owned (after st (Drains who)) owner events none
no_step_owned st owner (Rests who ∷ events) none = no_step_owned (after st (Rests who)) owner events none
no_step_owned st owner (Served ticket place fault ∷ events) none = absurd (cc)
no_step_owned st owner (Worked place fault ∷ events) none = absurd (cc)
