-- Each step of the head lowers the load.
use Rattle.std.specs.Prelude.{◌≡◌, ◌==◌, ◌&&◌, ◌||◌, not, ℕ, zero, suc, ◌+◌, ◌≤◌, Bool, true, false, cond, List, [], ◌∷◌, ◌++◌, length, filter, fold, map, drop, Option, Some, None, nat_le}
use Rattle.std.specs.List.{list_any}
use Rattle.std.proofs.Common.{refl, sym, ap, subst, ◌∙◌, arith, length-append}
use Rattle.std.proofs.lemmas.List.{length-map, length_push}
use Rattle.std.proofs.lemmas.List.Filters.{length-filter_both}
use Rattle.std.proofs.lemmas.List.Sums.{length-filter, sum_by-cons}
use Rattle.tape_types.specs.declared.cartridges.Place.{Place}
use Rattle.tape_types.specs.declared.cartridges.Twin.{Twin}
use Rattle.session_script.specs.declared.logs.Event.{Event}
use Rattle.session_script.specs.declared.logs.Event.TheVariants.{Wants, Queues, Syncs, Synced, Drains, Rests, Served, Worked}
use Rattle.head_queue.specs.EventLaws.Load.{IsSubmitted, StepsLowerTheLoad, TrailsChangeTheLoad, WaitsAreLoad, is_submitted, load, lowers}
use Rattle.head_queue.specs.EventLaws.Trail.{after, after_op, allows, asks, is_trail_from, steps, takes_op, takes_request, without_first_waiter}
use Rattle.head_queue.specs.EventLaws.Waiting.{Op, Request, State, Waiter, is_calm, is_least, keys, ops, put_at, request_key, same_place, waiting_op, with_flushes, first_of}
use Rattle.head_queue.proofs.EventLaws.TrailLaw.{first_of as left_of, second_of as right_of}

-- ---- lists

any_by : {X : Type 0} (p : X → Bool) (x : X) (xs : List X) → (list_any p xs ≡ true → 1 ≤ length (filter p xs)) → (b : Bool) → p x ≡ b
    → (p x || list_any p xs) ≡ true → 1 ≤ cond (p x) 1 0 + length (filter p xs)
any_by p x xs more true is h = let one : cond (p x) 1 0 ≡ 1 = ap {B = ℕ} (λ b. cond b 1 0) is in omega (arith, one)
any_by p x xs more false is h = omega (arith, more (sym (ap (λ b. b || list_any p xs) is) ∙ h))

any_some : {X : Type 0} (p : X → Bool) (xs : List X) → list_any p xs ≡ true → 1 ≤ length (filter p xs)
any_some p [] h = absurd (cc)
any_some p (x ∷ xs) h =
    omega (arith, length-filter p (x ∷ xs), length-filter p xs, sum_by-cons (λ y. cond (p y) 1 0) x xs, any_by p x xs (any_some p xs) (p x) refl h)

any_weaker : {X : Type 0} (p q : X → Bool) (xs : List X) → ((x : X) → p x ≡ true → q x ≡ true) → list_any p xs ≡ true → list_any q xs ≡ true
any_weaker p q [] w h = h
any_weaker p q (x ∷ xs) w h = by (p x) (q x) (w x) (any_weaker p q xs w) h
  where
    by : (b c : Bool) → (b ≡ true → c ≡ true) → (list_any p xs ≡ true → list_any q xs ≡ true) → (b || list_any p xs) ≡ true → (c || list_any q xs) ≡ true
    by true c one more e = ap (λ d. d || list_any q xs) (one refl)
    by false true one more e = refl
    by false false one more e = more e

shorter : {X : Type 0} (p : X → Bool) (xs : List X) → length (filter (λ x. not (p x)) xs) ≤ length xs
shorter p xs = omega (arith, length-filter_both p (λ x. not (p x)) (λ x. refl) xs)

-- where one passes, those that don't are fewer
pub fewer : {X : Type 0} (p : X → Bool) (xs : List X) → list_any p xs ≡ true → length (filter (λ x. not (p x)) xs) + 1 ≤ length xs
fewer p xs h = omega (arith, length-filter_both p (λ x. not (p x)) (λ x. refl) xs, any_some p xs h)

-- ---- ops

-- an op waits, so one stands
op_goes : (head : Place) (arrived : ℕ) (requests : List Request) (done : ℕ) (ended : List Op) (group : List Place) (syncs : List Waiter) (drains : List ℕ) (op : Op)
    → first_of (ended ++ map put_at group) ≡ Some op
    → load (after_op (Some op) (record { head = head; arrived = arrived; requests = requests; done = done; ended = ended; group = group; syncs = syncs; drains = drains })) + 1
    ≤ load (record { head = head; arrived = arrived; requests = requests; done = done; ended = ended; group = group; syncs = syncs; drains = drains })
op_goes head arrived requests done [] [] syncs drains op is = absurd (let no : None ≡ Some op = is in cc)
op_goes head arrived requests done [] (p ∷ group) syncs drains op is = omega arith
op_goes head arrived requests done (o ∷ ended) group syncs drains op is = omega arith

-- where somebody waits for ops, he who has waited longest waits no more
waiter_goes : (head : Place) (arrived : ℕ) (requests : List Request) (done : ℕ) (ended : List Op) (group : List Place) (syncs : List Waiter) (drains : List ℕ)
    → (length syncs == 0 && length drains == 0) ≡ false
    → load (without_first_waiter (record { head = head; arrived = arrived; requests = requests; done = done; ended = ended; group = group; syncs = syncs; drains = drains })) + 1
    ≤ load (record { head = head; arrived = arrived; requests = requests; done = done; ended = ended; group = group; syncs = syncs; drains = drains })
waiter_goes head arrived requests done ended group [] [] calm = absurd (cc)
waiter_goes head arrived requests done ended group [] (who ∷ drains) calm = omega arith
waiter_goes head arrived requests done ended group (s ∷ syncs) drains calm = omega arith

-- what the head takes of ops is the first of them, and somebody waits for it
pub record IsTaken (st : State) : Type 0 where
  pub op : Op
  pub waits : waiting_op st ≡ Some op
  pub first : first_of (ops st) ≡ Some op
  pub not_calm : is_calm st ≡ false

taken_by : (st : State) (calm : Bool) → is_calm st ≡ calm → (first : Option Op) → first_of (ops st) ≡ first → (place : Place)
    → takes_op st place (cond calm None first) ≡ true → IsTaken st
taken_by st true is first there place h = absurd (cc)
taken_by st false is None there place h = absurd (cc)
taken_by st false is (Some op) there place h = record { op = op; waits = ap (λ b. cond b None (first_of (ops st))) is ∙ there; first = there; not_calm = is }

-- what the head takes of ops is taken
pub taken : (st : State) (place : Place) → takes_op st place (waiting_op st) ≡ true → IsTaken st
taken st place h = taken_by st (is_calm st) refl (first_of (ops st)) refl place h

asked_by : (st : State) (ticket : ℕ) (place : Place) (r : Request) → takes_request st ticket place r ≡ true → asks ticket place r ≡ true
asked_by st ticket place r h = left_of (asks ticket place r) (is_least (request_key st.head r) (keys st)) h

of_ticket : (st : State) (ticket : ℕ) (place : Place) (r : Request) → takes_request st ticket place r ≡ true → (r.ticket == ticket) ≡ true
of_ticket st ticket place r h = left_of (r.ticket == ticket) (same_place r.place place) (asked_by st ticket place r h)

-- ---- each event

lowered : (st : State) (e : Event) → allows st e ≡ true → (IsSubmitted e → ⊥) → load (after st e) + lowers e ≤ load st
lowered st (Wants ticket place) h free = absurd (free tt)
lowered st (Queues place) h free = absurd (free tt)
lowered st (Syncs ticket) h free = absurd (free tt)
lowered st (Drains who) h free = absurd (free tt)
lowered st (Synced ticket) h free = omega (arith, shorter (λ (s : Waiter). s.ticket == ticket) st.syncs)
lowered st (Rests who) h free = omega (arith, shorter (λ w. w == who) st.drains)
lowered st (Served ticket place None) h free =
    let any = any_weaker (takes_request st ticket place) (asks ticket place) st.requests (asked_by st ticket place) (left_of _ _ h) in
    omega (arith, fewer (asks ticket place) st.requests any)
lowered st (Served ticket place (Some counts)) h free =
    let any = any_weaker (takes_request st ticket place) (λ (r : Request). r.ticket == ticket) st.requests (of_ticket st ticket place) (left_of _ _ h) in
    omega (arith, fewer (λ (r : Request). r.ticket == ticket) st.requests any)
lowered st (Worked place None) h free =
    let t = taken st place (left_of _ _ h) in
    let goes = op_goes st.head st.arrived st.requests st.done st.ended st.group st.syncs st.drains t.op t.first in
    subst (λ (o : Option Op). load (after_op o st) + 1 ≤ load st) (sym t.waits) goes
lowered st (Worked place (Some counts)) h free =
    waiter_goes st.head st.arrived st.requests st.done st.ended st.group st.syncs st.drains (taken st place (left_of _ _ h)).not_calm

-- each step of the head lowers the load
pub steps_lower_the_load : StepsLowerTheLoad
steps_lower_the_load = lowered

-- ---- a trail

-- as many ops are ended as stood in the group
pub flushes_long : (places : List Place) → length (with_flushes places) ≡ length places
flushes_long [] = refl
flushes_long (p ∷ places) = ap suc (flushes_long places)

queued_one : (st : State) (place : Place)
    → length (ops (record st { group = st.group ++ place ∷ [] })) ≡ length (ops st) + 1
queued_one st place =
    omega (arith, length-append st.ended (map put_at (st.group ++ place ∷ [])), length-map (st.group ++ place ∷ []) put_at, length_push st.group place, length-append st.ended (map put_at st.group), length-map st.group put_at)

synced_one : (st : State) (ticket : ℕ) → load (after st (Syncs ticket)) ≡ load st + 1
synced_one st ticket =
    omega (arith, length-append (st.ended ++ with_flushes st.group) [], length-append st.ended (with_flushes st.group), flushes_long st.group, length-append st.ended (map put_at st.group), length-map st.group put_at, length_push st.syncs (record { ticket = ticket; due = st.done + length (st.ended ++ with_flushes st.group) }))

-- how a trail changes the load: by what comes in and what its steps take away
pub trails_change_the_load : TrailsChangeTheLoad
trails_change_the_load st [] h = omega arith
trails_change_the_load st (e ∷ later) h =
    by e (left_of (allows st e) (is_trail_from (after st e) later) h)
    (trails_change_the_load (after st e) later (right_of (allows st e) (is_trail_from (after st e) later) h))
  where
    by : (e : Event) → allows st e ≡ true
        → load (fold after (after st e) later) + steps later ≤ load (after st e) + length (filter is_submitted later)
        → load (fold after st (e ∷ later)) + steps (e ∷ later) ≤ load st + length (filter is_submitted (e ∷ later))
    by (Wants ticket place) may rest = omega (arith, rest, length_push st.requests (record { ticket = ticket; place = place; arrival = st.arrived }))
    by (Queues place) may rest = omega (arith, rest, queued_one st place)
    by (Syncs ticket) may rest = omega (arith, rest, synced_one st ticket)
    by (Drains who) may rest = omega (arith, rest, length_push st.drains who)
    by (Synced ticket) may rest = omega (arith, rest, lowered st (Synced ticket) may (λ no. no))
    by (Rests who) may rest = omega (arith, rest, lowered st (Rests who) may (λ no. no))
    by (Served ticket place fault) may rest = omega (arith, rest, lowered st (Served ticket place fault) may (λ no. no))
    by (Worked place fault) may rest = omega (arith, rest, lowered st (Worked place fault) may (λ no. no))

-- ---- who waits

some_stand : {X : Type 0} (p : X → Bool) (xs : List X) → list_any p xs ≡ true → 1 ≤ length xs
some_stand p [] h = absurd (cc h)
some_stand p (x ∷ xs) h = omega arith

-- where a request or a sync waits, the load isn't zero
pub waits_are_load : WaitsAreLoad
waits_are_load st ticket h = by (list_any (λ (r : Request). r.ticket == ticket) st.requests) refl h
  where
    by : (some : Bool) → list_any (λ (r : Request). r.ticket == ticket) st.requests ≡ some
        → (some || list_any (λ (s : Waiter). s.ticket == ticket) st.syncs) ≡ true → 1 ≤ load st
    by true is h = omega (arith, some_stand (λ (r : Request). r.ticket == ticket) st.requests is)
    by false is h = omega (arith, some_stand (λ (s : Waiter). s.ticket == ticket) st.syncs h)
