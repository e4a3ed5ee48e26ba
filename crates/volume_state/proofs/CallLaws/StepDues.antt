-- The syncs that wait stand in the order in which they are due, and the ops that stand lead up to each.
use Rattle.std.specs.Prelude.{◌≡◌, ◌==◌, not, ℕ, ◌+◌, ◌≤◌, ◌<◌, nat_le, Bool, true, false, cond, List, [], ◌∷◌, ◌++◌, filter, fold, length, map, Option, Some, None}
use Rattle.std.proofs.Common.{refl, sym, ap, ◌∙◌, arith, length-append}
use Rattle.std.proofs.lemmas.Bool.Decides.{nat_tests}
use Rattle.tape_types.specs.declared.cartridges.Place.{Place}
use Rattle.session_script.specs.declared.logs.Event.{Event}
use Rattle.session_script.specs.declared.logs.Event.TheVariants.{Wants, Queues, Syncs, Synced, Drains, Rests, Served, Worked}
use Rattle.head_queue.specs.EventLaws.Trail.{after, after_all, after_op, without_first_waiter}
use Rattle.head_queue.specs.EventLaws.Waiting.{Op, Request, State, Waiter, ops, put_at, start, waiting_op, with_flushes}
use Rattle.event_journal.specs.Trails.{due_of, due_ticket}

-- each is due no earlier than the one before it, and none later than once so many ops are done
abbrev pub DueWithin : ℕ → ℕ → List Waiter → Type 0
DueWithin low high [] = Unit {0}
DueWithin low high (s ∷ syncs) = (low ≤ s.due) × (s.due ≤ high) × DueWithin s.due high syncs

-- the syncs that wait are due in their order, none later than once all ended ops are done
abbrev pub AreDue : State → Type 0
AreDue st = DueWithin 0 (st.done + length st.ended) st.syncs

later_end : (low high more : ℕ) (syncs : List Waiter) → high ≤ more → DueWithin low high syncs
    → DueWithin low more syncs
later_end low high more [] le d = tt
later_end low high more (s ∷ syncs) le d = (d.0, omega (arith, le, d.1), later_end s.due high more syncs le d.2)

earlier : (less low high : ℕ) (syncs : List Waiter) → less ≤ low → DueWithin low high syncs → DueWithin less high syncs
earlier less low high [] le d = tt
earlier less low high (s ∷ syncs) le d = (omega (arith, le, d.0), d.1, d.2)

one_more : (low high : ℕ) (syncs : List Waiter) (w : Waiter) → low ≤ high → high ≤ w.due → DueWithin low high syncs
    → DueWithin low w.due (syncs ++ w ∷ [])
one_more low high [] w le at d = (omega (arith, le, at), omega arith, tt)
one_more low high (s ∷ syncs) w le at d = (d.0, omega (arith, d.1, at), one_more s.due high syncs w d.1 at d.2)

some_by : (b : Bool) (low high : ℕ) (s : Waiter) (rest : List Waiter) → low ≤ s.due → s.due ≤ high
    → DueWithin s.due high rest
    → DueWithin low high (cond b (s ∷ rest) rest)
some_by true low high s rest le at d = (le, at, d)
some_by false low high s rest le at d = earlier low s.due high rest le d

some_of : (p : Waiter → Bool) (low high : ℕ) (syncs : List Waiter) → DueWithin low high syncs
    → DueWithin low high (filter p syncs)
some_of p low high [] d = tt
some_of p low high (s ∷ syncs) d = some_by (p s) low high s (filter p syncs) d.0 d.1 (some_of p s.due high syncs d.2)

-- ---- as events come

synced_more : (done : ℕ) (ended more : List Op) (syncs : List Waiter) (ticket : ℕ)
    → DueWithin 0 (done + length ended) syncs
    → DueWithin 0 (done + length (ended ++ more)) (syncs ++ record { ticket = ticket; due = done + length (ended ++ more) } ∷ [])
synced_more done ended more syncs ticket d =
    one_more 0 (done + length ended) syncs (record { ticket = ticket; due = done + length (ended ++ more) })
    (omega arith) (omega (arith, length-append ended more)) d

op_due : (head : Place) (arrived : ℕ) (requests : List Request) (done : ℕ) (ended : List Op) (group : List Place) (syncs : List Waiter) (drains : List ℕ) (o : Option Op)
    → DueWithin 0 (done + length ended) syncs
    → AreDue (after_op o (record { head = head; arrived = arrived; requests = requests; done = done; ended = ended; group = group; syncs = syncs; drains = drains }))
op_due head arrived requests done ended group syncs drains None d = d
op_due head arrived requests done [] group syncs drains (Some op) d = later_end 0 (done + 0) (done + 1 + 0) syncs (omega arith) d
op_due head arrived requests done (x ∷ ended) group syncs drains (Some op) d =
    later_end 0 (done + length (x ∷ ended)) (done + 1 + length ended) syncs (omega arith) d

failed_due : (head : Place) (arrived : ℕ) (requests : List Request) (done : ℕ) (ended : List Op) (group : List Place) (syncs : List Waiter) (drains : List ℕ)
    → DueWithin 0 (done + length ended) syncs
    → AreDue (without_first_waiter (record { head = head; arrived = arrived; requests = requests; done = done; ended = ended; group = group; syncs = syncs; drains = drains }))
failed_due head arrived requests done ended group [] drains d = d
failed_due head arrived requests done ended group (s ∷ syncs) drains d = earlier 0 s.due (done + length ended) syncs (omega arith) d.2

one_due : (st : State) (e : Event) → AreDue st → AreDue (after st e)
one_due st (Wants ticket place) d = d
one_due st (Queues place) d = d
one_due st (Syncs ticket) d = synced_more st.done st.ended (with_flushes st.group) st.syncs ticket d
one_due st (Synced ticket) d = some_of (λ (s : Waiter). not (s.ticket == ticket)) 0 (st.done + length st.ended) st.syncs d
one_due st (Drains who) d = d
one_due st (Rests who) d = d
one_due st (Served ticket place None) d = d
one_due st (Served ticket place (Some counts)) d = d
one_due st (Worked place None) d = op_due st.head st.arrived st.requests st.done st.ended st.group st.syncs st.drains (waiting_op st) d
one_due st (Worked place (Some counts)) d =
    failed_due st.head st.arrived st.requests st.done st.ended st.group st.syncs st.drains d

due_from : (st : State) (events : List Event) → AreDue st → AreDue (fold after st events)
due_from st [] d = d
due_from st (e ∷ events) d = due_from (after st e) events (one_due st e d)

-- the syncs are due in their order after any events
pub are_due : (events : List Event) → AreDue (after_all events)
are_due events = due_from start events tt

-- ---- where none is due

by_late : (b : Bool) (ticket : ℕ) → cond b (Some ticket) None ≡ None → b ≡ false
by_late true ticket e = absurd (cc)
by_late false ticket e = refl

-- where the first sync isn't due, fewer ops are done than it waits for
pub is_late : (done : ℕ) (s : Waiter) (more : List Waiter) → due_of done (s ∷ more) ≡ None → done < s.due
is_late done s more e = let late = by_late (nat_le s.due done) s.ticket e in grind (arith, nat_tests)

late_is : (done due : ℕ) → done < due → nat_le due done ≡ false
late_is done due less = grind (arith, nat_tests)

-- where fewer ops are done than any sync waits for, none is due
pub none_due : (done low high : ℕ) (syncs : List Waiter) → done < low → DueWithin low high syncs
    → due_of done syncs ≡ None
none_due done low high [] less d = refl
none_due done low high (s ∷ syncs) less d = ap (λ b. cond b (Some s.ticket) None) (late_is done s.due (omega (arith, less, d.0)))

-- where a sync waits an op stands
pub some_stand : (st : State) (s : Waiter) (more : List Waiter) → AreDue st → due_ticket st ≡ None
    → st.syncs ≡ s ∷ more → 1 ≤ length (ops st)
some_stand st s more d none is =
    let high : DueWithin 0 (st.done + length st.ended) (s ∷ more) = Rattle.std.proofs.Common.subst (DueWithin 0 (st.done + length st.ended)) is d in
    let late = is_late st.done s more (sym (ap (due_of st.done) is) ∙ none) in
    omega (arith, late, high.1, length-append st.ended (map put_at st.group))
