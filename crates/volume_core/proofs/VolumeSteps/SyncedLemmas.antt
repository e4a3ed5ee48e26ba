-- A sync among the events: what it waits for, and when it is answered.
use Rattle.std.specs.Prelude.{ℕ, suc, ◌≡◌, ◌==◌, ◌+◌, ◌≤◌, ◌<◌, Bool, true, false, not, cond, nat_le, List, [], ◌∷◌, ◌++◌, filter, fold, length, map, Option, Some, None}
use Rattle.std.specs.List.{AllByRecursion}
use Rattle.std.proofs.Common.{refl, sym, ap, ◌∙◌, arith, append-nil, length-append}
use Rattle.std.proofs.lemmas.List.{length-map}
use Rattle.std.proofs.lemmas.Bool.{eq-eqb, le-leb, leb-false, lt-leb}
use Rattle.tape_types.specs.declared.cartridges.Place.{Place}
use Rattle.session_script.specs.declared.logs.Event.{Event}
use Rattle.session_script.specs.declared.logs.Event.TheVariants.{Wants, Queues, Syncs, Synced, Drains, Rests, Served, Worked}
use Rattle.head_queue.specs.EventLaws.Trail.{after, after_all, after_op, without_first_waiter}
use Rattle.head_queue.specs.EventLaws.Waiting.{Op, Request, State, Waiter, first_of, is_calm, ops, put_at, start, waiting_op, with_flushes}
use Rattle.event_journal.specs.Trails.{due_of, due_ticket}

flushes_long : (places : List Place) → length (with_flushes places) ≡ length places
flushes_long [] = refl
flushes_long (p ∷ later) = ap suc (flushes_long later)

-- ---- a sync waits for ops that stand

all_more : (m n : ℕ) (syncs : List Waiter) → m ≤ n → AllByRecursion (λ (s : Waiter). s.due ≤ m) syncs → AllByRecursion (λ (s : Waiter). s.due ≤ n) syncs
all_more m n [] le all = tt
all_more m n (s ∷ syncs) le all = (omega (arith, le, all.0), all_more m n syncs le all.1)

all_and : (n : ℕ) (syncs : List Waiter) (w : Waiter) → w.due ≤ n → AllByRecursion (λ (s : Waiter). s.due ≤ n) syncs
    → AllByRecursion (λ (s : Waiter). s.due ≤ n) (syncs ++ w ∷ [])
all_and n [] w le all = (le, tt)
all_and n (s ∷ syncs) w le all = (all.0, all_and n syncs w le all.1)

all_by : (b : Bool) (n : ℕ) (s : Waiter) (kept : List Waiter) → s.due ≤ n → AllByRecursion (λ (s : Waiter). s.due ≤ n) kept
    → AllByRecursion (λ (s : Waiter). s.due ≤ n) (cond b (s ∷ kept) kept)
all_by true n s kept le all = (le, all)
all_by false n s kept le all = all

all_kept : (p : Waiter → Bool) (n : ℕ) (syncs : List Waiter) → AllByRecursion (λ (s : Waiter). s.due ≤ n) syncs
    → AllByRecursion (λ (s : Waiter). s.due ≤ n) (filter p syncs)
all_kept p n [] all = tt
all_kept p n (s ∷ syncs) all = all_by (p s) n s (filter p syncs) all.0 (all_kept p n syncs all.1)

-- each sync is due once all ops that stand are done, or before
abbrev pub AreWithin : State → Type 0
AreWithin st = AllByRecursion (λ (s : Waiter). s.due ≤ length (ops st) + st.done) st.syncs

done_within : (head : Place) (arrived : ℕ) (requests : List Request) (done : ℕ) (ended : List Op) (group : List Place) (syncs : List Waiter) (drains : List ℕ) (op : Op)
    → first_of (ended ++ map put_at group) ≡ Some op
    → AllByRecursion (λ (s : Waiter). s.due ≤ length (ended ++ map put_at group) + done) syncs
    → AreWithin (after_op (Some op) (record { head = head; arrived = arrived; requests = requests; done = done; ended = ended; group = group; syncs = syncs; drains = drains }))
done_within head arrived requests done [] [] syncs drains op is all = absurd (let off : None ≡ Some op = is in cc)
done_within head arrived requests done [] (p ∷ group) syncs drains op is all =
    all_more (length (map put_at (p ∷ group)) + done) (length (map put_at group) + (done + 1)) syncs (omega arith) all
done_within head arrived requests done (o ∷ ended) group syncs drains op is all =
    all_more (length (o ∷ ended ++ map put_at group) + done) (length (ended ++ map put_at group) + (done + 1)) syncs (omega arith) all

waits_first : (calm : Bool) (first : Option Op) (op : Op) → cond calm None first ≡ Some op → first ≡ Some op
waits_first true first op e = cc
waits_first false first op e = e

worked_within : (st : State) (waits : Option Op) → waiting_op st ≡ waits → AreWithin st → AreWithin (after_op waits st)
worked_within st None is all = all
worked_within st (Some op) is all =
    done_within st.head st.arrived st.requests st.done st.ended st.group st.syncs st.drains op
    (waits_first (is_calm st) (first_of (ops st)) op is) all

failed_within : (head : Place) (arrived : ℕ) (requests : List Request) (done : ℕ) (ended : List Op) (group : List Place) (syncs : List Waiter) (drains : List ℕ)
    → AllByRecursion (λ (s : Waiter). s.due ≤ length (ended ++ map put_at group) + done) syncs
    → AreWithin (without_first_waiter (record { head = head; arrived = arrived; requests = requests; done = done; ended = ended; group = group; syncs = syncs; drains = drains }))
failed_within head arrived requests done ended group [] drains all = tt
failed_within head arrived requests done ended group (s ∷ syncs) drains all = all.1

within_one : (st : State) (e : Event) → AreWithin st → AreWithin (after st e)
within_one st (Wants ticket place) all = all
within_one st (Queues place) all = all_more (length (ops st) + st.done) (length (st.ended ++ map put_at (st.group ++ place ∷ [])) + st.done) st.syncs
    (omega (
      arith,
      length-append st.ended (map put_at (st.group ++ place ∷ [])),
      length-map (st.group ++ place ∷ []) put_at,
      length-append st.group (place ∷ []),
      length-append st.ended (map put_at st.group),
      length-map st.group put_at,
    )) all
within_one st (Syncs ticket) all =
    let same : length ((st.ended ++ with_flushes st.group) ++ map put_at []) ≡ length (ops st) =
    omega (
      arith,
      length-append (st.ended ++ with_flushes st.group) (map put_at []),
      length-append st.ended (with_flushes st.group),
      flushes_long st.group,
      length-append st.ended (map put_at st.group),
      length-map st.group put_at,
    ) in
    let most : length (st.ended ++ with_flushes st.group) ≡ length ((st.ended ++ with_flushes st.group) ++ map put_at []) =
    ap (λ (os : List Op). length os) (sym (append-nil (st.ended ++ with_flushes st.group))) in
    all_and (length ((st.ended ++ with_flushes st.group) ++ map put_at []) + st.done) st.syncs
    (record { ticket = ticket; due = st.done + length (st.ended ++ with_flushes st.group) }) (omega (arith, most))
    (all_more (length (ops st) + st.done) (length ((st.ended ++ with_flushes st.group) ++ map put_at []) + st.done) st.syncs (omega (arith, same)) all)
within_one st (Synced ticket) all = all_kept (λ (s : Waiter). not (s.ticket == ticket)) (length (ops st) + st.done) st.syncs all
within_one st (Drains who) all = all
within_one st (Rests who) all = all
within_one st (Served ticket place None) all = all
within_one st (Served ticket place (Some counts)) all = all
within_one st (Worked place None) all = worked_within st (waiting_op st) refl all
within_one st (Worked place (Some counts)) all =
    failed_within st.head st.arrived st.requests st.done st.ended st.group st.syncs st.drains all

within_from : (st : State) (events : List Event) → AreWithin st → AreWithin (fold after st events)
within_from st [] all = all
within_from st (e ∷ later) all = within_from (after st e) later (within_one st e all)

syncs_within : (events : List Event) → AreWithin (after_all events)
syncs_within events = within_from start events tt

-- so none waits where no op stands and none is due
none_left : (done n : ℕ) (syncs : List Waiter) → n ≡ 0 → AllByRecursion (λ (s : Waiter). s.due ≤ n + done) syncs → due_of done syncs ≡ None → syncs ≡ []
none_left done n [] none all due = refl
none_left done n (s ∷ more) none all due = absurd (by (nat_le s.due done) refl)
  where
    by : (b : Bool) → nat_le s.due done ≡ b → ⊥
    by true e = let there : due_of done (s ∷ more) ≡ Some s.ticket = rw e refl in let off : Some s.ticket ≡ None = sym there ∙ due in cc
    by false e = omega (arith, leb-false s.due done e, all.0, none)

none_waits : (events : List Event) → length (ops (after_all events)) ≡ 0 → due_ticket (after_all events) ≡ None
    → (after_all events).syncs ≡ []
none_waits events none due = none_left (after_all events).done (length (ops (after_all events))) (after_all events).syncs none
    (syncs_within events) due

-- ---- when it is due

all_long : (st : State) → length (st.ended ++ with_flushes st.group) ≡ length (ops st)
all_long st = omega (
  arith,
  length-append st.ended (with_flushes st.group),
  flushes_long st.group,
  length-append st.ended (map put_at st.group),
  length-map st.group put_at,
)

not_yet : (done : ℕ) (syncs : List Waiter) (w : Waiter) → due_of done syncs ≡ None → done < w.due → due_of done (syncs ++ w ∷ []) ≡ None
not_yet done [] w none later = ap (λ b. cond b (Some w.ticket) None) (lt-leb w.due done later)
not_yet done (s ∷ syncs) w none later = none

-- it waits where an op stands
pub sync_waits : (st : State) (here : ℕ) → 1 ≤ length (ops st) → due_ticket st ≡ None → due_ticket (after st (Syncs here)) ≡ None
sync_waits st here some none =
    not_yet st.done st.syncs (record { ticket = here; due = st.done + length (st.ended ++ with_flushes st.group) }) none
    (omega (arith, all_long st, some))

due_at : (done here due : ℕ) (syncs : List Waiter) → syncs ≡ [] → due ≤ done
    → due_of done (syncs ++ record { ticket = here; due = due } ∷ []) ≡ Some here
due_at done here due syncs none reached =
    ap (λ (ws : List Waiter). due_of done (ws ++ record { ticket = here; due = due } ∷ [])) none
    ∙ ap (λ b. cond b (Some here) None) (le-leb due done reached)

-- and is due at once where none does
pub sync_due : (events : List Event) (here : ℕ) → length (ops (after_all events)) ≡ 0 → due_ticket (after_all events) ≡ None
    → due_ticket (after (after_all events) (Syncs here)) ≡ Some here
sync_due events here none due =
    let st : State = after_all events in
    due_at st.done here (st.done + length (st.ended ++ with_flushes st.group)) st.syncs (none_waits events none due)
    (omega (arith, all_long st, none))

left_of : (here due : ℕ) (syncs : List Waiter) → syncs ≡ []
    → filter (λ (s : Waiter). not (s.ticket == here)) (syncs ++ record { ticket = here; due = due } ∷ []) ≡ []
left_of here due syncs none =
    ap (λ (ws : List Waiter). filter (λ (s : Waiter). not (s.ticket == here)) (ws ++ record { ticket = here; due = due } ∷ [])) none
    ∙ ap (λ b. cond (not b) (record { ticket = here; due = due } ∷ []) []) (eq-eqb here here refl)

-- once it is answered none is due
pub sync_done : (events : List Event) (here : ℕ) → length (ops (after_all events)) ≡ 0 → due_ticket (after_all events) ≡ None
    → due_ticket (after (after (after_all events) (Syncs here)) (Synced here)) ≡ None
sync_done events here none due =
    let st : State = after_all events in
    ap (λ (ws : List Waiter). due_of st.done ws)
    (left_of here (st.done + length (st.ended ++ with_flushes st.group)) st.syncs (none_waits events none due))
