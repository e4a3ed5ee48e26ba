-- Which events may follow one another while a volume is served, what they cost, and who owns the faults among them.
use Rattle.std.specs.Prelude.{ℕ, ◌+◌, ◌-◌, ◌≡◌, ◌==◌, ◌&&◌, ◌||◌, not, nat_lt, nat_le, cond, Bool, true, false, List}
use Rattle.std.specs.Prelude.{[], ◌∷◌, ◌++◌, length, filter, fold, sum, filter_map, scan, drop, Option, Some, None}
use Rattle.std.specs.Prelude.{slice_get, take}
use Rattle.std.specs.List.{list_all, list_any}
use Rattle.tape_types.specs.Cartridges.{next}
use Rattle.tape_types.specs.declared.cartridges.Place.{Place}
use Rattle.tape_types.specs.declared.cartridges.Twin.{Twin}
use Rattle.session_script.specs.declared.logs.Event.{Event}
use Rattle.session_script.specs.declared.logs.Event.TheVariants.{Wants, Queues, Syncs, Synced, Drains, Rests, Served}
use Rattle.session_script.specs.declared.logs.Event.TheVariants.{Worked}
use Rattle.head_queue.specs.EventLaws.Waiting.{State, Request, Op, Waiter, start, same_place, with_flushes, ops, waiting_op}
use Rattle.head_queue.specs.EventLaws.Waiting.{op_key, request_key, keys, is_least, is_due}

-- ---- which event may come

-- it is a request of this read for this block
abbrev pub asks : ℕ → Place → Request → Bool
asks ticket place r = r.ticket == ticket && same_place r.place place

-- the op puts an item at this place
abbrev pub puts_at : Place → Op → Bool
puts_at place op = not op.flush && same_place op.place place

-- the op is the one that waits for the head, is at this place, and is taken
abbrev pub takes_op : State → Place → Option Op → Bool
takes_op st place None = false
takes_op st place (Some op) = same_place op.place place && is_least (op_key st.head op) (keys st)

-- the request is this one, and is taken
abbrev pub takes_request : State → ℕ → Place → Request → Bool
takes_request st ticket place r = asks ticket place r && is_least (request_key st.head r) (keys st)

-- the sync has waited longest, and all ops that it waits for are done
abbrev pub is_answered : State → ℕ → List Waiter → Bool
is_answered st ticket [] = false
is_answered st ticket (s ∷ more) = s.ticket == ticket && nat_le s.due st.done

abbrev pub drains_now : State → ℕ → Bool
drains_now st who = list_any (λ w. w == who) st.drains

-- A read wants each block once, and none that an op holds. A session drains while more than 64 ops stand.
abbrev pub fits : State → Event → Bool
fits st (Wants ticket place) = not (list_any (asks ticket place) st.requests) && not (list_any (puts_at place) (ops st))
fits st (Queues place) = true
fits st (Syncs ticket) = true
fits st (Synced ticket) = is_answered st ticket st.syncs
fits st (Drains who) = nat_lt 64 (length (ops st)) && not (drains_now st who)
fits st (Rests who) = nat_le (length (ops st)) 64 && drains_now st who
fits st (Served ticket place fault) = list_any (takes_request st ticket place) st.requests
fits st (Worked place fault) = takes_op st place (waiting_op st)

abbrev pub is_answer : Event → Bool
is_answer (Synced ticket) = true
is_answer _ = false

-- a sync with no more to wait for is answered before anything else happens
abbrev pub allows : State → Event → Bool
allows st e = fits st e && (not (is_due st) || is_answer e)

-- ---- what it leaves

-- a sync ends the group, and waits for all ops that stand
abbrev pub with_sync : ℕ → State → State
with_sync ticket st = by (st.ended ++ with_flushes st.group)
  where
    by : List Op → State
    by all = record st
        { ended = all; group = []; syncs = st.syncs ++ record { ticket = ticket; due = st.done + length all } ∷ [] }

abbrev pub without_first_op : State → State
without_first_op st = by st.ended
  where
    by : List Op → State
    by [] = record st { group = drop 1 st.group }
    by (op ∷ more) = record st { ended = more }

-- past what was read or written, and at the end of the partition for a flush
abbrev pub behind : Op → Place
behind op = cond op.flush op.place (next op.place)

abbrev pub after_op : Option Op → State → State
after_op None st = st
after_op (Some op) st = record (without_first_op st) { head = behind op; done = st.done + 1 }

-- whose step it was waits no more: the sync that has waited longest, or else the session that has drained longest
abbrev pub without_first_waiter : State → State
without_first_waiter st = by st.syncs
  where
    by : List Waiter → State
    by [] = record st { drains = drop 1 st.drains }
    by (s ∷ more) = record st { syncs = more }

-- what an event leaves; with a fault the head stands at its place, its read wants nothing more, and an op stays
abbrev pub after : State → Event → State
after st
    (Wants ticket place) = record st {
      arrived = st.arrived + 1;
      requests = st.requests ++ record { ticket = ticket; place = place; arrival = st.arrived } ∷ [];
    }
after st (Queues place) = record st { group = st.group ++ place ∷ [] }
after st (Syncs ticket) = with_sync ticket st
after st (Synced ticket) = record st { syncs = filter (λ s. not (s.ticket == ticket)) st.syncs }
after st (Drains who) = record st { drains = st.drains ++ who ∷ [] }
after st (Rests who) = record st { drains = filter (λ w. not (w == who)) st.drains }
after st
    (Served ticket place None) = record st
    { head = next place; requests = filter (λ r. not (asks ticket place r)) st.requests }
after st
    (Served ticket place (Some counts)) = record st
    { head = place; requests = filter (λ r. not (r.ticket == ticket)) st.requests }
after st (Worked place None) = after_op (waiting_op st) st
after st (Worked place (Some counts)) = record (without_first_waiter st) { head = place }

abbrev pub after_all : List Event → State
after_all events = fold after start events

-- ---- trails

-- each event is one that may come in the state that those before it leave
abbrev pub is_trail_from : State → List Event → Bool
is_trail_from st events = list_all (λ may. may) (scan after allows st events)

abbrev pub is_trail : List Event → Bool
is_trail events = is_trail_from start events

abbrev pub IsTrail : List Event → Type 0
IsTrail events = is_trail events ≡ true

-- the same, said of each event: it may come in the state that the events before it leave
abbrev pub EachIsAllowed : List Event → Type 0
EachIsAllowed events = (k : ℕ) (e : Event) → slice_get events k ≡ Some e → allows (after_all (take k events)) e ≡ true

-- ---- steps and travel

-- where the head steps to
abbrev pub step_to : Event → Option Place
step_to (Served ticket place fault) = Some place
step_to (Worked place fault) = Some place
step_to _ = None

-- how many positions lie between where the head stands and where the event takes it
abbrev pub distance : State → Event → ℕ
distance st e = by (step_to e)
  where
    by : Option Place → ℕ
    by None = 0
    by (Some at) = (at.pos - st.head.pos) + (st.head.pos - at.pos)

abbrev pub steps : List Event → ℕ
steps events = length (filter_map step_to events)

abbrev pub travel : List Event → ℕ
travel events = sum (scan after distance start events)

-- a trail of so many steps and so much travel
pub record IsCost (events : List Event) (count length : ℕ) : Type 0 where
  pub trail : IsTrail events
  pub steps : steps events ≡ count
  pub travel : travel events ≡ length

-- ---- faults

abbrev pub fault_of : Event → Option Twin
fault_of (Served ticket place fault) = fault
fault_of (Worked place fault) = fault
fault_of _ = None

-- who is told of a fault: the call at a place of the history, or a session that drains
pub data Owner : Type 0 where
  of_call : ℕ → Owner
  of_session : ℕ → Owner

-- whose step the first op is
abbrev pub op_owner : List Waiter → List ℕ → Option Owner
op_owner (s ∷ more) drains = Some (of_call s.ticket)
op_owner [] (who ∷ more) = Some (of_session who)
op_owner [] [] = None

abbrev pub owner_of : State → Event → Option Owner
owner_of st (Served ticket place fault) = Some (of_call ticket)
owner_of st (Worked place fault) = op_owner st.syncs st.drains
owner_of st _ = None

abbrev pub both : {X Y : Type 0} → Option X → Option Y → Option (X × Y)
both (Some x) (Some y) = Some (x, y)
both None y = None
both (Some x) None = None

-- the faults of the events in their order, each with its owner
abbrev pub owned : List Event → List (Owner × Twin)
owned events = filter_map (λ o. o) (scan after (λ st e. both (owner_of st e) (fault_of e)) start events)

abbrev pub is_of : Owner → Owner → Bool
is_of (of_call k) (of_call n) = k == n
is_of (of_session w) (of_session v) = w == v
is_of (of_call k) (of_session w) = false
is_of (of_session w) (of_call k) = false

-- the faults that one owns
abbrev pub owned_by : Owner → List Event → List Twin
owned_by owner events = filter_map (λ e. cond (is_of owner e.0) (Some e.1) None) (owned events)
