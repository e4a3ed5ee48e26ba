-- What an event does to the ops that stand, and to how many were done.
use Rattle.std.specs.Prelude.{◌≡◌, ◌+◌, ℕ, Bool, true, false, cond, List, [], ◌∷◌, ◌++◌, length, map, Option, Some}
use Rattle.std.specs.Prelude.{None}
use Rattle.std.proofs.Common.{refl, ap, arith, length-append}
use Rattle.std.proofs.lemmas.List.{length-map}
use Rattle.tape_types.specs.declared.cartridges.Place.{Place}
use Rattle.session_script.specs.declared.logs.Event.{Event}
use Rattle.session_script.specs.declared.logs.Event.TheVariants.{Wants, Queues, Syncs, Synced, Drains, Rests, Served}
use Rattle.session_script.specs.declared.logs.Event.TheVariants.{Worked}
use Rattle.head_queue.specs.EventLaws.Trail.{after, after_op, allows, without_first_waiter}
use Rattle.head_queue.specs.EventLaws.Waiting.{Op, Request, State, Waiter, first_of, is_calm, ops, put_at, waiting_op}
use Rattle.head_queue.specs.EventLaws.Waiting.{with_flushes}
use Rattle.head_queue.proofs.EventLaws.LoadLaw.{flushes_long, taken}
use Rattle.head_queue.proofs.EventLaws.TrailLaw.{first_of as left_of}

-- how many ops an event queues
abbrev pub ops_queued : Event → ℕ
ops_queued (Queues place) = 1
ops_queued _ = 0

-- how many it does
abbrev pub ops_done : Event → ℕ
ops_done (Worked place None) = 1
ops_done _ = 0

-- how many ops stand, and how many were done
abbrev pub ever : State → ℕ
ever st = length (ops st) + st.done

-- an op that is done stood, and stands no more
done_one : (head : Place) (arrived : ℕ) (requests : List Request) (done : ℕ) (ended : List Op) (group : List Place)
    (syncs : List Waiter) (drains : List ℕ) (op : Op)
    → first_of (ended ++ map put_at group) ≡ Some op
    → ever (after_op (Some op)
    (record {
      head = head;
      arrived = arrived;
      requests = requests;
      done = done;
      ended = ended;
      group = group;
      syncs = syncs;
      drains = drains;
    }))
    ≡ length (ended ++ map put_at group) + done
done_one head arrived requests done [] [] syncs drains op is = absurd (let no : None ≡ Some op = is in cc)
done_one head arrived requests done [] (p ∷ group) syncs drains op is = omega arith
done_one head arrived requests done (o ∷ ended) group syncs drains op is = omega arith

-- the op that waits is the first that stands
waits_first : (calm : Bool) (first : Option Op) (op : Op) → cond calm None first ≡ Some op → first ≡ Some op
waits_first true first op e = cc
waits_first false first op e = e

-- the op that waits is done, and counts as done in place of standing
worked : (st : State) (waits : Option Op) → waiting_op st ≡ waits → ever (after_op waits st) ≡ ever st
worked st None is = refl
worked st (Some op) is =
    done_one st.head st.arrived st.requests st.done st.ended st.group st.syncs st.drains op
    (waits_first (is_calm st) (first_of (ops st)) op is)

-- a step that failed leaves all ops as they stood
failed : (head : Place) (arrived : ℕ) (requests : List Request) (done : ℕ) (ended : List Op) (group : List Place)
    (syncs : List Waiter) (drains : List ℕ)
    → ever (without_first_waiter
    (record {
      head = head;
      arrived = arrived;
      requests = requests;
      done = done;
      ended = ended;
      group = group;
      syncs = syncs;
      drains = drains;
    }))
    ≡ length (ended ++ map put_at group) + done
failed head arrived requests done ended group [] drains = refl
failed head arrived requests done ended group (s ∷ syncs) drains = refl

-- an op that is queued stands until it is done, and no other event adds one or takes one away
pub ever_one : (st : State) (e : Event) → ever (after st e) ≡ ever st + ops_queued e
ever_one st (Wants ticket place) = omega arith
ever_one st (Queues place) =
    omega (
      arith,
      length-append st.ended (map put_at (st.group ++ place ∷ [])),
      length-map (st.group ++ place ∷ []) put_at,
      length-append st.group (place ∷ []),
      length-append st.ended (map put_at st.group),
      length-map st.group put_at,
    )
ever_one st (Syncs ticket) =
    omega (
      arith,
      length-append (st.ended ++ with_flushes st.group) (map put_at []),
      length-append st.ended (with_flushes st.group),
      flushes_long st.group,
      length-append st.ended (map put_at st.group),
      length-map st.group put_at,
    )
ever_one st (Synced ticket) = omega arith
ever_one st (Drains who) = omega arith
ever_one st (Rests who) = omega arith
ever_one st (Served ticket place None) = omega arith
ever_one st (Served ticket place (Some counts)) = omega arith
ever_one st (Worked place None) = omega (arith, worked st (waiting_op st) refl)
ever_one st (Worked place (Some counts)) =
    omega (arith, failed st.head st.arrived st.requests st.done st.ended st.group st.syncs st.drains)

-- as many ops wait for a sync that begins to wait as stand
pub all_wait : (st : State) → length (st.ended ++ with_flushes st.group) ≡ length (ops st)
all_wait st = omega (
  arith,
  length-append st.ended (with_flushes st.group),
  length-append st.ended (map put_at st.group),
  length-map st.group put_at,
  flushes_long st.group,
)

-- a step that failed does no op
pub failed_done : (head : Place) (arrived : ℕ) (requests : List Request) (done : ℕ) (ended : List Op)
    (group : List Place) (syncs : List Waiter) (drains : List ℕ)
    → (without_first_waiter
    (record {
      head = head;
      arrived = arrived;
      requests = requests;
      done = done;
      ended = ended;
      group = group;
      syncs = syncs;
      drains = drains;
    })).done ≡ done
failed_done head arrived requests done ended group [] drains = refl
failed_done head arrived requests done ended group (s ∷ syncs) drains = refl

-- only an op that is done counts as done
pub done_more : (st : State) (e : Event) → allows st e ≡ true → (after st e).done ≡ st.done + ops_done e
done_more st (Wants ticket place) may = omega arith
done_more st (Queues place) may = omega arith
done_more st (Syncs ticket) may = omega arith
done_more st (Synced ticket) may = omega arith
done_more st (Drains who) may = omega arith
done_more st (Rests who) may = omega arith
done_more st (Served ticket place None) may = omega arith
done_more st (Served ticket place (Some counts)) may = omega arith
done_more st (Worked place None) may =
    ap (λ (o : Option Op). (after_op o st).done) (taken st place (left_of _ _ may)).waits
done_more st (Worked place (Some counts)) may =
    omega (arith, failed_done st.head st.arrived st.requests st.done st.ended st.group st.syncs st.drains)
