-- What the events of a step leave.
use Rattle.std.specs.Prelude.{◌≡◌, ◌==◌, ◌||◌, not, ℕ, Bool, true, false, List, [], ◌∷◌, ◌++◌, All, drop, filter_map, fold, map, Option, Some, None}
use Rattle.std.specs.List.{cons_option, list_any}
use Rattle.std.proofs.Common.{⊎_elim, refl, sym, ap, subst, ◌∙◌, arith}
use Rattle.std.proofs.lemmas.Bool.{both_ways, eqb-true, eq-eqb, or_cases, or_left, or_parts}
use Rattle.std.proofs.lemmas.List.Elements.{All-cons}
use Rattle.tape_types.specs.declared.cartridges.Part.TheVariants.{Ip}
use Rattle.tape_types.specs.declared.cartridges.Place.{Place}
use Rattle.tape_types.specs.declared.cartridges.Twin.{Twin}
use Rattle.session_script.specs.declared.logs.Event.{Event}
use Rattle.session_script.specs.declared.logs.Event.TheVariants.{Synced, Worked}
use Rattle.head_queue.specs.EventLaws.Trail.{Owner, after, after_op, is_answer, is_answered, is_trail_from, op_owner, takes_op}
use Rattle.head_queue.specs.EventLaws.Waiting as waiting
use Rattle.head_queue.specs.EventLaws.Waiting.{Request, State, Waiter, first_of, put_at, waiting_op}
use Rattle.head_queue.proofs.EventLaws.TrailLaw.{first_of as left_of}
use Rattle.tape_layout.specs.declared.ops.Op.{Op}
use Rattle.space_laws.specs.Space.{Space}
use Rattle.promises.specs.ServingPromise.Acks.{answers, synced_ticket}
use Rattle.promises.specs.ServingPromise.Served.{headed, is_waiting}
use Rattle.promises.specs.ServingPromise.Steps.{session_of}
use Rattle.promises.proofs.CrashLaws.Trails.{first_allowed, rest_allowed, taken, waits_first}
use Rattle.promises.specs.GroupLaws.Groups.{IsGrouped, has_part}
use Rattle.promises.specs.OrderLaws.Sides.{owned_from}
use Rattle.promises.proofs.OrderLaws.Frames.{no_step_owned, syncs_it, wants_it}
use Rattle.promises.proofs.OrderLaws.Lists.{any_filter, any_filter_same}
use Rattle.promises.proofs.OrderLaws.Turning.{answers_step, both_none, drain_faults_from, owned-cons, owned_head}
use Rattle.volume_state.specs.StateLaws.Stepping.{synced_events}

-- the ops, and who wants blocks
pub record Leaves (old new : State) (standing : List waiting.Op) : Type 0 where
  pub ops : waiting.ops new ≡ standing
  pub requests : new.requests ≡ old.requests
  pub arrived : new.arrived ≡ old.arrived
  pub grouped : (space : Space) → IsGrouped space old → IsGrouped space new

-- ---- the op that waits

-- where an op may be done, it is the first that stands
pub first_waits : (st : State) (place : Place) (fault : Option Twin) (answers : List Event) (op : Op) (later : List Op)
    → is_trail_from st (Worked place fault ∷ answers) ≡ true
    → map headed (op ∷ later) ≡ waiting.ops st → waiting_op st ≡ Some (headed op)
first_waits st place fault answers op later trail standing =
    let fits = left_of (takes_op st place (waiting_op st)) _ (first_allowed st (Worked place fault) answers trail) in
    let t = taken st place (waiting_op st) fits in
    t.1 ∙ sym (waits_first st t.0 t.1) ∙ ap first_of (sym standing)

-- ---- an op is done

one_less : (group : List Place) → map put_at (drop 1 group) ≡ drop 1 (map put_at group)
one_less [] = refl
one_less (p ∷ group) = refl

off_less : (group : List Place) → has_part Ip group ≡ false → has_part Ip (drop 1 group) ≡ false
off_less [] off = off
off_less (p ∷ group) off = second (waiting.same_part Ip p.part) (has_part Ip group) off
  where
    second : (a b : Bool) → (a || b) ≡ false → b ≡ false
    second true b h = absurd (cc)
    second false b h = h

op_leaves : (head : Place) (arrived : ℕ) (requests : List Request) (done : ℕ) (ended : List waiting.Op) (group : List Place) (syncs : List Waiter) (drains : List ℕ) (op : waiting.Op)
    → Leaves (record { head = head; arrived = arrived; requests = requests; done = done; ended = ended; group = group; syncs = syncs; drains = drains })
    (after_op (Some op) (record { head = head; arrived = arrived; requests = requests; done = done; ended = ended; group = group; syncs = syncs; drains = drains }))
    (drop 1 (ended ++ map put_at group))
op_leaves head arrived requests done [] group syncs drains op = record {
  ops = one_less group;
  requests = refl;
  arrived = refl;
  grouped = λ space g. record { due = λ none. off_less group (g.due none); changed = λ none. ap (drop 1) (g.changed none) };
}
op_leaves head arrived requests done (x ∷ ended) group syncs drains op = record {
  ops = refl;
  requests = refl;
  arrived = refl;
  grouped = λ space g. record { due = g.due; changed = g.changed };
}

-- an op that was done leaves the other ops, and who wants blocks
pub done_leaves : (st : State) (place : Place) (op : waiting.Op) → waiting_op st ≡ Some op
    → Leaves st (after st (Worked place None)) (drop 1 (waiting.ops st))
done_leaves st place op is = subst (λ (o : Option waiting.Op). Leaves st (after_op o st) (drop 1 (waiting.ops st))) (sym is)
    (op_leaves st.head st.arrived st.requests st.done st.ended st.group st.syncs st.drains op)

-- ---- an op failed

failed_leaves_by : (head at : Place) (arrived : ℕ) (requests : List Request) (done : ℕ) (ended : List waiting.Op) (group : List Place) (syncs : List Waiter) (drains : List ℕ) (counts : Twin)
    → Leaves (record { head = head; arrived = arrived; requests = requests; done = done; ended = ended; group = group; syncs = syncs; drains = drains })
    (after (record { head = head; arrived = arrived; requests = requests; done = done; ended = ended; group = group; syncs = syncs; drains = drains }) (Worked at (Some counts)))
    (ended ++ map put_at group)
failed_leaves_by head at arrived requests done ended group [] drains counts =
    record { ops = refl; requests = refl; arrived = refl; grouped = λ space g. record { due = g.due; changed = g.changed } }
failed_leaves_by head at arrived requests done ended group (s ∷ syncs) drains counts =
    record { ops = refl; requests = refl; arrived = refl; grouped = λ space g. record { due = g.due; changed = g.changed } }

-- an op that failed leaves all ops that stand, and who wants blocks
pub failed_leaves : (st : State) (place : Place) (counts : Twin)
    → Leaves st (after st (Worked place (Some counts))) (waiting.ops st)
failed_leaves st place counts = failed_leaves_by st.head place st.arrived st.requests st.done st.ended st.group st.syncs st.drains counts

-- ---- syncs are answered

-- syncs that are answered leave the ops and the requests
pub synced_leave : (tickets : List ℕ) (old st : State) (standing : List waiting.Op) → Leaves old st standing
    → Leaves old (fold after st (synced_events tickets)) standing
synced_leave [] old st standing l = l
synced_leave (t ∷ tickets) old st standing l = synced_leave tickets old (after st (Synced t)) standing (record {
  ops = l.ops;
  requests = l.requests;
  arrived = l.arrived;
  grouped = λ space g. let h = l.grouped space g in record { due = h.due; changed = h.changed };
})

-- the events of answered syncs are answers
pub synced_answers : (tickets : List ℕ) → All (λ (e : Event). is_answer e ≡ true) (synced_events tickets)
synced_answers [] = λ k d less. absurd (omega (arith, less))
synced_answers (t ∷ tickets) = All-cons (λ (e : Event). is_answer e ≡ true) (Synced t) (synced_events tickets) refl (synced_answers tickets)

-- whatever holds of each answer
pub of_synced : (P : Event → Type 0) → ((t : ℕ) → P (Synced t)) → (tickets : List ℕ) → All P (synced_events tickets)
of_synced P each [] = λ k d less. absurd (omega (arith, less))
of_synced P each (t ∷ tickets) = All-cons P (Synced t) (synced_events tickets) (each t) (of_synced P each tickets)

still_by : (k t : ℕ) → (t == k) ≡ false → (s : Waiter) → syncs_it k s ≡ true → not (s.ticket == t) ≡ true
still_by k t other s is = ap not (by (s.ticket == t) refl)
  where
    by : (b : Bool) → (s.ticket == t) ≡ b → (s.ticket == t) ≡ false
    by false e = e
    by true e = absurd (both_ways (t == k) other (eq-eqb t k (sym (eqb-true s.ticket t e) ∙ eqb-true s.ticket k is)))

-- who isn't answered waits on
pub not_synced : (tickets : List ℕ) (st : State) (k : ℕ) → list_any (answers k) (synced_events tickets) ≡ false
    → is_waiting (fold after st (synced_events tickets)) k ≡ is_waiting st k
not_synced [] st k none = refl
not_synced (t ∷ tickets) st k none =
    let parts = or_parts (t == k) (list_any (answers k) (synced_events tickets)) none in
    not_synced tickets (after st (Synced t)) k parts.1
    ∙ ap (λ b. list_any (wants_it k) st.requests || b) (any_filter_same (syncs_it k) (λ (s : Waiter). not (s.ticket == t)) st.syncs (still_by k t parts.0))

-- ---- who is answered

first_answered : (st : State) (ticket : ℕ) (syncs : List Waiter) → is_answered st ticket syncs ≡ true
    → list_any (syncs_it ticket) syncs ≡ true
first_answered st ticket [] h = absurd (cc)
first_answered st ticket (s ∷ more) h = or_left (s.ticket == ticket) (list_any (syncs_it ticket) more) (left_of (s.ticket == ticket) _ h)

-- whoever is answered waited for a flush
pub answered_waits : (tickets : List ℕ) (st : State) (k : ℕ) → is_trail_from st (synced_events tickets) ≡ true
    → list_any (answers k) (synced_events tickets) ≡ true
    → list_any (syncs_it k) st.syncs ≡ true
answered_waits [] st k trail has = absurd (cc)
answered_waits (t ∷ tickets) st k trail has = ⊎_elim
    (λ here. subst (λ n. list_any (syncs_it n) st.syncs ≡ true) (eqb-true t k here)
    (first_answered st t st.syncs (left_of (is_answered st t st.syncs) _ (first_allowed st (Synced t) (synced_events tickets) trail))))
    (λ later. any_filter (syncs_it k) (λ (s : Waiter). not (s.ticket == t)) st.syncs
    (answered_waits tickets (after st (Synced t)) k (rest_allowed st (Synced t) (synced_events tickets) trail) later))
    (or_cases (t == k) (list_any (answers k) (synced_events tickets)) has)

-- ---- faults

none_from : (tickets : List ℕ) (st : State) → drain_faults_from st (synced_events tickets) ≡ []
none_from [] st = refl
none_from (t ∷ tickets) st = none_from tickets (after st (Synced t))

-- where an op was done no fault is kept, and none is told
pub none_drained : (st : State) (place : Place) (tickets : List ℕ)
    → drain_faults_from st (Worked place None ∷ synced_events tickets) ≡ []
none_drained st place tickets =
    ap (λ o. cons_option o (drain_faults_from (after st (Worked place None)) (synced_events tickets))) (both_none {Y = Twin} (session_of (op_owner st.syncs st.drains)))
    ∙ none_from tickets (after st (Worked place None))

-- an op that was done brings no fault to anybody
pub none_owned : (st : State) (place : Place) (tickets : List ℕ) (owner : Owner)
    → owned_from st owner (Worked place None ∷ synced_events tickets) ≡ []
none_owned st place tickets owner =
    owned-cons st owner (Worked place None) (synced_events tickets)
    ∙ ap (λ o. owned_head owner o ++ owned_from (after st (Worked place None)) owner (synced_events tickets)) (both_none (op_owner st.syncs st.drains))
    ∙ no_step_owned (after st (Worked place None)) owner (synced_events tickets) (answers_step (synced_events tickets) (synced_answers tickets))

-- the events of answered syncs answer just these
pub synced_tickets : (tickets : List ℕ) → filter_map synced_ticket (synced_events tickets) ≡ tickets
synced_tickets [] = refl
synced_tickets (t ∷ tickets) = ap (λ l. t ∷ l) (synced_tickets tickets)
