-- What events do to the syncs that wait and to the count of ops that are done.
use Rattle.std.proofs.Common.{◌≡◌, ◌⊎◌, inl, inr, ℕ, ◌+◌, ◌≤◌, Bool, true, false, cond, not, ◌||◌, nat_le, List, [], ◌∷◌, ◌++◌, map, Option, Some, None, refl, ap, ◌∙◌, arith}
use Rattle.std.specs.Prelude.{filter, filter_map, All}
use Rattle.std.specs.List.{AllByRecursion, cons_option, fold}
use Rattle.std.proofs.lemmas.Bool.Decides.{nat_tests}
use Rattle.std.proofs.lemmas.List.Elements.{All-head, All-tail}
use Rattle.session_script.specs.declared.logs.Event.{Event}
use Rattle.session_script.specs.declared.logs.Event.TheVariants.{Wants, Queues, Syncs, Synced, Drains, Rests, Served, Worked}
use Rattle.tape_types.specs.declared.cartridges.Place.{Place}
use Rattle.tape_types.specs.declared.cartridges.Twin.{Twin}
use Rattle.head_queue.specs.EventLaws.Waiting.{Op, Request, State, Waiter, first_of, is_calm, is_due, ops, waiting_op}
use Rattle.head_queue.specs.EventLaws.Trail.{after, after_op, allows, is_answer, is_trail_from, takes_op, without_first_op}
use Rattle.head_queue.proofs.EventLaws.TrailLaw.{first_of as left_of, second_of as right_of}
use Rattle.promises.specs.ServingPromise.Acks.{synced_ticket}
use Rattle.promises.specs.ServingPromise.Submits.{acks_for}
use Rattle.promises.specs.CrashLaws.Changes.{is_quiet}
use Rattle.promises.specs.CrashLaws.Safe.{AreInOrder}

-- a number that the test calls at most another is at most that
pub le_is : (a b : ℕ) → nat_le a b ≡ true → a ≤ b
le_is a b h = grind (arith, nat_tests)

not_le : (a b : ℕ) → nat_le a b ≡ false → b + 1 ≤ a
not_le a b h = grind (arith, nat_tests)

-- ---- quiet events

-- what is done and the syncs that wait stay
pub record IsKept (old new : State) : Type 0 where
  pub done : new.done ≡ old.done
  pub syncs : new.syncs ≡ old.syncs

quiet_one : (st : State) (e : Event) → is_quiet e ≡ true → IsKept st (after st e)
quiet_one st (Wants ticket place) q = record { done = refl; syncs = refl }
quiet_one st (Queues place) q = record { done = refl; syncs = refl }
quiet_one st (Syncs ticket) q = absurd cc
quiet_one st (Synced ticket) q = absurd cc
quiet_one st (Drains who) q = record { done = refl; syncs = refl }
quiet_one st (Rests who) q = record { done = refl; syncs = refl }
quiet_one st (Served ticket place None) q = record { done = refl; syncs = refl }
quiet_one st (Served ticket place (Some counts)) q = record { done = refl; syncs = refl }
quiet_one st (Worked place fault) q = absurd cc

-- quiet events leave the syncs that wait and the number of ops done
pub quiet_all : (st : State) (es : List Event) → All (λ (e : Event). is_quiet e ≡ true) es → IsKept st (fold after st es)
quiet_all st [] all = record { done = refl; syncs = refl }
quiet_all st (e ∷ es) all =
    let one = quiet_one st e (All-head (λ (x : Event). is_quiet x ≡ true) e es all) in
    let more = quiet_all (after st e) es (All-tail (λ (x : Event). is_quiet x ≡ true) e es all) in
    record { done = more.done ∙ one.done; syncs = more.syncs ∙ one.syncs }

quiet_ticket : (e : Event) → is_quiet e ≡ true → synced_ticket e ≡ None
quiet_ticket (Wants ticket place) q = refl
quiet_ticket (Queues place) q = refl
quiet_ticket (Syncs ticket) q = refl
quiet_ticket (Synced ticket) q = absurd cc
quiet_ticket (Drains who) q = refl
quiet_ticket (Rests who) q = refl
quiet_ticket (Served ticket place fault) q = refl
quiet_ticket (Worked place fault) q = refl

-- they answer nothing
pub quiet_tickets : (es : List Event) → All (λ (e : Event). is_quiet e ≡ true) es → filter_map synced_ticket es ≡ []
quiet_tickets [] all = refl
quiet_tickets (e ∷ es) all = ap (λ (o : Option ℕ). cons_option o (filter_map synced_ticket es)) (quiet_ticket e (All-head (λ (x : Event). is_quiet x ≡ true) e es all)) ∙ quiet_tickets es (All-tail (λ (x : Event). is_quiet x ≡ true) e es all)

-- quiet events bring no acknowledgement
pub quiet_acks : (commands : ℕ) (es : List Event) → All (λ (e : Event). is_quiet e ≡ true) es → acks_for commands es ≡ []
quiet_acks commands es all = ap (λ (tickets : List ℕ). map (λ ticket. record { place = ticket; command = commands }) tickets) (quiet_tickets es all)

-- ---- order

-- syncs in order behind so many ops are in order behind fewer
pub order_weaker : (m n : ℕ) (syncs : List Waiter) → m ≤ n → AreInOrder n syncs → AreInOrder m syncs
order_weaker m n [] le all = tt
order_weaker m n (w ∷ syncs) le all = (omega (arith, le, all.0), all.1)

-- a sync that is due last may wait behind the others
pub order_more : (n : ℕ) (syncs : List Waiter) (w : Waiter) → n ≤ w.due → AllByRecursion (λ (s : Waiter). s.due ≤ w.due) syncs → AreInOrder n syncs
    → AreInOrder n (syncs ++ w ∷ [])
order_more n [] w le all order = (le, tt)
order_more n (s ∷ syncs) w le all order = (order.0, order_more s.due syncs w all.0 all.1 order.1)

order_by : (b : Bool) (n : ℕ) (s : Waiter) (kept : List Waiter) → n ≤ s.due → AreInOrder s.due kept → AreInOrder n (cond b (s ∷ kept) kept)
order_by true n s kept le order = (le, order)
order_by false n s kept le order = order_weaker n s.due kept le order

-- some of the syncs in order are in order
pub order_filter : (p : Waiter → Bool) (n : ℕ) (syncs : List Waiter) → AreInOrder n syncs → AreInOrder n (filter p syncs)
order_filter p n [] order = tt
order_filter p n (s ∷ syncs) order = order_by (p s) n s (filter p syncs) order.0 (order_filter p s.due syncs order.1)

-- ---- a step of the head

-- the op that is taken waits
pub taken : (st : State) (place : Place) (o : Option Op) → takes_op st place o ≡ true → (op : Op) × (o ≡ Some op)
taken st place None h = absurd cc
taken st place (Some op) h = (op, refl)

by_calm : (calm : Bool) (first : Option Op) (op : Op) → cond calm None first ≡ Some op → first ≡ Some op
by_calm true first op e = absurd cc
by_calm false first op e = e

-- the op that waits for the head is the first that stands
pub waits_first : (st : State) (op : Op) → waiting_op st ≡ Some op → first_of (ops st) ≡ Some op
waits_first st op e = by_calm (is_calm st) (first_of (ops st)) op e

by_not : (due : Bool) (answer : Bool) → answer ≡ false → (not due || answer) ≡ true → due ≡ false
by_not true answer e h = absurd cc
by_not false answer e h = refl

-- what is allowed and answers nothing comes where no sync is due
pub not_due : (st : State) (e : Event) → is_answer e ≡ false → allows st e ≡ true → is_due st ≡ false
not_due st e is h = by_not (is_due st) (is_answer e) is (right_of _ _ h)

order_later : (head : Place) (arrived : ℕ) (requests : List Request) (done : ℕ) (ended : List Op) (group : List Place) (syncs : List Waiter) (drains : List ℕ)
    → is_due (record { head = head; arrived = arrived; requests = requests; done = done; ended = ended; group = group; syncs = syncs; drains = drains }) ≡ false
    → AreInOrder done syncs → AreInOrder (done + 1) syncs
order_later head arrived requests done ended group [] drains due order = tt
order_later head arrived requests done ended group (s ∷ syncs) drains due order = (not_le s.due done due, order.1)

-- where no sync is due, one more op done leaves the syncs in order
pub order_on : (st : State) → is_due st ≡ false → AreInOrder st.done st.syncs → AreInOrder (st.done + 1) st.syncs
order_on st due order = order_later st.head st.arrived st.requests st.done st.ended st.group st.syncs st.drains due order

syncs_by : (head : Place) (arrived : ℕ) (requests : List Request) (done : ℕ) (ended : List Op) (group : List Place) (syncs : List Waiter) (drains : List ℕ)
    → (without_first_op (record { head = head; arrived = arrived; requests = requests; done = done; ended = ended; group = group; syncs = syncs; drains = drains })).syncs ≡ syncs
syncs_by head arrived requests done [] group syncs drains = refl
syncs_by head arrived requests done (op ∷ ended) group syncs drains = refl

-- an op that was done leaves the syncs, and is one more
pub op_done : (st : State) (place : Place) (op : Op) → waiting_op st ≡ Some op
    → ((after st (Worked place None)).done ≡ st.done + 1) × ((after st (Worked place None)).syncs ≡ st.syncs)
op_done st place op is = (
  ap (λ (o : Option Op). (after_op o st).done) is,
  ap (λ (o : Option Op). (after_op o st).syncs) is
      ∙ syncs_by st.head st.arrived st.requests st.done st.ended st.group st.syncs st.drains,
)

-- of an op that failed, the first that waits may wait no more
abbrev pub IsFewer : (syncs others : List Waiter) → Type 0
IsFewer syncs others = (others ≡ syncs) ⊎ ((w : Waiter) × (syncs ≡ w ∷ others))

fewer_by : (head : Place) (arrived : ℕ) (requests : List Request) (done : ℕ) (ended : List Op) (group : List Place) (syncs : List Waiter) (drains : List ℕ) (at : Place) (counts : Twin)
    → IsFewer syncs (after (record { head = head; arrived = arrived; requests = requests; done = done; ended = ended; group = group; syncs = syncs; drains = drains }) (Worked at (Some counts))).syncs
fewer_by head arrived requests done ended group [] drains at counts = inl refl
fewer_by head arrived requests done ended group (s ∷ syncs) drains at counts = inr (s, refl)

done_by : (head : Place) (arrived : ℕ) (requests : List Request) (done : ℕ) (ended : List Op) (group : List Place) (syncs : List Waiter) (drains : List ℕ) (at : Place) (counts : Twin)
    → (after (record { head = head; arrived = arrived; requests = requests; done = done; ended = ended; group = group; syncs = syncs; drains = drains }) (Worked at (Some counts))).done ≡ done
done_by head arrived requests done ended group [] drains at counts = refl
done_by head arrived requests done ended group (s ∷ syncs) drains at counts = refl

-- an op that failed takes syncs away at most, and isn't done
pub op_failed : (st : State) (at : Place) (counts : Twin) → IsFewer st.syncs (after st (Worked at (Some counts))).syncs × ((after st (Worked at (Some counts))).done ≡ st.done)
op_failed st at counts = (
  fewer_by st.head st.arrived st.requests st.done st.ended st.group st.syncs st.drains at counts,
  done_by st.head st.arrived st.requests st.done st.ended st.group st.syncs st.drains at counts,
)

-- ---- the end of a trail

-- the end of a trail is one from where its front ends
pub trail_behind : (st : State) (xs ys : List Event) → is_trail_from st (xs ++ ys) ≡ true → is_trail_from (fold after st xs) ys ≡ true
trail_behind st [] ys h = h
trail_behind st (x ∷ xs) ys h = trail_behind (after st x) xs ys (right_of (allows st x) (is_trail_from (after st x) (xs ++ ys)) h)

-- the first event of a trail may come
pub first_allowed : (st : State) (e : Event) (es : List Event) → is_trail_from st (e ∷ es) ≡ true → allows st e ≡ true
first_allowed st e es h = left_of (allows st e) (is_trail_from (after st e) es) h

-- the rest of a trail is one from where its first event leads
pub rest_allowed : (st : State) (e : Event) (es : List Event) → is_trail_from st (e ∷ es) ≡ true → is_trail_from (after st e) es ≡ true
rest_allowed st e es h = right_of (allows st e) (is_trail_from (after st e) es) h

-- a read leaves what is done and the syncs
pub served_keeps : (st : State) (ticket : ℕ) (place : Place) (fault : Option Twin) → IsKept st (after st (Served ticket place fault))
served_keeps st ticket place fault = quiet_one st (Served ticket place fault) refl
