-- Nobody waits both for a block and for a flush, and what follows for a place that still waits.
use Rattle.std.specs.Prelude.{◌≡◌, ◌==◌, ◌&&◌, ◌||◌, not, ℕ, nat_le, nat_lt, Bool, true, false, cond, List, [], ◌∷◌, ◌++◌, filter, fold, Some, None}
use Rattle.std.specs.List.{list_all, list_any}
use Rattle.std.specs.Option.{option_to_list}
use Rattle.std.proofs.Common.{⊎_elim, refl, sym, ap, subst, ◌∙◌, arith}
use Rattle.std.proofs.lemmas.Bool.{and_from, and_parts, both_ways, cases_Bool, eqb-true, false_from_ne_true, ltb-true, or_from, or_left}
use Rattle.tape_types.specs.declared.cartridges.Place.{Place}
use Rattle.tape_types.specs.declared.cartridges.Twin.{Twin}
use Rattle.session_script.specs.declared.logs.Event.{Event}
use Rattle.session_script.specs.declared.logs.Event.TheVariants.{Wants, Queues, Syncs, Synced, Drains, Rests, Served, Worked}
use Rattle.head_queue.specs.EventLaws.Trail.{after, asks, both, fault_of, fits, is_answered, is_trail_from, of_call, op_owner, owner_of, takes_request, without_first_waiter}
use Rattle.head_queue.specs.EventLaws.Waiting.{Op, Request, State, Waiter, waiting_op}
use Rattle.promises.specs.ServingPromise.Acks.{answers, synced_ticket}
use Rattle.promises.specs.ServingPromise.Served.{is_waiting}
use Rattle.promises.specs.OrderLaws.Kept.{AreApart, is_rising}
use Rattle.promises.specs.OrderLaws.Sides.{owned_from}
use Rattle.promises.proofs.OrderLaws.Frames.{is_turning, syncs_it, turning_list, wants_it, worked_stays}
use Rattle.promises.proofs.OrderLaws.Lists.{any_filter}
use Rattle.promises.proofs.OrderLaws.Owned.{none_left}
use Rattle.promises.proofs.OrderLaws.Rising.{all_has}
use Rattle.promises.proofs.OrderLaws.Turning.{any_weaker, both_none, may_come, one_rises, owned-cons, owned_head, request_of, tickets}
use Rattle.promises.proofs.OrderLaws.Views.{has_tickets}

-- ---- as events come

and_weaker : (a b c d : Bool) → (c ≡ true → a ≡ true) → (d ≡ true → b ≡ true) → (a && b) ≡ false → (c && d) ≡ false
and_weaker a b false d f g h = refl
and_weaker a b true false f g h = refl
and_weaker a b true true f g h = absurd (both_ways (a && b) h (and_from a b (f refl) (g refl)))

-- what is left of both
record AreLess (a b : State) (k : ℕ) : Type 0 where
  wants : list_any (wants_it k) a.requests ≡ true → list_any (wants_it k) b.requests ≡ true
  syncs : list_any (syncs_it k) a.syncs ≡ true → list_any (syncs_it k) b.syncs ≡ true

first_less : (head : Place) (arrived : ℕ) (requests : List Request) (done : ℕ) (ended : List Op) (group : List Place) (syncs : List Waiter) (drains : List ℕ) (k : ℕ)
    → AreLess (without_first_waiter (record { head = head; arrived = arrived; requests = requests; done = done; ended = ended; group = group; syncs = syncs; drains = drains }))
    (record { head = head; arrived = arrived; requests = requests; done = done; ended = ended; group = group; syncs = syncs; drains = drains }) k
first_less head arrived requests done ended group [] drains k = record { wants = λ e. e; syncs = λ e. e }
first_less head arrived requests done ended group (s ∷ syncs) drains k = record { wants = λ e. e; syncs = λ e. Rattle.std.proofs.lemmas.Bool.or_right (s.ticket == k) (list_any (syncs_it k) syncs) e }

turning_less : (st : State) (e : Event) (k : ℕ) → is_turning e ≡ true → AreLess (after st e) st k
turning_less st (Synced ticket) k is = record { wants = λ e. e; syncs = any_filter (syncs_it k) (λ (s : Waiter). not (s.ticket == ticket)) st.syncs }
turning_less st (Served ticket place None) k is = record { wants = any_filter (wants_it k) (λ (r : Request). not (asks ticket place r)) st.requests; syncs = λ e. e }
turning_less st (Served ticket place (Some counts)) k is = record { wants = any_filter (wants_it k) (λ (r : Request). not (r.ticket == ticket)) st.requests; syncs = λ e. e }
turning_less st (Worked place None) k is =
    let stays = worked_stays st (waiting_op st) in
    record { wants = λ e. sym (ap (λ (l : List Request). list_any (wants_it k) l) stays.requests) ∙ e; syncs = λ e. sym (ap (λ (l : List Waiter). list_any (syncs_it k) l) stays.syncs) ∙ e }
turning_less st (Worked place (Some counts)) k is = let less = first_less st.head st.arrived st.requests st.done st.ended st.group st.syncs st.drains k in record { wants = less.wants; syncs = less.syncs }
turning_less st (Wants ticket place) k is = absurd (cc)
turning_less st (Queues place) k is = absurd (cc)
turning_less st (Syncs ticket) k is = absurd (cc)
turning_less st (Drains who) k is = absurd (cc)
turning_less st (Rests who) k is = absurd (cc)

one_apart : (st : State) (e : Event) → is_turning e ≡ true → AreApart st → AreApart (after st e)
one_apart st e is apart k =
    let less = turning_less st e k is in
    and_weaker (list_any (wants_it k) st.requests) (list_any (syncs_it k) st.syncs) (list_any (wants_it k) (after st e).requests) (list_any (syncs_it k) (after st e).syncs) less.wants less.syncs (apart k)

-- over a turn nobody comes to wait both for a block and for a flush
pub turning_apart : (st : State) (events : List Event) → list_all is_turning events ≡ true → AreApart st → AreApart (fold after st events)
turning_apart st [] every apart = apart
turning_apart st (e ∷ events) every apart =
    let parts = and_parts (is_turning e) (list_all is_turning events) every in turning_apart (after st e) events parts.1 (one_apart st e parts.0 apart)

-- ---- a place that still waits

no_syncs : (a b : Bool) → (a && b) ≡ false → a ≡ true → b ≡ false
no_syncs true b h e = h
no_syncs false b h e = absurd (cc)

no_wants : (a b : Bool) → (a && b) ≡ false → b ≡ true → a ≡ false
no_wants true true h e = absurd (let no : true ≡ false = h in cc)
no_wants true false h e = absurd (cc)
no_wants false b h e = refl

none_asked : (ticket : ℕ) (requests : List Request) → list_any (wants_it ticket) (filter (λ (r : Request). not (r.ticket == ticket)) requests) ≡ false
none_asked ticket [] = refl
none_asked ticket (r ∷ requests) = by (r.ticket == ticket) refl (none_asked ticket requests)
  where
    by : (b : Bool) → (r.ticket == ticket) ≡ b → list_any (wants_it ticket) (filter (λ (r : Request). not (r.ticket == ticket)) requests) ≡ false
        → list_any (wants_it ticket) (cond (not b) (r ∷ filter (λ (r : Request). not (r.ticket == ticket)) requests) (filter (λ (r : Request). not (r.ticket == ticket)) requests)) ≡ false
    by true is rest = rest
    by false is rest = ap (λ b. b || list_any (wants_it ticket) (filter (λ (r : Request). not (r.ticket == ticket)) requests)) is ∙ rest

rests_with : (st : State) (k : ℕ) → list_any (wants_it k) st.requests ≡ false → list_any (syncs_it k) st.syncs ≡ false → is_waiting st k ≡ false
rests_with st k wants syncs = or_from (list_any (wants_it k) st.requests) (list_any (syncs_it k) st.syncs) wants syncs

first_waits : (st : State) (ticket : ℕ) (syncs : List Waiter) → is_answered st ticket syncs ≡ true → list_any (syncs_it ticket) syncs ≡ true
first_waits st ticket [] h = absurd (cc)
first_waits st ticket (s ∷ syncs) h = or_left (s.ticket == ticket) (list_any (syncs_it ticket) syncs) (and_parts (s.ticket == ticket) (nat_le s.due st.done) h).0

-- whose sync is answered waits no more
answered_rests : (st : State) (ticket : ℕ) → AreApart st → fits st (Synced ticket) ≡ true → is_waiting (after st (Synced ticket)) ticket ≡ false
answered_rests st ticket apart fit =
    rests_with (after st (Synced ticket)) ticket (no_wants (list_any (wants_it ticket) st.requests) (list_any (syncs_it ticket) st.syncs) (apart ticket) (first_waits st ticket st.syncs fit)) (none_left ticket st.syncs)

unanswered_head : (st : State) (e : Event) (k : ℕ) → AreApart st → fits st e ≡ true → is_waiting (after st e) k ≡ true → answers k e ≡ false
unanswered_head st (Synced ticket) k apart fit waits =
    false_from_ne_true (ticket == k) (λ same. both_ways (is_waiting (after st (Synced ticket)) k) (subst (λ n. is_waiting (after st (Synced ticket)) n ≡ false) (eqb-true ticket k same) (answered_rests st ticket apart fit)) waits)
unanswered_head st (Served ticket place fault) k apart fit waits = refl
unanswered_head st (Worked place fault) k apart fit waits = refl
unanswered_head st (Wants ticket place) k apart fit waits = refl
unanswered_head st (Queues place) k apart fit waits = refl
unanswered_head st (Syncs ticket) k apart fit waits = refl
unanswered_head st (Drains who) k apart fit waits = refl
unanswered_head st (Rests who) k apart fit waits = refl

-- who owns a fault waits no more
failed_rests : (st : State) (ticket : ℕ) (place : Place) (counts : Twin) → AreApart st → fits st (Served ticket place (Some counts)) ≡ true → is_waiting (after st (Served ticket place (Some counts))) ticket ≡ false
failed_rests st ticket place counts apart fit =
    rests_with (after st (Served ticket place (Some counts))) ticket (none_asked ticket st.requests)
    (no_syncs (list_any (wants_it ticket) st.requests) (list_any (syncs_it ticket) st.syncs) (apart ticket) (any_weaker (takes_request st ticket place) (wants_it ticket) st.requests (request_of st ticket place) fit))

later_syncs : (s : Waiter) (syncs : List Waiter) → is_rising (tickets (s ∷ syncs)) ≡ true → list_any (syncs_it s.ticket) syncs ≡ false
later_syncs s syncs rising = false_from_ne_true (list_any (syncs_it s.ticket) syncs)
    (λ there. let less = ltb-true s.ticket s.ticket (all_has (nat_lt s.ticket) (tickets syncs) s.ticket (and_parts (list_all (nat_lt s.ticket) (tickets syncs)) (is_rising (tickets syncs)) rising).0 (has_tickets s.ticket syncs ∙ there)) in omega (arith, less))

worked_owner : (head : Place) (arrived : ℕ) (requests : List Request) (done : ℕ) (ended : List Op) (group : List Place) (syncs : List Waiter) (drains : List ℕ) (k : ℕ) (c : Twin)
    → AreApart (record { head = head; arrived = arrived; requests = requests; done = done; ended = ended; group = group; syncs = syncs; drains = drains }) → is_rising (tickets syncs) ≡ true
    → is_waiting (without_first_waiter (record { head = head; arrived = arrived; requests = requests; done = done; ended = ended; group = group; syncs = syncs; drains = drains })) k ≡ true
    → owned_head (of_call k) (both (op_owner syncs drains) (Some c)) ≡ []
worked_owner head arrived requests done ended group [] [] k c apart rising waits = refl
worked_owner head arrived requests done ended group [] (w ∷ drains) k c apart rising waits = refl
worked_owner head arrived requests done ended group (s ∷ syncs) drains k c apart rising waits =
    ap (λ b. cond b (c ∷ []) []) (false_from_ne_true (k == s.ticket) (λ same.
    let at : is_waiting (without_first_waiter (record { head = head; arrived = arrived; requests = requests; done = done; ended = ended; group = group; syncs = s ∷ syncs; drains = drains })) s.ticket ≡ true
    = subst (λ n. is_waiting (without_first_waiter (record { head = head; arrived = arrived; requests = requests; done = done; ended = ended; group = group; syncs = s ∷ syncs; drains = drains })) n ≡ true) (eqb-true k s.ticket same) waits in
    both_ways (list_any (wants_it s.ticket) requests || list_any (syncs_it s.ticket) syncs)
    (or_from (list_any (wants_it s.ticket) requests) (list_any (syncs_it s.ticket) syncs)
    (no_wants (list_any (wants_it s.ticket) requests) (list_any (syncs_it s.ticket) (s ∷ syncs)) (apart s.ticket) (or_left (s.ticket == s.ticket) (list_any (syncs_it s.ticket) syncs) (Rattle.std.proofs.lemmas.Bool.eq-eqb s.ticket s.ticket refl)))
    (later_syncs s syncs rising)) at))

unowned_head : (st : State) (e : Event) (k : ℕ) → AreApart st → is_rising (tickets st.syncs) ≡ true → fits st e ≡ true → is_turning e ≡ true → is_waiting (after st e) k ≡ true
    → owned_head (of_call k) (both (owner_of st e) (fault_of e)) ≡ []
unowned_head st (Synced ticket) k apart rising fit is waits = refl
unowned_head st (Served ticket place None) k apart rising fit is waits = refl
unowned_head st (Served ticket place (Some counts)) k apart rising fit is waits =
    ap (λ b. cond b (counts ∷ []) []) (false_from_ne_true (k == ticket) (λ same. both_ways (is_waiting (after st (Served ticket place (Some counts))) k)
    (subst (λ n. is_waiting (after st (Served ticket place (Some counts))) n ≡ false) (sym (eqb-true k ticket same)) (failed_rests st ticket place counts apart fit)) waits))
unowned_head st (Worked place None) k apart rising fit is waits = ap (owned_head (of_call k)) (both_none (op_owner st.syncs st.drains))
unowned_head st (Worked place (Some counts)) k apart rising fit is waits = worked_owner st.head st.arrived st.requests st.done st.ended st.group st.syncs st.drains k counts apart rising waits
unowned_head st (Wants ticket place) k apart rising fit is waits = absurd (cc)
unowned_head st (Queues place) k apart rising fit is waits = absurd (cc)
unowned_head st (Syncs ticket) k apart rising fit is waits = absurd (cc)
unowned_head st (Drains who) k apart rising fit is waits = absurd (cc)
unowned_head st (Rests who) k apart rising fit is waits = absurd (cc)

rising_back : (xs ys : List ℕ) → is_rising (xs ++ ys) ≡ true → is_rising ys ≡ true
rising_back [] ys h = h
rising_back (x ∷ xs) ys h = rising_back xs ys (and_parts (list_all (nat_lt x) (xs ++ ys)) (is_rising (xs ++ ys)) h).1

-- it owns no fault, and is not answered
pub record IsUntouched (st : State) (events : List Event) (k : ℕ) : Type 0 where
  pub unowned : owned_from st (of_call k) events ≡ []
  pub unanswered : list_any (answers k) events ≡ false

untouched : (st : State) (events : List Event) (k : ℕ) → AreApart st → is_rising (tickets st.syncs) ≡ true → is_trail_from st events ≡ true → list_all is_turning events ≡ true
    → is_waiting (fold after st events) k ≡ true → IsUntouched st events k
untouched st [] k apart rising trail every waits = record { unowned = refl; unanswered = refl }
untouched st (e ∷ events) k apart rising trail every waits =
    let may = may_come st e events trail in
    let parts = and_parts (is_turning e) (list_all is_turning events) every in
    let waits_now : is_waiting (after st e) k ≡ true
    = ⊎_elim (λ is. is) (λ rests. absurd (both_ways (is_waiting (fold after (after st e) events) k) (turning_list (after st e) events k parts.1 rests) waits)) (cases_Bool (is_waiting (after st e) k)) in
    let later = untouched (after st e) events k (one_apart st e parts.0 apart) (rising_back ([] ++ option_to_list (synced_ticket e)) (tickets (after st e).syncs) (one_rises st [] e may.fits_now parts.0 rising)) may.later parts.1 waits in
    record {
      unowned = owned-cons st (of_call k) e events ∙ ap (λ l. l ++ owned_from (after st e) (of_call k) events) (unowned_head st e k apart rising may.fits_now parts.0 waits_now) ∙ later.unowned;
      unanswered = ap (λ b. b || list_any (answers k) events) (unanswered_head st e k apart may.fits_now waits_now) ∙ later.unanswered;
    }

-- a place that still waits after a turn was touched by none of its events
pub still_untouched : (st : State) (front : List ℕ) (events : List Event) (k : ℕ) → AreApart st → is_rising (front ++ tickets st.syncs) ≡ true → is_trail_from st events ≡ true → list_all is_turning events ≡ true
    → is_waiting (fold after st events) k ≡ true → IsUntouched st events k
still_untouched st front events k apart rising trail every waits = untouched st events k apart (rising_back front (tickets st.syncs) rising) trail every waits
