-- Where a step of a session's own drain fails, nobody else is replied to.
use Rattle.std.specs.Prelude.{◌≡◌, ◌==◌, ◌||◌, ℕ, ◌<◌, true, false, cond, List, [], ◌∷◌, ◌++◌, All, length, Option, Some, None}
use Rattle.std.specs.List.{list_any}
use Rattle.std.specs.Option.{option_to_list}
use Rattle.std.proofs.Common.{⊎_elim, refl, sym, ap, subst, ◌∙◌, arith, append-nil}
use Rattle.std.proofs.lemmas.Bool.{cases_lt}
use Rattle.std.proofs.lemmas.List.{nil_from_length}
use Rattle.std.proofs.lemmas.List.Elements.{All-head, filter_map-append}
use Rattle.tape_types.specs.declared.cartridges.Place.{Place}
use Rattle.tape_types.specs.declared.cartridges.Twin.{Twin}
use Rattle.session_script.specs.declared.logs.Event.{Event}
use Rattle.session_script.specs.declared.logs.Event.TheVariants.{Wants, Queues, Syncs, Synced, Drains, Rests, Served, Worked}
use Rattle.head_queue.specs.EventLaws.Trail.{after, both, is_answer, is_answered, is_trail_from, of_call, op_owner, without_first_waiter}
use Rattle.head_queue.specs.EventLaws.Waiting.{Op, Request, State, Waiter}
use Rattle.promises.specs.ServingPromise.Acks.{answers}
use Rattle.promises.specs.ServingPromise.Faults.{kept_for}
use Rattle.promises.specs.ServingPromise.Served.{is_waiting}
use Rattle.promises.specs.ServingPromise.Steps.{AreOfStep, drain_fault, no_step, one_step, session_of}
use Rattle.promises.specs.OrderLaws.Sides.{owned_from}
use Rattle.promises.proofs.OrderLaws.Frames.{no_step_owned, syncs_it, wants_it}
use Rattle.promises.proofs.OrderLaws.StepLaw.{Brought}
use Rattle.promises.proofs.OrderLaws.Turning.{answers_step, drain_faults_from, drained_is_owned, kept-cons, may_come}

-- nobody waits for ops but sessions that drain, and the step failed
record FailsAlone (st after_it : State) (e : Event) : Type 0 where
  requests : after_it.requests ≡ st.requests
  none_before : st.syncs ≡ []
  syncs : after_it.syncs ≡ []
  unowned : (k : ℕ) → owned_from st (of_call k) (e ∷ []) ≡ []
  unanswered : (k : ℕ) → answers k e ≡ false

failed_alone : (head : Place) (arrived : ℕ) (requests : List Request) (done : ℕ) (ended : List Op) (group : List Place) (syncs : List Waiter) (drains : List ℕ) (who : ℕ) (c counts : Twin) (place : Place)
    → kept_for who (option_to_list (both (session_of (op_owner syncs drains)) (Some c))) ≡ counts ∷ []
    → FailsAlone (record { head = head; arrived = arrived; requests = requests; done = done; ended = ended; group = group; syncs = syncs; drains = drains })
    (after (record { head = head; arrived = arrived; requests = requests; done = done; ended = ended; group = group; syncs = syncs; drains = drains }) (Worked place (Some c))) (Worked place (Some c))
failed_alone head arrived requests done ended group [] [] who c counts place owns = absurd (cc)
failed_alone head arrived requests done ended group [] (w ∷ drains) who c counts place owns = record { requests = refl; none_before = refl; syncs = refl; unowned = λ k. refl; unanswered = λ k. refl }
failed_alone head arrived requests done ended group (s ∷ syncs) drains who c counts place owns = absurd (cc)

fails_alone : (st : State) (e : Event) (who : ℕ) (counts : Twin) → kept_for who (option_to_list (drain_fault st e)) ≡ counts ∷ [] → FailsAlone st (after st e) e
fails_alone st (Worked place (Some c)) who counts owns = failed_alone st.head st.arrived st.requests st.done st.ended st.group st.syncs st.drains who c counts place owns
fails_alone st (Worked place None) who counts owns = absurd (let none : [] ≡ counts ∷ [] = sym (nothing (session_of (op_owner st.syncs st.drains))) ∙ owns in cc)
  where
    nothing : (o : Option ℕ) → kept_for who (option_to_list (both o None)) ≡ []
    nothing None = refl
    nothing (Some w) = refl
fails_alone st (Served ticket place None) who counts owns = absurd (cc)
fails_alone st (Served ticket place (Some c)) who counts owns = absurd (cc)
fails_alone st (Wants ticket place) who counts owns = absurd (cc)
fails_alone st (Queues place) who counts owns = absurd (cc)
fails_alone st (Syncs ticket) who counts owns = absurd (cc)
fails_alone st (Synced ticket) who counts owns = absurd (cc)
fails_alone st (Drains w) who counts owns = absurd (cc)
fails_alone st (Rests w) who counts owns = absurd (cc)

-- where no sync waits none is answered
none_follow : (st : State) (events : List Event) → st.syncs ≡ [] → All (λ a. is_answer a ≡ true) events → is_trail_from st events ≡ true → events ≡ []
none_follow st [] none every trail = refl
none_follow st (e ∷ events) none every trail = by e (All-head (λ a. is_answer a ≡ true) e events every) (may_come st e events trail).fits_now
  where
    by : (e : Event) → is_answer e ≡ true → Rattle.head_queue.specs.EventLaws.Trail.fits st e ≡ true → e ∷ events ≡ []
    by (Synced ticket) is fit = absurd (let no : false ≡ true = sym (ap (is_answered st ticket) none) ∙ fit in cc)
    by (Served ticket place fault) is fit = absurd (cc)
    by (Worked place fault) is fit = absurd (cc)
    by (Wants ticket place) is fit = absurd (cc)
    by (Queues place) is fit = absurd (cc)
    by (Syncs ticket) is fit = absurd (cc)
    by (Drains who) is fit = absurd (cc)
    by (Rests who) is fit = absurd (cc)

nothing_replied : (st : State) (k : ℕ) → is_waiting st k ≡ true → Brought st [] k None
nothing_replied st k waits = record { waits = waits; fault = refl; synced = refl }

step_owned : (st : State) (e : Event) (answers : List Event) (who : ℕ) (counts : Twin) → All (λ a. is_answer a ≡ true) answers → kept_for who (drain_faults_from st (e ∷ answers)) ≡ counts ∷ []
    → kept_for who (option_to_list (drain_fault st e)) ≡ counts ∷ []
step_owned st e answers who counts every owns =
    let later : kept_for who (drain_faults_from (after st e) answers) ≡ [] = drained_is_owned (after st e) answers who ∙ no_step_owned (after st e) (Rattle.head_queue.specs.EventLaws.Trail.of_session who) answers (answers_step answers every) in
    sym (append-nil (kept_for who (option_to_list (drain_fault st e)))) ∙ ap (λ l. kept_for who (option_to_list (drain_fault st e)) ++ l) (sym later) ∙ sym (kept-cons who (drain_fault st e) (drain_faults_from (after st e) answers)) ∙ owns

by_step : (st : State) (made : List Event) (who k : ℕ) (counts : Twin) → AreOfStep made → is_trail_from st made ≡ true → kept_for who (drain_faults_from st made) ≡ counts ∷ [] → is_waiting st k ≡ true → Brought st made k None
by_step st all who k counts no_step trail owns waits = absurd (cc)
by_step st all who k counts (one_step e answers is every) trail owns waits =
    let f = fails_alone st e who counts (step_owned st e answers who counts every owns) in
    let none = none_follow (after st e) answers f.syncs every (may_come st e answers trail).later in
    let asked : is_waiting (after st e) k ≡ true = ap (λ (l : List Request). list_any (wants_it k) l || list_any (syncs_it k) (after st e).syncs) f.requests
    ∙ ap (λ (l : List Waiter). list_any (wants_it k) st.requests || list_any (syncs_it k) l) (f.syncs ∙ sym f.none_before) ∙ waits in
    subst (λ l. Brought st (e ∷ l) k None) (sym none) (record { waits = asked; fault = sym (f.unowned k); synced = sym (ap (λ b. b || false) (f.unanswered k)) })

-- a step that fails for a session's own drain brings no reply to a place that waits
pub own_fault : (st : State) (made : List Event) (kept : List (ℕ × Twin)) (who k : ℕ) (counts : Twin) → AreOfStep made → is_trail_from st made ≡ true
    → (0 < length (kept_for who kept) → made ≡ []) → kept_for who (kept ++ drain_faults_from st made) ≡ counts ∷ [] → is_waiting st k ≡ true → Brought st made k None
own_fault st made kept who k counts shape trail first owns waits =
    ⊎_elim (λ some. subst (λ l. Brought st l k None) (sym (first some)) (nothing_replied st k waits))
    (λ none.
    let nothing : kept_for who kept ≡ [] = nil_from_length (kept_for who kept) (omega (arith, none)) in
    by_step st made who k counts shape trail
    (ap (λ l. l ++ kept_for who (drain_faults_from st made)) (sym nothing) ∙ sym (filter_map-append (λ (e : ℕ × Twin). cond (e.0 == who) (Some e.1) None) kept (drain_faults_from st made)) ∙ owns) waits)
    (cases_lt 0 (length (kept_for who kept)))
