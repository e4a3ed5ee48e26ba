-- What events leave: who owns a fault, how many ops are done, and how many stand.
use Rattle.std.specs.Prelude.{◌≡◌, ◌+◌, ◌||◌, ℕ, suc, Bool, true, false, cond, List, [], ◌∷◌, ◌++◌, All, length, fold, filter_map, scan, Contains, Some, None}
use Rattle.std.specs.List.{list_all, list_any}
use Rattle.std.proofs.Common.{refl, sym, ap, ◌∙◌, subst, arith, length-append}
use Rattle.std.proofs.lemmas.List.Elements.{Contains-append_left, filter_map-append}
use Rattle.std.proofs.lemmas.List.Folds.{list_all-append, list_any-append}
use Rattle.tape_types.proofs.LongerLists.{scan-append}
use Rattle.tape_types.specs.declared.cartridges.Twin.{Twin}
use Rattle.session_script.specs.declared.logs.Event.{Event}
use Rattle.session_script.specs.declared.logs.Event.TheVariants.{Wants, Queues, Syncs, Synced, Drains, Rests, Served, Worked}
use Rattle.head_queue.specs.EventLaws.Trail.{IsTrail, Owner, after, after_all, allows, both, fault_of, is_answer, is_of, is_trail_from, owned, owned_by, owner_of}
use Rattle.head_queue.specs.EventLaws.Waiting.{State, ops, start}
use Rattle.head_queue.proofs.EventLaws.OpLaw.{done_more, ever, ever_one, failed_done, ops_done, ops_queued}
use Rattle.promises.specs.ServingPromise.Served.{queued}
use Rattle.promises.specs.ServingPromise.Steps.{AreOfStep, no_step, one_step, is_step}
use Rattle.promises.specs.ReplyLaws.Laws.{OwnersKeepFaults}
use Rattle.promises.specs.ReplyLaws.Sides.{does_op}
use Rattle.promises.proofs.ReplyLaws.Lists.{and_first, and_second, picks_none}

-- ---- faults

owned_on : (events added : List Event) → owned (events ++ added) ≡ owned events ++ filter_map (λ o. o) (scan after (λ st e. both (owner_of st e) (fault_of e)) (after_all events) added)
owned_on events added =
    ap (filter_map (λ o. o)) (scan-append after (λ st e. both (owner_of st e) (fault_of e)) start events added)
    ∙ filter_map-append (λ o. o) (scan after (λ st e. both (owner_of st e) (fault_of e)) start events) (scan after (λ st e. both (owner_of st e) (fault_of e)) (after_all events) added)

-- who owns a fault keeps it, whatever events follow
pub owners_keep_faults : OwnersKeepFaults
owners_keep_faults owner events added counts has =
    let later = filter_map (λ o. o) (scan after (λ st e. both (owner_of st e) (fault_of e)) (after_all events) added) in
    subst (λ (twins : List Twin). Contains twins counts)
    (sym (ap (filter_map (λ (e : Owner × Twin). cond (is_of owner e.0) (Some e.1) None)) (owned_on events added) ∙ filter_map-append (λ (e : Owner × Twin). cond (is_of owner e.0) (Some e.1) None) (owned events) later))
    (Contains-append_left (owned_by owner events) (filter_map (λ (e : Owner × Twin). cond (is_of owner e.0) (Some e.1) None) later) counts has)

-- ---- ops that stand, that were done, and that were queued

queued_one : (e : Event) → length (filter_map queued (e ∷ [])) ≡ ops_queued e
queued_one (Queues place) = refl
queued_one _ = refl

ever_from : (st : State) (events : List Event) → ever (fold after st events) ≡ ever st + length (filter_map queued events)
ever_from st [] = omega arith
ever_from st (e ∷ later) =
    omega (arith, ever_from (after st e) later, ever_one st e, queued_one e, ap length (filter_map-append queued (e ∷ []) later), length-append (filter_map queued (e ∷ [])) (filter_map queued later))

-- the ops that were queued are those that stand and those that were done
pub queued_or_done : (events : List Event) → length (ops (after_all events)) + (after_all events).done ≡ length (filter_map queued events)
queued_or_done events = omega (arith, ever_from start events)

-- ---- what a step has done

-- the end of a trail is one from where its front ends
pub trail_behind : (events added : List Event) → IsTrail (events ++ added) → is_trail_from (after_all events) added ≡ true
trail_behind events added is =
    and_second (list_all (λ may. may) (scan after allows start events)) (is_trail_from (after_all events) added)
    (sym (ap (list_all (λ may. may)) (scan-append after allows start events added) ∙ list_all-append (λ may. may) (scan after allows start events) (scan after allows (after_all events) added)) ∙ is)

-- how many ops a step has done
abbrev pub done_by : List Event → ℕ
done_by added = cond (list_any does_op added) 1 0

done_one : (e : Event) → cond (does_op e) 1 0 ≡ ops_done e
done_one (Worked place None) = refl
done_one _ = refl

done_one_more : (st : State) (e : Event) → allows st e ≡ true → (after st e).done ≡ st.done + cond (does_op e) 1 0
done_one_more st e h = omega (arith, done_more st e h, done_one e)

-- an event that does no op leaves the count of those that were done
kept_one : (st : State) (e : Event) → does_op e ≡ false → (after st e).done ≡ st.done
kept_one st (Wants ticket place) h = refl
kept_one st (Queues place) h = refl
kept_one st (Syncs ticket) h = refl
kept_one st (Synced ticket) h = refl
kept_one st (Drains who) h = refl
kept_one st (Rests who) h = refl
kept_one st (Served ticket place None) h = refl
kept_one st (Served ticket place (Some counts)) h = refl
kept_one st (Worked place None) h = cc
kept_one st (Worked place (Some counts)) h = failed_done st.head st.arrived st.requests st.done st.ended st.group st.syncs st.drains

or_first : (a b : Bool) → (a || b) ≡ false → a ≡ false
or_first false b e = refl
or_first true b e = cc

or_second : (a b : Bool) → (a || b) ≡ false → b ≡ false
or_second false b e = e
or_second true b e = cc

-- events of which none does an op leave the number of ops done
pub none_done : (st : State) (events : List Event) → list_any does_op events ≡ false → (fold after st events).done ≡ st.done
none_done st [] h = refl
none_done st (e ∷ later) h = none_done (after st e) later (or_second (does_op e) (list_any does_op later) h) ∙ kept_one st e (or_first (does_op e) (list_any does_op later) h)

an_answer : (e : Event) → is_answer e ≡ true → does_op e ≡ false
an_answer (Synced ticket) h = refl
an_answer _ h = cc

answers_do_none : (answers : List Event) → All (λ a. is_answer a ≡ true) answers → list_any does_op answers ≡ false
answers_do_none [] all = refl
answers_do_none (a ∷ later) all =
    ap (λ b. b || list_any does_op later) (an_answer a (all 0 a (omega arith)))
    ∙ answers_do_none later (λ k d less. all (suc k) d (omega (arith, less)))

or_none : (a b : Bool) → b ≡ false → (a || b) ≡ a
or_none true b h = refl
or_none false b h = h

-- what a step of the head, and events behind it that do no op, have done
pub step_done : (st : State) (made rest : List Event) → AreOfStep made → list_any does_op rest ≡ false → is_trail_from st (made ++ rest) ≡ true → (fold after st (made ++ rest)).done ≡ st.done + done_by (made ++ rest)
step_done st _ rest no_step none is = omega (arith, none_done st rest none, ap {B = ℕ} (λ b. cond b 1 0) none)
step_done st _ rest (one_step e answers step all) none is =
    let later : list_any does_op (answers ++ rest) ≡ false = list_any-append does_op answers rest ∙ ap (λ b. b || list_any does_op rest) (answers_do_none answers all) ∙ none in
    none_done (after st e) (answers ++ rest) later
    ∙ done_one_more st e (and_first (allows st e) (is_trail_from (after st e) (answers ++ rest)) is)
    ∙ ap (λ b. st.done + cond b 1 0) (sym (or_none (does_op e) (list_any does_op (answers ++ rest)) later))

answer_queues : (e : Event) → is_answer e ≡ true → queued e ≡ None
answer_queues (Synced ticket) h = refl
answer_queues _ h = cc

step_queues : (e : Event) → is_step e ≡ true → queued e ≡ None
step_queues (Served ticket place fault) h = refl
step_queues (Worked place fault) h = refl
step_queues _ h = cc

answers_queue_none : (answers : List Event) → All (λ a. is_answer a ≡ true) answers → filter_map queued answers ≡ []
answers_queue_none [] all = refl
answers_queue_none (a ∷ later) all =
    picks_none queued a later (answer_queues a (all 0 a (omega arith)))
    ∙ answers_queue_none later (λ k d less. all (suc k) d (omega (arith, less)))

-- a step of the head queues nothing
pub steps_queue_none : (made : List Event) → AreOfStep made → filter_map queued made ≡ []
steps_queue_none _ no_step = refl
steps_queue_none _ (one_step e answers step all) = picks_none queued e answers (step_queues e step) ∙ answers_queue_none answers all
