-- Acknowledgements of a longer trail.
use Rattle.std.specs.Prelude.{◌≡◌, ◌==◌, ◌||◌, min, ◌^◌, ◌-◌, ℕ, ◌+◌, ◌≤◌, Bool, true, false, cond, List, [], ◌∷◌, ◌++◌, All, AllPairs, Contains, filter_map, length, map, Option, Some, None, slice_get}
use Rattle.std.specs.List.{after_first, cons_option, enumerate_from, list_any}
use Rattle.std.proofs.Common.{⊎_elim, refl, sym, ap, subst, ◌∙◌, arith, append-nil, append_assoc}
use Rattle.std.proofs.lemmas.Bool.{cases_Bool}
use Rattle.std.proofs.lemmas.List.{map-append}
use Rattle.std.proofs.lemmas.List.Elements.{All-append, All-contains, All-contains_itself, All-get_or, All-map, All-push, All-weaker, filter_map-append}
use Rattle.std.proofs.lemmas.List.Folds.{list_any-append}
use Rattle.std.proofs.lemmas.List.Quantifiers.{all_pairs_push}
use Rattle.std.proofs.lemmas.Option.{slice_get_within}
use Rattle.session_script.specs.declared.logs.Ack.{Ack}
use Rattle.session_script.specs.declared.logs.Event.{Event}
use Rattle.session_script.specs.declared.logs.Event.TheVariants.{Wants, Queues, Syncs, Synced, Drains, Rests, Served, Worked}
use Rattle.session_script.specs.declared.logs.Reply.{Reply}
use Rattle.head_queue.specs.EventLaws.Trail.{step_to, steps}
use Rattle.promises.specs.ServingPromise.Acks.{AreAcks, AreReached, answers, is_synced, synced_places, synced_ticket}
use Rattle.promises.specs.ServingPromise.Submits.{acks_for}
use Rattle.promises.specs.OrderLaws.Kept.{is_rising}
use Rattle.promises.proofs.OrderLaws.Lists.{after_first-none, count_after_more, enumerate-push}
use Rattle.promises.proofs.OrderLaws.Picked.{has_picked, passes, picked, picked_push, picked_rise}
use Rattle.promises.proofs.OrderLaws.Rising.{All_from, has, rising_same}
use Rattle.promises.proofs.OrderLaws.Waits.{At, at, not_yet, past, still_past, there}

-- ---- places that were told that they are synced

filter_map_agree : {X Y : Type 0} (f g : X → Option Y) → ((x : X) → f x ≡ g x) → (xs : List X) → filter_map f xs ≡ filter_map g xs
filter_map_agree f g same [] = refl
filter_map_agree f g same (x ∷ xs) = ap (λ o. cons_option o (filter_map f xs)) (same x) ∙ ap (λ l. cons_option (g x) l) (filter_map_agree f g same xs)

synced_places_are : (replies : List (Option Reply)) → synced_places replies ≡ picked is_synced 0 replies
synced_places_are replies =
    filter_map_agree _ (λ e. cond (is_synced e.1) (Some e.0) None) (λ e. ⊎_elim (λ is. rw is refl) (λ is. rw is refl) (cases_Bool (is_synced e.1))) (enumerate_from 0 replies)

-- one more reply adds its place to the synced ones just if it says so
pub synced_push : (replies : List (Option Reply)) (reply : Option Reply) → synced_places (replies ++ reply ∷ []) ≡ synced_places replies ++ cond (is_synced reply) (length replies ∷ []) []
synced_push replies reply =
    synced_places_are (replies ++ reply ∷ []) ∙ picked_push is_synced replies reply ∙ ap (λ l. l ++ cond (is_synced reply) (length replies ∷ []) []) (sym (synced_places_are replies))

-- whether a place was told so
abbrev pub synced_at : Option (Option Reply) → Bool
synced_at reply = passes is_synced reply

-- a place is among the synced ones just if its reply says that it is synced
pub has_synced_place : (replies : List (Option Reply)) (k : ℕ) → has k (synced_places replies) ≡ synced_at (slice_get replies k)
has_synced_place replies k = ap (has k) (synced_places_are replies) ∙ has_picked is_synced replies k

places_rise : (replies : List (Option Reply)) → is_rising (synced_places replies) ≡ true
places_rise replies = subst (λ l. is_rising l ≡ true) (sym (synced_places_are replies)) (picked_rise is_synced 0 replies)

-- a place is among those that events answer just if one of them answers it
pub has_answered : (events : List Event) (k : ℕ) → has k (filter_map synced_ticket events) ≡ list_any (answers k) events
has_answered [] k = refl
has_answered (Synced ticket ∷ events) k = ap (λ b. (ticket == k) || b) (has_answered events k)
has_answered (Wants ticket place ∷ events) k = has_answered events k
has_answered (Queues place ∷ events) k = has_answered events k
has_answered (Syncs ticket ∷ events) k = has_answered events k
has_answered (Drains who ∷ events) k = has_answered events k
has_answered (Rests who ∷ events) k = has_answered events k
has_answered (Served ticket place fault ∷ events) k = has_answered events k
has_answered (Worked place fault ∷ events) k = has_answered events k

-- ---- after a turn

-- the replies that were there stay, and the others are synced where the events answer them
pub record AreAnswered (added : List Event) (old new : List (Option Reply)) : Type 0 where
  pub count : length new ≡ length old
  pub each : (k : ℕ) (reply : Reply) → slice_get old k ≡ Some (Some reply) → (slice_get new k ≡ Some (Some reply)) × (list_any (answers k) added ≡ false)
  pub past_end : (k : ℕ) → slice_get old k ≡ None → list_any (answers k) added ≡ false
  pub replied : (k : ℕ) (reply : Option Reply) → slice_get old k ≡ Some None → slice_get new k ≡ Some reply → is_synced reply ≡ list_any (answers k) added

or_false : (a b : Bool) → b ≡ false → a ≡ (a || b)
or_false true b e = refl
or_false false b e = sym e

-- the places that are synced after a turn are those before and those that its events answer
pub synced_turn : (added : List Event) (old new : List (Option Reply)) → AreAnswered added old new → is_rising (synced_places old ++ filter_map synced_ticket added) ≡ true
    → synced_places new ≡ synced_places old ++ filter_map synced_ticket added
synced_turn added old new turned rises =
    rising_same (synced_places new) (synced_places old ++ filter_map synced_ticket added) (places_rise new) rises
    (λ k. has_synced_place new k ∙ by k (at old k) ∙ ap (λ b. b || has k (filter_map synced_ticket added)) (sym (has_synced_place old k)) ∙ sym (list_any-append (λ x. x == k) (synced_places old) (filter_map synced_ticket added)))
  where
    by : (k : ℕ) → At old k → synced_at (slice_get new k) ≡ (synced_at (slice_get old k) || has k (filter_map synced_ticket added))
    by k (past e) =
        ap synced_at (still_past old new k turned.count e) ∙ sym (has_answered added k ∙ turned.past_end k e) ∙ ap (λ o. synced_at o || has k (filter_map synced_ticket added)) (sym e)
    by k (there reply e) =
        ap synced_at (turned.each k reply e).0 ∙ or_false (is_synced (Some reply)) (has k (filter_map synced_ticket added)) (has_answered added k ∙ (turned.each k reply e).1)
        ∙ ap (λ o. synced_at o || has k (filter_map synced_ticket added)) (sym e)
    by k (not_yet e) =
        let x = Rattle.promises.proofs.OrderLaws.Lists.at_some new k (omega (arith, turned.count, slice_get_within old k None e)) in
        ap synced_at x.1 ∙ turned.replied k x.0 e x.1 ∙ sym (has_answered added k) ∙ ap (λ o. synced_at o || has k (filter_map synced_ticket added)) (sym e)

-- ---- acks

tickets_of : (command : ℕ) (tickets : List ℕ) → map (λ (a : Ack). a.place) (map (λ ticket. record { place = ticket; command = command }) tickets) ≡ tickets
tickets_of command [] = refl
tickets_of command (t ∷ tickets) = ap (λ l. t ∷ l) (tickets_of command tickets)

ack_of : ℕ → ℕ → Ack
ack_of command ticket = record { place = ticket; command = command }

pairs_more : (acks : List Ack) (command : ℕ) (tickets : List ℕ) → AllPairs (λ (a b : Ack). a.command ≤ b.command) acks → All (λ (a : Ack). a.command ≤ command) acks
    → AllPairs (λ (a b : Ack). a.command ≤ b.command) (acks ++ map (λ ticket. record { place = ticket; command = command }) tickets)
pairs_more acks command [] pairs below = subst (AllPairs (λ (a b : Ack). a.command ≤ b.command)) (sym (append-nil acks)) pairs
pairs_more acks command (t ∷ tickets) pairs below =
    let last : Ack = record { place = t; command = command } in
    subst (AllPairs (λ (a b : Ack). a.command ≤ b.command)) (append_assoc acks (last ∷ []) (map (λ ticket. record { place = ticket; command = command }) tickets))
    (pairs_more (acks ++ last ∷ []) command tickets
    (all_pairs_push (λ (a b : Ack). a.command ≤ b.command) acks last pairs (λ k d less. All-get_or (λ (a : Ack). a.command ≤ command) acks k d less below))
    (All-push (λ (a : Ack). a.command ≤ command) acks last below (omega arith)))

-- with the acks of what a turn answers, the acks are those of the longer trail
pub acks_more : (events added : List Event) (old new : List (Option Reply)) (acks : List Ack) (command : ℕ) → AreAcks events old acks → All (λ (a : Ack). a.command ≤ command) acks
    → synced_places new ≡ synced_places old ++ filter_map synced_ticket added → AreAcks (events ++ added) new (acks ++ acks_for command added)
acks_more events added old new acks command were below places = record {
  places = map-append (λ (a : Ack). a.place) acks (acks_for command added) ∙ ap (λ l. l ++ map (λ (a : Ack). a.place) (acks_for command added)) were.places
      ∙ ap (λ l. synced_places old ++ l) (tickets_of command (filter_map synced_ticket added)) ∙ sym places;
  events = map-append (λ (a : Ack). a.place) acks (acks_for command added) ∙ ap (λ l. l ++ map (λ (a : Ack). a.place) (acks_for command added)) were.events
      ∙ ap (λ l. filter_map synced_ticket events ++ l) (tickets_of command (filter_map synced_ticket added)) ∙ sym (filter_map-append synced_ticket events added);
  rising = pairs_more acks command (filter_map synced_ticket added) were.rising below;
}

-- with the acks of a turn no ack is of a command to come
pub commands_more : (added : List Event) (acks : List Ack) (before command : ℕ) → before ≤ command → All (λ (a : Ack). a.command ≤ before) acks → All (λ (a : Ack). a.command ≤ command) (acks ++ acks_for command added)
commands_more added acks before command later below =
    All-append (λ (a : Ack). a.command ≤ command) acks (acks_for command added) (All-weaker (λ (a : Ack). a.command ≤ before) (λ (a : Ack). a.command ≤ command) (λ a h. omega (arith, h, later)) acks below)
    (All-map (λ (a : Ack). a.command ≤ command) (λ ticket. record { place = ticket; command = command }) (filter_map synced_ticket added) (All_from (λ t. command ≤ command) (filter_map synced_ticket added) (λ k h. omega arith)))

-- ---- what each ack has reached

-- the number that an ack claims to have been passed
abbrev claimed : List Event → Ack → ℕ
claimed events ack = min (ack.command + steps (after_first (answers ack.place) events)) (2 ^ 64 - 1)

-- behind each ack the drive counts all steps since, also with the acks of a turn
pub reached_more : (events added : List Event) (acks : List Ack) (before now : ℕ) → AreReached events acks before → before ≤ now → min (before + steps added) (2 ^ 64 - 1) ≤ now
    → ((t : ℕ) → has t (filter_map synced_ticket added) ≡ true → list_any (answers t) events ≡ false)
    → ((t : ℕ) → steps (after_first (answers t) added) ≡ 0)
    → AreReached (events ++ added) (acks ++ acks_for now added) now
reached_more events added acks before now were later least first none =
    λ ack has. All-contains (λ a. claimed (events ++ added) a ≤ now) (acks ++ acks_for now added) ack
    (All-append (λ a. claimed (events ++ added) a ≤ now) acks (acks_for now added)
    (All-weaker (Contains acks) (λ a. claimed (events ++ added) a ≤ now) (λ a there. omega (arith, were a there, later, least, count_after_more (answers a.place) step_to events added)) acks (All-contains_itself acks))
    (All-map (λ a. claimed (events ++ added) a ≤ now) (λ ticket. record { place = ticket; command = now }) (filter_map synced_ticket added)
    (All_from (λ t. claimed (events ++ added) (record { place = t; command = now }) ≤ now) (filter_map synced_ticket added)
    (λ t there. omega (arith, none t, ap steps (after_first-none (answers t) events added (first t there)))))))
    has
