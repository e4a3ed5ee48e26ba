-- Requests of reads, one behind the other.
use Rattle.std.specs.Prelude.{ℕ, zero, suc, ◌≡◌, ◌+◌, ◌*◌, ◌<◌, ◌≤◌, ◌&&◌, Bool, true, false, List, [], ◌∷◌, ◌++◌, fold, get_or, length, map, take}
use Rattle.std.proofs.Common.{refl, sym, ap, subst, ◌∙◌, arith, append_assoc, append-nil}
use Rattle.std.proofs.lemmas.List.{length-append, map-append}
use Rattle.std.proofs.lemmas.List.Sums.{fold-append}
use Rattle.tape_types.specs.declared.cartridges.Place.{Place}
use Rattle.session_script.specs.declared.logs.Event.{Event}
use Rattle.session_script.specs.declared.logs.Event.TheVariants as the_events
use Rattle.head_queue.specs.EventLaws.Trail.{after, after_all, allows, is_trail_from}
use Rattle.head_queue.specs.EventLaws.Waiting.{Request, State, start}
use Rattle.head_queue.specs.Queued.{Queued, requests}
use Rattle.head_queue.specs.Waiting.{Waiting, request}
use Rattle.event_journal.specs.Trails.{Journaled, state}
use Rattle.promises.specs.GroupLaws.Groups.{requests_for}
use Rattle.promises.specs.GroupLaws.Laws.{wants_at}
use Rattle.volume_core.specs.VolumeSteps.Wanted.{HasEvents, HasRequests}
use Rattle.volume_core.proofs.VolumeSteps.FillLemmas.{all_places, next_place}

both_first : (a b : Bool) → (a && b) ≡ true → a ≡ true
both_first true b is = refl
both_first false b is = absurd cc

both_second : (a b : Bool) → (a && b) ≡ true → b ≡ true
both_second true b is = is
both_second false b is = absurd cc

-- each request may come behind those before it
allowed_at : (ticket : ℕ) (places : List Place) (i : ℕ) (d : Place) (st : State) → i < length places
    → is_trail_from st (wants_at ticket places) ≡ true
    → allows (fold after st (wants_at ticket (take i places))) (the_events.Wants ticket (get_or places i d)) ≡ true
allowed_at ticket [] i d st lt may = absurd (omega (arith, lt))
allowed_at ticket (p ∷ ps) zero d st lt may =
    both_first (allows st (the_events.Wants ticket p)) (is_trail_from (after st (the_events.Wants ticket p)) (wants_at ticket ps)) may
allowed_at ticket (p ∷ ps) (suc i) d st lt may =
    allowed_at ticket ps i d (after st (the_events.Wants ticket p)) (omega (arith, lt))
    (both_second (allows st (the_events.Wants ticket p)) (is_trail_from (after st (the_events.Wants ticket p)) (wants_at ticket ps)) may)

-- what the events leave once a read has asked for blocks
pub state_after : (ticket : ℕ) (places : List Place) (old new : Journaled) → new.events ≡ old.events ++ wants_at ticket places
    → state new ≡ fold after (state old) (wants_at ticket places)
state_after ticket places old new events =
    ap (λ (es : List Event). after_all es) events ∙ fold-append after start old.events (wants_at ticket places)

one_more : (ticket arrived : ℕ) (places : List Place) (p : Place)
    → requests_for ticket arrived (places ++ p ∷ [])
    ≡ requests_for ticket arrived places ++ record { ticket = ticket; place = p; arrival = arrived + length places } ∷ []
one_more ticket arrived [] p =
    let none : arrived ≡ arrived + 0 = omega arith in
    ap (λ n. record { ticket = ticket; place = p; arrival = n } ∷ []) none
one_more ticket arrived (q ∷ qs) p =
    let on : (arrived + 1) + length qs ≡ arrived + suc (length qs) = omega arith in
    ap (λ (rs : List Request). record { ticket = ticket; place = q; arrival = arrived } ∷ rs)
    (one_more ticket (arrived + 1) qs p
    ∙ ap (λ n. requests_for ticket (arrived + 1) qs ++ record { ticket = ticket; place = p; arrival = n } ∷ []) on)

-- so many of the places are asked for
pub record Asking (ticket : ℕ) (places : List Place) (i : ℕ) (old new : Journaled) (before later : Queued) : Type 0 where
  pub events : HasEvents ticket (take i places) old new
  pub requests_are : HasRequests ticket (take i places) before later
  pub spare : old.spare ≤ new.spare + 2 * i
  pub room : before.spare ≤ later.spare + i

-- with no place yet nothing is asked for
pub asking_begins : (ticket : ℕ) (places : List Place) (old : Journaled) (before : Queued)
    → Asking ticket places 0 old old before before
asking_begins ticket places old before = record {
  events = record { events = sym (append-nil old.events); acks = refl; kept = refl };
  requests_are = record { requests_are = sym (append-nil (requests before)); arrived = omega arith };
  spare = omega arith;
  room = omega arith;
}

-- the next block of a read may be asked for
pub asking_allowed : (ticket : ℕ) (places : List Place) (i : ℕ) (d : Place) (old new : Journaled) (before later : Queued)
    → i < length places → is_trail_from (state old) (wants_at ticket places) ≡ true
    → Asking ticket places i old new before later → allows (state new) (the_events.Wants ticket (get_or places i d)) ≡ true
asking_allowed ticket places i d old new before later lt may a =
    ap (λ (st : State). allows st (the_events.Wants ticket (get_or places i d))) (state_after ticket (take i places) old new a.events.events)
    ∙ allowed_at ticket places i d (state old) lt may

-- there is room for the event of the next request
pub asking_room : (ticket : ℕ) (places : List Place) (i : ℕ) (old new : Journaled) (before later : Queued) → i < length places
    → 2 * length places ≤ old.spare → Asking ticket places i old new before later → 2 ≤ new.spare
asking_room ticket places i old new before later lt room a = omega (arith, lt, room, a.spare)

-- there is room for the next request in the queue
pub asking_requests : (ticket : ℕ) (places : List Place) (i : ℕ) (old new : Journaled) (before later : Queued) → i < length places
    → length places ≤ before.spare → Asking ticket places i old new before later → 1 ≤ later.spare
asking_requests ticket places i old new before later lt room a = omega (arith, lt, room, a.room)

-- one block more is asked for behind the others
pub asking_on : (ticket : ℕ) (places : List Place) (i : ℕ) (d : Place) (node : ℕ) (old mid new : Journaled)
    (before between later : Queued) → i < length places → Asking ticket places i old mid before between
    → new.events ≡ mid.events ++ the_events.Wants ticket (get_or places i d) ∷ [] → new.acks ≡ mid.acks → new.kept ≡ mid.kept
    → mid.spare ≤ new.spare + 2
    → later.waiting ≡ between.waiting
    ++ record { node = node; owner = ticket; place = get_or places i d; arrival = between.arrived } ∷ []
    → later.arrived ≡ between.arrived + 1 → between.spare ≤ later.spare + 1
    → Asking ticket places (i + 1) old new before later
asking_on ticket places i d node old mid new before between later lt a events acks kept spare waiting arrived room =
    let place : Place = get_or places i d in
    let next : take (i + 1) places ≡ take i places ++ place ∷ [] = next_place places i d lt in
    let wants : wants_at ticket (take (i + 1) places) ≡ wants_at ticket (take i places) ++ the_events.Wants ticket place ∷ [] =
    ap (wants_at ticket) next ∙ map-append (λ (p : Place). the_events.Wants ticket p) (take i places) (place ∷ []) in
    let there : between.arrived ≡ before.arrived + length (take i places) = a.requests_are.arrived in
    let asks : requests_for ticket before.arrived (take (i + 1) places)
    ≡ requests_for ticket before.arrived (take i places) ++ record { ticket = ticket; place = place; arrival = between.arrived } ∷ [] =
    ap (requests_for ticket before.arrived) next ∙ one_more ticket before.arrived (take i places) place
    ∙ ap (λ n. requests_for ticket before.arrived (take i places) ++ record { ticket = ticket; place = place; arrival = n } ∷ []) (sym there) in
    let long : length (take (i + 1) places) ≡ length (take i places) + 1 = ap length next ∙ length-append (take i places) (place ∷ []) in
    record {
      events = record {
        events = events ∙ ap (λ (es : List Event). es ++ the_events.Wants ticket place ∷ []) a.events.events
            ∙ append_assoc old.events (wants_at ticket (take i places)) (the_events.Wants ticket place ∷ [])
            ∙ ap (λ (es : List Event). old.events ++ es) (sym wants);
        acks = acks ∙ a.events.acks;
        kept = kept ∙ a.events.kept;
      };
      requests_are = record {
        requests_are = ap (λ (ws : List Waiting). map request ws) waiting
            ∙ map-append request between.waiting
            (record { node = node; owner = ticket; place = place; arrival = between.arrived } ∷ [])
            ∙ ap (λ (rs : List Request). rs ++ record { ticket = ticket; place = place; arrival = between.arrived } ∷ []) a.requests_are.requests_are
            ∙ append_assoc (requests before) (requests_for ticket before.arrived (take i places))
            (record { ticket = ticket; place = place; arrival = between.arrived } ∷ [])
            ∙ ap (λ (rs : List Request). requests before ++ rs) (sym asks);
        arrived = omega (arith, arrived, there, long);
      };
      spare = omega (arith, spare, a.spare);
      room = omega (arith, room, a.room);
    }

-- once all places are passed, the events have a request for each
pub asking_events : (ticket : ℕ) (places : List Place) (i : ℕ) (old new : Journaled) (before later : Queued) → length places ≤ i
    → Asking ticket places i old new before later → HasEvents ticket places old new
asking_events ticket places i old new before later le a =
    subst (λ (ps : List Place). HasEvents ticket ps old new) (all_places places i le) a.events

-- once all places are passed, the queue has a request for each
pub asking_ends : (ticket : ℕ) (places : List Place) (i : ℕ) (old new : Journaled) (before later : Queued) → length places ≤ i
    → Asking ticket places i old new before later → HasRequests ticket places before later
asking_ends ticket places i old new before later le a =
    subst (λ (ps : List Place). HasRequests ticket ps before later) (all_places places i le) a.requests_are
