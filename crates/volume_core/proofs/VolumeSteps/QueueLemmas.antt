-- Ops that are queued, one place after the other.
use Rattle.std.specs.Prelude.{ℕ, suc, zero, ◌≡◌, ◌+◌, ◌-◌, ◌*◌, ◌<◌, ◌≤◌, Bool, true, false, not, ◌||◌, nat_le, List, [], ◌∷◌, ◌++◌, Option, Some, None}
use Rattle.std.specs.Prelude.{drop, fold, length, map, slice_get, take}
use Rattle.std.specs.Option.{option_map}
use Rattle.std.proofs.Common.{refl, sym, ap, subst, ◌∙◌, arith, append_assoc, append-nil, length-append}
use Rattle.std.proofs.lemmas.List.{length-drop, length-map, map-append, take_all}
use Rattle.std.proofs.lemmas.List.Sums.{fold-append}
use Rattle.tape_types.specs.declared.cartridges.Place.{Place}
use Rattle.session_script.specs.declared.logs.Event.{Event}
use Rattle.session_script.specs.declared.logs.Event.TheVariants as the_events
use Rattle.head_queue.specs.EventLaws.Trail.{IsTrail, after, after_all, allows}
use Rattle.head_queue.specs.EventLaws.Waiting.{State, Waiter, is_due, put_at, start}
use Rattle.head_queue.specs.EventLaws.Waiting as waiting
use Rattle.tape_layout.specs.Ops.{place_of}
use Rattle.tape_layout.specs.declared.ops.Op.{Op}
use Rattle.promises.specs.ServingPromise.Submits.{queues_at}
use Rattle.event_journal.specs.Trails.{Journaled, due_of, due_ticket, state}
use Rattle.volume_core.specs.VolumeSteps.Asking.{Queues}

-- what an event more leaves
pub after_one : (events : List Event) (e : Event) → after_all (events ++ e ∷ []) ≡ after (after_all events) e
after_one events e = fold-append after start events (e ∷ [])

none_of : (done : ℕ) (syncs : List Waiter) → due_of done syncs ≡ None → (st : State) → st.done ≡ done → st.syncs ≡ syncs → is_due st ≡ false
none_of done [] none st done_is is = rw is refl
none_of done (s ∷ more) none st done_is is = rw is (rw done_is (by (nat_le s.due done) refl))
  where
    by : (b : Bool) → nat_le s.due done ≡ b → nat_le s.due done ≡ false
    by false e = e
    by true e = let there : due_of done (s ∷ more) ≡ Some s.ticket = rw e refl in let no_way : Some s.ticket ≡ None = sym there ∙ none in cc

-- where no ticket is due no sync is
pub none_is_due : (st : State) → due_ticket st ≡ None → is_due st ≡ false
none_is_due st none = none_of st.done st.syncs none st refl refl

-- where no sync is due an op may be queued
pub may_queue : (st : State) (place : Place) → due_ticket st ≡ None → allows st (the_events.Queues place) ≡ true
may_queue st place none = ap (λ b. not b || false) (none_is_due st none)

-- ---- items of lists

some_same : {X : Type 0} (a b : X) → Some a ≡ Some b → a ≡ b
some_same a b e = cc

-- an item more of a list
took : {X : Type 0} (xs : List X) (k : ℕ) (x : X) → slice_get xs k ≡ Some x → take (suc k) xs ≡ take k xs ++ x ∷ []
took [] k x is = let none : None ≡ Some x = is in cc
took (y ∷ xs) zero x is = ap (λ z. z ∷ []) (let same : Some y ≡ Some x = is in some_same y x same)
took {X = X} (y ∷ xs) (suc k) x is = ap (λ (rest : List X). y ∷ rest) (took xs k x is)

-- an item behind so many others
behind_others : {X : Type 0} (xs : List X) (others k : ℕ) → slice_get (drop others xs) k ≡ slice_get xs (others + k)
behind_others xs zero k = let same : k ≡ 0 + k = omega arith in ap (slice_get xs) same
behind_others [] (suc others) k = refl
behind_others (x ∷ xs) (suc others) k =
    let next : suc (others + k) ≡ suc others + k = omega arith in
    behind_others xs others k ∙ ap (slice_get (x ∷ xs)) next

mapped_at : {X Y : Type 0} (f : X → Y) (xs : List X) (k : ℕ) → slice_get (map f xs) k ≡ option_map f (slice_get xs k)
mapped_at f [] k = refl
mapped_at f (x ∷ xs) zero = refl
mapped_at f (x ∷ xs) (suc k) = mapped_at f xs k

-- ---- ops one behind the other

-- so many of these places are queued
pub record Queuing (places : List Place) (done : ℕ) (old new : Journaled) : Type 0 where
  pub few : done ≤ length places
  pub events : new.events ≡ old.events ++ queues_at (take done places)
  pub acks : new.acks ≡ old.acks
  pub kept : new.kept ≡ old.kept
  pub none_due : due_ticket (state new) ≡ None
  pub spare : old.spare ≤ new.spare + 2 * done
  pub waiters : new.waiters ≡ old.waiters

-- the places of the ops behind so many others
abbrev pub places_behind : ℕ → List Op → List Place
places_behind others ops = map place_of (drop others ops)

places_length : (others : ℕ) (ops : List Op) → length (places_behind others ops) ≡ length ops - others
places_length others ops = length-map (drop others ops) place_of ∙ length-drop others ops

-- none is queued at first
pub queuing_begins : (others : ℕ) (ops : List Op) (old : Journaled) → due_ticket (state old) ≡ None
    → Queuing (places_behind others ops) (others - others) old old
queuing_begins others ops old none =
    let zero_is : others - others ≡ 0 = omega arith in
    subst (λ n. Queuing (places_behind others ops) n old old) (sym zero_is) (record {
      few = omega arith;
      events = sym (append-nil old.events);
      acks = refl;
      kept = refl;
      none_due = none;
      spare = omega arith;
      waiters = refl;
    })

-- there is room for the next one
pub queuing_room : (others nth : ℕ) (ops : List Op) (old new : Journaled) → Queuing (places_behind others ops) (nth - others) old new
    → others ≤ nth → nth < length ops → 2 * length (drop others ops) ≤ old.spare → 2 ≤ new.spare
queuing_room others nth ops old new q low more room = omega (arith, q.spare, low, more, room, length-drop others ops)

-- and it is queued behind the others
pub queuing_on : (others nth : ℕ) (ops : List Op) (place : Place) (old mid new : Journaled) → Queuing (places_behind others ops) (nth - others) old mid
    → others ≤ nth → nth < length ops → option_map place_of (slice_get ops nth) ≡ Some place
    → new.events ≡ mid.events ++ the_events.Queues place ∷ [] → new.acks ≡ mid.acks
    → new.kept ≡ mid.kept → mid.spare ≤ new.spare + 2 → new.waiters ≡ mid.waiters → Queuing (places_behind others ops) ((nth + 1) - others) old new
queuing_on others nth ops place old mid new q low more is events acks kept spare waiters =
    let places : List Place = places_behind others ops in
    let next : suc (nth - others) ≡ (nth + 1) - others = omega (arith, low) in
    let there : others + (nth - others) ≡ nth = omega (arith, low) in
    let here : slice_get places (nth - others) ≡ Some place =
    mapped_at place_of (drop others ops) (nth - others) ∙ ap (option_map place_of) (behind_others ops others (nth - others) ∙ ap (slice_get ops) there) ∙ is in
    let queued : queues_at (take (suc (nth - others)) places) ≡ queues_at (take (nth - others) places) ++ the_events.Queues place ∷ [] =
    ap (λ (ps : List Place). queues_at ps) (took places (nth - others) place here)
    ∙ map-append (λ (p : Place). the_events.Queues p) (take (nth - others) places) (place ∷ []) in
    subst (λ n. Queuing places n old new) next (record {
      few = omega (arith, low, more, places_length others ops);
      events = events ∙ ap (λ (es : List Event). es ++ the_events.Queues place ∷ []) q.events
          ∙ append_assoc old.events (queues_at (take (nth - others) places)) (the_events.Queues place ∷ [])
          ∙ ap (λ (es : List Event). old.events ++ es) (sym queued);
      acks = acks ∙ q.acks;
      kept = kept ∙ q.kept;
      none_due = ap (λ (es : List Event). due_ticket (after_all es)) events
          ∙ ap due_ticket (after_one mid.events (the_events.Queues place)) ∙ q.none_due;
      spare = omega (arith, q.spare, spare);
      waiters = waiters ∙ q.waiters;
    })

all_taken : {X : Type 0} (xs : List X) (n : ℕ) → n ≡ length xs → take n xs ≡ xs
all_taken xs n is = take_all n xs (omega (arith, is))

-- in the end all are
pub queuing_ends : (others nth : ℕ) (ops : List Op) (old new : Journaled) → Queuing (places_behind others ops) (nth - others) old new → length ops ≤ nth
    → IsTrail new.events → Queues (places_behind others ops) old new
queuing_ends others nth ops old new q past trail = record {
  events = q.events ∙ ap (λ (ps : List Place). old.events ++ queues_at ps)
      (all_taken (places_behind others ops) (nth - others) (omega (arith, q.few, past, places_length others ops)));
  acks = q.acks;
  kept = q.kept;
  trail = trail;
  none_due = q.none_due;
}

-- no more room is taken than the ops need
pub queuing_spare : (others nth : ℕ) (ops : List Op) (old new : Journaled) → Queuing (places_behind others ops) (nth - others) old new
    → old.spare ≤ new.spare + 2 * length (drop others ops)
queuing_spare others nth ops old new q = omega (arith, q.few, q.spare, length-map (drop others ops) place_of)

-- ---- what stands once they are queued

queued_stand : (places : List Place) (st : State) → length (waiting.ops (fold after st (queues_at places))) ≡ length (waiting.ops st) + length places
queued_stand [] st = omega arith
queued_stand (p ∷ later) st =
    let next : State = after st (the_events.Queues p) in
    omega (
      arith,
      queued_stand later next,
      length-append st.ended (map put_at (st.group ++ p ∷ [])),
      length-map (st.group ++ p ∷ []) put_at,
      length-append st.group (p ∷ []),
      length-append st.ended (map put_at st.group),
      length-map st.group put_at,
    )

-- ops that are queued stand behind those that stood
pub stand_then : (places : List Place) (old new : Journaled) → Queues places old new → length (waiting.ops (state new)) ≡ length (waiting.ops (state old)) + length places
stand_then places old new q =
    let now : state new ≡ fold after (state old) (queues_at places) =
    ap after_all q.events ∙ fold-append after start old.events (queues_at places) in
    ap (λ (st : State). length (waiting.ops st)) now ∙ queued_stand places (state old)
