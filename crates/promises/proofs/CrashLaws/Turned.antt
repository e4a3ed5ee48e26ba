-- A turn of the head in the words of what it adds to the view.
use Rattle.std.proofs.Common.{◌≡◌, ℕ, ◌-◌, ◌^◌, ◌<◌, ◌++◌, true, List, [], ◌∷◌, map, Option, Some, None, refl, sym, ap, subst, ◌∙◌, arith, append_assoc, append-nil}
use Rattle.std.specs.Prelude.{All, filter_map}
use Rattle.std.proofs.lemmas.Bool.{and_from}
use Rattle.std.proofs.lemmas.List.{map-append}
use Rattle.std.proofs.lemmas.List.Elements.{All-cons, filter_map-append}
use Rattle.tape_types.specs.declared.cartridges.Cartridge.{Cartridge}
use Rattle.tape_types.specs.declared.cartridges.Limits.{Limits}
use Rattle.tape_drive.specs.declared.drive.Drive.{Ghosts}
use Rattle.session_script.specs.declared.logs.Ack.{Ack}
use Rattle.session_script.specs.declared.logs.Event.{Event}
use Rattle.session_script.specs.declared.logs.Event.TheVariants.{Wants, Queues, Syncs, Synced, Drains, Rests, Served, Worked}
use Rattle.head_queue.specs.EventLaws.Waiting.{State, start}
use Rattle.head_queue.specs.EventLaws.Trail.{IsTrail, after, allows, is_answer, is_trail_from, steps}
use Rattle.head_queue.proofs.EventLaws.TrailLaw.{first_of as left_of, second_of as right_of}
use Rattle.space_laws.specs.Space.{Space}
use Rattle.promises.specs.ServingPromise.Acks.{synced_ticket}
use Rattle.promises.specs.ServingPromise.Served.{View}
use Rattle.promises.specs.ServingPromise.Steps.{AreOfStep, DrainsOnce, no_step, on_after, one_step, rest_of}
use Rattle.promises.specs.ServingPromise.Submits.{Adds, acks_for}
use Rattle.promises.specs.declared.serving_promise.answers.Drained.{Drained}
use Rattle.promises.specs.declared.serving_promise.answers.Drained.TheVariants as drained
use Rattle.promises.specs.CrashLaws.Changes.{AreDriven, AreQuiet, HasHeaded, IsAsked, IsDriven, is_quiet}
use Rattle.promises.specs.CrashLaws.Laws.{IsSafeNow, TurnsAreSafe}
use Rattle.promises.specs.CrashLaws.Safe.{IsSafe, seen_by, space_now, standing_now, Planned}
use Rattle.promises.proofs.CrashLaws.Placing.{same_standing, standings_go_on, void_safe}
use Rattle.promises.proofs.CrashLaws.Stepped.{done_safe, failed_safe, on_already, on_never, read_safe}
use Rattle.promises.proofs.CrashLaws.Submitted.{submissions_are_safe}

no_events : AreQuiet []
no_events = λ k d less. absurd (omega (arith, less))

-- a front of a trail is one
trail_front : (st : State) (xs ys : List Event) → is_trail_from st (xs ++ ys) ≡ true → is_trail_from st xs ≡ true
trail_front st [] ys h = refl
trail_front st (x ∷ xs) ys h =
    and_from (allows st x) (is_trail_from (after st x) xs) (left_of (allows st x) (is_trail_from (after st x) (xs ++ ys)) h)
    (trail_front (after st x) xs ys (right_of (allows st x) (is_trail_from (after st x) (xs ++ ys)) h))

acks_append : (commands : ℕ) (xs ys : List Event) → acks_for commands (xs ++ ys) ≡ acks_for commands xs ++ acks_for commands ys
acks_append commands xs ys =
    ap (λ (tickets : List ℕ). map (λ ticket. record { place = ticket; command = commands }) tickets) (filter_map-append synced_ticket xs ys)
    ∙ map-append (λ ticket. record { place = ticket; command = commands }) (filter_map synced_ticket xs) (filter_map synced_ticket ys)

-- without events nothing turns on
on_still : {D : Type 0} (old : View D) → on_after old [] ≡ old.on
on_still old = by old.on refl
  where
    by : (on : Option ℕ) → old.on ≡ on → on_after old [] ≡ old.on
    by (Some first) is = on_already old [] first is ∙ sym is
    by None is = on_never old [] is refl ∙ sym is

module _ {D : Type 0} (drive : Ghosts D)
    (only_now : (d : D) (image : Cartridge) → drive.commands d < 2 ^ 64 - 1 → drive.left_since d (drive.commands d) image → drive.leaves d image)
    (planned : Planned) (limits : Limits) where
  -- with the space of a view whose standing is the same
  to_now : (old new : View D) → standing_now limits new ≡ standing_now limits old → IsSafe drive planned (space_now limits old) new → IsSafeNow drive planned limits new
  to_now old new same safe = subst (λ (s : Space). IsSafe drive planned s new) (sym (ap (λ st. st.space) same)) safe

  module _ (old new : View D) (safe : IsSafeNow drive planned limits old) (fixed : new.fixed ≡ old.fixed) (history : new.history ≡ old.history)
      (trail : IsTrail new.events) (headed : HasHeaded old) where
    by_step : (e : Event) (answers : List Event) → IsDriven drive old new e → All (λ (a : Event). is_answer a ≡ true) answers
        → Adds (seen_by drive new.drive) old new (e ∷ answers) → new.on ≡ on_after old (e ∷ answers) → IsSafe drive planned (space_now limits old) new
    by_step (Wants ticket place) answers did all adds on = absurd did
    by_step (Queues place) answers did all adds on = absurd did
    by_step (Syncs ticket) answers did all adds on = absurd did
    by_step (Synced ticket) answers did all adds on = absurd did
    by_step (Drains who) answers did all adds on = absurd did
    by_step (Rests who) answers did all adds on = absurd did
    by_step (Served ticket place fault) answers did all adds on =
        read_safe drive only_now planned (space_now limits old) old new ticket place fault did.0 answers safe
        (record { fixed = fixed; history = history; on = on; adds = adds; trail = trail; answers_are = all; headed_are = headed }) did.1 did.2
    by_step (Worked place None) answers did all adds on =
        done_safe drive only_now planned (space_now limits old) old new did.0 place did.1 answers safe
        (record { fixed = fixed; history = history; on = on; adds = adds; trail = trail; answers_are = all; headed_are = headed }) did.2 did.3 did.4
    by_step (Worked place (Some told)) answers did all adds on =
        failed_safe drive only_now planned (space_now limits old) old new did.0 did.1 place did.2 told answers safe
        (record { fixed = fixed; history = history; on = on; adds = adds; trail = trail; answers_are = all; headed_are = headed }) did.3 did.4 did.5

    by_shape : (added : List Event) → AreOfStep added → AreDriven drive old new added → Adds (seen_by drive new.drive) old new added
        → new.on ≡ on_after old added → (steps added ≡ 0 → new.drive ≡ old.drive) → IsSafe drive planned (space_now limits old) new
    by_shape added no_step did adds on still =
        (submissions_are_safe drive only_now).unplaced planned (space_now limits old) old new [] safe
        (record { fixed = fixed; drive_is = still refl; on = on ∙ on_still old; ops = did ∙ sym (append-nil old.ops); adds = adds }) history no_events
    by_shape added (one_step e answers is all) did adds on still = by_step e answers did all adds on

    -- a turn in which nothing is placed
    pub turned : (added : List Event) → AreOfStep added → AreDriven drive old new added → Adds (seen_by drive new.drive) old new added
        → new.on ≡ on_after old added → (steps added ≡ 0 → new.drive ≡ old.drive) → IsSafeNow drive planned limits new
    turned added shape did adds on still =
        to_now old new (standings_go_on.stepped limits old new added fixed history on) (by_shape added shape did adds on still)

  -- ---- a session that drains

  module _ (old new : View D) (most who : ℕ) (answer : Drained) (safe : IsSafeNow drive planned limits old)
      (t : DrainsOnce most (seen_by drive old.drive) (seen_by drive new.drive) old new who answer) (did : AreDriven drive old new t.made)
      (trail : IsTrail new.events) (headed : HasHeaded old) where
    -- once the step is made
    abbrev mid : View D
    mid = record old {
      drive = new.drive;
      events = old.events ++ t.made;
      acks = old.acks ++ acks_for (drive.commands new.drive) t.made;
      on = new.on;
      ops = new.ops;
    }

    driven_by : (made : List Event) → AreDriven drive old new made → AreDriven drive old mid made
    driven_by [] d = d
    driven_by (Wants ticket place ∷ answers) d = d
    driven_by (Queues place ∷ answers) d = d
    driven_by (Syncs ticket ∷ answers) d = d
    driven_by (Synced ticket ∷ answers) d = d
    driven_by (Drains session ∷ answers) d = d
    driven_by (Rests session ∷ answers) d = d
    driven_by (Served ticket place fault ∷ answers) d = d
    driven_by (Worked place None ∷ answers) d = d
    driven_by (Worked place (Some told) ∷ answers) d = d

    joined : new.events ≡ (old.events ++ t.made) ++ rest_of who answer
    joined = t.adds.events ∙ sym (append_assoc old.events t.made (rest_of who answer))

    mid_safe : IsSafeNow drive planned limits mid
    mid_safe = turned old mid safe refl refl
        (trail_front start (old.events ++ t.made) (rest_of who answer) (subst (λ (es : List Event). is_trail_from start es ≡ true) joined trail)) headed
        t.made t.step.shape (driven_by t.made did) (record { events = refl; acks = refl }) t.step.on t.step.counts.still

    asks : IsAsked drive mid new [] (rest_of who answer)
    asks = record {
      fixed = t.fixed;
      drive_is = refl;
      on = refl;
      ops = sym (append-nil new.ops);
      adds = record {
        events = joined;
        acks = t.adds.acks ∙ ap (λ (l : List Ack). old.acks ++ l) (acks_append (drive.commands new.drive) t.made (rest_of who answer))
            ∙ sym (append_assoc old.acks (acks_for (drive.commands new.drive) t.made) (acks_for (drive.commands new.drive) (rest_of who answer)));
      };
    }

    unplaced : new.history ≡ old.history → AreQuiet (rest_of who answer) → IsSafeNow drive planned limits new
    unplaced history quiet =
        to_now mid new (same_standing limits mid new t.fixed refl history)
        ((submissions_are_safe drive only_now).unplaced planned (space_now limits mid) mid new (rest_of who answer) mid_safe asks history quiet)

quiet_rest : (who : ℕ) → AreQuiet (Rests who ∷ [])
quiet_rest who = All-cons (λ (e : Event). is_quiet e ≡ true) (Rests who) [] refl no_events

module _ {D : Type 0} (drive : Ghosts D)
    (only_now : (d : D) (image : Cartridge) → drive.commands d < 2 ^ 64 - 1 → drive.left_since d (drive.commands d) image → drive.leaves d image) where
  drained_safe : (planned : Planned) (limits : Limits) (old new : View D) (most who : ℕ) (answer : Drained) → IsSafeNow drive planned limits old
      → (t : DrainsOnce most (seen_by drive old.drive) (seen_by drive new.drive) old new who answer) → AreDriven drive old new t.made
      → IsTrail new.events → HasHeaded old → IsSafeNow drive planned limits new
  drained_safe planned limits old new most who drained.Room safe t did trail headed =
      unplaced drive only_now planned limits old new most who drained.Room safe t did trail headed t.answered.2.history (quiet_rest who)
  drained_safe planned limits old new most who drained.More safe t did trail headed =
      unplaced drive only_now planned limits old new most who drained.More safe t did trail headed t.answered.3.history no_events
  drained_safe planned limits old new most who (drained.Fault counts) safe t did trail headed =
      let placed = t.answered.1 in
      void_safe drive only_now planned limits (mid drive only_now planned limits old new most who (drained.Fault counts) safe t did trail headed) new placed.placed []
      (mid_safe drive only_now planned limits old new most who (drained.Fault counts) safe t did trail headed)
      (record { asks = asks drive only_now planned limits old new most who (drained.Fault counts) safe t did trail headed; history = placed.history })
      no_events placed.fate_is

  -- each turn of the head keeps a volume safe, by what it adds to the view
  pub turns_are_safe : TurnsAreSafe drive
  turns_are_safe = record {
    waiting = λ planned limits old new most who ticket answer safe t did trail headed.
        turned drive only_now planned limits old new safe t.fixed t.history trail headed t.added t.step.shape did t.adds t.step.on t.step.counts.still;
    draining = λ planned limits old new most who answer safe t did trail headed.
        drained_safe planned limits old new most who answer safe t did trail headed;
  }
