-- Syncs that wait, or are answered at once.
use Rattle.std.specs.Prelude.{ℕ, ◌≡◌, ◌≤◌, true, List, [], ◌∷◌, ◌++◌, length, Option, Some, None}
use Rattle.std.proofs.Common.{refl, sym, ap, subst, ◌∙◌, arith, append_assoc, append-nil}
use Rattle.tape_types.specs.declared.moments.Moment.{Moment}
use Rattle.plain_tree.specs.declared.calls.Fate.TheVariants as fates
use Rattle.session_script.specs.declared.logs.Ack.{Ack}
use Rattle.session_script.specs.declared.logs.Event.{Event}
use Rattle.session_script.specs.declared.logs.Event.TheVariants as the_events
use Rattle.session_script.specs.declared.logs.Reply.{Reply}
use Rattle.head_queue.specs.EventLaws.Trail.{IsTrail, after, after_all, allows}
use Rattle.head_queue.specs.EventLaws.Waiting as waiting
use Rattle.tape_drive.specs.declared.drive.Drive.{Ghosts}
use Rattle.tape_layout.specs.declared.ops.Op.{Op}
use Rattle.promises.specs.ServingPromise.Submits.{synced_at}
use Rattle.promises.specs.declared.serving_promise.answers.Submitted.{Submitted}
use Rattle.promises.specs.declared.serving_promise.answers.Submitted.TheVariants as submitted
use Rattle.event_journal.specs.Trails.{Journaled, due_ticket, state}
use Rattle.volume_state.specs.StateLaws.Parts.{Parts}
use Rattle.volume_state.specs.StateLaws.Placing.{PlacesCall, synced_here, synced_reply}
use Rattle.volume_state.specs.StateLaws.Stepping.{acks_at}
use Rattle.volume_state.specs.CallLaws.SubmitLaws.{synced_answer}
use Rattle.volume_core.specs.VolumeSteps.Asking.{AnswersSync, Awaits, CanAsk, WaitsSynced}
use Rattle.volume_core.proofs.VolumeSteps.QueueLemmas.{after_one, none_is_due}
use Rattle.volume_core.proofs.VolumeSteps.SyncedLemmas.{sync_done, sync_due, sync_waits}

-- where no sync is due one may begin
pub may_sync : (st : waiting.State) (here : ℕ) → due_ticket st ≡ None → allows st (the_events.Syncs here) ≡ true
may_sync st here none = rw (none_is_due st none) refl

-- a list by its length
none_by : {X : Type 0} (xs : List X) → length xs ≡ 0 → xs ≡ []
none_by [] is = refl
none_by (x ∷ xs) is = absurd (omega (arith, is))

some_at : (here : ℕ) (ops : List waiting.Op) → 1 ≤ length ops → synced_at here ops ≡ []
some_at here [] some = absurd (omega (arith, some))
some_at here (op ∷ later) some = refl

some_here : (here : ℕ) (ops : List Op) → 1 ≤ length ops → synced_here here ops ≡ []
some_here here [] some = absurd (omega (arith, some))
some_here here (op ∷ later) some = refl

some_reply : (ops : List Op) → 1 ≤ length ops → synced_reply ops ≡ None
some_reply [] some = absurd (omega (arith, some))
some_reply (op ∷ later) some = refl

some_answer : (here : ℕ) (ops : List Op) → 1 ≤ length ops → synced_answer here ops ≡ submitted.Wait here
some_answer here [] some = absurd (omega (arith, some))
some_answer here (op ∷ later) some = refl

-- the sync that was placed is due where no op stands
pub due_now : (here : ℕ) (old mid : Journaled) → length (waiting.ops (state old)) ≡ 0 → due_ticket (state old) ≡ None
    → mid.events ≡ old.events ++ the_events.Syncs here ∷ [] → due_ticket (state mid) ≡ Some here
due_now here old mid none due events =
    ap (λ (es : List Event). due_ticket (after_all es)) events ∙ ap due_ticket (after_one old.events (the_events.Syncs here))
    ∙ sync_due old.events here none due

-- a sync for which no op stands is answered at once
pub answered_now : {D : Type 0} (drive : Ghosts D) (who nth : ℕ) (at : Moment) (here : ℕ) (result : Submitted) (trail : Journaled)
    (old new : Parts D) → CanAsk who old → length (waiting.ops (state old.trail)) ≡ length old.stock.layout.ops
    → length old.stock.layout.ops ≡ 0 → here ≡ length old.listed.history
    → trail.events ≡ old.trail.events ++ the_events.Syncs here ∷ [] → trail.acks ≡ old.trail.acks → trail.kept ≡ old.trail.kept
    → AnswersSync drive who nth at here result (record old { trail = trail }) new
    → WaitsSynced drive who nth at result old new
answered_now drive who nth at here result trail old new can same none here_is events acks kept a =
    let place : ℕ = length old.listed.history in
    let no_ops : old.stock.layout.ops ≡ [] = none_by old.stock.layout.ops none in
    let none_wait : length (waiting.ops (state old.trail)) ≡ 0 = same ∙ none in
    let no_waiting : waiting.ops (state old.trail) ≡ [] = none_by (waiting.ops (state old.trail)) none_wait in
    let es = old.trail.events in
    let all : new.trail.events ≡ es ++ the_events.Syncs here ∷ the_events.Synced here ∷ [] =
    a.events ∙ ap (λ (l : List Event). l ++ the_events.Synced here ∷ []) events
    ∙ append_assoc es (the_events.Syncs here ∷ []) (the_events.Synced here ∷ []) in
    record {
      result_is = a.ready ∙ ap (λ (os : List Op). synced_answer place os) (sym no_ops);
      events = all ∙ ap (λ k. es ++ the_events.Syncs k ∷ the_events.Synced k ∷ []) here_is
          ∙ ap (λ (os : List waiting.Op). es ++ the_events.Syncs place ∷ synced_at place os) (sym no_waiting);
      acks = a.acks ∙ ap (λ (l : List Ack). l ++ record { place = here; command = drive.commands old.drive } ∷ []) acks
          ∙ ap (λ k. old.trail.acks ++ acks_at (drive.commands old.drive) (k ∷ [])) here_is
          ∙ ap (λ (os : List Op). old.trail.acks ++ acks_at (drive.commands old.drive) (synced_here place os)) (sym no_ops);
      kept = a.kept ∙ kept;
      trail = a.trail;
      none_due = ap (λ (l : List Event). due_ticket (after_all l)) (a.events ∙ ap (λ (l : List Event). l ++ the_events.Synced here ∷ []) events)
          ∙ ap due_ticket (after_one (es ++ the_events.Syncs here ∷ []) (the_events.Synced here)
          ∙ ap (λ (st : waiting.State). after st (the_events.Synced here)) (after_one es (the_events.Syncs here)))
          ∙ sync_done es here none_wait can.none_due;
      places = subst (λ (r : Option Reply). PlacesCall who nth at fates.Done r old new)
          (ap synced_reply (sym no_ops))
          (record {
            history = a.places.history;
            replies = a.places.replies;
            marks = a.places.marks;
            calls = a.places.calls;
            sessions = a.places.sessions;
          });
      others = a.others;
    }

-- a sync for which ops stand waits
pub waits_on : {D : Type 0} (drive : Ghosts D) (who nth : ℕ) (at : Moment) (here : ℕ) (result : Submitted) (trail : Journaled)
    (old new : Parts D) → CanAsk who old → length (waiting.ops (state old.trail)) ≡ length old.stock.layout.ops
    → 1 ≤ length old.stock.layout.ops → here ≡ length old.listed.history
    → trail.events ≡ old.trail.events ++ the_events.Syncs here ∷ [] → trail.acks ≡ old.trail.acks → trail.kept ≡ old.trail.kept
    → IsTrail trail.events → Awaits who nth at result (record old { trail = trail }) new
    → WaitsSynced drive who nth at result old new
waits_on drive who nth at here result trail old new can same some here_is events acks kept is_trail a =
    let place : ℕ = length old.listed.history in
    let ops : List Op = old.stock.layout.ops in
    let stand : 1 ≤ length (waiting.ops (state old.trail)) = omega (arith, same, some) in
    let es = old.trail.events in
    let now : new.trail ≡ trail = ap (λ (p : Parts _). p.trail) a.others in
    record {
      result_is = a.waits ∙ sym (some_answer place ops some);
      events = ap (λ (t : Journaled). t.events) now ∙ events ∙ ap (λ k. es ++ the_events.Syncs k ∷ []) here_is
          ∙ ap (λ (more : List Event). es ++ the_events.Syncs place ∷ more) (sym (some_at place (waiting.ops (state old.trail)) stand));
      acks = ap (λ (t : Journaled). t.acks) now ∙ acks ∙ sym (append-nil old.trail.acks)
          ∙ ap (λ (tickets : List ℕ). old.trail.acks ++ acks_at (drive.commands old.drive) tickets) (sym (some_here place ops some));
      kept = ap (λ (t : Journaled). t.kept) now ∙ kept;
      trail = subst (λ (t : Journaled). IsTrail t.events) (sym now) is_trail;
      none_due = ap (λ (t : Journaled). due_ticket (state t)) now ∙ ap (λ (l : List Event). due_ticket (after_all l)) events
          ∙ ap due_ticket (after_one es (the_events.Syncs here)) ∙ sync_waits (state old.trail) here stand can.none_due;
      places = subst (λ (r : Option Reply). PlacesCall who nth at fates.Done r old new) (sym (some_reply ops some))
          (record {
            history = a.places.history;
            replies = a.places.replies;
            marks = a.places.marks;
            calls = a.places.calls;
            sessions = a.places.sessions;
          });
      others = a.others ∙ ap (λ (t : Journaled). record old { listed = new.listed; trail = t }) (sym now);
    }
