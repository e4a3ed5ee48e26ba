-- Acks, faults, marks and texts of worked runs, and of runs that are damaged in one way.
use Rattle.std.specs.Prelude.{◌<◌, ◌==◌, Bool, true, false, ◌≡◌, ◌≢◌, [], ◌∷◌, ◌++◌, length, map, codes, decimal, get_or, Some, None, zero, suc, ℕ}
use Rattle.std.proofs.Common.{refl, arith, ap}
use Rattle.tape_types.specs.declared.moments.Moment.{Moment}
use Rattle.session_script.specs.declared.logs.Event.TheVariants.{Worked, Synced}
use Rattle.head_queue.specs.EventLaws.Trail.{of_call, of_session, owned_by}
use Rattle.head_queue.specs.EventLaws.Rows.{dp, twin, one_sync, failed_write, failed_drain, two_sessions}
use Rattle.head_queue.specs.EventLaws.Waiting.{with_flushes}
use Rattle.space_laws.specs.Space.{ops_of}
use Rattle.tape_layout.specs.Ops.{is_flush}
use Rattle.space_laws.specs.Trials.{after_asks, for_ip, places as places_in, short_index, small}
use Rattle.promises.specs.ServingPromise.Acks.{AreAcks, AreSyncs}
use Rattle.promises.specs.ServingPromise.Submits.{acks_for}
use Rattle.promises.specs.ServingPromise.Faults.{AreRises, told_at, told_to}
use Rattle.promises.specs.ServingPromise.Headline.{Closed, end_text, queued_before_flush}
use Rattle.promises.specs.ServingPromise.Marks.{phase, idle, waits, marks_of_submit, mark, places_of}
use Rattle.promises.specs.declared.serving_promise.marks.MarkKind.TheVariants.{Places as places}
use Rattle.promises.specs.ServingPromise.Served.{placed_by}
use Rattle.promises.specs.ServingPromise.Trials.{ack, done, four_done, sync_replies, fault_replies, fault_of_another, sync_marks, drain_marks, log_of, placed, fault, calls_of_one, read, write}
use Rattle.plain_tree.specs.declared.calls.Call.TheVariants.{Sync}
use Rattle.plain_tree.specs.declared.calls.Fate.TheVariants as fates
use Rattle.promises.specs.declared.serving_promise.answers.Submitted.TheVariants as submitted

-- the one sync of a run is acknowledged at its flush's command
pub acks_are : AreAcks one_sync (map Some sync_replies) (ack 2 34 ∷ [])
acks_are = record { places = refl; events = refl; rising = λ i j d less within. omega arith }

-- an acknowledgement of another place is wrong
pub ack_of_another_isnt : ¬ AreAcks one_sync (map Some sync_replies) (ack 3 34 ∷ [])
ack_of_another_isnt a = omega (arith, ap (λ xs. get_or xs 0 0) a.places)

-- a sync that was answered and has no acknowledgement is wrong
pub ack_missing_isnt : ¬ AreAcks one_sync (map Some sync_replies) []
ack_missing_isnt a = omega (arith, ap length a.places)

-- the ack that a call adds has the drive's count of commands as the call returns
pub ack_added : acks_for 34 (Worked (dp 11) None ∷ Synced 2 ∷ []) ≡ ack 2 34 ∷ []
ack_added = refl

-- an acknowledgement isn't told at the command before
pub ack_early_isnt : acks_for 34 (Worked (dp 11) None ∷ Synced 2 ∷ []) ≢ ack 2 33 ∷ []
ack_early_isnt e = omega (arith, ap (λ xs. get_or (map (λ a. a.command) xs) 0 0) e)

-- the fault of a write that a sync owns is told to it
pub told_of_fault : (at : Moment) → told_at (four_done at) (map Some fault_replies) 2 ≡ owned_by (of_call 2) failed_write
told_of_fault at = refl

-- replies that tell a fault to another call don't tell it to its owner
pub told_another : (at : Moment) → told_at (four_done at) (map Some fault_of_another) 2 ≢ owned_by (of_call 2) failed_write
told_another at e = omega (arith, ap length e)

-- one fault is one rise of the count
pub rises : AreRises 0 1 (twin 0 1 ∷ [])
rises = (omega arith, omega arith, omega arith)

-- one fault told twice isn't a rise of two
pub rises_twice_isnt : ¬ AreRises 0 2 (twin 0 1 ∷ twin 0 1 ∷ [])
rises_twice_isnt r = omega (arith, r.2.0)

-- a session whose sync was answered is idle
pub phases : phase 1 sync_marks ≡ idle
phases = refl

-- the places of a session's marks are those of its placements in the history
pub marks_of_history : (at : Moment) → places_of 1 sync_marks ≡ placed_by 1 (four_done at)
marks_of_history at = refl

-- a session that drained and then got its place is idle
pub drains_then_places : phase 1 drain_marks ≡ idle
drains_then_places = refl

-- a session whose ticket wasn't answered still waits
pub waits_still : phase 2 drain_marks ≡ waits 0
waits_still = refl

-- a submission that answers at once marks its placement and its hand-out
pub mark_missing_isnt : marks_of_submit 1 0 (submitted.Ready done) ≢ mark 1 (places 0) ∷ []
mark_missing_isnt e = omega (arith, ap length e)

-- the text at the end tells how the close ended, the steps and the travel
pub text_is : (at : Moment) → end_text (log_of at one_sync) (Closed 2) ≡ codes "closed " ++ (decimal 2 ++ (codes " " ++ (decimal 6 ++ (codes " " ++ (decimal 11 ++ codes "\n")))))
text_is at = refl

-- with two sessions five ops were queued before the flush
pub before_the_flush : queued_before_flush two_sessions ≡ 5
before_the_flush = refl

-- a drain's fault is its session's, and told by its void write
pub drain_told : (at : Moment) → told_to (placed at 1 0 fates.Void ∷ []) (Some (fault 0 1) ∷ []) 1 ≡ owned_by (of_session 1) failed_drain
drain_told at = refl

-- of a write that is done it isn't the session's
pub drain_told_done : (at : Moment) → told_to (placed at 1 0 fates.Done ∷ []) (Some (fault 0 1) ∷ []) 1 ≢ owned_by (of_session 1) failed_drain
drain_told_done at e = omega (arith, ap length e)

-- numbers that differ
differ : (a b : ℕ) → b < a → (a == b) ≡ false
differ a b less = by (a == b) refl
  where
    by : (is : Bool) → (a == b) ≡ is → (a == b) ≡ false
    by false e = e
    by true e = grind (arith, less, e)

-- every place and every session is told of just the faults that it owns
calls_told : (at : Moment) (k : ℕ) → told_at (four_done at) (map Some fault_replies) k ≡ owned_by (of_call k) failed_write
calls_told at zero = refl
calls_told at (suc zero) = refl
calls_told at (suc (suc zero)) = refl
calls_told at (suc (suc (suc zero))) = refl
calls_told at (suc (suc (suc (suc k)))) = rw (differ (suc (suc (suc (suc k)))) 2 (omega arith)) refl

-- each call is told just the faults that it owns
pub told_as_owned : (at : Moment) (k : ℕ) → told_at (four_done at) (map Some fault_replies) k ≡ owned_by (of_call k) failed_write
told_as_owned at k = calls_told at k

-- the flushes of a group are where the ops that are admitted have them
pub flushes_are : map (λ o. o.flush) (with_flushes (places_in (ops_of (small 4096) true (after_asks (small 4096) true (for_ip ∷ [])) short_index))) ≡ map is_flush (ops_of (small 4096) true (after_asks (small 4096) true (for_ip ∷ [])) short_index)
flushes_are = refl

-- a session's calls of which the third and the fourth are syncs
pub syncs_are : (at : Moment) → AreSyncs (calls_of_one (write [] ∷ write [] ∷ Sync ∷ Sync ∷ [])) (four_done at) failed_write
syncs_are at = refl

-- a sync of a call that is none
pub sync_of_read_isnt : (at : Moment) → ¬ AreSyncs (calls_of_one (write [] ∷ write [] ∷ read ∷ Sync ∷ [])) (four_done at) failed_write
sync_of_read_isnt at e = omega (arith, ap length e)
