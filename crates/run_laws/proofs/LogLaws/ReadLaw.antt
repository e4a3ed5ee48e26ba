-- Blocks are asked for by reads that are done, over each call and any drive.
use Rattle.std.specs.Prelude.{◌≡◌, ℕ, true, List, [], ◌∷◌, ◌++◌, filter_map, length}
use Rattle.std.specs.Prelude.{Contains, Option, Some, None, slice_get}
use Rattle.std.proofs.Common.{refl, ap, ◌∙◌, subst}
use Rattle.std.proofs.lemmas.List.Elements.{filter_map-append}
use Rattle.tape_types.proofs.LongerLists.{slice_get-seam}
use Rattle.tape_types.specs.declared.cartridges.Place.{Place}
use Rattle.plain_tree.specs.History.{call_at}
use Rattle.plain_tree.specs.declared.calls.Call.{Call}
use Rattle.plain_tree.specs.declared.calls.Call.TheVariants.{Read, Sync, Write}
use Rattle.plain_tree.specs.declared.calls.Fate.TheVariants as fates
use Rattle.plain_tree.specs.declared.calls.Placed.{Placed}
use Rattle.session_script.specs.declared.logs.Event.{Event}
use Rattle.session_script.specs.declared.logs.Event.TheVariants as events
use Rattle.head_queue.specs.EventLaws.Trail.{after_all}
use Rattle.head_queue.specs.EventLaws.Waiting.{Op, ops}
use Rattle.space_laws.specs.Standing.{Given}
use Rattle.promises.specs.ServingPromise.Asking.{AreOfReads, is_read, want_of}
use Rattle.promises.specs.ServingPromise.Cached.{wanted}
use Rattle.promises.specs.ServingPromise.Submits.{IsOfDone, queues_at, synced_at}
use Rattle.promises.proofs.ReplyLaws.AskLaws.{none_of}
use Rattle.promises.proofs.ReplyLaws.Asked.{GoesTo, goes_next, of_reads_on}
use Rattle.promises.proofs.ReplyLaws.Blocks.{pair_back, queues_want, synced_want, wants_here}
use Rattle.promises.proofs.ReplyLaws.Lists.{picks_none}
use Rattle.promises.proofs.ReplyLaws.Places.{agree_always}

-- a call that is done and asks for a block is a read

sync_wants : (here : ℕ) (places : List Place) (stand : List Op)
    → filter_map want_of (queues_at places ++ events.Syncs here ∷ synced_at here stand) ≡ []
sync_wants here places stand =
    filter_map-append want_of (queues_at places) (events.Syncs here ∷ synced_at here stand)
    ∙ ap (λ xs. xs ++ filter_map want_of (events.Syncs here ∷ synced_at here stand))
    (queues_want want_of (λ place. refl) places)
    ∙ picks_none want_of (events.Syncs here) (synced_at here stand) refl
    ∙ synced_want want_of (λ ticket. refl) here stand

read_asks : (here : ℕ) (before : List Event) (call : Option Call) (added : List Event)
    → IsOfDone here before call added → (ticket : ℕ) (place : Place)
    → Contains (filter_map want_of added) (ticket, place) → is_read call ≡ true
read_asks here before None added is ticket place has =
    absurd (none_of (filter_map want_of added) (ticket, place) (ap (filter_map want_of) is) has)
read_asks here before (Some Sync) added is ticket place has =
    absurd (none_of (filter_map want_of added) (ticket, place)
    (ap (filter_map want_of) is.1 ∙ sync_wants here is.0 (ops (after_all (before ++ queues_at is.0)))) has)
read_asks here before (Some (Read path offset count)) added is ticket place has = refl
read_asks here before (Some (Write path offset bytes)) added is ticket place has =
    absurd (none_of (filter_map want_of added) (ticket, place)
    (ap (filter_map want_of) is.1 ∙ queues_want want_of (λ place. refl) is.0) has)
read_asks here before (Some _) added is ticket place has =
    absurd (none_of (filter_map want_of added) (ticket, place) (ap (filter_map want_of) is) has)

-- a placement that is done
pub reads_next : (g : Given) (history : List Placed) (p : Placed) (before added : List Event) (call : Option Call)
    → p.fate ≡ fates.Done → call_at g.calls p ≡ call → IsOfDone (length history) before call added
    → AreOfReads g.calls history before → AreOfReads g.calls (history ++ p ∷ []) (before ++ added)
reads_next g history p before added call done call_is of_it are =
    of_reads_on g None None history (history ++ p ∷ []) (λ k q. (k ≡ length history) × (p ≡ q)) before added
    (goes_next history p) (agree_always g.mounted None (length history)) are more
  where
    more : (ticket : ℕ) (place : Place) → Contains (filter_map want_of added) (ticket, place) → (q : Placed)
        × (slice_get (history ++ p ∷ []) ticket ≡ Some q) × (q.fate ≡ fates.Done)
        × (is_read (call_at g.calls q) ≡ true)
    more ticket place has =
        let here = pair_back (length history) (filter_map wanted added) ticket place
        (subst (λ ws. Contains ws (ticket, place)) (wants_here (length history) before call added of_it) has) in (
          p,
          ap (slice_get (history ++ p ∷ [])) here.0 ∙ slice_get-seam history p,
          done,
          ap is_read call_is
              ∙ read_asks (length history) before call added of_it ticket place has,
        )

-- events that ask for nothing
pub reads_stay : {history later : List Placed} {Next : ℕ → Placed → Type 0} (g : Given) (before added : List Event)
    → GoesTo history later Next → filter_map want_of added ≡ []
    → AreOfReads g.calls history before → AreOfReads g.calls later (before ++ added)
reads_stay {history} {later} {Next} g before added goes quiet are =
    of_reads_on g None None history later Next before added goes (agree_always g.mounted None (length history)) are
    (λ ticket place has. absurd (none_of (filter_map want_of added) (ticket, place) quiet has))
