-- What a call asks that neither waits nor only looks, and what it is answered.
use Rattle.std.proofs.Common.{◌≡◌, ℕ, ◌<◌, Bool, false, List, [], ◌∷◌, length, map, filter_map, Option, Some, None, IfSome, refl, ap, ◌∙◌, arith, length-append}
use Rattle.std.specs.List.{list_any}
use Rattle.tape_types.specs.declared.cartridges.Part.TheVariants.{Dp}
use Rattle.tape_types.specs.declared.cartridges.Place.{Place}
use Rattle.tape_types.specs.declared.moments.Moment.{Moment}
use Rattle.plain_tree.specs.Calls.{answer, answer_unless}
use Rattle.plain_tree.specs.Refusals.{refusal_of}
use Rattle.plain_tree.specs.Tree.{Tree}
use Rattle.plain_tree.specs.declared.calls.Answer.TheVariants as the_answers
use Rattle.plain_tree.specs.declared.calls.Call.{Call}
use Rattle.plain_tree.specs.declared.calls.Call.TheVariants.{Getx, Listing, Read, Stat, Sync, Write}
use Rattle.plain_tree.specs.declared.calls.Refusal.{Refusal}
use Rattle.session_script.specs.declared.logs.Event.{Event}
use Rattle.tape_layout.specs.Ops.{place_of}
use Rattle.tape_layout.specs.declared.ops.Op.{Op}
use Rattle.space_laws.proofs.PlainAsks.{of_call, of_other}
use Rattle.space_laws.specs.Space.{Ask, Rules, Space, change, index, nothing, ops_of, store}
use Rattle.space_laws.specs.Space as space
use Rattle.space_laws.specs.Standing.{Given, Standing, ask_of}
use Rattle.promises.specs.ServingPromise.Acks.{answers, synced_ticket}
use Rattle.promises.specs.ServingPromise.Replies.{may_wait}
use Rattle.promises.specs.ServingPromise.Served.{queued}
use Rattle.promises.specs.ServingPromise.Cached.{wanted}
use Rattle.promises.specs.ServingPromise.Submits.{Asks, IsOfDone, queues_at}
use Rattle.block_cache.specs.Kept.{Kept}
use Rattle.promises.specs.CrashLaws.Laws.{AsksNoIndex}
use Rattle.promises.specs.CrashLaws.Safe.{items_by}
use Rattle.volume_state.specs.PlanLaws.Planned.{Items, with_ops}
use Rattle.volume_state.specs.StateLaws.Placing.{only_looks}

-- ---- the events of ops

-- what the events of some places queue is at these places
pub queues_queued : (places : List Place) → filter_map queued (queues_at places) ≡ places
queues_queued [] = refl
queues_queued (p ∷ places) = ap (λ (l : List Place). p ∷ l) (queues_queued places)

-- ops that are queued ask for no block
pub queues_want_none : (places : List Place) → filter_map wanted (queues_at places) ≡ []
queues_want_none [] = refl
queues_want_none (p ∷ places) = queues_want_none places

-- ops that are queued answer no sync
pub queues_answer_none : (places : List Place) → filter_map synced_ticket (queues_at places) ≡ []
queues_answer_none [] = refl
queues_answer_none (p ∷ places) = queues_answer_none places

-- ops that are queued answer nobody
pub queues_unanswered : (here : ℕ) (places : List Place) → list_any (answers here) (queues_at places) ≡ false
queues_unanswered here [] = refl
queues_unanswered here (p ∷ places) = queues_unanswered here places

-- ---- what is asked

-- a call that never waits asks for no index
pub no_index : (g : Given) (st : Standing) (call : Call) (at : Moment) → may_wait call ≡ false → AsksNoIndex (ask_of g st call at)
no_index g st Sync at e = absurd (cc e)
no_index g st call at e = of_other AsksNoIndex tt tt (λ wanted bytes. tt) g st call at refl

-- only a write has ops, where no index is asked
module _ (v : Rules) (on : Bool) (s : Space) where
  -- the events of a call are those of its ops
  pub of_done : (here : ℕ) (before : List Event) (g : Given) (st : Standing) (call : Call) (at : Moment) (asked : List Op) → may_wait call ≡ false
      → asked ≡ ops_of v on s (ask_of g st call at) → IsOfDone here before (Some call) (queues_at (map place_of asked))
  of_done here before g st (Write path offset bytes) at asked e is = (map place_of asked, refl)
  of_done here before g st (Read path offset count) at asked e is = absurd (cc e)
  of_done here before g st Sync at asked e is = absurd (cc e)
  of_done here before g st call at asked e is = ap (λ (l : List Op). queues_at (map place_of l))
      (is ∙ of_call (λ (ask : Ask). ops_of v on s ask ≡ []) refl refl g st call at refl)

-- such a call asks for no block
pub asks_none : (st : Standing) (before added : List Event) (cached next : List Kept) (call : Call) → may_wait call ≡ false → filter_map wanted added ≡ [] → next ≡ cached
    → Asks st before added cached next (Some call)
asks_none st before added cached next (Read path offset count) e none same = absurd (cc e)
asks_none st before added cached next _ e none same = (none, same)

-- ---- what it is answered

is_done : (r : Option Refusal) → r ≡ None → answer_unless r the_answers.Done ≡ the_answers.Done
is_done r free = ap (λ o. answer_unless o the_answers.Done) free

-- a call that changes the tree and isn't refused is answered that it is done
pub done_answer : (tree : Tree) (call : Call) → may_wait call ≡ false → only_looks call ≡ false → refusal_of tree call ≡ None
    → answer tree call ≡ the_answers.Done
done_answer tree (Read path offset count) waits looks free = absurd (cc waits)
done_answer tree Sync waits looks free = absurd (cc waits)
done_answer tree (Listing path) waits looks free = absurd (cc looks)
done_answer tree (Stat path) waits looks free = absurd (cc looks)
done_answer tree (Getx path key) waits looks free = absurd (cc looks)
done_answer tree call waits looks free = is_done (refusal_of tree call) free

-- ---- the last index stays before the end

-- what stands before the end of the data partition does so with more ops
pub still_before : (o : Option ℕ) (planned : Items) (asked : List Op) → IfSome o (λ pos. pos < length (planned Dp))
    → IfSome o (λ pos. pos < length (with_ops asked planned Dp))
still_before None planned asked is = tt
still_before (Some pos) planned asked is = omega (arith, is, length-append (planned Dp) (items_by Dp asked))

-- the last index stands before the end behind a call that asks for none
pub last_before : (v : Rules) (on : Bool) (s : Space) (ask : Ask) (planned : Items) (asked : List Op) → AsksNoIndex ask
    → IfSome s.last_dp (λ pos. pos < length (planned Dp)) → IfSome (space.after v on s ask).last_dp (λ pos. pos < length (with_ops asked planned Dp))
last_before v on s nothing planned asked none is = still_before s.last_dp planned asked is
last_before v on s change planned asked none is = still_before s.last_dp planned asked is
last_before v on s (store wanted bytes) planned asked none is = still_before s.last_dp planned asked is
last_before v on s (index text) planned asked none is = absurd none
