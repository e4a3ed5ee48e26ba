-- Acknowledgements of syncs.
use Rattle.std.specs.Prelude.{◌≡◌, ◌≤◌, ◌^◌, ◌-◌, ◌+◌, ◌==◌, min, ℕ, Bool, true, false, List, map, filter_map, AllPairs}
use Rattle.std.specs.Prelude.{Contains, Option, Some, None}
use Rattle.std.specs.List.{enumerate_from, after_first}
use Rattle.plain_tree.specs.History.{Calls, call_at}
use Rattle.plain_tree.specs.declared.calls.Answer.TheVariants.{Synced}
use Rattle.plain_tree.specs.declared.calls.Call.{Call}
use Rattle.plain_tree.specs.declared.calls.Call.TheVariants.{Sync}
use Rattle.plain_tree.specs.declared.calls.Fate.{Fate}
use Rattle.plain_tree.specs.declared.calls.Fate.TheVariants as fates
use Rattle.plain_tree.specs.declared.calls.Placed.{Placed}
use Rattle.session_script.specs.declared.logs.Ack.{Ack}
use Rattle.session_script.specs.declared.logs.Event.{Event}
use Rattle.session_script.specs.declared.logs.Event.TheVariants as events
use Rattle.session_script.specs.declared.logs.Reply.{Reply}
use Rattle.session_script.specs.declared.logs.Reply.TheVariants as replies
use Rattle.head_queue.specs.EventLaws.Trail.{steps}

abbrev pub is_synced : Option Reply → Bool
is_synced (Some (replies.Answer Synced)) = true
is_synced _ = false

-- the places that were told that they are synced
abbrev pub synced_places : List (Option Reply) → List ℕ
synced_places kept = filter_map (λ e. by e.0 (is_synced e.1)) (enumerate_from 0 kept)
  where
    by : ℕ → Bool → Option ℕ
    by k true = Some k
    by k false = None

abbrev pub synced_ticket : Event → Option ℕ
synced_ticket (events.Synced ticket) = Some ticket
synced_ticket _ = None

-- There is one for each place that was told that it is synced, and no other; so say the events; and the numbers never
-- fall.
pub record AreAcks (trail : List Event) (kept : List (Option Reply)) (acks : List Ack) : Type 0 where
  pub places : map (λ a. a.place) acks ≡ synced_places kept
  pub events : map (λ a. a.place) acks ≡ filter_map synced_ticket trail
  pub rising : AllPairs (λ a b. a.command ≤ b.command) acks

abbrev pub answers : ℕ → Event → Bool
answers place (events.Synced ticket) = ticket == place
answers place _ = false

-- each is at most the count of commands, less one for each step since
abbrev pub AreReached : List Event → List Ack → ℕ → Type 0
AreReached events acks commands = (ack : Ack) → Contains acks ack
    → min (ack.command + steps (after_first (answers ack.place) events)) (2 ^ 64 - 1) ≤ commands

-- ---- which places the events sync

abbrev pub syncs_ticket : Event → Option ℕ
syncs_ticket (events.Syncs ticket) = Some ticket
syncs_ticket _ = None

-- the places of the syncs that are done
abbrev pub done_syncs : Calls → List Placed → List ℕ
done_syncs calls history = filter_map (λ e. by e.0 e.1.fate (call_at calls e.1)) (enumerate_from 0 history)
  where
    by : ℕ → Fate → Option Call → Option ℕ
    by k fates.Done (Some Sync) = Some k
    by k fate call = None

-- the events begin each sync that is done once, in order, and nothing else
abbrev pub AreSyncs : Calls → List Placed → List Event → Type 0
AreSyncs calls history events = filter_map syncs_ticket events ≡ done_syncs calls history
