-- What is replied to the placements of a history.
use Rattle.std.specs.Prelude.{◌≡◌, ℕ, List, length, take, Some, slice_get}
use Rattle.plain_tree.specs.declared.calls.Call.{Call}
use Rattle.plain_tree.specs.declared.calls.Placed.{Placed}
use Rattle.plain_tree.specs.declared.calls.Fate.{Fate}
use Rattle.plain_tree.specs.declared.calls.Fate.TheVariants as fates
use Rattle.plain_tree.specs.Calls.{answer}
use Rattle.plain_tree.specs.History.{Calls, call_at, replay}
use Rattle.plain_tree.specs.Tree.{Tree}
use Rattle.session_script.specs.declared.logs.Reply.{Reply}
use Rattle.session_script.specs.declared.logs.Reply.TheVariants as replies

-- which replies may come to a call of a history: at this place, to this placement, of this call
abbrev pub MayCome : Type 1
MayCome = List Placed → ℕ → Placed → Call → Reply → Type 0

-- Each placement has its reply, and that is one that may come.
pub record AreReplies (calls : Calls) (may_come : MayCome) (history : List Placed) (answered : List Reply)
    : Type 0 where
  pub count : length answered ≡ length history
  pub each : (place : ℕ) (p : Placed) (reply : Reply) → slice_get history place ≡ Some p
      → slice_get answered place ≡ Some reply
      → (call : Call) × (call_at calls p ≡ Some call) × may_come history place p call reply

-- a call that was done is answered as the tree answers it; one that found no memory is void
abbrev pub IsReply : Fate → Tree → Call → Reply → Type 0
IsReply fates.Done tree call reply = reply ≡ replies.Answer (answer tree call)
IsReply fates.Void tree call reply = reply ≡ replies.NoMemory

-- so it is at the plain tree that the placements before it leave
abbrev pub IsPlainReply : Calls → Tree → MayCome
IsPlainReply calls first history place p call reply =
    IsReply p.fate (replay calls first (take place history)) call reply
