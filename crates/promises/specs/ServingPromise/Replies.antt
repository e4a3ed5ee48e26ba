-- What is replied to the placements of a volume that is served.
use Rattle.std.specs.Prelude.{◌≡◌, ◌⊎◌, ℕ, Bool, true, false, List, [], length, take, Contains, Option, Some, slice_get}
use Rattle.tape_types.specs.declared.cartridges.Twin.{Twin}
use Rattle.plain_tree.specs.Calls.{answer}
use Rattle.plain_tree.specs.History.{call_at, replay}
use Rattle.plain_tree.specs.Tree.{Tree}
use Rattle.plain_tree.specs.declared.calls.Call.{Call}
use Rattle.plain_tree.specs.declared.calls.Call.TheVariants.{Write, Read, Sync}
use Rattle.plain_tree.specs.declared.calls.Fate.{Fate}
use Rattle.plain_tree.specs.declared.calls.Fate.TheVariants as fates
use Rattle.plain_tree.specs.declared.calls.Placed.{Placed}
use Rattle.session_script.specs.declared.logs.Event.{Event}
use Rattle.session_script.specs.declared.logs.Reply.{Reply}
use Rattle.session_script.specs.declared.logs.Reply.TheVariants as replies
use Rattle.head_queue.specs.EventLaws.Trail as trail
use Rattle.head_queue.specs.EventLaws.Trail.{owned_by}
use Rattle.space_laws.specs.Space.{is_over}
use Rattle.space_laws.specs.Standing.{Given, rules, is_on, standing, asked, need_at, limit_at}

-- a call whose reply may need the head
abbrev pub may_wait : Call → Bool
may_wait (Read path offset count) = true
may_wait Sync = true
may_wait _ = false

abbrev pub is_write : Call → Bool
is_write (Write path offset bytes) = true
is_write _ = false

-- What is known of a place: the tree there, what the call there needs of the tape and what there is, and the faults
-- that the place owns, and those that its session owns.
pub record Facts : Type 0 where
  pub tree : Tree
  pub over : Bool
  pub need : ℕ
  pub limit : ℕ
  pub own : List Twin
  pub sessions : List Twin

-- it is a fault, and one of these
abbrev pub IsFaultOf : List Twin → Reply → Type 0
IsFaultOf faults reply = (counts : Twin) × Contains faults counts × (reply ≡ replies.Fault counts)

-- a call that is done is within its limit, and is answered as the tree answers it; or it is a read or a sync, and
-- owns the fault
pub record IsDoneReply (f : Facts) (call : Call) (reply : Reply) : Type 0 where
  pub within : f.over ≡ false
  pub answered : (reply ≡ replies.Answer (answer f.tree call)) ⊎ ((may_wait call ≡ true) × IsFaultOf f.own reply)

-- a void call found no memory; or it is over its limit, and is told what it needs and what there is; or it is a
-- write, and its session owns the fault
abbrev pub IsVoidReply : Facts → Call → Reply → Type 0
IsVoidReply f call reply =
    (reply ≡ replies.NoMemory)
    ⊎ ((f.over ≡ true) × (reply ≡ replies.Full f.need f.limit))
    ⊎ ((is_write call ≡ true) × IsFaultOf f.sessions reply)

abbrev pub IsReply : Fate → Facts → Call → Reply → Type 0
IsReply fates.Done f call reply = IsDoneReply f call reply
IsReply fates.Void f call reply = IsVoidReply f call reply

-- what is known of the placement at k
abbrev pub facts_at : Given → Option ℕ → List Placed → List Event → ℕ → Placed → Call → Facts
facts_at g on history events k p call = record {
  tree = replay g.calls g.tree (take k history);
  over = is_over (rules g) (is_on g.mounted on k) (standing g on history k).space (asked g on history k call p.at);
  need = need_at g on history k call p.at;
  limit = limit_at g on history k call p.at;
  own = owned_by (trail.of_call k) events;
  sessions = owned_by (trail.of_session p.who) events;
}

-- Each placement has its place among the replies, and each reply that is there is one that may come.
pub record AreReplies (g : Given) (on : Option ℕ) (history : List Placed) (events : List Event)
    (kept : List (Option Reply)) : Type 0 where
  pub count : length kept ≡ length history
  pub each : (k : ℕ) (p : Placed) (reply : Reply) → slice_get history k ≡ Some p → slice_get kept k ≡ Some (Some reply)
      → (call : Call) × (call_at g.calls p ≡ Some call)
      × IsReply p.fate (facts_at g on history events k p call) call reply

-- nothing in the history is over its limit where no head step fails
abbrev pub IsNeverOver : Given → Option ℕ → List Placed → Type 0
IsNeverOver g on history = (k : ℕ) (p : Placed) (call : Call) → slice_get history k ≡ Some p
    → (facts_at g on history [] k p call).over ≡ false
