-- Worked moments on which the definitions are tried.
use Rattle.std.specs.Prelude.{ℕ, List, [], ◌∷◌, ◌++◌, Option, Some, None}
use Rattle.tape_types.specs.declared.moments.Moment.{Moment}
use Rattle.plain_tree.specs.declared.calls.Fate.TheVariants as fates
use Rattle.session_script.specs.declared.logs.Event.{Event}
use Rattle.session_script.specs.declared.logs.Event.TheVariants.{Drains, Synced, Syncs, Worked}
use Rattle.session_script.specs.declared.logs.Reply.{Reply}
use Rattle.head_queue.specs.EventLaws.Rows.{dp, queues, twin}
use Rattle.head_queue.specs.EventLaws.Trail.{after_all}
use Rattle.head_queue.specs.EventLaws.Waiting.{State}
use Rattle.plain_tree.specs.declared.calls.Placed.{Placed}
use Rattle.session_script.specs.declared.logs.Ack.{Ack}
use Rattle.tape_layout.specs.declared.ops.Op.{Op}
use Rattle.tape_types.specs.declared.cartridges.Item.TheVariants as items
use Rattle.promises.specs.ServingPromise.Served.{Drive, IsOrderly, View}
use Rattle.promises.specs.OrderLaws.Kept.{IsKeptOrder}
use Rattle.promises.specs.ServingPromise.Trials.{done, placed, write}
use Rattle.promises.specs.ServingPromise.Turning.{before_flush, drive_at, holding, view}
use Rattle.promises.specs.ServingPromise.Marks.{mark}
use Rattle.promises.specs.declared.serving_promise.marks.MarkKind.{MarkKind}
use Rattle.promises.specs.declared.serving_promise.marks.Mark.{Mark}
use Rattle.promises.specs.declared.serving_promise.marks.MarkKind.TheVariants.{Places as places, Hands as hands, Begins as begins}
use Rattle.promises.specs.declared.serving_promise.marks.MarkKind.TheVariants.{Rests as rests}

-- the flush of a sync is done, and the sync answered
abbrev pub flushed : List Event
flushed = Worked (dp 11) None ∷ Synced 2 ∷ []

-- the state before it
abbrev pub to_flush : Moment → State
to_flush at = after_all (before_flush at).events

-- the first op of a sync that waits, and it fails with these counts
abbrev pub sync_stands : State
sync_stands = after_all (queues 7 5 ++ Syncs 2 ∷ [])

abbrev pub fails : ℕ → ℕ → List Event
fails before after = Worked (dp 7) (Some (twin before after)) ∷ []

-- the same where a session drains alone
abbrev pub session_drains : State
session_drains = after_all (queues 7 80 ++ Drains 1 ∷ [])

-- a sync that finds nothing to wait for
abbrev pub at_once : List Event
at_once = Syncs 0 ∷ Synced 0 ∷ []

-- the marks of a session that writes, has its reply, and drains, and three that no calls make
abbrev pub a_course : List MarkKind
a_course = places 0 ∷ hands 0 done ∷ begins ∷ rests ∷ places 1 ∷ []

abbrev pub hand_of_another : List MarkKind
hand_of_another = places 0 ∷ hands 1 done ∷ []

abbrev pub two_at_once : List MarkKind
two_at_once = places 0 ∷ places 1 ∷ []

abbrev pub drains_and_waits : List MarkKind
drains_and_waits = places 0 ∷ begins ∷ []

-- what is promised of a volume over a drive after 30 commands, and what is kept of it
abbrev pub still : Drive
still = drive_at 30 None

abbrev pub IsOrdered : View ℕ → Type 0
IsOrdered v = IsOrderly still still v

abbrev pub IsKept : View ℕ → Type 0
IsKept v = IsKeptOrder still still v

-- one session with one call, a write, that was placed and has its reply
abbrev pub served : Moment → View ℕ
served at = by (view at 30 (placed at 1 0 fates.Done ∷ []) (Some done ∷ []) [] [] served_marks None)
  where
    served_marks : List Mark
    served_marks = mark 1 (places 0) ∷ mark 1 (hands 0 done) ∷ []

    by : View ℕ → View ℕ
    by v = record v { fixed = record v.fixed { script = record { who = 1; call = write [] } ∷ [] } }

-- its call was placed, and has no reply at its place: neither there nor to come
abbrev pub without_reply : Moment → View ℕ
without_reply at = by (served at)
  where
    by : View ℕ → View ℕ
    by v = record v { replies = []; marks = mark 1 (places 0) ∷ [] }

-- the same volume but for its history, its replies, its events or its marks
abbrev pub with_history : List Placed → View ℕ → View ℕ
with_history history v = record v { history = history }

abbrev pub with_replies : List (Option Reply) → View ℕ → View ℕ
with_replies replies v = record v { replies = replies }

abbrev pub with_events : List Event → View ℕ → View ℕ
with_events events v = record v { events = events }

abbrev pub with_marks : List Mark → View ℕ → View ℕ
with_marks marks v = record v { marks = marks }

abbrev pub with_acks : List Ack → View ℕ → View ℕ
with_acks acks v = record v { acks = acks }

abbrev pub with_ops : List Op → View ℕ → View ℕ
with_ops ops v = record v { ops = ops }

-- a drive with fewer positions, and one that tells a cartridge
abbrev pub smaller : Drive
smaller = record (drive_at 30 None) { limits = record { cap_ip = 4; cap_dp = 4 } }

abbrev pub telling : Drive
telling = holding items.Mark
