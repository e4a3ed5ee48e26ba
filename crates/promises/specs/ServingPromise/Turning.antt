-- A volume before and after some of its calls, on which the definitions of these calls are tried.
use Rattle.std.specs.Prelude.{codes, ℕ, List, [], ◌∷◌, ◌++◌, Option, Some, None}
use Rattle.tape_types.specs.declared.cartridges.Item.{Item}
use Rattle.tape_types.specs.declared.cartridges.Place.{Place}
use Rattle.tape_types.specs.declared.moments.Moment.{Moment}
use Rattle.plain_tree.specs.declared.calls.Fate.TheVariants as fates
use Rattle.plain_tree.specs.declared.calls.Placed.{Placed}
use Rattle.plain_tree.specs.declared.calls.Call.{Call}
use Rattle.session_script.specs.declared.logs.Ack.{Ack}
use Rattle.session_script.specs.declared.logs.Event.{Event}
use Rattle.session_script.specs.declared.logs.Event.TheVariants.{Drains, Rests, Syncs, Synced, Worked}
use Rattle.session_script.specs.declared.logs.Reply.{Reply}
use Rattle.session_script.specs.declared.scripts.ScriptLine.{ScriptLine}
use Rattle.head_queue.specs.EventLaws.Rows.{dp, queues, twin, works}
use Rattle.promises.specs.ServingPromise.Marks.{mark}
use Rattle.promises.specs.declared.serving_promise.marks.MarkKind.TheVariants.{Places as places, Hands as hands, Begins as begins}
use Rattle.promises.specs.declared.serving_promise.marks.MarkKind.TheVariants.{Rests as rests}
use Rattle.promises.specs.declared.serving_promise.marks.Mark.{Mark}
use Rattle.promises.specs.ServingPromise.Served.{Drive, View}
use Rattle.promises.specs.ServingPromise.Trials.{ack, cartridge, mounted, done, fault, placed, synced, with_a, write}

-- a drive after so many commands, with its head here, that tells nothing
abbrev pub drive_at : ℕ → Option Place → Drive
drive_at commands head = record {
  held = None;
  head = head;
  limits = record { cap_ip = 64; cap_dp = 64 };
  commands = commands;
  faults = 0;
  leavings = record { now = λ image. Unit {0}; since = λ t image. Unit {0} };
}

-- the same drive once it has failed so often
abbrev pub faulted : ℕ → Drive → Drive
faulted faults drive = record drive { faults = faults }

-- a drive whose data partition is this item alone
abbrev pub holding : Item → Drive
holding item = record (drive_at 34 None) { held = Some record (cartridge 1) { dp = item ∷ [] } }

-- a volume over a drive that is seen as its count of commands
abbrev pub view : Moment → ℕ → List Placed → List (Option Reply) → List Ack → List Event → List Mark → Option ℕ → View ℕ
view at drive history answered acks events marks on = record {
  fixed = record { script = []; tree = with_a at []; mounted = mounted at; first = 0; moment = Some at; since = 0 };
  drive = drive;
  next = Some at;
  history = history;
  replies = answered;
  acks = acks;
  events = events;
  marks = marks;
  kept = [];
  on = on;
  ops = [];
  cached = [];
}

abbrev pub three_done : Moment → List Placed
three_done at = placed at 1 0 fates.Done ∷ placed at 1 1 fates.Done ∷ placed at 1 2 fates.Done ∷ []

abbrev pub waiting_marks : List Mark
waiting_marks = mark 1 (places 0) ∷ mark 1 (hands 0 done) ∷ mark 1 (places 1) ∷ mark 1 (hands 1 done)
    ∷ mark 1 (places 2) ∷ []

-- all ops of a sync are done but its flush
abbrev pub before_flush : Moment → View ℕ
before_flush at = view at 33 (three_done at) (Some done ∷ Some done ∷ None ∷ []) []
    (queues 7 5 ++ Syncs 2 ∷ works 7 4) waiting_marks None

-- the flush is done, and the sync is answered with an ack of this number; these marks stand then, and placement on
-- the index partition is on from here on
abbrev pub after_flush : Moment → ℕ → List Mark → Option ℕ → View ℕ
after_flush at command marks on =
    view at 34 (three_done at) (Some done ∷ Some done ∷ Some synced ∷ []) (ack 2 command ∷ [])
    ((queues 7 5 ++ Syncs 2 ∷ works 7 4) ++ Worked (dp 11) None ∷ Synced 2 ∷ []) marks on

abbrev pub handed_marks : List Mark
handed_marks = waiting_marks ++ mark 1 (hands 2 synced) ∷ []

-- a session drains while 65 ops stand
abbrev pub draining_view : Moment → View ℕ
draining_view at = view at 30 [] [] [] (queues 7 80 ++ Drains 1 ∷ works 7 15) (mark 1 begins ∷ []) None

-- one op more was done, and it rests
abbrev pub rested_view : Moment → View ℕ
rested_view at = view at 32 [] [] [] ((queues 7 80 ++ Drains 1 ∷ works 7 15) ++ Worked (dp 22) None ∷ Rests 1 ∷ [])
    (mark 1 begins ∷ mark 1 rests ∷ []) None

-- a sync waits while another session drains, and 80 ops stand
abbrev pub both_view : Moment → View ℕ
both_view at = view at 30 (three_done at) (Some done ∷ Some done ∷ None ∷ []) []
    (queues 7 80 ++ Syncs 2 ∷ Drains 2 ∷ []) (waiting_marks ++ mark 2 begins ∷ []) None

-- an op failed in the session's turn, and the sync is told of it; the first place has this reply then
abbrev pub sync_failed_view : Moment → Reply → View ℕ
sync_failed_view at reply = view at 32 (three_done at) (Some reply ∷ Some done ∷ Some (fault 0 1) ∷ []) []
    ((queues 7 80 ++ Syncs 2 ∷ Drains 2 ∷ []) ++ Worked (dp 7) (Some (twin 0 1)) ∷ [])
    (waiting_marks ++ mark 2 begins ∷ []) None

-- a session whose third call is a sync or another, after a create and a write
abbrev pub before_third : Moment → Call → View ℕ
before_third at third = with_script
    (view at 30 (two_done at) (Some done ∷ Some done ∷ []) [] (queues 7 1) two_handed None)
  where
    two_done : Moment → List Placed
    two_done at = placed at 1 0 fates.Done ∷ placed at 1 1 fates.Done ∷ []

    two_handed : List Mark
    two_handed = mark 1 (places 0) ∷ mark 1 (hands 0 done) ∷ mark 1 (places 1) ∷ mark 1 (hands 1 done) ∷ []

    with_script : View ℕ → View ℕ
    with_script v = record v { fixed = record v.fixed { script = calls } }
      where
        calls : List ScriptLine
        calls = record { who = 1; call = write [] } ∷ record { who = 1; call = write (codes "hello") }
            ∷ record { who = 1; call = third } ∷ []

-- it is placed and waits, with these events
abbrev pub placed_third : Moment → Call → List Event → View ℕ
placed_third at third added = by (before_third at third)
  where
    by : View ℕ → View ℕ
    by v = record v {
      history = v.history ++ placed at 1 2 fates.Done ∷ [];
      replies = v.replies ++ None ∷ [];
      events = v.events ++ added;
      marks = v.marks ++ mark 1 (places 2) ∷ [];
    }

-- what the sync adds, and the same in another order
abbrev pub sync_added : List Event
sync_added = queues 8 4 ++ Syncs 2 ∷ []

abbrev pub syncs_first : List Event
syncs_first = Syncs 2 ∷ queues 8 4

-- one session with one call, a write, and so many ops that stand
abbrev pub before_write : Moment → ℕ → View ℕ
before_write at count = with_script (view at 30 [] [] [] (queues 7 count) [] None)
  where
    with_script : View ℕ → View ℕ
    with_script v = record v
        { fixed = record v.fixed { script = record { who = 1; call = write (codes "hello") } ∷ [] } }

-- the session drains
abbrev pub put_off : View ℕ → View ℕ
put_off v = record v { events = v.events ++ Drains 1 ∷ []; marks = v.marks ++ mark 1 begins ∷ [] }
