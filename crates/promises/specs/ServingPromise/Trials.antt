-- Replies, acks and marks of worked runs, on which the definitions are tried.
use Rattle.std.specs.Prelude.{◌≡◌, ◌≤◌, ◌<◌, ◌⊎◌, ℕ, true, false, List, [], ◌∷◌, ◌++◌, ◌==◌, cond, map, replicate}
use Rattle.std.specs.Prelude.{codes, Some, None}
use Rattle.std.specs.FinMap as fin
use Rattle.tape_types.specs.declared.moments.Moment.{Moment}
use Rattle.plain_tree.specs.History.{Calls}
use Rattle.plain_tree.specs.Tree.{Tree, new_node}
use Rattle.plain_tree.specs.declared.nodes.Kind.TheVariants as kinds
use Rattle.plain_tree.specs.declared.calls.Answer.TheVariants as answers
use Rattle.plain_tree.specs.declared.calls.Call.{Call}
use Rattle.plain_tree.specs.declared.calls.Call.TheVariants.{Write, Read}
use Rattle.plain_tree.specs.declared.calls.LockState.TheVariants as locks
use Rattle.plain_tree.specs.declared.calls.Fate.{Fate}
use Rattle.plain_tree.specs.declared.calls.Fate.TheVariants as fates
use Rattle.plain_tree.specs.declared.calls.Placed.{Placed}
use Rattle.session_script.specs.declared.logs.Ack.{Ack}
use Rattle.session_script.specs.declared.logs.Event.{Event}
use Rattle.session_script.specs.declared.logs.Event.TheVariants as events
use Rattle.session_script.specs.declared.logs.Log.{Log}
use Rattle.session_script.specs.declared.logs.Reply.{Reply}
use Rattle.session_script.specs.declared.logs.Reply.TheVariants as replies
use Rattle.head_queue.specs.EventLaws.Rows.{queues, twin, works}
use Rattle.cartridge_meaning.specs.Carried.{Carried}
use Rattle.cartridge_meaning.specs.declared.mounted.Mounted.{Mounted}
use Rattle.space_laws.specs.Mount.{MountFacts}
use Rattle.tape_types.specs.declared.cartridges.Part.TheVariants.{Dp}
use Rattle.space_laws.specs.Standing.{Given}
use Rattle.space_laws.specs.Trials.{empty_volume}
use Rattle.tape_types.specs.declared.cartridges.Cartridge.{Cartridge}
use Rattle.tape_types.specs.declared.cartridges.Note.TheVariants.{Absent}
use Rattle.promises.specs.ServingPromise.Crash.{Meaning, Leavings}
use Rattle.promises.specs.ServingPromise.Marks.{mark}
use Rattle.promises.specs.declared.serving_promise.marks.MarkKind.TheVariants.{Places as places, Hands as hands, Begins as begins}
use Rattle.promises.specs.declared.serving_promise.marks.MarkKind.TheVariants.{Rests as rests}
use Rattle.promises.specs.declared.serving_promise.marks.Mark.{Mark}
use Rattle.promises.specs.ServingPromise.Replies.{Facts}

-- the path of the one file, and a tree with this file in the root
abbrev pub path : List (List ℕ)
path = codes "a" ∷ []

abbrev pub with_a : Moment → List ℕ → Tree
with_a at bytes = record {
  highest = 2;
  lock = locks.Absent;
  nodes = fin.insert (fin.insert fin.empty [] (new_node kinds.Dir 1 at)) path
      (new_node (kinds.File (map Some bytes)) 2 at);
}

abbrev pub write : List ℕ → Call
write bytes = Write path 0 bytes

abbrev pub read : Call
read = Read path 0 5

-- what is known of a place where nothing is over its limit and no fault is owned
abbrev pub calm : Tree → Facts
calm tree = record { tree = tree; over = false; need = 0; limit = 0; own = []; sessions = [] }

-- where so much is needed and there is less
abbrev pub over : Tree → ℕ → ℕ → Facts
over tree need limit = record (calm tree) { over = true; need = need; limit = limit }

abbrev pub fault : ℕ → ℕ → Reply
fault before after = replies.Fault (twin before after)

abbrev pub done : Reply
done = replies.Answer answers.Done

abbrev pub synced : Reply
synced = replies.Answer answers.Synced

abbrev pub got : List ℕ → Reply
got bytes = replies.Answer (answers.Got bytes)

-- one session's placements, of these fates
abbrev pub placed : Moment → ℕ → ℕ → Fate → Placed
placed at who nth fate = record { who = who; nth = nth; at = at; fate = fate }

abbrev pub four_done : Moment → List Placed
four_done at = placed at 1 0 fates.Done ∷ placed at 1 1 fates.Done ∷ placed at 1 2 fates.Done
    ∷ placed at 1 3 fates.Done ∷ []

-- the replies of a run with one sync and a read
abbrev pub sync_replies : List Reply
sync_replies = done ∷ done ∷ synced ∷ got (codes "hello") ∷ []

-- the replies where the first sync owns the fault of a write
abbrev pub fault_replies : List Reply
fault_replies = done ∷ done ∷ fault 0 1 ∷ synced ∷ []

-- the same, but the fault is told to the second sync
abbrev pub fault_of_another : List Reply
fault_of_another = done ∷ done ∷ synced ∷ fault 0 1 ∷ []

abbrev pub ack : ℕ → ℕ → Ack
ack place command = record { place = place; command = command }

-- the marks of a run with one sync and a read
abbrev pub sync_marks : List Mark
sync_marks =
    mark 1 (places 0) ∷ mark 1 (hands 0 done) ∷ mark 1 (places 1) ∷ mark 1 (hands 1 done)
    ∷ mark 1 (places 2) ∷ mark 1 (hands 2 synced) ∷ mark 1 (places 3) ∷ mark 1 (hands 3 (got (codes "hello"))) ∷ []

-- a session drains, rests, and places its write
abbrev pub drain_marks : List Mark
drain_marks = mark 1 begins ∷ mark 2 (places 0) ∷ mark 1 rests ∷ mark 1 (places 1) ∷ mark 1 (hands 1 done) ∷ []

abbrev pub log_of : Moment → List Event → Log
log_of at events = record { history = four_done at; replies = sync_replies; acks = ack 2 34 ∷ []; events = events }

-- an empty volume as it is mounted
abbrev pub mounted : Moment → Mounted
mounted at = by (empty_volume at)
  where
    by : MountFacts → Mounted
    by m = record {
      label = m.label;
      index = m.index;
      chosen = record { part = Dp; pos = 5 };
      newest = m.newest;
      end_ip = m.ends.ip;
      end_dp = m.ends.dp;
      last_dp = m.last_dp;
      ip_on = m.ip_on;
      dp_done = m.dp_done;
      ip_done = m.ip_done;
      noted = true;
    }

-- one session writes a file, reads it, writes it again and reads it again
abbrev pub twice_written : List Call
twice_written = write (codes "hello") ∷ read ∷ write (codes "world") ∷ read ∷ []

abbrev pub calls_of_one : List Call → Calls
calls_of_one calls who = cond (who == 1) calls []

-- a small volume with an empty file, and one session with these calls
abbrev pub small_volume : Moment → List Call → Given
small_volume at calls = record {
  calls = λ who. cond (who == 1) calls [];
  tree = with_a at [];
  mounted = empty_volume at;
  limits = record { cap_ip = 64; cap_dp = 64 };
}

-- ---- a crash, where a cartridge tells by its volume change reference alone which tree it stands for

abbrev pub cartridge : ℕ → Cartridge
cartridge n = record { ip = []; dp = []; vcr = n; note_ip = Absent; note_dp = Absent }

abbrev pub by_reference : Meaning
by_reference = record {
  Mounts = λ c mounted. Unit {0};
  Reads = λ c facts tree generation. tree.highest ≡ c.vcr;
  Stands = λ c facts tree generation. tree.highest ≡ c.vcr;
  HasOneIndex = λ c. Unit {0};
  IsHonest = λ c. Unit {0};
  IsConsistent = λ c. Unit {0};
  HasNotes = λ c. Unit {0};
  AreAlike = λ c facts tree generation. Unit {0};
}

-- the tree after so many placements
abbrev pub numbered : ℕ → Tree
numbered n = record { highest = n; lock = locks.Absent; nodes = fin.empty }

-- the same, and the notes of the cartridges below a number are honest alone
abbrev pub honest_below : ℕ → Meaning
honest_below n = record by_reference { IsHonest = λ c. c.vcr < n }

-- the same, and the partitions of the cartridges below a number are alike alone
abbrev pub alike_below : ℕ → Meaning
alike_below n = record by_reference { AreAlike = λ c facts tree generation. c.vcr < n }

-- up to the 33rd command a crash leaves the cartridge with this number too, or the one after two placements, and since
-- the 34th the latter alone
abbrev pub left_until_33 : ℕ → Leavings
left_until_33 n = record {
  now = λ image. image ≡ cartridge 2;
  since = λ t image. (image ≡ cartridge 2) ⊎ ((t ≤ 33) × (image ≡ cartridge n));
}

-- up to the 33rd the first one
abbrev pub flushed_at_34 : Leavings
flushed_at_34 = left_until_33 0

-- a crash leaves the first cartridge whenever it comes
abbrev pub never_flushed : Leavings
never_flushed = record {
  now = λ image. (image ≡ cartridge 2) ⊎ (image ≡ cartridge 0);
  since = λ t image. (image ≡ cartridge 2) ⊎ (image ≡ cartridge 0);
}

-- ---- space over a history

-- the same with blocks of 4 bytes
abbrev pub with_small_blocks : Moment → List Call → Given
with_small_blocks at calls = record {
  calls = λ who. cond (who == 1) calls [];
  tree = with_a at [];
  mounted = small_blocks (empty_volume at);
  limits = record { cap_ip = 64; cap_dp = 64 };
}
  where
    small_blocks : MountFacts → MountFacts
    small_blocks m = record m { label = record m.label { block = 4 } }

-- three writes that fill the partition but for its reserve, and one of a byte
abbrev pub filling : List Call
filling = Write path 0 (replicate 64 97) ∷ Write path 64 (replicate 64 98) ∷ Write path 128 (replicate 52 99)
    ∷ Write path 180 (100 ∷ []) ∷ []

abbrev pub last_void : Moment → List Placed
last_void at = placed at 1 0 fates.Done ∷ placed at 1 1 fates.Done ∷ placed at 1 2 fates.Done
    ∷ placed at 1 3 fates.Void ∷ []

-- a volume whose policy puts every file on the index partition, where that isn't on yet
abbrev pub with_policy : Moment → List Call → Given
with_policy at calls = record {
  calls = λ who. cond (who == 1) calls [];
  tree = with_a at [];
  mounted = chosen (empty_volume at);
  limits = record { cap_ip = 64; cap_dp = 64 };
}
  where
    chosen : MountFacts → MountFacts
    chosen m = record m { ip_on = false; index = record m.index { policy = Some record { size = 1000; names = [] } } }

-- a volume with blocks of 4 bytes and much space, on which a session writes 65 blocks and then a byte
abbrev pub long_volume : Moment → Given
long_volume at = record
    (with_small_blocks at (Write path 0 (replicate 260 97) ∷ Write path 260 (100 ∷ []) ∷ []))
    { limits = record { cap_ip = 400; cap_dp = 400 } }

-- one op is drained before the second write
abbrev pub drained_by_one : List Event
drained_by_one = queues 7 65 ++ events.Drains 1 ∷ (works 7 1 ++ events.Rests 1 ∷ queues 72 1)

-- nothing is carried over
abbrev pub plain_facts : Carried
plain_facts = record { root = []; comment = None; allow = true; policy = None }
