-- What each call answers, and the tree that it leaves.
use Rattle.std.specs.Prelude.{ℕ, ◌+◌, List, [], ◌∷◌, Bool, ◌==◌, if◌then◌else◌, length, Option, Some, None, unwrap_or}
use Rattle.std.specs.FinMap as fin
use Rattle.tape_types.specs.declared.moments.Moment.{Moment}
use Rattle.plain_tree.specs.declared.nodes.Node.{Node}
use Rattle.plain_tree.specs.declared.nodes.Kind.{Kind}
use Rattle.plain_tree.specs.declared.nodes.Kind.TheVariants as kinds
use Rattle.plain_tree.specs.declared.calls.Answer.{Answer}
use Rattle.plain_tree.specs.declared.calls.Answer.TheVariants as answers
use Rattle.plain_tree.specs.declared.calls.Call.{Call}
use Rattle.plain_tree.specs.declared.calls.Call.TheVariants.{Mkdir, Create, Write, Truncate, Read, Listing, Stat}
use Rattle.plain_tree.specs.declared.calls.Call.TheVariants.{Rename, Remove, Setx, Getx, Dropx, Readonly}
use Rattle.plain_tree.specs.declared.calls.Call.TheVariants.{LockVolume, UnlockVolume, PermLock, Sync}
use Rattle.plain_tree.specs.declared.calls.LockState.{LockState}
use Rattle.plain_tree.specs.declared.calls.LockState.TheVariants as locks
use Rattle.plain_tree.specs.declared.calls.Change.{Change}
use Rattle.plain_tree.specs.declared.calls.Change.TheVariants as changes
use Rattle.plain_tree.specs.declared.calls.Refusal.{Refusal}
use Rattle.plain_tree.specs.Cells.{resized, range_of, bytes_of}
use Rattle.plain_tree.specs.Paths.{Path, same_path, parent_of}
use Rattle.plain_tree.specs.Refusals.{refusal_of, refusal_within}
use Rattle.plain_tree.specs.Tree.{Tree, new_node, changed_at, touch, change_noted, file_changed, written_to, moved}
use Rattle.plain_tree.specs.Tree.{cells_at, facts_of, entries_in, value_at, has_value, key_set, key_dropped}
use Rattle.plain_tree.specs.Tree.{flag_at, same_flag, flagged}

-- a new node with the next uid stands at the path, and its parent is touched
abbrev pub with_new : Kind → Tree → Path → Moment → Tree
with_new kind t path at = record t {
  highest = t.highest + 1;
  nodes = touch at (parent_of path) (fin.insert t.nodes path (new_node kind (t.highest + 1) at));
}

-- the bytes stand in the file from the offset on, and it is touched; no bytes change nothing
abbrev pub with_bytes : Tree → Path → ℕ → List ℕ → Moment → Tree
with_bytes t path offset [] at = t
with_bytes t path offset (b ∷ bytes) at =
    record t { nodes = changed_at (written_to offset (b ∷ bytes) at) path t.nodes }

-- the file has this length, and it is touched; the length that it has changes nothing
abbrev pub with_length : Tree → Path → ℕ → Moment → Tree
with_length t path n at =
    if n == length (cells_at t.nodes path) then t
    else record t { nodes = changed_at (file_changed (λ cells. resized cells n) at) path t.nodes }

-- the node and all below it stand at the new path, its change time is noted, and both parents are touched;
-- the path that it has changes nothing
abbrev pub with_rename : Tree → Path → Path → Moment → Tree
with_rename t from to at =
    if same_path from to then t
    else record t {
      nodes = touch at (parent_of to) (touch at (parent_of from)
          (changed_at (change_noted at) to (moved from to t.nodes)));
    }

-- the node is gone, and its parent is touched
abbrev pub without : Tree → Path → Moment → Tree
without t path at = record t { nodes = touch at (parent_of path) (fin.remove t.nodes path) }

-- the key has these bytes, and the node's change time is noted; the bytes that it has change nothing
abbrev pub with_key : Tree → Path → List ℕ → List ℕ → Moment → Tree
with_key t path key bytes at =
    if has_value t.nodes path key bytes then t
    else record t { nodes = changed_at (key_set key bytes at) path t.nodes }

-- the key is gone, and the node's change time is noted
abbrev pub without_key : Tree → Path → List ℕ → Moment → Tree
without_key t path key at = record t { nodes = changed_at (key_dropped key at) path t.nodes }

-- the node is read-only or not, and its change time is noted; the flag that it has changes nothing
abbrev pub with_flag : Tree → Path → Bool → Moment → Tree
with_flag t path on at =
    if same_flag (flag_at t.nodes path) on then t else record t { nodes = changed_at (flagged on at) path t.nodes }

-- what an unlock makes of a lock state
abbrev pub unlocked : LockState → LockState
unlocked locks.Locked = locks.Unlocked
unlocked state = state

-- what a call leaves where it isn't refused
abbrev pub after_done : Tree → Call → Moment → Tree
after_done t (Mkdir path) at = with_new kinds.Dir t path at
after_done t (Create path) at = with_new (kinds.File []) t path at
after_done t (Write path offset bytes) at = with_bytes t path offset bytes at
after_done t (Truncate path length) at = with_length t path length at
after_done t (Read path offset count) at = t
after_done t (Listing path) at = t
after_done t (Stat path) at = t
after_done t (Rename from to) at = with_rename t from to at
after_done t (Remove path) at = without t path at
after_done t (Setx path key bytes) at = with_key t path key bytes at
after_done t (Getx path key) at = t
after_done t (Dropx path key) at = without_key t path key at
after_done t (Readonly path on) at = with_flag t path on at
after_done t LockVolume at = record t { lock = locks.Locked }
after_done t UnlockVolume at = record t { lock = unlocked t.lock }
after_done t PermLock at = record t { lock = locks.PermLocked }
after_done t Sync at = t

abbrev pub after_unless : Option Refusal → Tree → Tree → Tree
after_unless None changed t = changed
after_unless (Some refusal) changed t = t

-- what a call leaves that the lock doesn't refuse
abbrev pub after_within : Tree → Call → Moment → Tree
after_within t call at = after_unless (refusal_within t call) (after_done t call at) t

-- what a call leaves, placed at a moment
abbrev pub after : Tree → Call → Moment → Tree
after t call at = after_unless (refusal_of t call) (after_done t call at) t

-- what a call is answered where it isn't refused
abbrev pub value_of : Tree → Call → Answer
value_of t (Mkdir path) = answers.Done
value_of t (Create path) = answers.Done
value_of t (Write path offset bytes) = answers.Done
value_of t (Truncate path length) = answers.Done
value_of t (Read path offset count) =
    answers.Got (unwrap_or (bytes_of (range_of (cells_at t.nodes path) offset count)) [])
value_of t (Listing path) = answers.Names (entries_in t.nodes path)
value_of t (Stat path) = facts_found (fin.get t.nodes path)
  where
    facts_found : Option Node → Answer
    facts_found None = answers.Done
    facts_found (Some node) = answers.Facts (facts_of node)
value_of t (Rename from to) = answers.Done
value_of t (Remove path) = answers.Done
value_of t (Setx path key bytes) = answers.Done
value_of t (Getx path key) = answers.Got (unwrap_or (value_at t.nodes path key) [])
value_of t (Dropx path key) = answers.Done
value_of t (Readonly path on) = answers.Done
value_of t LockVolume = answers.Done
value_of t UnlockVolume = answers.Done
value_of t PermLock = answers.Done
value_of t Sync = answers.Synced

abbrev pub answer_unless : Option Refusal → Answer → Answer
answer_unless None value = value
answer_unless (Some refusal) value = answers.Refused refusal

-- what a call is answered that the lock doesn't refuse
abbrev pub answer_within : Tree → Call → Answer
answer_within t call = answer_unless (refusal_within t call) (value_of t call)

-- what a call is answered
abbrev pub answer : Tree → Call → Answer
answer t call = answer_unless (refusal_of t call) (value_of t call)

-- the call that asks for a change
abbrev pub call_of_change : Change → Call
call_of_change (changes.Mkdir path) = Mkdir path.now
call_of_change (changes.Create path) = Create path.now
call_of_change (changes.Write path offset bytes) = Write path.now offset bytes.now
call_of_change (changes.Truncate path length) = Truncate path.now length
call_of_change (changes.Rename from to) = Rename from.now to.now
call_of_change (changes.Remove path) = Remove path.now
call_of_change (changes.Setx path key bytes) = Setx path.now key.now bytes.now
call_of_change (changes.Dropx path key) = Dropx path.now key.now
call_of_change (changes.Readonly path on) = Readonly path.now on
call_of_change changes.LockVolume = LockVolume
call_of_change changes.UnlockVolume = UnlockVolume
call_of_change changes.PermLock = PermLock
