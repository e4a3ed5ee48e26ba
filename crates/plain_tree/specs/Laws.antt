-- What is true of the tree over all calls and all lists of calls.
use Rattle.std.specs.Prelude.{◌≡◌, ◌≢◌, ◌⊎◌, ℕ, ◌<◌, ◌≤◌, Bool, true, false, List, [], ◌∷◌, ◌++◌, map, length, Option, Some, None}
use Rattle.std.specs.List.{Contains}
use Rattle.std.specs.List.Sorted.{IsStrictlySortedBy}
use Rattle.std.specs.Ordering.{nat_cmp}
use Rattle.std.specs.Cmp.Lexicographic.{slice_cmp}
use Rattle.std.specs.FinMap as fin
use Rattle.tape_types.specs.NodeKeys.Keys.{KeyMap}
use Rattle.tape_types.specs.declared.moments.Moment.{Moment}
use Rattle.plain_tree.specs.declared.nodes.Node.{Node}
use Rattle.plain_tree.specs.declared.nodes.Kind.{Kind}
use Rattle.plain_tree.specs.declared.calls.Answer.TheVariants as answers
use Rattle.plain_tree.specs.declared.calls.Call.{Call}
use Rattle.plain_tree.specs.declared.calls.Call.TheVariants as asks
use Rattle.plain_tree.specs.declared.calls.Entry.{Entry}
use Rattle.plain_tree.specs.declared.calls.Placed.{Placed}
use Rattle.plain_tree.specs.declared.calls.Refusal.{Refusal}
use Rattle.plain_tree.specs.declared.calls.Refusal.TheVariants as refusals
use Rattle.plain_tree.specs.Paths.{Name, Path, is_at_or_below}
use Rattle.plain_tree.specs.Tree.{Tree, Nodes, empty_tree, sort_of, value_at}
use Rattle.plain_tree.specs.Refusals.{is_locked, is_sealed, only_asks, refusal_of, sets_lock}
use Rattle.plain_tree.specs.Calls.{answer, after}
use Rattle.plain_tree.specs.History.{Calls, replay}
use Rattle.plain_tree.specs.Valid.{IsValid, mark_at}

-- the tree with the root alone is valid; each call leaves a valid tree valid, and so does each history
pub record TreesStayValid : Type 0 where
  pub first : (at : Moment) → IsValid (empty_tree at)
  pub next : (t : Tree) (call : Call) (at : Moment) → IsValid t → IsValid (after t call at)
  pub always : (calls : Calls) (history : List Placed) (t : Tree) → IsValid t → IsValid (replay calls t history)

-- a refused call leaves the tree as it was
abbrev pub RefusedCallsChangeNothing : Type 0
RefusedCallsChangeNothing =
    (t : Tree) (call : Call) (at : Moment) (refusal : Refusal) → answer t call ≡ answers.Refused refusal
    → after t call at ≡ t

-- no node has this uid
abbrev pub IsUnused : Tree → ℕ → Type 0
IsUnused t uid = (path : Path) (node : Node) → fin.get t.nodes path ≡ Some node → node.uid ≢ uid

-- over any history of a valid tree the highest uid never falls, and a uid that was given and is in use no more never
-- comes back
pub record UidsNeverReturn : Type 0 where
  pub rises : (calls : Calls) (history : List Placed) (t : Tree) → t.highest ≤ (replay calls t history).highest
  pub stays_unused : (calls : Calls) (history : List Placed) (t : Tree) (uid : ℕ) → IsValid t → uid ≤ t.highest
      → IsUnused t uid → IsUnused (replay calls t history) uid

-- a call that gives a node a key or takes one, and one that changes what a file holds
abbrev pub sets_keys : Call → Bool
sets_keys (asks.Setx path key bytes) = true
sets_keys (asks.Dropx path key) = true
sets_keys _ = false

abbrev pub sets_flag : Call → Bool
sets_flag (asks.Readonly path on) = true
sets_flag _ = false

abbrev pub sets_content : Call → Bool
sets_content (asks.Write path offset bytes) = true
sets_content (asks.Truncate path size) = true
sets_content _ = false

-- What a call leaves of a node that was there, wherever it stands then: its uid; its attributes, its flag and what it
-- holds, but for calls that are about these; and of a read-only node its attributes and what it holds in any case.
pub record KeepsNode (call : Call) (old node : Node) : Type 0 where
  pub uid : node.uid ≡ old.uid
  pub keys : sets_keys call ≡ false → node.keys ≡ old.keys
  pub flag : sets_flag call ≡ false → node.readonly ≡ old.readonly
  pub content : sets_content call ≡ false → node.kind ≡ old.kind
  pub guarded : old.readonly ≡ true → (node.keys ≡ old.keys) × (node.kind ≡ old.kind)

-- a node of the tree before
pub record WasThere (t : Tree) (call : Call) (node : Node) : Type 0 where
  pub path : Path
  pub old : Node
  pub there : fin.get t.nodes path ≡ Some old
  pub kept : KeepsNode call old node

-- a node that a call has made has a new uid and no attributes, and isn't read-only
pub record IsMade (t : Tree) (node : Node) : Type 0 where
  pub uid : t.highest < node.uid
  pub keys : node.keys ≡ fin.empty
  pub flag : node.readonly ≡ false

-- each node that a call leaves was there, and is kept so, or was made
abbrev pub NodesStay : Type 0
NodesStay =
    (t : Tree) (call : Call) (at : Moment) → IsValid t → (path : Path) (node : Node)
    → fin.get (after t call at).nodes path ≡ Some node → WasThere t call node ⊎ IsMade t node

-- In a read-only directory no entry comes, goes, or becomes another node, as long as the directory stands where it does.
abbrev pub ReadOnlyDirsStay : Type 0
ReadOnlyDirsStay =
    (t : Tree) (call : Call) (at : Moment) (dir : Path) (node : Node) (name : Name) → IsValid t
    → fin.get t.nodes dir ≡ Some node → node.readonly ≡ true
    → mark_at (after t call at).nodes dir ≡ mark_at t.nodes dir
    → mark_at (after t call at).nodes (dir ++ name ∷ []) ≡ mark_at t.nodes (dir ++ name ∷ [])

-- What a lock keeps. Under each lock all calls are refused that change anything but the lock; under the one for ever
-- no call changes anything, and so no history does. No other call changes the lock.
pub record LocksHold : Type 0 where
  pub refused : (t : Tree) (call : Call) → is_locked t.lock ≡ true → only_asks call ≡ false → sets_lock call ≡ false
      → answer t call ≡ answers.Refused refusals.Locked
  pub locked : (t : Tree) (call : Call) (at : Moment) → is_locked t.lock ≡ true → sets_lock call ≡ false
      → after t call at ≡ t
  pub sealed : (t : Tree) (call : Call) (at : Moment) → is_sealed t.lock ≡ true → after t call at ≡ t
  pub for_ever : (calls : Calls) (history : List Placed) (t : Tree) → is_sealed t.lock ≡ true
      → replay calls t history ≡ t
  pub only_asked : (t : Tree) (call : Call) (at : Moment) → only_asks call ≡ true → after t call at ≡ t
  pub lock_stays : (t : Tree) (call : Call) (at : Moment) → sets_lock call ≡ false → (after t call at).lock ≡ t.lock

-- Attributes are a map: a key that was set is read with its bytes, one that was dropped is there no more, and each
-- other key, and each other node, is as it was.
pub record KeysAreMaps : Type 0 where
  pub set : (t : Tree) (path : Path) (key bytes : List ℕ) (at : Moment)
      → refusal_of t (asks.Setx path key bytes) ≡ None
      → answer (after t (asks.Setx path key bytes) at) (asks.Getx path key) ≡ answers.Got bytes
  pub set_others : (t : Tree) (path : Path) (key bytes other : List ℕ) (at : Moment) → other ≢ key
      → value_at (after t (asks.Setx path key bytes) at).nodes path other ≡ value_at t.nodes path other
  pub set_elsewhere : (t : Tree) (path q : Path) (key bytes : List ℕ) (at : Moment) → q ≢ path
      → fin.get (after t (asks.Setx path key bytes) at).nodes q ≡ fin.get t.nodes q
  pub dropped : (t : Tree) (path : Path) (key : List ℕ) (at : Moment) → refusal_of t (asks.Dropx path key) ≡ None
      → answer (after t (asks.Dropx path key) at) (asks.Getx path key) ≡ answers.Refused refusals.NoKey
  pub dropped_others : (t : Tree) (path : Path) (key other : List ℕ) (at : Moment) → other ≢ key
      → value_at (after t (asks.Dropx path key) at).nodes path other ≡ value_at t.nodes path other
  pub dropped_elsewhere : (t : Tree) (path q : Path) (key : List ℕ) (at : Moment) → q ≢ path
      → fin.get (after t (asks.Dropx path key) at).nodes q ≡ fin.get t.nodes q

-- the uid of a node, its attributes, and what it holds
abbrev pub holding : Option Node → Option (ℕ × KeyMap × Kind)
holding None = None
holding (Some node) = Some (node.uid, node.keys, node.kind)

abbrev pub holding_at : Tree → Path → Option (ℕ × KeyMap × Kind)
holding_at t path = holding (fin.get t.nodes path)

-- Each node at or below `from` has come to `to` with its uid, its attributes and what it holds, and nothing is left
-- there. What lies below the moved node is exactly as it was; what lies elsewhere keeps these three.
pub record HasMoved (t next : Tree) (from to : Path) : Type 0 where
  pub moved : (x : Path) → holding_at next (to ++ x) ≡ holding_at t (from ++ x)
  pub below : (x : Path) → x ≢ [] → fin.get next.nodes (to ++ x) ≡ fin.get t.nodes (from ++ x)
  pub gone : (x : Path) → from ≢ to → fin.get next.nodes (from ++ x) ≡ None
  pub elsewhere : (path : Path) → is_at_or_below from path ≡ false → is_at_or_below to path ≡ false
      → holding_at next path ≡ holding_at t path

-- so it is after a rename of a valid tree that isn't refused
abbrev pub RenamesKeepNodes : Type 0
RenamesKeepNodes =
    (t : Tree) (from to : Path) (at : Moment) → IsValid t → refusal_of t (asks.Rename from to) ≡ None
    → HasMoved t (after t (asks.Rename from to) at) from to

-- a read of the range of a write that wasn't refused gives the bytes that were written
abbrev pub ReadsSeeWrites : Type 0
ReadsSeeWrites =
    (t : Tree) (path : Path) (offset : ℕ) (bytes : List ℕ) (at : Moment) → 0 < length bytes
    → refusal_of t (asks.Write path offset bytes) ≡ None
    → answer (after t (asks.Write path offset bytes) at) (asks.Read path offset (length bytes)) ≡ answers.Got bytes

-- A listing has a line for each node that stands directly in the directory, no other line, and its names ascend by
-- their bytes.
pub record IsExactListing (nodes : Nodes) (dir : Path) (entries : List Entry) : Type 0 where
  pub complete : (name : Name) (node : Node) → fin.get nodes (dir ++ name ∷ []) ≡ Some node
      → Contains entries (record { sort = sort_of node.kind; name = name })
  pub sound : (entry : Entry) → Contains entries entry
      → (node : Node) × (fin.get nodes (dir ++ entry.name ∷ []) ≡ Some node) × (entry.sort ≡ sort_of node.kind)
  pub ascends : IsStrictlySortedBy (slice_cmp nat_cmp) (map (λ e. e.name) entries)

abbrev pub ListingsAreExact : Type 0
ListingsAreExact =
    (t : Tree) (dir : Path) (entries : List Entry) → answer t (asks.Listing dir) ≡ answers.Names entries
    → IsExactListing t.nodes dir entries
