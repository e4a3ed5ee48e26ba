-- Why a call is refused: the checks of each call, in order, of which the first that fails is the answer.
use Rattle.std.specs.Prelude.{ℕ, zero, suc, ◌+◌, ◌^◌, List, [], ◌∷◌, Bool, true, false, not, ◌||◌, ◌&&◌, nat_le, nat_lt, ◌==◌}
use Rattle.std.specs.Prelude.{if◌then◌else◌, length, take, Option, Some, None, is_none, is_some}
use Rattle.std.specs.FinMap as fin
use Rattle.tape_types.specs.Bounds.{longest_file, most_nodes}
use Rattle.tape_types.specs.Names.{name_fault}
use Rattle.tape_types.specs.NodeKeys.Keys.{is_key}
use Rattle.plain_tree.specs.declared.nodes.Node.{Node}
use Rattle.plain_tree.specs.declared.nodes.Kind.{Kind}
use Rattle.plain_tree.specs.declared.nodes.Kind.TheVariants as kinds
use Rattle.plain_tree.specs.declared.calls.Call.{Call}
use Rattle.plain_tree.specs.declared.calls.Call.TheVariants.{Mkdir, Create, Write, Truncate, Read, Listing, Stat}
use Rattle.plain_tree.specs.declared.calls.Call.TheVariants.{Rename, Remove, Setx, Getx, Dropx, Readonly}
use Rattle.plain_tree.specs.declared.calls.Call.TheVariants.{LockVolume, UnlockVolume, PermLock, Sync}
use Rattle.plain_tree.specs.declared.calls.LockState.{LockState}
use Rattle.plain_tree.specs.declared.calls.LockState.TheVariants as locks
use Rattle.plain_tree.specs.declared.calls.Refusal.{Refusal}
use Rattle.plain_tree.specs.declared.calls.Refusal.TheVariants.{BadName, Root, NotFound, NotDir, IsDir, IsLink, Exists}
use Rattle.plain_tree.specs.declared.calls.Refusal.TheVariants.{Inside, NotEmpty, TooLong, TooMany, Damaged}
use Rattle.plain_tree.specs.declared.calls.Refusal.TheVariants.{BadKey, NoKey, ManyKeys, Locked, ReadOnly}
use Rattle.plain_tree.specs.Cells.{range_of, bytes_of}
use Rattle.plain_tree.specs.Paths.{Name, Path, same_path, parent_of, last_name, is_below}
use Rattle.plain_tree.specs.Tree.{Tree, Nodes, cells_at, entries_in, flag_at, key_count, value_at}

-- the first check that fails
abbrev pub first_of : List (Option Refusal) → Option Refusal
first_of [] = None
first_of (None ∷ later) = first_of later
first_of (Some refusal ∷ later) = Some refusal

-- the one check, and where it doesn't fail the other
abbrev pub or_else : Option Refusal → Option Refusal → Option Refusal
or_else None later = later
or_else (Some refusal) later = Some refusal

abbrev pub refuse_if : Bool → Refusal → Option Refusal
refuse_if true refusal = Some refusal
refuse_if false refusal = None

-- the last name is one that no node may have
abbrev pub bad_name : Path → Option Refusal
bad_name path = found (last_name path)
  where
    found : Option Name → Option Refusal
    found None = None
    found (Some name) = refuse_if (is_some (name_fault name)) BadName

abbrev pub at_root : Path → Option Refusal
at_root path = refuse_if (length path == 0) Root

-- why nothing stands where a path goes on below such a node
abbrev pub missing_below : Kind → Refusal
missing_below kinds.Dir = NotFound
missing_below (kinds.File cells) = NotDir
missing_below (kinds.Link text) = NotDir

-- what stands at the longest front of fewer than n names that is there says why the path isn't
abbrev pub why_missing : Nodes → Path → ℕ → Refusal
why_missing nodes path zero = NotFound
why_missing nodes path (suc n) = found (fin.get nodes (take n path)) (why_missing nodes path n)
  where
    by_kind : Kind → Refusal
    by_kind kinds.Dir = NotFound
    by_kind (kinds.File cells) = NotDir
    by_kind (kinds.Link text) = NotDir

    found : Option Node → Refusal → Refusal
    found (Some node) shorter = by_kind node.kind
    found None shorter = shorter

-- the check of what stands at a path
abbrev pub checked_at : (Kind → Option Refusal) → Nodes → Path → Option Refusal
checked_at check nodes path = found (fin.get nodes path)
  where
    found : Option Node → Option Refusal
    found None = Some (why_missing nodes path (length path))
    found (Some node) = check node.kind

-- something stands at the path
abbrev pub no_node : Nodes → Path → Option Refusal
no_node nodes path = checked_at (λ _. None) nodes path

-- a directory does
abbrev pub no_dir : Nodes → Path → Option Refusal
no_dir nodes path = checked_at check nodes path
  where
    check : Kind → Option Refusal
    check kinds.Dir = None
    check (kinds.File cells) = Some NotDir
    check (kinds.Link text) = Some NotDir

-- a file does
abbrev pub no_file : Nodes → Path → Option Refusal
no_file nodes path = checked_at check nodes path
  where
    check : Kind → Option Refusal
    check kinds.Dir = Some IsDir
    check (kinds.File cells) = None
    check (kinds.Link text) = Some IsLink

abbrev pub exists_at : Nodes → Path → Option Refusal
exists_at nodes path = refuse_if (fin.contains_key nodes path) Exists

-- a file has at most 2^40 bytes
abbrev pub too_long : ℕ → Option Refusal
too_long length = refuse_if (nat_lt longest_file length) TooLong

-- there are at most 65,536 nodes, and uids up to 2^62
abbrev pub too_many : Tree → Option Refusal
too_many t = refuse_if (nat_le most_nodes (fin.len t.nodes) || nat_le (2 ^ 62) t.highest) TooMany

abbrev pub not_empty : Nodes → Path → Option Refusal
not_empty nodes path = refuse_if (nat_lt 0 (length (entries_in nodes path))) NotEmpty

-- a byte of the range is lost
abbrev pub damaged : Nodes → Path → ℕ → ℕ → Option Refusal
damaged nodes path offset count = refuse_if (is_none (bytes_of (range_of (cells_at nodes path) offset count))) Damaged

-- the node at the path is read-only
abbrev pub read_only : Nodes → Path → Option Refusal
read_only nodes path = refuse_if (flag_at nodes path) ReadOnly

-- ---- keys

abbrev pub bad_key : List ℕ → Option Refusal
bad_key key = refuse_if (not (is_key key)) BadKey

abbrev pub no_key : Nodes → Path → List ℕ → Option Refusal
no_key nodes path key = refuse_if (is_none (value_at nodes path key)) NoKey

-- so many keys a node may be given
abbrev pub most_keys : ℕ
most_keys = 256

-- a node gets no further key where it has as many or more
abbrev pub many_keys : Nodes → Path → List ℕ → Option Refusal
many_keys nodes path key =
    refuse_if (nat_le most_keys (key_count nodes path) && is_none (value_at nodes path key)) ManyKeys

-- ---- the lock

abbrev pub is_sealed : LockState → Bool
is_sealed locks.PermLocked = true
is_sealed _ = false

abbrev pub is_locked : LockState → Bool
is_locked locks.Locked = true
is_locked locks.PermLocked = true
is_locked _ = false

-- a call that only looks, or asks that all is found again
abbrev pub only_asks : Call → Bool
only_asks (Read path offset count) = true
only_asks (Listing path) = true
only_asks (Stat path) = true
only_asks (Getx path key) = true
only_asks Sync = true
only_asks _ = false

-- a call that is about the lock itself
abbrev pub sets_lock : Call → Bool
sets_lock LockVolume = true
sets_lock UnlockVolume = true
sets_lock PermLock = true
sets_lock _ = false

-- The lock stands before all other checks. What only asks goes on under each lock, what sets the lock under each but
-- that for ever, and all else under none.
abbrev pub lock_refusal : LockState → Call → Option Refusal
lock_refusal state call =
    if only_asks call then None
    else refuse_if (if sets_lock call then is_sealed state else is_locked state) Locked

-- ---- each call

-- a new node at the path
abbrev pub new_refusal : Tree → Path → Option Refusal
new_refusal t path =
    first_of (bad_name path ∷ at_root path ∷ no_dir t.nodes (parent_of path) ∷ exists_at t.nodes path
    ∷ read_only t.nodes (parent_of path) ∷ too_many t ∷ [])

abbrev pub rename_refusal : Nodes → Path → Path → Option Refusal
rename_refusal nodes from to =
    first_of (bad_name to ∷ at_root from ∷ at_root to ∷ no_node nodes from ∷ no_dir nodes (parent_of to)
    ∷ (if same_path from to then None else first_of (exists_at nodes to ∷ refuse_if (is_below from to) Inside
    ∷ read_only nodes (parent_of from) ∷ read_only nodes (parent_of to) ∷ []))
    ∷ [])

-- a key of the node at the path
abbrev pub key_refusal : Nodes → Path → List ℕ → Option Refusal
key_refusal nodes path key =
    first_of (bad_key key ∷ no_node nodes path ∷ read_only nodes path ∷ many_keys nodes path key ∷ [])

-- the first refusal of a call but for the lock
abbrev pub refusal_within : Tree → Call → Option Refusal
refusal_within t (Mkdir path) = new_refusal t path
refusal_within t (Create path) = new_refusal t path
refusal_within t (Write path offset bytes) =
    first_of (no_file t.nodes path ∷ read_only t.nodes path ∷ too_long (offset + length bytes) ∷ [])
refusal_within t (Truncate path length) =
    first_of (no_file t.nodes path ∷ read_only t.nodes path ∷ too_long length ∷ [])
refusal_within t (Read path offset count) = first_of (no_file t.nodes path ∷ damaged t.nodes path offset count ∷ [])
refusal_within t (Listing path) = no_dir t.nodes path
refusal_within t (Stat path) = no_node t.nodes path
refusal_within t (Rename from to) = rename_refusal t.nodes from to
refusal_within t (Remove path) =
    first_of (at_root path ∷ no_node t.nodes path ∷ not_empty t.nodes path ∷ read_only t.nodes (parent_of path) ∷ [])
refusal_within t (Setx path key bytes) = key_refusal t.nodes path key
refusal_within t (Getx path key) = first_of (no_node t.nodes path ∷ no_key t.nodes path key ∷ [])
refusal_within t (Dropx path key) =
    first_of (no_node t.nodes path ∷ no_key t.nodes path key ∷ read_only t.nodes path ∷ [])
refusal_within t (Readonly path on) = no_node t.nodes path
refusal_within t LockVolume = None
refusal_within t UnlockVolume = None
refusal_within t PermLock = None
refusal_within t Sync = None

-- the first refusal of a call, where it is refused
abbrev pub refusal_of : Tree → Call → Option Refusal
refusal_of t call = or_else (lock_refusal t.lock call) (refusal_within t call)
