-- The tree of a history, how its files lie and how much of the tape they take, placement by placement.
use Rattle.std.specs.Prelude.{ℕ, ◌+◌, ◌==◌, ◌||◌, nat_le, max, cond, Bool, true, false, List, [], ◌∷◌, length, take}
use Rattle.std.specs.Prelude.{fold, Option, Some, None}
use Rattle.std.specs.Option.{unwrap_or}
use Rattle.std.specs.List.{enumerate_from, flat_map}
use Rattle.std.specs.FinMap as fin
use Rattle.tape_types.specs.declared.moments.Moment.{Moment}
use Rattle.tape_types.specs.declared.cartridges.Part.{Part}
use Rattle.tape_types.specs.declared.cartridges.Extent.{Extent}
use Rattle.tape_types.specs.declared.cartridges.Part.TheVariants.{Dp}
use Rattle.tape_types.specs.declared.cartridges.Limits.{Limits}
use Rattle.plain_tree.specs.Calls.{after}
use Rattle.plain_tree.specs.History.{Calls, call_at}
use Rattle.plain_tree.specs.Paths.{last_name, same_path}
use Rattle.plain_tree.specs.Refusals.{refusal_of}
use Rattle.plain_tree.specs.Tree.{Tree, Nodes, cells_at, flag_at, has_value, same_flag}
use Rattle.plain_tree.specs.declared.nodes.Node.{Node}
use Rattle.plain_tree.specs.declared.calls.Call.{Call}
use Rattle.plain_tree.specs.declared.calls.Call.TheVariants.{Mkdir, Create, Write, Truncate, Read, Listing, Stat}
use Rattle.plain_tree.specs.declared.calls.Call.TheVariants.{Rename, Remove, Setx, Getx, Dropx, Readonly}
use Rattle.plain_tree.specs.declared.calls.Call.TheVariants.{LockVolume, UnlockVolume, PermLock, Sync}
use Rattle.plain_tree.specs.declared.calls.LockState.{LockState}
use Rattle.plain_tree.specs.declared.calls.LockState.TheVariants as locks
use Rattle.plain_tree.specs.declared.calls.Fate.{Fate}
use Rattle.plain_tree.specs.declared.calls.Fate.TheVariants as fates
use Rattle.plain_tree.specs.declared.calls.Placed.{Placed}
use Rattle.plain_tree.specs.declared.calls.Refusal.{Refusal}
use Rattle.extent_map.specs.Laid.{overlaid, resized}
use Rattle.space_laws.specs.Mount.{MountFacts}
use Rattle.tape_layout.specs.declared.ops.Op.{Op}
use Rattle.tape_layout.specs.Ops.{end_of}
use Rattle.tape_layout.specs.PlacementPolicy.Computed.{chooses_ip}
use Rattle.space_laws.specs.Files.{Files, mounted_files, with_file, index_at, canon}
use Rattle.space_laws.specs.Space as space
use Rattle.space_laws.specs.Space.{Space, Rules, Ask, nothing, change, store, index, first_space, part_for, need_of}
use Rattle.space_laws.specs.Space.{limit_of, is_over, ops_of}

-- what a volume is served from: the calls of its sessions, its tree, what was found when it was mounted, and the
-- capacities
pub record Given : Type 0 where
  pub calls : Calls
  pub tree : Tree
  pub mounted : MountFacts
  pub limits : Limits

abbrev pub rules : Given → Rules
rules g = record { limits = g.limits; block_size = g.mounted.label.block }

-- what stands after the first placements
pub record Standing : Type 0 where
  pub tree : Tree
  pub files : Files
  pub space : Space

abbrev pub first_standing : Given → Standing
first_standing g = record { tree = g.tree; files = mounted_files g.mounted; space = first_space g.mounted }

-- Files may go to the index partition where it was so at the mount, and else from the place on at which the history
-- stood when the first flush of the data partition was done.
abbrev pub is_on : MountFacts → Option ℕ → ℕ → Bool
is_on m on k = m.ip_on || reached on
  where
    reached : Option ℕ → Bool
    reached None = false
    reached (Some first) = nat_le first k

abbrev pub uid_at : Nodes → List (List ℕ) → ℕ
uid_at nodes path = found (fin.get nodes path)
  where
    found : Option Node → ℕ
    found None = 0
    found (Some node) = node.uid

-- the text of the index that a sync writes
abbrev pub sync_text : Given → Standing → Moment → List ℕ
sync_text g st at =
    canon (index_at g.mounted st.tree st.files (st.space.newest + 1) at Dp (st.space.ends.dp + 1) st.space.last_dp)

-- the length of a file once bytes were written up to an offset
abbrev pub length_after : Standing → List (List ℕ) → ℕ → ℕ
length_after st path end = max (length (cells_at st.tree.nodes path)) end

-- a lock that an unlock takes away: not one for ever
abbrev pub can_unlock : LockState → Bool
can_unlock locks.Locked = true
can_unlock _ = false

-- what a call asks of the tape where the tree doesn't refuse it
abbrev pub ask_unrefused : Given → Standing → Call → Moment → Ask
ask_unrefused g st (Mkdir path) at = change
ask_unrefused g st (Create path) at = change
ask_unrefused g st (Write path offset []) at = nothing
ask_unrefused g st (Write path offset (b ∷ bytes)) at =
    store (chooses_ip g.mounted.index.policy (unwrap_or (last_name path) [])
    (length_after st path (offset + length (b ∷ bytes)))) (b ∷ bytes)
ask_unrefused g st (Truncate path size) at = cond (size == length (cells_at st.tree.nodes path)) nothing change
ask_unrefused g st (Read path offset count) at = nothing
ask_unrefused g st (Listing path) at = nothing
ask_unrefused g st (Stat path) at = nothing
ask_unrefused g st (Rename from to) at = cond (same_path from to) nothing change
ask_unrefused g st (Remove path) at = change
ask_unrefused g st (Setx path key bytes) at = cond (has_value st.tree.nodes path key bytes) nothing change
ask_unrefused g st (Getx path key) at = nothing
ask_unrefused g st (Dropx path key) at = change
ask_unrefused g st (Readonly path on) at = cond (same_flag (flag_at st.tree.nodes path) on) nothing change
ask_unrefused g st LockVolume at = cond (can_unlock st.tree.lock) nothing change
ask_unrefused g st UnlockVolume at = cond (can_unlock st.tree.lock) change nothing
ask_unrefused g st PermLock at = change
ask_unrefused g st Sync at = cond st.space.changed (index (sync_text g st at)) nothing

abbrev pub ask_unless : Option Refusal → Ask → Ask
ask_unless None ask = ask
ask_unless (Some refusal) ask = nothing

-- what a call asks of the tape
abbrev pub ask_of : Given → Standing → Call → Moment → Ask
ask_of g st call at = ask_unless (refusal_of st.tree call) (ask_unrefused g st call at)

-- the bytes that are stored lie as one extent, in a run of new blocks
abbrev pub stored : Given → Bool → Standing → List (List ℕ) → ℕ → Ask → Files
stored g on st path offset (store on_ip bytes) = laid (part_for (rules g) on st.space on_ip bytes)
  where
    new_run : Part → Extent
    new_run part =
        record { offset = offset; part = part; block = end_of part st.space.ends; byte = 0; count = length bytes }

    laid : Part → Files
    laid part = with_file (uid_at st.tree.nodes path) (λ f. overlaid f (new_run part)) st.files
stored g on st path offset _ = st.files

-- a file that is cut, where anything changes
abbrev pub cut_short : Standing → List (List ℕ) → ℕ → Ask → Files
cut_short st path size change = with_file (uid_at st.tree.nodes path) (λ f. resized f size) st.files
cut_short st path size _ = st.files

abbrev pub files_after : Given → Bool → Standing → Call → Ask → Files
files_after g on st (Write path offset bytes) ask = stored g on st path offset ask
files_after g on st (Truncate path size) ask = cut_short st path size ask
files_after g on st _ ask = st.files

-- what a call leaves that is done
abbrev pub after_done : Given → Bool → Standing → Call → Moment → Standing
after_done g on st call at = by (ask_of g st call at)
  where
    by : Ask → Standing
    by ask = record {
      tree = after st.tree call at;
      files = files_after g on st call ask;
      space = space.after (rules g) on st.space ask;
    }

-- what a placement leaves: a void one leaves all as it is
abbrev pub after_placed : Given → Bool → Standing → Placed → Standing
after_placed g on st p = by p.fate (call_at g.calls p)
  where
    by : Fate → Option Call → Standing
    by fates.Void call = st
    by fates.Done None = st
    by fates.Done (Some call) = after_done g on st call p.at

-- what stands after the first k placements, where placement on the index partition is on from a place on
abbrev pub standing : Given → Option ℕ → List Placed → ℕ → Standing
standing g on history k =
    fold (λ st e. after_placed g (is_on g.mounted on e.0) st e.1) (first_standing g) (enumerate_from 0 (take k history))

-- ---- what the placement at a place asks, needs and admits

-- what is asked of the tape at the place k by a call placed at a moment
abbrev pub asked : Given → Option ℕ → List Placed → ℕ → Call → Moment → Ask
asked g on history k call at = ask_of g (standing g on history k) call at

abbrev pub need_at : Given → Option ℕ → List Placed → ℕ → Call → Moment → ℕ
need_at g on history k call at =
    need_of (rules g) (is_on g.mounted on k) (standing g on history k).space (asked g on history k call at)

abbrev pub limit_at : Given → Option ℕ → List Placed → ℕ → Call → Moment → ℕ
limit_at g on history k call at =
    limit_of (rules g) (is_on g.mounted on k) (standing g on history k).space (asked g on history k call at)

-- what the placement at k admits: a void one nothing
abbrev pub admitted_at : Given → Option ℕ → List Placed → ℕ → Placed → List Op
admitted_at g on history k p = by p.fate (call_at g.calls p)
  where
    by : Fate → Option Call → List Op
    by fates.Void call = []
    by fates.Done None = []
    by fates.Done (Some call) =
        ops_of (rules g) (is_on g.mounted on k) (standing g on history k).space (asked g on history k call p.at)

-- all ops of the history in the order of their admission
abbrev pub admitted : Given → Option ℕ → List Placed → List Op
admitted g on history = flat_map (λ e. admitted_at g on history e.0 e.1) (enumerate_from 0 history)
