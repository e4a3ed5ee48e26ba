-- The indexes that a run has put on the data partition of its volume, over those that stood there before.
use Rattle.std.specs.Prelude.{ℕ, ◌≡◌, ◌≢◌, ◌+◌, ◌≤◌, ◌<◌, ◌&&◌, not, if◌then◌else◌, List, [], ◌∷◌, ◌++◌, length, reverse}
use Rattle.std.specs.Prelude.{Option, Some, None, IfSome}
use Rattle.std.specs.List.{AllByRecursion, enumerate_from, flat_map}
use Rattle.tape_types.specs.declared.cartridges.Cartridge.{Cartridge}
use Rattle.tape_types.specs.declared.cartridges.Limits.{Limits}
use Rattle.tape_types.specs.declared.cartridges.Part.{Part}
use Rattle.tape_types.specs.declared.cartridges.Part.TheVariants.{Ip}
use Rattle.tape_types.specs.declared.moments.Moment.{Moment}
use Rattle.plain_tree.specs.History.{call_at}
use Rattle.plain_tree.specs.Tree.{Tree}
use Rattle.plain_tree.specs.declared.calls.Call.{Call}
use Rattle.plain_tree.specs.declared.calls.Call.TheVariants.{Sync}
use Rattle.plain_tree.specs.declared.calls.Fate.{Fate}
use Rattle.plain_tree.specs.declared.calls.Fate.TheVariants as fates
use Rattle.plain_tree.specs.declared.calls.Placed.{Placed}
use Rattle.session_script.specs.declared.logs.Event.{Event}
use Rattle.index_model.specs.declared.indexes.Index.{Index}
use Rattle.ltfs_label.specs.declared.Label.{Label}
use Rattle.content_laws.specs.Readings.{Construct}
use Rattle.tape_layout.specs.declared.ops.Op.{Op}
use Rattle.cartridge_meaning.specs.Labels.{HasLabels}
use Rattle.cartridge_meaning.specs.Meaning.{FitsNode, IsTreeOf, ip_end}
use Rattle.cartridge_meaning.specs.Mounts.{Mounts}
use Rattle.cartridge_meaning.specs.Pointers.{IsOfVolume, PointsOnDp, indexes_of}
use Rattle.cartridge_meaning.specs.declared.labels.Labels.{Labels}
use Rattle.space_laws.specs.Closing.{is_dp_due}
use Rattle.space_laws.specs.Mount.{was_sealed}
use Rattle.space_laws.specs.Space as space
use Rattle.space_laws.specs.Space.{Ask}
use Rattle.space_laws.specs.Standing.{Given, Standing, ask_of, standing}
use Rattle.promises.specs.ServingPromise.Ends.{begun}
use Rattle.promises.specs.ServingPromise.Served.{Fixed, View, tree_after}
use Rattle.promises.specs.ServingPromise.Steps.{on_after}
use Rattle.promises.specs.CrashLaws.Laws.{AddsOps}
use Rattle.promises.specs.CrashLaws.Safe.{given_by, space_now}
use Rattle.volume_state.specs.PlanLaws.Planned.{Items, ends_in, mounted_items, with_ops}
use Rattle.volume_state.specs.ClosingLaws.Indexed.{IsIndexed, SyncsAreDueOn, cartridge_on}
use Rattle.volume_state.specs.ClosingLaws.Ready.{GoesOnBy}

-- ---- where a history admits an index

-- an ask of an index comes from this place
abbrev pub place_of_index : ℕ → Ask → List ℕ
place_of_index k (space.index text) = k ∷ []
place_of_index k _ = []

abbrev pub index_here : Given → Standing → ℕ → Fate → Option Call → Moment → List ℕ
index_here g st k fates.Void call at = []
index_here g st k fates.Done None at = []
index_here g st k fates.Done (Some call) at = place_of_index k (ask_of g st call at)

-- the place, where its placement admits an index: it is a sync that is done, before which the tree had changed
abbrev pub indexed_at : Given → Option ℕ → List Placed → ℕ → Placed → List ℕ
indexed_at g on history k p = index_here g (standing g on history k) k p.fate (call_at g.calls p) p.at

-- the places at which a history admits an index, in order
abbrev pub own_places : Given → Option ℕ → List Placed → List ℕ
own_places g on history = flat_map (λ e. indexed_at g on history e.0 e.1) (enumerate_from 0 history)

-- with that of a close, at the end of the history, where one is due on the data partition; a close of a volume that was
-- mounted as sealed has none
abbrev pub all_places : Given → Option ℕ → List Placed → List ℕ
all_places g on history = own_places g on history
    ++ (if not (was_sealed g.mounted.index) && is_dp_due g (standing g on history (length history)).space
    then length history ∷ [] else [])

-- ---- indexes on a data partition

-- An index of the data partition is a link of the chain, where the index partition ends here: it is of the volume, its
-- pointers are right, it is older than the one after it, and what it names stands before it.
pub record IsLinkBelow (label : Label) (end_ip : ℕ) (k : Construct) (older : List Construct) (after : Option ℕ)
    (index : Index) : Type 0 where
  pub of_volume : IsOfVolume label k index
  pub points : PointsOnDp label k older index
  pub rises : IfSome after (λ generation. index.generation < generation)
  pub within : AllByRecursion (FitsNode label end_ip k.mark) index.nodes

-- the first of these are links with these values, and behind them come the older ones
abbrev pub LinkDownTo : Label → ℕ → Option ℕ → (older ks : List Construct) → List Index → Type 0
LinkDownTo label end_ip after older ks [] = ks ≡ older
LinkDownTo label end_ip after older [] (index ∷ more) = ⊥
LinkDownTo label end_ip after older (k ∷ ks) (index ∷ more) =
    IsLinkBelow label end_ip k ks after index × LinkDownTo label end_ip (Some index.generation) older ks more

-- An index tells this tree, with the bytes that stand on the cartridge, and has this generation.
pub record TellsTree (label : Label) (end_ip : ℕ) (c : Cartridge) (generation : ℕ) (tree : Tree) (index : Index)
    : Type 0 where
  pub generation_is : index.generation ≡ generation
  pub within : AllByRecursion (FitsNode label end_ip (length c.dp)) index.nodes
  pub tree_is : IsTreeOf label c index tree

-- each of these tells the tree of its place, the newest first, and the generations go up by one from this one on
abbrev pub TellTrees : Label → ℕ → Cartridge → ℕ → (ℕ → Tree) → List ℕ → List Index → Type 0
TellTrees label end_ip c newest tree [] [] = Unit {0}
TellTrees label end_ip c newest tree (place ∷ places) (index ∷ more) =
    TellsTree label end_ip c (newest + length (place ∷ places)) (tree place) index
    × TellTrees label end_ip c newest tree places more
TellTrees label end_ip c newest tree places indexes = ⊥

-- The top of a data partition are the indexes of these places, the newest first, over the older ones.
pub record HasOwn (label : Label) (end_ip : ℕ) (c : Cartridge) (newest : ℕ) (tree : ℕ → Tree) (older : List Construct)
    (places : List ℕ) : Type 0 where
  pub own : List Index
  pub links : LinkDownTo label end_ip None older (indexes_of c.dp) own
  pub trees : TellTrees label end_ip c newest tree places own

-- ---- of a volume

-- what is planned of the data partition has an index for each place at which the history has admitted one, over those
-- that stood there at the start
pub record KeepsOwn {D : Type 0} (planned : Items) (limits : Limits) (older : List Construct) (v : View D)
    : Type 0 where
  pub has : HasOwn v.fixed.mounted.label (length (planned Ip)) (cartridge_on planned) v.fixed.mounted.newest
      (tree_after v) older (reverse (own_places (given_by limits v) v.on v.history))
  pub within : AllByRecursion (λ place. place ≤ length v.history)
      (reverse (own_places (given_by limits v) v.on v.history))
  pub newest_is : (space_now limits v).newest
      ≡ v.fixed.mounted.newest + length (reverse (own_places (given_by limits v) v.on v.history))

-- so it is from a mount on, and stays so over each submission and each turn, also one that places a write void
pub record OwnIndexesStay (D : Type 0) : Type 0 where
  pub begins : (planned : Items) (limits : Limits) (fixed : Fixed D) (next : Option Moment) (c : Cartridge)
      → Mounts c fixed.mounted → ((part : Part) → planned part ≡ mounted_items c part)
      → KeepsOwn planned limits (indexes_of c.dp) (begun fixed next)
  pub submitted : (planned : Items) (limits : Limits) (older : List Construct) (old new : View D) (asked : List Op)
      → KeepsOwn planned limits older old → IsIndexed planned limits old → new.ops ≡ old.ops ++ asked
      → AddsOps limits old new → new.fixed ≡ old.fixed → new.on ≡ old.on → GoesOnBy old new
      → (space_now limits old).ends ≡ ends_in planned → 1 ≤ old.fixed.mounted.label.block
      → SyncsAreDueOn planned limits old new → KeepsOwn (with_ops asked planned) limits older new
  pub turned : (planned : Items) (limits : Limits) (older : List Construct) (old new : View D) (added : List Event)
      → KeepsOwn planned limits older old → new.fixed ≡ old.fixed → new.history ≡ old.history
      → new.on ≡ on_after old added → KeepsOwn planned limits older new
  pub voided : (planned : Items) (limits : Limits) (older : List Construct) (old new : View D) (added : List Event)
      (placed : Placed) → KeepsOwn planned limits older old → new.fixed ≡ old.fixed
      → new.history ≡ old.history ++ placed ∷ [] → placed.fate ≡ fates.Void → new.on ≡ on_after old added
      → KeepsOwn planned limits older new

-- ---- syncs

-- Behind the sync at a place the newest index is that of this place, which tells the tree that the sync covers.
pub record IsCovered (g : Given) (on : Option ℕ) (history : List Placed) (k : ℕ) : Type 0 where
  pub earlier : List ℕ
  pub place : ℕ
  pub later : List ℕ
  pub are : own_places g on history ≡ earlier ++ place ∷ later
  pub newest : (standing g on history (k + 1)).space.newest ≡ g.mounted.newest + length earlier + 1
  pub tree : (standing g on history k).tree ≡ (standing g on history place).tree

-- so it is of each sync that is done, at or before which the history has admitted an index
abbrev pub SyncsAreCovered : Type 0
SyncsAreCovered = (g : Given) (on : Option ℕ) (front : List Placed) (p : Placed) (rest : List Placed)
    → p.fate ≡ fates.Done → call_at g.calls p ≡ Some Sync → own_places g on (front ++ p ∷ []) ≢ []
    → IsCovered g on (front ++ p ∷ rest) (length front)

-- ---- of a cartridge that was closed

-- The top of the data partition are the run's own indexes, the newest first, in the order in which the history and then
-- the close admit them, over those that stood there at the start. Each is a link of the chain. The labels are those of
-- the mount.
pub record LeavesOwn {D : Type 0} (limits : Limits) (first held : Cartridge) (v : View D) : Type 0 where
  pub labels : Labels
  pub has_labels : HasLabels held labels
  pub label_is : v.fixed.mounted.label ≡ labels.ip
  pub has : HasOwn v.fixed.mounted.label (ip_end held) held v.fixed.mounted.newest (tree_after v) (indexes_of first.dp)
      (reverse (all_places (given_by limits v) v.on v.history))
