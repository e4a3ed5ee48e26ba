-- What the data partition ends with where nothing has changed since its last index, by the items that are planned.
use Rattle.std.specs.Prelude.{◌≡◌, ◌≢◌, ◌≤◌, true, false, List, [], ◌∷◌, ◌++◌, length, Some, Option}
use Rattle.std.specs.List.{AllByRecursion}
use Rattle.tape_types.specs.declared.cartridges.Cartridge.{Cartridge}
use Rattle.tape_types.specs.declared.cartridges.Limits.{Limits}
use Rattle.tape_types.specs.declared.cartridges.Note.TheVariants.{Absent}
use Rattle.tape_types.specs.declared.cartridges.Part.{Part}
use Rattle.tape_types.specs.declared.cartridges.Part.TheVariants.{Ip, Dp}
use Rattle.tape_types.specs.declared.moments.Moment.{Moment}
use Rattle.plain_tree.specs.History.{call_at}
use Rattle.plain_tree.specs.Tree.{Tree}
use Rattle.plain_tree.specs.declared.calls.Call.TheVariants.{Sync}
use Rattle.plain_tree.specs.declared.calls.Fate.TheVariants as fates
use Rattle.plain_tree.specs.declared.calls.Placed.{Placed}
use Rattle.session_script.specs.Grammar.{calls_of}
use Rattle.session_script.specs.declared.logs.Event.{Event}
use Rattle.index_model.specs.declared.indexes.Index.{Index}
use Rattle.ltfs_label.specs.declared.Label.{Label}
use Rattle.content_laws.specs.Ends.{EndsWithLast}
use Rattle.tape_layout.specs.declared.ops.Op.{Op}
use Rattle.cartridge_meaning.specs.Carried.{Carried, carried}
use Rattle.cartridge_meaning.specs.Labels.{HasLabels}
use Rattle.cartridge_meaning.specs.Meaning.{FitsNode, HasOneIndex, IsTreeOf, Reads}
use Rattle.cartridge_meaning.specs.Mounts.{Mounts}
use Rattle.cartridge_meaning.specs.Pointers.{IsLastOnDp, indexes_of, last_block}
use Rattle.cartridge_meaning.specs.declared.labels.Labels.{Labels}
use Rattle.cartridge_meaning.specs.declared.mounted.Mounted.{Mounted}
use Rattle.promises.specs.ImageLaws.Made.{part_items}
use Rattle.promises.specs.ImageLaws.Plans.{IsReady}
use Rattle.space_laws.specs.Space.{Space}
use Rattle.promises.specs.ServingPromise.Ends.{begun}
use Rattle.promises.specs.ServingPromise.Served.{Fixed, View, tree_after}
use Rattle.promises.specs.ServingPromise.Steps.{on_after}
use Rattle.promises.specs.CrashLaws.Laws.{AddsOps, IsNextDue}
use Rattle.promises.specs.CrashLaws.Safe.{Planned, space_now}
use Rattle.volume_state.specs.PlanLaws.Planned.{Items, ends_in, mounted_items, with_ops}
use Rattle.volume_state.specs.ClosingLaws.Ready.{GoesOnBy, HasDpIndex}

-- the items as a cartridge, of which labels, indexes and blocks are read
abbrev pub cartridge_on : Items → Cartridge
cartridge_on planned = record { ip = planned Ip; dp = planned Dp; vcr = 0; note_ip = Absent; note_dp = Absent }

-- the labels of the volume are there, and the next item of each partition is data or the mark that opens an index
pub record IsOpen (label : Label) (planned : Items) : Type 0 where
  pub labels : Labels
  pub label_is : label ≡ labels.ip
  pub has : HasLabels (cartridge_on planned) labels
  pub ip : IsReady (planned Ip)
  pub dp : IsReady (planned Dp)

-- The data partition ends with an index of the newest generation, which tells this tree and carries over these facts.
pub record EndsWithTree (label : Label) (facts : Carried) (tree : Tree) (space : Space) (planned : Items) : Type 0 where
  pub index : Index
  pub some : indexes_of (planned Dp) ≢ []
  pub reads : IsLastOnDp label (indexes_of (planned Dp)) (Some index)
  pub ends : EndsWithLast (planned Dp) (indexes_of (planned Dp))
  pub generation : index.generation ≡ space.newest
  pub facts_are : facts ≡ carried index
  pub within : AllByRecursion (FitsNode label (length (planned Ip)) (length (planned Dp))) index.nodes
  pub tree_is : IsTreeOf label (cartridge_on planned) index tree

-- Of a volume: both partitions may go on with an index, and the last one on the data partition stands where the space
-- says. Where nothing has changed since that one, and it was mounted at the end or admitted in this run, it tells the
-- tree
-- of the whole history.
pub record IsIndexed {D : Type 0} (planned : Items) (limits : Limits) (v : View D) : Type 0 where
  pub open_ends : IsOpen v.fixed.mounted.label planned
  pub last : (space_now limits v).last_dp ≡ last_block (indexes_of (planned Dp))
  pub told : (space_now limits v).changed ≡ false → HasDpIndex v (space_now limits v)
      → EndsWithTree v.fixed.mounted.label (carried v.fixed.mounted.index) (tree_after v (length v.history))
      (space_now limits v) planned

-- ---- laws

-- the index of a sync that is placed next is due where anything changed before it, with whatever plan of these items
abbrev pub SyncsAreDueOn : {D : Type 0} → Items → Limits → View D → View D → Type 0
SyncsAreDueOn planned limits old new = (p : Planned) → old.fixed.mounted.label ≡ p.labels.ip
    → ((part : Part) → part_items part p.made ≡ planned part) → (placed : Placed)
    → new.history ≡ old.history ++ placed ∷ [] → placed.fate ≡ fates.Done
    → call_at (calls_of old.fixed.script) placed ≡ Some Sync → (space_now limits old).changed ≡ true
    → IsNextDue p limits old placed.at

-- so it is from a mount on, and stays so over each submission and each turn, also one that places a write void
pub record IndexesStay (D : Type 0) : Type 0 where
  pub begins : (planned : Items) (limits : Limits) (fixed : Fixed D) (next : Option Moment) (c : Cartridge)
      → Mounts c fixed.mounted → Reads c (carried fixed.mounted.index) fixed.tree fixed.mounted.newest
      → ((part : Part) → planned part ≡ mounted_items c part) → IsIndexed planned limits (begun fixed next)
  pub submitted : (planned : Items) (limits : Limits) (old new : View D) (asked : List Op)
      → IsIndexed planned limits old → new.ops ≡ old.ops ++ asked → AddsOps limits old new → new.fixed ≡ old.fixed
      → new.on ≡ old.on → GoesOnBy old new → (space_now limits old).ends ≡ ends_in planned
      → 1 ≤ old.fixed.mounted.label.block → SyncsAreDueOn planned limits old new
      → IsIndexed (with_ops asked planned) limits new
  pub turned : (planned : Items) (limits : Limits) (old new : View D) (added : List Event)
      → IsIndexed planned limits old → new.fixed ≡ old.fixed → new.history ≡ old.history
      → new.on ≡ on_after old added → IsIndexed planned limits new
  pub voided : (planned : Items) (limits : Limits) (old new : View D) (added : List Event) (placed : Placed)
      → IsIndexed planned limits old → new.fixed ≡ old.fixed → new.history ≡ old.history ++ placed ∷ []
      → placed.fate ≡ fates.Void → new.on ≡ on_after old added → IsIndexed planned limits new
  -- no index comes to the index partition, on which none is left where it had one at most
  pub alone : (planned : Items) (c : Cartridge) (m : Mounted) → Mounts c m → HasOneIndex c
      → planned Ip ≡ mounted_items c Ip → indexes_of (planned Ip) ≡ []
  pub none_more : (planned : Items) (limits : Limits) (old new : View D) (asked : List Op)
      → IsIndexed planned limits old → new.ops ≡ old.ops ++ asked → AddsOps limits old new → GoesOnBy old new
      → indexes_of (with_ops asked planned Ip) ≡ indexes_of (planned Ip)
