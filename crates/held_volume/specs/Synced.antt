-- What the index of a sync tells.
use Rattle.std.specs.Prelude.{◌≡◌, ◌≢◌, ◌+◌, ◌<◌, ◌≤◌, ◌^◌, Bool, true, false, IfSome}
use Rattle.tape_types.specs.Cartridges.{IsLimits}
use Rattle.tape_types.specs.declared.cartridges.Limits.{Limits}
use Rattle.tape_types.specs.declared.moments.Moment.{Moment}
use Rattle.tape_types.specs.declared.cartridges.Part.TheVariants.{Dp}
use Rattle.extent_map.specs.Cells.{Tape}
use Rattle.index_model.specs.Valid.{IsValid}
use Rattle.index_model.specs.declared.indexes.Index.{Index}
use Rattle.file_tree.specs.Carried.{AreFitFacts, carried_of}
use Rattle.file_tree.specs.Indexes.{AreLetters, TellsTree}
use Rattle.file_tree.specs.Mounts.{CanMount, IsTreeOf}
use Rattle.file_tree.specs.Tree.{FileTree, plain_of}
use Rattle.file_tree.specs.Valid.{IsGood}
use Rattle.space_laws.specs.Files.{canon, index_at, letters}
use Rattle.plain_tree.specs.declared.calls.Call.{Call}
use Rattle.plain_tree.specs.declared.calls.Call.TheVariants.{Sync}
use Rattle.cartridge_meaning.specs.Mounts.{IsMount}
use Rattle.cartridge_meaning.specs.declared.mounted.Mounted.{Mounted}
use Rattle.space_laws.specs.Space.{is_over}
use Rattle.space_laws.specs.Standing.{Given, Standing, after_done, ask_of, first_standing, rules, sync_text}
use Rattle.held_volume.specs.Mounted.{mounted_facts}
use Rattle.held_volume.specs.Stocks.{IsStock, Stocked}

-- the index of a sync of what stands
abbrev pub index_of_sync : Given → Standing → Moment → Index
index_of_sync g st at =
    index_at g.mounted st.tree st.files (st.space.newest + 1) at Dp (st.space.ends.dp + 1) st.space.last_dp

-- the last index of the data partition has a near place
abbrev pub IsBackNear : Standing → Type 0
IsBackNear st = IfSome st.space.last_dp (λ block. block ≤ 2 ^ 62)

-- the volume has two letters, a UUID of its range, carried facts as they may be, a generation left, and near places
pub record CanTell (g : Given) (st : Standing) : Type 0 where
  pub letters_are : AreLetters (letters g.mounted)
  pub differ : (letters g.mounted).0 ≢ (letters g.mounted).1
  pub uuid : g.mounted.label.uuid < 2 ^ 128
  pub facts : AreFitFacts (carried_of g.mounted.index)
  pub generation : st.space.newest + 1 ≤ 2 ^ 62
  pub here : st.space.ends.dp + 1 ≤ 2 ^ 62
  pub back : IsBackNear st

-- It is valid, its text is the one that a sync admits, it can be mounted, and is mounted as the tree that stands.
pub record TellsSynced (tape : Tape) (g : Given) (st : Standing) (tree : FileTree) (at : Moment) : Type 0 where
  pub valid : IsValid (index_of_sync g st at)
  pub text : sync_text g st at ≡ canon (index_of_sync g st at)
  pub tells : TellsTree (letters g.mounted) tree (index_of_sync g st at)
  pub mounts : CanMount (index_of_sync g st at) (letters g.mounted) tree.block_size
  pub same : (other : FileTree) → IsTreeOf (letters g.mounted) tree.block_size (index_of_sync g st at) other
      → plain_of tape other ≡ st.tree

-- so it is of each state that is held
abbrev pub SyncsTellTheTree : Type 0
SyncsTellTheTree =
    (tape : Tape) (g : Given) (on : Bool) (st : Standing) (s : Stocked) (at : Moment) → IsStock tape g on st s
    → IsGood s.tree → CanTell g st → TellsSynced tape g st s.tree at

-- the volume was mounted so, over these capacities
pub record IsMounted (limits : Limits) (m : Mounted) (g : Given) : Type 0 where
  pub range : IsLimits limits
  pub mount : IsMount limits m
  pub facts : g.mounted ≡ mounted_facts m
  pub limits_are : g.limits ≡ limits

-- Where a sync of what has changed fits, the last index being near, its index can be told. The last index is near at
-- the mount, and stays so behind each call that fits.
pub record SyncsCanTell : Type 0 where
  pub tells : (limits : Limits) (m : Mounted) (g : Given) (on : Bool) (st : Standing) (at : Moment)
      → IsMounted limits m g → st.space.changed ≡ true → is_over (rules g) on st.space (ask_of g st Sync at) ≡ false
      → IsBackNear st → CanTell g st
  pub first : (limits : Limits) (m : Mounted) (g : Given) → IsMounted limits m g → IsBackNear (first_standing g)
  pub kept : (limits : Limits) (m : Mounted) (g : Given) (on : Bool) (st : Standing) (call : Call) (at : Moment)
      → IsMounted limits m g → is_over (rules g) on st.space (ask_of g st call at) ≡ false → IsBackNear st
      → IsBackNear (after_done g on st call at)
