-- A view of a generation: its tree, and where its index stands.
use Rattle.std.specs.Prelude.{ℕ, ◌≡◌, ◌≤◌, ◌<◌, List, ◌∷◌, [], ◌++◌, length, Option, None, IfSome}
use Rattle.std.specs.List.{AllByRecursion}
use Rattle.tape_types.specs.declared.cartridges.Cartridge.{Cartridge}
use Rattle.tape_types.specs.declared.cartridges.Limits.{Limits}
use Rattle.tape_types.specs.declared.cartridges.Part.TheVariants.{Dp}
use Rattle.tape_types.specs.Cartridges.{capacity, items_of}
use Rattle.tape_drive.specs.declared.drive.Drive.{Ghosts}
use Rattle.extent_map.specs.Cells.{tape_of}
use Rattle.file_tree.specs.Blocks.{Ends, LiesBelow}
use Rattle.file_tree.specs.Mounts as mounts
use Rattle.file_tree.specs.Tree.{FileTree, plain_of}
use Rattle.index_model.specs.declared.indexes.Index.{Index}
use Rattle.index_model.specs.declared.indexes.Spot.{Spot}
use Rattle.ltfs_label.specs.declared.Label.{Label}
use Rattle.content_laws.specs.Readings.{Construct, first_of}
use Rattle.cartridge_meaning.specs.Faults.{MountFault}
use Rattle.cartridge_meaning.specs.Meaning.{FitsNode, Found}
use Rattle.cartridge_meaning.specs.Pointers.{indexes_of}
use Rattle.mount_recover.specs.Lasts.{IsSound}
use Rattle.generation_view.specs.Chain.{AreLinks, AreNewer, GenTree, IsBefore, IsBrokenOnWay, IsChain}
use Rattle.generation_view.specs.Chain.{LacksGeneration, behind}
use Rattle.generation_view.specs.declared.errors.ViewErr.{ViewErr}
use Rattle.generation_view.specs.declared.errors.ViewErr.TheVariants as errors
use Rattle.generation_view.specs.declared.ways.Way.{Way}
use Rattle.generation_view.specs.declared.ways.Way.TheVariants as ways
use Rattle.generation_view.specs.declared.seeking.Sought.{Sought}
use Rattle.generation_view.specs.declared.seeking.Sought.TheVariants as sights

-- ---- the way back

-- behind these links stands the index with this first block, which is a link too
pub record EndsAt (c : Cartridge) (found : Found c) (newer : List Index) (block : ℕ) (index : Index) : Type 0 where
  pub links_are : AreLinks found.labels.ip c None (indexes_of c.dp) (newer ++ index ∷ [])
  pub k : Construct
  pub older : List Construct
  pub stands : behind (indexes_of c.dp) newer ≡ k ∷ older
  pub block_is : block ≡ first_of k
  pub within : AllByRecursion (IsBefore found.labels.ip c k) index.nodes

-- how the way back to a generation ends
abbrev pub IsWayAs : (c : Cartridge) → Found c → ℕ → Way → Type 0
IsWayAs c found generation (ways.Link block index) =
    (newer : List Index) × EndsAt c found newer block index × AreNewer generation newer
    × ¬ (generation < index.generation)
IsWayAs c found generation ways.Ended =
    (links : List Index) × IsChain c found links × AreNewer generation links
IsWayAs c found generation (ways.Broken block why) = IsBrokenOnWay c found generation block why

-- whether or not the drive tells: the index is sound, and its extents end before an end of the index partition and
-- before a mark that lies within a capacity
pub record IsSoundLink (label : Label) (end_ip capacity : ℕ) (index : Index) : Type 0 where
  pub sound : IsSound label index
  pub mark : ℕ
  pub within : mark ≤ capacity
  pub fits : AllByRecursion (FitsNode label end_ip mark) index.nodes

abbrev pub IsSoundWay : Label → (end_ip capacity : ℕ) → Way → Type 0
IsSoundWay label end_ip capacity (ways.Link block index) = IsSoundLink label end_ip capacity index
IsSoundWay label end_ip capacity ways.Ended = Unit {0}
IsSoundWay label end_ip capacity (ways.Broken block why) = Unit {0}

-- the index to which it leads can be made a tree
abbrev pub CanBeTree : Label → Way → Type 0
CanBeTree label (ways.Link block index) = mounts.CanMount index (label.index, label.dpart) label.block
CanBeTree label ways.Ended = Unit {0}
CanBeTree label (ways.Broken block why) = Unit {0}

-- what is made of such a way
abbrev pub IsMadeOf : Label → ℕ → Way → Sought → Type 0
IsMadeOf label generation (ways.Link block index) (sights.There tree spot) =
    ¬ (index.generation < generation) × mounts.IsTreeOf (label.index, label.dpart) label.block index tree
    × (spot ≡ record { letter = label.dpart; block = block })
IsMadeOf label generation (ways.Link block index) sights.Lacking = index.generation < generation
IsMadeOf label generation ways.Ended sights.Lacking = Unit {0}
IsMadeOf label generation (ways.Broken block why) (sights.Broken other reason) = (other ≡ block) × (reason ≡ why)
IsMadeOf label generation way sought = ⊥

-- ---- what is found of a generation

-- where a drive has room
abbrev pub capacities : Limits → Ends
capacities limits part = capacity part limits

-- where the items of a cartridge end
abbrev pub item_ends : Cartridge → Ends
item_ends c part = length (items_of part c)

-- the tree of a generation is there, of the index that stands there, and names only blocks that the cartridge has
pub record IsThere (c : Cartridge) (found : Found c) (generation : ℕ) (tree : FileTree) (spot : Spot) : Type 0 where
  pub gen : GenTree c found generation (plain_of (tape_of c) tree)
  pub made : gen.tree_is.0 ≡ tree
  pub k : Construct
  pub older : List Construct
  pub stands : behind (indexes_of c.dp) gen.newer ≡ k ∷ older
  pub spot_is : spot ≡ record { letter = found.labels.ip.dpart; block = first_of k }
  pub below : LiesBelow (item_ends c) tree

abbrev pub IsSought : (c : Cartridge) → Found c → ℕ → Sought → Type 0
IsSought c found generation (sights.There tree spot) = IsThere c found generation tree spot
IsSought c found generation sights.Lacking = LacksGeneration c found generation
IsSought c found generation (sights.Broken block why) = IsBrokenOnWay c found generation block why

-- whether or not the drive tells: the tree names only places that the drive has
abbrev pub IsSoundSought : Limits → Sought → Type 0
IsSoundSought limits (sights.There tree spot) = LiesBelow (capacities limits) tree
IsSoundSought limits sights.Lacking = Unit {0}
IsSoundSought limits (sights.Broken block why) = Unit {0}

-- Why there is no view: the cartridge doesn't mount, the way to the generation breaks, or it is sound and has none. A
-- failed drive and refused memory tell nothing of it.
abbrev pub RefusesView : ℕ → ViewErr → Cartridge → Type 0
RefusesView generation (errors.Mount e) c = MountFault c e
RefusesView generation (errors.Broken place why) c =
    (place.part ≡ Dp) × ((found : Found c) × IsBrokenOnWay c found generation place.pos why)
RefusesView generation (errors.NoGeneration number) c =
    (number ≡ generation) × ((found : Found c) × LacksGeneration c found generation)
RefusesView generation (errors.Drive counts) c = Unit {0}
RefusesView generation errors.NoMemory c = Unit {0}

-- ---- a view

-- its tree, its generation, and where the index of that stands; and what the drive told and had room for as it was
-- opened
pub record Opened : Type 0 where
  pub tree : FileTree
  pub generation : ℕ
  pub spot : Spot
  pub told : Option Cartridge
  pub limits : Limits

-- the tree names only places that the drive had, and only blocks that the cartridge had, where the drive told it
pub record CanBeRead (told : Option Cartridge) (limits : Limits) (tree : FileTree) : Type 0 where
  pub room : LiesBelow (capacities limits) tree
  pub there : IfSome told (λ c. LiesBelow (item_ends c) tree)

-- A view shows the tree of a generation of a cartridge, as its index has it, and where that stands.
pub record IsViewOf (generation : ℕ) (c : Cartridge) (view : Opened) : Type 0 where
  pub found : Found c
  pub gen : GenTree c found generation (plain_of (tape_of c) view.tree)
  pub made : gen.tree_is.0 ≡ view.tree
  pub k : Construct
  pub older : List Construct
  pub stands : behind (indexes_of c.dp) gen.newer ≡ k ∷ older
  pub spot_is : view.spot ≡ record { letter = found.labels.ip.dpart; block = first_of k }

-- it was opened on a drive that is so
pub record IsOpenOn {D : Type 0} (drive : Ghosts D) (now : D) (generation : ℕ) (view : Opened) : Type 0 where
  pub generation_is : view.generation ≡ generation
  pub told : view.told ≡ drive.held now
  pub limits : view.limits ≡ drive.limits now
