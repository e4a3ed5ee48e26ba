-- Earlier generations: the indexes of a data partition, from the last one back (LTFS 2.4 on back pointers).
use Rattle.std.specs.Prelude.{ℕ, ◌≡◌, ◌≢◌, ◌⊎◌, ◌<◌, List, [], ◌∷◌, ◌++◌, Option, Some, None, IfSome}
use Rattle.std.specs.List.{AllByRecursion}
use Rattle.tape_types.specs.declared.cartridges.Cartridge.{Cartridge}
use Rattle.plain_tree.specs.Tree.{Tree}
use Rattle.index_model.specs.Grammar.{IndexText, Stops}
use Rattle.index_model.specs.declared.indexes.Index.{Index}
use Rattle.index_model.specs.declared.nodes.Node.{Node}
use Rattle.ltfs_label.specs.declared.Label.{Label}
use Rattle.content_laws.specs.Readings.{Construct, first_of}
use Rattle.cartridge_meaning.specs.Meaning.{FitsNode, Found, IsTreeOf, ip_end}
use Rattle.cartridge_meaning.specs.Pointers.{IsOfVolume, PointsOnDp, indexes_of, text_of}
use Rattle.mount_recover.specs.Lasts.{IsFirstOutside}
use Rattle.generation_view.specs.declared.errors.BreakWhy.{BreakWhy}
use Rattle.generation_view.specs.declared.errors.BreakWhy.TheVariants as breaks

-- ---- one index of the chain

-- its generation is below that of the one after it, where there is one
abbrev pub IsOlder : Index → Option ℕ → Type 0
IsOlder index after = IfSome after (λ generation. index.generation < generation)

-- a node's extents end before the index partition's end, and on the data partition before the mark that opens the index
abbrev pub IsBefore : Label → Cartridge → Construct → Node → Type 0
IsBefore label c k node = FitsNode label (ip_end c) k.mark node

-- An index of the data partition, behind these older ones and before one of a generation, is a link of the chain: it is
-- of the volume, its pointers are right, it is older than the one after it, and what it names stands before it.
pub record IsLink (label : Label) (c : Cartridge) (k : Construct) (older : List Construct) (after : Option ℕ)
    (index : Index) : Type 0 where
  pub of_volume : IsOfVolume label k index
  pub points : PointsOnDp label k older index
  pub rises : IsOlder index after
  pub within : AllByRecursion (IsBefore label c k) index.nodes

-- it is none, since this test is the first that fails; an extent's is told with the UID of the first such file
abbrev pub Breaks : Label → Cartridge → Construct → List Construct → Option ℕ → BreakWhy → Type 0
Breaks label c k older after (breaks.Text e) = Stops (text_of k) e
Breaks label c k older after breaks.Volume =
    (index : Index) × IndexText (text_of k) index × (index.uuid ≢ label.uuid)
Breaks label c k older after breaks.Pointer =
    (index : Index) × IsOfVolume label k index × ¬ PointsOnDp label k older index
Breaks label c k older after breaks.Rises =
    (index : Index) × IsOfVolume label k index × PointsOnDp label k older index × ¬ IsOlder index after
Breaks label c k older after (breaks.Extent uid) =
    (index : Index) × IsOfVolume label k index × PointsOnDp label k older index × IsOlder index after
    × IsFirstOutside label (ip_end c) k.mark index.nodes uid

-- ---- the chain

-- the first of these indexes of the data partition, the newest first, are links with these values
abbrev pub AreLinks : Label → Cartridge → Option ℕ → List Construct → List Index → Type 0
AreLinks label c after ks [] = Unit {0}
AreLinks label c after [] (index ∷ more) = ⊥
AreLinks label c after (k ∷ older) (index ∷ more) =
    IsLink label c k older after index × AreLinks label c (Some index.generation) older more

-- the generation of the last of these, or that of the one after them
abbrev pub last_generation : Option ℕ → List Index → Option ℕ
last_generation after [] = after
last_generation after (index ∷ more) = last_generation (Some index.generation) more

-- the indexes behind so many as these
abbrev pub behind : List Construct → List Index → List Construct
behind ks [] = ks
behind [] (index ∷ more) = []
behind (k ∷ older) (index ∷ more) = behind older more

-- The whole chain of a cartridge that mounts, the newest first.
pub record IsChain (c : Cartridge) (found : Found c) (links : List Index) : Type 0 where
  pub links_are : AreLinks found.labels.ip c None (indexes_of c.dp) links
  pub whole : behind (indexes_of c.dp) links ≡ []

-- the chain breaks behind these newer links, at the index with this first block
pub record IsBrokenBehind (c : Cartridge) (found : Found c) (newer : List Index) (block : ℕ) (why : BreakWhy)
    : Type 0 where
  pub links_are : AreLinks found.labels.ip c None (indexes_of c.dp) newer
  pub k : Construct
  pub older : List Construct
  pub stands : behind (indexes_of c.dp) newer ≡ k ∷ older
  pub block_is : block ≡ first_of k
  pub fails : Breaks found.labels.ip c k older (last_generation None newer) why

-- ---- one generation

abbrev pub AreNewer : ℕ → List Index → Type 0
AreNewer generation indexes = AllByRecursion (λ i. generation < i.generation) indexes

-- The way back to a generation: these links are newer, and the index behind them, a link too, isn't.
pub record IsWayTo (c : Cartridge) (found : Found c) (generation : ℕ) (newer : List Index) (index : Index)
    : Type 0 where
  pub links_are : AreLinks found.labels.ip c None (indexes_of c.dp) (newer ++ index ∷ [])
  pub are_newer : AreNewer generation newer
  pub is_not : ¬ (generation < index.generation)

-- the tree of a generation
pub record GenTree (c : Cartridge) (found : Found c) (generation : ℕ) (tree : Tree) : Type 0 where
  pub newer : List Index
  pub index : Index
  pub way : IsWayTo c found generation newer index
  pub generation_is : index.generation ≡ generation
  pub tree_is : IsTreeOf found.labels.ip c index tree

-- the way is sound, and has no such generation: it comes to an older one, or to the end of the chain
abbrev pub LacksGeneration : (c : Cartridge) → Found c → ℕ → Type 0
LacksGeneration c found generation =
    ((newer : List Index) × (index : Index) × IsWayTo c found generation newer index
    × (index.generation < generation))
    ⊎ ((links : List Index) × IsChain c found links × AreNewer generation links)

-- the way breaks at the index with this first block
abbrev pub IsBrokenOnWay : (c : Cartridge) → Found c → ℕ → ℕ → BreakWhy → Type 0
IsBrokenOnWay c found generation block why =
    (newer : List Index) × IsBrokenBehind c found newer block why × AreNewer generation newer
