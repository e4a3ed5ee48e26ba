-- Trees whose blocks stand behind the labels with which both partitions begin.
use Rattle.std.specs.Prelude.{ℕ, ◌≤◌}
use Rattle.std.specs.List.{AllByRecursion}
use Rattle.tape_types.specs.declared.cartridges.Extent.{Extent}
use Rattle.tape_types.specs.declared.cartridges.Part.{Part}
use Rattle.index_model.specs.declared.indexes.Index.{Index}
use Rattle.ltfs_label.specs.declared.Label.{Label}
use Rattle.file_tree.specs.Blocks.{AddsBlocksOf, AddsNoBlock, TreeStandsIn}
use Rattle.file_tree.specs.Mounts.{IsTreeOf, Letters}
use Rattle.file_tree.specs.Tree.{FileTree}
use Rattle.cartridge_meaning.specs.Meaning.{FitsNode}

-- a label takes the first four positions of a partition; each block of the tree stands behind them
abbrev pub BeginsBehindLabels : FileTree → Type 0
BeginsBehindLabels t = (part : Part) (pos : ℕ) → TreeStandsIn t part pos → 4 ≤ pos

-- So it is of the tree of an index whose extents lie within a volume, as those of each mounted one do. It stays so
-- where no block is added, and where the blocks of an extent are added that begins behind the labels.
pub record TreesBeginBehindLabels : Type 0 where
  pub mounted : (label : Label) (ip dp : ℕ) (letters : Letters) (size : ℕ) (index : Index) (t : FileTree)
      → AllByRecursion (FitsNode label ip dp) index.nodes → IsTreeOf letters size index t → BeginsBehindLabels t
  pub kept : (before next : FileTree) → AddsNoBlock before next → BeginsBehindLabels before → BeginsBehindLabels next
  pub given : (new : Extent) (before next : FileTree) → AddsBlocksOf new before next → 4 ≤ new.block
      → BeginsBehindLabels before → BeginsBehindLabels next
