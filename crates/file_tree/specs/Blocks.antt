-- Which blocks the bytes of a tree's files stand in.
use Rattle.std.specs.Prelude.{◌≡◌, ◌⊎◌, ℕ, ◌<◌}
use Rattle.tape_types.specs.declared.cartridges.Extent.{Extent}
use Rattle.tape_types.specs.declared.cartridges.Part.{Part}
use Rattle.extent_map.specs.Laid.{Laid}
use Rattle.extent_map.specs.Cells.{Tape}
use Rattle.extent_map.specs.Blocks.{StandsIn, FileStandsIn, AreAlikeIn}
use Rattle.file_tree.specs.Tree.{FileTree, HasLaid, plain_of}

-- a byte of some file of the tree stands in the block at this position of a partition
pub record TreeStandsIn (t : FileTree) (part : Part) (pos : ℕ) : Type 0 where
  pub number : ℕ
  pub laid : Laid
  pub file : HasLaid t.nodes number laid
  pub block : FileStandsIn laid part pos

-- each block of the tree after was one of the tree before
abbrev pub AddsNoBlock : FileTree → FileTree → Type 0
AddsNoBlock before next = (part : Part) (pos : ℕ) → TreeStandsIn next part pos → TreeStandsIn before part pos

-- or is one of the extent's
abbrev pub AddsBlocksOf : Extent → FileTree → FileTree → Type 0
AddsBlocksOf new before next = (part : Part) (pos : ℕ)
    → TreeStandsIn next part pos → TreeStandsIn before part pos ⊎ StandsIn before.block_size new part pos

-- the position behind the last block of each partition
abbrev pub Ends : Type 0
Ends = Part → ℕ

-- each block of the extent stands before the end of its partition
abbrev pub ExtentLiesBelow : Ends → ℕ → Extent → Type 0
ExtentLiesBelow ends block_size new = (part : Part) (pos : ℕ) → StandsIn block_size new part pos → pos < ends part

-- each block of the tree does
abbrev pub LiesBelow : Ends → FileTree → Type 0
LiesBelow ends t = (part : Part) (pos : ℕ) → TreeStandsIn t part pos → pos < ends part

-- both tapes have the same bytes before the ends
abbrev pub AgreeBelow : Ends → Tape → Tape → Type 0
AgreeBelow ends one other = AreAlikeIn (λ part pos. pos < ends part) one other

-- two tapes that have the same bytes in the blocks of a tree give the same plain tree
abbrev pub BlocksMakeTheTree : Type 0
BlocksMakeTheTree = (one other : Tape) (t : FileTree) → AreAlikeIn (TreeStandsIn t) one other
    → plain_of one t ≡ plain_of other t

-- Below its ends a tree doesn't see what changes behind them, and what is given blocks below the ends stays below.
pub record EndsHold : Type 0 where
  pub unseen : (ends : Ends) (one other : Tape) (t : FileTree)
      → LiesBelow ends t → AgreeBelow ends one other → plain_of one t ≡ plain_of other t
  pub kept : (ends : Ends) (before next : FileTree) → AddsNoBlock before next → LiesBelow ends before
      → LiesBelow ends next
  pub given : (ends : Ends) (new : Extent) (before next : FileTree) → AddsBlocksOf new before next
      → LiesBelow ends before → ExtentLiesBelow ends before.block_size new → LiesBelow ends next
