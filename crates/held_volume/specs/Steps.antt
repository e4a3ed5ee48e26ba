-- What a call makes of the tree that is held.
use Rattle.std.specs.Prelude.{◌≡◌, ℕ, List}
use Rattle.tape_types.specs.declared.cartridges.Extent.{Extent}
use Rattle.tape_types.specs.declared.moments.Moment.{Moment}
use Rattle.extent_map.specs.Blocks.{AreAlikeIn}
use Rattle.extent_map.specs.Cells.{Tape}
use Rattle.extent_map.specs.Laid.{Laid, overlaid}
use Rattle.plain_tree.specs.Calls.{after}
use Rattle.plain_tree.specs.Paths.{Path}
use Rattle.plain_tree.specs.declared.calls.Call.{Call}
use Rattle.plain_tree.specs.declared.calls.Call.TheVariants as asks
use Rattle.file_tree.specs.Blocks.{AddsBlocksOf, AddsNoBlock, TreeStandsIn}
use Rattle.file_tree.specs.Edits.{IsAfter, KeepsVolume}
use Rattle.file_tree.specs.Tree.{FileTree, plain_of}
use Rattle.file_tree.specs.Writes.{HoldsBytes}
use Rattle.space_laws.specs.Files.{Files, with_file}
use Rattle.space_laws.specs.Standing.{uid_at}
use Rattle.held_volume.specs.Stocks.{LieAs}

-- whatever stands on tape, the tree is what the plain tree is after the call, and its files lie as they did
pub record IsStep (call : Call) (at : Moment) (before next : FileTree) : Type 0 where
  pub plain : IsAfter call at before next
  pub volume : KeepsVolume before next
  pub blocks : AddsNoBlock before next
  pub lies : (files : Files) → LieAs files before → LieAs files next

-- the tree is the same, whatever stands on tape, and its files lie as they did
pub record IsSameTree (before next : FileTree) : Type 0 where
  pub plain : (tape : Tape) → plain_of tape next ≡ plain_of tape before
  pub volume : KeepsVolume before next
  pub blocks : AddsNoBlock before next
  pub lies : (files : Files) → LieAs files before → LieAs files next

-- the file at a path lies otherwise
abbrev pub file_changed : FileTree → Path → (Laid → Laid) → Tape → Files → Files
file_changed before path change tape files = with_file (uid_at (plain_of tape before).nodes path) change files

-- the bytes of a write stand in new blocks: on a tape that has kept the blocks of the tree, it is the plain tree's
-- write
pub record IsWrite (path : Path) (new : Extent) (bytes : List ℕ) (at : Moment) (before next : FileTree) : Type 0 where
  pub plain : (early late : Tape) → HoldsBytes late before.block_size new bytes
      → AreAlikeIn (TreeStandsIn before) late early
      → plain_of late next ≡ after (plain_of early before) (asks.Write path new.offset bytes) at
  pub volume : KeepsVolume before next
  pub blocks : AddsBlocksOf new before next
  pub lies : (tape : Tape) (files : Files) → LieAs files before
      → LieAs (file_changed before path (λ f. overlaid f new) tape files) next
