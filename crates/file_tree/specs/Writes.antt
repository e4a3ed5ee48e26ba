-- That a write of bytes is an overlay over new blocks that hold them.
use Rattle.std.specs.Prelude.{◌≡◌, ℕ, ◌+◌, ◌*◌, ◌<◌, ◌≤◌, List, length, take, drop, None, Some, slice_get}
use Rattle.tape_types.specs.declared.moments.Moment.{Moment}
use Rattle.tape_types.specs.declared.cartridges.Cartridge.{Cartridge}
use Rattle.tape_types.specs.declared.cartridges.Extent.{Extent}
use Rattle.tape_types.specs.declared.cartridges.Item.TheVariants.{Block}
use Rattle.tape_types.specs.Cartridges.{items_of}
use Rattle.plain_tree.specs.declared.calls.Call.TheVariants as asks
use Rattle.plain_tree.specs.Calls.{after}
use Rattle.plain_tree.specs.Refusals.{refusal_of}
use Rattle.extent_map.specs.Cells.{Tape, tape_of}
use Rattle.extent_map.specs.Blocks.{AreAlikeIn}
use Rattle.plain_tree.specs.Paths.{Path}
use Rattle.file_tree.specs.Tree.{FileTree, StandsAt, plain_of, whole}
use Rattle.file_tree.specs.Blocks.{TreeStandsIn}
use Rattle.file_tree.specs.Edits.{IsWritten}

-- the extent has these bytes from the beginning of its first block on: byte i of block k is byte k * block_size + i
pub record HoldsBytes (tape : Tape) (block_size : ℕ) (e : Extent) (bytes : List ℕ) : Type 0 where
  pub from_start : e.byte ≡ 0
  pub all : e.count ≡ length bytes
  pub each : (k i value : ℕ) → i < block_size → slice_get bytes (k * block_size + i) ≡ Some value
      → tape e.part (e.block + k) i ≡ Some value

-- the extent's blocks on a cartridge are the bytes, cut into blocks, each full but the last
pub record HoldsBlocks (c : Cartridge) (block_size : ℕ) (e : Extent) (bytes : List ℕ) : Type 0 where
  pub from_start : e.byte ≡ 0
  pub all : e.count ≡ length bytes
  pub each : (k : ℕ) → k * block_size < length bytes
      → slice_get (items_of e.part c) (e.block + k) ≡ Some (Block (take block_size (drop (k * block_size) bytes)))

-- Blocks: what a cartridge's blocks hold, its tape holds. Call: an overlay of an extent that holds the bytes of a
-- write, on a tape that has kept the tree's blocks, is the plain tree's write.
pub record WritesAreWrites : Type 0 where
  pub blocks : (c : Cartridge) (block_size : ℕ) (e : Extent) (bytes : List ℕ) → HoldsBlocks c block_size e bytes
      → HoldsBytes (tape_of c) block_size e bytes
  pub call : (early late : Tape) (t next : FileTree) (path : Path) (file : ℕ) (new : Extent) (bytes : List ℕ)
      (at : Moment)
      → 1 ≤ t.block_size → 1 ≤ length bytes → StandsAt t path file
      → refusal_of (plain_of whole t) (asks.Write path new.offset bytes) ≡ None
      → IsWritten file new at t next → HoldsBytes late t.block_size new bytes → AreAlikeIn (TreeStandsIn t) late early
      → plain_of late next ≡ after (plain_of early t) (asks.Write path new.offset bytes) at
