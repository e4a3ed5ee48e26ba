-- What is read through a view.
use Rattle.std.specs.Prelude.{ℕ, ◌≡◌, ◌*◌, ◌-◌, ◌<◌, ◌≤◌, min, List, [], ◌∷◌, length, fold, Option, Some, None, Result, IfOk}
use Rattle.std.specs.Prelude.{IfErr}
use Rattle.std.specs.List.{AllByRecursion, flat_map}
use Rattle.std.specs.FinMap as fin
use Rattle.tape_types.specs.Bounds.{longest_file}
use Rattle.tape_types.specs.Counts.{Rose}
use Rattle.tape_types.specs.declared.cartridges.Cartridge.{Cartridge}
use Rattle.tape_types.specs.declared.cartridges.Place.{Place}
use Rattle.tape_drive.specs.Looks.{Looks}
use Rattle.tape_drive.specs.declared.drive.Drive.{Ghosts}
use Rattle.plain_tree.specs.Cells.{range_of}
use Rattle.plain_tree.specs.Paths.{Path}
use Rattle.plain_tree.specs.declared.calls.Answer.{Answer}
use Rattle.extent_map.specs.Cells.{Tape, file_cells, tape_of}
use Rattle.extent_map.specs.Laid.{Room}
use Rattle.extent_map.specs.Pieces.{planned, read_piece}
use Rattle.extent_map.specs.Replies.{Places, places_in, size_of, with_place}
use Rattle.extent_map.specs.declared.pieces.Piece.{Piece}
use Rattle.file_tree.specs.Blocks.{Ends}
use Rattle.file_tree.specs.Tree.{FileTree, HasExtents}
use Rattle.file_tree.specs.Valid.{IsFileOf, IsGood}
use Rattle.file_tree.specs.declared.nodes.HeldKind.{HeldKind}
use Rattle.file_tree.specs.declared.nodes.HeldKind.TheVariants as kinds
use Rattle.file_tree.specs.declared.nodes.Node.{Node}
use Rattle.waiting_reads.specs.Gathering.{Gathering, IsGathering}
use Rattle.generation_view.specs.declared.errors.ReadErr.{ReadErr}
use Rattle.generation_view.specs.declared.errors.ReadErr.TheVariants as errors

-- the places of the blocks in which a range of a file stands, up to its end, each once; none where there is no file
abbrev pub blocks_of_kind : (offset count : ℕ) → HeldKind → List Place
blocks_of_kind offset count kinds.Dir = []
blocks_of_kind offset count (kinds.File room) =
    places_in (planned room.laid offset (min count (room.laid.length - offset)))
blocks_of_kind offset count (kinds.Link text) = []

abbrev pub blocks_of : (offset count : ℕ) → Option Node → List Place
blocks_of offset count None = []
blocks_of offset count (Some node) = blocks_of_kind offset count node.kind

abbrev pub blocks_read : FileTree → Path → (offset count : ℕ) → List Place
blocks_read tree path offset count = blocks_of offset count (fin.get tree.nodes path)

-- a failed drive is told by its counts of faults, and only where the count rose
abbrev pub AreReadCounts : (before now : ℕ) → ReadErr → Type 0
AreReadCounts before now (errors.Drive counts) =
    (counts.before ≡ before) × (counts.after ≡ now) × Rose before now
AreReadCounts before now errors.NoMemory = Unit {0}

-- A read of a drive is answered what is wanted of the cartridge that it tells, or the drive fails, or memory is refused.
-- The drive is only looked at, with one locate and one read for each of so many blocks.
pub record IsReadBy {D : Type 0} (drive : Ghosts D) (blocks : ℕ) (wanted : Cartridge → Answer) (old new : D)
    (result : Result Answer ReadErr) : Type 0 where
  pub answer : IfOk result (λ a. (c : Cartridge) → drive.held old ≡ Some c → a ≡ wanted c)
  pub later : drive.faults old ≤ drive.faults new
  pub counts : IfErr result (AreReadCounts (drive.faults old) (drive.faults new))
  pub looks : Looks drive (2 * blocks * drive.MOST) old new

-- places lie before ends
abbrev pub AreBelow : Ends → List Place → Type 0
AreBelow ends places = AllByRecursion (λ (place : Place). place.pos < ends place.part) places

-- these are the pieces of a range of a file, up to its end, and they read its bytes
pub record ArePlanned (tree : FileTree) (file offset count : ℕ) (pieces : List Piece) : Type 0 where
  pub good : IsGood tree
  pub room : Room
  pub has : HasExtents tree.nodes file room
  pub laid : IsFileOf tree.block_size room.laid
  pub are : pieces ≡ planned room.laid offset (min count (room.laid.length - offset))
  pub reads : (tape : Tape) → flat_map (read_piece tape) pieces ≡ range_of (file_cells tape room.laid) offset count
  pub small : size_of pieces ≤ longest_file

-- these places, and others
abbrev pub with_places : Places → List Place → Places
with_places read places = fold with_place read places

-- the blocks at these places were put into a reading, one after the other, as they stand on the cartridge that a drive
-- told
pub record HasBlocks {D : Type 0} (drive : Ghosts D) (places : List Place) (first : D) (old new : Gathering) : Type 0 where
  pub pieces : new.pieces ≡ old.pieces
  pub filled : (c : Cartridge) → drive.held first ≡ Some c → (read : Places) → IsGathering (tape_of c) read old
      → IsGathering (tape_of c) (with_places read places) new

-- each of them was read once
pub record AreFetched {D : Type 0} (drive : Ghosts D) (places : List Place) (first now : D) (old new : Gathering)
    : Type 0 where
  pub blocks : HasBlocks drive places first old new
  pub later : drive.faults first ≤ drive.faults now
  pub looks : Looks drive (2 * length places * drive.MOST) first now
