-- What a read gathers of what is held.
use Rattle.std.specs.Prelude.{◌≡◌, ℕ, Bool, ◌-◌, ◌<◌, ◌≤◌, min, List, length, Option, Some, None, is_none}
use Rattle.std.specs.List.{All, AllByRecursion, flat_map}
use Rattle.extent_map.specs.Cells.{Tape}
use Rattle.extent_map.specs.Laid.{Laid}
use Rattle.extent_map.specs.Pieces.{IsInOneBlock, planned, read_piece}
use Rattle.extent_map.specs.Replies.{size_of}
use Rattle.extent_map.specs.declared.pieces.Piece.{Piece}
use Rattle.extent_map.specs.declared.pieces.Piece.TheVariants.{Stored, Zeros}
use Rattle.plain_tree.specs.Calls.{answer}
use Rattle.plain_tree.specs.Cells.{bytes_of}
use Rattle.plain_tree.specs.Paths.{Path}
use Rattle.plain_tree.specs.Refusals.{refusal_of, refuse_if}
use Rattle.plain_tree.specs.declared.calls.Answer.{Answer}
use Rattle.plain_tree.specs.declared.calls.Answer.TheVariants.{Got, Refused}
use Rattle.plain_tree.specs.declared.calls.Call.TheVariants.{Read}
use Rattle.plain_tree.specs.declared.calls.Refusal.{Refusal}
use Rattle.plain_tree.specs.declared.calls.Refusal.TheVariants.{Damaged}
use Rattle.file_tree.specs.Blocks.{Ends, TreeStandsIn}
use Rattle.file_tree.specs.Tree.{FileTree, StandsAt, plain_of, whole}
use Rattle.space_laws.specs.Standing.{Given, Standing, uid_at}
use Rattle.held_volume.specs.Stocks.{IsStock, Stocked, ends_of}

-- how the file at a path lies
abbrev pub file_at : Standing → Path → Laid
file_at st path = st.files (uid_at st.tree.nodes path)

-- the bytes of the pieces, where none of them is lost
abbrev pub bytes_read : Tape → List Piece → Option (List ℕ)
bytes_read tape pieces = bytes_of (flat_map (read_piece tape) pieces)

abbrev pub answer_of : Option (List ℕ) → Answer
answer_of (Some bytes) = Got bytes
answer_of None = Refused Damaged

-- what is answered of the pieces: their bytes, or that one of them is lost
abbrev pub read_answer : Tape → List Piece → Answer
read_answer tape pieces = answer_of (bytes_read tape pieces)

-- a piece that stands on tape does so in a block of the tree
abbrev pub PieceStandsIn : FileTree → Piece → Type 0
PieceStandsIn tree (Stored place byte count) = TreeStandsIn tree place.part place.pos
PieceStandsIn tree (Zeros count) = Unit {0}

-- or before the end of its partition
abbrev pub PieceLiesBelow : Ends → Piece → Type 0
PieceLiesBelow ends (Stored place byte count) = place.pos < ends place.part
PieceLiesBelow ends (Zeros count) = Unit {0}

abbrev pub PiecesStandIn : FileTree → List Piece → Type 0
PiecesStandIn tree pieces = AllByRecursion (PieceStandsIn tree) pieces

abbrev pub PiecesLieBelow : Ends → List Piece → Type 0
PiecesLieBelow ends pieces = AllByRecursion (PieceLiesBelow ends) pieces

-- the node with this number stands at the path and may be read, where no byte is lost on the tape
pub record IsReadable (tree : FileTree) (path : Path) (file : ℕ) : Type 0 where
  pub stands : StandsAt tree path file
  pub free : (offset count : ℕ) → refusal_of (plain_of whole tree) (Read path offset count) ≡ None

-- a read of the path is refused so, whatever is lost on the tape
pub record IsUnreadable (s : Stocked) (path : Path) (refusal : Refusal) : Type 0 where
  pub found : (offset count : ℕ) → refusal_of (plain_of whole s.tree) (Read path offset count) ≡ Some refusal
  pub each : (offset count : ℕ) (tape : Tape) (g : Given) (on : Bool) (st : Standing) → IsStock tape g on st s
      → refusal_of st.tree (Read path offset count) ≡ Some refusal

-- These are the pieces of the range, up to the end of the file. The read is answered what they are read as, and refused
-- only where a byte of them is lost. Each stands in a block of the tree, before the end of its partition.
pub record IsReadPlan (tape : Tape) (st : Standing) (tree : FileTree) (path : Path) (offset count : ℕ)
    (pieces : List Piece) : Type 0 where
  pub pieces_are : pieces ≡ planned (file_at st path) offset (min count ((file_at st path).length - offset))
  pub refusal : refusal_of st.tree (Read path offset count) ≡ refuse_if (is_none (bytes_read tape pieces)) Damaged
  pub answers : answer st.tree (Read path offset count) ≡ read_answer tape pieces
  pub stand : PiecesStandIn tree pieces
  pub below : PiecesLieBelow (ends_of st.space.ends) pieces

-- each piece has a byte or more, within one block, and all together have at most so many
pub record IsPlanOfAtMost (block_size count : ℕ) (pieces : List Piece) : Type 0 where
  pub blocks : All (IsInOneBlock block_size) pieces
  pub size : size_of pieces ≤ count
  pub long : length pieces ≤ count
