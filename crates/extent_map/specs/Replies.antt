-- How the bytes of a range are gathered, block by block.
use Rattle.std.specs.Prelude.{◌≡◌, ℕ, ◌+◌, Bool, true, false, not, List, [], ◌∷◌, ◌++◌, length, take, drop}
use Rattle.std.specs.Prelude.{replicate, Some, None, slice_get, if◌then◌else◌}
use Rattle.std.specs.List.{filter, flat_map, list_any}
use Rattle.std.specs.BTreeSet.{BTreeSet, contains}
use Rattle.std.specs.Ordering.{nat_cmp, bool_cmp, ordering_then}
use Rattle.std.specs.declared.cmp.Ordering.{Ordering}
pub use Rattle.tape_types.specs.Cartridges.{same_part, same_place}
use Rattle.tape_types.specs.declared.cartridges.Part.TheVariants.{Dp}
use Rattle.tape_types.specs.declared.cartridges.Place.{Place}
use Rattle.extent_map.specs.declared.pieces.Piece.{Piece}
use Rattle.extent_map.specs.declared.pieces.Piece.TheVariants.{Zeros, Stored}
use Rattle.plain_tree.specs.Cells.{Cell, bytes_of}
use Rattle.extent_map.specs.Cells.{Tape}
use Rattle.extent_map.specs.Pieces.{read_piece}

-- the place of a piece that stands on tape
abbrev pub place_in : Piece → List Place
place_in (Zeros count) = []
place_in (Stored place byte count) = place ∷ []

-- each place of a list once, where it stands first
abbrev pub distinct : List Place → List Place
distinct [] = []
distinct (place ∷ places) = place ∷ filter (λ other. not (same_place place other)) (distinct places)

-- the places of the blocks in which a plan's bytes stand, in the order of the plan
abbrev pub places_in : List Piece → List Place
places_in pieces = distinct (flat_map place_in pieces)

-- the list has the place
abbrev pub has_place : Place → List Place → Bool
has_place place places = list_any (same_place place) places

-- the places, and behind them those of the others that aren't there
abbrev pub with_new : List Place → List Place → List Place
with_new places [] = places
with_new places (place ∷ more) = with_new (if has_place place places then places else places ++ place ∷ []) more

-- a place, as it is kept among those that were met
abbrev pub key_of : Place → Bool × ℕ
key_of place = (same_part place.part Dp, place.pos)

abbrev pub key_cmp : (Bool × ℕ) → (Bool × ℕ) → Ordering
key_cmp x y = ordering_then (bool_cmp x.0 y.0) (nat_cmp x.1 y.1)

-- these places were met, and no others
abbrev pub AreMet : BTreeSet (Bool × ℕ) → List Place → Type 0
AreMet met places = (place : Place) → contains key_cmp met (key_of place) ≡ has_place place places

-- how many bytes a piece has
abbrev pub bytes_in : Piece → ℕ
bytes_in (Zeros count) = count
bytes_in (Stored place byte count) = count

abbrev pub size_of : List Piece → ℕ
size_of [] = 0
size_of (piece ∷ pieces) = bytes_in piece + size_of pieces

-- a set of places
abbrev pub Places : Type 0
Places = Place → Bool

-- what a piece reads where the blocks at these places were read; zeros stand where one wasn't
abbrev pub gathered_piece : Tape → Places → Piece → List Cell
gathered_piece tape read (Zeros count) = replicate count (Some 0)
gathered_piece tape read (Stored place byte count) =
    if read place then read_piece tape (Stored place byte count) else replicate count (Some 0)

-- what a plan reads
abbrev pub gathered : Tape → Places → List Piece → List Cell
gathered tape read pieces = flat_map (gathered_piece tape read) pieces

-- these places, and one more
abbrev pub with_place : Places → Place → Places
with_place read place other = if same_place place other then true else read other

-- the block at a place has these bytes; or no block stands there, and these are none
abbrev pub IsBlock : Tape → Place → List ℕ → Type 0
IsBlock tape place block = (byte : ℕ) → tape place.part place.pos byte ≡ slice_get block byte

-- The bytes are those that the blocks at these places give, with zeros where the others are to come.
abbrev pub IsGathered : Tape → Places → List Piece → List ℕ → Type 0
IsGathered tape read pieces bytes = bytes_of (gathered tape read pieces) ≡ Some bytes

-- One more block is read. Its bytes are put where the plan wants them; or one of them is lost, and so it is of the
-- whole.
abbrev pub IsFilled : Tape → Places → Place → List Piece → List ℕ → Bool → Type 0
IsFilled tape read place pieces bytes true = IsGathered tape (with_place read place) pieces bytes
IsFilled tape read place pieces bytes false = bytes_of (flat_map (read_piece tape) pieces) ≡ None

-- the same of one piece
abbrev pub IsGatheredPiece : Tape → Places → Piece → List ℕ → Type 0
IsGatheredPiece tape read piece bytes = bytes_of (gathered_piece tape read piece) ≡ Some bytes

abbrev pub IsFilledPiece : Tape → Places → Place → Piece → List ℕ → Bool → Type 0
IsFilledPiece tape read place piece bytes true = IsGatheredPiece tape (with_place read place) piece bytes
IsFilledPiece tape read place piece bytes false = bytes_of (read_piece tape piece) ≡ None

-- so it is of a part of the bytes, and all others are as they were
pub record IsPutAt (tape : Tape) (read : Places) (place : Place) (piece : Piece) (at count : ℕ) (before next : List ℕ)
    (whole : Bool) : Type 0 where
  pub part : List ℕ
  pub is : next ≡ take at before ++ part ++ drop (at + count) before
  pub long : length part ≡ count
  pub filled : IsFilledPiece tape read place piece part whole

-- Where nothing was read, the bytes of a plan are zeros; and where all its places were, they are what it reads. So the
-- bytes of the blocks, put in one block after the other in any order, are those of the range.
pub record RepliesGather : Type 0 where
  pub begins : (tape : Tape) (pieces : List Piece)
      → IsGathered tape (λ place. false) pieces (replicate (size_of pieces) 0)
  pub ends : (tape : Tape) (read : Places) (pieces : List Piece) (bytes : List ℕ)
      → ((place : Place) → has_place place (places_in pieces) ≡ true → read place ≡ true)
      → IsGathered tape read pieces bytes → bytes_of (flat_map (read_piece tape) pieces) ≡ Some bytes
