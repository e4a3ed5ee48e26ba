-- Where the pieces of a read stand on tape.
use Rattle.std.specs.Prelude.{◌≡◌, ℕ, ◌+◌, ◌==◌, ◌<◌, List, [], ◌∷◌, ◌++◌, length, take, filter}
use Rattle.std.specs.List.Sorted.{IsNonDecreasingBy}
use Rattle.extent_map.specs.Replies.{bytes_in, size_of}
use Rattle.extent_map.specs.declared.pieces.Piece.{Piece}
use Rattle.extent_map.specs.declared.pieces.Piece.TheVariants.{Zeros, Stored}
use Rattle.waiting_reads.specs.declared.stands.Stand.{Stand}

-- the piece with this number, whose bytes begin here, if it stands on tape
abbrev pub stand_in : ℕ → ℕ → Piece → List Stand
stand_in number at (Zeros count) = []
stand_in number at (Stored place byte count) = record { pos = place.pos; number = number; at = at } ∷ []

-- those of the pieces from this number on that stand on tape
abbrev pub stands_from : ℕ → ℕ → List Piece → List Stand
stands_from number at [] = []
stands_from number at (piece ∷ pieces) =
    stand_in number at piece ++ stands_from (number + 1) (at + bytes_in piece) pieces

-- those at a position
abbrev pub at_pos : ℕ → List Stand → List Stand
at_pos pos stands = filter (λ stand. stand.pos == pos) stands

-- The pieces that stand on tape, by their positions, and at each position in the order of the pieces.
pub record AreStands (pieces : List Piece) (stands : List Stand) : Type 0 where
  pub rise : IsNonDecreasingBy (λ (stand : Stand). stand.pos) stands
  pub runs : (pos : ℕ) → at_pos pos stands ≡ at_pos pos (stands_from 0 0 pieces)

-- there is a piece with its number, and its bytes begin behind those of the pieces before
pub record IsStand (pieces : List Piece) (stand : Stand) : Type 0 where
  pub within : stand.number < length pieces
  pub begins : stand.at ≡ size_of (take stand.number pieces)
