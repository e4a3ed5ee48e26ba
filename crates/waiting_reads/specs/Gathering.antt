-- A read that waits for blocks, and what it is answered.
use Rattle.std.specs.Prelude.{◌≡◌, ℕ, Bool, true, false, List, length, Option, Some, None}
use Rattle.std.specs.List.{flat_map}
use Rattle.extent_map.specs.Cells.{Tape}
use Rattle.extent_map.specs.Pieces.{read_piece}
use Rattle.extent_map.specs.Replies.{IsGathered, Places, has_place, places_in, size_of}
use Rattle.extent_map.specs.declared.pieces.Piece.{Piece}
use Rattle.tape_types.specs.declared.cartridges.Place.{Place}
use Rattle.plain_tree.specs.Cells.{bytes_of}
use Rattle.plain_tree.specs.declared.calls.Answer.{Answer}
use Rattle.plain_tree.specs.declared.calls.Answer.TheVariants as answers
use Rattle.plain_tree.specs.declared.calls.Refusal.TheVariants as refusals

-- the place of a read in the history, the pieces of its range, its bytes so far, and whether none was found lost
pub record Gathering : Type 0 where
  pub ticket : ℕ
  pub pieces : List Piece
  pub bytes : List ℕ
  pub whole : Bool

-- where none was found lost, the bytes are those of the blocks that were read, with zeros where others are to come; or
-- else one is lost indeed
abbrev pub HasSoFar : Tape → Places → List Piece → List ℕ → Bool → Type 0
HasSoFar tape read pieces bytes true = IsGathered tape read pieces bytes
HasSoFar tape read pieces bytes false = bytes_of (flat_map (read_piece tape) pieces) ≡ None

-- A read for which the blocks at these places were read.
pub record IsGathering (tape : Tape) (read : Places) (g : Gathering) : Type 0 where
  pub has : HasSoFar tape read g.pieces g.bytes g.whole
  pub long : length g.bytes ≡ size_of g.pieces

-- bytes are got where none is lost
abbrev pub got_or_damaged : Option (List ℕ) → Answer
got_or_damaged (Some bytes) = answers.Got bytes
got_or_damaged None = answers.Refused refusals.Damaged

-- what a read of these pieces is answered
abbrev pub read_answer : Tape → List Piece → Answer
read_answer tape pieces = got_or_damaged (bytes_of (flat_map (read_piece tape) pieces))

-- once all blocks that it needs were read, it is answered what its pieces read
abbrev pub IsAnswered : Gathering → Answer → Type 0
IsAnswered g answer = (tape : Tape) (read : Places) → IsGathering tape read g
    → ((place : Place) → has_place place (places_in g.pieces) ≡ true → read place ≡ true)
    → answer ≡ read_answer tape g.pieces

-- as many bytes as its pieces have, and room for as many again
pub record IsSized (pieces : List Piece) (bytes copy : List ℕ) : Type 0 where
  pub long : length bytes ≡ size_of pieces
  pub again : length copy ≡ size_of pieces
