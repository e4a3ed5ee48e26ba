-- The cells of a file, and what writes and truncations make of them.
use Rattle.std.specs.Prelude.{ℕ, ◌+◌, ◌-◌, List, [], ◌∷◌, ◌++◌, length, take, drop, replicate, Option, Some, None}
use Rattle.std.specs.Option.{option_map}

-- a cell is a byte, or none where the tape has lost it
abbrev pub Cell : Type 0
Cell = Option ℕ

-- the cells with zeros behind them, up to a length
abbrev pub padded_to : ℕ → List Cell → List Cell
padded_to n cells = cells ++ replicate (n - length cells) (Some 0)

-- the cells with these at an offset, and zeros in a gap
abbrev pub written : List Cell → ℕ → List Cell → List Cell
written cells offset new = take offset (padded_to offset cells) ++ new ++ drop (offset + length new) cells

-- the first n cells, with zeros where there were fewer
abbrev pub resized : List Cell → ℕ → List Cell
resized cells n = take n (padded_to n cells)

-- at most `count` cells from an offset on
abbrev pub range_of : List Cell → ℕ → ℕ → List Cell
range_of cells offset count = take count (drop offset cells)

-- the bytes of cells, where none of them is lost
abbrev pub bytes_of : List Cell → Option (List ℕ)
bytes_of [] = Some []
bytes_of (None ∷ cells) = None
bytes_of (Some b ∷ cells) = option_map (λ bs. b ∷ bs) (bytes_of cells)
