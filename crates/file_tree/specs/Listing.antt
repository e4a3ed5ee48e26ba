-- The lines of what is kept.
use Rattle.std.specs.Prelude.{ℕ, List, [], ◌∷◌, ◌++◌, Option, Some, None}
use Rattle.plain_tree.specs.declared.calls.Entry.{Entry}
use Rattle.file_tree.specs.declared.nodes.Spot.{Spot}
use Rattle.file_tree.specs.Reads.{sort_in}
use Rattle.file_tree.specs.Seen.{Held}

abbrev pub line_of : Spot → Entry
line_of spot = record { sort = sort_in spot.node.kind; name = spot.name }

-- the line of a spot, or none where nothing is kept
abbrev pub lines_in : Option Spot → List Entry
lines_in None = []
lines_in (Some spot) = line_of spot ∷ []

-- those of what is kept at these numbers
abbrev pub lines_at : Held → List ℕ → List Entry
lines_at at [] = []
lines_at at (n ∷ ns) = lines_in (at n) ++ lines_at at ns
