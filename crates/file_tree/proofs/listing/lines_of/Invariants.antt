use Rattle.std.proofs.Common.{◌≡◌, take}
use Rattle.file_tree.specs.Seen.{held}
use Rattle.file_tree.specs.Listing.{lines_at}
use Rattle.file_tree.proofs.listing.lines_of.Given as goal

abbrev pub invariant-loop-number : goal.invariant-loop-number
invariant-loop-number l = l.entries ≡ lines_at (held l.spots) (take l.number-index l.numbers)
