-- That a listing that doesn't tell all has a line for each node.
use Rattle.std.proofs.Common.{◌≡◌, ◌∙◌, ℕ, false, List, [], ◌∷◌, ◌++◌, ap, refl}
use Rattle.std.specs.List.{concat, flat_map}
use Rattle.std.specs.FinMap as fin
use Rattle.index_model.specs.declared.indexes.Spot.{Spot}
use Rattle.plain_tree.specs.Paths.{Path}
use Rattle.plain_tree.specs.Tree.{Tree}
use Rattle.plain_tree.specs.declared.nodes.Node.{Node}
use Rattle.tree_listing.specs.Listing.{generation_line, lines_of, listing_text, short_line}

one_each : (es : List (Path × Node)) → concat (flat_map (lines_of false) es) ≡ flat_map short_line es
one_each [] = refl
one_each (e ∷ es) = ap (λ l. short_line e ++ l) (one_each es)

pub short_text : (generation : ℕ) (spot : Spot) (tree : Tree) → listing_text false generation spot tree ≡ flat_map short_line (fin.entries tree.nodes) ++ generation_line generation spot
short_text generation spot tree = ap (λ l. l ++ generation_line generation spot) (one_each (fin.entries tree.nodes))
