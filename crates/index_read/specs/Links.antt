-- How long the texts of links are.
use Rattle.std.specs.Prelude.{⊤, ◌<◌, ◌^◌, List, length}
use Rattle.std.specs.List.{AllByRecursion}
use Rattle.index_model.specs.declared.nodes.NodeKind.{NodeKind}
use Rattle.index_model.specs.declared.nodes.NodeKind.TheVariants as kinds
use Rattle.index_model.specs.declared.nodes.Node.{Node}

-- the text of a link has fewer than 2^64 bytes, as each text in memory has
abbrev pub IsShortLink : NodeKind → Type 0
IsShortLink kinds.Dir = ⊤
IsShortLink (kinds.File bytes extents) = ⊤
IsShortLink (kinds.Link text) = length text < 2 ^ 64

abbrev pub AreLinksShort : List Node → Type 0
AreLinksShort nodes = AllByRecursion (λ (node : Node). IsShortLink node.kind) nodes
