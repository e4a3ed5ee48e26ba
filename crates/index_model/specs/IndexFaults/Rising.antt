-- Names that rise.
use Rattle.std.specs.Prelude.{◌≡◌, ℕ, List}
use Rattle.std.specs.Cmp.Lexicographic.{slice_cmp}
use Rattle.std.specs.Ordering.{nat_cmp}
use Rattle.std.specs.declared.cmp.Ordering.TheVariants.{Less}
use Rattle.index_model.specs.declared.nodes.Node.{Node}
use Rattle.index_model.specs.Places.{IsAt}

-- the node at this place has a name below this one, by their bytes
pub record IsBelow (nodes : List Node) (at : ℕ) (name : List ℕ) : Type 0 where
  pub node : Node
  pub is : IsAt nodes at node
  pub less : slice_cmp nat_cmp node.name name ≡ Less
