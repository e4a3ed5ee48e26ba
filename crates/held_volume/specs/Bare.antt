-- The index of a volume without files.
use Rattle.std.specs.Prelude.{◌≡◌, [], ◌∷◌}
use Rattle.index_model.specs.declared.indexes.Index.{Index}
use Rattle.index_model.specs.declared.nodes.Node.{Node}
use Rattle.index_model.specs.declared.nodes.NodeKind.TheVariants as kinds
use Rattle.file_tree.specs.Mounts.{CanMount}

-- it has the root alone, and can be mounted on blocks of 4,096 bytes
pub record IsBare (index : Index) : Type 0 where
  pub root : Node
  pub nodes : index.nodes ≡ root ∷ []
  pub dir : root.kind ≡ kinds.Dir
  pub generation : index.generation ≡ 1
  pub mounts : CanMount index (97, 98) 4096
