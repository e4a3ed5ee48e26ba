-- What no call of a volume changes, and each index takes over from the one before it (LTFS 2.4 on the index).
use Rattle.std.specs.Prelude.{ℕ, Bool, List, [], ◌∷◌, Option}
use Rattle.index_model.specs.declared.indexes.Index.{Index}
use Rattle.index_model.specs.declared.indexes.Policy.{Policy}
use Rattle.index_model.specs.declared.nodes.Node.{Node}

-- the root's name, the comment, whether the policy may be changed, and the policy
pub record Carried : Type 0 where
  pub root : List ℕ
  pub comment : Option (List ℕ)
  pub allow : Bool
  pub policy : Option Policy

-- the name of the first of these nodes, which is an index's root
abbrev pub root_name : List Node → List ℕ
root_name [] = []
root_name (root ∷ nodes) = root.name

-- what an index carries over
abbrev pub carried : Index → Carried
carried index = record {
  root = root_name index.nodes;
  comment = index.comment;
  allow = index.allow;
  policy = index.policy;
}
