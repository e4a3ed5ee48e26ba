-- What is left to write of a document while its nodes are written in their order: the nodes to come, and the ends of
-- the directories that are open.
use Rattle.std.specs.Prelude.{◌≡◌, ⊤, ℕ, zero, suc, ◌+◌, ◌<◌, List, [], ◌∷◌, ◌++◌, length, map, drop, Option, Some}
use Rattle.std.specs.Prelude.{None}
use Rattle.std.specs.List.{slice_get}
use Rattle.index_model.specs.declared.nodes.NodeKind.{NodeKind}
use Rattle.index_model.specs.declared.nodes.NodeKind.TheVariants as kinds
use Rattle.index_model.specs.declared.nodes.Node.{Node}
use Rattle.index_model.specs.Canonical.{nodes_text}
use Rattle.index_model.specs.Values.{Nodes, NodeValue, count, listed, value_of}
use Rattle.index_write.specs.declared.nodes.Open.{Open}
use Rattle.index_write.specs.Parts.{closing}

-- the place of the directory that a node names as its parent, and 0 where no node stands
abbrev pub parent_at : List Node → ℕ → ℕ
parent_at nodes at = by (slice_get nodes at)
  where
    by : Option Node → ℕ
    by None = 0
    by (Some node) = node.parent

-- what stands behind each open directory but the root, from the innermost outwards: the place of the directory that it
-- stands in, and the nodes
abbrev pub Behind : Type 0
Behind = List (ℕ × Nodes)

-- these nodes in the order of the document, the first of them at a place
abbrev pub coming : ℕ → Behind → List NodeValue
coming at [] = []
coming at (b ∷ behind) = listed b.0 at b.1 ++ coming (at + count b.1) behind

-- their text, with the ends of the open directories
abbrev pub coming_text : Behind → List ℕ
coming_text [] = closing
coming_text (b ∷ behind) = closing ++ (nodes_text b.1 ++ coming_text behind)

-- each open directory stands in the next, which stands before it
abbrev pub Within : List Node → ℕ → Behind → Type 0
Within nodes dir [] = ⊤
Within nodes dir (b ∷ behind) = (parent_at nodes dir ≡ b.0) × (b.0 < dir) × Within nodes b.0 behind

-- this text is left to write from a place on
pub record Rests (nodes : List Node) (at : ℕ) (inner : Open) (text : List ℕ) : Type 0 where
  pub inside : Nodes
  pub behind : Behind
  pub depth : length behind ≡ inner.depth
  pub before : inner.dir < at
  pub within : Within nodes inner.dir behind
  pub nodes_are : map value_of (drop at nodes) ≡ listed inner.dir at inside ++ coming (at + count inside) behind
  pub text_is : text ≡ nodes_text inside ++ coming_text behind

-- some of it was written, and the rest is left from this place on
pub record Goes (nodes : List Node) (at : ℕ) (inner : Open) (old new text : List ℕ) : Type 0 where
  pub rest : List ℕ
  pub rests : Rests nodes at inner rest
  pub so_far : old ++ text ≡ new ++ rest

-- which directory is open behind a node
abbrev pub opened : NodeKind → ℕ → Open → Open
opened kinds.Dir at inner = record { dir = at; depth = inner.depth + 1 }
opened (kinds.File bytes extents) at inner = inner
opened (kinds.Link text) at inner = inner

-- so many ends of directories
abbrev pub closings : ℕ → List ℕ
closings zero = []
closings (suc n) = closing ++ closings n
