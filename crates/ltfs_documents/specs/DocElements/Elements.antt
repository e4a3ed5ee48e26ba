-- Spellings of elements inside one another.
use Rattle.std.specs.Prelude.{◌≡◌, ◌≤◌, ⊤, ℕ, ◌+◌, List, [], ◌∷◌, ◌++◌, length, true, false, None, Ok, IsUtf8, not}
use Rattle.std.specs.Prelude.{◌&&◌, if◌then◌else◌}
use Rattle.tape_types.specs.Bounds.{most_nodes}
use Rattle.tape_types.specs.declared.moments.Moment.{Moment}
use Rattle.tape_types.specs.Times.{civil_of}
use Rattle.ltfs_documents.specs.declared.doc_fields.tags.Tag.{Tag}
use Rattle.ltfs_documents.specs.declared.doc_fields.starts.Start.{Start}
use Rattle.ltfs_documents.specs.DocFields.Space.{space_end}
use Rattle.ltfs_documents.specs.DocFields.StartTag.{named_at, rest_at}
use Rattle.ltfs_documents.specs.DocFields.EndTag.{end_at}
use Rattle.ltfs_documents.specs.DocElements.Children.{member, first_missing}
use Rattle.ltfs_documents.specs.declared.doc_elements.schema.Container.{Container}
use Rattle.ltfs_documents.specs.declared.doc_elements.schema.Form.{Form}
use Rattle.ltfs_documents.specs.declared.doc_elements.schema.Child.{Child}
use Rattle.ltfs_documents.specs.declared.doc_elements.schema.Child.TheVariants as child
use Rattle.ltfs_documents.specs.DocElements.Schema.{rule, required, tag_of, may_repeat, excludes, is_node}
use Rattle.ltfs_documents.specs.DocElements.Pieces.{Val, time, Piece, opens, whole, closes, leaf, leaf_at, has_any}
use Rattle.ltfs_documents.specs.DocElements.Documents.{head_of}

-- an element: a leaf with its value, a parent as one empty tag, or a parent with its children
mutual
  pub data Item : Type 0 where
    plain : Tag → Val → Item
    bare : Container → Item
    nested : Container → Items → Item

  pub data Items : Type 0 where
    no_items : Items
    item : Item → Items → Items

abbrev pub item_tag : Item → Tag
item_tag (plain tag v) = tag
item_tag (bare p) = tag_of p
item_tag (nested p is) = tag_of p

-- a start tag of a child that has its place here
pub record Starts (text : List ℕ) (p : Container) (at : ℕ) (c : Child) (tag : Tag) (start : Start) : Type 0 where
  pub child : rule p tag ≡ c
  pub name_end : ℕ
  pub named : named_at text at ≡ Ok (tag, name_end)
  pub rest : rest_at tag at text name_end ≡ Ok start

-- an element may stand behind others in a parent: none of it has stood there, unless it may repeat, and none that it
-- excludes
pub record MayFollow (p : Container) (seen : List Tag) (tag : Tag) : Type 0 where
  pub alone : has_any (excludes tag) seen ≡ false
  pub once : (member tag seen && not (may_repeat p tag)) ≡ false

abbrev mutual
  -- the spelling of a child of p, from one place up to another
  pub Spelled : List ℕ → Container → ℕ → Item → ℕ → Type 0
  Spelled text p at (plain tag v) next =
      (form : Form) × (start : Start) × Starts text p at (child.Leaf form) tag start
      × (leaf_at form tag at start text ≡ Ok (v, next))
  Spelled text p at (bare q) next =
      (start : Start) × Starts text p at (child.Parent q) (tag_of q) start × (start.empty ≡ true)
      × (start.next ≡ next) × (first_missing (required q) [] ≡ None)
  Spelled text p at (nested q is) next =
      (start : Start) × Starts text p at (child.Parent q) (tag_of q) start × (start.empty ≡ false) × (end : ℕ)
      × AllSpelled text q [] start.next is end × (end_at text end (tag_of q) ≡ Ok next)

  -- the spellings of children of p, behind some that stood there: each may stand there, and each that is required has
  -- come
  pub AllSpelled : List ℕ → Container → List Tag → ℕ → Items → ℕ → Type 0
  AllSpelled text p seen at no_items end = (end ≡ space_end text at) × (first_missing (required p) seen ≡ None)
  AllSpelled text p seen at (item i is) end =
      MayFollow p seen (item_tag i) × (next : ℕ) × Spelled text p (space_end text at) i next
      × AllSpelled text p (item_tag i ∷ seen) next is end

-- how many elements are nodes
abbrev mutual
  pub nodes_of : Item → ℕ
  nodes_of (plain tag v) = 0
  nodes_of (bare p) = if is_node p then 1 else 0
  nodes_of (nested p is) = (if is_node p then 1 else 0) + node_count is

  pub node_count : Items → ℕ
  node_count no_items = 0
  node_count (item i is) = nodes_of i + node_count is

-- the pieces of elements in the order of the text
abbrev mutual
  pub pieces_of : Item → List Piece
  pieces_of (plain tag v) = leaf tag v ∷ []
  pieces_of (bare q) = whole q ∷ []
  pieces_of (nested q is) = opens q ∷ (all_pieces is ++ closes ∷ [])

  pub all_pieces : Items → List Piece
  all_pieces no_items = []
  all_pieces (item i is) = pieces_of i ++ all_pieces is

-- the bytes are a declaration or none, white space, one spelling of the root with these children, and white space
pub record DocumentText (doc : Container) (text : List ℕ) (items : Items) : Type 0 where
  pub valid : IsUtf8 text
  pub inside : ℕ
  pub head_is : head_of doc text ≡ Ok inside
  pub end : ℕ
  pub children : AllSpelled text doc [] inside items end
  pub after : ℕ
  pub ends : end_at text end (tag_of doc) ≡ Ok after
  pub ended : space_end text after ≡ length text

-- a text's pieces are those of elements that it spells, of which 65,536 at most are nodes
pub record IsMade (doc : Container) (text : List ℕ) (ps : List Piece) : Type 0 where
  pub items : Items
  pub spelled : DocumentText doc text items
  pub split : ps ≡ all_pieces items ++ closes ∷ []
  pub few : node_count items ≤ most_nodes

-- a time that is told is that of a moment
abbrev pub IsTimed : Val → Type 0
IsTimed (time c) = (m : Moment) × (civil_of m ≡ c)
IsTimed _ = ⊤

abbrev pub IsTimedPiece : Piece → Type 0
IsTimedPiece (leaf tag v) = IsTimed v
IsTimedPiece _ = ⊤
