-- A document as a whole: pieces one after the other, up to the first that doesn't fit.
use Rattle.std.specs.Prelude.{◌≡◌, ◌≢◌, ◌⊎◌, ℕ, suc, List, [], ◌∷◌, take, length, IsUtf8, Bool, true, false, Result, Ok}
use Rattle.std.specs.Prelude.{Err, if◌then◌else◌}
use Rattle.std.specs.Str.Lossy.{utf8_valid_len}
use Rattle.ltfs_documents.specs.declared.doc_fields.tags.Tag.{Tag}
use Rattle.ltfs_documents.specs.declared.doc_fields.tags.Tag.TheVariants.{LtfsLabel, LtfsIndex, Creator}
use Rattle.ltfs_documents.specs.DocFields.Space.{space_end}
use Rattle.ltfs_documents.specs.DocFields.StartTag.{named_at, rest_at}
use Rattle.ltfs_documents.specs.DocFields.Declaration.{head_at}
use Rattle.ltfs_documents.specs.declared.doc_elements.schema.Container.{Container}
use Rattle.ltfs_documents.specs.declared.doc_elements.schema.Container.TheVariants as place
use Rattle.ltfs_documents.specs.declared.doc_elements.errors.PieceErr.{PieceErr}
use Rattle.ltfs_documents.specs.declared.doc_elements.errors.PieceErr.TheVariants as errors
use Rattle.ltfs_documents.specs.DocElements.Schema.{tag_of, is_node}
use Rattle.ltfs_documents.specs.DocElements.Pieces.{Piece, opens, whole, closes, leaf, Frame, ◌>>=◌, lift, unknown_first, piece_at}

-- ---- the open parents, the innermost first, and the nodes that have begun

abbrev pub with_child : Tag → Frame → Frame
with_child tag f = record { place = f.place; seen = tag ∷ f.seen }

abbrev pub fresh : Container → Frame
fresh p = record { place = p; seen = [] }

-- what a piece leaves open
abbrev pub after : Piece → Frame → List Frame → List Frame
after (opens p) f fs = fresh p ∷ with_child (tag_of p) f ∷ fs
after (whole p) f fs = with_child (tag_of p) f ∷ fs
after closes f fs = fs
after (leaf tag v) f fs = with_child tag f ∷ fs

-- the count of nodes behind a piece
abbrev pub counted : Piece → ℕ → ℕ
counted (opens p) nodes = if is_node p then suc nodes else nodes
counted (whole p) nodes = if is_node p then suc nodes else nodes
counted closes nodes = nodes
counted (leaf tag v) nodes = nodes

-- where a reader of the document is: a place of the text, the open parents, and how many nodes have begun
pub record Point : Type 0 where
  pub at : ℕ
  pub parents : List Frame
  pub nodes : ℕ

-- these pieces lead from one point to another
abbrev pub Reaches : List ℕ → List Piece → ℕ → List Frame → ℕ → Point → Type 0
Reaches text [] at fs nodes end = end ≡ record { at = at; parents = fs; nodes = nodes }
Reaches text (p ∷ ps) at [] nodes end = ⊥
Reaches text (p ∷ ps) at (f ∷ fs) nodes end =
    (next : ℕ) × (piece_at f nodes text at ≡ Ok (p, next)) × Reaches text ps next (after p f fs) (counted p nodes) end

-- ---- the text as a whole, of a document with this root

-- whether the document begins with this element
abbrev pub begins : Container → Tag → Bool
begins place.Label LtfsLabel = true
begins place.Index LtfsIndex = true
begins _ _ = false

abbrev pub root_only : Container → ℕ → Tag → Result (Unit {0}) PieceErr
root_only doc at tag = if begins doc tag then Ok tt else Err (errors.Unknown at)

-- the start tag with which the document's one element begins
unfoldable pub root_at : Container → List ℕ → ℕ → Result ℕ PieceErr
root_at doc text at = do
  t ← lift (named_at text at)
  _ ← unknown_first (rest_at t.0 at text t.1) (root_only doc at t.0)
  start ← lift (rest_at t.0 at text t.1)
  if start.empty then Err (errors.Missing Creator) else Ok start.next

-- a declaration or none, white space and that start tag, and the place behind them
unfoldable pub head_of : Container → List ℕ → Result ℕ PieceErr
head_of doc text = do
  from ← lift (head_at text 0)
  root_at doc text (space_end text from)

-- the text up to a point is whole pieces that may stand there
pub record Open (doc : Container) (text : List ℕ) (ps : List Piece) (point : Point) : Type 0 where
  pub inside : ℕ
  pub head_is : head_of doc text ≡ Ok inside
  pub reaches : Reaches text ps inside (fresh doc ∷ []) 0 point

-- all of it is pieces, and nothing is left open
pub record Accepts (doc : Container) (text : List ℕ) (ps : List Piece) : Type 0 where
  pub point : Point
  pub opened : Open doc text ps point
  pub closed : point.parents ≡ []
  pub ended : space_end text point.at ≡ length text

-- where and why it doesn't go on: at its head, at a piece, or behind its root
pub data Halts (doc : Container) (text : List ℕ) : PieceErr → Type 0 where
  at_head : {e : PieceErr} → head_of doc text ≡ Err e → Halts doc text e
  at_piece : {e : PieceErr} (ps : List Piece) (point : Point) (f : Frame) (fs : List Frame) → Open doc text ps point →
      point.parents ≡ f ∷ fs → piece_at f point.nodes text point.at ≡ Err e → Halts doc text e
  at_end : (ps : List Piece) (point : Point) → Open doc text ps point → point.parents ≡ [] →
      space_end text point.at ≢ length text → Halts doc text (errors.Syntax (space_end text point.at))

-- ---- the text in UTF-8

-- the front of a text that is UTF-8
abbrev pub readable : List ℕ → List ℕ
readable text = take (utf8_valid_len text) text

-- the front is a whole document, and a byte that isn't UTF-8 follows
pub record EndsBadly (doc : Container) (text : List ℕ) : Type 0 where
  pub ps : List Piece
  pub accepts : Accepts doc (readable text) ps
  pub more : length (readable text) ≢ length text

-- where and why the text doesn't go on; a byte that isn't UTF-8 ends it
abbrev pub StopsAt : Container → List ℕ → PieceErr → Type 0
StopsAt doc text e =
    Halts doc (readable text) e ⊎ (EndsBadly doc text × (e ≡ errors.Syntax (length (readable text))))

-- all of a text is UTF-8, and a whole document
abbrev pub IsAccepted : Container → List ℕ → Type 0
IsAccepted doc text = (ps : List Piece) × IsUtf8 text × Accepts doc text ps

abbrev pub IsStopped : Container → List ℕ → Type 0
IsStopped doc text = (e : PieceErr) × StopsAt doc text e

-- ---- what a reader knows before the end

-- the pieces before the first that doesn't fit, behind the root's start tag
pub record Halted (doc : Container) (text : List ℕ) (inside : ℕ) (e : PieceErr) : Type 0 where
  pub ps : List Piece
  pub point : Point
  pub reaches : Reaches text ps inside (fresh doc ∷ []) 0 point
  pub f : Frame
  pub fs : List Frame
  pub parents : point.parents ≡ f ∷ fs
  pub fails : piece_at f point.nodes text point.at ≡ Err e
