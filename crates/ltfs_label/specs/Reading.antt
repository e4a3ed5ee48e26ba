-- What the pieces of a label tell, one after the other, and why a text is no label.
use Rattle.std.specs.Prelude.{◌≡◌, ◌≤◌, ⊤, ℕ, List, [], ◌∷◌, ◌++◌, Bool, true, false, Option, Some, None, Result, Ok}
use Rattle.std.specs.Prelude.{Err}
use Rattle.ltfs_documents.specs.declared.doc_fields.tags.Tag.TheVariants.{BlockSize}
use Rattle.ltfs_documents.specs.DocElements.Children.{children_of}
use Rattle.ltfs_documents.specs.declared.doc_elements.errors.PieceErr.{PieceErr}
use Rattle.ltfs_documents.specs.declared.doc_elements.errors.PieceErr.TheVariants as pieces
use Rattle.ltfs_documents.specs.declared.doc_elements.pieces.Frame as code_frame
use Rattle.ltfs_documents.specs.declared.doc_elements.schema.Container.TheVariants as place
use Rattle.ltfs_documents.specs.DocElements.Documents.{Accepts, Reaches, StopsAt, fresh}
use Rattle.ltfs_documents.specs.DocElements.Pieces.{Piece, opens, whole, closes, leaf, Frame, number}
use Rattle.ltfs_label.specs.declared.Label.{Label}
use Rattle.ltfs_label.specs.declared.errors.LabelErr.{LabelErr}
use Rattle.ltfs_label.specs.declared.errors.LabelErr.TheVariants as errors
use Rattle.ltfs_label.specs.Values.{LabelValue, blank, label_of, set_leaf}

-- ---- the value

-- what a piece tells
abbrev pub set : Piece → LabelValue → LabelValue
set (opens p) v = v
set (whole p) v = v
set closes v = v
set (leaf tag x) v = set_leaf tag x v

-- what pieces tell, one after the other
abbrev pub value_from : LabelValue → List Piece → LabelValue
value_from v [] = v
value_from v (p ∷ ps) = value_from (set p v) ps

-- the text is a whole document, and its pieces tell this
pub record Reads (text : List ℕ) (v : LabelValue) : Type 0 where
  pub ps : List Piece
  pub accepts : Accepts place.Label text ps
  pub value : v ≡ value_from blank ps

-- ---- refusals

-- how a refusal is told; no element of a label is a name or a node
abbrev pub told : PieceErr → Option LabelErr
told (pieces.Syntax at) = Some (errors.Syntax at)
told (pieces.Unknown at) = Some (errors.Unknown at)
told (pieces.Twice at) = Some (errors.Twice at)
told pieces.Version = Some errors.Version
told (pieces.Missing tag) = Some (errors.Missing tag)
told (pieces.Number at) = Some (errors.Number at)
told (pieces.Name at) = None
told pieces.TooMany = None
told pieces.NoMemory = Some errors.NoMemory

-- where and why a text is no label
pub record Stops (text : List ℕ) (e : LabelErr) : Type 0 where
  pub why : PieceErr
  pub stops : StopsAt place.Label text why
  pub told_so : told why ≡ Some e

-- a refusal is due, unless memory was refused
abbrev pub UnlessMemory : LabelErr → Type 0 → Type 0
UnlessMemory errors.NoMemory P = Unit {0}
UnlessMemory _ P = P

-- the label was read, or memory was refused
abbrev pub IsReadOr : Result Label LabelErr → LabelValue → Type 0
IsReadOr (Ok l) v = label_of l ≡ v
IsReadOr (Err e) v = e ≡ errors.NoMemory

-- ---- what the code keeps

-- the size of a block is one that a block may have
abbrev pub FitsBlock : Piece → Type 0
FitsBlock (leaf BlockSize (number n)) = n ≤ 1048576
FitsBlock _ = ⊤

abbrev pub coded : Frame → code_frame.Frame
coded f = record { place = f.place; seen = children_of f.seen }

-- the outermost stands first
abbrev pub stacked : List Frame → List code_frame.Frame
stacked [] = []
stacked (f ∷ fs) = stacked fs ++ coded f ∷ []

abbrev pub Keeps : List Frame → code_frame.Frame → List code_frame.Frame → Bool → Type 0
Keeps [] top outer done = done ≡ true
Keeps (g ∷ gs) top outer done = (done ≡ false) × (top ≡ coded g) × (outer ≡ stacked gs)

-- the pieces from the root's start tag to its end tag, and the value that they tell
pub record Walked (text : List ℕ) (inside to : ℕ) (v : LabelValue) : Type 0 where
  pub ps : List Piece
  pub reaches :
      Reaches text ps inside (fresh place.Label ∷ []) 0 (record { at = to; parents = []; nodes = 0 })
  pub value : v ≡ value_from blank ps
