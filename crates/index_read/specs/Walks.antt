-- What a reader keeps while it goes from piece to piece.
use Rattle.std.specs.Prelude.{◌≡◌, ◌≤◌, ◌⊎◌, IsUtf8, ℕ, List, [], ◌∷◌, ◌++◌, Bool, true, false, map, length}
use Rattle.tape_types.specs.Bounds.{most_nodes}
use Rattle.ltfs_documents.specs.declared.doc_fields.tags.Tag.{Tag}
use Rattle.ltfs_documents.specs.DocElements.Children.{children_of}
use Rattle.index_model.specs.declared.errors.IndexErr.{IndexErr}
use Rattle.ltfs_documents.specs.declared.doc_elements.schema.Container.TheVariants as place
use Rattle.ltfs_documents.specs.DocElements.Schema.{tag_of}
use Rattle.ltfs_documents.specs.DocElements.Pieces.{Piece, opens, whole, closes, leaf, Frame}
use Rattle.ltfs_documents.specs.DocElements.Documents.{Accepts, Reaches, fresh, with_child}
use Rattle.index_model.specs.Documents.{StopsAs, fault_told}
use Rattle.index_model.specs.declared.faults.Fault.{Fault}
use Rattle.index_model.specs.declared.indexes.Index.{Index}
use Rattle.index_model.specs.Refusals.{IsToldOf}
use Rattle.index_model.specs.Values.{value_of, volume_of}
use Rattle.index_read.specs.declared.walking.Level as code_level
use Rattle.index_read.specs.Told.{State, Level, Tell, blank, node_in, outermost}

-- an open parent with the children that stood in it, and the node that its children speak of
pub record Opened : Type 0 where
  pub frame : Frame
  pub node : ℕ

abbrev pub frames_of : List Opened → List Frame
frames_of os = map (λ o. o.frame) os

abbrev pub level_of : Opened → Level
level_of o = record { place = o.frame.place; node = o.node }

abbrev pub levels_of : List Opened → List Level
levels_of os = map level_of os

abbrev pub with_tag : Tag → Opened → Opened
with_tag tag o = record { frame = with_child tag o.frame; node = o.node }

-- what a piece leaves open
abbrev pub opened_after : Piece → Opened → List Opened → State → List Opened
opened_after (opens q) o os s = record { frame = fresh q; node = node_in q o.node s } ∷ with_tag (tag_of q) o ∷ os
opened_after (whole q) o os s = with_tag (tag_of q) o ∷ os
opened_after closes o os s = os
opened_after (leaf tag v) o os s = with_tag tag o ∷ os

-- ---- what the code keeps

abbrev pub coded : Opened → code_level.Level
coded o = record { frame = record { place = o.frame.place; seen = children_of o.frame.seen }; node = o.node }

abbrev pub level_in : code_level.Level → Level
level_in l = record { place = l.frame.place; node = l.node }

-- the outermost stands first
abbrev pub stacked : List Opened → List code_level.Level
stacked [] = []
stacked (o ∷ os) = stacked os ++ coded o ∷ []

abbrev pub Keeps : List Opened → code_level.Level → List code_level.Level → Bool → Type 0
Keeps [] top outer done = done ≡ true
Keeps (o ∷ os) top outer done = (done ≡ false) × (top ≡ coded o) × (outer ≡ stacked os)

-- a reader of the text behind the root's start tag: the open parents that it keeps, and what was told
pub record Kept (text : List ℕ) (inside at : ℕ) (top : code_level.Level) (outer : List code_level.Level) (s : State)
    : Type 0 where
  pub within : at ≤ length text
  pub few : length s.nodes ≤ most_nodes
  pub ps : List Piece
  pub o : Opened
  pub os : List Opened
  pub top_is : top ≡ coded o
  pub outer_is : outer ≡ stacked os
  pub reaches : Reaches text ps inside (fresh place.Index ∷ []) 0
      (record { at = at; parents = frames_of (o ∷ os); nodes = length s.nodes })
  pub tells : Tell ps outermost blank (levels_of (o ∷ os)) s

-- the pieces from the root's start tag to its end tag, and what they tell
pub record Walked (text : List ℕ) (inside to : ℕ) (s : State) : Type 0 where
  pub ps : List Piece
  pub reaches :
      Reaches text ps inside (fresh place.Index ∷ []) 0 (record { at = to; parents = []; nodes = length s.nodes })
  pub tells : Tell ps outermost blank [] s

-- the text is a whole document, and its pieces tell this
pub record IsWhole (text : List ℕ) (s : State) : Type 0 where
  pub ps : List Piece
  pub accepts : Accepts place.Index text ps
  pub tells : Tell ps outermost blank [] s

-- the text is a whole document in UTF-8, and its pieces tell this index
pub record IsReadAs (text : List ℕ) (index : Index) : Type 0 where
  pub valid : IsUtf8 text
  pub state : State
  pub whole : IsWhole text state
  pub volume : volume_of index ≡ state.volume
  pub nodes : map value_of index.nodes ≡ state.nodes

-- the same, with a fault of the whole index
pub record IsFaulty (text : List ℕ) (e : IndexErr) : Type 0 where
  pub index : Index
  pub read : IsReadAs text index
  pub fault : Fault
  pub told : IsToldOf index fault
  pub same : e ≡ fault_told fault

-- why a text isn't read
abbrev pub IsRefused : List ℕ → IndexErr → Type 0
IsRefused text e = StopsAs text e ⊎ IsFaulty text e
