use Rattle.std.proofs.Common.{ℕ, List, [], ◌∷◌, ◌≡◌, ◌≤◌, ◌-◌, ◌+◌, length}
use Rattle.ltfs_documents.specs.declared.doc_elements.pieces.Frame as code_frame
use Rattle.ltfs_documents.specs.declared.doc_elements.schema.Container.TheVariants as place
use Rattle.ltfs_documents.specs.DocElements.Documents.{Reaches, fresh}
use Rattle.ltfs_documents.specs.DocElements.Pieces.{Piece, Frame}
use Rattle.ltfs_label.specs.Reading.{coded, stacked, value_from}
use Rattle.ltfs_label.specs.Values.{LabelValue, label_of, blank}
use Rattle.ltfs_label.proofs.walking.walk.Given as goal

pub record Kept (text : List ℕ) (inside at : ℕ) (top : code_frame.Frame) (outer : List code_frame.Frame) (v : LabelValue) : Type 0 where
  pub within : at ≤ length text
  pub ps : List Piece
  pub f : Frame
  pub fs : List Frame
  pub top_is : top ≡ coded f
  pub outer_is : outer ≡ stacked fs
  pub reaches : Reaches text ps inside (fresh place.Label ∷ []) 0 (record { at = at; parents = f ∷ fs; nodes = 0 })
  pub value : v ≡ value_from blank ps

abbrev pub invariant-loop-at : goal.invariant-loop-at
invariant-loop-at l = Kept l.text l.inside l.at l.top l.outer.items (label_of l.label)

abbrev pub decreases-loop-at : goal.decreases-loop-at
decreases-loop-at l = length l.text + 1 - l.at
