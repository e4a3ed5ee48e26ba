-- One piece more.
use Rattle.std.proofs.Common.{◌≡◌, ℕ, List, [], ◌∷◌, ◌++◌, Bool, true, false, Result, Ok, Err, refl, sym, ap, subst, ◌∙◌}
use Rattle.ltfs_documents.specs.declared.doc_elements.errors.PieceErr.{PieceErr}
use Rattle.ltfs_documents.specs.declared.doc_elements.pieces.Frame as code_frame
use Rattle.ltfs_documents.specs.declared.doc_elements.schema.Container.{Container}
use Rattle.ltfs_documents.specs.declared.doc_elements.schema.Container.TheVariants as place
use Rattle.ltfs_documents.specs.DocElements.Answers.{Fails, UnlessMemory}
use Rattle.ltfs_documents.specs.DocElements.Documents.{Halted, Reaches, after, counted, fresh}
use Rattle.ltfs_documents.specs.DocElements.Pieces.{Piece, Frame, piece_at}
use Rattle.ltfs_documents.proofs.DocElements.Steps.{point, reaches_more, unless_memory}
use Rattle.ltfs_label.specs.Reading.{Keeps, Walked, coded, set, value_from}
use Rattle.ltfs_label.specs.Values.{LabelValue, blank}
use Rattle.ltfs_label.proofs.Places.{none_begun, reached_top}

value_more : (v : LabelValue) (ps : List Piece) (p : Piece) → value_from v (ps ++ p ∷ []) ≡ set p (value_from v ps)
value_more v [] p = refl
value_more v (q ∷ ps) p = value_more (set q v) ps p

-- one piece more sets its part of the label's value
pub value_next : (v w : LabelValue) (ps : List Piece) (p : Piece) → v ≡ value_from blank ps → w ≡ set p v → w ≡ value_from blank (ps ++ p ∷ [])
value_next v w ps p e f = f ∙ ap (λ (x : LabelValue). set p x) e ∙ sym (value_more blank ps p)

-- one piece more of a label is passed
pub reaches_next : (text : List ℕ) (ps : List Piece) (inside at : ℕ) (f : Frame) (fs : List Frame) (p : Piece) (next : ℕ)
    → Reaches text ps inside (fresh place.Label ∷ []) 0 (point at (f ∷ fs) 0) → piece_at f 0 text at ≡ Ok (p, next)
    → Reaches text (ps ++ p ∷ []) inside (fresh place.Label ∷ []) 0 (point next (after p f fs) 0)
reaches_next text ps inside at f fs p next r h =
    let more = reaches_more text ps inside (fresh place.Label ∷ []) 0 at f fs 0 p next r h in
    let none : counted p 0 ≡ 0 = none_begun text f at p next (reached_top text ps inside at f fs r) h in
    subst (λ (n : ℕ). Reaches text (ps ++ p ∷ []) inside (fresh place.Label ∷ []) 0 (point next (after p f fs) n)) none more

-- a reader that has closed all parents has passed the whole label
pub is_walked : (text : List ℕ) (ps : List Piece) (inside next : ℕ) (gs : List Frame) (top : code_frame.Frame) (outer : List code_frame.Frame) (done : Bool) (v : LabelValue)
    → Reaches text ps inside (fresh place.Label ∷ []) 0 (point next gs 0) → Keeps gs top outer done → done ≡ true → v ≡ value_from blank ps → Walked text inside next v
is_walked text ps inside next [] top outer done v r h d e = record { ps = ps; reaches = r; value = e }
is_walked text ps inside next (g ∷ gs) top outer done v r h d e = let same : false ≡ true = sym h.0 ∙ d in absurd (cc)

-- the reader's innermost parent is the one that the pieces so far have left open
pub at_top : (text : List ℕ) (at : ℕ) (top : code_frame.Frame) (f : Frame) (r : Result (Piece × ℕ) PieceErr) → top ≡ coded f → piece_at (record { place = top.place; seen = f.seen }) 0 text at ≡ r → piece_at f 0 text at ≡ r
at_top text at top f r e h = subst (λ (p : Container). piece_at (record { place = p; seen = f.seen }) 0 text at ≡ r) (ap (λ (x : code_frame.Frame). x.place) e) h

-- a piece that is refused halts the label there, unless for want of memory
pub halted_at : (text : List ℕ) (inside at : ℕ) (ps : List Piece) (f : Frame) (fs : List Frame) (top : code_frame.Frame) (e : PieceErr) → top ≡ coded f
    → Reaches text ps inside (fresh place.Label ∷ []) 0 (point at (f ∷ fs) 0) → Fails e (piece_at (record { place = top.place; seen = f.seen }) 0 text at) → UnlessMemory e (Halted place.Label text inside e)
halted_at text inside at ps f fs top e is r h =
    unless_memory e (piece_at (record { place = top.place; seen = f.seen }) 0 text at) (Halted place.Label text inside e)
    (λ fails. record { ps = ps; point = point at (f ∷ fs) 0; reaches = r; f = f; fs = fs; parents = refl; fails = at_top text at top f (Err e) is fails }) h
