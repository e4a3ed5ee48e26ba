-- One piece more.
use Rattle.std.proofs.Common.{◌≡◌, ℕ, ◌<◌, ◌≤◌, List, [], ◌∷◌, ◌++◌, true, Result, Ok, Err, refl, sym, ap, arith}
use Rattle.tape_types.specs.Bounds.{most_nodes}
use Rattle.ltfs_documents.specs.declared.doc_elements.errors.PieceErr.{PieceErr}
use Rattle.ltfs_documents.specs.declared.doc_elements.errors.PieceErr.TheVariants as errors
use Rattle.ltfs_documents.specs.declared.doc_elements.schema.Container.{Container}
use Rattle.ltfs_documents.specs.declared.doc_elements.schema.Container.TheVariants as place
use Rattle.ltfs_documents.specs.DocElements.Schema.{is_node}
use Rattle.ltfs_documents.specs.DocElements.Pieces.{Piece, opens, Frame, piece_at}
use Rattle.ltfs_documents.specs.DocElements.Documents.{Point, Reaches, after, counted}
use Rattle.ltfs_documents.specs.declared.doc_elements.pieces.Piece as code_piece
use Rattle.ltfs_documents.specs.declared.doc_elements.pieces.Piece.TheVariants as code_pieces
use Rattle.ltfs_documents.specs.DocElements.Answers.{HasRoom, Fails, UnlessMemory, piece_of}

-- ---- how many nodes have begun

few_opens : (q : Container) (n : ℕ) → (is_node q ≡ true → n < most_nodes) → n ≤ most_nodes
    → counted (opens q) n ≤ most_nodes
few_opens place.Root n room few = omega (arith, room refl)
few_opens place.Directory n room few = omega (arith, room refl)
few_opens place.File n room few = omega (arith, room refl)
few_opens _ n room few = few

-- a piece for which there is room leaves at most 65,536 nodes
pub few_counted : (p : code_piece.Piece) (n : ℕ) → HasRoom p n → n ≤ most_nodes → counted (piece_of p) n ≤ most_nodes
few_counted (code_pieces.Opens q) n room few = few_opens q n room few
few_counted (code_pieces.Whole q) n room few = few_opens q n room few
few_counted code_pieces.Closes n room few = few
few_counted (code_pieces.Leaf tag v) n room few = few

-- ---- one piece more

-- a place in the text, the open parents and the count of nodes begun
abbrev pub point : ℕ → List Frame → ℕ → Point
point at fs nodes = record { at = at; parents = fs; nodes = nodes }

-- a piece that is read leads on to the point behind it
pub reaches_more : (text : List ℕ) (ps : List Piece) (a : ℕ) (from : List Frame) (m at : ℕ) (f : Frame) (fs : List Frame) (n : ℕ) (p : Piece) (next : ℕ)
    → Reaches text ps a from m (point at (f ∷ fs) n) → piece_at f n text at ≡ Ok (p, next) → Reaches text (ps ++ p ∷ []) a from m (point next (after p f fs) (counted p n))
reaches_more text [] a [] m at f fs n p next h e = absurd (let bad : f ∷ fs ≡ [] = ap (λ (x : Point). x.parents) h in cc)
reaches_more text [] a (g ∷ gs) m at f fs n p next h e =
    let all : f ∷ fs ≡ g ∷ gs = ap (λ (x : Point). x.parents) h in
    let tops : g ≡ f = cc in
    let rests : gs ≡ fs = cc in
    let places : a ≡ at = sym (ap (λ (x : Point). x.at) h) in
    let counts : m ≡ n = sym (ap (λ (x : Point). x.nodes) h) in
    let here : piece_at g m text a ≡ Ok (p, next) = rw (tops, places, counts) e in
    let there : point next (after p f fs) (counted p n) ≡ point next (after p g gs) (counted p m) = rw (tops, rests, counts) refl in
    (next, here, there)
reaches_more text (q ∷ ps) a [] m at f fs n p next h e = h
reaches_more text (q ∷ ps) a (g ∷ gs) m at f fs n p next h e = (h.0, h.1, reaches_more text ps h.0 (after q g gs) (counted q m) at f fs n p next h.2 e)

-- ---- what doesn't fit

-- a refusal other than for want of memory is the one that reading gives
pub unless_memory : (e : PieceErr) (r : Result (Piece × ℕ) PieceErr) (Q : Type 0) → (r ≡ Err e → Q) → Fails e r → UnlessMemory e Q
unless_memory errors.NoMemory r Q f h = tt
unless_memory _ r Q f h = f h
