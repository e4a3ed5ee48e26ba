-- A text is read in one way.
use Rattle.std.proofs.Common.{◌≡◌, ℕ, List, [], ◌∷◌, length, IsUtf8, Result, Ok, Err, refl, sym, ap, subst, ◌∙◌, inl, inr}
use Rattle.ltfs_documents.specs.DocFields.Space.{space_end}
use Rattle.ltfs_documents.specs.declared.doc_elements.schema.Container.{Container}
use Rattle.ltfs_documents.specs.declared.doc_elements.errors.PieceErr.{PieceErr}
use Rattle.ltfs_documents.specs.declared.doc_elements.errors.PieceErr.TheVariants as errors
use Rattle.ltfs_documents.specs.DocElements.Pieces.{Piece, Frame, piece_at}
use Rattle.ltfs_documents.specs.DocElements.Documents.{Point, fresh, after, counted, head_of, Reaches, Open, Accepts, Halts, StopsAt, readable, at_head, at_piece, at_end}
use Rattle.ltfs_documents.proofs.DocElements.Whole.{readable_all}

-- no piece follows
abbrev pub Final : List ℕ → ℕ → List Frame → ℕ → Type 0
Final text at [] nodes = Unit {0}
Final text at (f ∷ fs) nodes = (e : PieceErr) × (piece_at f nodes text at ≡ Err e)

-- at this point no further piece is read
abbrev pub IsFinal : List ℕ → Point → Type 0
IsFinal text end = Final text end.at end.parents end.nodes

pub record SameEnd (ps qs : List Piece) (a b : Point) : Type 0 where
  pub pieces : ps ≡ qs
  pub ends : a ≡ b

no_more : (text : List ℕ) (at : ℕ) (f : Frame) (fs : List Frame) (nodes : ℕ) (p : Piece × ℕ) → Final text at (f ∷ fs) nodes → piece_at f nodes text at ≡ Ok p → ⊥
no_more text at f fs nodes p final ok = let both : Err final.0 ≡ Ok p = sym final.1 ∙ ok in cc

same_end : (text : List ℕ) (ps qs : List Piece) (at : ℕ) (fs : List Frame) (nodes : ℕ) (a b : Point)
    → Reaches text ps at fs nodes a → IsFinal text a → Reaches text qs at fs nodes b → IsFinal text b → SameEnd ps qs a b
same_end text [] [] at fs nodes a b r final s final2 = record { pieces = refl; ends = r ∙ sym s }
same_end text [] (q ∷ qs) at [] nodes a b r final s final2 = absurd s
same_end text [] (q ∷ qs) at (f ∷ fs) nodes a b r final s final2 =
    absurd (no_more text at f fs nodes (q, s.0) (subst (IsFinal text) r final) s.1)
same_end text (p ∷ ps) qs at [] nodes a b r final s final2 = absurd r
same_end text (p ∷ ps) [] at (f ∷ fs) nodes a b r final s final2 =
    absurd (no_more text at f fs nodes (p, r.0) (subst (IsFinal text) s final2) r.1)
same_end text (p ∷ ps) (q ∷ qs) at (f ∷ fs) nodes a b r final s final2 =
    let both : ◌≡◌ {A = Result (Piece × ℕ) PieceErr} (Ok (p, r.0)) (Ok (q, s.0)) = sym r.1 ∙ s.1 in
    let pair : ◌≡◌ {A = Piece × ℕ} (p, r.0) (q, s.0) = cc in
    let tops : p ≡ q = ap (λ (x : Piece × ℕ). x.0) pair in
    let nexts : r.0 ≡ s.0 = ap (λ (x : Piece × ℕ). x.1) pair in
    let more : Reaches text qs r.0 (after p f fs) (counted p nodes) b = subst (λ (n : ℕ). Reaches text qs n (after p f fs) (counted p nodes) b) (sym nexts) (subst (λ (x : Piece). Reaches text qs s.0 (after x f fs) (counted x nodes) b) (sym tops) s.2) in
    let rest = same_end text ps qs r.0 (after p f fs) (counted p nodes) a b r.2 final more final2 in
    let whole : p ∷ ps ≡ q ∷ qs = rw (tops, rest.pieces) refl in
    record { pieces = whole; ends = rest.ends }

-- the same for what is open in a text
same_open : (doc : Container) (text : List ℕ) (ps qs : List Piece) (a b : Point) → Open doc text ps a → IsFinal text a → Open doc text qs b → IsFinal text b → SameEnd ps qs a b
same_open doc text ps qs a b x final y final2 =
    let heads : ◌≡◌ {A = Result ℕ PieceErr} (Ok x.inside) (Ok y.inside) = sym x.head_is ∙ y.head_is in
    let insides : x.inside ≡ y.inside = cc in
    same_end text ps qs x.inside (fresh doc ∷ []) 0 a b x.reaches final (subst (λ (n : ℕ). Reaches text qs n (fresh doc ∷ []) 0 b) (sym insides) y.reaches) final2

closed_final : (text : List ℕ) (end : Point) → end.parents ≡ [] → IsFinal text end
closed_final text end none = subst (λ (fs : List Frame). Final text end.at fs end.nodes) (sym none) tt

stopped_final : (text : List ℕ) (end : Point) (f : Frame) (fs : List Frame) (e : PieceErr) → end.parents ≡ f ∷ fs → piece_at f end.nodes text end.at ≡ Err e → IsFinal text end
stopped_final text end f fs e is h = subst (λ (gs : List Frame). Final text end.at gs end.nodes) (sym is) (e, h)

-- a whole document has its pieces and its end
pub one_document : (doc : Container) (text : List ℕ) (ps qs : List Piece) (x : Accepts doc text ps) (y : Accepts doc text qs) → SameEnd ps qs x.point y.point
one_document doc text ps qs x y = same_open doc text ps qs x.point y.point x.opened (closed_final text x.point x.closed) y.opened (closed_final text y.point y.closed)

no_head : (doc : Container) (text : List ℕ) (e : PieceErr) (ps : List Piece) (a : Point) → head_of doc text ≡ Err e → Open doc text ps a → ⊥
no_head doc text e ps a h o = let both : ◌≡◌ {A = Result ℕ PieceErr} (Err e) (Ok o.inside) = sym h ∙ o.head_is in cc

not_both : (doc : Container) (text : List ℕ) (ps : List Piece) (e : PieceErr) → Accepts doc text ps → Halts doc text e → ⊥
not_both doc text ps e x (at_head h) = no_head doc text e ps x.point h x.opened
not_both doc text ps e x (at_piece qs end f fs o is h) =
    let same = same_open doc text ps qs x.point end x.opened (closed_final text x.point x.closed) o (stopped_final text end f fs e is h) in
    let parents : [] ≡ f ∷ fs = sym x.closed ∙ ap (λ (p : Point). p.parents) same.ends ∙ is in
    cc
not_both doc text ps e x (at_end qs end o none ne) =
    let same = same_open doc text ps qs x.point end x.opened (closed_final text x.point x.closed) o (closed_final text end none) in
    ne (ap (λ (p : Point). space_end text p.at) (sym same.ends) ∙ x.ended)

-- a text halts at one place
one_halt : (doc : Container) (text : List ℕ) (e f : PieceErr) → Halts doc text e → Halts doc text f → e ≡ f
one_halt doc text e f (at_head h) (at_head k) = let both : ◌≡◌ {A = Result ℕ PieceErr} (Err e) (Err f) = sym h ∙ k in cc
one_halt doc text e f (at_head h) (at_piece ps end g gs o is k) = absurd (no_head doc text e ps end h o)
one_halt doc text e f (at_head h) (at_end ps end o none ne) = absurd (no_head doc text e ps end h o)
one_halt doc text e f (at_piece ps end g gs o is h) (at_head k) = absurd (no_head doc text f ps end k o)
one_halt doc text e f (at_piece ps end g gs o is h) (at_piece qs to i js x are k) =
    let same = same_open doc text ps qs end to o (stopped_final text end g gs e is h) x (stopped_final text to i js f are k) in
    let all : g ∷ gs ≡ i ∷ js = sym is ∙ ap (λ (p : Point). p.parents) same.ends ∙ are in
    let tops : g ≡ i = cc in
    let both : ◌≡◌ {A = Result (Piece × ℕ) PieceErr} (Err e) (Err f) = sym h ∙ ap (λ (p : Point). piece_at g p.nodes text p.at) same.ends ∙ ap (λ (j : Frame). piece_at j to.nodes text to.at) tops ∙ k in
    cc
one_halt doc text e f (at_piece ps end g gs o is h) (at_end qs to x none ne) =
    absurd (let same = same_open doc text ps qs end to o (stopped_final text end g gs e is h) x (closed_final text to none) in let bad : g ∷ gs ≡ [] = sym is ∙ ap (λ (p : Point). p.parents) same.ends ∙ none in cc)
one_halt doc text e f (at_end ps end o none ne) (at_head k) = absurd (no_head doc text f ps end k o)
one_halt doc text e f (at_end ps end o none ne) (at_piece qs to i js x are k) =
    absurd (let same = same_open doc text ps qs end to o (closed_final text end none) x (stopped_final text to i js f are k) in let bad : [] ≡ i ∷ js = sym none ∙ ap (λ (p : Point). p.parents) same.ends ∙ are in cc)
one_halt doc text e f (at_end ps end o none ne) (at_end qs to x nothing ne2) =
    let same = same_open doc text ps qs end to o (closed_final text end none) x (closed_final text to nothing) in
    ap (λ (p : Point). errors.Syntax (space_end text p.at)) same.ends

-- ---- the text in UTF-8

-- a text that is a whole document stops nowhere
pub never_both : (doc : Container) (text : List ℕ) (ps : List Piece) (e : PieceErr) → IsUtf8 text → Accepts doc text ps → StopsAt doc text e → ⊥
never_both doc text ps e valid x (inl h) = not_both doc text ps e x (subst (λ (t : List ℕ). Halts doc t e) (readable_all text valid) h)
never_both doc text ps e valid x (inr r) = r.0.more (ap length (readable_all text valid))

-- a text stops at one place and for one reason
pub one_stop : (doc : Container) (text : List ℕ) (e f : PieceErr) → StopsAt doc text e → StopsAt doc text f → e ≡ f
one_stop doc text e f (inl h) (inl k) = one_halt doc (readable text) e f h k
one_stop doc text e f (inl h) (inr r) = absurd (not_both doc (readable text) r.0.ps e r.0.accepts h)
one_stop doc text e f (inr r) (inl k) = absurd (not_both doc (readable text) r.0.ps f r.0.accepts k)
one_stop doc text e f (inr r) (inr s) = r.1 ∙ sym s.1
