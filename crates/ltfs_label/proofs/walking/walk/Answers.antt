use Rattle.std.proofs.Common.{ℕ, List, [], ◌∷◌, ◌++◌, ◌≡◌, ◌≤◌, Bool, true, false, length, Ok, refl, sym, ap, ◌∙◌, arith}
use Rattle.ltfs_documents.specs.declared.doc_elements.children.Children.{Children}
use Rattle.ltfs_documents.specs.declared.doc_elements.pieces.Frame as code_frame
use Rattle.ltfs_documents.specs.declared.doc_elements.schema.Container.TheVariants as place
use Rattle.ltfs_documents.specs.DocElements.Answers.{piece_of}
use Rattle.ltfs_documents.specs.DocElements.Documents.{after, Reaches, fresh}
use Rattle.ltfs_documents.specs.DocElements.Pieces.{Piece, Frame}
use Rattle.ltfs_documents.proofs.DocElements.Steps.{point}
use Rattle.ltfs_label.specs.Reading.{Keeps, value_from}
use Rattle.ltfs_label.specs.Values.{LabelValue, label_of, blank}
use Rattle.ltfs_label.proofs.Places.{piece_fits, reached_top}
use Rattle.ltfs_label.proofs.Steps.{at_top, halted_at, is_walked, reaches_next, value_next}
use Rattle.ltfs_label.proofs.walking.walk.Invariants.{Kept}
use Rattle.ltfs_label.proofs.walking.walk.Goals as goal

is_kept : (text : List ℕ) (ps : List Piece) (inside next : ℕ) (gs : List Frame) (top : code_frame.Frame) (outer : List code_frame.Frame) (done : Bool) (v : LabelValue)
    → Reaches text ps inside (fresh place.Label ∷ []) 0 (point next gs 0) → Keeps gs top outer done → done ≡ false → v ≡ value_from blank ps → next ≤ length text → Kept text inside next top outer v
is_kept text ps inside next [] top outer done v r h d e le = let same : true ≡ false = sym h ∙ d in absurd (cc)
is_kept text ps inside next (g ∷ gs) top outer done v r h d e le = record { within = le; ps = ps; f = g; fs = gs; top_is = h.1; outer_is = h.2; reaches = r; value = e }

pub loop-at-init : goal.loop-at-init
loop-at-init c = record {
  within = omega arith;
  ps = [];
  f = fresh place.Label;
  fs = [];
  top_is = ap (λ (s : Children). record { place = place.Label; seen = s }) c.none.ensures;
  outer_is = c.new-outer.ensures.items;
  reaches = refl;
  value = c.blank-label.ensures;
}

pub returns-in-Err-clause-refused : goal.returns-in-Err-clause-refused
returns-in-Err-clause-refused c =
    let k = c.loop-at.invariant in
    halted_at c.args.text.now c.args.inside c.loop-at.at k.ps k.f k.fs c.loop-at.top c.in-Err.fault k.top_is k.reaches
    (c.in-Err.ensures.value k.f.seen (ap (λ (x : code_frame.Frame). x.seen) k.top_is))

pub returns-then-done-clause-found : goal.returns-then-done-clause-found
returns-then-done-clause-found c =
    let k = c.loop-at.invariant in
    let p = piece_of c.in-Ok.found.0 in
    let text = c.args.text.now in
    let next = c.in-Ok.found.1 in
    let here = at_top text c.loop-at.at c.loop-at.top k.f (Ok (p, next)) k.top_is (c.in-Ok.ensures.value k.f.seen (ap (λ (x : code_frame.Frame). x.seen) k.top_is)) in
    let on = reaches_next text k.ps c.args.inside c.loop-at.at k.f k.fs p next k.reaches here in
    is_walked text (k.ps ++ p ∷ []) c.args.inside next (after p k.f k.fs) c.moved.new.top c.moved.new.outer.items c.in_ok-done.done _ on
    (c.in_ok-done.ensures k.f k.fs k.top_is k.outer_is) c.if-done.true (value_next (label_of c.loop-at.label) _ k.ps p k.value c.put.ensures)

pub loop-at-preserved : goal.loop-at-preserved
loop-at-preserved c =
    let k = c.loop-at.invariant in
    let p = piece_of c.in-Ok.found.0 in
    let text = c.args.text.now in
    let next = c.in-Ok.found.1 in
    let here = at_top text c.loop-at.at c.loop-at.top k.f (Ok (p, next)) k.top_is (c.in-Ok.ensures.value k.f.seen (ap (λ (x : code_frame.Frame). x.seen) k.top_is)) in
    let on = reaches_next text k.ps c.args.inside c.loop-at.at k.f k.fs p next k.reaches here in
    is_kept text (k.ps ++ p ∷ []) c.args.inside next (after p k.f k.fs) c.moved.new.top c.moved.new.outer.items c.in_ok-done.done _ on
    (c.in_ok-done.ensures k.f k.fs k.top_is k.outer_is) c.if-done.false (value_next (label_of c.loop-at.label) _ k.ps p k.value c.put.ensures) c.in-Ok.ensures.within.1

pub put-requires : goal.put-requires
put-requires c =
    let k = c.loop-at.invariant in
    let p = piece_of c.in-Ok.found.0 in
    let text = c.args.text.now in
    let next = c.in-Ok.found.1 in
    let here = at_top text c.loop-at.at c.loop-at.top k.f (Ok (p, next)) k.top_is (c.in-Ok.ensures.value k.f.seen (ap (λ (x : code_frame.Frame). x.seen) k.top_is)) in
    piece_fits text k.f c.loop-at.at p next (reached_top text k.ps c.args.inside c.loop-at.at k.f k.fs k.reaches) here
