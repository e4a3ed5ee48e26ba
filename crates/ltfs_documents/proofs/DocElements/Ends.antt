-- Each text is whole pieces of a document, or stops.
use Rattle.std.proofs.Common.{◌≡◌, ◌⊎◌, ℕ, zero, suc, ◌+◌, ◌≤◌, ◌<◌, Bool, true, false, cond, eqb, ◌==◌, nat_lt, List, [], ◌∷◌, Result, Ok, Err, IsUtf8, length, inl, inr, ⊎_elim, refl, ap, subst, arith}
use Rattle.std.proofs.lemmas.Bool.{eqb-false, eqb-true}
use Rattle.ltfs_documents.specs.declared.doc_fields.starts.Start.{Start}
use Rattle.ltfs_documents.specs.declared.doc_fields.tags.Tag.{Tag}
use Rattle.ltfs_documents.specs.DocFields.Reading.{Read}
use Rattle.ltfs_documents.specs.DocFields.Space.{space_end}
use Rattle.ltfs_documents.specs.DocFields.EndTag.{end_at}
use Rattle.ltfs_documents.specs.DocFields.Numbers.{number_at}
use Rattle.ltfs_documents.specs.DocFields.Texts.{text_at}
use Rattle.ltfs_documents.specs.DocFields.Values.{bool_at, letter_at, lock_at, time_at, uuid_at}
use Rattle.ltfs_documents.specs.declared.doc_elements.errors.PieceErr.{PieceErr}
use Rattle.ltfs_documents.specs.declared.doc_elements.errors.PieceErr.TheVariants as errors
use Rattle.ltfs_documents.specs.declared.doc_elements.schema.Form.{Form}
use Rattle.ltfs_documents.specs.declared.doc_elements.schema.Form.TheVariants as form
use Rattle.ltfs_documents.specs.declared.doc_elements.schema.Container.{Container}
use Rattle.ltfs_documents.specs.DocElements.Documents.{Accepts, Halts, IsAccepted, IsStopped, Open, Point, Reaches, after, at_end, at_head, at_piece, counted, fresh, head_of, readable}
use Rattle.ltfs_documents.specs.DocElements.Pieces.{Frame, Piece, Val, ◌>>=◌, bytes, bytes_in, bytes_of, closes, empty_value, in_range, is_too_great, leaf, leaf_at, least, letter, lift, lock, name_in, name_of, named, number, number_in, opens, piece_at, spaced, time, truth, uuid, value_in, whole, words}
use Rattle.ltfs_documents.proofs.DocElements.Inversion.{What, bind_ok, lift_ok, piece_is}
use Rattle.ltfs_documents.proofs.DocElements.Once.{Final, IsFinal}
use Rattle.ltfs_documents.proofs.DocElements.Steps.{point}
use Rattle.ltfs_documents.proofs.DocElements.Whole.{readable_all}
use Rattle.ltfs_documents.proofs.DocFields.Moments.{utf8_or_cut}
use Rattle.ltfs_documents.proofs.DocFields.Forward.{bool_after, end_after, letter_after, lock_after, named_after, number_after, rest_after, space_after, text_after, time_after, uuid_after}

either_ok : {A : Type 0} (b : Bool) (r s : Result A PieceErr) (y : A) → cond b r s ≡ Ok y → (r ≡ Ok y) ⊎ (s ≡ Ok y)
either_ok true r s y e = inl e
either_ok false r s y e = inr e

unless : {A : Type 0} (b : Bool) (r : Result A PieceErr) (d : PieceErr) (y : A) → cond b (Err d) r ≡ Ok y → r ≡ Ok y
unless true r d y e = absurd cc
unless false r d y e = e

same_ok : {A : Type 0} (x y : A) → ◌≡◌ {A = Result A PieceErr} (Ok x) (Ok y) → x ≡ y
same_ok x y e = cc

no_fault : {A : Type 0} (d : PieceErr) (y : A) → ◌≡◌ {A = Result A PieceErr} (Err d) (Ok y) → ⊥
no_fault d y e = cc

-- ---- what is read lies behind

spaced_after : {A : Type 0} (view : A → Val) (text : List ℕ) (read : Read (A × ℕ)) (at : ℕ) (v : Val × ℕ) → ((x : A × ℕ) → read ≡ Ok x → at ≤ x.1)
    → spaced view text read ≡ Ok v → at ≤ v.1
spaced_after {A} view text read at v low e =
    let a = bind_ok (lift read) (λ (x : A × ℕ). Ok (view x.0, space_end text x.1)) v e in
    let end : space_end text a.0.1 ≡ v.1 = ap (λ (p : Val × ℕ). p.1) (same_ok (view a.0.0, space_end text a.0.1) v a.2) in
    omega (arith, low a.0 (lift_ok read a.0 a.1), end, space_after text a.0.1)

in_range_is : (f : Form) (text : List ℕ) (from : ℕ) (n m : ℕ × ℕ) → in_range f text from n ≡ Ok m → n ≡ m
in_range_is f text from n m e =
    let a = unless (is_too_great f n.0) (cond (nat_lt n.0 (least f)) (Err (cond (n.1 == length text) (errors.Syntax (length text)) (errors.Number from))) (Ok n)) _ m e in
    same_ok n m (unless (nat_lt n.0 (least f)) (Ok n) _ m a)

number_in_after : (f : Form) (text : List ℕ) (at : ℕ) (v : Val × ℕ) → number_in f text at ≡ Ok v → at ≤ v.1
unfolding number_in
number_in_after f text at v e =
    let a = bind_ok (lift (number_at text at)) (λ n. in_range f text at n >>= λ m. Ok (number m.0, space_end text m.1)) v e in
    let b = bind_ok (in_range f text at a.0) (λ m. Ok (number m.0, space_end text m.1)) v a.2 in
    let same : a.0.1 ≡ b.0.1 = ap (λ (p : ℕ × ℕ). p.1) (in_range_is f text at a.0 b.0 b.1) in
    let end : space_end text b.0.1 ≡ v.1 = ap (λ (p : Val × ℕ). p.1) (same_ok (number b.0.0, space_end text b.0.1) v b.2) in
    omega (arith, number_after text at a.0 (lift_ok (number_at text at) a.0 a.1), same, end, space_after text b.0.1)

name_in_after : (f : Form) (from : ℕ) (start : Start) (text : List ℕ) (v : Val × ℕ) → name_in f from start text ≡ Ok v → start.next ≤ v.1
unfolding name_in
name_in_after f from start text v e =
    let a = bind_ok (lift (text_at text start.next)) (λ x. name_of f from start.attribute text x >>= λ name. Ok (words name, x.1)) v e in
    let b = bind_ok (name_of f from start.attribute text a.0) (λ name. Ok (words name, a.0.1)) v a.2 in
    let end : a.0.1 ≡ v.1 = ap (λ (p : Val × ℕ). p.1) (same_ok (words b.0, a.0.1) v b.2) in
    omega (arith, text_after text start.next a.0 (lift_ok (text_at text start.next) a.0 a.1), end)

bytes_in_after : (start : Start) (text : List ℕ) (v : Val × ℕ) → bytes_in start text ≡ Ok v → start.next ≤ v.1
unfolding bytes_in
bytes_in_after start text v e =
    let a = bind_ok (lift (text_at text start.next)) (λ x. bytes_of start.attribute text (space_end text start.next) x >>= λ bs. Ok (bytes bs, x.1)) v e in
    let b = bind_ok (bytes_of start.attribute text (space_end text start.next) a.0) (λ bs. Ok (bytes bs, a.0.1)) v a.2 in
    let end : a.0.1 ≡ v.1 = ap (λ (p : Val × ℕ). p.1) (same_ok (bytes b.0, a.0.1) v b.2) in
    omega (arith, text_after text start.next a.0 (lift_ok (text_at text start.next) a.0 a.1), end)

text_in_after : (start : Start) (text : List ℕ) (v : Val × ℕ) → (lift (text_at text start.next) >>= λ x. Ok (words x.0, x.1)) ≡ Ok v → start.next ≤ v.1
text_in_after start text v e =
    let a = bind_ok (lift (text_at text start.next)) (λ x. Ok (words x.0, x.1)) v e in
    let end : a.0.1 ≡ v.1 = ap (λ (p : Val × ℕ). p.1) (same_ok (words a.0.0, a.0.1) v a.2) in
    omega (arith, text_after text start.next a.0 (lift_ok (text_at text start.next) a.0 a.1), end)

behind_space : (text : List ℕ) (at n : ℕ) → space_end text at ≤ n → at ≤ n
behind_space text at n le = omega (arith, le, space_after text at)

value_after : (f : Form) (from : ℕ) (start : Start) (text : List ℕ) (v : Val × ℕ) → value_in f from start text ≡ Ok v → start.next ≤ v.1
value_after form.Text from start text v e = text_in_after start text v e
value_after form.VolumeName from start text v e = name_in_after form.VolumeName from start text v e
value_after form.NodeName from start text v e = name_in_after form.NodeName from start text v e
value_after form.AnyName from start text v e = name_in_after form.AnyName from start text v e
value_after form.Key from start text v e = name_in_after form.Key from start text v e
value_after form.Value from start text v e = bytes_in_after start text v e
value_after form.Time from start text v e =
    behind_space text start.next v.1 (spaced_after time text (time_at text (space_end text start.next)) (space_end text start.next) v (time_after text (space_end text start.next)) e)
value_after form.Uuid from start text v e =
    behind_space text start.next v.1 (spaced_after uuid text (uuid_at text (space_end text start.next)) (space_end text start.next) v (uuid_after text (space_end text start.next)) e)
value_after form.Letter from start text v e =
    behind_space text start.next v.1 (spaced_after letter text (letter_at text (space_end text start.next)) (space_end text start.next) v (letter_after text (space_end text start.next)) e)
value_after form.Truth from start text v e =
    behind_space text start.next v.1 (spaced_after truth text (bool_at text (space_end text start.next)) (space_end text start.next) v (bool_after text (space_end text start.next)) e)
value_after form.Lock from start text v e =
    behind_space text start.next v.1 (spaced_after lock text (lock_at text (space_end text start.next)) (space_end text start.next) v (lock_after text (space_end text start.next)) e)
value_after form.BlockSize from start text v e = behind_space text start.next v.1 (number_in_after form.BlockSize text (space_end text start.next) v e)
value_after form.Number from start text v e = behind_space text start.next v.1 (number_in_after form.Number text (space_end text start.next) v e)
value_after form.Bounded from start text v e = behind_space text start.next v.1 (number_in_after form.Bounded text (space_end text start.next) v e)
value_after form.Generation from start text v e = behind_space text start.next v.1 (number_in_after form.Generation text (space_end text start.next) v e)

empty_name : (f : Form) (from at : ℕ) (v : Val × ℕ) → (named f from [] >>= λ name. Ok (words name, at)) ≡ Ok v → at ≤ v.1
empty_name f from at v e =
    let a = bind_ok (named f from []) (λ name. Ok (words name, at)) v e in
    let end : at ≡ v.1 = ap (λ (p : Val × ℕ). p.1) (same_ok (words a.0, at) v a.2) in
    omega (arith, end)

empty_after : (f : Form) (from at : ℕ) (v : Val × ℕ) → empty_value f from at ≡ Ok v → at ≤ v.1
empty_after form.Text from at v e = let end : at ≡ v.1 = ap (λ (p : Val × ℕ). p.1) (same_ok (words [], at) v e) in omega (arith, end)
empty_after form.VolumeName from at v e = empty_name form.VolumeName from at v e
empty_after form.NodeName from at v e = empty_name form.NodeName from at v e
empty_after form.AnyName from at v e = empty_name form.AnyName from at v e
empty_after form.Key from at v e = empty_name form.Key from at v e
empty_after form.Value from at v e = let end : at ≡ v.1 = ap (λ (p : Val × ℕ). p.1) (same_ok (bytes [], at) v e) in omega (arith, end)
empty_after _ from at v e = absurd (no_fault (errors.Syntax at) v e)

leaf_after : (f : Form) (tag : Tag) (from : ℕ) (start : Start) (text : List ℕ) (v : Val × ℕ) → leaf_at f tag from start text ≡ Ok v → start.next ≤ v.1
unfolding leaf_at
leaf_after f tag from start text v e = ⊎_elim
    (λ (empty : empty_value f from start.next ≡ Ok v). empty_after f from start.next v empty)
    (λ some.
    let a = bind_ok (value_in f from start text) (λ x. lift (end_at text x.1 tag) >>= λ n. Ok (x.0, n)) v some in
    let b = bind_ok (lift (end_at text a.0.1 tag)) (λ n. Ok (a.0.0, n)) v a.2 in
    let end : b.0 ≡ v.1 = ap (λ (p : Val × ℕ). p.1) (same_ok (a.0.0, b.0) v b.2) in
    omega (arith, value_after f from start text a.0 a.1, (end_after text a.0.1 tag b.0 (lift_ok (end_at text a.0.1 tag) b.0 b.1)).1, end))
    (either_ok start.empty (empty_value f from start.next) (value_in f from start text >>= λ x. lift (end_at text x.1 tag) >>= λ n. Ok (x.0, n)) v e)

what_after : (text : List ℕ) (f : Frame) (nodes at : ℕ) (p : Piece) (next : ℕ) → What text f nodes at p next → (at < length text) × (at < next)
what_after text f nodes at closes next w = end_after text at _ next w.0
what_after text f nodes at (leaf tag v) next w =
    let n = named_after text at (tag, w.2.name_end) w.2.named in
    let r = rest_after tag at text w.2.name_end w.1 w.2.rest in
    let l = leaf_after w.0 tag at w.1 text (v, next) w.4 in
    (n.0, omega (arith, n.1, r, l))
what_after text f nodes at (opens q) next w =
    let s = w.1.starts in
    let n = named_after text at (_, s.name_end) s.named in
    let r = rest_after _ at text s.name_end w.0 s.rest in
    (n.0, omega (arith, n.1, r, w.4))
what_after text f nodes at (whole q) next w =
    let s = w.1.starts in
    let n = named_after text at (_, s.name_end) s.named in
    let r = rest_after _ at text s.name_end w.0 s.rest in
    (n.0, omega (arith, n.1, r, w.4))

piece_after : (text : List ℕ) (f : Frame) (nodes at : ℕ) (p : Piece) (next : ℕ) → piece_at f nodes text at ≡ Ok (p, next) → (at < length text) × (at < next)
piece_after text f nodes at p next e =
    let w = what_after text f nodes (space_end text at) p next (piece_is text f nodes at p next e) in
    (omega (arith, w.0, space_after text at), omega (arith, w.1, space_after text at))

-- ---- pieces up to the first that doesn't fit

record Ends (text : List ℕ) (at : ℕ) (fs : List Frame) (nodes : ℕ) : Type 0 where
  ps : List Piece
  end : Point
  reaches : Reaches text ps at fs nodes end
  final : IsFinal text end

step : (text : List ℕ) (at : ℕ) (f : Frame) (fs : List Frame) (nodes : ℕ)
    → ((p : Piece) (next : ℕ) → piece_at f nodes text at ≡ Ok (p, next) → Ends text next (after p f fs) (counted p nodes)) → Ends text at (f ∷ fs) nodes
step text at f fs nodes more = by (piece_at f nodes text at) refl
  where
    by : (r : Result (Piece × ℕ) PieceErr) → piece_at f nodes text at ≡ r → Ends text at (f ∷ fs) nodes
    by (Err e) is = record { ps = []; end = point at (f ∷ fs) nodes; reaches = refl; final = (e, is) }
    by (Ok p) is =
        let rest = more p.0 p.1 is in
        record { ps = p.0 ∷ rest.ps; end = rest.end; reaches = (p.1, is, rest.reaches); final = rest.final }

walked : (n : ℕ) (text : List ℕ) (at : ℕ) (fs : List Frame) (nodes : ℕ) → length text ≤ at + n → Ends text at fs nodes
walked n text at [] nodes le = record { ps = []; end = point at [] nodes; reaches = refl; final = tt }
walked zero text at (f ∷ fs) nodes le = step text at f fs nodes (λ p next is. absurd (omega (arith, le, (piece_after text f nodes at p next is).0)))
walked (suc n) text at (f ∷ fs) nodes le =
    step text at f fs nodes (λ p next is. walked n text next (after p f fs) (counted p nodes) (omega (arith, le, (piece_after text f nodes at p next is).1)))

-- ---- the whole text

abbrev pub Whole : Container → List ℕ → Type 0
Whole doc text = (ps : List Piece) × Accepts doc text ps

abbrev pub Stopped : Container → List ℕ → Type 0
Stopped doc text = (e : PieceErr) × Halts doc text e

closed : (doc : Container) (text : List ℕ) (ps : List Piece) (end : Point) → Open doc text ps end → end.parents ≡ [] → Whole doc text ⊎ Stopped doc text
closed doc text ps end open_is none = by (eqb (space_end text end.at) (length text)) refl
  where
    by : (b : Bool) → eqb (space_end text end.at) (length text) ≡ b → Whole doc text ⊎ Stopped doc text
    by true is = inl (ps, record { point = end; opened = open_is; closed = none; ended = eqb-true (space_end text end.at) (length text) is })
    by false is = inr (errors.Syntax (space_end text end.at), at_end ps end open_is none (eqb-false (space_end text end.at) (length text) is))

finished : (doc : Container) (text : List ℕ) (ps : List Piece) (end : Point) → Open doc text ps end → (fs : List Frame) → end.parents ≡ fs → Final text end.at fs end.nodes → Whole doc text ⊎ Stopped doc text
finished doc text ps end open_is [] none final = closed doc text ps end open_is none
finished doc text ps end open_is (f ∷ fs) are final = inr (final.0, at_piece ps end f fs open_is are final.1)

whole_or_halts : (doc : Container) (text : List ℕ) → Whole doc text ⊎ Stopped doc text
whole_or_halts doc text = by_head (head_of doc text) refl
  where
    by_head : (r : Result ℕ PieceErr) → head_of doc text ≡ r → Whole doc text ⊎ Stopped doc text
    by_head (Err e) is = inr (e, at_head is)
    by_head (Ok inside) is =
        let w = walked (length text) text inside (fresh doc ∷ []) 0 (omega arith) in
        finished doc text w.ps w.end (record { inside = inside; head_is = is; reaches = w.reaches }) w.end.parents refl w.final

by_utf8 : (doc : Container) (text : List ℕ) (ps : List Piece) → Accepts doc (readable text) ps → IsAccepted doc text ⊎ IsStopped doc text
by_utf8 doc text ps acc = ⊎_elim
    (λ (valid : IsUtf8 text). inl (ps, valid, subst (λ (t : List ℕ). Accepts doc t ps) (readable_all text valid) acc))
    (λ cut. inr (errors.Syntax (length (readable text)), inr (record { ps = ps; accepts = acc; more = cut }, refl)))
    (utf8_or_cut text)

-- each text is whole pieces of the document, or stops somewhere
pub accepted_or_stops : (doc : Container) (text : List ℕ) → IsAccepted doc text ⊎ IsStopped doc text
accepted_or_stops doc text = ⊎_elim
    (λ (whole : Whole doc (readable text)). by_utf8 doc text whole.0 whole.1)
    (λ (stopped : Stopped doc (readable text)). inr (stopped.0, inl stopped.1))
    (whole_or_halts doc (readable text))
