-- Each time that pieces tell is that of a moment.
use Rattle.std.proofs.Common.{◌≡◌, ℕ, Bool, true, false, cond, List, [], ◌∷◌, Result, Ok, subst}
use Rattle.std.specs.List.{AllByRecursion}
use Rattle.ltfs_documents.specs.declared.doc_fields.starts.Start.{Start}
use Rattle.ltfs_documents.specs.declared.doc_fields.tags.Tag.{Tag}
use Rattle.ltfs_documents.specs.DocFields.Reading.{Read}
use Rattle.ltfs_documents.specs.DocFields.Space.{space_end}
use Rattle.ltfs_documents.specs.DocFields.EndTag.{end_at}
use Rattle.ltfs_documents.specs.DocFields.Numbers.{number_at}
use Rattle.ltfs_documents.specs.DocFields.Texts.{text_at}
use Rattle.ltfs_documents.specs.DocFields.Values.{bool_at, letter_at, lock_at, time_at, uuid_at}
use Rattle.ltfs_documents.proofs.DocFields.Moments.{time_read}
use Rattle.ltfs_documents.specs.declared.doc_elements.errors.PieceErr.{PieceErr}
use Rattle.ltfs_documents.specs.declared.doc_elements.schema.Form.{Form}
use Rattle.ltfs_documents.specs.declared.doc_elements.schema.Form.TheVariants as form
use Rattle.ltfs_documents.specs.DocElements.Documents.{Point, Reaches, after, counted}
use Rattle.ltfs_documents.specs.DocElements.Pieces.{Frame, Piece, Val, ◌>>=◌, bytes, bytes_in, bytes_of, closes, empty_value, in_range, leaf, leaf_at, letter, lift, lock, name_in, name_of, named, number, number_in, spaced, time, truth, uuid, value_in, words}
use Rattle.ltfs_documents.specs.DocElements.Elements.{IsTimed, IsTimedPiece}
use Rattle.ltfs_documents.proofs.DocElements.Inversion.{What, bind_ok, lift_ok, piece_is}

-- ---- leaves

-- what holds of what was read holds of the value
as_value : (x : Val) (n : ℕ) (v : Val × ℕ) → ◌≡◌ {A = Result (Val × ℕ) PieceErr} (Ok (x, n)) (Ok v) → IsTimed x → IsTimed v.0
as_value x n v e h = let pair : ◌≡◌ {A = Val × ℕ} (x, n) v = cc in subst (λ (y : Val × ℕ). IsTimed y.0) pair h

spaced_timed : {A : Type 0} (view : A → Val) (text : List ℕ) (read : Read (A × ℕ)) (v : Val × ℕ) → ((x : A × ℕ) → read ≡ Ok x → IsTimed (view x.0))
    → spaced view text read ≡ Ok v → IsTimed v.0
spaced_timed {A} view text read v each e =
    let a = bind_ok (lift read) (λ (x : A × ℕ). Ok (view x.0, space_end text x.1)) v e in
    as_value (view a.0.0) (space_end text a.0.1) v a.2 (each a.0 (lift_ok read a.0 a.1))

name_timed : (f : Form) (from : ℕ) (start : Start) (text : List ℕ) (v : Val × ℕ) → name_in f from start text ≡ Ok v → IsTimed v.0
unfolding name_in
name_timed f from start text v e =
    let a = bind_ok (lift (text_at text start.next)) (λ x. name_of f from start.attribute text x >>= λ name. Ok (words name, x.1)) v e in
    let b = bind_ok (name_of f from start.attribute text a.0) (λ name. Ok (words name, a.0.1)) v a.2 in
    as_value (words b.0) a.0.1 v b.2 tt

bytes_timed : (start : Start) (text : List ℕ) (v : Val × ℕ) → bytes_in start text ≡ Ok v → IsTimed v.0
unfolding bytes_in
bytes_timed start text v e =
    let a = bind_ok (lift (text_at text start.next)) (λ x. bytes_of start.attribute text (space_end text start.next) x >>= λ bs. Ok (bytes bs, x.1)) v e in
    let b = bind_ok (bytes_of start.attribute text (space_end text start.next) a.0) (λ bs. Ok (bytes bs, a.0.1)) v a.2 in
    as_value (bytes b.0) a.0.1 v b.2 tt

number_timed : (f : Form) (text : List ℕ) (at : ℕ) (v : Val × ℕ) → number_in f text at ≡ Ok v → IsTimed v.0
unfolding number_in
number_timed f text at v e =
    let a = bind_ok (lift (number_at text at)) (λ n. in_range f text at n >>= λ m. Ok (number m.0, space_end text m.1)) v e in
    let b = bind_ok (in_range f text at a.0) (λ m. Ok (number m.0, space_end text m.1)) v a.2 in
    as_value (number b.0.0) (space_end text b.0.1) v b.2 tt

value_timed : (f : Form) (from : ℕ) (start : Start) (text : List ℕ) (v : Val × ℕ) → value_in f from start text ≡ Ok v → IsTimed v.0
value_timed form.Text from start text v e =
    let a = bind_ok (lift (text_at text start.next)) (λ x. Ok (words x.0, x.1)) v e in
    as_value (words a.0.0) a.0.1 v a.2 tt
value_timed form.VolumeName from start text v e = name_timed form.VolumeName from start text v e
value_timed form.NodeName from start text v e = name_timed form.NodeName from start text v e
value_timed form.AnyName from start text v e = name_timed form.AnyName from start text v e
value_timed form.Key from start text v e = name_timed form.Key from start text v e
value_timed form.Value from start text v e = bytes_timed start text v e
value_timed form.Time from start text v e = spaced_timed time text (time_at text (space_end text start.next)) v (time_read text (space_end text start.next)) e
value_timed form.Uuid from start text v e = spaced_timed uuid text (uuid_at text (space_end text start.next)) v (λ x h. tt) e
value_timed form.Letter from start text v e = spaced_timed letter text (letter_at text (space_end text start.next)) v (λ x h. tt) e
value_timed form.Truth from start text v e = spaced_timed truth text (bool_at text (space_end text start.next)) v (λ x h. tt) e
value_timed form.Lock from start text v e = spaced_timed lock text (lock_at text (space_end text start.next)) v (λ x h. tt) e
value_timed form.BlockSize from start text v e = number_timed form.BlockSize text (space_end text start.next) v e
value_timed form.Number from start text v e = number_timed form.Number text (space_end text start.next) v e
value_timed form.Bounded from start text v e = number_timed form.Bounded text (space_end text start.next) v e
value_timed form.Generation from start text v e = number_timed form.Generation text (space_end text start.next) v e

named_timed : (f : Form) (from at : ℕ) (v : Val × ℕ) → (named f from [] >>= λ name. Ok (words name, at)) ≡ Ok v → IsTimed v.0
named_timed f from at v e = let a = bind_ok (named f from []) (λ name. Ok (words name, at)) v e in as_value (words a.0) at v a.2 tt

empty_timed : (f : Form) (from at : ℕ) (v : Val × ℕ) → empty_value f from at ≡ Ok v → IsTimed v.0
empty_timed form.Text from at v e = as_value (words []) at v e tt
empty_timed form.VolumeName from at v e = named_timed form.VolumeName from at v e
empty_timed form.NodeName from at v e = named_timed form.NodeName from at v e
empty_timed form.AnyName from at v e = named_timed form.AnyName from at v e
empty_timed form.Key from at v e = named_timed form.Key from at v e
empty_timed form.Value from at v e = as_value (bytes []) at v e tt
empty_timed _ from at v e = absurd cc

leaf_timed : (f : Form) (tag : Tag) (from : ℕ) (start : Start) (text : List ℕ) (v : Val × ℕ) → leaf_at f tag from start text ≡ Ok v → IsTimed v.0
unfolding leaf_at
leaf_timed f tag from start text v e = by start.empty e
  where
    by : (b : Bool) → cond b (empty_value f from start.next) (value_in f from start text >>= λ x. lift (end_at text x.1 tag) >>= λ n. Ok (x.0, n)) ≡ Ok v → IsTimed v.0
    by true h = empty_timed f from start.next v h
    by false h =
        let a = bind_ok (value_in f from start text) (λ x. lift (end_at text x.1 tag) >>= λ n. Ok (x.0, n)) v h in
        let b = bind_ok (lift (end_at text a.0.1 tag)) (λ n. Ok (a.0.0, n)) v a.2 in
        as_value a.0.0 b.0 v b.2 (value_timed f from start text a.0 a.1)

-- ---- pieces

piece_timed : (text : List ℕ) (f : Frame) (nodes at : ℕ) (p : Piece) (next : ℕ) → What text f nodes at p next → IsTimedPiece p
piece_timed text f nodes at (leaf tag v) next w = leaf_timed w.0 tag at w.1 text (v, next) w.4
piece_timed text f nodes at closes next w = tt
piece_timed text f nodes at _ next w = tt

-- each time among the pieces that were read is that of a moment
pub reached_timed : (text : List ℕ) (ps : List Piece) (at : ℕ) (fs : List Frame) (nodes : ℕ) (end : Point) → Reaches text ps at fs nodes end
    → AllByRecursion IsTimedPiece ps
reached_timed text [] at fs nodes end r = tt
reached_timed text (p ∷ ps) at [] nodes end r = absurd r
reached_timed text (p ∷ ps) at (f ∷ fs) nodes end r = (
  piece_timed text f nodes (space_end text at) p r.0 (piece_is text f nodes at p r.0 r.1),
  reached_timed text ps r.0 (after p f fs) (counted p nodes) end r.2,
)
