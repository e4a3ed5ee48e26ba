-- The text of a label as a whole: in one way, and each text is one or stops.
use Rattle.std.proofs.Common.{◌≡◌, ◌⊎◌, ℕ, List, [], ◌∷◌, ◌++◌, length, IsUtf8, Bool, true, false, Option, Some, None, Result, Ok, Err, IfOk, IfErr, inl, inr, ⊎_elim, refl, sym, ap, subst, ◌∙◌}
use Rattle.std.specs.Prelude.{IsSome}
use Rattle.std.specs.List.{AllByRecursion}
use Rattle.ltfs_documents.specs.declared.doc_fields.tags.Tag.{Tag}
use Rattle.ltfs_documents.specs.declared.doc_fields.tags.Tag.TheVariants.{Creator, FormatTime, VolumeUuid, Partition, IndexLetter, DataLetter, BlockSize, Compression}
use Rattle.ltfs_documents.proofs.DocFields.Moments.{HasMoment}
use Rattle.ltfs_documents.specs.declared.doc_elements.errors.PieceErr.{PieceErr}
use Rattle.ltfs_documents.specs.declared.doc_elements.errors.PieceErr.TheVariants as pieces
use Rattle.ltfs_documents.specs.declared.doc_elements.schema.Container.TheVariants as place
use Rattle.ltfs_documents.specs.DocElements.Answers as answers
use Rattle.ltfs_documents.specs.DocElements.Documents.{Accepts, Halts, IsAccepted, IsStopped, StopsAt, readable}
use Rattle.ltfs_documents.specs.DocElements.Elements.{IsTimed, IsTimedPiece, all_pieces}
use Rattle.ltfs_documents.specs.DocElements.Pieces.{Piece, Val, closes, leaf, letter, number, time, truth, uuid, words}
use Rattle.ltfs_documents.proofs.DocElements.Ends.{accepted_or_stops}
use Rattle.ltfs_documents.proofs.DocElements.Once as once
use Rattle.ltfs_documents.proofs.DocElements.Timed.{reached_timed}
use Rattle.ltfs_documents.proofs.DocElements.Trees.{accepted, elements_of}
use Rattle.ltfs_label.specs.declared.Label.{Label}
use Rattle.ltfs_label.specs.declared.errors.LabelErr.{LabelErr}
use Rattle.ltfs_label.specs.declared.errors.LabelErr.TheVariants as errors
use Rattle.ltfs_label.specs.Grammar.{LabelText}
use Rattle.ltfs_label.specs.Reading.{IsReadOr, Reads, Stops, UnlessMemory, set, told, value_from}
use Rattle.ltfs_label.specs.Values.{LabelValue, blank, epoch, label_of, set_leaf}
use Rattle.ltfs_label.proofs.Places.{few_of, stops_plain}

value_closed : (v : LabelValue) (ps : List Piece) → value_from v (ps ++ closes ∷ []) ≡ value_from v ps
value_closed v [] = refl
value_closed v (p ∷ ps) = value_closed (set p v) ps

-- a UTF-8 text that is read as a label is that label's text
pub read_spelled : (text : List ℕ) (v : LabelValue) → IsUtf8 text → Reads text v → LabelText text v
read_spelled text v valid r =
    let e = elements_of place.Label text r.ps valid r.accepts in
    record { items = e.items; spelled = e.spelled; value = r.value ∙ ap (value_from blank) e.split ∙ value_closed blank (all_pieces e.items) }

spelled_read : (text : List ℕ) (v : LabelValue) → LabelText text v → Reads text v
spelled_read text v t = record {
  ps = all_pieces t.items ++ closes ∷ [];
  accepts = accepted place.Label text t.items t.spelled (few_of text t.items t.spelled);
  value = t.value ∙ sym (value_closed blank (all_pieces t.items));
}

-- ---- one way

-- a text is that of one label at most
pub one_value : (text : List ℕ) (v w : LabelValue) → LabelText text v → LabelText text w → v ≡ w
one_value text v w s t =
    let x = spelled_read text v s in
    let y = spelled_read text w t in
    x.value ∙ ap (value_from blank) (once.one_document place.Label text x.ps y.ps x.accepts y.accepts).pieces ∙ sym y.value

-- a label's text stops nowhere
pub never_both : (text : List ℕ) (v : LabelValue) (e : LabelErr) → LabelText text v → Stops text e → ⊥
never_both text v e t s = let x = spelled_read text v t in once.never_both place.Label text x.ps s.why t.spelled.valid x.accepts s.stops

-- a text that is no label's is refused in one way
pub one_refusal : (text : List ℕ) (e f : LabelErr) → Stops text e → Stops text f → e ≡ f
one_refusal text e f s t =
    let same = once.one_stop place.Label text s.why t.why s.stops t.stops in
    let both : ◌≡◌ {A = Option LabelErr} (Some e) (Some f) = sym s.told_so ∙ ap told same ∙ t.told_so in
    cc

-- ---- what the reader gives

-- a label behind which bytes follow that are no UTF-8 is refused where they begin
pub ends_badly : (text front : List ℕ) (v : LabelValue) → front ≡ readable text → Reads front v → (length front ≡ length text → ⊥) → Stops text (errors.Syntax (length front))
ends_badly text front v same r more = record {
  why = pieces.Syntax (length front);
  stops = inr (
    record {
      ps = r.ps;
      accepts = subst (λ (t : List ℕ). Accepts place.Label t r.ps) same r.accepts;
      more = λ (e : length (readable text) ≡ length text). more (ap length same ∙ e);
    },
    ap (λ (t : List ℕ). pieces.Syntax (length t)) same,
  );
  told_so = refl;
}

only_memory : (e : LabelErr) (text : List ℕ) (v : LabelValue) → LabelText text v → UnlessMemory e (Stops text e) → e ≡ errors.NoMemory
only_memory errors.NoMemory text v t s = refl
only_memory (errors.Syntax at) text v t s = absurd (never_both text v _ t s)
only_memory (errors.Unknown at) text v t s = absurd (never_both text v _ t s)
only_memory (errors.Twice at) text v t s = absurd (never_both text v _ t s)
only_memory errors.Version text v t s = absurd (never_both text v _ t s)
only_memory (errors.Missing tag) text v t s = absurd (never_both text v _ t s)
only_memory (errors.Number at) text v t s = absurd (never_both text v _ t s)

-- the reader of a label's text gives that label, or wants memory
pub only_is : (r : Result Label LabelErr) (text : List ℕ) (v : LabelValue) → IfOk r (λ l. LabelText text (label_of l)) → IfErr r (λ e. UnlessMemory e (Stops text e)) → LabelText text v → IsReadOr r v
only_is (Ok l) text v found refused t = one_value text (label_of l) v found t
only_is (Err e) text v found refused t = only_memory e text v t refused

unless_always : (e : LabelErr) (P : Type 0) → P → UnlessMemory e P
unless_always errors.NoMemory P p = tt
unless_always _ P p = p

-- a halt in the readable front of a text is the refusal of the text
pub refused_is : (text front : List ℕ) (why : PieceErr) (e : LabelErr) → front ≡ readable text → told why ≡ Some e → answers.UnlessMemory why (Halts place.Label front why) → UnlessMemory e (Stops text e)
refused_is text front pieces.NoMemory e same is h = let k : errors.NoMemory ≡ e = cc in subst (λ (x : LabelErr). UnlessMemory x (Stops text x)) k tt
refused_is text front why e same is h =
    unless_always e (Stops text e) (record { why = why; stops = inl (subst (λ (t : List ℕ). Halts place.Label t why) same h); told_so = is })

-- ---- each text is one, or stops

-- a text is a label's, or stops in some way
abbrev pub Judged : List ℕ → Type 0
Judged text = ((v : LabelValue) × LabelText text v) ⊎ ((e : LabelErr) × Stops text e)

stopped : (text : List ℕ) (why : PieceErr) (o : Option LabelErr) → told why ≡ o → IsSome o → StopsAt place.Label text why → Judged text
stopped text why None is some h = absurd (let bad : ◌≡◌ {A = Bool} false true = some in cc)
stopped text why (Some e) is some h = inr (e, record { why = why; stops = h; told_so = is })

-- each text is a label's or stops
pub label_or_stops : (text : List ℕ) → Judged text
label_or_stops text = ⊎_elim
    (λ (a : IsAccepted place.Label text). inl (value_from blank a.0, read_spelled text (value_from blank a.0) a.1 (record { ps = a.0; accepts = a.2; value = refl })))
    (λ (s : IsStopped place.Label text). stopped text s.0 (told s.0) refl (stops_plain text s.0 s.1) s.1)
    (accepted_or_stops place.Label text)

-- ---- when the volume was formatted

leaf_formatted : (tag : Tag) (x : Val) (v : LabelValue) → IsTimed x → HasMoment v.formatted → HasMoment (set_leaf tag x v).formatted
leaf_formatted Creator (words t) v h k = k
leaf_formatted FormatTime (time c) v h k = h
leaf_formatted VolumeUuid (uuid n) v h k = k
leaf_formatted Partition (letter b) v h k = k
leaf_formatted IndexLetter (letter b) v h k = k
leaf_formatted DataLetter (letter b) v h k = k
leaf_formatted BlockSize (number n) v h k = k
leaf_formatted Compression (truth b) v h k = k
leaf_formatted _ _ v h k = k

set_formatted : (p : Piece) (v : LabelValue) → IsTimedPiece p → HasMoment v.formatted → HasMoment (set p v).formatted
set_formatted (leaf tag x) v h k = leaf_formatted tag x v h k
set_formatted closes v h k = k
set_formatted _ v h k = k

from_formatted : (ps : List Piece) (v : LabelValue) → AllByRecursion IsTimedPiece ps → HasMoment v.formatted → HasMoment (value_from v ps).formatted
from_formatted [] v all h = h
from_formatted (p ∷ ps) v all h = from_formatted ps (set p v) all.1 (set_formatted p v all.0 h)

-- the time of formatting that a label's text tells is that of a moment
pub label_formatted : (text : List ℕ) (v : LabelValue) → LabelText text v → HasMoment v.formatted
label_formatted text v t =
    let r = spelled_read text v t in
    let o = r.accepts.opened in
    let ps = reached_timed text r.ps o.inside _ 0 r.accepts.point o.reaches in
    subst (λ (x : LabelValue). HasMoment x.formatted) (sym r.value) (from_formatted r.ps blank ps (epoch, refl))
