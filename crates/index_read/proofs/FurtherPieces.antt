-- Pieces are read alike where they stand further on in a text.
use Rattle.std.proofs.Common.{◌≡◌, ℕ, suc, ◌+◌, Bool, not, ◌==◌, ◌&&◌, nat_le, nat_lt, List, [], ◌∷◌, ◌++◌, length, Option, Some, None, Result, Ok, Err, refl, sym, ap, subst, ◌∙◌, arith}
use Rattle.tape_types.specs.Bounds.{most_nodes}
use lib.Dec.{eqb-suc-suc}
use Rattle.ltfs_documents.specs.declared.doc_fields.starts.Attribute.{Attribute}
use Rattle.ltfs_documents.specs.declared.doc_fields.starts.Start.{Start}
use Rattle.ltfs_documents.specs.declared.doc_fields.tags.Tag.{Tag}
use Rattle.ltfs_documents.specs.DocFields.Reading.{Read, byte}
use Rattle.ltfs_documents.specs.DocFields.Space.{space_end}
use Rattle.ltfs_documents.specs.DocFields.StartTag.{named_at, rest_at}
use Rattle.ltfs_documents.specs.DocFields.EndTag.{end_at}
use Rattle.ltfs_documents.specs.DocFields.Numbers.{number_at}
use Rattle.ltfs_documents.specs.DocFields.Texts.{text_at}
use Rattle.ltfs_documents.specs.DocFields.Values.{bool_at, letter_at, lock_at, time_at, uuid_at}
use Rattle.ltfs_documents.specs.declared.doc_elements.errors.PieceErr.{PieceErr}
use Rattle.ltfs_documents.specs.declared.doc_elements.errors.PieceErr.TheVariants as errors
use Rattle.ltfs_documents.specs.declared.doc_elements.schema.Child.{Child}
use Rattle.ltfs_documents.specs.declared.doc_elements.schema.Child.TheVariants as child
use Rattle.ltfs_documents.specs.declared.doc_elements.schema.Form.{Form}
use Rattle.ltfs_documents.specs.declared.doc_elements.schema.Form.TheVariants as form
use Rattle.ltfs_documents.specs.DocElements.Children.{first_missing, member}
use Rattle.ltfs_documents.specs.DocElements.Documents.{Point, Reaches, after, counted}
use Rattle.ltfs_documents.specs.DocElements.Pieces.{Frame, Piece, Val, ◌>>=◌, beside, bytes_in, bytes_of, bytes_told, child_at, close_at, closes, empty_value, has_any, if_known, in_range, is_base64, is_encoded, is_name, is_too_great, leaf, leaf_at, least, letter, lift, lock, made, name_in, name_of, named, none_missing, number, number_in, opens, opens_node, piece_at, some_bytes, spaced, time, truth, unknown_by, unknown_first, uuid, value_in, verdict, whole, words}
use Rattle.ltfs_documents.specs.DocElements.Schema.{excludes, may_repeat, required, rule, tag_of}
use Rattle.ltfs_documents.specs.LtfsText.Names.{decoded}
use Rattle.std.specs.Str.{is_utf8}
use Rattle.index_read.proofs.Further.{Alike, behind, just, if_alike, self_alike, tag_behind, space_further, rest_further, named_further, end_further, number_further, bool_further, lock_further, letter_further, time_further, uuid_further, text_further}

-- ---- tools

-- the one is read behind the other in the same way
bind_alike : {A B : Type 0} (up : A → A) (w : B → B) (r s : Result A PieceErr) (f g : A → Result B PieceErr) → Alike up r s → ((x : A) → Alike w (f x) (g (up x))) → Alike w (r >>= f) (s >>= g)
bind_alike up w (Ok x) (Ok y) f g is more = subst (λ z. Alike w (f x) (g z)) (sym is) (more x)
bind_alike up w (Err d) (Err e) f g is more = tt
bind_alike up w (Ok x) (Err e) f g is more = absurd is
bind_alike up w (Err d) (Ok y) f g is more = absurd is

lift_alike : {A : Type 0} (up : A → A) (r s : Read A) → Alike up r s → Alike up (lift r) (lift s)
lift_alike up (Ok x) (Ok y) is = is
lift_alike up (Err d) (Err e) is = tt
lift_alike up (Ok x) (Err e) is = absurd is
lift_alike up (Err d) (Ok y) is = absurd is

-- nothing is read behind what isn't
both_fail : {A B : Type 0} (w : B → B) (r s : Result A PieceErr) (d e : PieceErr) → Alike w (r >>= λ _. Err d) (s >>= λ _. Err e)
both_fail w (Ok x) (Ok y) d e = tt
both_fail w (Ok x) (Err b) d e = tt
both_fail w (Err a) (Ok y) d e = tt
both_fail w (Err a) (Err b) d e = tt

-- ---- names and bytes, of which the place counts in refusals alone

named_alike : (f : Form) (from later : ℕ) (name : List ℕ) → Alike just (named f from name) (named f later name)
named_alike f from later name =
    let q : Bool = is_utf8 name && is_name f name in
    if_alike just q q (Ok name) (Err (errors.Name from)) (Ok name) (Err (errors.Name later)) refl refl tt

some_alike : (at later : ℕ) (o : Option (List ℕ)) → Alike just (some_bytes at o) (some_bytes later o)
some_alike at later None = tt
some_alike at later (Some bs) = refl

empty_further : (f : Form) (from later at : ℕ) → Alike behind (empty_value f from at) (empty_value f later (suc at))
empty_further form.Text from later at = refl
empty_further form.VolumeName from later at = bind_alike just behind (named form.VolumeName from []) (named form.VolumeName later []) (λ name. Ok (words name, at)) (λ name. Ok (words name, suc at)) (named_alike form.VolumeName from later []) (λ name. refl)
empty_further form.NodeName from later at = bind_alike just behind (named form.NodeName from []) (named form.NodeName later []) (λ name. Ok (words name, at)) (λ name. Ok (words name, suc at)) (named_alike form.NodeName from later []) (λ name. refl)
empty_further form.AnyName from later at = bind_alike just behind (named form.AnyName from []) (named form.AnyName later []) (λ name. Ok (words name, at)) (λ name. Ok (words name, suc at)) (named_alike form.AnyName from later []) (λ name. refl)
empty_further form.Key from later at = bind_alike just behind (named form.Key from []) (named form.Key later []) (λ name. Ok (words name, at)) (λ name. Ok (words name, suc at)) (named_alike form.Key from later []) (λ name. refl)
empty_further form.Value from later at = refl
empty_further _ from later at = tt

-- ---- what may stand where

beside_alike : (f : Frame) (nodes at later : ℕ) (tag : Tag) (c : Child) → Alike just (beside f nodes at tag c) (beside f nodes later tag c)
beside_alike f nodes at later tag c =
    let a : Bool = has_any (excludes tag) f.seen in
    let b : Bool = member tag f.seen && not (may_repeat f.place tag) in
    let d : Bool = opens_node c && nat_le most_nodes nodes in
    if_alike just a a (Err (errors.Unknown at)) _ (Err (errors.Unknown later)) _ refl tt
    (if_alike just b b (Err (errors.Twice at)) _ (Err (errors.Twice later)) _ refl tt
    (if_alike just d d (Err errors.TooMany) (Ok c) (Err errors.TooMany) (Ok c) refl tt refl))

known_alike : (c : Child) (at later : ℕ) (r s : Result Child PieceErr) → Alike just r s → Alike just (if_known c at r) (if_known c later s)
known_alike child.Unknown at later r s is = tt
known_alike (child.Leaf form) at later r s is = is
known_alike (child.Parent place) at later r s is = is

verdict_alike : (f : Frame) (nodes at later : ℕ) (tag : Tag) → Alike just (verdict f nodes at tag) (verdict f nodes later tag)
unfolding verdict
verdict_alike f nodes at later tag = known_alike (rule f.place tag) at later (beside f nodes at tag (rule f.place tag)) (beside f nodes later tag (rule f.place tag)) (beside_alike f nodes at later tag (rule f.place tag))

-- what is read by a start tag, where its element may stand
start_alike : {A B : Type 0} (w : B → B) (r s : Read Start) (v u : Result A PieceErr) (f g : A → Start → Result B PieceErr) → Alike tag_behind r s → Alike just v u
    → ((c : A) (x : Start) → Alike w (f c x) (g c (tag_behind x))) → Alike w (unknown_first r v >>= λ c. lift r >>= λ x. f c x) (unknown_first s u >>= λ c. lift s >>= λ x. g c x)
start_alike w (Ok x) (Ok y) v u f g is same more = bind_alike just w v u (λ c. f c x) (λ c. g c y) same (λ c. subst (λ z. Alike w (f c x) (g c z)) (sym is) (more c x))
start_alike w (Err d) (Err e) v u f g is same more = both_fail w (unknown_by d.why d.at v) (unknown_by e.why e.at u) _ _
start_alike w (Ok x) (Err e) v u f g is same more = absurd is
start_alike w (Err d) (Ok y) v u f g is same more = absurd is

-- ---- one place further on

in_range_further : (b : ℕ) (text : List ℕ) (f : Form) (from : ℕ) (n : ℕ × ℕ) → Alike behind (in_range f text from n) (in_range f (b ∷ text) (suc from) (behind n))
in_range_further b text f from n =
    if_alike behind (is_too_great f n.0) (is_too_great f n.0) (Err (errors.Number from)) _ (Err (errors.Number (suc from))) _ refl tt
    (if_alike behind (nat_lt n.0 (least f)) (nat_lt n.0 (least f)) (Err _) (Ok n) (Err _) (Ok (behind n)) refl tt refl)

module _ (b : ℕ) (text : List ℕ) where
  spaced_further : {A : Type 0} (view : A → Val) (r s : Read (A × ℕ)) → Alike behind r s → Alike behind (spaced view text r) (spaced view (b ∷ text) s)
  spaced_further view r s is = bind_alike behind behind (lift r) (lift s) _ _ (lift_alike behind r s is) (λ v. ap (λ n. (view v.0, n)) (space_further b text v.1))

  number_in_further : (f : Form) (from : ℕ) → Alike behind (number_in f text from) (number_in f (b ∷ text) (suc from))
  unfolding number_in
  number_in_further f from =
      bind_alike behind behind (lift (number_at text from)) (lift (number_at (b ∷ text) (suc from))) _ _ (lift_alike behind (number_at text from) (number_at (b ∷ text) (suc from)) (number_further b text from))
      (λ n. bind_alike behind behind (in_range f text from n) (in_range f (b ∷ text) (suc from) (behind n)) _ _ (in_range_further b text f from n)
      (λ m. ap (λ k. (number m.0, k)) (space_further b text m.1)))

  name_of_further : (f : Form) (from later : ℕ) (a : Attribute) (v : List ℕ × ℕ) → Alike just (name_of f from a text v) (name_of f later a (b ∷ text) (behind v))
  name_of_further f from later a v =
      if_alike just (v.1 == length text) (suc v.1 == length (b ∷ text)) (Err _) (named f from (decoded (is_encoded a) v.0)) (Err _) (named f later (decoded (is_encoded a) v.0)) (eqb-suc-suc v.1 (length text)) tt
      (named_alike f from later (decoded (is_encoded a) v.0))

  name_in_further : (f : Form) (from later : ℕ) (start : Start) → Alike behind (name_in f from start text) (name_in f later (tag_behind start) (b ∷ text))
  unfolding name_in
  name_in_further f from later start =
      bind_alike behind behind (lift (text_at text start.next)) (lift (text_at (b ∷ text) (suc start.next))) _ _ (lift_alike behind (text_at text start.next) (text_at (b ∷ text) (suc start.next)) (text_further b text start.next))
      (λ v. bind_alike just behind (name_of f from start.attribute text v) (name_of f later start.attribute (b ∷ text) (behind v)) _ _ (name_of_further f from later start.attribute v) (λ name. refl))

  bytes_of_further : (a : Attribute) (at later : ℕ) (v : List ℕ × ℕ) → Alike just (bytes_of a text at v) (bytes_of a (b ∷ text) later (behind v))
  bytes_of_further a at later v =
      if_alike just (v.1 == length text) (suc v.1 == length (b ∷ text)) (Err _) (some_bytes at (bytes_told (is_base64 a) v.0)) (Err _) (some_bytes later (bytes_told (is_base64 a) v.0)) (eqb-suc-suc v.1 (length text)) tt
      (some_alike at later (bytes_told (is_base64 a) v.0))

  bytes_in_further : (start : Start) → Alike behind (bytes_in start text) (bytes_in (tag_behind start) (b ∷ text))
  unfolding bytes_in
  bytes_in_further start =
      bind_alike behind behind (lift (text_at text start.next)) (lift (text_at (b ∷ text) (suc start.next))) _ _ (lift_alike behind (text_at text start.next) (text_at (b ∷ text) (suc start.next)) (text_further b text start.next))
      (λ v. bind_alike just behind (bytes_of start.attribute text (space_end text start.next) v) (bytes_of start.attribute (b ∷ text) (space_end (b ∷ text) (suc start.next)) (behind v)) _ _
      (bytes_of_further start.attribute (space_end text start.next) (space_end (b ∷ text) (suc start.next)) v) (λ bs. refl))

  value_in_further : (f : Form) (from later : ℕ) (start : Start) → Alike behind (value_in f from start text) (value_in f later (tag_behind start) (b ∷ text))
  value_in_further form.Text from later start = bind_alike behind behind (lift (text_at text start.next)) (lift (text_at (b ∷ text) (suc start.next))) _ _ (lift_alike behind (text_at text start.next) (text_at (b ∷ text) (suc start.next)) (text_further b text start.next)) (λ v. refl)
  value_in_further form.VolumeName from later start = name_in_further form.VolumeName from later start
  value_in_further form.NodeName from later start = name_in_further form.NodeName from later start
  value_in_further form.AnyName from later start = name_in_further form.AnyName from later start
  value_in_further form.Key from later start = name_in_further form.Key from later start
  value_in_further form.Value from later start = bytes_in_further start
  value_in_further form.Time from later start = rw (space_further b text start.next) (spaced_further time (time_at text (space_end text start.next)) (time_at (b ∷ text) (suc (space_end text start.next))) (time_further b text (space_end text start.next)))
  value_in_further form.Uuid from later start = rw (space_further b text start.next) (spaced_further uuid (uuid_at text (space_end text start.next)) (uuid_at (b ∷ text) (suc (space_end text start.next))) (uuid_further b text (space_end text start.next)))
  value_in_further form.Letter from later start = rw (space_further b text start.next) (spaced_further letter (letter_at text (space_end text start.next)) (letter_at (b ∷ text) (suc (space_end text start.next))) (letter_further b text (space_end text start.next)))
  value_in_further form.Truth from later start = rw (space_further b text start.next) (spaced_further truth (bool_at text (space_end text start.next)) (bool_at (b ∷ text) (suc (space_end text start.next))) (bool_further b text (space_end text start.next)))
  value_in_further form.Lock from later start = rw (space_further b text start.next) (spaced_further lock (lock_at text (space_end text start.next)) (lock_at (b ∷ text) (suc (space_end text start.next))) (lock_further b text (space_end text start.next)))
  value_in_further form.BlockSize from later start = rw (space_further b text start.next) (number_in_further form.BlockSize (space_end text start.next))
  value_in_further form.Number from later start = rw (space_further b text start.next) (number_in_further form.Number (space_end text start.next))
  value_in_further form.Bounded from later start = rw (space_further b text start.next) (number_in_further form.Bounded (space_end text start.next))
  value_in_further form.Generation from later start = rw (space_further b text start.next) (number_in_further form.Generation (space_end text start.next))

  leaf_further : (f : Form) (tag : Tag) (from later : ℕ) (start : Start) → Alike behind (leaf_at f tag from start text) (leaf_at f tag later (tag_behind start) (b ∷ text))
  unfolding leaf_at
  leaf_further f tag from later start =
      if_alike behind start.empty start.empty (empty_value f from start.next) _ (empty_value f later (suc start.next)) _ refl (empty_further f from later start.next)
      (bind_alike behind behind (value_in f from start text) (value_in f later (tag_behind start) (b ∷ text)) _ _ (value_in_further f from later start)
      (λ v. bind_alike suc behind (lift (end_at text v.1 tag)) (lift (end_at (b ∷ text) (suc v.1) tag)) _ _ (lift_alike suc (end_at text v.1 tag) (end_at (b ∷ text) (suc v.1) tag) (end_further b text tag v.1)) (λ e. refl)))

  made_further : (c : Child) (tag : Tag) (from later : ℕ) (start : Start) → Alike behind (made c tag from start text) (made c tag later (tag_behind start) (b ∷ text))
  unfolding made
  made_further child.Unknown tag from later start = tt
  made_further (child.Leaf form) tag from later start =
      bind_alike behind behind (leaf_at form tag from start text) (leaf_at form tag later (tag_behind start) (b ∷ text)) (λ v. Ok (leaf tag v.0, v.1)) (λ v. Ok (leaf tag v.0, v.1)) (leaf_further form tag from later start) (λ v. refl)
  made_further (child.Parent place) tag from later start =
      if_alike behind start.empty start.empty _ (Ok (opens place, start.next)) _ (Ok (opens place, suc start.next)) refl
      (bind_alike just behind (none_missing (first_missing (required place) [])) (none_missing (first_missing (required place) [])) (λ _. Ok (whole place, start.next)) (λ _. Ok (whole place, suc start.next)) (self_alike (none_missing (first_missing (required place) []))) (λ _. refl)) refl

  child_further : (f : Frame) (nodes at : ℕ) → Alike behind (child_at f nodes text at) (child_at f nodes (b ∷ text) (suc at))
  unfolding child_at
  child_further f nodes at =
      bind_alike behind behind (lift (named_at text at)) (lift (named_at (b ∷ text) (suc at))) _ _ (lift_alike behind (named_at text at) (named_at (b ∷ text) (suc at)) (named_further b text at))
      (λ t. start_alike behind (rest_at t.0 at text t.1) (rest_at t.0 (suc at) (b ∷ text) (suc t.1)) (verdict f nodes at t.0) (verdict f nodes (suc at) t.0)
      (λ c start. made c t.0 at start text) (λ c start. made c t.0 (suc at) start (b ∷ text))
      (rest_further b text t.0 at (suc at) t.1) (verdict_alike f nodes at (suc at) t.0) (λ c start. made_further c t.0 at (suc at) start))

  close_further : (f : Frame) (at : ℕ) → Alike behind (close_at f text at) (close_at f (b ∷ text) (suc at))
  unfolding close_at
  close_further f at =
      bind_alike suc behind (lift (end_at text at (tag_of f.place))) (lift (end_at (b ∷ text) (suc at) (tag_of f.place))) _ _ (lift_alike suc (end_at text at (tag_of f.place)) (end_at (b ∷ text) (suc at) (tag_of f.place)) (end_further b text (tag_of f.place) at))
      (λ next. bind_alike just behind (none_missing (first_missing (required f.place) f.seen)) (none_missing (first_missing (required f.place) f.seen)) (λ _. Ok (closes, next)) (λ _. Ok (closes, suc next)) (self_alike (none_missing (first_missing (required f.place) f.seen))) (λ _. refl))

  -- a piece is read alike one place further on
  pub piece_further : (f : Frame) (nodes at : ℕ) → Alike behind (piece_at f nodes text at) (piece_at f nodes (b ∷ text) (suc at))
  unfolding piece_at
  piece_further f nodes at =
      let s : ℕ = space_end text at in
      let more : suc (space_end text at) + 1 ≡ suc (space_end text at + 1) = omega arith in
      let q : Bool = byte text s == 60 && byte text (s + 1) == 47 in
      rw (space_further b text at, more)
      (if_alike behind q q (close_at f text s) (child_at f nodes text s) (close_at f (b ∷ text) (suc s)) (child_at f nodes (b ∷ text) (suc s)) refl (close_further f s) (child_further f nodes s))

-- ---- pieces one after the other

-- a point behind so many bytes more
abbrev pub past : List ℕ → ℕ → ℕ
past [] at = at
past (b ∷ front) at = suc (past front at)

-- a point of a text, behind a front that was put before it
abbrev pub moved : List ℕ → Point → Point
moved front end = record { at = past front end.at; parents = end.parents; nodes = end.nodes }

-- a place behind a front is further on by the bytes of the front
pub past_is : (front : List ℕ) (at : ℕ) → past front at ≡ length front + at
past_is [] at = omega arith
past_is (b ∷ front) at = ap suc (past_is front at) ∙ omega arith

-- the end of a text behind a front is the end of both
pub past_all : (front text : List ℕ) → past front (length text) ≡ length (front ++ text)
past_all [] text = refl
past_all (b ∷ front) text = ap suc (past_all front text)

-- places that are one behind a front are one
pub same_past : (front : List ℕ) (n m : ℕ) → past front n ≡ past front m → n ≡ m
same_past [] n m e = e
same_past (b ∷ front) n m e = same_past front n m (omega (arith, e))

-- white space ends alike
pub space_past : (front text : List ℕ) (at : ℕ) → space_end (front ++ text) (past front at) ≡ past front (space_end text at)
space_past [] text at = refl
space_past (b ∷ front) text at = space_further b (front ++ text) (past front at) ∙ ap suc (space_past front text at)

ok_further : {A E : Type 0} (up : A → A) (r s : Result A E) (x : A) → Alike up r s → r ≡ Ok x → s ≡ Ok (up x)
ok_further up (Ok z) (Ok y) x is e = let same : z ≡ x = cc in ap (λ v. Ok v) (is ∙ ap up same)
ok_further up (Err d) (Err a) x is e = absurd cc
ok_further up (Ok z) (Err a) x is e = absurd is
ok_further up (Err d) (Ok y) x is e = absurd is

ok_nearer : {A E : Type 0} (up : A → A) (r s : Result A E) (y : A) → Alike up r s → s ≡ Ok y → (x : A) × (r ≡ Ok x) × (y ≡ up x)
ok_nearer up (Ok x) (Ok z) y is e = let same : z ≡ y = cc in (x, refl, sym same ∙ is)
ok_nearer up (Err d) (Err a) y is e = absurd cc
ok_nearer up (Ok x) (Err a) y is e = absurd is
ok_nearer up (Err d) (Ok z) y is e = absurd is

abbrev one_on : Point → Point
one_on end = record { at = suc end.at; parents = end.parents; nodes = end.nodes }

reaches_further : (b : ℕ) (text : List ℕ) (ps : List Piece) (at : ℕ) (fs : List Frame) (nodes : ℕ) (end : Point) → Reaches text ps at fs nodes end → Reaches (b ∷ text) ps (suc at) fs nodes (one_on end)
reaches_further b text [] at fs nodes end r = ap one_on r
reaches_further b text (p ∷ ps) at [] nodes end r = absurd r
reaches_further b text (p ∷ ps) at (f ∷ fs) nodes end r =
    (suc r.0, ok_further behind (piece_at f nodes text at) (piece_at f nodes (b ∷ text) (suc at)) (p, r.0) (piece_further b text f nodes at) r.1, reaches_further b text ps r.0 (after p f fs) (counted p nodes) end r.2)

reaches_nearer : (b : ℕ) (text : List ℕ) (ps : List Piece) (at : ℕ) (fs : List Frame) (nodes : ℕ) (end : Point) → Reaches (b ∷ text) ps (suc at) fs nodes end → (to : Point) × Reaches text ps at fs nodes to × (end ≡ one_on to)
reaches_nearer b text [] at fs nodes end r = (record { at = at; parents = fs; nodes = nodes }, refl, r)
reaches_nearer b text (p ∷ ps) at [] nodes end r = absurd r
reaches_nearer b text (p ∷ ps) at (f ∷ fs) nodes end r =
    let x = ok_nearer behind (piece_at f nodes text at) (piece_at f nodes (b ∷ text) (suc at)) (p, r.0) (piece_further b text f nodes at) r.1 in
    let tops : p ≡ x.0.0 = ap (λ (y : Piece × ℕ). y.0) x.2 in
    let nexts : r.0 ≡ suc x.0.1 = ap (λ (y : Piece × ℕ). y.1) x.2 in
    let more = reaches_nearer b text ps x.0.1 (after p f fs) (counted p nodes) end (subst (λ (n : ℕ). Reaches (b ∷ text) ps n (after p f fs) (counted p nodes) end) nexts r.2) in
    let here : piece_at f nodes text at ≡ Ok (p, x.0.1) = x.1 ∙ ap (λ q. Ok (q, x.0.1)) (sym tops) in
    (more.0, (x.0.1, here, more.1), more.2)

-- what is read behind a front is read behind any other
pub reaches_past : (front text : List ℕ) (ps : List Piece) (at : ℕ) (fs : List Frame) (nodes : ℕ) (end : Point) → Reaches text ps at fs nodes end → Reaches (front ++ text) ps (past front at) fs nodes (moved front end)
reaches_past [] text ps at fs nodes end r = r
reaches_past (b ∷ front) text ps at fs nodes end r = reaches_further b (front ++ text) ps (past front at) fs nodes (moved front end) (reaches_past front text ps at fs nodes end r)

-- pieces that are reached behind a front are those of the text without it
pub reaches_back : (front text : List ℕ) (ps : List Piece) (at : ℕ) (fs : List Frame) (nodes : ℕ) (end : Point) → Reaches (front ++ text) ps (past front at) fs nodes end → (to : Point) × Reaches text ps at fs nodes to × (end ≡ moved front to)
reaches_back [] text ps at fs nodes end r = (end, r, refl)
reaches_back (b ∷ front) text ps at fs nodes end r =
    let one = reaches_nearer b (front ++ text) ps (past front at) fs nodes end r in
    let more = reaches_back front text ps at fs nodes one.0 one.1 in
    (more.0, more.1, one.2 ∙ ap one_on more.2)
