-- The parents of a label: none of them is a node, and their leaves are no names.
use Rattle.std.proofs.Common.{◌≡◌, ℕ, ◌≤◌, List, [], ◌∷◌, Bool, true, false, ◌==◌, ◌&&◌, not, ◌+◌, nat_le, nat_lt, cond, inl, inr, Option, Some, None, Result, Ok, Err, length, refl, sym, ap, subst, ◌∙◌, arith}
use Rattle.std.specs.Prelude.{⊤, IsSome}
use Rattle.std.specs.List.{AllByRecursion}
use Rattle.std.proofs.lemmas.Bool.Decides.{nat_tests}
use Rattle.tape_types.specs.Bounds.{most_nodes}
use Rattle.ltfs_documents.specs.declared.doc_fields.starts.Start.{Start}
use Rattle.ltfs_documents.specs.declared.doc_fields.tags.Tag.{Tag}
use Rattle.ltfs_documents.specs.declared.doc_fields.tags.Tag.TheVariants.{LtfsLabel, Creator, FormatTime, VolumeUuid, Partition, IndexLetter, DataLetter, BlockSize, Compression}
use Rattle.ltfs_documents.specs.declared.doc_fields.errors.Why.{Why}
use Rattle.ltfs_documents.specs.declared.doc_fields.errors.Why.TheVariants as why
use Rattle.ltfs_documents.specs.DocFields.Reading.{Read, byte}
use Rattle.ltfs_documents.specs.DocFields.Space.{space_end}
use Rattle.ltfs_documents.specs.DocFields.EndTag.{end_at}
use Rattle.ltfs_documents.specs.DocFields.Numbers.{number_at}
use Rattle.ltfs_documents.specs.DocFields.Texts.{text_at}
use Rattle.ltfs_documents.specs.DocFields.Values.{bool_at, letter_at, lock_at, time_at, uuid_at}
use Rattle.ltfs_documents.specs.DocFields.StartTag.{named_at, rest_at}
use Rattle.ltfs_documents.specs.DocFields.Declaration.{head_at}
use Rattle.ltfs_documents.specs.DocElements.Children.{first_missing, member}
use Rattle.ltfs_documents.specs.declared.doc_elements.errors.PieceErr.{PieceErr}
use Rattle.ltfs_documents.specs.declared.doc_elements.errors.PieceErr.TheVariants as pieces
use Rattle.ltfs_documents.specs.declared.doc_elements.schema.Child.{Child}
use Rattle.ltfs_documents.specs.declared.doc_elements.schema.Child.TheVariants as child
use Rattle.ltfs_documents.specs.declared.doc_elements.schema.Form.{Form}
use Rattle.ltfs_documents.specs.declared.doc_elements.schema.Form.TheVariants as form
use Rattle.ltfs_documents.specs.declared.doc_elements.schema.Container.{Container}
use Rattle.ltfs_documents.specs.declared.doc_elements.schema.Container.TheVariants as place
use Rattle.ltfs_documents.specs.DocElements.Answers as answers
use Rattle.ltfs_documents.specs.DocElements.Documents.{Halts, Point, Reaches, StopsAt, after, at_end, at_head, at_piece, begins, counted, fresh, head_of, readable, root_at, root_only}
use Rattle.ltfs_documents.specs.DocElements.Elements.{AllSpelled, DocumentText, Item, Items, Spelled, bare, item, item_tag, nested, no_items, node_count, nodes_of, plain}
use Rattle.ltfs_documents.specs.DocElements.Pieces.{Frame, Piece, Val, ◌>>=◌, beside, child_at, close_at, closes, empty_value, has_any, if_known, in_range, is_too_great, leaf, leaf_at, least, letter, lift, lock, made, none_missing, number, number_in, opens, opens_node, piece_at, refusal, spaced, time, truth, unknown_by, unknown_first, uuid, value_in, verdict, whole}
use Rattle.ltfs_documents.specs.DocElements.Schema.{excludes, is_node, label_rule, letters_rule, may_repeat, own_rule, required, rule, tag_of}
use Rattle.ltfs_documents.proofs.DocElements.Inversion.{What, bind_ok, piece_is, unless_ok, verdict_ok}
use Rattle.ltfs_documents.proofs.DocElements.Steps.{point}
use Rattle.ltfs_label.specs.Reading.{FitsBlock, told}

-- ---- the parents of a label

abbrev pub of_label : Container → Bool
of_label place.Label = true
of_label place.Own = true
of_label place.Letters = true
of_label _ = false

pub record Inner (q : Container) : Type 0 where
  pub of : of_label q ≡ true
  pub no_node : is_node q ≡ false

inner_of : (p q : Container) → of_label p ≡ true → rule p (tag_of q) ≡ child.Parent q → Inner q
inner_of place.Label place.Own e h = record { of = refl; no_node = refl }
inner_of place.Label place.Letters e h = record { of = refl; no_node = refl }
inner_of place.Label _ e h = absurd cc
inner_of place.Own place.Own e h = absurd cc
inner_of place.Own _ e h = absurd cc
inner_of place.Letters place.Own e h = absurd cc
inner_of place.Letters _ e h = absurd cc
inner_of place.Index q e h = absurd cc
inner_of _ q e h = absurd cc

-- ---- what a piece leaves open

abbrev IsOf : Frame → Type 0
IsOf f = of_label f.place ≡ true

record Next (p : Piece) (f : Frame) (fs : List Frame) : Type 0 where
  open_of : AllByRecursion IsOf (after p f fs)
  none : counted p 0 ≡ 0

none_by : (b : Bool) → b ≡ false → ◌≡◌ {A = ℕ} (cond b 1 0) 0
none_by true e = absurd cc
none_by false e = refl

next_of : (text : List ℕ) (f : Frame) (fs : List Frame) (at : ℕ) (p : Piece) (next : ℕ) → IsOf f → AllByRecursion IsOf fs → What text f 0 at p next → Next p f fs
next_of text f fs at closes next of all w = record { open_of = all; none = refl }
next_of text f fs at (leaf tag v) next of all w = record { open_of = (of, all); none = refl }
next_of text f fs at (opens q) next of all w =
    let i = inner_of f.place q of w.1.starts.child in
    record { open_of = (i.of, (of, all)); none = none_by (is_node q) i.no_node }
next_of text f fs at (whole q) next of all w =
    let i = inner_of f.place q of w.1.starts.child in
    record { open_of = (of, all); none = none_by (is_node q) i.no_node }

record Reached (end : Point) : Type 0 where
  open_of : AllByRecursion IsOf end.parents
  none : end.nodes ≡ 0

reached : (text : List ℕ) (ps : List Piece) (at : ℕ) (fs : List Frame) (n : ℕ) (end : Point) → AllByRecursion IsOf fs → n ≡ 0 → Reaches text ps at fs n end → Reached end
reached text [] at fs n end all zero r = record { open_of = subst (λ (x : Point). AllByRecursion IsOf x.parents) (sym r) all; none = ap (λ (x : Point). x.nodes) r ∙ zero }
reached text (p ∷ ps) at [] n end all zero r = absurd r
reached text (p ∷ ps) at (f ∷ fs) n end all zero r =
    let here = subst (λ (m : ℕ). piece_at f m text at ≡ Ok (p, r.0)) zero r.1 in
    let x = next_of text f fs (space_end text at) p r.0 all.0 all.1 (piece_is text f 0 at p r.0 here) in
    reached text ps r.0 (after p f fs) (counted p n) end x.open_of (ap (counted p) zero ∙ x.none) r.2

-- the innermost open parent of a label is always one of a label's parents
pub reached_top : (text : List ℕ) (ps : List Piece) (inside at : ℕ) (f : Frame) (fs : List Frame) → Reaches text ps inside (fresh place.Label ∷ []) 0 (point at (f ∷ fs) 0) → of_label f.place ≡ true
reached_top text ps inside at f fs r = (reached text ps inside (fresh place.Label ∷ []) 0 (point at (f ∷ fs) 0) (refl, tt) refl r).open_of.0

-- no piece of a label begins a node
pub none_begun : (text : List ℕ) (f : Frame) (at : ℕ) (p : Piece) (next : ℕ) → of_label f.place ≡ true → piece_at f 0 text at ≡ Ok (p, next) → counted p 0 ≡ 0
none_begun text f at p next of h = (next_of text f [] (space_end text at) p next of tt (piece_is text f 0 at p next h)).none

-- ---- no element is a node

mutual
  no_nodes_in : (text : List ℕ) (p : Container) (at : ℕ) (i : Item) (next : ℕ) → of_label p ≡ true → Spelled text p at i next → nodes_of i ≡ 0
  no_nodes_in text p at (plain tag v) next of s = refl
  no_nodes_in text p at (bare q) next of s = none_by (is_node q) (inner_of p q of s.1.child).no_node
  no_nodes_in text p at (nested q is) next of s =
      let i = inner_of p q of s.1.child in
      let here = none_by (is_node q) i.no_node in
      let rest = no_nodes text q [] s.0.next is s.3 i.of s.4 in
      omega (arith, here, rest)

  no_nodes : (text : List ℕ) (p : Container) (seen : List Tag) (at : ℕ) (is : Items) (end : ℕ) → of_label p ≡ true → AllSpelled text p seen at is end → node_count is ≡ 0
  no_nodes text p seen at no_items end of s = refl
  no_nodes text p seen at (item i is) end of s =
      let here = no_nodes_in text p (space_end text at) i s.1 of s.2 in
      let rest = no_nodes text p (item_tag i ∷ seen) s.1 is end of s.3 in
      omega (arith, here, rest)

-- a label has no more nodes than a document may have
pub few_of : (text : List ℕ) (items : Items) → DocumentText place.Label text items → node_count items ≤ most_nodes
few_of text items d = let none = no_nodes text place.Label [] d.inside items d.end refl d.children in omega (arith, none)

-- ---- the size of a block

size_form : (p : Container) (f : Form) → of_label p ≡ true → rule p BlockSize ≡ child.Leaf f → f ≡ form.BlockSize
size_form place.Label f e h = let same : form.BlockSize ≡ f = cc in sym same
size_form place.Own f e h = absurd cc
size_form place.Letters f e h = absurd cc
size_form _ f e h = absurd cc

size_bound : (n : ℕ) → nat_lt 1048576 n ≡ false → n ≤ 1048576
size_bound n e = grind (arith, nat_tests)

as_value : (x v : Val) (m n : ℕ) → ◌≡◌ {A = Result (Val × ℕ) PieceErr} (Ok (x, m)) (Ok (v, n)) → FitsBlock (leaf BlockSize x) → FitsBlock (leaf BlockSize v)
as_value x v m n e h = let pair : ◌≡◌ {A = Val × ℕ} (x, m) (v, n) = cc in subst (λ (z : Val × ℕ). FitsBlock (leaf BlockSize z.0)) pair h

size_in : (text : List ℕ) (from : ℕ) (v : Val) (n : ℕ) → number_in form.BlockSize text from ≡ Ok (v, n) → FitsBlock (leaf BlockSize v)
unfolding number_in
size_in text from v n e =
    let a = bind_ok (lift (number_at text from)) _ (v, n) e in
    let b = bind_ok (in_range form.BlockSize text from a.0) _ (v, n) a.2 in
    let great = unless_ok (nat_lt 1048576 a.0.0) _ _ b.0 b.1 in
    let small = unless_ok (nat_lt a.0.0 4096) _ (Ok a.0) b.0 great.1 in
    let same : a.0 ≡ b.0 = cc (small.1) in
    as_value (number b.0.0) v _ n b.2 (subst (λ (m : ℕ × ℕ). m.0 ≤ 1048576) same (size_bound a.0.0 great.0))

size_at : (tag : Tag) (from : ℕ) (start : Start) (text : List ℕ) (v : Val) (n : ℕ) → leaf_at form.BlockSize tag from start text ≡ Ok (v, n) → FitsBlock (leaf BlockSize v)
unfolding leaf_at
size_at tag from start text v n e = by start.empty e
  where
    by : (b : Bool) → cond b (empty_value form.BlockSize from start.next) (value_in form.BlockSize from start text >>= λ x. lift (end_at text x.1 tag) >>= λ y. Ok (x.0, y)) ≡ Ok (v, n) → FitsBlock (leaf BlockSize v)
    by true h = absurd cc
    by false h =
        let a = bind_ok (value_in form.BlockSize from start text) _ (v, n) h in
        let b = bind_ok (lift (end_at text a.0.1 tag)) (λ y. Ok (a.0.0, y)) (v, n) a.2 in
        as_value a.0.0 v b.0 n b.2 (size_in text _ a.0.0 a.0.1 a.1)

leaf_fits : (text : List ℕ) (f : Frame) (at : ℕ) (tag : Tag) (v : Val) (next : ℕ) → of_label f.place ≡ true → What text f 0 at (leaf tag v) next → FitsBlock (leaf tag v)
leaf_fits text f at BlockSize v next of w =
    let is = size_form f.place w.0 of w.2.child in
    size_at BlockSize at w.1 text v next (subst (λ (x : Form). leaf_at x BlockSize at w.1 text ≡ Ok (v, next)) is w.4)
leaf_fits text f at LtfsLabel v next of w = tt
leaf_fits text f at _ v next of w = tt

-- the size of blocks that a piece of a label tells is one that a volume may have
pub piece_fits : (text : List ℕ) (f : Frame) (at : ℕ) (p : Piece) (next : ℕ) → of_label f.place ≡ true → piece_at f 0 text at ≡ Ok (p, next) → FitsBlock p
piece_fits text f at (leaf tag v) next of h = leaf_fits text f (space_end text at) tag v next of (piece_is text f 0 at (leaf tag v) next h)
piece_fits text f at closes next of h = tt
piece_fits text f at _ next of h = tt

-- ---- how it is refused

-- a refusal of a label
abbrev pub IsPlain : {A : Type 0} → Result A PieceErr → Type 0
IsPlain (Ok x) = ⊤
IsPlain (Err e) = IsSome (told e)

refusal_plain : (w : Why) (at : ℕ) → IsSome (told (refusal w at))
refusal_plain why.Syntax at = refl
refusal_plain why.Unknown at = refl
refusal_plain why.Version at = refl
refusal_plain why.Number at = refl
refusal_plain why.NoMemory at = refl

lift_plain : {A : Type 0} (r : Read A) → IsPlain (lift r)
lift_plain (Ok x) = tt
lift_plain (Err e) = refusal_plain e.why e.at

then_plain : {A B : Type 0} (r : Result A PieceErr) (f : A → Result B PieceErr) → IsPlain r → ((x : A) → r ≡ Ok x → IsPlain (f x)) → IsPlain (r >>= f)
then_plain (Ok x) f h k = k x refl
then_plain (Err e) f h k = h

if_plain : {A : Type 0} (b : Bool) (r s : Result A PieceErr) → IsPlain r → IsPlain s → IsPlain (cond b r s)
if_plain true r s h k = h
if_plain false r s h k = k

missing_plain : (o : Option Tag) → IsPlain (none_missing o)
missing_plain None = tt
missing_plain (Some tag) = refl

first_plain : {A B : Type 0} (r : Read A) (s : Result B PieceErr) → IsPlain s → IsPlain (unknown_first r s)
first_plain (Ok x) s h = h
first_plain {A} {B} (Err e) s h = by e.why
  where
    by : (w : Why) → IsPlain (unknown_by {A = B} w e.at s)
    by why.Unknown = refl
    by why.Syntax = h
    by why.Version = h
    by why.Number = h
    by why.NoMemory = h

-- there is room for each node, since none has begun
room_plain : (b : Bool) (c : Child) → IsPlain (cond (b && nat_le most_nodes 0) (Err pieces.TooMany) (Ok c))
room_plain true c = tt
room_plain false c = tt

known_plain : (c : Child) (at : ℕ) (r : Result Child PieceErr) → IsPlain r → IsPlain (if_known c at r)
known_plain child.Unknown at r h = refl
known_plain (child.Leaf form) at r h = h
known_plain (child.Parent q) at r h = h

verdict_plain : (f : Frame) (at : ℕ) (tag : Tag) → IsPlain (verdict f 0 at tag)
unfolding verdict
verdict_plain f at tag =
    let c = rule f.place tag in
    known_plain c at (beside f 0 at tag c)
    (if_plain {A = Child} (has_any (excludes tag) f.seen) (Err (pieces.Unknown at)) _ refl
    (if_plain {A = Child} (member tag f.seen && not (may_repeat f.place tag)) (Err (pieces.Twice at)) _ refl
    (room_plain (opens_node c) c)))

-- the forms of a label's leaves
abbrev is_plain_form : Form → Bool
is_plain_form form.VolumeName = false
is_plain_form form.NodeName = false
is_plain_form form.AnyName = false
is_plain_form form.Key = false
is_plain_form form.Value = false
is_plain_form _ = true

label_form : (tag : Tag) (f : Form) → label_rule tag ≡ child.Leaf f → is_plain_form f ≡ true
label_form Creator f h = let same : form.Text ≡ f = cc in ap is_plain_form (sym same)
label_form FormatTime f h = let same : form.Time ≡ f = cc in ap is_plain_form (sym same)
label_form VolumeUuid f h = let same : form.Uuid ≡ f = cc in ap is_plain_form (sym same)
label_form BlockSize f h = let same : form.BlockSize ≡ f = cc in ap is_plain_form (sym same)
label_form Compression f h = let same : form.Truth ≡ f = cc in ap is_plain_form (sym same)
label_form _ f h = absurd cc

own_form : (tag : Tag) (f : Form) → own_rule tag ≡ child.Leaf f → is_plain_form f ≡ true
own_form Partition f h = let same : form.Letter ≡ f = cc in ap is_plain_form (sym same)
own_form _ f h = absurd cc

letters_form : (tag : Tag) (f : Form) → letters_rule tag ≡ child.Leaf f → is_plain_form f ≡ true
letters_form IndexLetter f h = let same : form.Letter ≡ f = cc in ap is_plain_form (sym same)
letters_form DataLetter f h = let same : form.Letter ≡ f = cc in ap is_plain_form (sym same)
letters_form _ f h = absurd cc

form_of : (p : Container) (tag : Tag) (f : Form) → of_label p ≡ true → rule p tag ≡ child.Leaf f → is_plain_form f ≡ true
form_of place.Label tag f e h = label_form tag f h
form_of place.Own tag f e h = own_form tag f h
form_of place.Letters tag f e h = letters_form tag f h
form_of _ tag f e h = absurd cc

number_plain : (f : Form) (text : List ℕ) (from : ℕ) → IsPlain (number_in f text from)
unfolding number_in
number_plain f text from = then_plain (lift (number_at text from)) _ (lift_plain (number_at text from)) (λ n h.
    then_plain (in_range f text from n) _
    (if_plain {A = ℕ × ℕ} (is_too_great f n.0) (Err (pieces.Number from)) _ refl
    (if_plain {A = ℕ × ℕ} (nat_lt n.0 (least f)) (Err (cond (n.1 == length text) (pieces.Syntax (length text)) (pieces.Number from))) (Ok n) (small (n.1 == length text)) tt)) (λ m k. tt))
  where
    small : (b : Bool) → IsSome (told (cond b (pieces.Syntax (length text)) (pieces.Number from)))
    small true = refl
    small false = refl

spaced_plain : {A : Type 0} (view : A → Val) (text : List ℕ) (read : Read (A × ℕ)) → IsPlain (spaced view text read)
spaced_plain view text read = then_plain (lift read) _ (lift_plain read) (λ x h. tt)

value_plain : (f : Form) (from : ℕ) (start : Start) (text : List ℕ) → is_plain_form f ≡ true → IsPlain (value_in f from start text)
value_plain form.Text from start text e = then_plain (lift (text_at text start.next)) _ (lift_plain (text_at text start.next)) (λ x h. tt)
value_plain form.VolumeName from start text e = absurd cc
value_plain form.NodeName from start text e = absurd cc
value_plain form.AnyName from start text e = absurd cc
value_plain form.Key from start text e = absurd cc
value_plain form.Value from start text e = absurd cc
value_plain form.Time from start text e = spaced_plain time text (time_at text (space_end text start.next))
value_plain form.Uuid from start text e = spaced_plain uuid text (uuid_at text (space_end text start.next))
value_plain form.Letter from start text e = spaced_plain letter text (letter_at text (space_end text start.next))
value_plain form.Truth from start text e = spaced_plain truth text (bool_at text (space_end text start.next))
value_plain form.Lock from start text e = spaced_plain lock text (lock_at text (space_end text start.next))
value_plain form.BlockSize from start text e = number_plain form.BlockSize text (space_end text start.next)
value_plain form.Number from start text e = number_plain form.Number text (space_end text start.next)
value_plain form.Bounded from start text e = number_plain form.Bounded text (space_end text start.next)
value_plain form.Generation from start text e = number_plain form.Generation text (space_end text start.next)

empty_plain : (f : Form) (from at : ℕ) → is_plain_form f ≡ true → IsPlain (empty_value f from at)
empty_plain form.Text from at e = tt
empty_plain form.VolumeName from at e = absurd cc
empty_plain form.NodeName from at e = absurd cc
empty_plain form.AnyName from at e = absurd cc
empty_plain form.Key from at e = absurd cc
empty_plain form.Value from at e = absurd cc
empty_plain _ from at e = refl

leaf_plain : (f : Form) (tag : Tag) (from : ℕ) (start : Start) (text : List ℕ) → is_plain_form f ≡ true → IsPlain (leaf_at f tag from start text)
unfolding leaf_at
leaf_plain f tag from start text e =
    if_plain start.empty (empty_value f from start.next) _ (empty_plain f from start.next e)
    (then_plain (value_in f from start text) _ (value_plain f from start text e) (λ x h.
    then_plain (lift (end_at text x.1 tag)) _ (lift_plain (end_at text x.1 tag)) (λ y k. tt)))

made_plain : (p : Container) (c : Child) (tag : Tag) (from : ℕ) (start : Start) (text : List ℕ) → of_label p ≡ true → rule p tag ≡ c → IsPlain (made c tag from start text)
unfolding made
made_plain p child.Unknown tag from start text of is = refl
made_plain p (child.Leaf f) tag from start text of is =
    then_plain (leaf_at f tag from start text) _ (leaf_plain f tag from start text (form_of p tag f of is)) (λ x h. tt)
made_plain p (child.Parent q) tag from start text of is =
    if_plain start.empty _ (Ok (opens q, start.next))
    (then_plain (none_missing (first_missing (required q) [])) _ (missing_plain (first_missing (required q) [])) (λ x h. tt)) tt

child_plain : (text : List ℕ) (f : Frame) (at : ℕ) → of_label f.place ≡ true → IsPlain (child_at f 0 text at)
unfolding child_at
child_plain text f at of =
    then_plain (lift (named_at text at)) _ (lift_plain (named_at text at)) (λ t h.
    then_plain (unknown_first (rest_at t.0 at text t.1) (verdict f 0 at t.0)) _ (first_plain (rest_at t.0 at text t.1) (verdict f 0 at t.0) (verdict_plain f at t.0)) (λ c v.
    then_plain (lift (rest_at t.0 at text t.1)) _ (lift_plain (rest_at t.0 at text t.1)) (λ start r.
    made_plain f.place c t.0 at start text of (verdict_ok f 0 at t.0 c (first_ok (rest_at t.0 at text t.1) (verdict f 0 at t.0) c v)).child)))
  where
    first_ok : {A : Type 0} (r : Read A) (v : Result Child PieceErr) (c : Child) → unknown_first r v ≡ Ok c → v ≡ Ok c
    first_ok (Ok y) v c h = h
    first_ok {A} (Err e) v c h = by e.why h
      where
        by : (w : Why) → unknown_by w e.at v ≡ Ok c → v ≡ Ok c
        by why.Unknown h = absurd cc
        by why.Syntax h = h
        by why.Version h = h
        by why.Number h = h
        by why.NoMemory h = h

close_plain : (text : List ℕ) (f : Frame) (at : ℕ) → IsPlain (close_at f text at)
unfolding close_at
close_plain text f at =
    then_plain (lift (end_at text at (tag_of f.place))) _ (lift_plain (end_at text at (tag_of f.place))) (λ n h.
    then_plain (none_missing (first_missing (required f.place) f.seen)) _ (missing_plain (first_missing (required f.place) f.seen)) (λ x k. tt))

piece_plain : (text : List ℕ) (f : Frame) (at : ℕ) → of_label f.place ≡ true → IsPlain (piece_at f 0 text at)
unfolding piece_at
piece_plain text f at of =
    let s = space_end text at in
    if_plain (byte text s == 60 && byte text (s + 1) == 47) (close_at f text s) (child_at f 0 text s) (close_plain text f s) (child_plain text f s of)

root_plain : (text : List ℕ) (at : ℕ) → IsPlain (root_at place.Label text at)
unfolding root_at
root_plain text at =
    then_plain (lift (named_at text at)) _ (lift_plain (named_at text at)) (λ t h.
    then_plain (unknown_first (rest_at t.0 at text t.1) (root_only place.Label at t.0)) _
    (first_plain (rest_at t.0 at text t.1) (root_only place.Label at t.0) (if_plain {A = Unit {0}} (begins place.Label t.0) (Ok tt) (Err (pieces.Unknown at)) tt refl)) (λ c v.
    then_plain (lift (rest_at t.0 at text t.1)) _ (lift_plain (rest_at t.0 at text t.1)) (λ start r.
    if_plain {A = ℕ} start.empty (Err (pieces.Missing Creator)) (Ok start.next) refl tt)))

head_plain : (text : List ℕ) → IsPlain (head_of place.Label text)
unfolding head_of
head_plain text = then_plain (lift (head_at text 0)) _ (lift_plain (head_at text 0)) (λ from h. root_plain text (space_end text from))

fails_plain : {A : Type 0} (r : Result A PieceErr) (e : PieceErr) → r ≡ Err e → IsPlain r → IsSome (told e)
fails_plain r e is h = subst IsPlain is h

halts_plain : (text : List ℕ) (e : PieceErr) → Halts place.Label text e → IsSome (told e)
halts_plain text e (at_head h) = fails_plain (head_of place.Label text) e h (head_plain text)
halts_plain text e (at_piece ps end f fs o is h) =
    let r = reached text ps o.inside (fresh place.Label ∷ []) 0 end (refl, tt) refl o.reaches in
    let all = subst (AllByRecursion IsOf) is r.open_of in
    fails_plain (piece_at f 0 text end.at) e (subst (λ (n : ℕ). piece_at f n text end.at ≡ Err e) r.none h) (piece_plain text f end.at all.0)
halts_plain text e (at_end ps end o none ne) = refl

-- where a label stops, there is something to tell of it
pub stops_plain : (text : List ℕ) (e : PieceErr) → StopsAt place.Label text e → IsSome (told e)
stops_plain text e (inl h) = halts_plain (readable text) e h
stops_plain text e (inr h) = subst (λ (x : PieceErr). IsSome (told x)) (sym h.1) refl

-- the same of a refusal for want of memory
pub halts_told : (text : List ℕ) (e : PieceErr) → answers.UnlessMemory e (Halts place.Label text e) → IsSome (told e)
halts_told text (pieces.Syntax at) h = refl
halts_told text (pieces.Unknown at) h = refl
halts_told text (pieces.Twice at) h = refl
halts_told text pieces.Version h = refl
halts_told text (pieces.Missing tag) h = refl
halts_told text (pieces.Number at) h = refl
halts_told text (pieces.Name at) h = halts_plain text (pieces.Name at) h
halts_told text pieces.TooMany h = halts_plain text pieces.TooMany h
halts_told text pieces.NoMemory h = refl
