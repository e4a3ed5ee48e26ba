-- What elements are spelled: leaves with values of their forms, and parents with their children.
use Rattle.std.proofs.Common.{◌≡◌, ℕ, List, [], ◌∷◌, Bool, true, false, cond, ◌==◌, ◌||◌, Option, Some, None, Result, Ok, if◌then◌else◌, refl, sym, ap, subst, ◌∙◌}
use Rattle.std.proofs.lemmas.Bool.{eqb-true}
use Rattle.tape_types.specs.declared.times.Civil.{Civil}
use Rattle.ltfs_documents.specs.declared.doc_fields.starts.Start.{Start}
use Rattle.ltfs_documents.specs.declared.doc_fields.tags.Tag.{Tag}
use Rattle.ltfs_documents.specs.declared.doc_fields.tags.Tag.TheVariants.{LtfsLabel}
use Rattle.ltfs_documents.specs.declared.doc_fields.values.LockState.{LockState}
use Rattle.ltfs_documents.specs.DocFields.Reading.{Read}
use Rattle.ltfs_documents.specs.DocFields.Numbers.{number_at}
use Rattle.ltfs_documents.specs.DocFields.EndTag.{end_at}
use Rattle.ltfs_documents.specs.DocFields.Space.{space_end}
use Rattle.ltfs_documents.specs.DocFields.Tags.{all_tags}
use Rattle.ltfs_documents.specs.DocFields.Texts.{text_at}
use Rattle.ltfs_documents.specs.DocFields.Values.{bool_at, letter_at, lock_at, time_at, uuid_at}
use Rattle.ltfs_documents.specs.DocElements.Children.{code, member, first_missing}
use Rattle.ltfs_documents.specs.declared.doc_elements.errors.PieceErr.{PieceErr}
use Rattle.ltfs_documents.specs.declared.doc_elements.schema.Container.{Container}
use Rattle.ltfs_documents.specs.declared.doc_elements.schema.Form.{Form}
use Rattle.ltfs_documents.specs.declared.doc_elements.schema.Form.TheVariants as form
use Rattle.ltfs_documents.specs.declared.doc_elements.schema.Child.{Child}
use Rattle.ltfs_documents.specs.declared.doc_elements.schema.Child.TheVariants as child
use Rattle.ltfs_documents.specs.DocElements.Schema.{rule, required, tag_of}
use Rattle.ltfs_documents.specs.DocElements.Pieces.{Val, words, time, uuid, letter, number, truth, lock, bytes, ◌>>=◌, lift, spaced, in_range, number_in, name_in, name_of, named, bytes_in, bytes_of, value_in, empty_value, leaf_at}
use Rattle.ltfs_documents.specs.DocElements.Elements.{Item, plain, bare, nested, Items, no_items, item, item_tag, Spelled, AllSpelled, MayFollow}
use Rattle.index_model.specs.Grammar.{or_else, own, told}
use Rattle.ltfs_documents.proofs.DocElements.Inversion.{bind_ok}

-- the value is of the form's kind
abbrev pub HasForm : Form → Val → Type 0
HasForm form.Text v = (t : List ℕ) × (v ≡ words t)
HasForm form.VolumeName v = (t : List ℕ) × (v ≡ words t)
HasForm form.NodeName v = (t : List ℕ) × (v ≡ words t)
HasForm form.AnyName v = (t : List ℕ) × (v ≡ words t)
HasForm form.Key v = (t : List ℕ) × (v ≡ words t)
HasForm form.Value v = (bs : List ℕ) × (v ≡ bytes bs)
HasForm form.Time v = (c : Civil) × (v ≡ time c)
HasForm form.Uuid v = (n : ℕ) × (v ≡ uuid n)
HasForm form.Letter v = (b : ℕ) × (v ≡ letter b)
HasForm form.Truth v = (is : Bool) × (v ≡ truth is)
HasForm form.Lock v = (state : LockState) × (v ≡ lock state)
HasForm form.BlockSize v = (n : ℕ) × (v ≡ number n)
HasForm form.Number v = (n : ℕ) × (v ≡ number n)
HasForm form.Bounded v = (n : ℕ) × (v ≡ number n)
HasForm form.Generation v = (n : ℕ) × (v ≡ number n)

abbrev mutual
  -- an element that may be a child
  pub FitsItem : Container → Item → Type 0
  FitsItem p (plain tag v) = (f : Form) × (rule p tag ≡ child.Leaf f) × HasForm f v
  FitsItem p (bare q) = (rule p (tag_of q) ≡ child.Parent q) × (first_missing (required q) [] ≡ None)
  FitsItem p (nested q is) = (rule p (tag_of q) ≡ child.Parent q) × Fits q [] is

  -- the children of a parent, behind some that stood there
  pub Fits : Container → List Tag → Items → Type 0
  Fits p seen no_items = first_missing (required p) seen ≡ None
  Fits p seen (item i is) = FitsItem p i × MayFollow p seen (item_tag i) × Fits p (item_tag i ∷ seen) is

-- ---- values have their forms

first_of : {A B : Type 0} (x y : A) (m n : B) → ◌≡◌ {A = Result (A × B) PieceErr} (Ok (x, m)) (Ok (y, n)) → y ≡ x
first_of {A = A} {B = B} x y m n e = let pair : ◌≡◌ {A = A × B} (y, n) (x, m) = cc in ap (λ z. z.0) pair

spaced_form : {A : Type 0} (view : A → Val) (text : List ℕ) (read : Read (A × ℕ)) (v : Val) (n : ℕ) → spaced view text read ≡ Ok (v, n) → (x : A) × (v ≡ view x)
spaced_form view text read v n e = let b = bind_ok (lift read) _ (v, n) e in (b.0.0, first_of _ v _ n b.2)

number_form : (f : Form) (text : List ℕ) (from : ℕ) (v : Val) (n : ℕ) → number_in f text from ≡ Ok (v, n) → (x : ℕ) × (v ≡ number x)
unfolding number_in
number_form f text from v n e =
    let a = bind_ok (lift (number_at text from)) _ (v, n) e in
    let b = bind_ok (in_range f text from a.0) _ (v, n) a.2 in
    (b.0.0, first_of _ v _ n b.2)

name_form : (f : Form) (from : ℕ) (start : Start) (text : List ℕ) (v : Val) (n : ℕ) → name_in f from start text ≡ Ok (v, n) → (t : List ℕ) × (v ≡ words t)
unfolding name_in
name_form f from start text v n e =
    let a = bind_ok (lift (text_at text start.next)) _ (v, n) e in
    let b = bind_ok (name_of f from start.attribute text a.0) _ (v, n) a.2 in
    (b.0, first_of _ v _ n b.2)

bytes_form : (start : Start) (text : List ℕ) (v : Val) (n : ℕ) → bytes_in start text ≡ Ok (v, n) → (bs : List ℕ) × (v ≡ bytes bs)
unfolding bytes_in
bytes_form start text v n e =
    let a = bind_ok (lift (text_at text start.next)) _ (v, n) e in
    let b = bind_ok (bytes_of start.attribute text (space_end text start.next) a.0) _ (v, n) a.2 in
    (b.0, first_of _ v _ n b.2)

value_form : (f : Form) (from : ℕ) (start : Start) (text : List ℕ) (v : Val) (n : ℕ) → value_in f from start text ≡ Ok (v, n) → HasForm f v
value_form form.Text from start text v n e = let b = bind_ok (lift (text_at text start.next)) _ (v, n) e in (b.0.0, first_of _ v _ n b.2)
value_form form.VolumeName from start text v n e = name_form form.VolumeName from start text v n e
value_form form.NodeName from start text v n e = name_form form.NodeName from start text v n e
value_form form.AnyName from start text v n e = name_form form.AnyName from start text v n e
value_form form.Key from start text v n e = name_form form.Key from start text v n e
value_form form.Value from start text v n e = bytes_form start text v n e
value_form form.Time from start text v n e = spaced_form time text (time_at text (space_end text start.next)) v n e
value_form form.Uuid from start text v n e = spaced_form uuid text (uuid_at text (space_end text start.next)) v n e
value_form form.Letter from start text v n e = spaced_form letter text (letter_at text (space_end text start.next)) v n e
value_form form.Truth from start text v n e = spaced_form truth text (bool_at text (space_end text start.next)) v n e
value_form form.Lock from start text v n e = spaced_form lock text (lock_at text (space_end text start.next)) v n e
value_form form.BlockSize from start text v n e = number_form form.BlockSize text _ v n e
value_form form.Number from start text v n e = number_form form.Number text _ v n e
value_form form.Bounded from start text v n e = number_form form.Bounded text _ v n e
value_form form.Generation from start text v n e = number_form form.Generation text _ v n e

empty_form : (f : Form) (from at : ℕ) (v : Val) (n : ℕ) → empty_value f from at ≡ Ok (v, n) → HasForm f v
empty_form form.Text from at v n e = ([], first_of _ v _ n e)
empty_form form.VolumeName from at v n e = let b = bind_ok (named form.VolumeName from []) _ (v, n) e in (b.0, first_of _ v _ n b.2)
empty_form form.NodeName from at v n e = let b = bind_ok (named form.NodeName from []) _ (v, n) e in (b.0, first_of _ v _ n b.2)
empty_form form.AnyName from at v n e = let b = bind_ok (named form.AnyName from []) _ (v, n) e in (b.0, first_of _ v _ n b.2)
empty_form form.Key from at v n e = let b = bind_ok (named form.Key from []) _ (v, n) e in (b.0, first_of _ v _ n b.2)
empty_form form.Value from at v n e = ([], first_of _ v _ n e)
empty_form _ from at v n e = absurd cc

leaf_form : (f : Form) (tag : Tag) (from : ℕ) (start : Start) (text : List ℕ) (v : Val) (n : ℕ) → leaf_at f tag from start text ≡ Ok (v, n) → HasForm f v
unfolding leaf_at
leaf_form f tag from start text v n e = by start.empty e
  where
    by : (b : Bool) → cond b (empty_value f from start.next) (value_in f from start text >>= λ x. lift (end_at text x.1 tag) >>= λ y. Ok (x.0, y)) ≡ Ok (v, n) → HasForm f v
    by true h = empty_form f from start.next v n h
    by false h =
        let a = bind_ok (value_in f from start text) _ (v, n) h in
        let b = bind_ok (lift (end_at text a.0.1 tag)) (λ y. Ok (a.0.0, y)) (v, n) a.2 in
        let same : v ≡ a.0.0 = first_of _ v _ n b.2 in
        subst (HasForm f) (sym same) (value_form f from start text a.0.0 a.0.1 a.1)

-- ---- what is spelled fits

mutual
  pub item_fits : (text : List ℕ) (p : Container) (at : ℕ) (i : Item) (next : ℕ) → Spelled text p at i next → FitsItem p i
  item_fits text p at (plain tag v) next s = (s.0, s.2.child, leaf_form s.0 tag at s.1 text v next s.3)
  item_fits text p at (bare q) next s = (s.1.child, s.4)
  item_fits text p at (nested q is) next s = (s.1.child, all_fit text q [] s.0.next is s.3 s.4)

  pub all_fit : (text : List ℕ) (p : Container) (seen : List Tag) (at : ℕ) (is : Items) (end : ℕ) → AllSpelled text p seen at is end → Fits p seen is
  all_fit text p seen at no_items end s = s.1
  all_fit text p seen at (item i is) end s = (item_fits text p (space_end text at) i s.1 s.2, s.0, all_fit text p (item_tag i ∷ seen) s.1 is end s.3)

-- ---- elements by their numbers

coded_in : ℕ → List Tag → Tag
coded_in n [] = LtfsLabel
coded_in n (t ∷ ts) = if n == code t then t else coded_in n ts

back_from_code : (t : Tag) → coded_in (code t) all_tags ≡ t
unfolding coded_in
back_from_code LtfsLabel = refl
back_from_code _ = refl

-- elements with the same number are one
pub same_tag : (t u : Tag) → (code t == code u) ≡ true → t ≡ u
same_tag t u e = sym (back_from_code t) ∙ ap (λ n. coded_in n all_tags) (eqb-true (code t) (code u) e) ∙ back_from_code u

-- ---- what is told

-- an element that is a leaf tells a value of its form
pub own_form : (p : Container) (i : Item) (t : Tag) (f : Form) (v : Val) → FitsItem p i → rule p t ≡ child.Leaf f → own t i ≡ Some v → HasForm f v
own_form p (plain u w) t f v fits is e = by (code t == code u) refl e
  where
    by : (b : Bool) → (code t == code u) ≡ b → (if b then Some w else None) ≡ Some v → HasForm f v
    by true h o =
        let same = same_tag t u h in
        let forms : ◌≡◌ {A = Child} (child.Leaf f) (child.Leaf fits.0) = sym is ∙ ap (rule p) same ∙ fits.1 in
        let one : fits.0 ≡ f = cc in
        let value : w ≡ v = cc (o) in
        subst (λ x. HasForm x v) one (subst (HasForm fits.0) value fits.2)
    by false h o = absurd cc
own_form p (bare q) t f v fits is e = absurd cc
own_form p (nested q is) t f v fits r e = absurd cc

-- a leaf that elements tell has a value of its form
pub told_form : (p : Container) (seen : List Tag) (is : Items) (t : Tag) (f : Form) (v : Val) → Fits p seen is → rule p t ≡ child.Leaf f → told t is ≡ Some v → HasForm f v
told_form p seen no_items t f v fits r e = absurd cc
told_form p seen (item i is) t f v fits r e = by (told t is) refl (λ w. told_form p (item_tag i ∷ seen) is t f w fits.2 r) e
  where
    by : (o : Option Val) → told t is ≡ o → ((w : Val) → told t is ≡ Some w → HasForm f w) → or_else o (own t i) ≡ Some v → HasForm f v
    by None h later o = own_form p i t f v fits.0 r o
    by (Some w) h later o = let same : w ≡ v = cc (o) in subst (HasForm f) same (later w h)

-- where no required element is missing, each of them has stood
pub missing_member : (t : Tag) (ts seen : List Tag) → first_missing ts seen ≡ None → member t ts ≡ true → member t seen ≡ true
missing_member t [] seen e h = absurd cc
missing_member t (u ∷ ts) seen e h = by (member u seen) refl (code t == code u) refl (missing_member t ts seen) e h
  where
    by : (a : Bool) → member u seen ≡ a → (b : Bool) → (code t == code u) ≡ b → (first_missing ts seen ≡ None → member t ts ≡ true → member t seen ≡ true) → (if a then first_missing ts seen else Some u) ≡ None → (b || member t ts) ≡ true → member t seen ≡ true
    by false is b same later d k = absurd cc
    by true is true same later d k = subst (λ x. member x seen ≡ true) (sym (same_tag t u same)) is
    by true is false same later d k = later d k

-- an element of the right name is there
own_there : (p : Container) (i : Item) (t : Tag) (f : Form) → FitsItem p i → rule p t ≡ child.Leaf f → (code t == code (item_tag i)) ≡ true → (v : Val) × (own t i ≡ Some v)
own_there p (plain u w) t f fits r e = (w, rw e refl)
own_there p (bare q) t f fits r e = absurd (let bad : ◌≡◌ {A = Child} (child.Leaf f) (child.Parent q) = sym r ∙ ap (rule p) (same_tag t (tag_of q) e) ∙ fits.0 in cc)
own_there p (nested q is) t f fits r e = absurd (let bad : ◌≡◌ {A = Child} (child.Leaf f) (child.Parent q) = sym r ∙ ap (rule p) (same_tag t (tag_of q) e) ∙ fits.0 in cc)

-- a leaf that must be there is told
told_there : (p : Container) (seen : List Tag) (is : Items) (t : Tag) (f : Form) → Fits p seen is → rule p t ≡ child.Leaf f → member t (required p) ≡ true → member t seen ≡ false → (v : Val) × (told t is ≡ Some v)
told_there p seen no_items t f fits r must new = absurd (let bad : true ≡ false = sym (missing_member t (required p) seen fits must) ∙ new in cc)
told_there p seen (item i is) t f fits r must new = by (told t is) refl (code t == code (item_tag i)) refl (told_there p (item_tag i ∷ seen) is t f fits.2 r must)
  where
    by : (o : Option Val) → told t is ≡ o → (b : Bool) → (code t == code (item_tag i)) ≡ b → (member t (item_tag i ∷ seen) ≡ false → (v : Val) × (told t is ≡ Some v)) → (v : Val) × (or_else (told t is) (own t i) ≡ Some v)
    by (Some v) h b same later = (v, rw h refl)
    by None h true same later = let o = own_there p i t f fits.0 r same in (o.0, rw (h, o.1) refl)
    by None h false same later =
        let more = later (rw (same, new) refl) in
        absurd (let bad : None ≡ Some more.0 = sym h ∙ more.1 in cc)

-- a required leaf is told, with a value of its form
pub must_tell : (p : Container) (is : Items) (t : Tag) (f : Form) → Fits p [] is → rule p t ≡ child.Leaf f → member t (required p) ≡ true → (v : Val) × (told t is ≡ Some v) × HasForm f v
must_tell p is t f fits r must =
    let h = told_there p [] is t f fits r must refl in
    (h.0, h.1, told_form p [] is t f h.0 fits r h.1)
