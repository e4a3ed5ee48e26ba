-- The label of a volume tells letters of its partitions, `a` to `z`, and a size of its blocks in the range of sizes.
use Rattle.std.proofs.Common.{◌≡◌, ◌∙◌, ℕ, ◌≤◌, Bool, true, false, cond, ◌==◌, List, [], ◌∷◌, ◌++◌, Result, Ok}
use Rattle.std.proofs.Common.{refl, sym, ap, subst, arith}
use Rattle.std.proofs.lemmas.Bool.Decides.{nat_tests}
use Rattle.ltfs_documents.specs.declared.doc_fields.tags.Tag.{Tag}
use Rattle.ltfs_documents.specs.declared.doc_fields.tags.Tag.TheVariants.{Creator, FormatTime, VolumeUuid, Location, Partition}
use Rattle.ltfs_documents.specs.declared.doc_fields.tags.Tag.TheVariants.{Partitions, IndexLetter, DataLetter, BlockSize, Compression}
use Rattle.ltfs_documents.specs.declared.doc_fields.starts.Start.{Start}
use Rattle.ltfs_documents.specs.DocFields.Space.{space_end}
use Rattle.ltfs_documents.specs.DocFields.Numbers.{number_at}
use Rattle.ltfs_documents.specs.DocFields.EndTag.{end_at}
use Rattle.ltfs_documents.specs.DocFields.Values.{letter_at}
use Rattle.ltfs_documents.specs.DocElements.Children.{code, member}
use Rattle.ltfs_documents.specs.declared.doc_elements.errors.PieceErr.{PieceErr}
use Rattle.ltfs_documents.specs.declared.doc_elements.schema.Container.{Container}
use Rattle.ltfs_documents.specs.declared.doc_elements.schema.Container.TheVariants as place
use Rattle.ltfs_documents.specs.declared.doc_elements.schema.Form.{Form}
use Rattle.ltfs_documents.specs.declared.doc_elements.schema.Form.TheVariants as form
use Rattle.ltfs_documents.specs.declared.doc_elements.schema.Child.TheVariants as child
use Rattle.ltfs_documents.specs.DocElements.Schema.{required, rule, tag_of}
use Rattle.ltfs_documents.specs.DocElements.Pieces.{Val, ◌>>=◌, closes, empty_value, in_range, leaf_at, letter, lift, number}
use Rattle.ltfs_documents.specs.DocElements.Pieces.{number_in, time, truth, uuid, value_in, words}
use Rattle.ltfs_documents.specs.DocElements.Elements.{AllSpelled, Item, Items, Spelled, all_pieces, bare, item, item_tag, nested}
use Rattle.ltfs_documents.specs.DocElements.Elements.{no_items, pieces_of, plain}
use Rattle.ltfs_documents.proofs.DocElements.Inversion.{bind_ok}
use Rattle.index_model.specs.Texts.{IsLetter}
use Rattle.index_read.proofs.Ranges.{InRange, leaf_range}
use Rattle.ltfs_label.specs.Values.{LabelValue, blank, set_leaf}
use Rattle.ltfs_label.specs.Reading.{value_from}
use Rattle.ltfs_label.specs.Grammar.{LabelText}
use Rattle.mount_recover.proofs.LabelKept.{all_keep, all_there, joined}

-- ---- leaves

same : {A : Type 0} (x y : A) → Path (Result A PieceErr) (Ok x) (Ok y) → x ≡ y
same x y e = cc

-- what a leaf gives that isn't empty is what its text shows
shown : (f : Form) (tag : Tag) (from : ℕ) (start : Start) (text : List ℕ) (x : Val) (next : ℕ)
    → ((at : ℕ) → empty_value f from at ≡ Ok (x, next) → ⊥)
    → leaf_at f tag from start text ≡ Ok (x, next) → (n : ℕ) × (value_in f from start text ≡ Ok (x, n))
unfolding leaf_at
shown f tag from start text x next never read = by start.empty read
  where
    by : (b : Bool)
        → cond b (empty_value f from start.next)
        (value_in f from start text >>= λ x. lift (end_at text x.1 tag) >>= λ y. Ok (x.0, y)) ≡ Ok (x, next)
        → (n : ℕ) × (value_in f from start text ≡ Ok (x, n))
    by true none = absurd (never start.next none)
    by false there =
        let value = bind_ok (value_in f from start text) _ (x, next) there in
        let end = bind_ok (lift (end_at text value.0.1 tag)) (λ y. Ok (value.0.0, y)) (x, next) value.2 in
        let is : value.0.0 ≡ x = ap (λ (w : Val × ℕ). w.0) (same (value.0.0, end.0) (x, next) end.2) in
        (value.0.1, value.1 ∙ ap (λ (y : Val). Ok (y, value.0.1)) is)

-- a leaf of this form is a letter
is_letter : (tag : Tag) (from : ℕ) (start : Start) (text : List ℕ) (x : Val) (next : ℕ)
    → leaf_at form.Letter tag from start text ≡ Ok (x, next) → (n : ℕ) × (x ≡ letter n)
is_letter tag from start text x next read =
    let value = shown form.Letter tag from start text x next (λ at none. cc none) read in
    let read_at = lift (letter_at text (space_end text start.next)) in
    let found = bind_ok read_at (λ v. Ok (letter v.0, space_end text v.1)) (x, value.0) value.1 in
    let is = same (letter found.0.0, space_end text found.0.1) (x, value.0) found.2 in
    (found.0.0, ap (λ (w : Val × ℕ). w.0) (sym is))

-- and one of this form is a number
is_number : (tag : Tag) (from : ℕ) (start : Start) (text : List ℕ) (x : Val) (next : ℕ)
    → leaf_at form.BlockSize tag from start text ≡ Ok (x, next) → (n : ℕ) × (x ≡ number n)
unfolding number_in
is_number tag from start text x next read =
    let at = space_end text start.next in
    let value = shown form.BlockSize tag from start text x next (λ at none. cc none) read in
    let a = bind_ok (lift (number_at text at))
    (λ n. in_range form.BlockSize text at n >>= λ m. Ok (number m.0, space_end text m.1)) (x, value.0) value.1 in
    let b = bind_ok (in_range form.BlockSize text at a.0) (λ m. Ok (number m.0, space_end text m.1))
    (x, value.0) a.2 in
    let is = same (number b.0.0, space_end text b.0.1) (x, value.0) b.2 in
    (b.0.0, ap (λ (w : Val × ℕ). w.0) (sym is))

-- ---- an element that a label has

-- A leaf that a place of a label has: its tag and its form, which value of a label it tells, and what its form gives.
record IsTold (p : Container) (element : Tag) (f : Form) (make : ℕ → Val) (get : LabelValue → ℕ) : Type 0 where
  stays : (tag : Tag) (x : Val) (v : LabelValue) → (code tag == code element) ≡ false → get (set_leaf tag x v) ≡ get v
  sets : (tag : Tag) (n : ℕ) (v : LabelValue) → (code tag == code element) ≡ true → get (set_leaf tag (make n) v) ≡ n
  only : (q : Container) (tag : Tag) (g : Form) → rule q tag ≡ child.Leaf g → (code tag == code element) ≡ true → g ≡ f
  made : (tag : Tag) (from : ℕ) (start : Start) (text : List ℕ) (x : Val) (next : ℕ)
      → leaf_at f tag from start text ≡ Ok (x, next) → (n : ℕ) × (x ≡ make n)
  no_parent : (tag : Tag) (q : Container) → rule p tag ≡ child.Parent q → (code tag == code element) ≡ true → ⊥
  front : List Tag
  behind : List Tag
  parts : required p ≡ front ++ element ∷ behind

module _ {p : Container} {element : Tag} {f : Form} {make : ℕ → Val} {get : LabelValue → ℕ}
    (is_told : IsTold p element f make get) where
  abbrev Has : LabelValue → Type 0
  Has v = InRange f (make (get v))

  tells : (text : List ℕ) (q : Container) (tag : Tag) (g : Form) (from : ℕ) (start : Start) (x : Val) (next : ℕ)
      (v : LabelValue) → rule q tag ≡ child.Leaf g → leaf_at g tag from start text ≡ Ok (x, next)
      → (code tag == code element) ≡ true → Has (set_leaf tag x v)
  tells text q tag g from start x next v ruled read is =
      let leaf : leaf_at f tag from start text ≡ Ok (x, next) =
      subst (λ (h : Form). leaf_at h tag from start text ≡ Ok (x, next)) (is_told.only q tag g ruled is) read in
      let found = is_told.made tag from start text x next leaf in
      let good : InRange f (make found.0) = subst (InRange f) found.1 (leaf_range f tag from start text x next leaf) in
      subst (λ (y : Val). Has (set_leaf tag y v)) (sym found.1)
      (subst (λ (n : ℕ). InRange f (make n)) (sym (is_told.sets tag found.0 v is)) good)

  keeps : (text : List ℕ) (q : Container) (tag : Tag) (g : Form) (from : ℕ) (start : Start) (x : Val) (next : ℕ)
      (v : LabelValue) → rule q tag ≡ child.Leaf g → leaf_at g tag from start text ≡ Ok (x, next)
      → Has v → Has (set_leaf tag x v)
  keeps text q tag g from start x next v ruled read good =
      elim (code tag == code element) as (λ b. (code tag == code element) ≡ b → Has (set_leaf tag x v)) [
        | true ↦ λ is. tells text q tag g from start x next v ruled read is
        | false ↦ λ is. subst (λ (n : ℕ). InRange f (make n)) (sym (is_told.stays tag x v is)) good
      ] refl

  -- what stands at the place has it
  inside : (text : List ℕ) (seen : List Tag) (at : ℕ) (is : Items) (end : ℕ) (v : LabelValue)
      → AllSpelled text p seen at is end → member element seen ≡ false
      → Has (value_from v (all_pieces is))
  inside text seen at no_items end v (ends, none) without =
      let there : member element seen ≡ true =
      all_there (required p) seen none is_told.front is_told.behind element is_told.parts in
      let bad : true ≡ false = sym there ∙ without in absurd (cc bad)
  inside text seen at (item i is) end v (new, next, one, more) without =
      elim (code (item_tag i) == code element)
      as (λ b. (code (item_tag i) == code element) ≡ b → Has (value_from v (all_pieces (item i is)))) [
        | true ↦ λ which. subst Has (sym (joined v (pieces_of i) (all_pieces is)))
            (all_keep Has text (keeps text) p (item_tag i ∷ seen) next is end (value_from v (pieces_of i)) more
            (this i one which))
        | false ↦ λ other. subst Has (sym (joined v (pieces_of i) (all_pieces is)))
            (inside text (item_tag i ∷ seen) next is end (value_from v (pieces_of i)) more (another other))
      ] refl
    where
      this : (i : Item) → Spelled text p (space_end text at) i next → (code (item_tag i) == code element) ≡ true
          → Has (value_from v (pieces_of i))
      this (plain tag x) (g, start, starts, read) which =
          tells text p tag g (space_end text at) start x next v starts.child read which
      this (bare q) (start, starts, closed, next_is, none) which =
          absurd (is_told.no_parent (tag_of q) q starts.child which)
      this (nested q is) (start, starts, unclosed, end, children, ended) which =
          absurd (is_told.no_parent (tag_of q) q starts.child which)

      another : (code (item_tag i) == code element) ≡ false → member element (item_tag i ∷ seen) ≡ false
      another other = grind (arith, nat_tests, without, other)

-- a leaf leaves the letters and the size that are not its own
others_stay : (tag : Tag) (x : Val) (v : LabelValue)
    → ((code tag == 9) ≡ false → (set_leaf tag x v).index ≡ v.index)
    × ((code tag == 10) ≡ false → (set_leaf tag x v).dpart ≡ v.dpart)
    × ((code tag == 11) ≡ false → (set_leaf tag x v).block ≡ v.block)
others_stay IndexLetter (letter b) v = (λ e. absurd (cc e), λ e. refl, λ e. refl)
others_stay IndexLetter x v = (λ e. refl, λ e. refl, λ e. refl)
others_stay DataLetter (letter b) v = (λ e. refl, λ e. absurd (cc e), λ e. refl)
others_stay DataLetter x v = (λ e. refl, λ e. refl, λ e. refl)
others_stay BlockSize (number n) v = (λ e. refl, λ e. refl, λ e. absurd (cc e))
others_stay BlockSize x v = (λ e. refl, λ e. refl, λ e. refl)
others_stay Creator (words t) v = (λ e. refl, λ e. refl, λ e. refl)
others_stay Creator x v = (λ e. refl, λ e. refl, λ e. refl)
others_stay FormatTime (time c) v = (λ e. refl, λ e. refl, λ e. refl)
others_stay FormatTime x v = (λ e. refl, λ e. refl, λ e. refl)
others_stay VolumeUuid (uuid n) v = (λ e. refl, λ e. refl, λ e. refl)
others_stay VolumeUuid x v = (λ e. refl, λ e. refl, λ e. refl)
others_stay Partition (letter b) v = (λ e. refl, λ e. refl, λ e. refl)
others_stay Partition x v = (λ e. refl, λ e. refl, λ e. refl)
others_stay Compression (truth b) v = (λ e. refl, λ e. refl, λ e. refl)
others_stay Compression x v = (λ e. refl, λ e. refl, λ e. refl)
others_stay tag x v = (λ e. refl, λ e. refl, λ e. refl)

-- ---- the size of blocks

-- its own leaf sets the size
size_sets : (tag : Tag) (n : ℕ) (v : LabelValue) → (code tag == 11) ≡ true → (set_leaf tag (number n) v).block ≡ n
size_sets BlockSize n v e = refl
size_sets tag n v e = absurd (cc e)

-- the element of a size is a leaf of a label
size_only : (q : Container) (tag : Tag) (g : Form) → rule q tag ≡ child.Leaf g → (code tag == 11) ≡ true
    → g ≡ form.BlockSize
size_only place.Label BlockSize g ruled is = cc ruled
size_only place.Own BlockSize g ruled is = absurd (cc ruled)
size_only q BlockSize g ruled is = absurd (cc ruled)
size_only q tag g ruled is = absurd (cc is)

size_no_parent : (tag : Tag) (q : Container) → rule place.Label tag ≡ child.Parent q → (code tag == 11) ≡ true → ⊥
size_no_parent BlockSize q ruled is = cc ruled
size_no_parent tag q ruled is = cc is

size_told : IsTold place.Label BlockSize form.BlockSize number (λ v. v.block)
size_told = record {
  stays = λ tag x v. (others_stay tag x v).2;
  sets = size_sets;
  only = size_only;
  made = is_number;
  no_parent = size_no_parent;
  front = Creator ∷ FormatTime ∷ VolumeUuid ∷ Location ∷ Partitions ∷ [];
  behind = Compression ∷ [];
  parts = refl;
}

-- the blocks of a label are of a size that a drive can take
pub block_in_range : (text : List ℕ) (v : LabelValue) → LabelText text v → (4096 ≤ v.block) × (v.block ≤ 1048576)
block_in_range text v label =
    let s = label.spelled in
    subst (Has size_told) (sym label.value) (inside size_told text [] s.inside label.items s.end blank s.children refl)

-- ---- letters

-- the partitions of a volume are a parent
no_leaf : (tag : Tag) (f : Form) → rule place.Label tag ≡ child.Leaf f → (code tag == 8) ≡ true → ⊥
no_leaf Partitions f ruled is = cc ruled
no_leaf tag f ruled is = cc is

-- and these have leaves alone
leaves_alone : (tag : Tag) (q : Container) → rule place.Letters tag ≡ child.Parent q → ⊥
leaves_alone IndexLetter q ruled = cc ruled
leaves_alone DataLetter q ruled = cc ruled
leaves_alone tag q ruled = cc ruled

-- a label, whose partitions are these, has what stands in them
module _ {element : Tag} {get : LabelValue → ℕ} (is_told : IsTold place.Letters element form.Letter letter get) where
  outside : (text : List ℕ) (seen : List Tag) (at : ℕ) (is : Items) (end : ℕ) (v : LabelValue)
      → AllSpelled text place.Label seen at is end → member Partitions seen ≡ false
      → Has is_told (value_from v (all_pieces is))
  outside text seen at no_items end v (ends, none) without =
      let there : member Partitions seen ≡ true =
      all_there (required place.Label) seen none (Creator ∷ FormatTime ∷ VolumeUuid ∷ Location ∷ [])
      (BlockSize ∷ Compression ∷ []) Partitions refl in
      let bad : true ≡ false = sym there ∙ without in absurd (cc bad)
  outside text seen at (item i is) end v (new, next, one, more) without =
      elim (code (item_tag i) == 8)
      as (λ b. (code (item_tag i) == 8) ≡ b → Has is_told (value_from v (all_pieces (item i is)))) [
        | true ↦ λ which. subst (Has is_told) (sym (joined v (pieces_of i) (all_pieces is)))
            (all_keep (Has is_told) text (keeps is_told text) place.Label (item_tag i ∷ seen) next is end
            (value_from v (pieces_of i)) more (this i one which))
        | false ↦ λ other. subst (Has is_told) (sym (joined v (pieces_of i) (all_pieces is)))
            (outside text (item_tag i ∷ seen) next is end (value_from v (pieces_of i)) more (another other))
      ] refl
    where
      this : (i : Item) → Spelled text place.Label (space_end text at) i next → (code (item_tag i) == 8) ≡ true
          → Has is_told (value_from v (pieces_of i))
      this (plain tag x) (f, start, starts, read) which = absurd (no_leaf tag f starts.child which)
      this (bare place.Letters) (start, starts, closed, next_is, none) which = absurd (cc none)
      this (bare q) spelled which = absurd (cc which)
      this (nested place.Letters is) (start, starts, unclosed, end, children, ended) which =
          subst (Has is_told) (sym (joined v (all_pieces is) (closes ∷ [])))
          (inside is_told text [] start.next is end v children refl)
      this (nested q is) spelled which = absurd (cc which)

      another : (code (item_tag i) == 8) ≡ false → member Partitions (item_tag i ∷ seen) ≡ false
      another other = grind (arith, nat_tests, without, other)

  has : (text : List ℕ) (v : LabelValue) → LabelText text v → Has is_told v
  has text v label =
      let s = label.spelled in
      subst (Has is_told) (sym label.value) (outside text [] s.inside label.items s.end blank s.children refl)

-- the letter of the index partition
index_sets : (tag : Tag) (n : ℕ) (v : LabelValue) → (code tag == 9) ≡ true → (set_leaf tag (letter n) v).index ≡ n
index_sets IndexLetter n v e = refl
index_sets tag n v e = absurd (cc e)

index_only : (q : Container) (tag : Tag) (g : Form) → rule q tag ≡ child.Leaf g → (code tag == 9) ≡ true → g ≡ form.Letter
index_only place.Letters IndexLetter g ruled is = cc ruled
index_only place.Own IndexLetter g ruled is = absurd (cc ruled)
index_only q IndexLetter g ruled is = absurd (cc ruled)
index_only q tag g ruled is = absurd (cc is)

index_told : IsTold place.Letters IndexLetter form.Letter letter (λ v. v.index)
index_told = record {
  stays = λ tag x v. (others_stay tag x v).0;
  sets = index_sets;
  only = index_only;
  made = is_letter;
  no_parent = λ tag q ruled is. leaves_alone tag q ruled;
  front = [];
  behind = DataLetter ∷ [];
  parts = refl;
}

-- and the letter of the data partition
data_sets : (tag : Tag) (n : ℕ) (v : LabelValue) → (code tag == 10) ≡ true → (set_leaf tag (letter n) v).dpart ≡ n
data_sets DataLetter n v e = refl
data_sets tag n v e = absurd (cc e)

data_only : (q : Container) (tag : Tag) (g : Form) → rule q tag ≡ child.Leaf g → (code tag == 10) ≡ true → g ≡ form.Letter
data_only place.Letters DataLetter g ruled is = cc ruled
data_only place.Own DataLetter g ruled is = absurd (cc ruled)
data_only q DataLetter g ruled is = absurd (cc ruled)
data_only q tag g ruled is = absurd (cc is)

data_told : IsTold place.Letters DataLetter form.Letter letter (λ v. v.dpart)
data_told = record {
  stays = λ tag x v. (others_stay tag x v).1;
  sets = data_sets;
  only = data_only;
  made = is_letter;
  no_parent = λ tag q ruled is. leaves_alone tag q ruled;
  front = IndexLetter ∷ [];
  behind = [];
  parts = refl;
}

-- the letters of a label's partitions are letters
pub letters_in_range : (text : List ℕ) (v : LabelValue) → LabelText text v → IsLetter v.index × IsLetter v.dpart
letters_in_range text v label = (has index_told text v label, has data_told text v label)
