-- What stays true of a label's value whichever elements are told.
use Rattle.std.proofs.Common.{◌≡◌, ℕ, Bool, true, false, List, [], ◌∷◌, ◌++◌, Some, None, Ok, refl, sym, subst}
use Rattle.ltfs_documents.specs.declared.doc_fields.tags.Tag.{Tag}
use Rattle.ltfs_documents.specs.declared.doc_fields.starts.Start.{Start}
use Rattle.ltfs_documents.specs.DocFields.Space.{space_end}
use Rattle.ltfs_documents.specs.DocElements.Children.{first_missing, member}
use Rattle.ltfs_documents.specs.declared.doc_elements.schema.Container.{Container}
use Rattle.ltfs_documents.specs.declared.doc_elements.schema.Form.{Form}
use Rattle.ltfs_documents.specs.declared.doc_elements.schema.Child.TheVariants as child
use Rattle.ltfs_documents.specs.DocElements.Schema.{rule}
use Rattle.ltfs_documents.specs.DocElements.Pieces.{Piece, Val, closes, leaf_at}
use Rattle.ltfs_documents.specs.DocElements.Elements.{AllSpelled, Item, Items, Spelled, all_pieces, bare, item, item_tag, nested, no_items, pieces_of, plain}
use Rattle.ltfs_label.specs.Values.{LabelValue, set_leaf}
use Rattle.ltfs_label.specs.Reading.{set, value_from}

-- a label's value by pieces is that by the first, and then by the others
pub joined : (v : LabelValue) (ps qs : List Piece) → value_from v (ps ++ qs) ≡ value_from (value_from v ps) qs
joined v [] qs = refl
joined v (p ∷ ps) qs = joined (set p v) ps qs

-- each leaf keeps it
abbrev pub LeavesKeep : (LabelValue → Type 0) → List ℕ → Type 0
LeavesKeep P text = (p : Container) (tag : Tag) (f : Form) (from : ℕ) (start : Start) (x : Val) (next : ℕ) (v : LabelValue) → rule p tag ≡ child.Leaf f
    → leaf_at f tag from start text ≡ Ok (x, next) → P v → P (set_leaf tag x v)

module _ (P : LabelValue → Type 0) (text : List ℕ) (leaf_keeps : LeavesKeep P text) where
  mutual
    one_keeps : (p : Container) (at : ℕ) (i : Item) (next : ℕ) (v : LabelValue) → Spelled text p at i next → P v → P (value_from v (pieces_of i))
    one_keeps p at (plain tag x) next v (f, start, starts, read) good = leaf_keeps p tag f at start x next v starts.child read good
    one_keeps p at (bare q) next v spelled good = good
    one_keeps p at (nested q is) next v (start, starts, unclosed, end, children, ended) good =
        subst P (sym (joined v (all_pieces is) (closes ∷ []))) (all_keep q [] start.next is end v children good)

    -- what each leaf keeps true of a label's value, all elements keep true
    pub all_keep : (p : Container) (seen : List Tag) (at : ℕ) (is : Items) (end : ℕ) (v : LabelValue) → AllSpelled text p seen at is end → P v → P (value_from v (all_pieces is))
    all_keep p seen at no_items end v spelled good = good
    all_keep p seen at (item i is) end v (new, next, one, more) good =
        subst P (sym (joined v (pieces_of i) (all_pieces is)))
        (all_keep p (item_tag i ∷ seen) next is end (value_from v (pieces_of i)) more (one_keeps p (space_end text at) i next v one good))

-- nothing that is required is missing
pub all_there : (wanted seen : List Tag) → first_missing wanted seen ≡ None → (front behind : List Tag) (t : Tag) → wanted ≡ front ++ t ∷ behind → member t seen ≡ true
all_there wanted seen none front behind t parts = go front (subst (λ ts. first_missing ts seen ≡ None) parts none)
  where
    there : (u : Tag) (ts : List Tag) → first_missing (u ∷ ts) seen ≡ None → (member u seen ≡ true) × (first_missing ts seen ≡ None)
    there u ts none = guarded (member u seen) refl
      where
        guarded : (b : Bool) → member u seen ≡ b → (member u seen ≡ true) × (first_missing ts seen ≡ None)
        guarded true is = (is, rw is at none)
        guarded false is = (let bad : Some u ≡ None = rw is at none in absurd (cc bad))

    go : (front : List Tag) → first_missing (front ++ t ∷ behind) seen ≡ None → member t seen ≡ true
    go [] none = (there t behind none).0
    go (u ∷ front) none = go front (there u (front ++ t ∷ behind) none).1
