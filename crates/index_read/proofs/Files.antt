-- What the children of a file tell: its extents, its length or the text of a link, and its facts.
use Rattle.std.proofs.Common.{◌≡◌, ◌⊎◌, ℕ, ◌+◌, List, [], ◌∷◌, ◌++◌, length, Bool, true, false, ◌==◌, ◌||◌, Option, Some, None, if◌then◌else◌, inl, inr, refl, sym, ap, ◌∙◌}
use Rattle.std.proofs.lemmas.List.{append-nil}
use Rattle.ltfs_documents.specs.declared.doc_fields.tags.Tag.{Tag}
use Rattle.ltfs_documents.specs.declared.doc_fields.tags.Tag.TheVariants.{Length, Symlink, ExtentInfo, ExtendedAttributes}
use Rattle.ltfs_documents.specs.DocElements.Children.{code, member}
use Rattle.index_model.specs.declared.nodes.NodeKind.{NodeKind}
use Rattle.index_model.specs.declared.nodes.NodeKind.TheVariants as kinds
use Rattle.index_model.specs.declared.nodes.RawExtent.{RawExtent}
use Rattle.ltfs_documents.specs.declared.doc_elements.schema.Container.TheVariants as place
use Rattle.ltfs_documents.specs.declared.doc_elements.schema.Form.TheVariants as form
use Rattle.index_model.specs.Values.{NodeFacts, NodeValue, Nodes, file, link, value_in, listed}
use Rattle.ltfs_documents.specs.DocElements.Pieces.{Val, words}
use Rattle.ltfs_documents.specs.DocElements.Elements.{Item, plain, bare, nested, Items, no_items, item}
use Rattle.index_model.specs.Grammar.{or_else, own, told, inside, TellsFile, TellsLink}
use Rattle.index_read.specs.Told.{State, number_or, link_or, facts_with, kind_with, node_with, changed, item_told, items_told}
use Rattle.index_read.proofs.Fits.{Fits, must_tell, own_form, told_form}
use Rattle.index_read.proofs.Facts.{not_now, member_later, not_again, no_inside, inside_fits, facts_from, facts_in, file_forms, file_facts, facts_step, facts_parent, facts_attributes, only_facts}
use Rattle.index_read.proofs.OfForms.{or_none, number_step, number_known}
use Rattle.index_read.proofs.Extents.{changed_at, extents_in, extents_of, extents_told, has_extents, nodes_with, only_has, with_none}
use Rattle.index_read.proofs.Xattrs.{attributes_told, with_xattrs, xattrs_in}

-- ---- a file

-- a leaf changes the node that it stands in
pub leaf_changes : (i : Item) (nodes front : List NodeValue) (parent : ℕ) (f : NodeFacts) (k : NodeKind) (behind : List NodeValue) → nodes ≡ nodes_with front parent f behind k
    → changed (length front) (node_with i) nodes ≡ nodes_with front parent (facts_with i f) behind (kind_with i k)
leaf_changes i nodes front parent f k behind at = ap (changed (length front) (node_with i)) at ∙ changed_at front (value_in parent f k) behind (node_with i)

own_member : (t u : Tag) (v w : Val) (seen : List Tag) → own t (plain u v) ≡ Some w → member t (u ∷ seen) ≡ true
own_member t u v w seen e = by (code t == code u) e
  where
    by : (b : Bool) → (if b then Some v else None) ≡ Some w → (b || member t seen) ≡ true
    by true h = refl
    by false h = absurd cc

-- the kind that children of a file tell, over what was told
abbrev pub file_kind : Items → ℕ → List RawExtent → NodeKind
file_kind is bytes es = link_or (kinds.File (number_or bytes (told Length is)) (es ++ extents_of (inside place.ExtentInfo is))) (told Symlink is)

-- the rest of a link
link_told : (seen : List Tag) (is : Items) (s : State) (front : List NodeValue) (parent : ℕ) (f : NodeFacts) (text : List ℕ) (behind : List NodeValue) → Fits place.File seen is → member Symlink seen ≡ true → s.nodes ≡ nodes_with front parent f behind (kinds.Link text)
    → (items_told place.File (length front) is s).nodes ≡ nodes_with front parent (facts_from is f) behind (kinds.Link text)
link_told seen no_items s front parent f text behind fits there at = at
link_told seen (item (plain t v) is) s front parent f text behind fits there at =
    let i = plain t v in
    let kind : kind_with i (kinds.Link text) ≡ kinds.Link text = ap (link_or (kinds.Link text)) (not_now place.File seen i Symlink fits.1 there refl) in
    let now = leaf_changes i s.nodes front parent f (kinds.Link text) behind at ∙ ap (nodes_with front parent (facts_with i f) behind) kind in
    link_told (t ∷ seen) is (item_told place.File (length front) i s) front parent (facts_with i f) text behind fits.2 (member_later Symlink t seen there) now
    ∙ ap (λ (g : NodeFacts). nodes_with front parent g behind (kinds.Link text)) (sym (facts_step t v is f (file_forms (t ∷ seen) is fits.2)))
link_told seen (item (bare place.ExtentInfo) is) s front parent f text behind fits there at =
    link_told (ExtentInfo ∷ seen) is s front parent f text behind fits.2 (member_later Symlink ExtentInfo seen there) at
    ∙ ap (λ (g : NodeFacts). nodes_with front parent g behind (kinds.Link text)) (sym (facts_parent place.ExtentInfo no_items is f refl))
link_told seen (item (bare place.Attributes) is) s front parent f text behind fits there at =
    link_told (ExtendedAttributes ∷ seen) is s front parent (with_xattrs [] f) text behind fits.2 (member_later Symlink ExtendedAttributes seen there) (attributes_told [] no_items s front parent f (kinds.Link text) behind refl at)
    ∙ ap (λ (g : NodeFacts). nodes_with front parent g behind (kinds.Link text)) (sym (facts_attributes no_items is f (no_inside place.File (ExtendedAttributes ∷ seen) is place.Attributes fits.2 refl refl)))
link_told seen (item (bare _) is) s front parent f text behind fits there at = absurd (let bad = fits.0.0 in cc)
link_told seen (item (nested place.ExtentInfo x) is) s front parent f text behind fits there at =
    link_told (ExtentInfo ∷ seen) is (items_told place.ExtentInfo (length front) x s) front parent f text behind fits.2 (member_later Symlink ExtentInfo seen there) (extents_told [] x s front parent f (kinds.Link text) behind fits.0.1 at)
    ∙ ap (λ (g : NodeFacts). nodes_with front parent g behind (kinds.Link text)) (sym (facts_parent place.ExtentInfo x is f refl))
link_told seen (item (nested place.Attributes x) is) s front parent f text behind fits there at =
    link_told (ExtendedAttributes ∷ seen) is (items_told place.Attributes (length front) x s) front parent (with_xattrs (xattrs_in x) f) text behind fits.2 (member_later Symlink ExtendedAttributes seen there) (attributes_told [] x s front parent f (kinds.Link text) behind fits.0.1 at)
    ∙ ap (λ (g : NodeFacts). nodes_with front parent g behind (kinds.Link text)) (sym (facts_attributes x is f (no_inside place.File (ExtendedAttributes ∷ seen) is place.Attributes fits.2 refl refl)))
link_told seen (item (nested _ x) is) s front parent f text behind fits there at = absurd (let bad = fits.0.0 in cc)

-- a leaf of a file, with what follows it
file_leaf : (seen : List Tag) (t : Tag) (v : Val) (is : Items) (s : State) (front : List NodeValue) (parent : ℕ) (f : NodeFacts) (bytes : ℕ) (es : List RawExtent) (behind : List NodeValue) → Fits place.File seen (item (plain t v) is) → s.nodes ≡ nodes_with front parent f behind (kinds.File bytes es)
    → ((u : State) → u.nodes ≡ nodes_with front parent (facts_with (plain t v) f) behind (kinds.File (number_or bytes (own Length (plain t v))) es) → (items_told place.File (length front) is u).nodes ≡ nodes_with front parent (facts_from is (facts_with (plain t v) f)) behind (file_kind is (number_or bytes (own Length (plain t v))) es))
    → (items_told place.File (length front) (item (plain t v) is) s).nodes ≡ nodes_with front parent (facts_from (item (plain t v) is) f) behind (file_kind (item (plain t v) is) bytes es)
file_leaf seen t v is s front parent f bytes es behind fits at later =
    by (own Symlink i) refl (leaf_changes i s.nodes front parent f (kinds.File bytes es) behind at)
    ∙ ap (λ (g : NodeFacts). nodes_with front parent g behind (file_kind (item i is) bytes es)) (sym (facts_step t v is f (file_forms (t ∷ seen) is fits.2)))
  where
    i : Item
    i = plain t v

    u : State
    u = item_told place.File (length front) i s

    k : NodeKind
    k = kinds.File (number_or bytes (own Length i)) es

    by : (o : Option Val) → own Symlink i ≡ o → u.nodes ≡ nodes_with front parent (facts_with i f) behind (link_or k o)
        → (items_told place.File (length front) is u).nodes ≡ nodes_with front parent (facts_from is (facts_with i f)) behind (link_or (kinds.File (number_or bytes (or_else (told Length is) (own Length i))) (es ++ extents_of (or_else (inside place.ExtentInfo is) None))) (or_else (told Symlink is) o))
    by None h now =
        later u now
        ∙ ap (nodes_with front parent (facts_from is (facts_with i f)) behind)
        (rw (number_step bytes (own Length i) (told Length is) (λ w e. told_form place.File (t ∷ seen) is Length form.Number w fits.2 refl e), or_none (inside place.ExtentInfo is), or_none (told Symlink is)) refl)
    by (Some w) h now =
        let text = own_form place.File i Symlink form.AnyName w fits.0 refl h in
        let link_now : link_or k (Some w) ≡ kinds.Link text.0 = ap (λ (x : Val). link_or k (Some x)) text.1 in
        let there = own_member Symlink t v w seen h in
        let none = not_again place.File (t ∷ seen) is Symlink fits.2 there refl in
        let last = kinds.File (number_or bytes (or_else (told Length is) (own Length i))) (es ++ extents_of (or_else (inside place.ExtentInfo is) None)) in
        let all : kinds.Link text.0 ≡ link_or last (or_else (told Symlink is) (Some w)) = ap (λ (x : Val). link_or last (Some x)) (sym text.1) ∙ ap (λ (o : Option Val). link_or last (or_else o (Some w))) (sym none) in
        link_told (t ∷ seen) is u front parent (facts_with i f) text.0 behind fits.2 there (now ∙ ap (nodes_with front parent (facts_with i f) behind) link_now)
        ∙ ap (nodes_with front parent (facts_from is (facts_with i f)) behind) all

-- the extents of a file, with what follows them
file_extents : (x is : Items) (front : List NodeValue) (parent : ℕ) (f : NodeFacts) (bytes : ℕ) (es : List RawExtent) (behind : List NodeValue) → inside place.ExtentInfo is ≡ None
    → nodes_with front parent (facts_from is f) behind (file_kind is bytes (es ++ extents_in x)) ≡ nodes_with front parent (facts_from (item (nested place.ExtentInfo x) is) f) behind (file_kind (item (nested place.ExtentInfo x) is) bytes es)
file_extents x is front parent f bytes es behind none =
    ap (λ (g : NodeFacts). nodes_with front parent g behind (file_kind is bytes (es ++ extents_in x))) (sym (facts_parent place.ExtentInfo x is f refl))
    ∙ ap (nodes_with front parent (facts_from (item (nested place.ExtentInfo x) is) f) behind) (rw (or_none (told Length is), or_none (told Symlink is), none, append-nil (es ++ extents_in x)) refl)

-- its attributes, with what follows them
file_attributes : (x is : Items) (front : List NodeValue) (parent : ℕ) (f : NodeFacts) (bytes : ℕ) (es : List RawExtent) (behind : List NodeValue) → inside place.Attributes is ≡ None
    → nodes_with front parent (facts_from is (with_xattrs (xattrs_in x) f)) behind (file_kind is bytes es) ≡ nodes_with front parent (facts_from (item (nested place.Attributes x) is) f) behind (file_kind (item (nested place.Attributes x) is) bytes es)
file_attributes x is front parent f bytes es behind none =
    ap (λ (g : NodeFacts). nodes_with front parent g behind (file_kind is bytes es)) (sym (facts_attributes x is f none))
    ∙ ap (nodes_with front parent (facts_from (item (nested place.Attributes x) is) f) behind) (rw (or_none (told Length is), or_none (told Symlink is), or_none (inside place.ExtentInfo is)) refl)

-- the elements of a file change the last node into that file
pub file_told : (seen : List Tag) (is : Items) (s : State) (front : List NodeValue) (parent : ℕ) (f : NodeFacts) (bytes : ℕ) (es : List RawExtent) (behind : List NodeValue) → Fits place.File seen is → s.nodes ≡ nodes_with front parent f behind (kinds.File bytes es)
    → (items_told place.File (length front) is s).nodes ≡ nodes_with front parent (facts_from is f) behind (file_kind is bytes es)
file_told seen no_items s front parent f bytes es behind fits at = at ∙ ap (λ (xs : List RawExtent). nodes_with front parent f behind (kinds.File bytes xs)) (sym (append-nil es))
file_told seen (item (plain t v) is) s front parent f bytes es behind fits at =
    file_leaf seen t v is s front parent f bytes es behind fits at (λ u now. file_told (t ∷ seen) is u front parent (facts_with (plain t v) f) (number_or bytes (own Length (plain t v))) es behind fits.2 now)
file_told seen (item (bare place.ExtentInfo) is) s front parent f bytes es behind fits at =
    file_told (ExtentInfo ∷ seen) is s front parent f bytes (es ++ []) behind fits.2 (at ∙ ap (nodes_with front parent f behind) (with_none (kinds.File bytes es)))
    ∙ file_extents no_items is front parent f bytes es behind (no_inside place.File (ExtentInfo ∷ seen) is place.ExtentInfo fits.2 refl refl)
file_told seen (item (bare place.Attributes) is) s front parent f bytes es behind fits at =
    file_told (ExtendedAttributes ∷ seen) is s front parent (with_xattrs [] f) bytes es behind fits.2 (attributes_told [] no_items s front parent f (kinds.File bytes es) behind refl at)
    ∙ file_attributes no_items is front parent f bytes es behind (no_inside place.File (ExtendedAttributes ∷ seen) is place.Attributes fits.2 refl refl)
file_told seen (item (bare _) is) s front parent f bytes es behind fits at = absurd (let bad = fits.0.0 in cc)
file_told seen (item (nested place.ExtentInfo x) is) s front parent f bytes es behind fits at =
    file_told (ExtentInfo ∷ seen) is (items_told place.ExtentInfo (length front) x s) front parent f bytes (es ++ extents_in x) behind fits.2 (extents_told [] x s front parent f (kinds.File bytes es) behind fits.0.1 at)
    ∙ file_extents x is front parent f bytes es behind (no_inside place.File (ExtentInfo ∷ seen) is place.ExtentInfo fits.2 refl refl)
file_told seen (item (nested place.Attributes x) is) s front parent f bytes es behind fits at =
    file_told (ExtendedAttributes ∷ seen) is (items_told place.Attributes (length front) x s) front parent (with_xattrs (xattrs_in x) f) bytes es behind fits.2 (attributes_told [] x s front parent f (kinds.File bytes es) behind fits.0.1 at)
    ∙ file_attributes x is front parent f bytes es behind (no_inside place.File (ExtendedAttributes ∷ seen) is place.Attributes fits.2 refl refl)
file_told seen (item (nested _ x) is) s front parent f bytes es behind fits at = absurd (let bad = fits.0.0 in cc)

-- ---- what it tells

-- the file or link with these children, by the text of a link that they tell, before other nodes
abbrev pub file_in : Option Val → Items → Nodes → Nodes
file_in (Some (words text)) is behind = link (facts_in is) text behind
file_in _ is behind = file (facts_in is) (number_or 0 (told Length is)) (extents_of (inside place.ExtentInfo is)) behind

-- the list of nodes begins with the file or link that elements tell
pub file_listed : (o : Option Val) (is : Items) (parent at : ℕ) (behind : Nodes)
    → listed parent at (file_in o is behind) ≡ value_in parent (facts_in is) (link_or (kinds.File (number_or 0 (told Length is)) (extents_of (inside place.ExtentInfo is))) o) ∷ listed parent (at + 1) behind
file_listed None is parent at behind = refl
file_listed (Some (words text)) is parent at behind = refl
file_listed (Some _) is parent at behind = refl

-- the elements of a file tell a file or a link
pub file_tells : (is : Items) (behind : Nodes) → Fits place.File [] is → TellsFile is (file_in (told Symlink is) is behind) behind ⊎ TellsLink is (file_in (told Symlink is) is behind) behind
file_tells is behind fits = by (told Symlink is) refl
  where
    by : (o : Option Val) → told Symlink is ≡ o → TellsFile is (file_in o is behind) behind ⊎ TellsLink is (file_in o is behind) behind
    by None h = inl (record {
      facts = facts_in is;
      bytes = number_or 0 (told Length is);
      extents = extents_of (inside place.ExtentInfo is);
      node = refl;
      tells = file_facts is fits;
      no_text = h;
      length = number_known 0 (told Length is) (must_tell place.File is Length form.Number fits refl refl);
      has = has_extents (inside place.ExtentInfo is) (λ x e. inside_fits place.File [] is place.ExtentInfo x fits e);
    })
    by (Some w) h =
        let text = told_form place.File [] is Symlink form.AnyName w fits refl h in
        inr (record { facts = facts_in is; text = text.0; node = ap (λ (v : Val). file_in (Some v) is behind) text.1; tells = file_facts is fits; told_text = h ∙ ap (λ (v : Val). Some v) text.1 })

-- elements of a file tell one node only
pub only_file : (is : Items) (nodes behind : Nodes) → TellsFile is nodes behind ⊎ TellsLink is nodes behind → nodes ≡ file_in (told Symlink is) is behind
only_file is nodes behind (inl t) = t.node ∙ rw (t.no_text, only_facts is t.facts t.tells, only_has (inside place.ExtentInfo is) t.extents t.has, t.length) refl
only_file is nodes behind (inr t) = t.node ∙ rw (t.told_text, only_facts is t.facts t.tells) refl
