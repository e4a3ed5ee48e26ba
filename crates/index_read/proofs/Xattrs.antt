-- What the children of an extended attribute tell, and the attributes of a node.
use Rattle.std.proofs.Common.{◌≡◌, ℕ, List, [], ◌∷◌, ◌++◌, length, Option, Some, None, refl, sym, ap, ◌∙◌, append_assoc}
use Rattle.std.proofs.lemmas.List.{append-nil}
use Rattle.tape_types.specs.declared.node_keys.xattrs.Xattr.{Xattr}
use Rattle.ltfs_documents.specs.declared.doc_fields.tags.Tag.{Tag}
use Rattle.ltfs_documents.specs.declared.doc_fields.tags.Tag.TheVariants.{LtfsLabel, Location, Key, Value}
use Rattle.ltfs_documents.specs.declared.doc_fields.tags.Tag.TheVariants as tags
use Rattle.index_model.specs.declared.nodes.NodeKind.{NodeKind}
use Rattle.ltfs_documents.specs.declared.doc_elements.schema.Container.{Container}
use Rattle.ltfs_documents.specs.declared.doc_elements.schema.Container.TheVariants as place
use Rattle.ltfs_documents.specs.declared.doc_elements.schema.Form.{Form}
use Rattle.ltfs_documents.specs.declared.doc_elements.schema.Form.TheVariants as form
use Rattle.ltfs_documents.specs.declared.doc_elements.schema.Child.TheVariants as child
use Rattle.ltfs_documents.specs.DocElements.Schema.{tag_of, attributes_rule, xattr_rule}
use Rattle.index_model.specs.Values.{NodeFacts, NodeValue, value_in}
use Rattle.ltfs_documents.specs.DocElements.Elements.{Item, plain, bare, nested, Items, no_items, item}
use Rattle.index_model.specs.Grammar.{own, told, TellsXattr, TellsXattrs, HasXattrs}
use Rattle.index_read.specs.Told.{State, words_or, bytes_or, xattr_with, blank_xattr, changed, begun, ended, with_xattr, item_told, items_told}
use Rattle.index_read.proofs.Fits.{Fits, must_tell, told_form}
use Rattle.index_read.proofs.OfForms.{words_step, bytes_step, words_known, bytes_known}
use Rattle.index_read.proofs.Extents.{changed_at, nodes_with}

-- ---- one attribute

abbrev pub xattr_from : Items → Xattr → Xattr
xattr_from is x = record { key = words_or x.key (told Key is); value = bytes_or x.value (told Value is) }

abbrev pub xattr_in : Items → Xattr
xattr_in is = xattr_from is blank_xattr

xattr_step : (seen : List Tag) (i : Item) (is : Items) (x : Xattr) → Fits place.Xattr seen is → xattr_from (item i is) x ≡ xattr_from is (xattr_with i x)
xattr_step seen i is x fits =
    rw (
      words_step x.key (own Key i) (told Key is) (λ v h. told_form place.Xattr seen is Key form.Key v fits refl h),
      bytes_step x.value (own Value i) (told Value is) (λ v h. told_form place.Xattr seen is Value form.Value v fits refl h),
    ) refl

no_parent : (t : Tag) (q : Container) → xattr_rule t ≡ child.Parent q → ⊥
no_parent Location q e = cc
no_parent _ q e = cc

xattr_told : (node : ℕ) (seen : List Tag) (is : Items) (s : State) → Fits place.Xattr seen is → items_told place.Xattr node is s ≡ record s { xattr = xattr_from is s.xattr }
xattr_told node seen no_items s fits = refl
xattr_told node seen (item (plain t v) is) s fits =
    xattr_told node (t ∷ seen) is (record s { xattr = xattr_with (plain t v) s.xattr }) fits.2
    ∙ ap (λ (x : Xattr). record s { xattr = x }) (sym (xattr_step (t ∷ seen) (plain t v) is s.xattr fits.2))
xattr_told node seen (item (bare q) is) s fits = absurd (no_parent (tag_of q) q fits.0.0)
xattr_told node seen (item (nested q x) is) s fits = absurd (no_parent (tag_of q) q fits.0.0)

xattr_tells : (is : Items) → Fits place.Xattr [] is → TellsXattr is (xattr_in is)
xattr_tells is fits = record {
  key = words_known [] (told Key is) (must_tell place.Xattr is Key form.Key fits refl refl);
  value = bytes_known [] (told Value is) (must_tell place.Xattr is Value form.Value fits refl refl);
}

only_xattr : (is : Items) (x : Xattr) → TellsXattr is x → x ≡ xattr_in is
only_xattr is x t = rw (t.key, t.value) refl

-- ---- those of a node

-- the extended attributes that elements are
abbrev pub xattrs_in : Items → List Xattr
xattrs_in no_items = []
xattrs_in (item (nested place.Xattr is) more) = xattr_in is ∷ xattrs_in more
xattrs_in (item _ more) = xattrs_in more

-- the facts with attributes more
abbrev pub with_xattrs : List Xattr → NodeFacts → NodeFacts
with_xattrs xs f = record f { xattrs = f.xattrs ++ xs }

-- the elements of a node's attributes put them behind those it has
pub attributes_told : (seen : List Tag) (is : Items) (s : State) (front : List NodeValue) (parent : ℕ) (f : NodeFacts) (k : NodeKind) (behind : List NodeValue) → Fits place.Attributes seen is → s.nodes ≡ nodes_with front parent f behind k
    → (items_told place.Attributes (length front) is s).nodes ≡ nodes_with front parent (with_xattrs (xattrs_in is) f) behind k
attributes_told seen no_items s front parent f k behind fits at = at ∙ ap (λ (xs : List Xattr). nodes_with front parent (record f { xattrs = xs }) behind k) (sym (append-nil f.xattrs))
attributes_told seen (item (plain t v) is) s front parent f k behind fits at = absurd (leafless t fits.0.0 fits.0.1)
  where
    leafless : (t : Tag) (g : Form) → attributes_rule t ≡ child.Leaf g → ⊥
    leafless LtfsLabel g e = cc
    leafless _ g e = cc
attributes_told seen (item (bare place.Xattr) is) s front parent f k behind fits at = absurd (let bad : Some Key ≡ None = fits.0.1 in cc)
attributes_told seen (item (bare _) is) s front parent f k behind fits at = absurd (let bad = fits.0.0 in cc)
attributes_told seen (item (nested place.Xattr x) is) s front parent f k behind fits at =
    let node = length front in
    let one = xattr_in x in
    let told_x = xattr_told node [] x (begun place.Xattr node s) fits.0.1 in
    let now : (item_told place.Attributes node (nested place.Xattr x) s).nodes ≡ nodes_with front parent (with_xattrs (one ∷ []) f) behind k =
    ap (λ (u : State). (ended place.Xattr node u).nodes) told_x
    ∙ ap (changed node (with_xattr one)) at
    ∙ changed_at front (value_in parent f k) behind (with_xattr one) in
    attributes_told (tags.Xattr ∷ seen) is (item_told place.Attributes node (nested place.Xattr x) s) front parent (with_xattrs (one ∷ []) f) k behind fits.2 now
    ∙ ap (λ (xs : List Xattr). nodes_with front parent (record f { xattrs = xs }) behind k) (append_assoc f.xattrs (one ∷ []) (xattrs_in is))
attributes_told seen (item (nested _ x) is) s front parent f k behind fits at = absurd (let bad = fits.0.0 in cc)

xattrs_tell : (seen : List Tag) (is : Items) → Fits place.Attributes seen is → TellsXattrs is (xattrs_in is)
xattrs_tell seen no_items fits = refl
xattrs_tell seen (item (plain t v) is) fits = xattrs_tell (t ∷ seen) is fits.2
xattrs_tell seen (item (bare q) is) fits = xattrs_tell (tag_of q ∷ seen) is fits.2
xattrs_tell seen (item (nested place.Xattr x) is) fits = (xattr_in x, xattrs_in is, refl, xattr_tells x fits.0.1, xattrs_tell (tags.Xattr ∷ seen) is fits.2)
xattrs_tell seen (item (nested q x) is) fits = xattrs_tell (tag_of q ∷ seen) is fits.2

only_xattrs : (is : Items) (xs : List Xattr) → TellsXattrs is xs → xs ≡ xattrs_in is
only_xattrs no_items xs t = t
only_xattrs (item (plain u v) is) xs t = only_xattrs is xs t
only_xattrs (item (bare q) is) xs t = only_xattrs is xs t
only_xattrs (item (nested place.Xattr x) is) xs t = t.2 ∙ rw (only_xattr x t.0 t.3, only_xattrs is t.1 t.4) refl
only_xattrs (item (nested _ x) is) xs t = only_xattrs is xs t

-- what was told, and the attributes that are told where there are any
abbrev pub xattrs_or : List Xattr → Option Items → List Xattr
xattrs_or old None = old
xattrs_or old (Some is) = old ++ xattrs_in is

-- the attributes of elements are those that a node with these elements has
pub has_xattrs : (o : Option Items) → ((is : Items) → o ≡ Some is → Fits place.Attributes [] is) → HasXattrs o (xattrs_or [] o)
has_xattrs None fits = refl
has_xattrs (Some is) fits = xattrs_tell [] is (fits is refl)

-- a node's elements tell one list of attributes
pub no_other_xattrs : (o : Option Items) (xs : List Xattr) → HasXattrs o xs → xs ≡ xattrs_or [] o
no_other_xattrs None xs h = h
no_other_xattrs (Some is) xs h = only_xattrs is xs h
