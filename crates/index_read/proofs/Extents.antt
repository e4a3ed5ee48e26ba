-- What an extent's children tell, and the extents of a file.
use Rattle.std.proofs.Common.{◌≡◌, ℕ, List, [], ◌∷◌, ◌++◌, length, Option, Some, None, refl, sym, ap, ◌∙◌, append_assoc}
use Rattle.std.proofs.lemmas.List.{append-nil}
use Rattle.ltfs_documents.specs.declared.doc_fields.tags.Tag.{Tag}
use Rattle.ltfs_documents.specs.declared.doc_fields.tags.Tag.TheVariants.{LtfsLabel, Location, Partition, StartBlock, FileOffset, ByteOffset, ByteCount, Extent}
use Rattle.index_model.specs.declared.nodes.NodeKind.{NodeKind}
use Rattle.index_model.specs.declared.nodes.NodeKind.TheVariants as kinds
use Rattle.index_model.specs.declared.nodes.RawExtent.{RawExtent}
use Rattle.ltfs_documents.specs.declared.doc_elements.schema.Container.{Container}
use Rattle.ltfs_documents.specs.declared.doc_elements.schema.Container.TheVariants as place
use Rattle.ltfs_documents.specs.declared.doc_elements.schema.Form.{Form}
use Rattle.ltfs_documents.specs.declared.doc_elements.schema.Form.TheVariants as form
use Rattle.ltfs_documents.specs.declared.doc_elements.schema.Child.TheVariants as child
use Rattle.ltfs_documents.specs.DocElements.Schema.{tag_of, extent_rule, extents_rule}
use Rattle.index_model.specs.Values.{NodeFacts, NodeValue, value_in}
use Rattle.ltfs_documents.specs.DocElements.Elements.{Item, plain, bare, nested, Items, no_items, item}
use Rattle.index_model.specs.Grammar.{own, told, TellsExtent, TellsExtents, HasExtents}
use Rattle.index_read.specs.Told.{State, number_or, letter_or, extent_with, blank_extent, changed, begun, ended, one_more, with_extent, item_told, items_told}
use Rattle.index_read.proofs.Fits.{Fits, must_tell, told_form}
use Rattle.index_read.proofs.OfForms.{number_step, letter_step, number_known, letter_known}

-- a change at a place between others changes what stands there alone
pub changed_at : {X : Type 0} (front : List X) (x : X) (behind : List X) (f : X → X) → changed (length front) f (front ++ (x ∷ behind)) ≡ front ++ (f x ∷ behind)
changed_at [] x behind f = refl
changed_at (y ∷ front) x behind f = ap (λ zs. y ∷ zs) (changed_at front x behind f)

-- ---- an extent

abbrev pub extent_from : Items → RawExtent → RawExtent
extent_from is e = record {
  offset = number_or e.offset (told FileOffset is);
  letter = letter_or e.letter (told Partition is);
  block = number_or e.block (told StartBlock is);
  byte = number_or e.byte (told ByteOffset is);
  count = number_or e.count (told ByteCount is);
}

abbrev pub extent_in : Items → RawExtent
extent_in is = extent_from is blank_extent

extent_step : (seen : List Tag) (i : Item) (is : Items) (e : RawExtent) → Fits place.Extent seen is → extent_from (item i is) e ≡ extent_from is (extent_with i e)
extent_step seen i is e fits =
    rw (
      number_step e.offset (own FileOffset i) (told FileOffset is) (λ v h. told_form place.Extent seen is FileOffset form.Bounded v fits refl h),
      letter_step e.letter (own Partition i) (told Partition is) (λ v h. told_form place.Extent seen is Partition form.Letter v fits refl h),
      number_step e.block (own StartBlock i) (told StartBlock is) (λ v h. told_form place.Extent seen is StartBlock form.Bounded v fits refl h),
      number_step e.byte (own ByteOffset i) (told ByteOffset is) (λ v h. told_form place.Extent seen is ByteOffset form.Bounded v fits refl h),
      number_step e.count (own ByteCount i) (told ByteCount is) (λ v h. told_form place.Extent seen is ByteCount form.Bounded v fits refl h),
    ) refl

no_parent : (t : Tag) (q : Container) → extent_rule t ≡ child.Parent q → ⊥
no_parent Location q e = cc
no_parent _ q e = cc

extent_told : (node : ℕ) (seen : List Tag) (is : Items) (s : State) → Fits place.Extent seen is → items_told place.Extent node is s ≡ record s { extent = extent_from is s.extent }
extent_told node seen no_items s fits = refl
extent_told node seen (item (plain t v) is) s fits =
    extent_told node (t ∷ seen) is (record s { extent = extent_with (plain t v) s.extent }) fits.2
    ∙ ap (λ (e : RawExtent). record s { extent = e }) (sym (extent_step (t ∷ seen) (plain t v) is s.extent fits.2))
extent_told node seen (item (bare q) is) s fits = absurd (no_parent (tag_of q) q fits.0.0)
extent_told node seen (item (nested q x) is) s fits = absurd (no_parent (tag_of q) q fits.0.0)

extent_tells : (is : Items) → Fits place.Extent [] is → TellsExtent is (extent_in is)
extent_tells is fits = record {
  offset = number_known 0 (told FileOffset is) (must_tell place.Extent is FileOffset form.Bounded fits refl refl);
  letter = letter_known 0 (told Partition is) (must_tell place.Extent is Partition form.Letter fits refl refl);
  block = number_known 0 (told StartBlock is) (must_tell place.Extent is StartBlock form.Bounded fits refl refl);
  byte = number_known 0 (told ByteOffset is) (must_tell place.Extent is ByteOffset form.Bounded fits refl refl);
  count = number_known 0 (told ByteCount is) (must_tell place.Extent is ByteCount form.Bounded fits refl refl);
}

only_extent : (is : Items) (e : RawExtent) → TellsExtent is e → e ≡ extent_in is
only_extent is e t = rw (t.offset, t.letter, t.block, t.byte, t.count) refl

-- ---- extents

-- the extents that elements are
abbrev pub extents_in : Items → List RawExtent
extents_in no_items = []
extents_in (item (nested place.Extent is) more) = extent_in is ∷ extents_in more
extents_in (item _ more) = extents_in more

-- the kind with extents more, where it is a file's
abbrev pub with_more : List RawExtent → NodeKind → NodeKind
with_more es kinds.Dir = kinds.Dir
with_more es (kinds.File bytes extents) = kinds.File bytes (extents ++ es)
with_more es (kinds.Link text) = kinds.Link text

-- with no extents more a node is what it was
pub with_none : (k : NodeKind) → k ≡ with_more [] k
with_none kinds.Dir = refl
with_none (kinds.File bytes extents) = ap (λ (es : List RawExtent). kinds.File bytes es) (sym (append-nil extents))
with_none (kinds.Link text) = refl

with_next : (e : RawExtent) (es : List RawExtent) (k : NodeKind) → with_more es (one_more e k) ≡ with_more (e ∷ es) k
with_next e es kinds.Dir = refl
with_next e es (kinds.File bytes extents) = ap (λ (xs : List RawExtent). kinds.File bytes xs) (append_assoc extents (e ∷ []) es)
with_next e es (kinds.Link text) = refl

-- a node among others
abbrev pub nodes_with : List NodeValue → ℕ → NodeFacts → List NodeValue → NodeKind → List NodeValue
nodes_with front parent f behind k = front ++ (value_in parent f k ∷ behind)

-- the elements of a file's extents put them behind those it has
pub extents_told : (seen : List Tag) (is : Items) (s : State) (front : List NodeValue) (parent : ℕ) (f : NodeFacts) (k : NodeKind) (behind : List NodeValue) → Fits place.ExtentInfo seen is → s.nodes ≡ nodes_with front parent f behind k
    → (items_told place.ExtentInfo (length front) is s).nodes ≡ nodes_with front parent f behind (with_more (extents_in is) k)
extents_told seen no_items s front parent f k behind fits at = at ∙ ap (nodes_with front parent f behind) (with_none k)
extents_told seen (item (plain t v) is) s front parent f k behind fits at = absurd (leafless t fits.0.0 fits.0.1)
  where
    leafless : (t : Tag) (g : Form) → extents_rule t ≡ child.Leaf g → ⊥
    leafless LtfsLabel g e = cc
    leafless _ g e = cc
extents_told seen (item (bare place.Extent) is) s front parent f k behind fits at = absurd (let bad : Some FileOffset ≡ None = fits.0.1 in cc)
extents_told seen (item (bare _) is) s front parent f k behind fits at = absurd (let bad = fits.0.0 in cc)
extents_told seen (item (nested place.Extent x) is) s front parent f k behind fits at =
    let node = length front in
    let e = extent_in x in
    let t = begun place.Extent node s in
    let told_x = extent_told node [] x t fits.0.1 in
    let now : (item_told place.ExtentInfo node (nested place.Extent x) s).nodes ≡ nodes_with front parent f behind (one_more e k) =
    ap (λ (u : State). (ended place.Extent node u).nodes) told_x
    ∙ ap (changed node (with_extent e)) at
    ∙ changed_at front (value_in parent f k) behind (with_extent e) in
    extents_told (Extent ∷ seen) is (item_told place.ExtentInfo node (nested place.Extent x) s) front parent f (one_more e k) behind fits.2 now
    ∙ ap (nodes_with front parent f behind) (with_next e (extents_in is) k)
extents_told seen (item (nested _ x) is) s front parent f k behind fits at = absurd (let bad = fits.0.0 in cc)

extents_tell : (seen : List Tag) (is : Items) → Fits place.ExtentInfo seen is → TellsExtents is (extents_in is)
extents_tell seen no_items fits = refl
extents_tell seen (item (plain t v) is) fits = extents_tell (t ∷ seen) is fits.2
extents_tell seen (item (bare q) is) fits = extents_tell (tag_of q ∷ seen) is fits.2
extents_tell seen (item (nested place.Extent x) is) fits = (extent_in x, extents_in is, refl, extent_tells x fits.0.1, extents_tell (Extent ∷ seen) is fits.2)
extents_tell seen (item (nested q x) is) fits = extents_tell (tag_of q ∷ seen) is fits.2

only_extents : (is : Items) (es : List RawExtent) → TellsExtents is es → es ≡ extents_in is
only_extents no_items es t = t
only_extents (item (plain u v) is) es t = only_extents is es t
only_extents (item (bare q) is) es t = only_extents is es t
only_extents (item (nested place.Extent x) is) es t = t.2 ∙ rw (only_extent x t.0 t.3, only_extents is t.1 t.4) refl
only_extents (item (nested _ x) is) es t = only_extents is es t

-- the extents of a file
abbrev pub extents_of : Option Items → List RawExtent
extents_of None = []
extents_of (Some is) = extents_in is

-- the extents of elements are those that a file with these elements has
pub has_extents : (o : Option Items) → ((is : Items) → o ≡ Some is → Fits place.ExtentInfo [] is) → HasExtents o (extents_of o)
has_extents None fits = refl
has_extents (Some is) fits = extents_tell [] is (fits is refl)

-- a file's elements tell one list of extents
pub only_has : (o : Option Items) (es : List RawExtent) → HasExtents o es → es ≡ extents_of o
only_has None es h = h
only_has (Some is) es h = only_extents is es h
