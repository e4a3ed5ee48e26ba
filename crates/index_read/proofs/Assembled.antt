-- A whole document spells what its pieces tell.
use Rattle.std.proofs.Common.{◌≡◌, ℕ, List, [], ◌∷◌, Bool, true, false, ◌==◌, ◌&&◌, not, length, Some, None, IsUtf8, refl, sym, ap, subst, ◌∙◌}
use Rattle.ltfs_documents.specs.declared.doc_fields.tags.Tag.{Tag}
use Rattle.ltfs_documents.specs.declared.doc_fields.tags.Tag.TheVariants.{Directory}
use Rattle.ltfs_documents.specs.DocElements.Children.{code, member}
use Rattle.index_model.specs.declared.nodes.NodeKind.TheVariants as kinds
use Rattle.ltfs_documents.specs.declared.doc_elements.schema.Container.TheVariants as place
use Rattle.ltfs_documents.specs.declared.doc_elements.schema.Child.{Child}
use Rattle.ltfs_documents.specs.declared.doc_elements.schema.Child.TheVariants as child
use Rattle.ltfs_documents.specs.DocElements.Schema.{rule, required}
use Rattle.index_model.specs.Values.{NodeFacts, Nodes, value_in, listed, IndexValue, all_nodes}
use Rattle.ltfs_documents.specs.DocElements.Elements.{Item, plain, bare, nested, Items, no_items, item, item_tag}
use Rattle.index_model.specs.Grammar.{or_else, own_children, inside, TellsFacts, TellsContents, TellsVolume, Spells}
use Rattle.index_read.specs.Told.{State, Tell, blank, blank_spot, outermost, begun, item_told, items_told}
use Rattle.index_read.specs.Walks.{IsWhole}
use Rattle.index_read.proofs.Nodes.{root_tells}
use Rattle.index_read.proofs.Fits.{Fits, FitsItem, same_tag, missing_member, all_fit}
use Rattle.index_read.proofs.Volume.{with_here, here_told, back_told}
use Rattle.index_read.proofs.Within.{policy_is, volume_is}
use Rattle.index_read.proofs.Tells.{volume_tells}
use Rattle.ltfs_documents.proofs.DocElements.Trees.{elements_of}
use Rattle.index_read.proofs.Trees.{items_tell, tell_same}

-- ---- the root directory among the children of an index

other_nodes : (i : Item) (node : ℕ) (s : State) → FitsItem place.Index i → (code Directory == code (item_tag i)) ≡ false → (item_told place.Index node i s).nodes ≡ s.nodes
other_nodes (plain t v) node s fits other = refl
other_nodes (bare place.Here) node s fits other = absurd (let bad = fits.1 in cc)
other_nodes (bare place.Back) node s fits other = absurd (let bad = fits.1 in cc)
other_nodes (bare place.Policy) node s fits other = absurd (let bad = fits.1 in cc)
other_nodes (bare place.Root) node s fits other = absurd (let bad = fits.1 in cc)
other_nodes (bare _) node s fits other = absurd (let bad = fits.0 in cc)
other_nodes (nested place.Here is) node s fits other = ap (λ x. x.nodes) (here_told [] is node (with_here blank_spot s) fits.1)
other_nodes (nested place.Back is) node s fits other = ap (λ x. x.nodes) (back_told [] is node blank_spot s fits.1)
other_nodes (nested place.Policy is) node s fits other = ap (λ x. x.nodes) (policy_is [] is node s fits.1)
other_nodes (nested place.Root is) node s fits other = absurd (let bad = other in cc)
other_nodes (nested _ is) node s fits other = absurd (let bad = fits.0 in cc)

other_children : (i : Item) → FitsItem place.Index i → (code Directory == code (item_tag i)) ≡ false → own_children place.Root i ≡ None
other_children (plain t v) fits other = refl
other_children (bare place.Root) fits other = absurd (let bad = other in cc)
other_children (bare _) fits other = refl
other_children (nested place.Root is) fits other = absurd (let bad = other in cc)
other_children (nested _ is) fits other = refl

-- once the root has stood there it doesn't come again
not_again : (seen : List Tag) (i : Item) → member Directory seen ≡ true → (member (item_tag i) seen && true) ≡ false → (code Directory == code (item_tag i)) ≡ false
not_again seen i there once = go (code Directory == code (item_tag i)) refl
  where
    go : (b : Bool) → (code Directory == code (item_tag i)) ≡ b → (code Directory == code (item_tag i)) ≡ false
    go false e = e
    go true e =
        let same = same_tag Directory (item_tag i) e in
        let again : member (item_tag i) seen ≡ true = subst (λ t. member t seen ≡ true) same there in
        absurd (let bad : true ≡ false = sym (rw again refl) ∙ once in cc)

pub record NoRoot (is : Items) (node : ℕ) (s : State) : Type 0 where
  pub nodes : (items_told place.Index node is s).nodes ≡ s.nodes
  pub children : inside place.Root is ≡ None

no_root : (seen : List Tag) (is : Items) (node : ℕ) (s : State) → Fits place.Index seen is → member Directory seen ≡ true → NoRoot is node s
no_root seen no_items node s fits there = record { nodes = refl; children = refl }
no_root seen (item i is) node s fits there =
    let other = not_again seen i there (once_only seen i fits.1.once) in
    let more = no_root (item_tag i ∷ seen) is node (item_told place.Index node i s) fits.2 (rw (other, there) refl) in
    let none : or_else (inside place.Root is) (own_children place.Root i) ≡ None = rw (more.children, other_children i fits.0 other) refl in
    record { nodes = more.nodes ∙ other_nodes i node s fits.0 other; children = none }
  where
    once_only : (seen : List Tag) (i : Item) → (member (item_tag i) seen && not false) ≡ false → (member (item_tag i) seen && true) ≡ false
    once_only seen i h = h

-- ---- the root directory, and what it tells

-- what the root directory tells, among children of an index
pub record RootTold (is : Items) (node : ℕ) (s : State) : Type 0 where
  pub items : Items
  pub children : inside place.Root is ≡ Some items
  pub facts : NodeFacts
  pub nodes : Nodes
  pub tells : TellsFacts items facts
  pub contents : TellsContents items nodes
  pub list : (items_told place.Index node is s).nodes ≡ value_in 0 facts kinds.Dir ∷ listed 0 1 nodes

root_item : (i : Item) → FitsItem place.Index i → (code Directory == code (item_tag i)) ≡ true → (js : Items) × (i ≡ nested place.Root js)
root_item (plain t v) fits e = absurd (let same = same_tag Directory t e in let bad : ◌≡◌ {A = Child} (child.Parent place.Root) (child.Leaf fits.0) = ap (rule place.Index) same ∙ fits.1 in cc)
root_item (bare place.Root) fits e = absurd (let bad = fits.1 in cc)
root_item (bare place.Directory) fits e = absurd (let bad = fits.0 in cc)
root_item (bare _) fits e = absurd (let bad = e in cc)
root_item (nested place.Root js) fits e = (js, refl)
root_item (nested place.Directory js) fits e = absurd (let bad = fits.0 in cc)
root_item (nested _ js) fits e = absurd (let bad = e in cc)

first_root : (js : Items) (seen : List Tag) (more : Items) (node : ℕ) (s : State) → Fits place.Index seen (item (nested place.Root js) more) → s.nodes ≡ [] → RootTold (item (nested place.Root js) more) node s
first_root js seen more node s fits none =
    let after = no_root (Directory ∷ seen) more node (item_told place.Index node (nested place.Root js) s) fits.2 refl in
    let t = root_tells js node s fits.0.1 none in
    let zero : length s.nodes ≡ 0 = ap (λ l. length l) none in
    let list : (items_told place.Root (length s.nodes) js (begun place.Root node s)).nodes ≡ value_in 0 t.0 kinds.Dir ∷ listed 0 1 t.1 = subst (λ n. (items_told place.Root n js (begun place.Root node s)).nodes ≡ value_in 0 t.0 kinds.Dir ∷ listed 0 1 t.1) (sym zero) t.4 in
    record {
      items = js;
      children = rw (after.children) refl;
      facts = t.0;
      nodes = t.1;
      tells = t.2;
      contents = t.3;
      list = after.nodes ∙ list;
    }

behind : (i : Item) (is : Items) (node : ℕ) (s : State) → FitsItem place.Index i → (code Directory == code (item_tag i)) ≡ false → RootTold is node (item_told place.Index node i s) → RootTold (item i is) node s
behind i is node s fits other r = record {
  items = r.items;
  children = rw (r.children) refl;
  facts = r.facts;
  nodes = r.nodes;
  tells = r.tells;
  contents = r.contents;
  list = r.list;
}

-- where no root was told yet, the elements of an index tell its root and all nodes
pub root_told : (seen : List Tag) (is : Items) (node : ℕ) (s : State) → Fits place.Index seen is → member Directory seen ≡ false → s.nodes ≡ [] → RootTold is node s
root_told seen no_items node s fits new none = absurd (let bad : true ≡ false = sym (missing_member Directory (required place.Index) seen fits refl) ∙ new in cc)
root_told seen (item i is) node s fits new none =
    go (code Directory == code (item_tag i)) refl (λ other. root_told (item_tag i ∷ seen) is node (item_told place.Index node i s) fits.2 (rw (other, new) refl) (other_nodes i node s fits.0 other ∙ none))
  where
    go : (b : Bool) → (code Directory == code (item_tag i)) ≡ b → ((code Directory == code (item_tag i)) ≡ false → RootTold is node (item_told place.Index node i s)) → RootTold (item i is) node s
    go false e later = behind i is node s fits.0 e (later e)
    go true e later =
        let r = root_item i fits.0 e in
        subst (λ x. Fits place.Index seen (item x is) → RootTold (item x is) node s) (sym r.1) (λ f. first_root r.0 seen is node s f none) fits

-- ---- the whole

-- what a whole document spells, which is what its pieces tell
pub record Assembled (text : List ℕ) (s : State) : Type 0 where
  pub value : IndexValue
  pub spells : Spells text value
  pub volume : value.volume ≡ s.volume
  pub nodes : all_nodes value ≡ s.nodes

-- a whole document spells the elements that its pieces tell of
pub assembled : (text : List ℕ) (s : State) → IsUtf8 text → IsWhole text s → Assembled text s
assembled text s valid w =
    let p = elements_of place.Index text w.ps valid w.accepts in
    let fits = all_fit text place.Index [] p.spelled.inside p.items p.spelled.end p.spelled.children in
    let r = root_told [] p.items 0 blank fits refl refl in
    let told : Tell w.ps outermost blank [] (items_told place.Index 0 p.items blank) = subst (λ l. Tell l outermost blank [] (items_told place.Index 0 p.items blank)) (sym p.split) (items_tell place.Index 0 [] p.items blank) in
    let same : items_told place.Index 0 p.items blank ≡ s = tell_same w.ps outermost blank [] _ [] s told w.tells in
    let volume = volume_is [] p.items 0 blank fits in
    record {
      value = record { volume = (items_told place.Index 0 p.items blank).volume; root = r.facts; inside = r.nodes };
      spells = record {
        items = p.items;
        spelled = p.spelled;
        volume = subst (TellsVolume p.items) (sym volume) (volume_tells p.items fits);
        root_items = r.items;
        root = r.children;
        facts = r.tells;
        contents = r.contents;
        few = p.few;
      };
      volume = ap (λ x. x.volume) same;
      nodes = sym r.list ∙ ap (λ x. x.nodes) same;
    }
