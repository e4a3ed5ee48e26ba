-- What the root directory's children tell is the list of the nodes in it.
use Rattle.std.proofs.Common.{◌≡◌, ℕ, ◌+◌, List, [], ◌∷◌, ◌++◌, length, true, refl, sym, ap, subst, ◌∙◌, append_assoc, length-append, arith}
use Rattle.std.proofs.lemmas.List.{append-nil}
use Rattle.ltfs_documents.specs.declared.doc_fields.tags.Tag.{Tag}
use Rattle.ltfs_documents.specs.declared.doc_fields.tags.Tag.TheVariants.{LtfsLabel, Directory, File, Name, Symlink, Contents, ExtendedAttributes}
use Rattle.ltfs_documents.specs.DocElements.Children.{member}
use Rattle.index_model.specs.declared.nodes.NodeKind.TheVariants as kinds
use Rattle.ltfs_documents.specs.declared.doc_elements.schema.Container.{Container}
use Rattle.ltfs_documents.specs.declared.doc_elements.schema.Container.TheVariants as place
use Rattle.ltfs_documents.specs.declared.doc_elements.schema.Form.{Form}
use Rattle.ltfs_documents.specs.declared.doc_elements.schema.Form.TheVariants as form
use Rattle.ltfs_documents.specs.declared.doc_elements.schema.Child.TheVariants as child
use Rattle.ltfs_documents.specs.DocElements.Schema.{tag_of, contents_rule, directory_rule}
use Rattle.index_model.specs.Values.{NodeFacts, NodeValue, Nodes, no_nodes, directory, file, link, value_in, count, listed}
use Rattle.ltfs_documents.specs.DocElements.Pieces.{Val}
use Rattle.ltfs_documents.specs.DocElements.Elements.{Item, plain, bare, nested, Items, no_items, item, item_tag}
use Rattle.index_model.specs.Grammar.{told, TellsFacts, TellsNodes, TellsContents}
use Rattle.index_read.specs.Told.{State, facts_with, kind_with, link_or, begun, item_told, items_told}
use Rattle.index_read.proofs.Fits.{HasForm, FitsItem, Fits}
use Rattle.index_read.proofs.Facts.{not_own, follows_once, member_later, facts_from, facts_in, blank_facts, directory_forms, directory_facts, facts_step, facts_parent, facts_attributes, no_inside, only_facts}
use Rattle.index_read.proofs.Extents.{nodes_with}
use Rattle.index_read.proofs.Xattrs.{attributes_told, with_xattrs, xattrs_in}
use Rattle.index_read.proofs.Files.{leaf_changes, file_told, file_in, file_kind, file_listed, file_tells, only_file}

-- the nodes that children tell
abbrev mutual
  pub nodes_in : Items → Nodes
  nodes_in no_items = no_nodes
  nodes_in (item (nested place.Directory is) more) = directory (facts_in is) (contents_in is) (nodes_in more)
  nodes_in (item (nested place.File is) more) = file_in (told Symlink is) is (nodes_in more)
  nodes_in (item _ more) = nodes_in more

  -- the nodes in a directory with these children
  pub contents_in : Items → Nodes
  contents_in no_items = no_nodes
  contents_in (item (nested place.Contents is) more) = nodes_in is
  contents_in (item _ more) = contents_in more

-- ---- the grammar tells these and no others

mutual
  pub nodes_tell : (seen : List Tag) (is : Items) → Fits place.Contents seen is → TellsNodes is (nodes_in is)
  nodes_tell seen no_items fits = refl
  nodes_tell seen (item (plain t v) is) fits = nodes_tell (t ∷ seen) is fits.2
  nodes_tell seen (item (bare q) is) fits = nodes_tell (tag_of q ∷ seen) is fits.2
  nodes_tell seen (item (nested place.Directory x) is) fits =
      (facts_in x, contents_in x, nodes_in is, refl, directory_facts x fits.0.1, contents_tell [] x fits.0.1, nodes_tell (Directory ∷ seen) is fits.2)
  nodes_tell seen (item (nested place.File x) is) fits = (nodes_in is, file_tells x (nodes_in is) fits.0.1, nodes_tell (File ∷ seen) is fits.2)
  nodes_tell seen (item (nested q x) is) fits = nodes_tell (tag_of q ∷ seen) is fits.2

  pub contents_tell : (seen : List Tag) (is : Items) → Fits place.Directory seen is → TellsContents is (contents_in is)
  contents_tell seen no_items fits = refl
  contents_tell seen (item (plain t v) is) fits = contents_tell (t ∷ seen) is fits.2
  contents_tell seen (item (bare q) is) fits = contents_tell (tag_of q ∷ seen) is fits.2
  contents_tell seen (item (nested place.Contents x) is) fits = nodes_tell [] x fits.0.1
  contents_tell seen (item (nested q x) is) fits = contents_tell (tag_of q ∷ seen) is fits.2

mutual
  pub only_nodes : (is : Items) (nodes : Nodes) → TellsNodes is nodes → nodes ≡ nodes_in is
  only_nodes no_items nodes t = t
  only_nodes (item (plain u v) is) nodes t = only_nodes is nodes t
  only_nodes (item (bare q) is) nodes t = only_nodes is nodes t
  only_nodes (item (nested place.Directory x) is) nodes t = t.3 ∙ rw (only_facts x t.0 t.4, only_contents x t.1 t.5, only_nodes is t.2 t.6) refl
  only_nodes (item (nested place.File x) is) nodes t = only_file x nodes t.0 t.1 ∙ ap (file_in (told Symlink x) x) (only_nodes is t.0 t.2)
  only_nodes (item (nested _ x) is) nodes t = only_nodes is nodes t

  pub only_contents : (is : Items) (nodes : Nodes) → TellsContents is nodes → nodes ≡ contents_in is
  only_contents no_items nodes t = t
  only_contents (item (plain u v) is) nodes t = only_contents is nodes t
  only_contents (item (bare q) is) nodes t = only_contents is nodes t
  only_contents (item (nested place.Contents x) is) nodes t = only_nodes x nodes t
  only_contents (item (nested _ x) is) nodes t = only_contents is nodes t

-- a directory's elements tell one list of nodes in it
pub one_contents : (is : Items) (a b : Nodes) → TellsContents is a → TellsContents is b → a ≡ b
one_contents is a b x y = only_contents is a x ∙ sym (only_contents is b y)

-- ---- a directory's children behind its contents

directory_leaf : (t : Tag) (v : Val) (s : State) (front : List NodeValue) (parent : ℕ) (f : NodeFacts) (behind : List NodeValue) → FitsItem place.Directory (plain t v) → s.nodes ≡ nodes_with front parent f behind kinds.Dir
    → (item_told place.Directory (length front) (plain t v) s).nodes ≡ nodes_with front parent (facts_with (plain t v) f) behind kinds.Dir
directory_leaf t v s front parent f behind fits at =
    let kind : kind_with (plain t v) kinds.Dir ≡ kinds.Dir = ap (link_or kinds.Dir) (not_own place.Directory (plain t v) Symlink fits refl) in
    leaf_changes (plain t v) s.nodes front parent f kinds.Dir behind at ∙ ap (nodes_with front parent (facts_with (plain t v) f) behind) kind

rest_told : (seen : List Tag) (is : Items) (s : State) (front : List NodeValue) (parent : ℕ) (f : NodeFacts) (behind : List NodeValue) → Fits place.Directory seen is → member Contents seen ≡ true → s.nodes ≡ nodes_with front parent f behind kinds.Dir
    → (items_told place.Directory (length front) is s).nodes ≡ nodes_with front parent (facts_from is f) behind kinds.Dir
rest_told seen no_items s front parent f behind fits there at = at
rest_told seen (item (plain t v) is) s front parent f behind fits there at =
    rest_told (t ∷ seen) is (item_told place.Directory (length front) (plain t v) s) front parent (facts_with (plain t v) f) behind fits.2 (member_later Contents t seen there) (directory_leaf t v s front parent f behind fits.0 at)
    ∙ ap (λ (g : NodeFacts). nodes_with front parent g behind kinds.Dir) (sym (facts_step t v is f (directory_forms (t ∷ seen) is fits.2)))
rest_told seen (item (bare place.Contents) is) s front parent f behind fits there at = absurd (follows_once place.Directory seen Contents Contents fits.1 refl there refl)
rest_told seen (item (bare place.Attributes) is) s front parent f behind fits there at =
    rest_told (ExtendedAttributes ∷ seen) is s front parent (with_xattrs [] f) behind fits.2 (member_later Contents ExtendedAttributes seen there) (attributes_told [] no_items s front parent f kinds.Dir behind refl at)
    ∙ ap (λ (g : NodeFacts). nodes_with front parent g behind kinds.Dir) (sym (facts_attributes no_items is f (no_inside place.Directory (ExtendedAttributes ∷ seen) is place.Attributes fits.2 refl refl)))
rest_told seen (item (bare _) is) s front parent f behind fits there at = absurd (let bad = fits.0.0 in cc)
rest_told seen (item (nested place.Contents x) is) s front parent f behind fits there at = absurd (follows_once place.Directory seen Contents Contents fits.1 refl there refl)
rest_told seen (item (nested place.Attributes x) is) s front parent f behind fits there at =
    rest_told (ExtendedAttributes ∷ seen) is (items_told place.Attributes (length front) x s) front parent (with_xattrs (xattrs_in x) f) behind fits.2 (member_later Contents ExtendedAttributes seen there) (attributes_told [] x s front parent f kinds.Dir behind fits.0.1 at)
    ∙ ap (λ (g : NodeFacts). nodes_with front parent g behind kinds.Dir) (sym (facts_attributes x is f (no_inside place.Directory (ExtendedAttributes ∷ seen) is place.Attributes fits.2 refl refl)))
rest_told seen (item (nested _ x) is) s front parent f behind fits there at = absurd (let bad = fits.0.0 in cc)

-- ---- directories and their contents

-- the list of nodes is as long as there are nodes
pub length_listed : (parent at : ℕ) (nodes : Nodes) → length (listed parent at nodes) ≡ count nodes
length_listed parent at no_nodes = refl
length_listed parent at (directory f inside behind) =
    omega (arith, length-append (listed at (at + 1) inside) (listed parent (at + 1 + count inside) behind), length_listed at (at + 1) inside, length_listed parent (at + 1 + count inside) behind)
length_listed parent at (file f bytes es behind) = omega (arith, length_listed parent (at + 1) behind)
length_listed parent at (link f text behind) = omega (arith, length_listed parent (at + 1) behind)

-- what is appended behind a node stands behind it
behind_one : (nodes front : List NodeValue) (parent node : ℕ) (f : NodeFacts) (inner : Nodes) → nodes ≡ nodes_with front parent f [] kinds.Dir
    → nodes ++ listed node (length nodes) inner ≡ nodes_with front parent f (listed node (length front + 1) inner) kinds.Dir
behind_one nodes front parent node f inner at =
    let one = value_in parent f kinds.Dir ∷ [] in
    let size : length nodes ≡ length front + 1 = ap length at ∙ length-append front one in
    ap (λ (n : ℕ). nodes ++ listed node n inner) size
    ∙ ap (λ (xs : List NodeValue). xs ++ listed node (length front + 1) inner) at
    ∙ append_assoc front one (listed node (length front + 1) inner)

-- nodes behind a directory and all that is in it
behind_all : (nodes front : List NodeValue) (parent : ℕ) (f : NodeFacts) (inner others : Nodes) → nodes ≡ nodes_with front parent f (listed (length front) (length front + 1) inner) kinds.Dir
    → nodes ++ listed parent (length nodes) others ≡ front ++ listed parent (length front) (directory f inner others)
behind_all nodes front parent f inner others at =
    let all = value_in parent f kinds.Dir ∷ listed (length front) (length front + 1) inner in
    let size : length nodes ≡ length front + 1 + count inner = omega (arith, ap length at, length-append front all, length_listed (length front) (length front + 1) inner) in
    ap (λ (n : ℕ). nodes ++ listed parent n others) size
    ∙ ap (λ (xs : List NodeValue). xs ++ listed parent (length front + 1 + count inner) others) at
    ∙ append_assoc front all (listed parent (length front + 1 + count inner) others)

-- nodes behind a file
behind_file : (nodes front : List NodeValue) (parent : ℕ) (x : Items) (others : Nodes) → nodes ≡ nodes_with front parent (facts_in x) [] (file_kind x 0 [])
    → nodes ++ listed parent (length nodes) others ≡ front ++ listed parent (length front) (file_in (told Symlink x) x others)
behind_file nodes front parent x others at =
    let one = value_in parent (facts_in x) (file_kind x 0 []) ∷ [] in
    let size : length nodes ≡ length front + 1 = ap length at ∙ length-append front one in
    ap (λ (n : ℕ). nodes ++ listed parent n others) size
    ∙ ap (λ (xs : List NodeValue). xs ++ listed parent (length front + 1) others) at
    ∙ append_assoc front one (listed parent (length front + 1) others)
    ∙ ap (λ (xs : List NodeValue). front ++ xs) (sym (file_listed (told Symlink x) x parent (length front) others))

mutual
  pub directory_told : (seen : List Tag) (is : Items) (s : State) (front : List NodeValue) (parent : ℕ) (f : NodeFacts) → Fits place.Directory seen is → s.nodes ≡ nodes_with front parent f [] kinds.Dir
      → (items_told place.Directory (length front) is s).nodes ≡ nodes_with front parent (facts_from is f) (listed (length front) (length front + 1) (contents_in is)) kinds.Dir
  directory_told seen no_items s front parent f fits at = at
  directory_told seen (item (plain t v) is) s front parent f fits at =
      directory_told (t ∷ seen) is (item_told place.Directory (length front) (plain t v) s) front parent (facts_with (plain t v) f) fits.2 (directory_leaf t v s front parent f [] fits.0 at)
      ∙ ap (λ (g : NodeFacts). nodes_with front parent g (listed (length front) (length front + 1) (contents_in is)) kinds.Dir) (sym (facts_step t v is f (directory_forms (t ∷ seen) is fits.2)))
  directory_told seen (item (bare place.Contents) is) s front parent f fits at =
      directory_told (Contents ∷ seen) is s front parent f fits.2 at
      ∙ ap (λ (g : NodeFacts). nodes_with front parent g (listed (length front) (length front + 1) (contents_in is)) kinds.Dir) (sym (facts_parent place.Contents no_items is f refl))
  directory_told seen (item (bare place.Attributes) is) s front parent f fits at =
      directory_told (ExtendedAttributes ∷ seen) is s front parent (with_xattrs [] f) fits.2 (attributes_told [] no_items s front parent f kinds.Dir [] refl at)
      ∙ ap (λ (g : NodeFacts). nodes_with front parent g (listed (length front) (length front + 1) (contents_in is)) kinds.Dir) (sym (facts_attributes no_items is f (no_inside place.Directory (ExtendedAttributes ∷ seen) is place.Attributes fits.2 refl refl)))
  directory_told seen (item (bare _) is) s front parent f fits at = absurd (let bad = fits.0.0 in cc)
  directory_told seen (item (nested place.Contents x) is) s front parent f fits at =
      let now = contents_told [] x (length front) s fits.0.1 ∙ behind_one s.nodes front parent (length front) f (nodes_in x) at in
      rest_told (Contents ∷ seen) is (items_told place.Contents (length front) x s) front parent f (listed (length front) (length front + 1) (nodes_in x)) fits.2 refl now
      ∙ ap (λ (g : NodeFacts). nodes_with front parent g (listed (length front) (length front + 1) (nodes_in x)) kinds.Dir) (sym (facts_parent place.Contents x is f refl))
  directory_told seen (item (nested place.Attributes x) is) s front parent f fits at =
      directory_told (ExtendedAttributes ∷ seen) is (items_told place.Attributes (length front) x s) front parent (with_xattrs (xattrs_in x) f) fits.2 (attributes_told [] x s front parent f kinds.Dir [] fits.0.1 at)
      ∙ ap (λ (g : NodeFacts). nodes_with front parent g (listed (length front) (length front + 1) (contents_in is)) kinds.Dir) (sym (facts_attributes x is f (no_inside place.Directory (ExtendedAttributes ∷ seen) is place.Attributes fits.2 refl refl)))
  directory_told seen (item (nested _ x) is) s front parent f fits at = absurd (let bad = fits.0.0 in cc)

  pub contents_told : (seen : List Tag) (is : Items) (node : ℕ) (s : State) → Fits place.Contents seen is → (items_told place.Contents node is s).nodes ≡ s.nodes ++ listed node (length s.nodes) (nodes_in is)
  contents_told seen no_items node s fits = sym (append-nil s.nodes)
  contents_told seen (item (plain t v) is) node s fits = absurd (leafless t fits.0.0 fits.0.1)
    where
      leafless : (t : Tag) (g : Form) → contents_rule t ≡ child.Leaf g → ⊥
      leafless LtfsLabel g e = cc
      leafless _ g e = cc
  contents_told seen (item (bare place.Directory) is) node s fits = absurd (let bad = fits.0.1 in cc)
  contents_told seen (item (bare place.File) is) node s fits = absurd (let bad = fits.0.1 in cc)
  contents_told seen (item (bare _) is) node s fits = absurd (let bad = fits.0.0 in cc)
  contents_told seen (item (nested place.Directory x) is) node s fits =
      let now = directory_told [] x (begun place.Directory node s) s.nodes node blank_facts fits.0.1 refl in
      let u = item_told place.Contents node (nested place.Directory x) s in
      contents_told (Directory ∷ seen) is node u fits.2
      ∙ behind_all u.nodes s.nodes node (facts_in x) (contents_in x) (nodes_in is) now
  contents_told seen (item (nested place.File x) is) node s fits =
      let now = file_told [] x (begun place.File node s) s.nodes node blank_facts 0 [] [] fits.0.1 refl in
      let u = item_told place.Contents node (nested place.File x) s in
      contents_told (File ∷ seen) is node u fits.2
      ∙ behind_file u.nodes s.nodes node x (nodes_in is) now
  contents_told seen (item (nested _ x) is) node s fits = absurd (let bad = fits.0.0 in cc)

-- ---- the root is a directory, but for its name's form

root_leaf : (t : Tag) (v : Val) (f : Form) → directory_rule form.VolumeName t ≡ child.Leaf f → HasForm f v → (g : Form) × (directory_rule form.NodeName t ≡ child.Leaf g) × HasForm g v
root_leaf Name v f e has = let same : f ≡ form.VolumeName = cc in (form.NodeName, refl, subst (λ (g : Form). HasForm g v) same has)
root_leaf _ v f e has = (f, e, has)

root_parent : (t : Tag) (q : Container) → directory_rule form.VolumeName t ≡ child.Parent q → directory_rule form.NodeName t ≡ child.Parent q
root_parent Name q e = absurd cc
root_parent _ q e = e

root_item : (i : Item) → FitsItem place.Root i → FitsItem place.Directory i
root_item (plain t v) fits = root_leaf t v fits.0 fits.1 fits.2
root_item (bare q) fits = (root_parent (tag_of q) q fits.0, fits.1)
root_item (nested q x) fits = (root_parent (tag_of q) q fits.0, fits.1)

root_fits : (seen : List Tag) (is : Items) → Fits place.Root seen is → Fits place.Directory seen is
root_fits seen no_items fits = fits
root_fits seen (item i is) fits = (root_item i fits.0, record { alone = fits.1.alone; once = fits.1.once }, root_fits (item_tag i ∷ seen) is fits.2)

as_directory : (is : Items) (node : ℕ) (s : State) → items_told place.Root node is s ≡ items_told place.Directory node is s
as_directory no_items node s = refl
as_directory (item (plain t v) is) node s = as_directory is node (item_told place.Directory node (plain t v) s)
as_directory (item (bare q) is) node s = as_directory is node (item_told place.Directory node (bare q) s)
as_directory (item (nested q x) is) node s = as_directory is node (item_told place.Directory node (nested q x) s)

-- the elements of the root tell its facts and all nodes in it, in order
pub root_tells : (is : Items) (node : ℕ) (s : State) → Fits place.Root [] is → s.nodes ≡ []
    → (root : NodeFacts) × (inside : Nodes) × TellsFacts is root × TellsContents is inside × ((items_told place.Root 0 is (begun place.Root node s)).nodes ≡ value_in 0 root kinds.Dir ∷ listed 0 1 inside)
root_tells is node s fits none =
    let like = root_fits [] is fits in
    let t = begun place.Root node s in
    let first : t.nodes ≡ nodes_with [] 0 blank_facts [] kinds.Dir = ap (λ (xs : List NodeValue). xs ++ (value_in 0 blank_facts kinds.Dir ∷ [])) none in
    (facts_in is, contents_in is, directory_facts is like, contents_tell [] is like, ap (λ (u : State). u.nodes) (as_directory is 0 t) ∙ directory_told [] is t [] 0 blank_facts like first)
