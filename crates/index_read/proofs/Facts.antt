-- What the children of a node tell of it: the facts that each node has.
use Rattle.std.proofs.Common.{◌≡◌, ℕ, List, [], ◌∷◌, ◌++◌, Bool, true, false, ◌==◌, ◌&&◌, not, Option, Some, None, if◌then◌else◌, refl, sym, ap, subst, ◌∙◌}
use Rattle.std.proofs.lemmas.Bool.{eqb-true, or_right}
use Rattle.tape_types.specs.declared.node_keys.xattrs.Xattr.{Xattr}
use Rattle.ltfs_documents.specs.declared.doc_fields.tags.Tag.{Tag}
use Rattle.ltfs_documents.specs.declared.doc_fields.tags.Tag.TheVariants.{FileUid, Name, CreationTime, ChangeTime, ModifyTime, AccessTime, BackupTime, ReadOnly}
use Rattle.ltfs_documents.specs.DocElements.Children.{code, member}
use Rattle.ltfs_documents.specs.declared.doc_elements.schema.Container.{Container}
use Rattle.ltfs_documents.specs.declared.doc_elements.schema.Container.TheVariants as place
use Rattle.ltfs_documents.specs.declared.doc_elements.schema.Form.TheVariants as form
use Rattle.ltfs_documents.specs.declared.doc_elements.schema.Child.{Child}
use Rattle.ltfs_documents.specs.declared.doc_elements.schema.Child.TheVariants as child
use Rattle.ltfs_documents.specs.DocElements.Schema.{rule, tag_of, may_repeat, place_code}
use Rattle.index_model.specs.Values.{NodeFacts}
use Rattle.ltfs_documents.specs.DocElements.Pieces.{Val, words, time, number, truth}
use Rattle.ltfs_documents.specs.DocElements.Elements.{Item, plain, bare, nested, Items, no_items, item, item_tag, MayFollow}
use Rattle.index_model.specs.Grammar.{or_else, own, told, own_children, inside, TellsFacts}
use Rattle.index_read.specs.Told.{words_or, time_or, number_or, truth_or, facts_with, blank_times}
use Rattle.index_read.proofs.Fits.{FitsItem, Fits, same_tag, must_tell, told_form}
use Rattle.index_read.proofs.Xattrs.{has_xattrs, no_other_xattrs, with_xattrs, xattrs_in, xattrs_or}
use Rattle.index_read.proofs.OfForms.{IsOf, or_none, number_step, words_step, time_step, truth_step, number_known, words_known, time_known, truth_known}

-- ---- elements that aren't there

-- an element that a place does not know tells no such fact
pub not_own : (p : Container) (i : Item) (t : Tag) → FitsItem p i → rule p t ≡ child.Unknown → own t i ≡ None
not_own p (plain u w) t fits unknown = by (code t == code u) refl
  where
    by : (b : Bool) → (code t == code u) ≡ b → (if b then Some w else None) ≡ None
    by true h = absurd (let bad : ◌≡◌ {A = Child} child.Unknown (child.Leaf fits.0) = sym unknown ∙ ap (rule p) (same_tag t u h) ∙ fits.1 in cc)
    by false h = refl
not_own p (bare q) t fits unknown = refl
not_own p (nested q is) t fits unknown = refl

-- what has stood there and may not repeat doesn't follow
pub follows_once : (p : Container) (seen : List Tag) (t u : Tag) → MayFollow p seen u → t ≡ u → member t seen ≡ true → may_repeat p t ≡ false → ⊥
follows_once p seen t u follows same there once =
    let h : (member t seen && not (may_repeat p t)) ≡ false = subst (λ (x : Tag). (member x seen && not (may_repeat p x)) ≡ false) (sym same) follows.once in
    let bad : true ≡ false = rw (there, once) at h in
    cc

-- an element of which there may be one only, and has been, tells the fact no more
pub not_now : (p : Container) (seen : List Tag) (i : Item) (t : Tag) → MayFollow p seen (item_tag i) → member t seen ≡ true → may_repeat p t ≡ false → own t i ≡ None
not_now p seen (plain u w) t follows there once = by (code t == code u) refl
  where
    by : (b : Bool) → (code t == code u) ≡ b → (if b then Some w else None) ≡ None
    by true h = absurd (follows_once p seen t u follows (same_tag t u h) there once)
    by false h = refl
not_now p seen (bare q) t follows there once = refl
not_now p seen (nested q is) t follows there once = refl

-- an element that stood earlier has still stood later
pub member_later : (t u : Tag) (seen : List Tag) → member t seen ≡ true → member t (u ∷ seen) ≡ true
member_later t u seen there = or_right (code t == code u) (member t seen) there

-- a fact that was told and may not be told again is told by no later element
pub not_again : (p : Container) (seen : List Tag) (is : Items) (t : Tag) → Fits p seen is → member t seen ≡ true → may_repeat p t ≡ false → told t is ≡ None
not_again p seen no_items t fits there once = refl
not_again p seen (item i is) t fits there once =
    rw (not_again p (item_tag i ∷ seen) is t fits.2 (member_later t (item_tag i) seen there) once, not_now p seen i t fits.1 there once) refl

-- ---- parents by their numbers

places : List Container
places = place.Index ∷ place.Here ∷ place.Back ∷ place.Policy ∷ place.Criteria ∷ place.Root ∷ place.Directory ∷ place.Contents ∷ place.File ∷ place.Attributes ∷ place.ExtentInfo ∷ place.Extent ∷ place.Label ∷ place.Own ∷ place.Letters
    ∷ place.Xattr ∷ []

numbered : ℕ → List Container → Container
numbered n [] = place.Index
numbered n (p ∷ ps) = if n == place_code p then p else numbered n ps

back_from_number : (p : Container) → numbered (place_code p) places ≡ p
unfolding numbered places
back_from_number place.Index = refl
back_from_number _ = refl

-- places with the same number are one
pub same_place : (p q : Container) → (place_code p == place_code q) ≡ true → p ≡ q
same_place p q e = sym (back_from_number p) ∙ ap (λ n. numbered n places) (eqb-true (place_code p) (place_code q) e) ∙ back_from_number q

-- where a parent has stood and may not again, no later one stands
pub no_inside : (p : Container) (seen : List Tag) (is : Items) (q : Container) → Fits p seen is → member (tag_of q) seen ≡ true → may_repeat p (tag_of q) ≡ false → inside q is ≡ None
no_inside p seen no_items q fits there once = refl
no_inside p seen (item i is) q fits there once =
    rw (no_inside p (item_tag i ∷ seen) is q fits.2 (member_later (tag_of q) (item_tag i) seen there) once, now i fits.1) refl
  where
    by : (r : Container) (x : Items) → MayFollow p seen (tag_of r) → (b : Bool) → (place_code q == place_code r) ≡ b → (if b then Some x else None) ≡ None
    by r x follows true h = absurd (follows_once p seen (tag_of q) (tag_of r) follows (ap tag_of (same_place q r h)) there once)
    by r x follows false h = refl

    now : (i : Item) → MayFollow p seen (item_tag i) → own_children q i ≡ None
    now (plain t v) follows = refl
    now (bare r) follows = by r no_items follows (place_code q == place_code r) refl
    now (nested r x) follows = by r x follows (place_code q == place_code r) refl

-- the children of a parent fit it
pub inside_fits : (p : Container) (seen : List Tag) (is : Items) (q : Container) (x : Items) → Fits p seen is → inside q is ≡ Some x → Fits q [] x
inside_fits p seen no_items q x fits e = absurd cc
inside_fits p seen (item i is) q x fits e = by (inside q is) refl (λ y. inside_fits p (item_tag i ∷ seen) is q y fits.2) e
  where
    one : (r : Container) (y : Items) → Fits r [] y → (b : Bool) → (place_code q == place_code r) ≡ b → (if b then Some y else None) ≡ Some x → Fits q [] x
    one r y f true h o = let same : y ≡ x = cc (o) in subst (λ (z : Items). Fits q [] z) same (subst (λ (s : Container). Fits s [] y) (sym (same_place q r h)) f)
    one r y f false h o = absurd cc

    now : (i : Item) → FitsItem p i → own_children q i ≡ Some x → Fits q [] x
    now (plain t v) f o = absurd cc
    now (bare r) f o = one r no_items f.1 (place_code q == place_code r) refl o
    now (nested r y) f o = one r y f.1 (place_code q == place_code r) refl o

    by : (o : Option Items) → inside q is ≡ o → ((y : Items) → inside q is ≡ Some y → Fits q [] y) → or_else o (own_children q i) ≡ Some x → Fits q [] x
    by None h later o = now i fits.0 o
    by (Some y) h later o = let same : y ≡ x = cc (o) in subst (λ (z : Items). Fits q [] z) same (later y h)

-- ---- the facts of a node

-- the facts that children tell, over those that were told
abbrev pub facts_from : Items → NodeFacts → NodeFacts
facts_from is f = record {
  uid = number_or f.uid (told FileUid is);
  name = words_or f.name (told Name is);
  times = record {
    create = time_or f.times.create (told CreationTime is);
    change = time_or f.times.change (told ChangeTime is);
    modify = time_or f.times.modify (told ModifyTime is);
    access = time_or f.times.access (told AccessTime is);
    backup = time_or f.times.backup (told BackupTime is);
  };
  readonly = truth_or f.readonly (told ReadOnly is);
  xattrs = xattrs_or f.xattrs (inside place.Attributes is);
}

-- the facts of a node before anything is told
abbrev pub blank_facts : NodeFacts
blank_facts = record { uid = 0; name = []; times = blank_times; readonly = false; xattrs = [] }

-- the facts of a node that elements tell
abbrev pub facts_in : Items → NodeFacts
facts_in is = facts_from is blank_facts

-- the facts that children tell are of their kinds
pub record FactForms (is : Items) : Type 0 where
  pub uid : IsOf number (told FileUid is)
  pub name : IsOf words (told Name is)
  pub create : IsOf time (told CreationTime is)
  pub change : IsOf time (told ChangeTime is)
  pub modify : IsOf time (told ModifyTime is)
  pub access : IsOf time (told AccessTime is)
  pub backup : IsOf time (told BackupTime is)
  pub readonly : IsOf truth (told ReadOnly is)

-- the elements of a directory tell facts in the right forms
pub directory_forms : (seen : List Tag) (is : Items) → Fits place.Directory seen is → FactForms is
directory_forms seen is fits = record {
  uid = λ v e. told_form place.Directory seen is FileUid form.Number v fits refl e;
  name = λ v e. told_form place.Directory seen is Name form.NodeName v fits refl e;
  create = λ v e. told_form place.Directory seen is CreationTime form.Time v fits refl e;
  change = λ v e. told_form place.Directory seen is ChangeTime form.Time v fits refl e;
  modify = λ v e. told_form place.Directory seen is ModifyTime form.Time v fits refl e;
  access = λ v e. told_form place.Directory seen is AccessTime form.Time v fits refl e;
  backup = λ v e. told_form place.Directory seen is BackupTime form.Time v fits refl e;
  readonly = λ v e. told_form place.Directory seen is ReadOnly form.Truth v fits refl e;
}

-- the elements of a file tell facts in the right forms
pub file_forms : (seen : List Tag) (is : Items) → Fits place.File seen is → FactForms is
file_forms seen is fits = record {
  uid = λ v e. told_form place.File seen is FileUid form.Number v fits refl e;
  name = λ v e. told_form place.File seen is Name form.NodeName v fits refl e;
  create = λ v e. told_form place.File seen is CreationTime form.Time v fits refl e;
  change = λ v e. told_form place.File seen is ChangeTime form.Time v fits refl e;
  modify = λ v e. told_form place.File seen is ModifyTime form.Time v fits refl e;
  access = λ v e. told_form place.File seen is AccessTime form.Time v fits refl e;
  backup = λ v e. told_form place.File seen is BackupTime form.Time v fits refl e;
  readonly = λ v e. told_form place.File seen is ReadOnly form.Truth v fits refl e;
}

-- a leaf among the children
pub facts_step : (t : Tag) (v : Val) (is : Items) (f : NodeFacts) → FactForms is → facts_from (item (plain t v) is) f ≡ facts_from is (facts_with (plain t v) f)
facts_step t v is f forms =
    let i = plain t v in
    rw (
      number_step f.uid (own FileUid i) (told FileUid is) forms.uid,
      words_step f.name (own Name i) (told Name is) forms.name,
      time_step f.times.create (own CreationTime i) (told CreationTime is) forms.create,
      time_step f.times.change (own ChangeTime i) (told ChangeTime is) forms.change,
      time_step f.times.modify (own ModifyTime i) (told ModifyTime is) forms.modify,
      time_step f.times.access (own AccessTime i) (told AccessTime is) forms.access,
      time_step f.times.backup (own BackupTime i) (told BackupTime is) forms.backup,
      truth_step f.readonly (own ReadOnly i) (told ReadOnly is) forms.readonly,
      or_none (inside place.Attributes is),
    ) refl

-- a parent among the children tells none of the leaves
no_leaves : (q : Container) (x is : Items) (f : NodeFacts) (xs : List Xattr) → record (facts_from (item (nested q x) is) f) { xattrs = xs } ≡ record (facts_from is f) { xattrs = xs }
no_leaves q x is f xs =
    rw (or_none (told FileUid is), or_none (told Name is), or_none (told CreationTime is), or_none (told ChangeTime is), or_none (told ModifyTime is), or_none (told AccessTime is), or_none (told BackupTime is), or_none (told ReadOnly is)) refl

-- one that has no attributes tells nothing
pub facts_parent : (q : Container) (x is : Items) (f : NodeFacts) → own_children place.Attributes (nested q x) ≡ None → facts_from (item (nested q x) is) f ≡ facts_from is f
facts_parent q x is f other =
    let old = facts_from (item (nested q x) is) f in
    ap (λ (o : Option Items). record old { xattrs = xattrs_or f.xattrs (or_else (inside place.Attributes is) o) }) other
    ∙ ap (λ (o : Option Items). record old { xattrs = xattrs_or f.xattrs o }) (or_none (inside place.Attributes is))
    ∙ no_leaves q x is f (xattrs_or f.xattrs (inside place.Attributes is))

-- the attributes, where no others follow
pub facts_attributes : (x is : Items) (f : NodeFacts) → inside place.Attributes is ≡ None → facts_from (item (nested place.Attributes x) is) f ≡ facts_from is (with_xattrs (xattrs_in x) f)
facts_attributes x is f none =
    let old = facts_from (item (nested place.Attributes x) is) f in
    ap (λ (o : Option Items). record old { xattrs = xattrs_or f.xattrs (or_else o (Some x)) }) none
    ∙ no_leaves place.Attributes x is f (f.xattrs ++ xattrs_in x)
    ∙ ap (λ (o : Option Items). record (facts_from is f) { xattrs = xattrs_or (f.xattrs ++ xattrs_in x) o }) (sym none)

-- the elements of a directory tell the facts that a reader takes from them
pub directory_facts : (is : Items) → Fits place.Directory [] is → TellsFacts is (facts_in is)
directory_facts is fits = record {
  uid = number_known 0 (told FileUid is) (must_tell place.Directory is FileUid form.Number fits refl refl);
  name = words_known [] (told Name is) (must_tell place.Directory is Name form.NodeName fits refl refl);
  create = time_known blank_times.create (told CreationTime is) (must_tell place.Directory is CreationTime form.Time fits refl refl);
  change = time_known blank_times.change (told ChangeTime is) (must_tell place.Directory is ChangeTime form.Time fits refl refl);
  modify = time_known blank_times.modify (told ModifyTime is) (must_tell place.Directory is ModifyTime form.Time fits refl refl);
  access = time_known blank_times.access (told AccessTime is) (must_tell place.Directory is AccessTime form.Time fits refl refl);
  backup = time_known blank_times.backup (told BackupTime is) (must_tell place.Directory is BackupTime form.Time fits refl refl);
  readonly = truth_known false (told ReadOnly is) (must_tell place.Directory is ReadOnly form.Truth fits refl refl);
  xattrs = has_xattrs (inside place.Attributes is) (λ x e. inside_fits place.Directory [] is place.Attributes x fits e);
}

-- the elements of a file tell the facts that a reader takes from them
pub file_facts : (is : Items) → Fits place.File [] is → TellsFacts is (facts_in is)
file_facts is fits = record {
  uid = number_known 0 (told FileUid is) (must_tell place.File is FileUid form.Number fits refl refl);
  name = words_known [] (told Name is) (must_tell place.File is Name form.NodeName fits refl refl);
  create = time_known blank_times.create (told CreationTime is) (must_tell place.File is CreationTime form.Time fits refl refl);
  change = time_known blank_times.change (told ChangeTime is) (must_tell place.File is ChangeTime form.Time fits refl refl);
  modify = time_known blank_times.modify (told ModifyTime is) (must_tell place.File is ModifyTime form.Time fits refl refl);
  access = time_known blank_times.access (told AccessTime is) (must_tell place.File is AccessTime form.Time fits refl refl);
  backup = time_known blank_times.backup (told BackupTime is) (must_tell place.File is BackupTime form.Time fits refl refl);
  readonly = truth_known false (told ReadOnly is) (must_tell place.File is ReadOnly form.Truth fits refl refl);
  xattrs = has_xattrs (inside place.Attributes is) (λ x e. inside_fits place.File [] is place.Attributes x fits e);
}

-- the facts that are told are these
pub only_facts : (is : Items) (f : NodeFacts) → TellsFacts is f → f ≡ facts_in is
only_facts is f t =
    rw (t.uid, t.name, t.create, t.change, t.modify, t.access, t.backup, t.readonly, ← no_other_xattrs (inside place.Attributes is) f.xattrs t.xattrs) refl

-- elements tell one set of facts of a node
pub one_facts : (is : Items) (a b : NodeFacts) → TellsFacts is a → TellsFacts is b → a ≡ b
one_facts is a b x y = only_facts is a x ∙ sym (only_facts is b y)
