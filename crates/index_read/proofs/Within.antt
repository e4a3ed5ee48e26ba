-- What the elements of nodes tell of the volume, which is nothing; and what those of an index tell of it.
use Rattle.std.proofs.Common.{◌≡◌, ℕ, List, [], ◌∷◌, Bool, true, false, ◌==◌, Option, Some, None, IfSome, refl, sym, ap, subst, ◌∙◌}
use Rattle.std.proofs.lemmas.Bool.{eq-eqb}
use Rattle.ltfs_documents.specs.declared.doc_fields.tags.Tag.{Tag}
use Rattle.ltfs_documents.specs.declared.doc_fields.tags.Tag.TheVariants.{Creator, Comment, VolumeUuid, GenerationNumber, UpdateTime, AllowPolicyUpdate, VolumeLockState, HighestFileUid, Size}
use Rattle.ltfs_documents.specs.DocElements.Children.{code, member}
use Rattle.index_model.specs.declared.indexes.Policy.{Policy}
use Rattle.index_model.specs.declared.indexes.Spot.{Spot}
use Rattle.ltfs_documents.specs.declared.doc_elements.schema.Container.{Container}
use Rattle.ltfs_documents.specs.declared.doc_elements.schema.Container.TheVariants as place
use Rattle.ltfs_documents.specs.declared.doc_elements.schema.Form.{Form}
use Rattle.ltfs_documents.specs.declared.doc_elements.schema.Form.TheVariants as form
use Rattle.ltfs_documents.specs.declared.doc_elements.schema.Child.{Child}
use Rattle.ltfs_documents.specs.declared.doc_elements.schema.Child.TheVariants as child
use Rattle.ltfs_documents.specs.DocElements.Schema.{rule, required, tag_of, place_code}
use Rattle.index_model.specs.Values.{VolumeFacts}
use Rattle.ltfs_documents.specs.DocElements.Elements.{Item, plain, bare, nested, Items, no_items, item, item_tag}
use Rattle.index_model.specs.Grammar.{or_else, own, told, own_children, inside}
use Rattle.index_read.specs.Told.{State, words_or, words_told, time_or, uuid_or, number_or, truth_or, lock_told, blank_spot, blank_policy, begun, ended, leaf_told, node_in, item_told, items_told}
use Rattle.index_read.proofs.Fits.{Fits, FitsItem, same_tag, missing_member}
use Rattle.index_read.proofs.Facts.{inside_fits}
use Rattle.index_read.proofs.OfForms.{has_form, words_step, words_told_step, time_step, uuid_step, number_step, truth_step, lock_step}
use Rattle.index_read.proofs.Volume.{spot_told, with_here, here_told, back_told, policy_told, with_policy, criteria_told}

-- the parents in a directory
abbrev pub is_within : Container → Bool
is_within place.Root = true
is_within place.Directory = true
is_within place.Contents = true
is_within place.File = true
is_within place.Attributes = true
is_within place.ExtentInfo = true
is_within place.Extent = true
is_within place.Xattr = true
is_within _ = false

child_within : (p q : Container) → rule p (tag_of q) ≡ child.Parent q → is_within p ≡ true → is_within q ≡ true
child_within place.Label q e h = absurd cc
child_within place.Own q e h = absurd cc
child_within place.Letters q e h = absurd cc
child_within place.Index q e h = absurd cc
child_within place.Here q e h = absurd cc
child_within place.Back q e h = absurd cc
child_within place.Policy q e h = absurd cc
child_within place.Criteria q e h = absurd cc
child_within place.Root place.Contents e h = refl
child_within place.Root place.Attributes e h = refl
child_within place.Root _ e h = absurd cc
child_within place.Directory place.Contents e h = refl
child_within place.Directory place.Attributes e h = refl
child_within place.Directory _ e h = absurd cc
child_within place.Contents place.Directory e h = refl
child_within place.Contents place.File e h = refl
child_within place.Contents _ e h = absurd cc
child_within place.File place.ExtentInfo e h = refl
child_within place.File place.Attributes e h = refl
child_within place.File _ e h = absurd cc
child_within place.Attributes place.Xattr e h = refl
child_within place.Attributes _ e h = absurd cc
child_within place.ExtentInfo place.Extent e h = refl
child_within place.ExtentInfo _ e h = absurd cc
child_within place.Extent place.Extent e h = absurd cc
child_within place.Extent _ e h = absurd cc
child_within place.Xattr place.Xattr e h = absurd cc
child_within place.Xattr _ e h = absurd cc

begun_within : (q : Container) (node : ℕ) (s : State) → is_within q ≡ true → (begun q node s).volume ≡ s.volume
begun_within place.Index node s h = refl
begun_within place.Here node s h = absurd cc
begun_within place.Back node s h = absurd cc
begun_within place.Criteria node s h = absurd cc
begun_within _ node s h = refl

ended_within : (q : Container) (node : ℕ) (s : State) → (ended q node s).volume ≡ s.volume
ended_within place.Extent node s = refl
ended_within place.Xattr node s = refl
ended_within _ node s = refl

leaf_within : (p : Container) (node : ℕ) (i : Item) (s : State) → is_within p ≡ true → (leaf_told p node i s).volume ≡ s.volume
leaf_within place.Index node i s h = absurd cc
leaf_within place.Here node i s h = absurd cc
leaf_within place.Back node i s h = absurd cc
leaf_within place.Criteria node i s h = absurd cc
leaf_within _ node i s h = refl

mutual
  item_within : (p : Container) (node : ℕ) (i : Item) (s : State) → FitsItem p i → is_within p ≡ true → (item_told p node i s).volume ≡ s.volume
  item_within p node (plain t v) s fits h = leaf_within p node (plain t v) s h
  item_within p node (bare q) s fits h = ended_within q _ (begun q node s) ∙ begun_within q node s (child_within p q fits.0 h)
  item_within p node (nested q is) s fits h =
      let within = child_within p q fits.0 h in
      ended_within q _ (items_told q (node_in q node s) is (begun q node s)) ∙ items_within q [] (node_in q node s) is (begun q node s) fits.1 within ∙ begun_within q node s within

  pub items_within : (p : Container) (seen : List Tag) (node : ℕ) (is : Items) (s : State) → Fits p seen is → is_within p ≡ true → (items_told p node is s).volume ≡ s.volume
  items_within p seen node no_items s fits h = refl
  items_within p seen node (item i is) s fits h = items_within p (item_tag i ∷ seen) node is (item_told p node i s) fits.2 h ∙ item_within p node i s fits.0 h

-- ---- the places and the policy of an index

-- the index's own place as its element tells it, or as it was
abbrev pub here_or : Spot → Option Items → Spot
here_or old None = old
here_or old (Some is) = spot_told is blank_spot

-- the place of the index before as its element tells it, or as it was
abbrev pub back_or : Option Spot → Option Items → Option Spot
back_or old None = old
back_or old (Some is) = Some (spot_told is blank_spot)

-- the placement policy as the criteria tell it, or as it was
abbrev pub criteria_or : Option Policy → Option Items → Option Policy
criteria_or old None = old
criteria_or old (Some is) = Some (policy_told is blank_policy)

-- the placement policy as its element tells it, or as it was
abbrev pub policy_or : Option Policy → Option Items → Option Policy
policy_or old None = old
policy_or old (Some is) = criteria_or old (inside place.Criteria is)

here_twice : (a : Spot) (o p : Option Items) → here_or (here_or a o) p ≡ here_or a (or_else p o)
here_twice a o None = refl
here_twice a o (Some is) = refl

back_twice : (a : Option Spot) (o p : Option Items) → back_or (back_or a o) p ≡ back_or a (or_else p o)
back_twice a o None = refl
back_twice a o (Some is) = refl

criteria_twice : (a : Option Policy) (o p : Option Items) → criteria_or (criteria_or a o) p ≡ criteria_or a (or_else p o)
criteria_twice a o None = refl
criteria_twice a o (Some is) = refl

policy_twice : (a : Option Policy) (o p : Option Items) → IfSome p (λ is. (c : Items) × (inside place.Criteria is ≡ Some c)) → policy_or (policy_or a o) p ≡ policy_or a (or_else p o)
policy_twice a o None h = refl
policy_twice a o (Some is) h = rw (h.1) refl

-- ---- parents that must be there

own_parent_there : (p : Container) (i : Item) (q : Container) → FitsItem p i → rule p (tag_of q) ≡ child.Parent q → (code (tag_of q) == code (item_tag i)) ≡ true → (is : Items) × (own_children q i ≡ Some is)
own_parent_there p (plain u w) q fits r e = absurd (let bad : ◌≡◌ {A = Child} (child.Parent q) (child.Leaf fits.0) = sym r ∙ ap (rule p) (same_tag (tag_of q) u e) ∙ fits.1 in cc)
own_parent_there p (bare x) q fits r e =
    let both : ◌≡◌ {A = Child} (child.Parent q) (child.Parent x) = sym r ∙ ap (rule p) (same_tag (tag_of q) (tag_of x) e) ∙ fits.0 in
    let same : q ≡ x = cc in
    let code : (place_code q == place_code x) ≡ true = subst (λ y. (place_code q == place_code y) ≡ true) same (eq-eqb (place_code q) (place_code q) refl) in
    (no_items, rw code refl)
own_parent_there p (nested x js) q fits r e =
    let both : ◌≡◌ {A = Child} (child.Parent q) (child.Parent x) = sym r ∙ ap (rule p) (same_tag (tag_of q) (tag_of x) e) ∙ fits.0 in
    let same : q ≡ x = cc in
    let code : (place_code q == place_code x) ≡ true = subst (λ y. (place_code q == place_code y) ≡ true) same (eq-eqb (place_code q) (place_code q) refl) in
    (js, rw code refl)

inside_there : (p : Container) (seen : List Tag) (is : Items) (q : Container) → Fits p seen is → rule p (tag_of q) ≡ child.Parent q → member (tag_of q) (required p) ≡ true → member (tag_of q) seen ≡ false → (js : Items) × (inside q is ≡ Some js)
inside_there p seen no_items q fits r must new = absurd (let bad : true ≡ false = sym (missing_member (tag_of q) (required p) seen fits must) ∙ new in cc)
inside_there p seen (item i is) q fits r must new = go (inside q is) refl (code (tag_of q) == code (item_tag i)) refl (inside_there p (item_tag i ∷ seen) is q fits.2 r must)
  where
    go : (o : Option Items) → inside q is ≡ o → (b : Bool) → (code (tag_of q) == code (item_tag i)) ≡ b → (member (tag_of q) (item_tag i ∷ seen) ≡ false → (js : Items) × (inside q is ≡ Some js)) → (js : Items) × (or_else (inside q is) (own_children q i) ≡ Some js)
    go (Some js) h b same later = (js, rw h refl)
    go None h true same later = let o = own_parent_there p i q fits.0 r same in (o.0, rw (h, o.1) refl)
    go None h false same later =
        let more = later (rw (same, new) refl) in
        absurd (let bad : None ≡ Some more.0 = sym h ∙ more.1 in cc)

-- a parent that must be there is there, with its children
pub must_have : (p : Container) (is : Items) (q : Container) → Fits p [] is → rule p (tag_of q) ≡ child.Parent q → member (tag_of q) (required p) ≡ true → (js : Items) × (inside q is ≡ Some js) × Fits q [] js
must_have p is q fits r must =
    let h = inside_there p [] is q fits r must refl in
    (h.0, h.1, inside_fits p [] is q h.0 fits h.1)

-- ---- what the children of a policy tell

-- the elements of the placement policy change that policy alone
pub policy_is : (seen : List Tag) (is : Items) (node : ℕ) (s : State) → Fits place.Policy seen is → items_told place.Policy node is s ≡ with_policy (criteria_or s.volume.policy (inside place.Criteria is)) s
policy_is seen no_items node s fits = refl
policy_is seen (item (plain t v) more) node s fits = absurd (no_leaf t fits.0.0 fits.0.1)
  where
    no_leaf : (t : Tag) (f : Form) → rule place.Policy t ≡ child.Leaf f → ⊥
    no_leaf Size f e = cc
    no_leaf _ f e = cc
policy_is seen (item (bare place.Criteria) more) node s fits = absurd (let bad = fits.0.1 in cc)
policy_is seen (item (bare _) more) node s fits = absurd (let bad = fits.0.0 in cc)
policy_is seen (item (nested place.Criteria is) more) node s fits =
    let here = criteria_told [] is node blank_policy s fits.0.1 in
    let rest = policy_is (tag_of place.Criteria ∷ seen) more node (with_policy (Some (policy_told is blank_policy)) s) fits.2 in
    ap (items_told place.Policy node more) here ∙ rest ∙ ap (λ x. with_policy x s) (criteria_twice s.volume.policy (Some is) (inside place.Criteria more))
policy_is seen (item (nested _ is) more) node s fits = absurd (let bad = fits.0.0 in cc)

-- ---- the volume

-- what the children of an index tell of the volume
abbrev pub volume_told : Items → VolumeFacts → VolumeFacts
volume_told is v = record {
  creator = words_or v.creator (told Creator is);
  comment = words_told v.comment (told Comment is);
  uuid = uuid_or v.uuid (told VolumeUuid is);
  generation = number_or v.generation (told GenerationNumber is);
  updated = time_or v.updated (told UpdateTime is);
  here = here_or v.here (inside place.Here is);
  back = back_or v.back (inside place.Back is);
  allow = truth_or v.allow (told AllowPolicyUpdate is);
  policy = policy_or v.policy (inside place.Policy is);
  lock = lock_told v.lock (told VolumeLockState is);
  highest = number_or v.highest (told HighestFileUid is);
}

-- what one of them tells
abbrev volume_by : Item → VolumeFacts → VolumeFacts
volume_by i v = record {
  creator = words_or v.creator (own Creator i);
  comment = words_told v.comment (own Comment i);
  uuid = uuid_or v.uuid (own VolumeUuid i);
  generation = number_or v.generation (own GenerationNumber i);
  updated = time_or v.updated (own UpdateTime i);
  here = here_or v.here (own_children place.Here i);
  back = back_or v.back (own_children place.Back i);
  allow = truth_or v.allow (own AllowPolicyUpdate i);
  policy = policy_or v.policy (own_children place.Policy i);
  lock = lock_told v.lock (own VolumeLockState i);
  highest = number_or v.highest (own HighestFileUid i);
}

has_criteria : (seen : List Tag) (is : Items) → Fits place.Index seen is → IfSome (inside place.Policy is) (λ js. (c : Items) × (inside place.Criteria js ≡ Some c))
has_criteria seen is fits = go (inside place.Policy is) refl
  where
    go : (o : Option Items) → inside place.Policy is ≡ o → IfSome o (λ js. (c : Items) × (inside place.Criteria js ≡ Some c))
    go None e = tt
    go (Some js) e = let h = must_have place.Policy js place.Criteria (inside_fits place.Index seen is place.Policy js fits e) refl refl in (h.0, h.1)

volume_step : (seen : List Tag) (i : Item) (more : Items) (v : VolumeFacts) → Fits place.Index seen more → volume_told more (volume_by i v) ≡ volume_told (item i more) v
volume_step seen i more v fits =
    let p = place.Index in
    let creator = sym (words_step v.creator (own Creator i) (told Creator more) (has_form p seen more Creator form.Text fits refl)) in
    let comment = sym (words_told_step v.comment (own Comment i) (told Comment more) (has_form p seen more Comment form.Text fits refl)) in
    let uuid = sym (uuid_step v.uuid (own VolumeUuid i) (told VolumeUuid more) (has_form p seen more VolumeUuid form.Uuid fits refl)) in
    let generation = sym (number_step v.generation (own GenerationNumber i) (told GenerationNumber more) (has_form p seen more GenerationNumber form.Generation fits refl)) in
    let updated = sym (time_step v.updated (own UpdateTime i) (told UpdateTime more) (has_form p seen more UpdateTime form.Time fits refl)) in
    let here = here_twice v.here (own_children place.Here i) (inside place.Here more) in
    let back = back_twice v.back (own_children place.Back i) (inside place.Back more) in
    let allow = sym (truth_step v.allow (own AllowPolicyUpdate i) (told AllowPolicyUpdate more) (has_form p seen more AllowPolicyUpdate form.Truth fits refl)) in
    let policy = policy_twice v.policy (own_children place.Policy i) (inside place.Policy more) (has_criteria seen more fits) in
    let lock = sym (lock_step v.lock (own VolumeLockState i) (told VolumeLockState more) (has_form p seen more VolumeLockState form.Lock fits refl)) in
    let highest = sym (number_step v.highest (own HighestFileUid i) (told HighestFileUid more) (has_form p seen more HighestFileUid form.Number fits refl)) in
    λ k. record {
      creator = creator k;
      comment = comment k;
      uuid = uuid k;
      generation = generation k;
      updated = updated k;
      here = here k;
      back = back k;
      allow = allow k;
      policy = policy k;
      lock = lock k;
      highest = highest k;
    }

item_volume : (i : Item) (node : ℕ) (s : State) → FitsItem place.Index i → (item_told place.Index node i s).volume ≡ volume_by i s.volume
item_volume (plain t v) node s fits = refl
item_volume (bare place.Here) node s fits = absurd (let bad = fits.1 in cc)
item_volume (bare place.Back) node s fits = absurd (let bad = fits.1 in cc)
item_volume (bare place.Policy) node s fits = absurd (let bad = fits.1 in cc)
item_volume (bare place.Root) node s fits = absurd (let bad = fits.1 in cc)
item_volume (bare _) node s fits = absurd (let bad = fits.0 in cc)
item_volume (nested place.Here is) node s fits = ap (λ x. x.volume) (here_told [] is node (with_here blank_spot s) fits.1)
item_volume (nested place.Back is) node s fits = ap (λ x. x.volume) (back_told [] is node blank_spot s fits.1)
item_volume (nested place.Policy is) node s fits = ap (λ x. x.volume) (policy_is [] is node s fits.1)
item_volume (nested place.Root is) node s fits = items_within place.Root [] _ is (begun place.Root node s) fits.1 refl
item_volume (nested _ is) node s fits = absurd (let bad = fits.0 in cc)

-- the elements of an index change the facts of the volume that they tell of
pub volume_is : (seen : List Tag) (is : Items) (node : ℕ) (s : State) → Fits place.Index seen is → (items_told place.Index node is s).volume ≡ volume_told is s.volume
volume_is seen no_items node s fits = refl
volume_is seen (item i more) node s fits =
    volume_is (item_tag i ∷ seen) more node (item_told place.Index node i s) fits.2 ∙ ap (volume_told more) (item_volume i node s fits.0) ∙ volume_step (item_tag i ∷ seen) i more s.volume fits.2
