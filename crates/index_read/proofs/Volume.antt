-- What the elements of a document tell of the volume.
use Rattle.std.proofs.Common.{◌≡◌, ℕ, List, ◌∷◌, ◌++◌, Option, Some, refl, sym, ap, ◌∙◌, append_assoc, append-nil}
use Rattle.ltfs_documents.specs.declared.doc_fields.tags.Tag.{Tag}
use Rattle.ltfs_documents.specs.declared.doc_fields.tags.Tag.TheVariants.{Partition, StartBlock, Size, Name, Location}
use Rattle.index_model.specs.declared.indexes.Policy.{Policy}
use Rattle.index_model.specs.declared.indexes.Spot.{Spot}
use Rattle.ltfs_documents.specs.declared.doc_elements.schema.Container.{Container}
use Rattle.ltfs_documents.specs.declared.doc_elements.schema.Container.TheVariants as place
use Rattle.ltfs_documents.specs.declared.doc_elements.schema.Form.TheVariants as form
use Rattle.ltfs_documents.specs.declared.doc_elements.schema.Child.TheVariants as child
use Rattle.ltfs_documents.specs.DocElements.Schema.{rule, spot_rule, criteria_rule, tag_of}
use Rattle.ltfs_documents.specs.DocElements.Pieces.{Val, words, time, uuid, letter, number, truth, lock, bytes}
use Rattle.ltfs_documents.specs.DocElements.Elements.{Item, plain, bare, nested, Items, no_items, item}
use Rattle.index_model.specs.Grammar.{own, told, names_in}
use Rattle.index_read.specs.Told.{State, letter_or, number_or, name_told, spot_with, policy_with, leaf_told, items_told}
use Rattle.index_read.proofs.Fits.{Fits}
use Rattle.index_read.proofs.OfForms.{has_form, letter_step, number_step}

-- ---- a place on tape

-- a place on tape with what these elements tell of it
abbrev pub spot_told : Items → Spot → Spot
spot_told is s = record { letter = letter_or s.letter (told Partition is); block = number_or s.block (told StartBlock is) }

-- a parent all of whose children are a place's letter and block
abbrev pub IsSpotPlace : Container → Type 0
IsSpotPlace p = (rule p ≡ spot_rule)

spot_step : (p : Container) (seen : List Tag) (i : Item) (more : Items) (s : Spot) → IsSpotPlace p → Fits p seen more → spot_told more (spot_with i s) ≡ spot_told (item i more) s
spot_step p seen i more s is fits =
    let a = sym (letter_step s.letter (own Partition i) (told Partition more) (has_form p seen more Partition form.Letter fits (ap (λ r. r Partition) is))) in
    let b = sym (number_step s.block (own StartBlock i) (told StartBlock more) (has_form p seen more StartBlock form.Bounded fits (ap (λ r. r StartBlock) is))) in
    λ k. record { letter = a k; block = b k }

no_parent : (tag : Tag) (q : Container) → spot_rule tag ≡ child.Parent q → ⊥
no_parent Location q e = cc
no_parent _ q e = cc

not_parent : (p : Container) (q : Container) (tag : Tag) → IsSpotPlace p → rule p tag ≡ child.Parent q → ⊥
not_parent p q tag is e = no_parent tag q (sym (ap (λ r. r tag) is) ∙ e)

-- with this place as the index's own
abbrev pub with_here : Spot → State → State
with_here spot s = record s { volume = record s.volume { here = spot } }

-- the elements of the index's own place change that place alone
pub here_told : (seen : List Tag) (is : Items) (node : ℕ) (s : State) → Fits place.Here seen is → items_told place.Here node is s ≡ with_here (spot_told is s.volume.here) s
here_told seen no_items node s fits = refl
here_told seen (item (plain t v) more) node s fits =
    here_told (t ∷ seen) more node (leaf_told place.Here node (plain t v) s) fits.2 ∙ ap (λ x. with_here x s) (spot_step place.Here (t ∷ seen) (plain t v) more s.volume.here refl fits.2)
here_told seen (item (bare q) more) node s fits = absurd (not_parent place.Here q (tag_of q) refl fits.0.0)
here_told seen (item (nested q is) more) node s fits = absurd (not_parent place.Here q (tag_of q) refl fits.0.0)

abbrev pub with_back : Option Spot → State → State
with_back spot s = record s { volume = record s.volume { back = spot } }

-- the elements of the place of the index before change that place alone
pub back_told : (seen : List Tag) (is : Items) (node : ℕ) (spot : Spot) (s : State) → Fits place.Back seen is → items_told place.Back node is (with_back (Some spot) s) ≡ with_back (Some (spot_told is spot)) s
back_told seen no_items node spot s fits = refl
back_told seen (item (plain t v) more) node spot s fits =
    back_told (t ∷ seen) more node (spot_with (plain t v) spot) s fits.2 ∙ ap (λ x. with_back (Some x) s) (spot_step place.Back (t ∷ seen) (plain t v) more spot refl fits.2)
back_told seen (item (bare q) more) node spot s fits = absurd (not_parent place.Back q (tag_of q) refl fits.0.0)
back_told seen (item (nested q is) more) node spot s fits = absurd (not_parent place.Back q (tag_of q) refl fits.0.0)

-- ---- a policy

-- a placement policy with what these elements tell of it
abbrev pub policy_told : Items → Policy → Policy
policy_told is p = record { size = number_or p.size (told Size is); names = p.names ++ names_in is }

no_criteria : (tag : Tag) (q : Container) → criteria_rule tag ≡ child.Parent q → ⊥
no_criteria Location q e = cc
no_criteria _ q e = cc

names_step : (tag : Tag) (v : Val) (more : Items) → names_in (item (plain tag v) more) ≡ name_told (own Name (plain tag v)) ++ names_in more
names_step Name (words t) more = refl
names_step Name (time c) more = refl
names_step Name (uuid n) more = refl
names_step Name (letter b) more = refl
names_step Name (number n) more = refl
names_step Name (truth is) more = refl
names_step Name (lock state) more = refl
names_step Name (bytes bs) more = refl
names_step _ v more = refl

policy_step : (seen : List Tag) (tag : Tag) (v : Val) (more : Items) (p : Policy) → Fits place.Criteria seen more → policy_told more (policy_with (plain tag v) p) ≡ policy_told (item (plain tag v) more) p
policy_step seen tag v more p fits =
    let a = sym (number_step p.size (own Size (plain tag v)) (told Size more) (has_form place.Criteria seen more Size form.Bounded fits refl)) in
    let b : (p.names ++ name_told (own Name (plain tag v))) ++ names_in more ≡ p.names ++ names_in (item (plain tag v) more) = append_assoc p.names (name_told (own Name (plain tag v))) (names_in more) ∙ ap (λ l. p.names ++ l) (sym (names_step tag v more)) in
    λ k. record { size = a k; names = b k }

-- with this placement policy
abbrev pub with_policy : Option Policy → State → State
with_policy policy s = record s { volume = record s.volume { policy = policy } }

-- the elements of the criteria change the placement policy alone
pub criteria_told : (seen : List Tag) (is : Items) (node : ℕ) (p : Policy) (s : State) → Fits place.Criteria seen is → items_told place.Criteria node is (with_policy (Some p) s) ≡ with_policy (Some (policy_told is p)) s
criteria_told seen no_items node p s fits = ap (λ l. with_policy (Some (record { size = p.size; names = l })) s) (sym (append-nil p.names))
criteria_told seen (item (plain t v) more) node p s fits =
    criteria_told (t ∷ seen) more node (policy_with (plain t v) p) s fits.2 ∙ ap (λ x. with_policy (Some x) s) (policy_step (t ∷ seen) t v more p fits.2)
criteria_told seen (item (bare q) more) node p s fits = absurd (no_criteria (tag_of q) q fits.0.0)
criteria_told seen (item (nested q is) more) node p s fits = absurd (no_criteria (tag_of q) q fits.0.0)
