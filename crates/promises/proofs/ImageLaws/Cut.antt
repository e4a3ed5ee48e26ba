-- Partitions that are cut at their ends.
use Rattle.std.proofs.Common.{◌≡◌, ◌≢◌, ◌⊎◌, ⊎_elim, inl, inr, ℕ, zero, suc, ◌+◌, ◌<◌, ◌≤◌, ◌++◌, List, [], ◌∷◌, length, take, Option, Some, None, refl, sym, ap, subst, ◌∙◌, arith}
use Rattle.std.specs.List.{flat_map, slice_get}
use Rattle.std.proofs.lemmas.List.{length-take-le, take-take}
use Rattle.tape_types.specs.declared.cartridges.Cartridge.{Cartridge}
use Rattle.tape_types.specs.declared.cartridges.Item.{Item}
use Rattle.tape_types.specs.declared.cartridges.Item.TheVariants.{Block, Mark, Torn}
use Rattle.content_laws.specs.Readings.{Construct, HasForm, LacksForm, front, items_of_group}
use Rattle.content_laws.specs.Content.{Bad, Content, Data, content, phase_of}
use Rattle.content_laws.proofs.ReadForms.{form, stops}
use Rattle.content_laws.proofs.SomeForm.{either}
use Rattle.content_laws.proofs.Whole.{front_cut, front_within}
use Rattle.cartridge_meaning.specs.Labels.{HasLabel, HasRecord}

-- what doesn't read as bad has the form, and the other way round
pub has_form : (items : List Item) → ((at : ℕ) → (content items).phase ≢ Bad at) → HasForm items
has_form items sound = ⊎_elim
    (λ (h : HasForm items). h)
    (λ (l : (at : ℕ) × LacksForm items at). absurd (sound l.0 (stops items l.0 l.1)))
    (either items)

-- a front is the beginning of its list
front_is : (items : List Item) (n : ℕ) → n ≤ length (front items) → take n (front items) ≡ take n items
front_is items zero le = refl
front_is [] (suc n) le = refl
front_is (Torn ∷ xs) (suc n) le = absurd (omega (arith, le))
front_is (Mark ∷ xs) (suc n) le = ap (λ (l : List Item). Mark ∷ l) (front_is xs n (omega (arith, le)))
front_is (Block b ∷ xs) (suc n) le = ap (λ (l : List Item). Block b ∷ l) (front_is xs n (omega (arith, le)))

-- what is cut off before the first Torn has no Torn
pub cut_is_whole : (items : List Item) (n : ℕ) → n ≤ length (front items) → front (take n items) ≡ take n items
cut_is_whole items n le = front_cut n items ∙ front_is items n le

-- labels are no torn items
labels_front : (items : List Item) (bytes more : List ℕ) → slice_get items 0 ≡ Some (Block bytes) → slice_get items 1 ≡ Some Mark
    → slice_get items 2 ≡ Some (Block more) → slice_get items 3 ≡ Some Mark → 4 ≤ length (front items)
labels_front [] bytes more a b c d = absurd (let no : None ≡ Some (Block bytes) = a in cc)
labels_front (x ∷ []) bytes more a b c d = absurd (let no : None ≡ Some Mark = b in cc)
labels_front (x ∷ y ∷ []) bytes more a b c d = absurd (let no : None ≡ Some (Block more) = c in cc)
labels_front (x ∷ y ∷ z ∷ []) bytes more a b c d = absurd (let no : None ≡ Some Mark = d in cc)
labels_front (x ∷ y ∷ z ∷ u ∷ rest) bytes more a b c d =
    let one : x ≡ Block bytes = cc in
    let two : y ≡ Mark = cc in
    let three : z ≡ Block more = cc in
    let four : u ≡ Mark = cc in
    let all : front (x ∷ y ∷ z ∷ u ∷ rest) ≡ Block bytes ∷ Mark ∷ Block more ∷ Mark ∷ front rest
    = ap (λ (l : List Item). front l) (λ t. one t ∷ two t ∷ three t ∷ four t ∷ rest) in
    omega (arith, ap (λ (l : List Item). length l) all)

-- a partition with the record and the label has at least four items in its front
pub long_front : (items : List Item) (r : _) (l : _) → HasRecord items r → HasLabel items l → 4 ≤ length (front items)
long_front items r l record_is label_is = labels_front items record_is.bytes label_is.bytes record_is.stands.block record_is.stands.mark label_is.stands.block label_is.stands.mark

not_bad : (at before : ℕ) (lead : List (List ℕ)) (begun : Option (List (List ℕ))) → phase_of before lead begun ≢ Bad at
not_bad at before lead None = λ bad. cc
not_bad at before lead (Some begun) = λ bad. cc

-- items that have the form of a partition are nowhere bad
pub is_good : (items : List Item) → HasForm items → (at : ℕ) → (content items).phase ≢ Bad at
is_good items h at bad =
    not_bad at (4 + length (flat_map items_of_group h.groups)) h.lead h.begun (sym (ap (λ (c : Content). c.phase) (form items h)) ∙ bad)
