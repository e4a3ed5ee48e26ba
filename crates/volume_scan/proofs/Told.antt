-- What is told of a partition that was read to its end, or to a fault.
use Rattle.std.proofs.Common.{ℕ, ◌+◌, ◌≤◌, ◌≡◌, ◌≢◌, ⊎_elim, List, length, map, reverse, Option, Some, None, refl, sym, ◌∙◌, ap, subst, arith}
use Rattle.std.proofs.lemmas.List.{length-map, reverse-reverse}
use Rattle.std.specs.List.{flat_map}
use Rattle.tape_types.specs.declared.cartridges.Item.{Item}
use Rattle.tape_types.specs.declared.cartridges.Item.TheVariants.{Block}
use Rattle.content_laws.specs.Readings.{HasForm, LacksForm, constructs_from, front, items_of_group, items_of_tail}
use Rattle.content_laws.specs.Readings as readings
use Rattle.content_laws.specs.Content.{Phase, Data, Index, Bad, content, phase_of}
use Rattle.content_laws.specs.Content as content
use Rattle.content_laws.specs.Ends.{lead_of}
use Rattle.content_laws.proofs.ReadForms.{form, never_both, stops}
use Rattle.content_laws.proofs.SomeForm.{either}
use Rattle.content_laws.proofs.Placed.{pos_is}
use Rattle.volume_scan.specs.declared.content.Content.{Content}
use Rattle.volume_scan.specs.Scans.{IsContent, places_of}

lead_is : (before : ℕ) (lead : List (List ℕ)) (begun : Option (List (List ℕ)))
    → lead_of (before + length (items_of_tail lead begun)) (phase_of before lead begun) ≡ before + length lead
lead_is before lead None = omega (arith, length-map lead Block)
lead_is before lead (Some begun) = refl

-- a partition that is read to the end of its front has the form
has_form : (items : List Item) → ((at : ℕ) → (content items).phase ≢ Bad at) → HasForm items
has_form items sound =
    ⊎_elim
    (λ (f : HasForm items). f)
    (λ (l : (at : ℕ) × LacksForm items at). absurd (sound l.0 (stops items l.0 l.1)))
    (either items)

-- a partition whose reading stops has not
pub lacks_form : (items : List Item) (at : ℕ) → (content items).phase ≡ Bad at → LacksForm items at
lacks_form items at bad =
    ⊎_elim
    (λ (f : HasForm items). absurd (form_not_bad at (4 + length (flat_map items_of_group f.groups)) f.lead f.begun (sym (ap (λ (s : content.Content). s.phase) (form items f)) ∙ bad)))
    (λ (l : (other : ℕ) × LacksForm items other).
    let same : l.0 ≡ at = (let both : Bad l.0 ≡ Bad at = sym (stops items l.0 l.1) ∙ bad in cc) in subst (λ (n : ℕ). LacksForm items n) same l.1)
    (either items)
  where
    form_not_bad : (at before : ℕ) (lead : List (List ℕ)) (begun : Option (List (List ℕ))) → phase_of before lead begun ≡ Bad at → ⊥
    form_not_bad at before lead None bad = cc
    form_not_bad at before lead (Some begun) bad = cc

-- what is told by the places of what was read, item by item
pub record IsRead (items : List Item) (found : Content) : Type 0 where
  pub sound : (at : ℕ) → (content items).phase ≢ Bad at
  pub constructs : found.constructs ≡ map places_of (reverse (content items).constructs)
  pub lead : found.lead ≡ lead_of (content items).pos (content items).phase
  pub front : found.front ≡ (content items).pos

form_constructs : (items : List Item) (f : HasForm items) → map places_of (reverse (content items).constructs) ≡ map places_of (constructs_from 4 f.groups)
form_constructs items f =
    ap (λ (s : content.Content). map places_of (reverse s.constructs)) (form items f)
    ∙ ap (λ (ks : List readings.Construct). map places_of ks) (reverse-reverse (constructs_from 4 f.groups))

form_lead : (items : List Item) (f : HasForm items)
    → lead_of (content items).pos (content items).phase ≡ 4 + length (flat_map items_of_group f.groups) + length f.lead
form_lead items f =
    ap (λ (s : content.Content). lead_of s.pos s.phase) (form items f) ∙ lead_is (4 + length (flat_map items_of_group f.groups)) f.lead f.begun

-- what is told of a partition that was read to its end is its content
pub read_told : (items : List Item) (found : Content) → 4 ≤ length (front items) → IsRead items found → IsContent items found
read_told items found long r =
    let f = has_form items r.sound in
    record {
      form = f;
      constructs = r.constructs ∙ form_constructs items f;
      lead = r.lead ∙ form_lead items f;
      front = r.front ∙ pos_is items long r.sound;
    }

-- and the other way
told_read : (items : List Item) (found : Content) → 4 ≤ length (front items) → IsContent items found → IsRead items found
told_read items found long told =
    let sound : (at : ℕ) → (content items).phase ≢ Bad at = λ at bad. never_both items at told.form (lacks_form items at bad) in
    record {
      sound = sound;
      constructs = told.constructs ∙ sym (form_constructs items told.form);
      lead = told.lead ∙ sym (form_lead items told.form);
      front = told.front ∙ sym (pos_is items long sound);
    }
