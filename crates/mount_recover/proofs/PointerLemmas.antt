-- Which indexes a pointer names.
use Rattle.std.proofs.Common.{ℕ, zero, suc, ◌+◌, ◌<◌, ◌≤◌, ◌≡◌, Bool, ◌≢◌, ◌⊎◌, ⊎_elim, inl, inr, List, [], ◌∷◌, ◌++◌, length, map, reverse, slice_get, get_or, Option, Some, None, refl, sym, ◌∙◌, ap, subst}
use Rattle.std.specs.Prelude.{◌↔◌, IsTrue}
use Rattle.index_model.specs.declared.indexes.Index.{Index}
use Rattle.index_model.specs.declared.indexes.Spot.{Spot}
use Rattle.ltfs_label.specs.declared.Label.{Label}
use Rattle.content_laws.specs.Readings as readings
use Rattle.cartridge_meaning.specs.Pointers.{NamesOneOf, PointsBack, newest_spot}
use Rattle.volume_scan.specs.declared.content.Construct.{Construct}
use Rattle.volume_scan.specs.Scans.{places_of}
use Rattle.std.proofs.lemmas.Option.{get_or_from_slice_get, slice_get_within}
use Rattle.mount_recover.specs.Lasts.{HasFirst, generation_in}
use Rattle.mount_recover.proofs.ScanLemmas.{last_first}

-- no index begins at a block that was compared with each of them
pub nowhere : (places : List Construct) (block n : ℕ) → ((k : ℕ) (d : Construct) → k < n → (get_or places k d).first ≢ block) → length places ≡ n → HasFirst places block → ⊥
nowhere places block n none len h =
    none h.at h.place (subst (λ (m : ℕ). h.at < m) len (slice_get_within places h.at h.place h.stands))
    (ap (λ (p : Construct). p.first) (get_or_from_slice_get places h.at h.place h.place h.stands) ∙ h.first)

first_more : (x : Construct) (xs : List Construct) (block : ℕ) → HasFirst xs block → HasFirst (x ∷ xs) block
first_more x xs block h = record { at = suc h.at; place = h.place; stands = h.stands; first = h.first }

in_front : (xs : List Construct) (y : Construct) (block : ℕ) → HasFirst xs block → HasFirst (xs ++ y ∷ []) block
in_front [] y block h = absurd (let none = h.stands in cc none)
in_front (x ∷ xs) y block h = at_place (in_front xs y block) h.at h.stands
  where
    at_place : (HasFirst xs block → HasFirst (xs ++ y ∷ []) block) → (n : ℕ) → slice_get (x ∷ xs) n ≡ Some h.place → HasFirst (x ∷ (xs ++ y ∷ [])) block
    at_place rest zero is = record { at = 0; place = h.place; stands = is; first = h.first }
    at_place rest (suc n) is = first_more x (xs ++ y ∷ []) block (rest (record { at = n; place = h.place; stands = is; first = h.first }))

at_end : (xs : List Construct) (y : Construct) (block : ℕ) → y.first ≡ block → HasFirst (xs ++ y ∷ []) block
at_end [] y block is = record { at = 0; place = y; stands = refl; first = is }
at_end (x ∷ xs) y block is = first_more x (xs ++ y ∷ []) block (at_end xs y block is)

front_or_end : (xs : List Construct) (y : Construct) (block n : ℕ) (place : Construct) → slice_get (xs ++ y ∷ []) n ≡ Some place → place.first ≡ block
    → HasFirst xs block ⊎ (y.first ≡ block)
front_or_end [] y block zero place is first = inr (let same : y ≡ place = cc is in ap (λ (p : Construct). p.first) same ∙ first)
front_or_end [] y block (suc n) place is first = absurd (cc is)
front_or_end (x ∷ xs) y block zero place is first = inl (record { at = 0; place = place; stands = is; first = first })
front_or_end (x ∷ xs) y block (suc n) place is first =
    ⊎_elim
    (λ (h : HasFirst xs block). inl (first_more x xs block h))
    (λ (e : y.first ≡ block). inr e)
    (front_or_end xs y block n place is first)

spot_parts : (a b c d : ℕ) → ◌≡◌ {A = Option Spot} (Some (record { letter = a; block = b })) (Some (record { letter = c; block = d })) → (a ≡ c) × (b ≡ d)
spot_parts a b c d e = (ap letter_in e, ap block_in e)
  where
    letter_in : Option Spot → ℕ
    letter_in None = 0
    letter_in (Some s) = s.letter

    block_in : Option Spot → ℕ
    block_in None = 0
    block_in (Some s) = s.block

-- no pointer names no index
pub none_named : (label : Label) (ks : List readings.Construct) → NamesOneOf label None ks → ⊥
none_named label [] names = names
none_named label (k ∷ older) (inl e) = cc e
none_named label (k ∷ older) (inr names) = none_named label older names

named_there : (label : Label) (spot : Spot) (ks : List readings.Construct) → NamesOneOf label (Some spot) ks
    → (spot.letter ≡ label.dpart) × HasFirst (map places_of (reverse ks)) spot.block
named_there label spot [] names = absurd names
named_there label spot (k ∷ older) (inl e) =
    let parts = spot_parts spot.letter spot.block label.dpart (k.mark + 1) e in
    (parts.0, subst (λ (l : List Construct). HasFirst l spot.block) (sym (last_first k older)) (at_end (map places_of (reverse older)) (places_of k) spot.block (sym parts.1)))
named_there label spot (k ∷ older) (inr names) =
    let rest = named_there label spot older names in
    (rest.0, subst (λ (l : List Construct). HasFirst l spot.block) (sym (last_first k older)) (in_front (map places_of (reverse older)) (places_of k) spot.block rest.1))

there_named : (label : Label) (spot : Spot) (ks : List readings.Construct) → spot.letter ≡ label.dpart → HasFirst (map places_of (reverse ks)) spot.block
    → NamesOneOf label (Some spot) ks
there_named label spot [] letter h = absurd (let none = h.stands in cc none)
there_named label spot (k ∷ older) letter h =
    let t = subst (λ (l : List Construct). HasFirst l spot.block) (last_first k older) h in
    ⊎_elim
    (λ (rest : HasFirst (map places_of (reverse older)) spot.block). inr (there_named label spot older letter rest))
    (λ (e : k.mark + 1 ≡ spot.block). inl (λ i. Some (record { letter = letter i; block = sym e i })))
    (front_or_end (map places_of (reverse older)) (places_of k) spot.block t.at t.place t.stands t.first)

-- a pointer names an index just where one begins at its block, on its partition
pub names : (label : Label) (spot : Spot) (ks : List readings.Construct) (places : List Construct) → places ≡ map places_of (reverse ks)
    → ((spot.letter ≡ label.dpart) × HasFirst places spot.block) ↔ NamesOneOf label (Some spot) ks
names label spot ks places are = (
  λ h. there_named label spot ks h.0 (subst (λ (l : List Construct). HasFirst l spot.block) are h.1),
  λ n. let h = named_there label spot ks n in (h.0, subst (λ (l : List Construct). HasFirst l spot.block) (sym are) h.1),
)

-- ---- where an index of the index partition points back to, by the generation of the data partition's last one

module _ (label : Label) (index : Index) (ks : List readings.Construct) (r : Bool) where
  -- where the data partition has no index, there must be no pointer back
  pub back_none : (dp : Option Index) → None ≡ generation_in dp → IsTrue r ↔ (index.back ≡ None) → IsTrue r ↔ PointsBack label index ks dp
  back_none None is same = same
  back_none (Some d) is same = absurd (cc is)

  abbrev Back : ℕ → Type 0
  Back n =
      ((n ≤ index.generation) × (index.back ≡ newest_spot label ks)) ⊎ ((index.generation < n) × NamesOneOf label index.back ks)

  -- where the data partition has an index, the pointer back is judged by its generation
  pub back_some : (n : ℕ) (dp : Option Index) → Some n ≡ generation_in dp → IsTrue r ↔ Back n → IsTrue r ↔ PointsBack label index ks dp
  back_some n None is same = absurd (cc is)
  back_some n (Some d) is same = let told : n ≡ d.generation = cc is in subst (λ (m : ℕ). IsTrue r ↔ Back m) told same
