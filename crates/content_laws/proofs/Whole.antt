-- Items up to the first that is torn.
use Rattle.std.proofs.Common.{ℕ, zero, suc, ◌≤◌, ◌≡◌, ◌≢◌, List, [], ◌∷◌, ◌++◌, length, map, take, drop, refl, ap, arith}
use Rattle.std.specs.List.{AllByRecursion}
use Rattle.tape_types.specs.declared.cartridges.Item.{Item}
use Rattle.tape_types.specs.declared.cartridges.Item.TheVariants.{Block, Mark, Torn}
use Rattle.content_laws.specs.Readings.{front}

-- items of which none is torn
abbrev pub IsWhole : Item → Type 0
IsWhole (Block bytes) = Unit {0}
IsWhole Mark = Unit {0}
IsWhole Torn = ⊥

-- none of the items is torn
abbrev pub AreWhole : List Item → Type 0
AreWhole items = AllByRecursion IsWhole items

-- no item of a front is torn
pub front_whole : (items : List Item) → AreWhole (front items)
front_whole [] = tt
front_whole (Block bytes ∷ items) = (tt, front_whole items)
front_whole (Mark ∷ items) = (tt, front_whole items)
front_whole (Torn ∷ items) = tt

-- what stands behind items that are whole is whole
pub whole_behind : (n : ℕ) (items : List Item) → AreWhole items → AreWhole (drop n items)
whole_behind zero items whole = whole
whole_behind (suc n) [] whole = tt
whole_behind (suc n) (x ∷ items) whole = whole_behind n items whole.1

-- the front of items behind whole ones
pub front_append : (items more : List Item) → front items ≡ items → front (items ++ more) ≡ items ++ front more
front_append [] more whole = refl
front_append (Block bytes ∷ items) more whole = ap (λ (l : List Item). Block bytes ∷ l) (front_append items more (cc))
front_append (Mark ∷ items) more whole = ap (λ (l : List Item). Mark ∷ l) (front_append items more (cc))
front_append (Torn ∷ items) more whole = absurd (cc)

-- the front of blocks alone is all of them
pub front_blocks : (blocks : List (List ℕ)) → front (map Block blocks) ≡ map Block blocks
front_blocks [] = refl
front_blocks (b ∷ blocks) = ap (λ (l : List Item). Block b ∷ l) (front_blocks blocks)

-- the front of one item that is not torn is that item
pub front_item : (x : Item) → x ≢ Torn → front (x ∷ []) ≡ x ∷ []
front_item (Block bytes) whole = refl
front_item Mark whole = refl
front_item Torn whole = absurd (whole refl)

-- a Torn at the end leaves the front as it is
pub front_torn : (items : List Item) → front (items ++ Torn ∷ []) ≡ front items
front_torn [] = refl
front_torn (Block bytes ∷ items) = ap (λ (l : List Item). Block bytes ∷ l) (front_torn items)
front_torn (Mark ∷ items) = ap (λ (l : List Item). Mark ∷ l) (front_torn items)
front_torn (Torn ∷ items) = refl

-- a front has no torn item
front_front : (items : List Item) → front (front items) ≡ front items
front_front [] = refl
front_front (Block bytes ∷ items) = ap (λ (l : List Item). Block bytes ∷ l) (front_front items)
front_front (Mark ∷ items) = ap (λ (l : List Item). Mark ∷ l) (front_front items)
front_front (Torn ∷ items) = refl

-- what stands before whole items is whole
pub whole_before : (items more : List Item) → AreWhole (items ++ more) → AreWhole items
whole_before [] more whole = tt
whole_before (x ∷ items) more whole = (whole.0, whole_before items more whole.1)

-- the front of items that are cut is the front, cut so
pub front_cut : (n : ℕ) (items : List Item) → front (take n items) ≡ take n (front items)
front_cut zero items = refl
front_cut (suc n) [] = refl
front_cut (suc n) (Block bytes ∷ items) = ap (λ (l : List Item). Block bytes ∷ l) (front_cut n items)
front_cut (suc n) (Mark ∷ items) = ap (λ (l : List Item). Mark ∷ l) (front_cut n items)
front_cut (suc n) (Torn ∷ items) = refl

-- the front is no longer than the items
pub front_within : (items : List Item) → length (front items) ≤ length items
front_within [] = omega arith
front_within (Block b ∷ items) = omega (arith, front_within items)
front_within (Mark ∷ items) = omega (arith, front_within items)
front_within (Torn ∷ items) = omega arith
