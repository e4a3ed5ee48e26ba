-- Where the indexes of a partition stand.
use Rattle.std.proofs.Common.{ℕ, zero, suc, ◌+◌, ◌≤◌, ◌≡◌, ◌≢◌, ◌⊎◌, ⊎_elim, inl, inr, List, [], ◌∷◌, length, refl, ap, arith, length-append, length-drop}
use Rattle.std.specs.List.{fold}
use Rattle.tape_types.specs.declared.cartridges.Item.{Item}
use Rattle.tape_types.specs.declared.cartridges.Item.TheVariants.{Block, Mark, Torn}
use Rattle.content_laws.specs.Readings.{Construct, front, readable}
use Rattle.content_laws.specs.Content.{Content, Phase, Data, Index, Bad, content, seen, seen_in, start}
use Rattle.content_laws.specs.Ends.{end_dp, end_ip, end_ip_in, lead_of}
use Rattle.content_laws.proofs.Whole.{AreWhole, IsWhole, front_whole, whole_behind}

-- each index has a block, and begins where the one before it ends or further up; the first begins at 4 or further up
abbrev pub AreOrdered : List Construct → Type 0
AreOrdered [] = Unit {0}
AreOrdered (k ∷ older) = (k.blocks ≢ []) × (end_dp older ≤ k.mark) × AreOrdered older

-- what was read since the last index ends at this position
abbrev pub EndsAt : ℕ → Phase → List Construct → Type 0
EndsAt pos (Data since) ks = end_dp ks + since ≡ pos
EndsAt pos (Index mark blocks) ks = (end_dp ks ≤ mark) × (mark + 1 + length blocks ≡ pos)
EndsAt pos (Bad at) ks = (end_dp ks + 1 ≤ at) × (at ≡ pos)

-- the indexes stand one behind the other, and before the reading's position
pub record IsPlaced (s : Content) : Type 0 where
  pub ordered : AreOrdered s.constructs
  pub ends : EndsAt s.pos s.phase s.constructs

placed_in : (pos : ℕ) (phase : Phase) (ks : List Construct) (x : Item) → AreOrdered ks → EndsAt pos phase ks → IsPlaced (seen_in pos phase ks x)
placed_in pos (Data since) ks (Block b) ordered ends = record { ordered = ordered; ends = omega (arith, ends) }
placed_in pos (Data since) ks Mark ordered ends = record { ordered = ordered; ends = (omega (arith, ends), omega arith) }
placed_in pos (Data since) ks Torn ordered ends = record { ordered = ordered; ends = ends }
placed_in pos (Index mark blocks) ks (Block b) ordered ends = record { ordered = ordered; ends = (ends.0, omega (arith, ends.1, length-append blocks (b ∷ []))) }
placed_in pos (Index mark []) ks Mark ordered ends = record { ordered = ordered; ends = (omega (arith, ends.0, ends.1), refl) }
placed_in pos (Index mark (b ∷ blocks)) ks Mark ordered ends = record { ordered = ((λ none. cc), ends.0, ordered); ends = omega (arith, ends.1) }
placed_in pos (Index mark blocks) ks Torn ordered ends = record { ordered = ordered; ends = ends }
placed_in pos (Bad at) ks x ordered ends = record { ordered = ordered; ends = ends }

-- a reading that goes on keeps the indexes in their places
pub stays_placed : (items : List Item) (s : Content) → IsPlaced s → IsPlaced (fold seen s items)
stays_placed [] s placed = placed
stays_placed (x ∷ items) s placed = stays_placed items (seen s x) (placed_in s.pos s.phase s.constructs x placed.ordered placed.ends)

-- at the beginning no index stands out of its place
pub start_placed : IsPlaced start
start_placed = record { ordered = tt; ends = omega arith }

-- the indexes of a partition are in their places
pub content_placed : (items : List Item) → IsPlaced (content items)
content_placed items = stays_placed (readable items) start start_placed

step_in : (pos : ℕ) (phase : Phase) (ks : List Construct) (x : Item) → (seen_in pos phase ks x).pos ≤ pos + 1
step_in pos (Data since) ks (Block b) = omega arith
step_in pos (Data since) ks Mark = omega arith
step_in pos (Data since) ks Torn = omega arith
step_in pos (Index mark blocks) ks (Block b) = omega arith
step_in pos (Index mark []) ks Mark = omega arith
step_in pos (Index mark (b ∷ blocks)) ks Mark = omega arith
step_in pos (Index mark blocks) ks Torn = omega arith
step_in pos (Bad at) ks x = omega arith

steps : (items : List Item) (s : Content) → (fold seen s items).pos ≤ s.pos + length items
steps [] s = omega arith
steps (x ∷ items) s = omega (arith, steps items (seen s x), step_in s.pos s.phase s.constructs x)

-- a reading ends within the front
pub pos_within : (items : List Item) → 4 ≤ length (front items) → (content items).pos ≤ length (front items)
pos_within items long = omega (arith, steps (readable items) start, length-drop 4 (front items), long)

-- the data partition's end
pub end_dp_least : (ks : List Construct) → AreOrdered ks → 4 ≤ end_dp ks
end_dp_least [] ordered = omega arith
end_dp_least (k ∷ older) ordered = omega (arith, end_dp_least older ordered.2, ordered.1)

end_dp_at : (pos : ℕ) (phase : Phase) (ks : List Construct) → EndsAt pos phase ks → end_dp ks ≤ pos
end_dp_at pos (Data since) ks ends = omega (arith, ends)
end_dp_at pos (Index mark blocks) ks ends = omega (arith, ends.0, ends.1)
end_dp_at pos (Bad at) ks ends = omega (arith, ends.0, ends.1)

-- the end of the data partition lies within its front
pub end_dp_within : (items : List Item) → 4 ≤ length (front items) → end_dp (content items).constructs ≤ length (front items)
end_dp_within items long =
    omega (arith, end_dp_at (content items).pos (content items).phase (content items).constructs (content_placed items).ends, pos_within items long)

-- the end of the data partition lies behind its labels
pub end_dp_from : (items : List Item) → 4 ≤ end_dp (content items).constructs
end_dp_from items = end_dp_least (content items).constructs (content_placed items).ordered

-- the index partition's end
end_ip_bounds : (pos : ℕ) (phase : Phase) (ks : List Construct) → AreOrdered ks → EndsAt pos phase ks → (4 ≤ end_ip_in pos phase ks) × (end_ip_in pos phase ks ≤ pos)
end_ip_bounds pos (Data zero) [] ordered ends = (omega (arith, ends), omega arith)
end_ip_bounds pos (Data zero) (k ∷ older) ordered ends = (omega (arith, end_dp_least older ordered.2, ordered.1), omega (arith, ends))
end_ip_bounds pos (Data (suc since)) ks ordered ends = (omega (arith, end_dp_least ks ordered, ends), omega arith)
end_ip_bounds pos (Index mark blocks) ks ordered ends = (omega (arith, end_dp_least ks ordered, ends.0), omega (arith, ends.1))
end_ip_bounds pos (Bad at) ks ordered ends = (omega (arith, end_dp_least ks ordered, ends.0), omega (arith, ends.1))

ip_bounds : (s : Content) → IsPlaced s → (4 ≤ end_ip s) × (end_ip s ≤ s.pos)
ip_bounds s placed = end_ip_bounds s.pos s.phase s.constructs placed.ordered placed.ends

-- the end of the index partition lies within its front
pub end_ip_within : (items : List Item) → 4 ≤ length (front items) → end_ip (content items) ≤ length (front items)
end_ip_within items long = omega (arith, (ip_bounds (content items) (content_placed items)).1, pos_within items long)

-- the end of the index partition lies behind its labels
pub end_ip_from : (items : List Item) → 4 ≤ end_ip (content items)
end_ip_from items = (ip_bounds (content items) (content_placed items)).0

-- the position behind the leading blocks of what follows the last index
lead_bounds : (pos : ℕ) (phase : Phase) (ks : List Construct) → AreOrdered ks → EndsAt pos phase ks → (4 ≤ lead_of pos phase) × (lead_of pos phase ≤ pos)
lead_bounds pos (Data since) ks ordered ends = (omega (arith, end_dp_least ks ordered, ends), omega arith)
lead_bounds pos (Index mark blocks) ks ordered ends = (omega (arith, end_dp_least ks ordered, ends.0), omega (arith, ends.1))
lead_bounds pos (Bad at) ks ordered ends = (omega (arith, end_dp_least ks ordered, ends.0), omega (arith, ends.1))

lead_placed : (s : Content) → IsPlaced s → (4 ≤ lead_of s.pos s.phase) × (lead_of s.pos s.phase ≤ s.pos)
lead_placed s placed = lead_bounds s.pos s.phase s.constructs placed.ordered placed.ends

-- a reading that does not stop has gone over each item
pub bad_for_good : (items : List Item) (s : Content) (at : ℕ) → s.phase ≡ Bad at → (fold seen s items).phase ≡ Bad at
bad_for_good [] s at is = is
bad_for_good (x ∷ items) s at is = bad_for_good items (seen s x) at (ap (λ (phase : Phase). (seen_in s.pos phase s.constructs x).phase) is)

one_step : (pos : ℕ) (phase : Phase) (ks : List Construct) (x : Item) → IsWhole x
    → ((seen_in pos phase ks x).pos ≡ pos + 1) ⊎ ((at : ℕ) × ((seen_in pos phase ks x).phase ≡ Bad at))
one_step pos (Data since) ks (Block b) whole = inl refl
one_step pos (Data since) ks Mark whole = inl refl
one_step pos phase ks Torn whole = absurd whole
one_step pos (Index mark blocks) ks (Block b) whole = inl refl
one_step pos (Index mark []) ks Mark whole = inr (pos, refl)
one_step pos (Index mark (b ∷ blocks)) ks Mark whole = inl refl
one_step pos (Bad at) ks x whole = inr (at, refl)

-- a reading that does not stop reaches the end of its items
pub reaches_end : (items : List Item) (s : Content) → AreWhole items → ((at : ℕ) → (fold seen s items).phase ≢ Bad at)
    → (fold seen s items).pos ≡ s.pos + length items
reaches_end [] s whole sound = omega arith
reaches_end (x ∷ items) s whole sound =
    let more = reaches_end items (seen s x) whole.1 sound in
    ⊎_elim
    (λ (one : (seen s x).pos ≡ s.pos + 1). omega (arith, one, more))
    (λ (bad : (at : ℕ) × ((seen s x).phase ≡ Bad at)). absurd (sound bad.0 (bad_for_good items (seen s x) bad.0 bad.1)))
    (one_step s.pos s.phase s.constructs x whole.0)

-- a reading that does not stop goes to the end of the front
pub pos_is : (items : List Item) → 4 ≤ length (front items) → ((at : ℕ) → (content items).phase ≢ Bad at)
    → (content items).pos ≡ length (front items)
pos_is items long sound =
    omega (arith, reaches_end (readable items) start (whole_behind 4 (front items) (front_whole items)) sound, length-drop 4 (front items), long)
