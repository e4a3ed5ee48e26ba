-- A list without a torn item has the form of a partition, or lacks it at a place.
use Rattle.std.proofs.Common.{ℕ, ◌+◌, ◌≡◌, ◌⊎◌, inl, inr, List, [], ◌∷◌, ◌++◌, length, map, Option, Some, None, refl, sym, ◌∙◌, ap, subst}
use Rattle.std.specs.List.{flat_map}
use Rattle.tape_types.specs.declared.cartridges.Item.{Item}
use Rattle.tape_types.specs.declared.cartridges.Item.TheVariants.{Block, Mark, Torn}
use Rattle.content_laws.specs.Readings.{Group, HasForm, HaveBlocks, LacksForm, Reading, front, items_of_group, items_of_tail, readable}
use Rattle.content_laws.proofs.Folded.{unrolled}
use Rattle.content_laws.proofs.Whole.{AreWhole, front_whole, whole_behind}

-- an index without a block stands behind these groups and blocks
record Empty (items : List Item) : Type 0 where
  groups : List Group
  indexes : HaveBlocks groups
  lead : List (List ℕ)
  behind : List Item
  spelled : items ≡ flat_map items_of_group groups ++ (map Block lead ++ Mark ∷ Mark ∷ behind)

abbrev Shaped : List Item → Type 0
Shaped items = Reading items ⊎ Empty items

-- behind the mark that opens an index: blocks, and maybe a mark with what follows it
record Closing (items : List Item) : Type 0 where
  blocks : List (List ℕ)
  rest : List Item
  spelled : items ≡ map Block blocks ++ Mark ∷ rest
  shaped : Shaped rest

abbrev Opened : List Item → Type 0
Opened items = ((blocks : List (List ℕ)) × (items ≡ map Block blocks)) ⊎ Closing items

block_read : (b : List ℕ) (items : List Item) (gs : List Group) → HaveBlocks gs → (lead : List (List ℕ)) (begun : Option (List (List ℕ)))
    → items ≡ flat_map items_of_group gs ++ items_of_tail lead begun → Reading (Block b ∷ items)
block_read b items [] some lead None is = record { groups = []; indexes = tt; lead = b ∷ lead; begun = None; spelled = ap (λ (l : List Item). Block b ∷ l) is }
block_read b items [] some lead (Some begun) is =
    record { groups = []; indexes = tt; lead = b ∷ lead; begun = Some begun; spelled = ap (λ (l : List Item). Block b ∷ l) is }
block_read b items (g ∷ gs) some lead begun is = record {
  groups = record { data_blocks = b ∷ g.data_blocks; index_blocks = g.index_blocks } ∷ gs;
  indexes = some;
  lead = lead;
  begun = begun;
  spelled = ap (λ (l : List Item). Block b ∷ l) is;
}

block_empty : (b : List ℕ) (items : List Item) (gs : List Group) → HaveBlocks gs → (lead : List (List ℕ)) (behind : List Item)
    → items ≡ flat_map items_of_group gs ++ (map Block lead ++ Mark ∷ Mark ∷ behind) → Empty (Block b ∷ items)
block_empty b items [] some lead behind is =
    record { groups = []; indexes = tt; lead = b ∷ lead; behind = behind; spelled = ap (λ (l : List Item). Block b ∷ l) is }
block_empty b items (g ∷ gs) some lead behind is = record {
  groups = record { data_blocks = b ∷ g.data_blocks; index_blocks = g.index_blocks } ∷ gs;
  indexes = some;
  lead = lead;
  behind = behind;
  spelled = ap (λ (l : List Item). Block b ∷ l) is;
}

block_shaped : (b : List ℕ) (items : List Item) → Shaped items → Shaped (Block b ∷ items)
block_shaped b items (inl r) = inl (block_read b items r.groups r.indexes r.lead r.begun r.spelled)
block_shaped b items (inr e) = inr (block_empty b items e.groups e.indexes e.lead e.behind e.spelled)

-- an index with a block, and what follows it
index_shaped : (f : List ℕ) (blocks : List (List ℕ)) (rest : List Item) → Shaped rest → Shaped (Mark ∷ (map Block (f ∷ blocks) ++ Mark ∷ rest))
index_shaped f blocks rest (inl r) =
    let g : Group = record { data_blocks = []; index_blocks = f ∷ blocks } in
    inl (
    record {
      groups = g ∷ r.groups;
      indexes = ((λ none. cc), r.indexes);
      lead = r.lead;
      begun = r.begun;
      spelled =
          ap (λ (l : List Item). Mark ∷ (map Block (f ∷ blocks) ++ Mark ∷ l)) r.spelled ∙ sym (unrolled g r.groups (items_of_tail r.lead r.begun));
    }
    )
index_shaped f blocks rest (inr e) =
    let g : Group = record { data_blocks = []; index_blocks = f ∷ blocks } in
    inr (
    record {
      groups = g ∷ e.groups;
      indexes = ((λ none. cc), e.indexes);
      lead = e.lead;
      behind = e.behind;
      spelled =
          ap (λ (l : List Item). Mark ∷ (map Block (f ∷ blocks) ++ Mark ∷ l)) e.spelled
          ∙ sym (unrolled g e.groups (map Block e.lead ++ Mark ∷ Mark ∷ e.behind));
    }
    )

closed_shaped : (blocks : List (List ℕ)) (rest : List Item) → Shaped rest → Shaped (Mark ∷ (map Block blocks ++ Mark ∷ rest))
closed_shaped [] rest s = inr (record { groups = []; indexes = tt; lead = []; behind = rest; spelled = refl })
closed_shaped (f ∷ blocks) rest s = index_shaped f blocks rest s

mark_shaped : (items : List Item) → Opened items → Shaped (Mark ∷ items)
mark_shaped items (inl (blocks, is)) =
    inl (record { groups = []; indexes = tt; lead = []; begun = Some blocks; spelled = ap (λ (l : List Item). Mark ∷ l) is })
mark_shaped items (inr c) = subst (λ (l : List Item). Shaped (Mark ∷ l)) (sym c.spelled) (closed_shaped c.blocks c.rest c.shaped)

block_opened : (b : List ℕ) (items : List Item) → Opened items → Opened (Block b ∷ items)
block_opened b items (inl (blocks, is)) = inl (b ∷ blocks, ap (λ (l : List Item). Block b ∷ l) is)
block_opened b items (inr c) =
    inr (record { blocks = b ∷ c.blocks; rest = c.rest; spelled = ap (λ (l : List Item). Block b ∷ l) c.spelled; shaped = c.shaped })

shaped : (items : List Item) → AreWhole items → Shaped items × Opened items
shaped [] whole = (inl (record { groups = []; indexes = tt; lead = []; begun = None; spelled = refl }), inl ([], refl))
shaped (Torn ∷ items) whole = absurd whole.0
shaped (Block b ∷ items) whole = let more = shaped items whole.1 in (block_shaped b items more.0, block_opened b items more.1)
shaped (Mark ∷ items) whole =
    let more = shaped items whole.1 in (
      mark_shaped items more.1,
      inr (record { blocks = []; rest = items; spelled = refl; shaped = more.0 }),
    )

told : (items : List Item) → Shaped (readable items) → HasForm items ⊎ ((at : ℕ) × LacksForm items at)
told items (inl r) = inl r
told items (inr e) =
    inr (
      4 + length (flat_map items_of_group e.groups) + length e.lead + 1,
      record { groups = e.groups; indexes = e.indexes; lead = e.lead; behind = e.behind; spelled = e.spelled; place = refl },
    )

-- a partition has the form, or lacks it at a place
pub either : (items : List Item) → HasForm items ⊎ ((at : ℕ) × LacksForm items at)
either items = told items (shaped (readable items) (whole_behind 4 (front items) (front_whole items))).0
