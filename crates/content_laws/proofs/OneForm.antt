-- A list is spelled in one way at most.
use Rattle.std.proofs.Common.{ℕ, ◌≡◌, List, [], ◌∷◌, ◌++◌, map, Option, Some, None, refl, sym, ◌∙◌, ap}
use Rattle.std.specs.List.{flat_map}
use Rattle.tape_types.specs.declared.cartridges.Item.{Item}
use Rattle.tape_types.specs.declared.cartridges.Item.TheVariants.{Block, Mark}
use Rattle.content_laws.specs.Readings.{Group, HasForm, items_of_group, items_of_tail}
use Rattle.content_laws.proofs.Folded.{unrolled}

same_blocks : (d e : List (List ℕ)) → map Block d ≡ map Block e → d ≡ e
same_blocks [] [] same = refl
same_blocks [] (e ∷ es) same = absurd (cc)
same_blocks (d ∷ ds) [] same = absurd (cc)
same_blocks (d ∷ ds) (e ∷ es) same =
    let one : d ≡ e = cc in
    let more : ds ≡ es = same_blocks ds es (cc) in
    λ t. one t ∷ more t

no_mark : (d e : List (List ℕ)) (xs : List Item) → map Block d ≡ map Block e ++ Mark ∷ xs → ⊥
no_mark [] [] xs same = cc
no_mark [] (e ∷ es) xs same = cc
no_mark (d ∷ ds) [] xs same = cc
no_mark (d ∷ ds) (e ∷ es) xs same = no_mark ds es xs (cc)

-- blocks up to a mark, and what stands behind it
same_parts : (d e : List (List ℕ)) (xs ys : List Item) → map Block d ++ Mark ∷ xs ≡ map Block e ++ Mark ∷ ys → (d ≡ e) × (xs ≡ ys)
same_parts [] [] xs ys same = (refl, (cc))
same_parts [] (e ∷ es) xs ys same = absurd (cc)
same_parts (d ∷ ds) [] xs ys same = absurd (cc)
same_parts (d ∷ ds) (e ∷ es) xs ys same =
    let one : d ≡ e = cc in
    let more = same_parts ds es xs ys (cc) in (
      (λ t. one t ∷ more.0 t),
      more.1,
    )

no_group : (lead : List (List ℕ)) (begun : Option (List (List ℕ))) (d i : List (List ℕ)) (xs : List Item)
    → items_of_tail lead begun ≡ map Block d ++ Mark ∷ (map Block i ++ Mark ∷ xs) → ⊥
no_group lead None d i xs same = no_mark lead d (map Block i ++ Mark ∷ xs) same
no_group lead (Some begun) d i xs same = no_mark begun i xs (same_parts lead d (map Block begun) (map Block i ++ Mark ∷ xs) same).1

same_tails : (lead other : List (List ℕ)) (begun started : Option (List (List ℕ)))
    → items_of_tail lead begun ≡ items_of_tail other started → (lead ≡ other) × (begun ≡ started)
same_tails lead other None None same = (same_blocks lead other same, refl)
same_tails lead other None (Some started) same = absurd (no_mark lead other (map Block started) same)
same_tails lead other (Some begun) None same = absurd (no_mark other lead (map Block begun) (sym same))
same_tails lead other (Some begun) (Some started) same =
    let parts = same_parts lead other (map Block begun) (map Block started) same in (
      parts.0,
      ap Some (same_blocks begun started parts.1),
    )

same_spelling : (gs hs : List Group) (lead other : List (List ℕ)) (begun started : Option (List (List ℕ)))
    → flat_map items_of_group gs ++ items_of_tail lead begun ≡ flat_map items_of_group hs ++ items_of_tail other started
    → (gs ≡ hs) × (lead ≡ other) × (begun ≡ started)
same_spelling [] [] lead other begun started same = let tails = same_tails lead other begun started same in (refl, tails.0, tails.1)
same_spelling [] (h ∷ hs) lead other begun started same =
    absurd (no_group lead begun h.data_blocks h.index_blocks (flat_map items_of_group hs ++ items_of_tail other started) (same ∙ unrolled h hs (items_of_tail other started)))
same_spelling (g ∷ gs) [] lead other begun started same =
    absurd (no_group other started g.data_blocks g.index_blocks (flat_map items_of_group gs ++ items_of_tail lead begun) (sym same ∙ unrolled g gs (items_of_tail lead begun)))
same_spelling (g ∷ gs) (h ∷ hs) lead other begun started same =
    let g_behind : List Item = flat_map items_of_group gs ++ items_of_tail lead begun in
    let h_behind : List Item = flat_map items_of_group hs ++ items_of_tail other started in
    let before = same_parts g.data_blocks h.data_blocks (map Block g.index_blocks ++ Mark ∷ g_behind) (map Block h.index_blocks ++ Mark ∷ h_behind)
    (sym (unrolled g gs (items_of_tail lead begun)) ∙ same ∙ unrolled h hs (items_of_tail other started)) in
    let index = same_parts g.index_blocks h.index_blocks g_behind h_behind before.1 in
    let more = same_spelling gs hs lead other begun started index.1 in (
      (λ t. record { data_blocks = before.0 t; index_blocks = index.0 t } ∷ more.0 t),
      more.1,
      more.2,
    )

-- a partition has its groups, leading blocks and begun index in one way
pub one_form : (items : List Item) (r s : HasForm items) → (r.groups ≡ s.groups) × (r.lead ≡ s.lead) × (r.begun ≡ s.begun)
one_form items r s = same_spelling r.groups s.groups r.lead s.lead r.begun s.begun (sym r.spelled ∙ s.spelled)
