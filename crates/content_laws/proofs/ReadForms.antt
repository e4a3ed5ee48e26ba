-- What is read item by item is the form of a partition, or stops where that has an index without a block.
use Rattle.std.proofs.Common.{ℕ, ◌+◌, ◌≡◌, List, [], ◌∷◌, ◌++◌, length, map, reverse, Option, Some, None, sym, ◌∙◌, ap}
use Rattle.std.proofs.lemmas.List.{append-nil}
use Rattle.std.specs.List.{flat_map, fold}
use Rattle.tape_types.specs.declared.cartridges.Item.{Item}
use Rattle.tape_types.specs.declared.cartridges.Item.TheVariants.{Block, Mark}
use Rattle.content_laws.specs.Readings.{Construct, HasForm, LacksForm, constructs_from, items_of_group, items_of_tail}
use Rattle.content_laws.specs.Content.{Content, Bad, content, content_of, phase_of, seen, start}
use Rattle.content_laws.proofs.Folded.{bad_stays, in_data, over_data, over_groups, over_tail}

-- the content of a partition in form is that of its groups and tail
pub form : (items : List Item) (r : HasForm items) → content items ≡ content_of r.groups r.lead r.begun
form items r =
    let behind : ℕ = 4 + length (flat_map items_of_group r.groups) in
    ap (λ (l : List Item). fold seen start l) r.spelled
    ∙ over_groups r.groups 4 [] (items_of_tail r.lead r.begun) r.indexes
    ∙ ap (λ (ks : List Construct). fold seen (in_data behind 0 ks) (items_of_tail r.lead r.begun)) (append-nil (reverse (constructs_from 4 r.groups)))
    ∙ over_tail r.lead r.begun behind (reverse (constructs_from 4 r.groups))

-- a partition that lacks the form is read up to the place where it does
pub stops : (items : List Item) (at : ℕ) → LacksForm items at → (content items).phase ≡ Bad at
stops items at l =
    let behind : ℕ = 4 + length (flat_map items_of_group l.groups) in
    let found : List Construct = reverse (constructs_from 4 l.groups) ++ [] in
    let tail : List Item = map Block l.lead ++ Mark ∷ Mark ∷ l.behind in
    ap (λ (s : Content). s.phase) (
    ap (λ (x : List Item). fold seen start x) l.spelled
    ∙ over_groups l.groups 4 [] tail l.indexes
    ∙ over_data l.lead behind 0 found (Mark ∷ Mark ∷ l.behind)
    ∙ bad_stays l.behind (behind + length l.lead + 1) (behind + length l.lead + 1) found
    )
    ∙ ap Bad (sym l.place)

-- a partition lacks the form at one place
pub one_place : (items : List Item) (at other : ℕ) → LacksForm items at → LacksForm items other → at ≡ other
one_place items at other l m = let both : Bad at ≡ Bad other = sym (stops items at l) ∙ stops items other m in cc

form_not_bad : (at before : ℕ) (lead : List (List ℕ)) (begun : Option (List (List ℕ))) → phase_of before lead begun ≡ Bad at → ⊥
form_not_bad at before lead None bad = cc
form_not_bad at before lead (Some begun) bad = cc

-- a partition in form does not lack it
pub never_both : (items : List Item) (at : ℕ) → HasForm items → LacksForm items at → ⊥
never_both items at r l =
    form_not_bad at (4 + length (flat_map items_of_group r.groups)) r.lead r.begun
    (sym (ap (λ (s : Content). s.phase) (form items r)) ∙ stops items at l)
