-- Blocks that are used one after the other.
use Rattle.std.proofs.Common.{◌≡◌, ℕ, zero, suc, ◌+◌, ◌<◌, ◌≤◌, List, [], ◌∷◌, ◌++◌, length, take, get_or, refl, sym, ap, ◌∙◌, arith, take-suc}
use Rattle.std.proofs.lemmas.List.Sums.{fold-append}
use Rattle.tape_types.specs.declared.cartridges.Place.{Place}
use Rattle.block_cache.specs.Kept.{Kept, used, used_all}

-- one more was used
pub used_next : (cached : List Kept) (places : List Place) (i : ℕ) (d : Place) (now next : List Kept) → i < length places → now ≡ used_all cached (take i places)
    → next ≡ used now (get_or places i d) → next ≡ used_all cached (take (i + 1) places)
used_next cached places i d now next lt was is =
    let on : i + 1 ≡ suc i = omega arith in
    is ∙ ap (λ kept. used kept (get_or places i d)) was
    ∙ sym (fold-append used cached (take i places) (get_or places i d ∷ []))
    ∙ ap (used_all cached) (sym (ap (λ n. take n places) on ∙ take-suc places i d lt))

all_taken : (places : List Place) (i : ℕ) → length places ≤ i → take i places ≡ places
all_taken [] zero le = refl
all_taken [] (suc i) le = refl
all_taken (p ∷ ps) zero le = absurd (omega (arith, le))
all_taken (p ∷ ps) (suc i) le = ap (λ l. p ∷ l) (all_taken ps i (omega (arith, le)))

-- all were used
pub used_ends : (cached : List Kept) (places : List Place) (i : ℕ) (now : List Kept) → length places ≤ i → now ≡ used_all cached (take i places) → now ≡ used_all cached places
used_ends cached places i now le was = was ∙ ap (used_all cached) (all_taken places i le)
