-- Bytes against a shape.
use Rattle.std.proofs.Common.{◌≡◌, ℕ, ◌+◌, ◌<◌, ◌≤◌, true, false, List, ◌∷◌, length, get_or, drop, refl, ◌∙◌}
use Rattle.std.proofs.lemmas.List.{at_drop_more, at_drop_all}
use Rattle.ltfs_documents.specs.DocFields.Values.{fits, fits_place}

-- a byte that fits its place in the shape leads to the next
pub fits_more : (shape rest : List ℕ) (i : ℕ) → i < length shape → i < length rest → fits_place (get_or shape i 0) (get_or rest i 0) ≡ true → fits (drop i shape) (drop i rest) ≡ fits (drop (i + 1) shape) (drop (i + 1) rest)
fits_more shape rest i in_shape in_rest e =
    at_drop_more (λ (s : List ℕ). fits s (drop i rest)) shape i 0 in_shape ∙ at_drop_more (λ (r : List ℕ). fits (get_or shape i 0 ∷ drop (i + 1) shape) r) rest i 0 in_rest ∙ rw e refl

-- a byte that does not fit its place shows that the shape is not kept
pub fits_stops : (shape rest : List ℕ) (i : ℕ) → i < length shape → i < length rest → fits_place (get_or shape i 0) (get_or rest i 0) ≡ false → fits (drop i shape) (drop i rest) ≡ false
fits_stops shape rest i in_shape in_rest e =
    at_drop_more (λ (s : List ℕ). fits s (drop i rest)) shape i 0 in_shape ∙ at_drop_more (λ (r : List ℕ). fits (get_or shape i 0 ∷ drop (i + 1) shape) r) rest i 0 in_rest ∙ rw e refl

-- bytes that are at their end fit so far
pub fits_ends : (shape rest : List ℕ) (i : ℕ) → length rest ≤ i → fits (drop i shape) (drop i rest) ≡ true
fits_ends shape rest i all = at_drop_all (λ (r : List ℕ). fits (drop i shape) r) rest i all
