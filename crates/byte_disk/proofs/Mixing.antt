-- A loop over places makes the bytes by a seed.
use Rattle.std.proofs.Common.{ℕ, suc, ◌+◌, ◌-◌, ◌<◌, ◌≡◌, List, [], ◌∷◌, ◌++◌, sym, ◌∙◌, ap, arith}
use Rattle.std.proofs.lemmas.List.{append_assoc}
use Rattle.byte_disk.specs.Mixed.{stir, mixed_byte, mixed_bytes}

-- one byte more of those by a seed leaves the others to come
pub mixed_step : (items items2 total held old : List ℕ) (s s2 place size b : ℕ) → place < size → items2 ≡ items ++ b ∷ [] → s2 ≡ stir s
    → b ≡ mixed_byte s2 place held old → items ++ mixed_bytes s place (size - place) held old ≡ total
    → items2 ++ mixed_bytes s2 (place + 1) (size - (place + 1)) held old ≡ total
mixed_step items items2 total held old s s2 place size b lt pushed stirs byte before =
    let n : ℕ = size - (place + 1) in
    let one : size - place ≡ suc n = omega (arith, lt) in
    ap (λ (l : List ℕ). l ++ mixed_bytes s2 (place + 1) n held old) pushed
    ∙ append_assoc items (b ∷ []) (mixed_bytes s2 (place + 1) n held old)
    ∙ ap (λ (x : ℕ). items ++ (x ∷ mixed_bytes s2 (place + 1) n held old)) byte
    ∙ ap (λ (t : ℕ). items ++ (mixed_byte t place held old ∷ mixed_bytes t (place + 1) n held old)) stirs
    ∙ ap (λ (k : ℕ). items ++ mixed_bytes s place k held old) (sym one)
    ∙ before
