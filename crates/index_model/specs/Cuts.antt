-- Texts that stand one behind the other, with the places where each ends.
use Rattle.std.specs.Prelude.{◌≡◌, ℕ, zero, suc, ◌-◌, ◌≤◌, List, [], ◌∷◌, length, get_or, take, drop}
use Rattle.std.specs.Str.{IsUtf8}

-- the bytes from a place up to the first end, from there to the second, and so on
abbrev pub cut : ℕ → List ℕ → List ℕ → List (List ℕ)
cut from [] bytes = []
cut from (end ∷ ends) bytes = take (end - from) (drop from bytes) ∷ cut end ends bytes

-- where the piece at a place begins
abbrev pub start : ℕ → List ℕ → ℕ → ℕ
start from ends zero = from
start from ends (suc at) = get_or ends at 0

-- each of these is a text, and the last one ends with the bytes
abbrev pub AreTexts : ℕ → List ℕ → List ℕ → Type 0
AreTexts from [] bytes = from ≡ length bytes
AreTexts from (end ∷ ends) bytes =
    (from ≤ end) × (end ≤ length bytes) × IsUtf8 (take (end - from) (drop from bytes)) × AreTexts end ends bytes
