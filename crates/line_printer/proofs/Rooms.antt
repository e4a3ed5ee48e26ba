-- A room that is filled from a place on.
use Rattle.std.proofs.Common.{◌≡◌, ℕ, ◌+◌, ◌≤◌, List, ◌++◌, length, take, sym, ap, ◌∙◌, append_assoc, take-take}
use Rattle.std.proofs.Math.Seq.{take-append-add}
use Rattle.std.proofs.lemmas.List.{take-append-le}

-- The room is a front, a part that was put behind it, and what lies behind that, of which so much is looked at. What is
-- used of it is the front, and what was put of the part.
pub filled : (front part post tail : List ℕ) (used count len : ℕ) → length front ≡ used → count ≤ length part → used + count ≤ len
    → take (used + count) (take len ((front ++ (part ++ post)) ++ tail)) ≡ front ++ take count part
filled front part post tail used count len at fits within =
    take-take (used + count) len ((front ++ (part ++ post)) ++ tail) within
    ∙ ap (take (used + count)) (append_assoc front (part ++ post) tail ∙ ap (λ l. front ++ l) (append_assoc part post tail))
    ∙ ap (λ n. take (n + count) (front ++ (part ++ (post ++ tail)))) (sym at)
    ∙ take-append-add front (part ++ (post ++ tail)) count
    ∙ ap (λ l. front ++ l) (take-append-le count part (post ++ tail) fits)
