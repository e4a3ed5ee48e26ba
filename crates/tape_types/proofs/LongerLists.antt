-- What stands at a place of a list that goes on, and what is scanned of it.
use Rattle.std.proofs.Common.{◌≡◌, ℕ, zero, suc, ◌<◌, List, [], ◌∷◌, ◌++◌, length, fold, Some, slice_get}
use Rattle.std.proofs.Common.{refl, ap, arith}
use Rattle.std.specs.List.{scan}

-- what stood in a list stands there when more follows
pub slice_get-append : {X : Type 0} (xs ys : List X) (k : ℕ) → k < length xs → slice_get (xs ++ ys) k ≡ slice_get xs k
slice_get-append [] ys k less = absurd (omega (arith, less))
slice_get-append (x ∷ xs) ys zero less = refl
slice_get-append (x ∷ xs) ys (suc k) less = slice_get-append xs ys k (omega (arith, less))

-- one element more stands at the end
pub slice_get-seam : {X : Type 0} (xs : List X) (y : X) → slice_get (xs ++ y ∷ []) (length xs) ≡ Some y
slice_get-seam [] y = refl
slice_get-seam (x ∷ xs) y = slice_get-seam xs y

-- what is scanned of two lists, one behind the other
pub scan-append : {S X Y : Type 0} (next : S → X → S) (out : S → X → Y) (s : S) (xs ys : List X)
    → scan next out s (xs ++ ys) ≡ scan next out s xs ++ scan next out (fold next s xs) ys
scan-append next out s [] ys = refl
scan-append next out s (x ∷ xs) ys = ap (λ l. out s x ∷ l) (scan-append next out (next s x) xs ys)
