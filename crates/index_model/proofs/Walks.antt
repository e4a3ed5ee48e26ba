-- One element after the other of a list that is written out.
use Rattle.std.proofs.Common.{◌≡◌, ℕ, zero, suc, ◌+◌, List, [], ◌∷◌, subst, refl, sym, ◌∙◌, arith}
use Rattle.std.specs.Prelude.{⊤}
use Rattle.std.specs.List.{AllByRecursion}
use Rattle.std.proofs.lemmas.Option.{none-some, same_Some}
use Rattle.index_model.specs.Places.{IsAt}

-- P of each element and its place, where the list begins at this place
abbrev pub EachFrom : {X : Type 0} → (ℕ → X → Type 0) → ℕ → List X → Type 0
EachFrom P at [] = ⊤
EachFrom P at (x ∷ xs) = P at x × EachFrom P (suc at) xs

each_from : {X : Type 0} (P : ℕ → X → Type 0) (from : ℕ) (xs : List X) → EachFrom P from xs → (at : ℕ) (x : X) → IsAt xs at x → P (from + at) x
each_from P from [] h at x is = absurd (none-some x is)
each_from P from (y ∷ ys) h zero x is =
    let e : from ≡ from + 0 = omega arith in
    subst (λ n. P n x) e (subst (P from) (same_Some y x is) h.0)
each_from P from (y ∷ ys) h (suc at) x is =
    let e : suc from + at ≡ from + suc at = omega arith in
    subst (λ n. P n x) e (each_from P (suc from) ys h.1 at x is)

-- what holds of each element and its place holds at any of the places
pub each : {X : Type 0} (P : ℕ → X → Type 0) (xs : List X) → EachFrom P 0 xs → (at : ℕ) (x : X) → IsAt xs at x → P at x
each P xs h at x is =
    let e : 0 + at ≡ at = omega arith in
    subst (λ n. P n x) e (each_from P 0 xs h at x is)

-- at a place stands one element at most
pub same_element : {X : Type 0} (xs : List X) (at : ℕ) (x y : X) → IsAt xs at x → IsAt xs at y → x ≡ y
same_element xs at x y is also = same_Some x y (sym is ∙ also)

-- an element stands before each but the first
pub there_before : {X : Type 0} (xs : List X) (at : ℕ) (x : X) → IsAt xs (suc at) x → (y : X) × IsAt xs at y
there_before [] at x is = absurd (none-some x is)
there_before (y ∷ ys) zero x is = (y, refl)
there_before (y ∷ ys) (suc at) x is = there_before ys at x is

-- what holds of all elements holds of the one at any place
pub all_at : {X : Type 0} (P : X → Type 0) (xs : List X) → AllByRecursion P xs → (at : ℕ) (x : X) → IsAt xs at x → P x
all_at P [] h at x is = absurd (none-some x is)
all_at P (y ∷ ys) h zero x is = subst P (same_Some y x is) h.0
all_at P (y ∷ ys) h (suc at) x is = all_at P ys h.1 at x is
