-- Values that are moved from a list of options.
use Rattle.std.specs.Prelude.{◌≡◌, ◌+◌, ◌≤◌, ◌++◌, [], ◌∷◌, ℕ, true, List, Option, Some, All, is_some, length, map}
use Rattle.std.proofs.Common.{sym, ap, subst, ◌∙◌, arith, length-append, append_assoc}
use Rattle.std.proofs.lemmas.List.{map-append}
use Rattle.std.proofs.lemmas.List.Elements.{All-tail}

-- so far these were moved, and those are left, for all of which there is room
abbrev pub Moved : {A : Type 0} → List (Option A) → List A → List (Option A) → ℕ → Type 0
Moved {A} all moved left room = (map Some moved ++ left ≡ all) × All (λ item. is_some item ≡ true) left
    × (length moved + length left ≤ room)

-- one value more is moved, and there is room for those that are left
pub one_moved : {A : Type 0} (all : List (Option A)) (moved more : List A) (left behind : List (Option A)) (o : Option A)
    (x : A) (room wider : ℕ) → Moved all moved left room → left ≡ o ∷ behind → o ≡ Some x → more ≡ moved ++ x ∷ []
    → room ≤ wider → Moved all more behind wider
one_moved all moved more left behind o x room wider was left_is o_is more_is wide = (
  ap (λ xs. map Some xs ++ behind) more_is ∙ ap (λ xs. xs ++ behind) (map-append Some moved (x ∷ []))
      ∙ append_assoc (map Some moved) (Some x ∷ []) behind ∙ ap (λ y. map Some moved ++ y ∷ behind) (sym o_is)
      ∙ ap (λ xs. map Some moved ++ xs) (sym left_is) ∙ was.0,
  All-tail (λ item. is_some item ≡ true) o behind (subst (λ xs. All (λ item. is_some item ≡ true) xs) left_is was.1),
  omega (arith, ap length more_is, length-append moved (x ∷ []), ap length left_is, was.2, wide),
)
