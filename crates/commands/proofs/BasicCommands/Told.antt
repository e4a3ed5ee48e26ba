-- What a status says that was told.
use Rattle.std.proofs.Common.{◌≡◌, ◌∙◌, ℕ, Bool, true, false, ◌==◌, ◌||◌, List, [], ◌∷◌, Option, Some, None, refl, sym, subst, arith, inl, inr}
use Rattle.std.specs.Prelude.{IfSome}
use Rattle.std.specs.List.{list_any}
use Rattle.std.specs.Io.KnownBytes.{Appends}
use Rattle.std.proofs.lemmas.Bool.Decides.{nat_tests}
use Rattle.tape_types.specs.Counts.{Rose}
use Rattle.commands.specs.BasicCommands.Outcomes.{IsTold}
use Rattle.commands.specs.BasicCommands.Runs.{IsOneOf, Written}

-- what holds of whatever is there holds if something is there
pub if_some : {A : Type 0} (o : Option A) (P : A → Type 0) → ((x : A) → o ≡ Some x → P x) → IfSome o P
if_some None P f = tt
if_some (Some x) P f = f x refl

-- what holds if something is there holds of what is there
pub of_some : {A : Type 0} (o : Option A) (P : A → Type 0) (x : A) → o ≡ Some x → IfSome o P → P x
of_some o P x is holds = subst (λ h. IfSome h P) is holds

-- a number that is none of these
is_itself : (n m : ℕ) → n ≡ m → (n == m) ≡ true
is_itself n m same = grind (arith, nat_tests, same)

not_first : (a b : Bool) → (a || b) ≡ false → a ≡ true → ⊥
not_first true b none is = absurd (cc none)
not_first false b none is = absurd (cc is)

not_later : (a b : Bool) → (a || b) ≡ false → b ≡ false
not_later true b none = absurd (cc none)
not_later false b none = none

-- a number that isn't found among others is none of them
pub none_of : (n : ℕ) (xs : List ℕ) → list_any (λ x. n == x) xs ≡ false → IsOneOf n xs → ⊥
none_of n [] none one = one
none_of n (x ∷ xs) none (inl same) = not_first (n == x) (list_any (λ y. n == y) xs) none (is_itself n x same)
none_of n (x ∷ xs) none (inr one) = none_of n xs (not_later (n == x) (list_any (λ y. n == y) xs) none) one

-- a status is the one that was to be told, or 6 where the sink failed
pub by_status : (P : ℕ → Type 0) (wanted : ℕ) (text : List ℕ) (sink : Written) (status : ℕ)
    → IsTold wanted text sink status → P wanted → (Rose sink.before sink.now → P 6) → P status
by_status P wanted text sink status (inl told) here sunk = subst P (sym told.0) here
by_status P wanted text sink status (inr failed) here sunk = subst P (sym failed.0) (sunk failed.1)

-- another status than 6 is the one that was to be told, and then all of the text was written
pub by_text : (n wanted : ℕ) (text : List ℕ) (sink : Written) (status : ℕ)
    → IsTold wanted text sink status → (6 ≡ n → ⊥) → status ≡ n → (wanted ≡ n) × Appends sink.old sink.new text
by_text n wanted text sink status (inl told) other is = (sym told.0 ∙ is, told.1)
by_text n wanted text sink status (inr failed) other is = absurd (other (sym failed.0 ∙ is))

-- only where the sink failed does another wanted status become 6
pub by_six : (wanted : ℕ) (text : List ℕ) (sink : Written) (status : ℕ)
    → IsTold wanted text sink status → (wanted ≡ 6 → ⊥) → status ≡ 6 → Rose sink.before sink.now
by_six wanted text sink status (inl told) other six = absurd (other (sym told.0 ∙ six))
by_six wanted text sink status (inr failed) other six = failed.1
