-- Steps of the recursions over what is left of a text.
use Rattle.std.proofs.Common.{◌≡◌, ℕ, zero, suc, nat_lt, ◌+◌, ◌-◌, ◌*◌, ◌<◌, ◌≤◌, Bool, true, false, cond, List, [], ◌∷◌, eqb, Ok, Err, length, get_or, drop, refl, ◌∙◌, arith}
use Rattle.std.proofs.lemmas.List.{at_drop_more, at_drop_all}
use Rattle.std.proofs.lemmas.Bool.Decides.{nat_tests}
use Rattle.std.proofs.lemmas.Bool.{and_parts}
use Rattle.ltfs_documents.specs.declared.doc_fields.errors.Why.TheVariants.{Syntax}
use Rattle.ltfs_documents.specs.DocFields.Reading.{literal_at, has_no_zero}
use Rattle.ltfs_documents.specs.DocFields.Space.{run_end}
use Rattle.ltfs_documents.specs.DocFields.Numbers.{is_digit, digits}

-- a byte that passes the test continues the run
pub run_more : (p : ℕ → Bool) (text : List ℕ) (i : ℕ) → i < length text → p (get_or text i 0) ≡ true → run_end p i (drop i text) ≡ run_end p (i + 1) (drop (i + 1) text)
run_more p text i lt e = at_drop_more (run_end p i) text i 0 lt ∙ rw e refl

-- a run ends where a byte does not pass the test
pub run_stops : (p : ℕ → Bool) (text : List ℕ) (i : ℕ) → i < length text → p (get_or text i 0) ≡ false → run_end p i (drop i text) ≡ i
run_stops p text i lt e = at_drop_more (run_end p i) text i 0 lt ∙ rw e refl

-- a run ends where the text ends
pub run_ends : (p : ℕ → Bool) (text : List ℕ) (i : ℕ) → length text ≤ i → run_end p i (drop i text) ≡ i
run_ends p text i le = at_drop_all (run_end p i) text i le

-- a digit is taken into the number
pub digits_more : (n : ℕ) (text : List ℕ) (i : ℕ) → i < length text → is_digit (get_or text i 0) ≡ true → digits n i (drop i text) ≡ digits (n * 10 + (get_or text i 0 - 48)) (i + 1) (drop (i + 1) text)
digits_more n text i lt e = at_drop_more (digits n i) text i 0 lt ∙ rw e refl

-- a number ends where no digit stands
pub digits_stop : (n : ℕ) (text : List ℕ) (i : ℕ) → i < length text → is_digit (get_or text i 0) ≡ false → digits n i (drop i text) ≡ (n, i)
digits_stop n text i lt e = at_drop_more (digits n i) text i 0 lt ∙ rw e refl

-- a number ends where the text ends
pub digits_end : (n : ℕ) (text : List ℕ) (i : ℕ) → length text ≤ i → digits n i (drop i text) ≡ (n, i)
digits_end n text i le = at_drop_all (digits n i) text i le

-- what is read lies behind
pub digits_after : (n at : ℕ) (bytes : List ℕ) → at ≤ (digits n at bytes).1
digits_after n at [] = omega arith
digits_after n at (b ∷ bytes) = elim (is_digit b) as (λ v. at ≤ (cond v (digits (n * 10 + (b - 48)) (at + 1) bytes) (n, at)).1) [ true ↦ omega (arith, digits_after (n * 10 + (b - 48)) (at + 1) bytes) | false ↦ omega arith ]

-- a byte of a fixed word that stands in its place leads to the next
pub literal_more : (word text : List ℕ) (k at : ℕ) → k < length word → get_or text (at + k) 0 ≡ get_or word k 0 → literal_at (drop k word) text (at + k) ≡ literal_at (drop (k + 1) word) text (at + (k + 1))
literal_more word text k at lt e =
    let there : eqb (get_or text (at + k) 0) (get_or word k 0) ≡ true = grind (arith, nat_tests) in
    let next : at + k + 1 ≡ at + (k + 1) = omega arith in
    at_drop_more (λ (w : List ℕ). literal_at w text (at + k)) word k 0 lt ∙ rw (there, next) refl

-- where another byte than the word's stands, the word is refused
pub literal_stops : (word text : List ℕ) (k at : ℕ) → k < length word → (get_or text (at + k) 0 ≡ get_or word k 0 → ⊥) → literal_at (drop k word) text (at + k) ≡ Err (record { at = at + k; why = Syntax })
literal_stops word text k at lt ne =
    let there : eqb (get_or text (at + k) 0) (get_or word k 0) ≡ false = grind (arith, nat_tests) in
    at_drop_more (λ (w : List ℕ). literal_at w text (at + k)) word k 0 lt ∙ rw there refl

-- a fixed word is read when all its bytes are
pub literal_done : (word text : List ℕ) (k at : ℕ) → length word ≤ k → literal_at (drop k word) text (at + k) ≡ Ok (at + k)
literal_done word text k at le = at_drop_all (λ (w : List ℕ). literal_at w text (at + k)) word k le

-- no byte of a fixed word is zero
pub no_zero : (word : List ℕ) (k : ℕ) → has_no_zero word ≡ true → k < length word → 0 < get_or word k 0
no_zero [] k e lt = absurd (omega arith)
no_zero (b ∷ word) zero e lt = let both = and_parts (nat_lt 0 b) (has_no_zero word) e in grind (arith, nat_tests)
no_zero (b ∷ word) (suc k) e lt = let both = and_parts (nat_lt 0 b) (has_no_zero word) e in no_zero word k both.1 (omega arith)

-- only within a text a byte can stand that isn't 0
pub inside : (text : List ℕ) (at : ℕ) → 0 < get_or text at 0 → at < length text
inside [] at some = absurd (omega arith)
inside (b ∷ text) zero some = omega arith
inside (b ∷ text) (suc at) some = let lt = inside text at some in omega arith
