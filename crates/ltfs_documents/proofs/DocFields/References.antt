-- Numbers of characters, digit by digit.
use Rattle.std.proofs.Common.{◌≡◌, ℕ, zero, suc, ◌+◌, ◌*◌, ◌<◌, ◌≤◌, nat_le, eqb, true, false, cond, List, [], ◌∷◌, Option, Some, None, length, get_or, drop, refl, ◌∙◌, arith}
use Rattle.std.proofs.lemmas.List.{at_drop_more, at_drop_all}
use Rattle.std.proofs.lemmas.Bool.Decides.{nat_tests}
use Rattle.ltfs_documents.specs.DocFields.Texts.{digit_of, finished, is_allowed, numbered, is_cut_number, and_then, and_also}

-- a digit is taken into the number of a reference
pub numbered_more : (base n k d : ℕ) (bytes : List ℕ) (i : ℕ) → i < length bytes → (get_or bytes i 0 ≡ 59 → ⊥) → digit_of base (get_or bytes i 0) ≡ Some d → numbered base n k (drop i bytes) ≡ numbered base (n * base + d) (k + 1) (drop (i + 1) bytes)
numbered_more base n k d bytes i lt ne e =
    let other : eqb (get_or bytes i 0) 59 ≡ false = grind (arith, nat_tests) in
    at_drop_more (numbered base n k) bytes i 0 lt ∙ rw (other, e) refl

-- a reference with a byte that is no digit of its base is none
pub numbered_stops : (base n k : ℕ) (bytes : List ℕ) (i : ℕ) → i < length bytes → (get_or bytes i 0 ≡ 59 → ⊥) → digit_of base (get_or bytes i 0) ≡ None → numbered base n k (drop i bytes) ≡ None
numbered_stops base n k bytes i lt ne e =
    let other : eqb (get_or bytes i 0) 59 ≡ false = grind (arith, nat_tests) in
    at_drop_more (numbered base n k) bytes i 0 lt ∙ rw (other, e) refl

-- at the semicolon a reference stands for the character with its number, if there is one
pub numbered_ends : (base n k : ℕ) (bytes : List ℕ) (i : ℕ) → i < length bytes → get_or bytes i 0 ≡ 59 → numbered base n k (drop i bytes) ≡ finished n (k + 1)
numbered_ends base n k bytes i lt e = at_drop_more (numbered base n k) bytes i 0 lt ∙ rw e refl

-- a reference whose semicolon is missing is none
pub numbered_done : (base n k : ℕ) (bytes : List ℕ) (i : ℕ) → length bytes ≤ i → numbered base n k (drop i bytes) ≡ None
numbered_done base n k bytes i all = at_drop_all (numbered base n k) bytes i all

too_large : (n : ℕ) → 0x10FFFF < n → is_allowed n ≡ false
too_large n h = grind (arith, nat_tests)

grows : (base n d : ℕ) → 0x10FFFF < n → 1 ≤ base → 0x10FFFF < n * base + d
grows base n d h one = omega (arith, more n base one)
  where
    more : (n base : ℕ) → 1 ≤ base → n ≤ n * base
    more n zero one = absurd (omega arith)
    more n (suc base) one = omega arith

-- a number past the last character's only grows
large_none : (base n k : ℕ) (bytes : List ℕ) → 1 ≤ base → 0x10FFFF < n → numbered base n k bytes ≡ None
large_none base n k [] one h = refl
large_none base n k (b ∷ rest) one h =
    let go : (o : Option ℕ) → and_then o (λ d. numbered base (n * base + d) (k + 1) rest) ≡ None = λ o. elim o as (λ o. and_then o (λ d. numbered base (n * base + d) (k + 1) rest) ≡ None) [ None ↦ refl | Some d ↦ large_none base (n * base + d) (k + 1) rest one (grows base n d h one) ] in
    elim (eqb b 59) as (λ v. cond v (finished n (k + 1)) (and_then (digit_of base b) (λ d. numbered base (n * base + d) (k + 1) rest)) ≡ None) [
      | true ↦ rw (too_large n h) refl
      | false ↦ go (digit_of base b)
    ]

large_false : (base n : ℕ) (bytes : List ℕ) → 1 ≤ base → 0x10FFFF < n → is_cut_number base n bytes ≡ false
large_false base n [] one h = grind (arith, nat_tests)
large_false base n (b ∷ rest) one h =
    let go : (o : Option ℕ) → and_also o (λ d. is_cut_number base (n * base + d) rest) ≡ false = λ o. elim o as (λ o. and_also o (λ d. is_cut_number base (n * base + d) rest) ≡ false) [ None ↦ refl | Some d ↦ large_false base (n * base + d) rest one (grows base n d h one) ] in
    go (digit_of base b)

-- a reference whose number is past the last character is none
pub numbered_large : (base n k : ℕ) (bytes : List ℕ) (i : ℕ) → 1 ≤ base → 0x10FFFF < n → numbered base n k (drop i bytes) ≡ None
numbered_large base n k bytes i one h = large_none base n k (drop i bytes) one h

-- a digit is taken into the number of a reference that the document's end may cut
pub cut_more : (base n d : ℕ) (bytes : List ℕ) (i : ℕ) → i < length bytes → digit_of base (get_or bytes i 0) ≡ Some d → is_cut_number base n (drop i bytes) ≡ is_cut_number base (n * base + d) (drop (i + 1) bytes)
cut_more base n d bytes i lt e = at_drop_more (is_cut_number base n) bytes i 0 lt ∙ rw e refl

-- a byte that is no digit shows that a reference is not merely cut off
pub cut_stops : (base n : ℕ) (bytes : List ℕ) (i : ℕ) → i < length bytes → digit_of base (get_or bytes i 0) ≡ None → is_cut_number base n (drop i bytes) ≡ false
cut_stops base n bytes i lt e = at_drop_more (is_cut_number base n) bytes i 0 lt ∙ rw e refl

-- digits up to the end are a reference that is cut off, if their number is not too large
pub cut_ends : (base n : ℕ) (bytes : List ℕ) (i : ℕ) → length bytes ≤ i → is_cut_number base n (drop i bytes) ≡ nat_le n 0x10FFFF
cut_ends base n bytes i all = at_drop_all (is_cut_number base n) bytes i all

-- a number past the last character is no reference that is cut off
pub cut_large : (base n : ℕ) (bytes : List ℕ) (i : ℕ) → 1 ≤ base → 0x10FFFF < n → is_cut_number base n (drop i bytes) ≡ false
cut_large base n bytes i one h = large_false base n (drop i bytes) one h
