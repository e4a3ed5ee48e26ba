-- Texts in which every byte stands for itself.
use Rattle.std.proofs.Common.{◌≡◌, ℕ, ◌+◌, ◌<◌, ◌≤◌, ◌⊎◌, inl, inr, nat_lt, eqb, Bool, true, false, List, [], ◌∷◌, Ok, length, IsUtf8, refl, sym, ap, subst, ◌∙◌, arith}
use Rattle.std.specs.Char.{encode_utf8}
use Rattle.std.specs.List.{list_all}
use Rattle.std.specs.Str.{chars, encode_utf8_all, all_scalars}
use Rattle.std.proofs.lemmas.Bool.Decides.{nat_tests}
use Rattle.std.proofs.lemmas.List.Folds.{list_all-append}
use Rattle.std.proofs.lemmas.Str.{encodes-chars, scalars-chars, utf8_valid_len-IsUtf8}
use Rattle.std.proofs.lemmas.Bool.{cases_order, and_parts}
use lib.Utf8.{encode, scalar, scalar_cases}
use Rattle.ltfs_documents.specs.DocFields.Reading.{Read, ◌>>=◌}
use Rattle.ltfs_documents.specs.DocFields.Texts.{is_allowed, is_simple, put_front, resolved, resolved_text, run_text}

-- a character that stands for itself
record IsItself (c : ℕ) : Type 0 where
  no_reference : eqb c 38 ≡ false
  no_return : eqb c 13 ≡ false
  allowed : is_allowed c ≡ true

low : (c : ℕ) → c < 128 → is_simple c ≡ true → IsItself c
low c lt e = record { no_reference = grind (arith, nat_tests); no_return = grind (arith, nat_tests); allowed = grind (arith, nat_tests) }

high : (c : ℕ) → 128 ≤ c → (c < 55296) ⊎ ((57344 ≤ c) × (c < 1114112)) → (c ≡ 65534 → ⊥) → (c ≡ 65535 → ⊥) → IsItself c
high c le (inl lt) first last = record { no_reference = grind (arith, nat_tests); no_return = grind (arith, nat_tests); allowed = grind (arith, nat_tests) }
high c le (inr in_range) first last =
    let from = in_range.0 in
    let to = in_range.1 in
    record { no_reference = grind (arith, nat_tests); no_return = grind (arith, nat_tests); allowed = grind (arith, nat_tests) }

one_byte : (c : ℕ) → c < 128 → encode_utf8 c ≡ c ∷ []
unfolding encode
one_byte c lt = let e : nat_lt c 128 ≡ true = grind (arith, nat_tests) in rw e refl

not_first : (c : ℕ) → list_all is_simple (encode_utf8 c) ≡ true → c ≡ 65534 → ⊥
unfolding encode
not_first c e is = let bad : list_all is_simple (encode_utf8 65534) ≡ true = subst (λ (n : ℕ). list_all is_simple (encode_utf8 n) ≡ true) is e in cc bad

not_last : (c : ℕ) → list_all is_simple (encode_utf8 c) ≡ true → c ≡ 65535 → ⊥
unfolding encode
not_last c e is = let bad : list_all is_simple (encode_utf8 65535) ≡ true = subst (λ (n : ℕ). list_all is_simple (encode_utf8 n) ≡ true) is e in cc bad

itself : (c : ℕ) → scalar c ≡ true → list_all is_simple (encode_utf8 c) ≡ true → IsItself c
itself c valid e = elim (cases_order c 128) [
  | inr (inl lt) ↦ low c lt (and_parts (is_simple c) true (sym (ap (list_all is_simple) (one_byte c lt)) ∙ e)).0
  | inl same ↦ high c (omega (arith, same)) (scalar_cases c valid) (not_first c e) (not_last c e)
  | inr (inr gt) ↦ high c (omega (arith, gt)) (scalar_cases c valid) (not_first c e) (not_last c e)
]

each : (cut : Bool) (at : ℕ) (cs : List ℕ) → all_scalars cs ≡ true → list_all is_simple (encode_utf8_all cs) ≡ true → resolved cut 0 at cs ≡ Ok cs
each cut at [] valid e = refl
each cut at (c ∷ cs) valid e =
    let parts = and_parts (scalar c) (all_scalars cs) valid in
    let simple = and_parts (list_all is_simple (encode_utf8 c)) (list_all is_simple (encode_utf8_all cs)) (sym (list_all-append is_simple (encode_utf8 c) (encode_utf8_all cs)) ∙ e) in
    let h = itself c parts.0 simple.0 in
    let rest = each cut (at + length (encode_utf8 c)) cs parts.1 simple.1 in
    rw (h.allowed, h.no_reference, h.no_return) (ap (put_front c) rest)

-- a text of bytes that each stand for themselves is read as it is
pub simple_text : (cut : Bool) (at : ℕ) (text : List ℕ) → IsUtf8 text → list_all is_simple text ≡ true → resolved_text cut at text ≡ Ok text
unfolding resolved_text
simple_text cut at text valid e =
    let bytes = encodes-chars text valid in
    let all = each cut at (chars text) (scalars-chars text valid) (ap (list_all is_simple) bytes ∙ e) in
    ap (λ (r : Read (List ℕ)). r >>= λ cs. Ok (encode_utf8_all cs)) all ∙ ap Ok bytes

-- a run that is UTF-8 is read as a whole
pub run_whole : (ended : Bool) (at : ℕ) (run : List ℕ) → IsUtf8 run → run_text ended at run ≡ resolved_text ended at run
unfolding run_text
run_whole ended at run valid =
    let whole = utf8_valid_len-IsUtf8 run valid in
    let same : eqb (length run) (length run) ≡ true = grind (arith, nat_tests) in
    rw (whole, same) refl
