-- The first piece of a text that is cut at a byte.
use Rattle.std.proofs.Common.{◌≡◌, ℕ, ◌+◌, ◌<◌, Bool, true, false, List, ◌∷◌, [], length, get_or, take, drop, ap, ◌∙◌, arith, Some, None, Bor}
use Rattle.std.specs.Prelude.{Option}
use Rattle.std.specs.List.{slice_split}
use Rattle.std.proofs.lemmas.List.Splits.{slice_split_first, slice_split_none}
use Rattle.std.proofs.lemmas.List.Sums.{position_or_len_is}
use Rattle.std.proofs.lemmas.List.Elements.{All-from_get_or}
use Rattle.std.proofs.lemmas.Bool.{false_from_ne_true}

-- a text is cut at the first byte that passes the test
pub cut_at : (p : ℕ → Bool) (xs : List ℕ) (k : ℕ) → k < length xs → ((i : ℕ) → i < k → p (get_or xs i 0) ≡ true → ⊥) → p (get_or xs k 0) ≡ true → slice_split p xs ≡ take k xs ∷ slice_split p (drop (k + 1) xs)
cut_at p xs k within before here =
    let e = position_or_len_is p xs k 0 (omega arith) (λ i lt. false_from_ne_true _ (before i lt)) (λ _. here) in
    slice_split_first p xs 0 (rw e within) ∙ ap (λ n. take n xs ∷ slice_split p (drop (n + 1) xs)) e

-- a text in which no byte passes the test is one piece
pub cut_nowhere : (p : ℕ → Bool) (xs : List ℕ) → ((i : ℕ) → i < length xs → p (get_or xs i 0) ≡ true → ⊥) → slice_split p xs ≡ xs ∷ []
cut_nowhere p xs none = slice_split_none p xs (All-from_get_or (λ x. p x ≡ false) xs 0 (λ i lt. false_from_ne_true _ (none i lt)))

-- how long what is left of a text is, and 1 more, where something is left
abbrev pub left_len : Option (Bor (List ℕ)) → ℕ
left_len None = 0
left_len (Some text) = length text.now + 1
