-- Whether all bytes of a part of a block are there.
use Rattle.std.proofs.Common.{◌≡◌, ℕ, zero, suc, ◌+◌, ◌-◌, ◌<◌, ◌≤◌, List, [], ◌∷◌, ◌++◌, length, take, drop, map, replicate, Option, Some, None, SomeIff, sym, ap, subst, ◌∙◌, refl, arith, append-nil, true, false}
use Rattle.std.specs.Prelude.{slice_get, get_or}
use Rattle.std.specs.Option.{option_map}
use Rattle.std.specs.List.{range_with_len}
use Rattle.std.proofs.lemmas.Option.{slice_get-get_or, slice_get_past}
use Rattle.std.proofs.lemmas.List.{take_all, length-take, length-drop, get_or-take, get_or-drop, same_lists}
use Rattle.std.proofs.lemmas.List.FromFn.{length-map-range_with_len, get_or-map-range_with_len}
use Rattle.plain_tree.specs.Cells.{Cell, bytes_of}
use Rattle.plain_tree.proofs.PageLemmas.{ranges_same, all_there}
use Rattle.extent_map.specs.Pieces.{IsTaken}

-- zeros are bytes
pub zeros_there : (n : ℕ) → bytes_of (replicate n (Some 0)) ≡ Some (replicate n 0)
zeros_there zero = refl
zeros_there (suc n) = ap (option_map (λ bs. 0 ∷ bs)) (zeros_there n)

-- what a checked sum gives
pub summed : (r : Option ℕ) (P : Type 0) (v x : ℕ) → SomeIff r P v → r ≡ Some x → x ≡ v
summed None P v x sum is = absurd (let bad : None ≡ Some x = is in cc)
summed (Some y) P v x sum is = let same : Some y ≡ Some x = is in let eq : y ≡ x = cc (same) in sym eq ∙ sum.1

-- a list that was made longer by zeros
pub grown : (xs : List ℕ) (n len count : ℕ) → len ≡ length xs → n ≡ length xs + count → take n xs ++ replicate (n - len) 0 ≡ xs ++ replicate count 0
grown xs n len count long sum =
    let rest : n - len ≡ count = omega (arith, sum, long) in
    ap (λ front. front ++ replicate (n - len) 0) (take_all n xs (omega (arith, sum))) ∙ ap (λ m. xs ++ replicate m 0) rest

-- where one cell is lost there are no bytes
one_lost : (cells : List Cell) (k : ℕ) → k < length cells → get_or cells k (Some 0) ≡ None → bytes_of cells ≡ None
one_lost [] k lt lost = absurd (omega (arith, lt))
one_lost (None ∷ cells) k lt lost = refl
one_lost (Some b ∷ cells) zero lt lost = absurd (let bad : Some b ≡ None = lost in cc)
one_lost (Some b ∷ cells) (suc k) lt lost = ap (option_map (λ bs. b ∷ bs)) (one_lost cells k (omega (arith, lt)) lost)

-- a part of a block
abbrev part : List ℕ → ℕ → ℕ → List Cell
part block byte count = map (λ i. slice_get block (byte + i)) (range_with_len 0 count)

-- of a block that ends before the part does, a byte is lost
pub part_lost : (block : List ℕ) (byte count : ℕ) → 1 ≤ count → length block < byte + count → bytes_of (part block byte count) ≡ None
part_lost block byte count some short =
    one_lost (part block byte count) (count - 1) (omega (arith, length-map-range_with_len (λ i. slice_get block (byte + i)) 0 count))
    (get_or-map-range_with_len (λ i. slice_get block (byte + i)) 0 count (count - 1) (count - 1) (Some 0) (omega arith) (omega arith)
    ∙ slice_get_past block (byte + (count - 1)) (omega arith))

-- an item of a list, whatever is given for none
inside : (xs : List ℕ) (i d e : ℕ) → i < length xs → get_or xs i d ≡ get_or xs i e
inside xs i d e lt = cc (sym (slice_get-get_or xs i d lt) ∙ slice_get-get_or xs i e lt)

part_is : (block : List ℕ) (byte count n : ℕ) → byte + count ≤ length block → n ≡ count → map (λ i. get_or block (byte + i) 0) (range_with_len 0 count) ≡ take n (drop byte block)
part_is block byte count n within same =
    let long : length (map (λ i. get_or block (byte + i) 0) (range_with_len 0 count)) ≡ count = length-map-range_with_len (λ i. get_or block (byte + i) 0) 0 count in
    same_lists _ _
    (omega (arith, length-take n (drop byte block), length-drop byte block))
    (λ k d lt.
    get_or-map-range_with_len (λ i. get_or block (byte + i) 0) 0 count k k d (omega arith) (omega arith)
    ∙ inside block (byte + k) 0 d (omega arith)
    ∙ sym (get_or-take n (drop byte block) k d (omega arith) ∙ get_or-drop byte block k d))

-- a block that has the part gives it
pub part_there : (block : List ℕ) (byte count n : ℕ) → byte + count ≤ length block → n ≡ count → bytes_of (part block byte count) ≡ Some (take n (drop byte block))
part_there block byte count n within same =
    ap bytes_of (ranges_same (λ i. slice_get block (byte + i)) (λ i. Some (get_or block (byte + i) 0)) 0 0 count (λ k lt. slice_get-get_or block (byte + (0 + k)) 0 (omega (arith, lt))))
    ∙ all_there (λ i. get_or block (byte + i) 0) (range_with_len 0 count)
    ∙ ap Some (part_is block byte count n within same)

-- ---- what was appended

-- bytes that are there are appended
pub taken : (old new more : List ℕ) (bytes : Option (List ℕ)) → bytes ≡ Some more → new ≡ old ++ more → IsTaken old new true bytes
taken old new more bytes there is = subst (λ b. IsTaken old new true b) (sym there) (refl, is)

-- where a byte is lost nothing is appended
pub left : (old : List ℕ) (bytes : Option (List ℕ)) → bytes ≡ None → IsTaken old old false bytes
left old bytes lost = subst (λ b. IsTaken old old false b) (sym lost) (refl, sym (append-nil old))
