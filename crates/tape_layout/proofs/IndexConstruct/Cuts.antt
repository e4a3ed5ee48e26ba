-- A document is cut into blocks in one way.
use Rattle.std.proofs.Common.{◌≡◌, ℕ, zero, suc, ◌+◌, ◌-◌, ◌*◌, ◌<◌, ◌≤◌, inl, inr, min, List, [], ◌∷◌, ◌++◌, map, take, drop, length, refl, sym, ap, subst, ◌∙◌, arith, Some}
use Rattle.std.specs.Int.{div_ceil}
use Rattle.std.specs.List.{concat, range_with_len, slice_get}
use Rattle.std.proofs.lemmas.Bool.{cases_order}
use Rattle.std.proofs.lemmas.Grind.{div_ceil_times}
use Rattle.std.proofs.lemmas.List.{drop-drop, length-take, length-drop, length-append, take-append-drop, take_all, drop_all, take_at, drop_at, append-nil}
use Rattle.std.proofs.lemmas.List.FromFn.{length-map-range_with_len, get_or-map-range_with_len}
use Rattle.std.proofs.lemmas.Option.{slice_get-get_or}
use Rattle.std.proofs.Math.Nat.{mul-le-mul_right}
use Rattle.tape_layout.specs.IndexConstruct.Blocks.{AreFull, AreBlocks, block_at, blocks_of}
use Rattle.tape_layout.specs.IndexConstruct.Laws.{AreCutInOneWay}

-- ---- how many blocks there are

not_more : (size n q p : ℕ) → n ≤ q * size → p * size < n + size → q < p → ⊥
not_more size n q p enough few lt =
    let more : (q + 1) * size ≤ p * size = mul-le-mul_right size (omega arith) in
    omega arith

one_count : (size n q p : ℕ) → n ≤ q * size → q * size < n + size → n ≤ p * size → p * size < n + size → q ≡ p
one_count size n q p enough few enough_too few_too = elim (cases_order q p) [
  | inl same ↦ same
  | inr (inl lt) ↦ absurd (not_more size n q p enough few_too lt)
  | inr (inr gt) ↦ absurd (not_more size n p q enough_too few gt)
]

-- the blocks of a document have room for all of it
pub is_enough : (size n : ℕ) → 1 ≤ size → n ≤ div_ceil n size * size
is_enough size n some = (div_ceil_times n size some).0

-- the blocks of a document have no room for a block more
pub is_few : (size n : ℕ) → 1 ≤ size → div_ceil n size * size < n + size
is_few size n some = (div_ceil_times n size some).1

-- this many are enough and not too many
is_count : (size n q : ℕ) → 1 ≤ size → n ≤ q * size → q * size < n + size → div_ceil n size ≡ q
is_count size n q some enough few = one_count size n (div_ceil n size) q (is_enough size n some) (is_few size n some) enough few

enough_less : (size n m : ℕ) → n ≤ suc m * size → n - size ≤ m * size
enough_less size n m h = omega (arith, h)

few_less : (size n m : ℕ) → 1 ≤ size → suc m * size < n + size → m * size < n - size + size
few_less size n m some h = elim (cases_order n size) [
  | inl same ↦ omega (arith, h, same)
  | inr (inl lt) ↦ omega (arith, h, lt)
  | inr (inr gt) ↦ omega (arith, h, gt)
]

one_less : (size n m : ℕ) → 1 ≤ size → div_ceil n size ≡ suc m → div_ceil (n - size) size ≡ m
one_less size n m some is =
    is_count size (n - size) m some
    (enough_less size n m (subst (λ q. n ≤ q * size) is (is_enough size n some)))
    (few_less size n m some (subst (λ q. q * size < n + size) is (is_few size n some)))

-- ---- the blocks that are cut

first_block : (size : ℕ) (doc : List ℕ) → take size doc ≡ block_at size doc 0
first_block size doc = let none : 0 ≡ 0 * size = omega arith in ap (λ k. take size (drop k doc)) none

-- the blocks behind the first are those of the rest
behind : (size k : ℕ) (doc : List ℕ) → block_at size doc (k + 1) ≡ block_at size (drop size doc) k
behind size k doc =
    let past : (k + 1) * size ≡ size + k * size = omega arith in
    ap (λ n. take size (drop n doc)) past ∙ sym (ap (take size) (drop-drop (k * size) size doc))

all_behind : (size a n : ℕ) (doc : List ℕ) → map (block_at size doc) (range_with_len (a + 1) n) ≡ map (block_at size (drop size doc)) (range_with_len a n)
all_behind size a zero doc = refl
all_behind size a (suc n) doc =
    ap (λ b. b ∷ map (block_at size doc) (range_with_len (a + 1 + 1) n)) (behind size a doc)
    ∙ ap (λ bs. block_at size (drop size doc) a ∷ bs) (all_behind size (a + 1) n doc)

more_than_one : (size n m : ℕ) → 1 ≤ size → suc (suc m) * size < n + size → size < n
more_than_one size n m some few = omega (arith, few)

first_full : (size : ℕ) (doc : List ℕ) (n : ℕ) (bs : List (List ℕ)) → 1 ≤ size → suc n * size < length doc + size → length bs ≡ n → AreFull size bs → AreFull size (take size doc ∷ bs)
first_full size doc n [] some few len full =
    let long : length (take size doc) ≡ min size (length doc) = length-take size doc in
    let one : suc 0 * size < length doc + size = subst (λ k. suc k * size < length doc + size) (sym len) few in
    (omega arith, omega arith)
first_full size doc n (b ∷ bs) some few len full =
    let long : length (take size doc) ≡ min size (length doc) = length-take size doc in
    let lt : size < length doc = more_than_one size (length doc) (length bs) some (subst (λ k. suc k * size < length doc + size) (sym len) few) in
    (omega arith, full)

nothing_left : (doc : List ℕ) (size : ℕ) → 1 ≤ size → div_ceil (length doc) size ≡ 0 → [] ≡ doc
nothing_left [] size some is = refl
nothing_left (b ∷ doc) size some is =
    let enough : suc (length doc) ≤ 0 * size = subst (λ q. suc (length doc) ≤ q * size) is (is_enough size (suc (length doc)) some) in
    absurd (omega arith)

cut_so : (n size : ℕ) (doc : List ℕ) → 1 ≤ size → div_ceil (length doc) size ≡ n → AreBlocks size doc (map (block_at size doc) (range_with_len 0 n))
cut_so zero size doc some is = record { joined = nothing_left doc size some is; full = tt }
cut_so (suc n) size doc some is =
    let shorter : div_ceil (length (drop size doc)) size ≡ n = ap (λ m. div_ceil m size) (length-drop size doc) ∙ one_less size (length doc) n some is in
    let rest = cut_so n size (drop size doc) some shorter in
    let few = subst (λ q. q * size < length doc + size) is (is_few size (length doc) some) in
    let same : block_at size doc 0 ∷ map (block_at size (drop size doc)) (range_with_len 0 n) ≡ map (block_at size doc) (range_with_len 0 (suc n)) = ap (λ bs. block_at size doc 0 ∷ bs) (sym (all_behind size 0 n doc)) in
    let start : take size doc ≡ block_at size doc 0 = first_block size doc in
    let whole : AreBlocks size doc (take size doc ∷ map (block_at size (drop size doc)) (range_with_len 0 n)) = record {
      joined = ap (λ bytes. take size doc ++ bytes) rest.joined ∙ take-append-drop size doc;
      full = first_full size doc n (map (block_at size (drop size doc)) (range_with_len 0 n)) some few (length-map-range_with_len (block_at size (drop size doc)) 0 n) rest.full;
    } in
    subst (AreBlocks size doc) (ap (λ b. b ∷ map (block_at size (drop size doc)) (range_with_len 0 n)) start ∙ same) whole

-- ---- that there are no others

tail_full : (size : ℕ) (b : List ℕ) (bs : List (List ℕ)) → AreFull size (b ∷ bs) → AreFull size bs
tail_full size b [] full = tt
tail_full size b (c ∷ bs) full = full.1

enough_hold : (size : ℕ) (bs : List (List ℕ)) → AreFull size bs → length (concat bs) ≤ length bs * size
enough_hold size [] full = omega arith
enough_hold size (b ∷ []) full =
    let long : length (b ++ []) ≡ length b + 0 = length-append b [] in
    omega (arith, full.1)
enough_hold size (b ∷ c ∷ bs) full =
    let long : length (b ++ concat (c ∷ bs)) ≡ length b + length (concat (c ∷ bs)) = length-append b (concat (c ∷ bs)) in
    omega (arith, full.0, enough_hold size (c ∷ bs) full.1)

few_hold : (size : ℕ) (bs : List (List ℕ)) → 1 ≤ size → AreFull size bs → length bs * size < length (concat bs) + size
few_hold size [] some full = omega arith
few_hold size (b ∷ []) some full =
    let long : length (b ++ []) ≡ length b + 0 = length-append b [] in
    omega (arith, full.0)
few_hold size (b ∷ c ∷ bs) some full =
    let long : length (b ++ concat (c ∷ bs)) ≡ length b + length (concat (c ∷ bs)) = length-append b (concat (c ∷ bs)) in
    omega (arith, full.0, few_hold size (c ∷ bs) some full.1)

first_is : (size : ℕ) (b : List ℕ) (bs : List (List ℕ)) → AreFull size (b ∷ bs) → (take size (b ++ concat bs) ≡ b) × (drop size (b ++ concat bs) ≡ concat bs)
first_is size b [] full = (ap (take size) (append-nil b) ∙ take_all size b full.1, ap (drop size) (append-nil b) ∙ drop_all size b full.1)
first_is size b (c ∷ bs) full = (take_at b (concat (c ∷ bs)) size full.0, drop_at b (concat (c ∷ bs)) size full.0)

rebuilt : (size : ℕ) (bs : List (List ℕ)) → AreFull size bs → bs ≡ map (block_at size (concat bs)) (range_with_len 0 (length bs))
rebuilt size [] full = refl
rebuilt size (b ∷ bs) full =
    let parts = first_is size b bs full in
    let front : b ≡ block_at size (b ++ concat bs) 0 = sym parts.0 ∙ first_block size (b ++ concat bs) in
    ap (λ rest. b ∷ rest) (rebuilt size bs (tail_full size b bs full))
    ∙ ap (λ doc. b ∷ map (block_at size doc) (range_with_len 0 (length bs))) (sym parts.1)
    ∙ ap (λ rest. b ∷ rest) (sym (all_behind size 0 (length bs) (b ++ concat bs)))
    ∙ ap (λ x. x ∷ map (block_at size (b ++ concat bs)) (range_with_len 1 (length bs))) front

counted : (size : ℕ) (doc : List ℕ) (bs : List (List ℕ)) → 1 ≤ size → AreBlocks size doc bs → length bs ≡ div_ceil (length doc) size
counted size doc bs some are =
    sym (is_count size (length doc) (length bs) some
    (subst (λ d. length d ≤ length bs * size) are.joined (enough_hold size bs are.full))
    (subst (λ d. length bs * size < length d + size) are.joined (few_hold size bs some are.full)))

only_so : (size : ℕ) (doc : List ℕ) (bs : List (List ℕ)) → 1 ≤ size → AreBlocks size doc bs → bs ≡ blocks_of size doc
only_so size doc bs some are =
    rebuilt size bs are.full
    ∙ ap (λ d. map (block_at size d) (range_with_len 0 (length bs))) are.joined
    ∙ ap (λ n. map (block_at size doc) (range_with_len 0 n)) (counted size doc bs some are)

-- a document is cut into blocks in one way
pub cut_in_one_way : AreCutInOneWay
cut_in_one_way = record {
  cut = λ size doc some. cut_so (div_ceil (length doc) size) size doc some refl;
  only = only_so;
  count = counted;
}

-- ---- one block of them

-- each piece of the document is the block of its number
pub block_there : (size : ℕ) (doc : List ℕ) (k : ℕ) (piece : List ℕ) → k < div_ceil (length doc) size → piece ≡ block_at size doc k → slice_get (blocks_of size doc) k ≡ Some piece
block_there size doc k piece there is =
    let n : ℕ = div_ceil (length doc) size in
    let lt : k < length (map (block_at size doc) (range_with_len 0 (div_ceil (length doc) size))) = subst (λ m. k < m) (sym (length-map-range_with_len (block_at size doc) 0 (div_ceil (length doc) size))) there in
    slice_get-get_or (blocks_of size doc) k [] lt
    ∙ ap Some (get_or-map-range_with_len (block_at size doc) 0 (div_ceil (length doc) size) k k [] there (omega arith) ∙ sym is)
