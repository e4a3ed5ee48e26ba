-- Where the pieces of a range stand.
use Rattle.std.proofs.Common.{◌≡◌, ℕ, ◌+◌, ◌-◌, ◌*◌, ◌/◌, ◌%◌, ◌<◌, ◌≤◌, min, Bool, true, false, cond, eqb, List, [], ◌∷◌, ◌++◌, length, map, ap, ◌∙◌, refl, arith, ⊎_elim, inl, inr}
use Rattle.std.specs.Int.{div_ceil}
use Rattle.std.specs.List.{All, AllByRecursion, range_with_len}
use Rattle.std.proofs.lemmas.List.Elements.{All-head, All-tail}
use Rattle.std.proofs.lemmas.Nat.{div-mul-add}
use Rattle.tape_types.specs.declared.cartridges.Extent.{Extent}
use Rattle.tape_types.specs.declared.cartridges.Part.{Part}
use Rattle.extent_map.specs.Blocks.{FileStandsIn, SomeStandsIn, StandsIn}
use Rattle.extent_map.specs.Laid.{AreLaid, IsLaid, Laid, cut, left_from, past, rest_of, unless_empty}
use Rattle.extent_map.specs.Pieces.{IsInOneBlock, piece_in, pieces_of, planned, with_gaps, zeros}
use Rattle.extent_map.specs.Replies.{bytes_in, size_of}
use Rattle.extent_map.specs.declared.pieces.Piece.{Piece}
use Rattle.extent_map.specs.declared.pieces.Piece.TheVariants.{Stored, Zeros}
use Rattle.extent_map.proofs.BlockLemmas.{in_cut, in_joined}
use Rattle.extent_map.proofs.CellLemmas.{div_on}
use Rattle.extent_map.proofs.LaidLemmas.{cut_laid, laid_le, left_laid}
use Rattle.extent_map.proofs.PieceLemmas.{plans_read}

-- ---- lists

all_joined : {X : Type 0} (P : X → Type 0) (xs ys : List X) → AllByRecursion P xs → AllByRecursion P ys → AllByRecursion P (xs ++ ys)
all_joined P [] ys a b = b
all_joined P (x ∷ xs) ys a b = (a.0, all_joined P xs ys a.1 b)

-- where one fact follows from another, it holds of all where that does
pub all_by : {X : Type 0} (P Q : X → Type 0) (xs : List X) → ((x : X) → P x → Q x) → AllByRecursion P xs → AllByRecursion Q xs
all_by P Q [] f a = tt
all_by P Q (x ∷ xs) f a = (f x a.0, all_by P Q xs f a.1)

all_given : {X : Type 0} (P Q : X → Type 0) (xs : List X) → All P xs → AllByRecursion (λ x. P x → Q x) xs → AllByRecursion Q xs
all_given P Q [] each a = tt
all_given P Q (x ∷ xs) each a = (a.0 (All-head P x xs each), all_given P Q xs (All-tail P x xs each) a.1)

-- ---- what is left of extents stands in their blocks

module _ (size : ℕ) (part : Part) (pos : ℕ) (some : 1 ≤ size) where
  of_some : (e : Extent) → SomeStandsIn size (unless_empty e) part pos → StandsIn size e part pos
  of_some e h = by (eqb e.count 0) h
    where
      by : (b : Bool) → SomeStandsIn size (cond b [] (e ∷ [])) part pos → StandsIn size e part pos
      by true h = absurd h
      by false (inl here) = here
      by false (inr none) = absurd none

  in_rest : (n : ℕ) (e : Extent) → StandsIn size (rest_of size n e) part pos → StandsIn size e part pos
  in_rest n e h =
      let sum : e.byte + n + h.byte ≡ e.byte + (n + h.byte) = omega arith in
      let place : (e.byte + n) / size + ((e.byte + n) % size + h.byte) / size ≡ (e.byte + (n + h.byte)) / size = div_on (e.byte + n) h.byte size some ∙ ap (λ x. x / size) sum in
      record { byte = n + h.byte; within = omega (arith, h.within); on = h.on; here = omega (arith, place, h.here) }

  in_left : (at : ℕ) (es : List Extent) → SomeStandsIn size (left_from size at es) part pos → SomeStandsIn size es part pos
  in_left at [] h = h
  in_left at (e ∷ es) h =
      ⊎_elim (λ a. inl (in_rest (at - e.offset) e (of_some (rest_of size (at - e.offset) e) a))) (λ b. inr (in_left at es b))
      (in_joined size part pos (past size at e) (left_from size at es) h)

-- ---- pieces stand in the blocks of their extents

-- a piece that stands on tape does so at such a place
abbrev pub StandsWhere : (Part → ℕ → Type 0) → Piece → Type 0
StandsWhere P (Stored place byte count) = P place.part place.pos
StandsWhere P (Zeros count) = Unit {0}

one_stands : (size : ℕ) (e : Extent) (k : ℕ) → 1 ≤ min size (e.byte + e.count - k * size) - (e.byte - k * size) → StandsIn size e e.part (e.block + k)
one_stands size e k some =
    let sum : e.byte + (k * size - e.byte) ≡ k * size + (e.byte - k * size) = whole_blocks k size e.byte e.count some in
    let low : e.byte - k * size < size = omega (arith, some) in
    let quotient : (e.byte + (k * size - e.byte)) / size ≡ k = ap (λ n. n / size) sum ∙ div-mul-add k size (e.byte - k * size) low in
    record { byte = k * size - e.byte; within = omega (arith, some); on = refl; here = ap (λ n. e.block + n) quotient }
  where
    whole_blocks : (k size byte count : ℕ) → 1 ≤ min size (byte + count - k * size) - (byte - k * size) → byte + (k * size - byte) ≡ k * size + (byte - k * size)
    whole_blocks k size byte count some = omega (arith, some)

module _ (size : ℕ) (P : Part → ℕ → Type 0) where
  abbrev Fit : Piece → Type 0
  Fit piece = IsInOneBlock size piece → StandsWhere P piece

  zeros_fit : (n : ℕ) → AllByRecursion Fit (zeros n)
  zeros_fit n = by (eqb n 0)
    where
      by : (b : Bool) → AllByRecursion Fit (cond b [] (Zeros n ∷ []))
      by true = tt
      by false = (λ h. tt, tt)

  run_fits : (e : Extent) (ks : List ℕ) → ((pos : ℕ) → StandsIn size e e.part pos → P e.part pos) → AllByRecursion Fit (map (piece_in size e) ks)
  run_fits e [] h = tt
  run_fits e (k ∷ ks) h = (λ (one : IsInOneBlock size (piece_in size e k)). h (e.block + k) (one_stands size e k one.0), run_fits e ks h)

  gaps_fit : (low end : ℕ) (es : List Extent) → ((part : Part) (pos : ℕ) → SomeStandsIn size es part pos → P part pos) → AllByRecursion Fit (with_gaps size low end es)
  gaps_fit low end [] h = zeros_fit (end - low)
  gaps_fit low end (e ∷ es) h =
      all_joined Fit (zeros (e.offset - low) ++ pieces_of size e) (with_gaps size (e.offset + e.count) end es)
      (all_joined Fit (zeros (e.offset - low)) (pieces_of size e) (zeros_fit (e.offset - low)) (run_fits e (range_with_len 0 (div_ceil (e.byte + e.count) size)) (λ pos a. h e.part pos (inl a))))
      (gaps_fit (e.offset + e.count) end es (λ part pos b. h part pos (inr b)))

-- each piece of a range stands in a block of its file
pub plan_stands : (f : Laid) (offset count : ℕ) → IsLaid f → AllByRecursion (StandsWhere (FileStandsIn f)) (planned f offset count)
plan_stands f offset count laid =
    all_given (IsInOneBlock f.block_size) (StandsWhere (FileStandsIn f)) (planned f offset count) (plans_read.in_one_block f offset count laid)
    (gaps_fit f.block_size (FileStandsIn f) offset (offset + count) (left_from f.block_size offset (cut (offset + count) f.extents))
    (λ part pos h. in_cut f.block_size part pos (offset + count) f.extents (in_left f.block_size part pos laid.some_block offset (cut (offset + count) f.extents) h)))

-- ---- no bytes are no pieces

-- a range of no bytes has no pieces
pub none_planned : (f : Laid) (offset : ℕ) → IsLaid f → planned f offset 0 ≡ []
none_planned f offset laid =
    empty (left_from f.block_size offset (cut (offset + 0) f.extents))
    (left_laid f.block_size 0 (offset + 0) (cut (offset + 0) f.extents) offset laid.some_block (cut_laid f.block_size 0 f.length f.extents (offset + 0) laid.are_laid (omega arith)) (omega arith))
  where
    empty : (es : List Extent) → AreLaid f.block_size offset (offset + 0) es → with_gaps f.block_size offset (offset + 0) es ≡ []
    empty [] h = let none : offset + 0 - offset ≡ 0 = omega arith in ap zeros none
    empty (e ∷ es) h = absurd (omega (arith, h.0, h.1, laid_le f.block_size (e.offset + e.count) (offset + 0) es h.4))

-- ---- there are no more pieces than bytes

-- there are no more pieces than bytes in them
pub pieces_long : (size : ℕ) (pieces : List Piece) → All (IsInOneBlock size) pieces → length pieces ≤ size_of pieces
pieces_long size [] each = omega arith
pieces_long size (piece ∷ pieces) each =
    let one : 1 ≤ bytes_in piece = by piece (All-head (IsInOneBlock size) piece pieces each) in
    omega (arith, one, pieces_long size pieces (All-tail (IsInOneBlock size) piece pieces each))
  where
    by : (p : Piece) → IsInOneBlock size p → 1 ≤ bytes_in p
    by (Zeros count) h = h
    by (Stored place byte count) h = h.0
