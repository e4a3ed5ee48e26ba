-- The pieces of a range read the bytes of the range.
use Rattle.std.proofs.Common.{◌≡◌, ◌⊎◌, ℕ, zero, suc, ◌+◌, ◌-◌, ◌*◌, ◌/◌, ◌%◌, ◌<◌, ◌≤◌, min, Bool, true, false, cond, eqb, List, [], ◌∷◌, ◌++◌, map, replicate, Some, sym, ap, ◌∙◌, refl, subst, arith, ⊎_elim, inl, inr, append-nil}
use Rattle.std.specs.Int.{div_ceil}
use Rattle.std.specs.List.{range_with_len, flat_map, All}
use Rattle.std.proofs.lemmas.Bool.{cases_lt}
use Rattle.std.proofs.lemmas.Bool.Decides.{nat_tests}
use Rattle.std.proofs.Math.Nat.{mul-le-mul_left}
use Rattle.std.proofs.lemmas.Nat.{div-mul-add, mod-mul-add, div-add-mod', mod_below}
use Rattle.std.proofs.lemmas.List.{length-replicate, get_or-replicate, same_lists}
use Rattle.std.proofs.lemmas.List.Concat.{flat_map-append}
use Rattle.std.proofs.lemmas.List.Elements.{All-nil, All-cons, All-append}
use Rattle.std.proofs.lemmas.List.FromFn.{length-map-range_with_len, get_or-map-range_with_len, map-range_with_len_more}
use Rattle.tape_types.specs.declared.cartridges.Extent.{Extent}
use Rattle.plain_tree.specs.Cells as plain
use Rattle.plain_tree.specs.Cells.{Cell}
use Rattle.plain_tree.proofs.PageLemmas.{ranges_same, ranges_join, cells_read}
use Rattle.extent_map.specs.declared.pieces.Piece.{Piece}
use Rattle.extent_map.specs.declared.pieces.Piece.TheVariants.{Zeros}
use Rattle.extent_map.specs.Laid.{Laid, AreLaid, IsLaid, cut, left_from}
use Rattle.extent_map.specs.Cells.{Tape, cell_of, cells_of, cell_at, file_cells}
use Rattle.extent_map.specs.Pieces.{zeros, piece_in, pieces_of, with_gaps, planned, read_piece, IsInOneBlock}
use Rattle.extent_map.specs.Laws.{PlansRead}
use Rattle.extent_map.proofs.LaidLemmas.{cut_laid, left_laid, laid_le}
use Rattle.extent_map.proofs.CellLemmas.{cell_at_or, here, elsewhere, cut_before, left_after, outside}

-- ---- one extent, block by block

-- x is the number of bytes in the blocks before
record IsStep (size byte count x m c : ℕ) : Type 0 where
  starts : (j : ℕ) → j < c → byte + (m + j) ≡ x + (byte - x + j)
  within : (j : ℕ) → j < c → byte - x + j < size
  grows : min count (x + size - byte) ≡ m + c

step : (size byte count x : ℕ) → byte < size → (x ≡ 0) ⊎ (size ≤ x) → IsStep size byte count x (min count (x - byte)) (min size (byte + count - x) - (byte - x))
step size byte count x begins at = ⊎_elim
    (λ none. record { starts = λ j lt. omega arith; within = λ j lt. omega arith; grows = omega arith })
    (λ some. record { starts = λ j lt. omega arith; within = λ j lt. omega arith; grows = omega arith })
    at

whole_blocks : (k size : ℕ) → (k * size ≡ 0) ⊎ (size ≤ k * size)
whole_blocks zero size = inl (omega arith)
whole_blocks (suc k) size = inr (omega arith)

all_blocks : (n size : ℕ) → 1 ≤ size → n ≤ div_ceil n size * size
all_blocks n size some =
    let whole : n / size * size + n % size ≡ n = div-add-mod' n size in
    let low : n % size < size = mod_below n size some in
    ⊎_elim
    (λ none. let exact : n % size ≡ 0 = omega arith in let same : div_ceil n size ≡ n / size = omega arith in omega (arith, whole, ap (λ q. q * size) same))
    (λ more. let next : div_ceil n size ≡ n / size + 1 = omega arith in omega (arith, whole, ap (λ q. q * size) next))
    (cases_lt (n % size) 1)

module _ (tape : Tape) (size : ℕ) where
  module _ (e : Extent) (begins : e.byte < size) where
    abbrev read : List Piece → List Cell
    read ps = flat_map (read_piece tape) ps

    one_read : (k : ℕ) → read_piece tape (piece_in size e k)
        ≡ map (cell_of tape size e) (range_with_len (min e.count (k * size - e.byte)) (min size (e.byte + e.count - k * size) - (e.byte - k * size)))
    one_read k =
        let x : ℕ = k * size in
        let m : ℕ = min e.count (k * size - e.byte) in
        let c : ℕ = min size (e.byte + e.count - k * size) - (e.byte - k * size) in
        let s : IsStep size e.byte e.count (k * size) m c = step size e.byte e.count (k * size) begins (whole_blocks k size) in
        ranges_same (λ i. tape e.part (e.block + k) (e.byte - k * size + i)) (cell_of tape size e) 0 m c
        (λ j lt.
        let sum : e.byte + (m + j) ≡ k * size + (e.byte - k * size + j) = s.starts j lt in
        let quotient : (e.byte + (m + j)) / size ≡ k = ap (λ n. n / size) sum ∙ div-mul-add k size (e.byte - k * size + j) (s.within j lt) in
        let remainder : (e.byte + (m + j)) % size ≡ e.byte - k * size + (0 + j) = ap (λ n. n % size) sum ∙ mod-mul-add k size (e.byte - k * size + j) (s.within j lt) ∙ omega arith in
        ap (tape e.part (e.block + k)) (sym remainder) ∙ ap (λ q. tape e.part (e.block + q) ((e.byte + (m + j)) % size)) (sym quotient))

    some_read : (k : ℕ) → read (map (piece_in size e) (range_with_len 0 k)) ≡ map (cell_of tape size e) (range_with_len 0 (min e.count (k * size - e.byte)))
    some_read zero = let none : min e.count (0 * size - e.byte) ≡ 0 = omega arith in ap (λ n. map (cell_of tape size e) (range_with_len 0 n)) (sym none)
    some_read (suc k) =
        let m : ℕ = min e.count (k * size - e.byte) in
        let c : ℕ = min size (e.byte + e.count - k * size) - (e.byte - k * size) in
        let s : IsStep size e.byte e.count (k * size) m c = step size e.byte e.count (k * size) begins (whole_blocks k size) in
        let next : suc k ≡ k + 1 = omega arith in
        let grown : min e.count (suc k * size - e.byte) ≡ m + c = omega (arith, s.grows) in
        ap (λ n. read (map (piece_in size e) (range_with_len 0 n))) next
        ∙ ap read (map-range_with_len_more (piece_in size e) 0 k k (omega arith))
        ∙ flat_map-append (read_piece tape) (map (piece_in size e) (range_with_len 0 k)) (piece_in size e k ∷ [])
        ∙ ap (λ l. l ++ (read_piece tape (piece_in size e k) ++ [])) (some_read k)
        ∙ ap (λ l. map (cell_of tape size e) (range_with_len 0 m) ++ l) (append-nil (read_piece tape (piece_in size e k)) ∙ one_read k)
        ∙ ranges_join (cell_of tape size e) 0 m c m (min e.count (suc k * size - e.byte)) (omega arith) grown

    pub run_read : read (pieces_of size e) ≡ cells_of tape size e
    run_read =
        let k : ℕ = div_ceil (e.byte + e.count) size in
        let enough : e.byte + e.count ≤ div_ceil (e.byte + e.count) size * size = all_blocks (e.byte + e.count) size (omega arith) in
        let whole : min e.count (div_ceil (e.byte + e.count) size * size - e.byte) ≡ e.count = omega arith in
        some_read (div_ceil (e.byte + e.count) size) ∙ ap (λ n. map (cell_of tape size e) (range_with_len 0 n)) whole

  -- ---- extents and gaps

  zeros_read : (n : ℕ) → flat_map (read_piece tape) (zeros n) ≡ replicate n (Some 0)
  zeros_read n = by (eqb n 0) refl
    where
      by : (b : Bool) → eqb n 0 ≡ b → flat_map (read_piece tape) (cond b [] (Zeros n ∷ [])) ≡ replicate n (Some 0)
      by true is = let none : n ≡ 0 = grind (arith, nat_tests) in ap (λ n. replicate n (Some 0)) (sym none)
      by false is = append-nil (replicate n (Some 0))

  zeros_are : (g : ℕ → Cell) (a n : ℕ) → ((i : ℕ) → a ≤ i → i < a + n → g i ≡ Some 0) → map g (range_with_len a n) ≡ replicate n (Some 0)
  zeros_are g a n are =
      same_lists _ _ (length-map-range_with_len g a n ∙ sym (length-replicate {A = Cell} n (Some 0)))
      (λ k d lt. let low : k < n = omega (arith, lt, length-map-range_with_len g a n) in
      get_or-map-range_with_len g a n k (a + k) d low refl ∙ are (a + k) (omega arith) (omega arith) ∙ sym (get_or-replicate n k (Some 0) d low))

  pub gaps_read : (low end : ℕ) (es : List Extent) → AreLaid size low end es → flat_map (read_piece tape) (with_gaps size low end es) ≡ map (cell_at tape size es) (range_with_len low (end - low))
  gaps_read low end [] h = zeros_read (end - low) ∙ sym (zeros_are (cell_at tape size []) low (end - low) (λ i from to. refl))
  gaps_read low end (e ∷ es) h =
      let gap : ℕ = e.offset - low in
      let next : ℕ = e.offset + e.count in
      let f : ℕ → Cell = cell_at tape size (e ∷ es) in
      let before : low ≤ e.offset = h.0 in
      let after : next ≤ end = laid_le size next end es h.4 in
      let here_on : AreLaid size e.offset end (e ∷ es) = ((omega arith), h.1, h.2, h.3, h.4) in
      let zeros_first : flat_map (read_piece tape) (zeros gap) ≡ map f (range_with_len low gap) =
      zeros_read gap ∙ sym (zeros_are f low gap (λ i from to. cell_at_or tape size (e ∷ es) i ∙ outside tape size e.offset end (e ∷ es) i (Some 0) here_on (inl (omega arith)))) in
      let then_run : flat_map (read_piece tape) (pieces_of size e) ≡ map f (range_with_len e.offset e.count) =
      run_read e h.2 ∙ ranges_same (cell_of tape size e) f 0 e.offset e.count
      (λ k lt. let same : e.offset + k - e.offset ≡ 0 + k = omega arith in
      sym (cell_at_or tape size (e ∷ es) (e.offset + k) ∙ here tape size e es (e.offset + k) (Some 0) (omega arith) (omega arith) ∙ ap (cell_of tape size e) same)) in
      let then_rest : flat_map (read_piece tape) (with_gaps size next end es) ≡ map f (range_with_len next (end - next)) =
      gaps_read next end es h.4 ∙ ranges_same (cell_at tape size es) f next next (end - next)
      (λ k lt. cell_at_or tape size es (next + k) ∙ sym (elsewhere tape size e es (next + k) (Some 0) (inr (omega arith))) ∙ sym (cell_at_or tape size (e ∷ es) (next + k))) in
      flat_map-append (read_piece tape) (zeros gap ++ pieces_of size e) (with_gaps size next end es)
      ∙ ap (λ l. l ++ flat_map (read_piece tape) (with_gaps size next end es)) (flat_map-append (read_piece tape) (zeros gap) (pieces_of size e))
      ∙ ap (λ l. l ++ flat_map (read_piece tape) (pieces_of size e) ++ flat_map (read_piece tape) (with_gaps size next end es)) zeros_first
      ∙ ap (λ l. map f (range_with_len low gap) ++ l ++ flat_map (read_piece tape) (with_gaps size next end es)) then_run
      ∙ ap (λ l. map f (range_with_len low gap) ++ map f (range_with_len e.offset e.count) ++ l) then_rest
      ∙ ap (λ l. l ++ map f (range_with_len next (end - next))) (ranges_join f low gap e.count e.offset (next - low) (omega arith) (omega arith))
      ∙ ranges_join f low (next - low) (end - next) next (end - low) (omega arith) (omega arith)

-- ---- the whole plan

plan_laid : (f : Laid) (offset count : ℕ) → IsLaid f → AreLaid f.block_size offset (offset + count) (left_from f.block_size offset (cut (offset + count) f.extents))
plan_laid f offset count laid =
    left_laid f.block_size 0 (offset + count) (cut (offset + count) f.extents) offset laid.some_block (cut_laid f.block_size 0 f.length f.extents (offset + count) laid.are_laid (omega arith)) (omega arith)

plan_read : (tape : Tape) (f : Laid) (offset count : ℕ) → IsLaid f → offset + count ≤ f.length → flat_map (read_piece tape) (planned f offset count) ≡ plain.range_of (file_cells tape f) offset count
plan_read tape f offset count laid fits =
    let size : ℕ = f.block_size in
    let end : ℕ = offset + count in
    let es : List Extent = cut (offset + count) f.extents in
    let long : offset + count - offset ≡ count = omega arith in
    gaps_read tape f.block_size offset (offset + count) (left_from f.block_size offset es) (plan_laid f offset count laid)
    ∙ ap (λ n. map (cell_at tape f.block_size (left_from f.block_size offset es)) (range_with_len offset n)) long
    ∙ ranges_same (cell_at tape f.block_size (left_from f.block_size offset es)) (cell_at tape f.block_size f.extents) offset offset count
    (λ k lt.
    cell_at_or tape f.block_size (left_from f.block_size offset es) (offset + k)
    ∙ left_after tape f.block_size offset es (offset + k) (Some 0) laid.some_block (omega arith)
    ∙ cut_before tape f.block_size (offset + count) f.extents (offset + k) (Some 0) (omega arith)
    ∙ sym (cell_at_or tape f.block_size f.extents (offset + k)))
    ∙ cells_read (cell_at tape f.block_size f.extents) f.length offset offset count count (omega arith) (omega arith)

-- ---- each piece in its block

block_begins : (n size k : ℕ) → 1 ≤ size → k < div_ceil n size → k * size < n
block_begins n size k some lt =
    let whole : n / size * size + n % size ≡ n = div-add-mod' n size in
    ⊎_elim
    (λ none.
    let exact : n % size ≡ 0 = omega arith in
    let same : div_ceil n size ≡ n / size = omega arith in
    let below : k + 1 ≤ n / size = omega arith in
    omega (arith, whole, mul-le-mul_left size below))
    (λ more.
    let next : div_ceil n size ≡ n / size + 1 = omega arith in
    let below : k ≤ n / size = omega arith in
    omega (arith, whole, mul-le-mul_left size below))
    (cases_lt (n % size) 1)

piece_within : (size : ℕ) (e : Extent) (k : ℕ) → 1 ≤ e.count → e.byte < size → k * size < e.byte + e.count → IsInOneBlock size (piece_in size e k)
piece_within size e k some begins lt = ⊎_elim
    (λ first. ((omega arith), (omega arith)))
    (λ later. ((omega arith), (omega arith)))
    (whole_blocks k size)

pieces_within : (size : ℕ) (e : Extent) → 1 ≤ e.count → e.byte < size → All (IsInOneBlock size) (pieces_of size e)
pieces_within size e some begins k d lt =
    let low : k < div_ceil (e.byte + e.count) size = omega (arith, lt, length-map-range_with_len (piece_in size e) 0 (div_ceil (e.byte + e.count) size)) in
    subst (IsInOneBlock size) (sym (get_or-map-range_with_len (piece_in size e) 0 (div_ceil (e.byte + e.count) size) k k d low (omega arith)))
    (piece_within size e k some begins (block_begins (e.byte + e.count) size k (omega arith) low))

zeros_within : (size n : ℕ) → All (IsInOneBlock size) (zeros n)
zeros_within size n = by (eqb n 0) refl
  where
    by : (b : Bool) → eqb n 0 ≡ b → All (IsInOneBlock size) (cond b [] (Zeros n ∷ []))
    by true is = All-nil (IsInOneBlock size)
    by false is = let some : 1 ≤ n = grind (arith, nat_tests) in All-cons (IsInOneBlock size) (Zeros n) [] some (All-nil (IsInOneBlock size))

gaps_within : (size low end : ℕ) (es : List Extent) → AreLaid size low end es → All (IsInOneBlock size) (with_gaps size low end es)
gaps_within size low end [] h = zeros_within size (end - low)
gaps_within size low end (e ∷ es) h =
    All-append (IsInOneBlock size) (zeros (e.offset - low) ++ pieces_of size e) (with_gaps size (e.offset + e.count) end es)
    (All-append (IsInOneBlock size) (zeros (e.offset - low)) (pieces_of size e) (zeros_within size (e.offset - low)) (pieces_within size e h.1 h.2))
    (gaps_within size (e.offset + e.count) end es h.4)

-- the pieces planned for a range read its bytes, each within one block
pub plans_read : PlansRead
plans_read = record {
  read = plan_read;
  in_one_block = λ f offset count laid. gaps_within f.block_size offset (offset + count) (left_from f.block_size offset (cut (offset + count) f.extents)) (plan_laid f offset count laid);
}
