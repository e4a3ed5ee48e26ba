-- Overlays and lengths change the bytes of a file as writes and truncations do.
use Rattle.std.proofs.Common.{◌≡◌, ℕ, ◌+◌, ◌-◌, ◌<◌, ◌≤◌, max, List, ◌∷◌, ◌++◌, length, drop, map, replicate, Some, sym, ap, ◌∙◌, refl, arith, inl, inr}
use Rattle.std.specs.List.{range_with_len}
use Rattle.std.proofs.lemmas.List.{length-replicate, get_or-replicate, same_lists}
use Rattle.std.proofs.lemmas.List.FromFn.{length-map-range_with_len, get_or-map-range_with_len}
use Rattle.tape_types.specs.declared.cartridges.Extent.{Extent}
use Rattle.plain_tree.specs.Cells as plain
use Rattle.plain_tree.specs.Cells.{Cell}
use Rattle.plain_tree.proofs.PageLemmas.{cells_written, cells_resized, cells_read, padded_is}
use Rattle.extent_map.specs.Laid.{Laid, IsLaid, cut, left_from, overlaid, resized}
use Rattle.extent_map.specs.Cells.{Tape, cell_of, cells_of, cell_at, file_cells}
use Rattle.extent_map.specs.Laws.{OverlaysWrite, LengthsTruncate, OldBytesStayAway}
use Rattle.extent_map.proofs.CellLemmas.{cell_or, cell_at_or, cell_or_append, here, elsewhere, cut_before, cut_after, left_after, left_before, outside}

module _ (tape : Tape) (f : Laid) (laid : IsLaid f) where
  abbrev size : ℕ
  size = f.block_size

  beyond : (i : ℕ) → f.length ≤ i → cell_at tape size f.extents i ≡ Some 0
  beyond i past = cell_at_or tape size f.extents i ∙ outside tape size 0 f.length f.extents i (Some 0) laid.are_laid (inr past)

  module _ (new : Extent) where
    abbrev end : ℕ
    end = new.offset + new.count

    abbrev rest : List Extent
    rest = left_from size end f.extents

    split : (i : ℕ) → cell_at tape size (cut new.offset f.extents ++ new ∷ rest) i ≡ cell_or tape size (cut new.offset f.extents) i (cell_or tape size (new ∷ rest) i (Some 0))
    split i = cell_at_or tape size (cut new.offset f.extents ++ new ∷ rest) i ∙ cell_or_append tape size (cut new.offset f.extents) (new ∷ rest) i (Some 0)

    in_range : (k : ℕ) → k < new.count → cell_at tape size (cut new.offset f.extents ++ new ∷ rest) (new.offset + k) ≡ cell_of tape size new k
    in_range k lt =
        let same : new.offset + k - new.offset ≡ k = omega arith in
        split (new.offset + k)
        ∙ cut_after tape size new.offset f.extents (new.offset + k) (cell_or tape size (new ∷ rest) (new.offset + k) (Some 0)) (omega arith)
        ∙ here tape size new rest (new.offset + k) (Some 0) (omega arith) (omega arith)
        ∙ ap (cell_of tape size new) same

    below_range : (i : ℕ) → i < new.offset → cell_at tape size (cut new.offset f.extents ++ new ∷ rest) i ≡ cell_at tape size f.extents i
    below_range i low =
        split i
        ∙ cut_before tape size new.offset f.extents i (cell_or tape size (new ∷ rest) i (Some 0)) low
        ∙ ap (cell_or tape size f.extents i) (elsewhere tape size new rest i (Some 0) (inl low) ∙ left_before tape size end f.extents i (Some 0) (omega arith))
        ∙ sym (cell_at_or tape size f.extents i)

    above_range : (i : ℕ) → end ≤ i → cell_at tape size (cut new.offset f.extents ++ new ∷ rest) i ≡ cell_at tape size f.extents i
    above_range i high =
        split i
        ∙ cut_after tape size new.offset f.extents i (cell_or tape size (new ∷ rest) i (Some 0)) (omega arith)
        ∙ elsewhere tape size new rest i (Some 0) (inr high)
        ∙ left_after tape size end f.extents i (Some 0) laid.some_block high
        ∙ sym (cell_at_or tape size f.extents i)

    -- a write lays its new extent over the file
    pub writes : file_cells tape (overlaid f new) ≡ plain.written (file_cells tape f) new.offset (cells_of tape size new)
    writes =
        let news : List Cell = cells_of tape size new in
        let long : length news ≡ new.count = length-map-range_with_len (cell_of tape size new) 0 new.count in
        let old : ℕ → Cell = cell_at tape size f.extents in
        cells_written old (cell_at tape size (cut new.offset f.extents ++ new ∷ rest)) f.length (max f.length end) new.offset news
        (λ k lt. in_range k (omega arith) ∙ sym (get_or-map-range_with_len (cell_of tape size new) 0 new.count k k (Some 0) (omega arith) (omega arith)))
        (λ i low. below_range i low)
        (λ i high. above_range i (omega arith))
        beyond (omega arith)
        ∙ ap (λ p. p ++ news ++ drop (new.offset + length news) (map old (range_with_len 0 f.length))) (padded_is old f.length new.offset)

  shorter : (n i : ℕ) → i < n → cell_at tape size (cut n f.extents) i ≡ cell_at tape size f.extents i
  shorter n i low = cell_at_or tape size (cut n f.extents) i ∙ cut_before tape size n f.extents i (Some 0) low ∙ sym (cell_at_or tape size f.extents i)

  -- a truncation gives the file its new length
  pub truncates : (n : ℕ) → file_cells tape (resized f n) ≡ plain.resized (file_cells tape f) n
  truncates n =
      let old : ℕ → Cell = cell_at tape size f.extents in
      cells_resized old (cell_at tape size (cut n f.extents)) f.length n (λ i low. shorter n i low) beyond ∙ padded_is old f.length n

-- an overlay changes a file's bytes as a write does
pub overlays_write : OverlaysWrite
overlays_write tape f new laid = writes tape f laid new

-- a new length changes a file's bytes as a truncation does
pub lengths_truncate : LengthsTruncate
lengths_truncate tape f length laid = truncates tape f laid length

-- ---- what was cut off

zeros_between : (g : ℕ → Cell) (from to n : ℕ) → ((i : ℕ) → from ≤ i → i < to → g i ≡ Some 0) → from ≤ to → to ≤ n → plain.range_of (map g (range_with_len 0 n)) from (to - from) ≡ replicate (to - from) (Some 0)
zeros_between g from to n are le within =
    sym (cells_read g n from from (to - from) (to - from) (omega arith) (omega arith))
    ∙ same_lists _ _ (length-map-range_with_len g from (to - from) ∙ sym (length-replicate {A = Cell} (to - from) (Some 0)))
    (λ k d lt. let low : k < to - from = omega (arith, lt, length-map-range_with_len g from (to - from)) in
    get_or-map-range_with_len g from (to - from) k (from + k) d low refl ∙ are (from + k) (omega arith) (omega arith) ∙ sym (get_or-replicate (to - from) k (Some 0) d low))

none_past : (tape : Tape) (f : Laid) (short i : ℕ) → short ≤ i → cell_or tape f.block_size (cut short f.extents) i (Some 0) ≡ Some 0
none_past tape f short i past = cut_after tape f.block_size short f.extents i (Some 0) past

-- bytes that were cut off never come back
pub old_bytes_stay_away : OldBytesStayAway
old_bytes_stay_away = record {
  longer = λ tape f short long le.
      zeros_between (cell_at tape f.block_size (cut long (cut short f.extents))) short long long
      (λ i past low. cell_at_or tape f.block_size (cut long (cut short f.extents)) i ∙ cut_before tape f.block_size long (cut short f.extents) i (Some 0) low ∙ none_past tape f short i past)
      le (omega arith);
  further = λ tape f short new le.
      let end : ℕ = new.offset + new.count in
      let es : List Extent = cut short f.extents in
      let rest : List Extent = left_from f.block_size end es in
      zeros_between (cell_at tape f.block_size (cut new.offset es ++ new ∷ rest)) short new.offset (max short end)
      (λ i past low.
      cell_at_or tape f.block_size (cut new.offset es ++ new ∷ rest) i
      ∙ cell_or_append tape f.block_size (cut new.offset es) (new ∷ rest) i (Some 0)
      ∙ cut_before tape f.block_size new.offset es i (cell_or tape f.block_size (new ∷ rest) i (Some 0)) low
      ∙ ap (cell_or tape f.block_size es i) (elsewhere tape f.block_size new rest i (Some 0) (inl low) ∙ left_before tape f.block_size end es i (Some 0) (omega arith))
      ∙ none_past tape f short i past)
      le (omega arith);
}
