-- A write of bytes is an overlay over new blocks that hold them.
use Rattle.std.proofs.Common.{◌≡◌, ℕ, zero, suc, ◌+◌, ◌*◌, ◌/◌, ◌%◌, ◌<◌, ◌≤◌, List, [], ◌∷◌, length, take, drop, get_or, map, Some, sym, ap, ◌∙◌, refl, arith}
use Rattle.std.specs.List.{slice_get}
use Rattle.std.proofs.lemmas.List.{same_lists, length-map}
use Rattle.std.proofs.lemmas.List.FromFn.{length-map-range_with_len, get_or-map-range_with_len}
use Rattle.std.proofs.lemmas.Nat.{div-add-mod', mod_below}
use Rattle.tape_types.specs.declared.moments.Moment.{Moment}
use Rattle.tape_types.specs.declared.cartridges.Cartridge.{Cartridge}
use Rattle.tape_types.specs.declared.cartridges.Extent.{Extent}
use Rattle.plain_tree.specs.declared.calls.Call.TheVariants as asks
use Rattle.plain_tree.specs.Calls.{with_bytes}
use Rattle.plain_tree.specs.Cells.{Cell, written}
use Rattle.plain_tree.specs.Tree as plain
use Rattle.extent_map.specs.Cells.{Tape, byte_in, tape_of, cell_of, cells_of}
use Rattle.plain_tree.specs.Paths.{Path}
use Rattle.file_tree.specs.Tree.{plain_of}
use Rattle.file_tree.specs.Writes.{HoldsBytes, HoldsBlocks, WritesAreWrites}
use Rattle.file_tree.proofs.TreeLemmas.{after_free, free_too}
use Rattle.file_tree.proofs.BlockLemmas.{blocks_make_the_tree}

some_at : (xs : List ℕ) (i d : ℕ) → i < length xs → slice_get xs i ≡ Some (get_or xs i d)
some_at [] i d lt = absurd (omega (arith, lt))
some_at (x ∷ xs) zero d lt = refl
some_at (x ∷ xs) (suc i) d lt = some_at xs i d (omega (arith, lt))

-- the cells of an extent that holds bytes are these
held_cells : (tape : Tape) (size : ℕ) (e : Extent) (bytes : List ℕ) → 1 ≤ size → HoldsBytes tape size e bytes → cells_of tape size e ≡ map Some bytes
held_cells tape size e bytes some h = same_lists (cells_of tape size e) (map Some bytes)
    (length-map-range_with_len (cell_of tape size e) 0 e.count ∙ h.all ∙ sym (length-map bytes Some))
    (λ i d lt.
    let below : i < length bytes = omega (arith, lt, length-map-range_with_len (cell_of tape size e) 0 e.count, h.all) in
    let in_count : i < e.count = omega (arith, below, h.all) in
    let first : 0 + i ≡ i = omega arith in
    get_or-map-range_with_len (cell_of tape size e) 0 e.count i i d in_count first ∙ cell_is i below ∙ sym (mapped bytes i d below))
  where
    mapped : (xs : List ℕ) (i : ℕ) (d : Cell) → i < length xs → get_or (map Some xs) i d ≡ Some (get_or xs i 0)
    mapped [] i d lt = absurd (omega (arith, lt))
    mapped (x ∷ xs) zero d lt = refl
    mapped (x ∷ xs) (suc i) d lt = mapped xs i d (omega (arith, lt))

    cell_is : (i : ℕ) → i < length bytes → cell_of tape size e i ≡ Some (get_or bytes i 0)
    cell_is i lt =
        let sum : e.byte + i ≡ i = omega (arith, h.from_start) in
        let whole : i / size * size + i % size ≡ i = div-add-mod' i size in
        ap (λ n. tape e.part (e.block + n / size) (n % size)) sum
        ∙ h.each (i / size) (i % size) (get_or bytes i 0) (mod_below i size some) (ap (slice_get bytes) whole ∙ some_at bytes i 0 lt)

-- a byte of a part of a list
in_part : (xs : List ℕ) (from n i value : ℕ) → i < n → slice_get xs (from + i) ≡ Some value → slice_get (take n (drop from xs)) i ≡ Some value
in_part xs zero n i value lt is = let e : i ≡ zero + i = omega arith in taken xs n i lt (ap (slice_get xs) e ∙ is)
  where
    taken : (xs : List ℕ) (n i : ℕ) → i < n → slice_get xs i ≡ Some value → slice_get (take n xs) i ≡ Some value
    taken [] n i lt is = cc
    taken (x ∷ xs) zero i lt is = absurd (omega (arith, lt))
    taken (x ∷ xs) (suc n) zero lt is = is
    taken (x ∷ xs) (suc n) (suc i) lt is = taken xs n i (omega (arith, lt)) is
in_part [] (suc from) n i value lt is = cc
in_part (x ∷ xs) (suc from) n i value lt is = let e : suc (from + i) ≡ suc from + i = omega arith in in_part xs from n i value lt (ap (slice_get (x ∷ xs)) e ∙ is)

some_within : (xs : List ℕ) (i value : ℕ) → slice_get xs i ≡ Some value → i < length xs
some_within [] i value is = cc
some_within (x ∷ xs) zero value is = omega arith
some_within (x ∷ xs) (suc i) value is = omega (arith, some_within xs i value is)

blocks_hold : (c : Cartridge) (size : ℕ) (e : Extent) (bytes : List ℕ) → HoldsBlocks c size e bytes → HoldsBytes (tape_of c) size e bytes
blocks_hold c size e bytes h = record {
  from_start = h.from_start;
  all = h.all;
  each = λ k i value lt is.
      let within : k * size < length bytes = omega (arith, some_within bytes (k * size + i) value is) in
      ap (λ item. byte_in item i) (h.each k within) ∙ in_part bytes (k * size) size i value lt is;
}

-- the call of a write that isn't refused
write_done : (p : plain.Tree) (path : Path) (offset : ℕ) (bytes : List ℕ) (at : Moment) → 1 ≤ length bytes
    → with_bytes p path offset bytes at ≡ record p { nodes = plain.changed_at (plain.file_changed (λ cells. written cells offset (map Some bytes)) at) path p.nodes }
write_done p path offset [] at some = absurd (omega (arith, some))
write_done p path offset (b ∷ bytes) at some = refl

not_read_write : (p : Path) (n : ℕ) (bytes : List ℕ) (path : Path) (offset count : ℕ) → asks.Write p n bytes ≡ asks.Read path offset count → ⊥
not_read_write p n bytes path offset count e = cc

-- an overlay of blocks that hold the bytes is the plain tree's write
pub writes_are_writes : WritesAreWrites
writes_are_writes = record {
  blocks = blocks_hold;
  call = λ early late t next path file new bytes at some_block some stands free is held alike.
      let put : plain.Tree → List Cell → plain.Tree = λ p news. record p { nodes = plain.changed_at (plain.file_changed (λ cells. written cells new.offset news) at) path p.nodes } in
      is late path stands ∙ ap (put (plain_of late t)) (held_cells late t.block_size new bytes some_block held) ∙ ap (λ p. put p (map Some bytes)) (blocks_make_the_tree late early t alike)
      ∙ sym (write_done (plain_of early t) path new.offset bytes at some)
      ∙ sym (after_free (plain_of early t) (asks.Write path new.offset bytes) at (free_too early t (asks.Write path new.offset bytes) (not_read_write path new.offset bytes) free));
}
