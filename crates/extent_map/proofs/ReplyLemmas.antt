-- The bytes of a range, gathered block by block.
use Rattle.std.proofs.Common.{Option, ◌≡◌, ℕ, zero, suc, ◌+◌, ◌<◌, ◌≤◌, Bool, true, false, cond, List, [], ◌∷◌, ◌++◌, length, take, drop, map, replicate, get_or, Some, None, sym, ap, ◌∙◌, refl, subst, arith, append_assoc, append-nil}
use Rattle.std.specs.Prelude.{slice_get}
use Rattle.std.specs.Option.{option_map}
use Rattle.std.specs.List.{range_with_len, flat_map}
use Rattle.std.proofs.lemmas.List.{length-append, length-take-le, length-drop, take_all, drop_all}
use Rattle.std.proofs.lemmas.List.Concat.{flat_map-append}
use Rattle.std.proofs.lemmas.List.FromFn.{length-map-range_with_len}
use Rattle.std.proofs.lemmas.Option.{same_Some}
use Rattle.tape_types.specs.declared.cartridges.Place.{Place}
use Rattle.tape_types.proofs.Places.{same_places}
use Rattle.plain_tree.specs.Cells.{Cell, bytes_of, range_of}
use Rattle.plain_tree.proofs.PageLemmas.{ranges_same}
use Rattle.extent_map.specs.declared.pieces.Piece.{Piece}
use Rattle.extent_map.specs.declared.pieces.Piece.TheVariants.{Zeros, Stored}
use Rattle.extent_map.specs.Laid.{Laid}
use Rattle.extent_map.specs.Cells.{Tape, file_cells, cell_at}
use Rattle.extent_map.specs.Pieces.{read_piece}
use Rattle.extent_map.specs.Replies.{same_place, bytes_in, size_of, Places, gathered_piece, gathered, with_place, IsBlock, IsGathered, IsGatheredPiece, IsFilledPiece, IsPutAt}
use borrow.Rule.Slice.PartMut.{put_mid, post_of}

-- ---- bytes of cells that follow one another

pub record Cut (xs ys : List Cell) (bytes : List ℕ) : Type 0 where
  pub front : List ℕ
  pub rest : List ℕ
  pub front_is : bytes_of xs ≡ Some front
  pub rest_is : bytes_of ys ≡ Some rest
  pub is : bytes ≡ front ++ rest

-- bytes of two pieces are the bytes of the one and then of the other
pub cut : (xs ys : List Cell) (bytes : List ℕ) → bytes_of (xs ++ ys) ≡ Some bytes → Cut xs ys bytes
cut [] ys bytes is = record { front = []; rest = bytes; front_is = refl; rest_is = is; is = refl }
cut (None ∷ xs) ys bytes is = cc
cut (Some b ∷ xs) ys bytes is = by (bytes_of (xs ++ ys)) refl is (cut xs ys)
  where
    by : (o : Option (List ℕ)) → bytes_of (xs ++ ys) ≡ o → option_map (λ bs. b ∷ bs) (bytes_of (xs ++ ys)) ≡ Some bytes → ((more : List ℕ) → bytes_of (xs ++ ys) ≡ Some more → Cut xs ys more) → Cut (Some b ∷ xs) ys bytes
    by None e f again = let wrong : ◌≡◌ {A = Option (List ℕ)} None (Some bytes) = sym (ap (option_map (λ bs. b ∷ bs)) e) ∙ f in cc
    by (Some more) e f again =
        let c = again more e in
        let whole : b ∷ more ≡ bytes = same_Some (b ∷ more) bytes (sym (ap (option_map (λ bs. b ∷ bs)) e) ∙ f) in
        record { front = b ∷ c.front; rest = c.rest; front_is = ap (option_map (λ bs. b ∷ bs)) c.front_is; rest_is = c.rest_is; is = sym whole ∙ ap (λ l. b ∷ l) c.is }

-- pieces without a lost byte have their bytes one behind the other
pub joined : (xs ys : List Cell) (cs bs : List ℕ) → bytes_of xs ≡ Some cs → bytes_of ys ≡ Some bs → bytes_of (xs ++ ys) ≡ Some (cs ++ bs)
joined [] ys cs bs x y = y ∙ ap (λ l. Some (l ++ bs)) (same_Some [] cs x)
joined (None ∷ xs) ys cs bs x y = cc
joined (Some b ∷ xs) ys all bs x y = by (bytes_of xs) refl x (joined xs ys)
  where
    by : (o : Option (List ℕ)) → bytes_of xs ≡ o → option_map (λ bs. b ∷ bs) (bytes_of xs) ≡ Some all → ((cs ds : List ℕ) → bytes_of xs ≡ Some cs → bytes_of ys ≡ Some ds → bytes_of (xs ++ ys) ≡ Some (cs ++ ds)) → bytes_of (Some b ∷ xs ++ ys) ≡ Some (all ++ bs)
    by None e f again = let wrong : ◌≡◌ {A = Option (List ℕ)} None (Some all) = sym (ap (option_map (λ bs. b ∷ bs)) e) ∙ f in cc
    by (Some cs) e f again =
        let whole : b ∷ cs ≡ all = same_Some (b ∷ cs) all (sym (ap (option_map (λ bs. b ∷ bs)) e) ∙ f) in
        ap (option_map (λ bs. b ∷ bs)) (again cs bs e y) ∙ ap (λ l. Some (l ++ bs)) whole

lost_front : (xs ys : List Cell) → bytes_of xs ≡ None → bytes_of (xs ++ ys) ≡ None
lost_front [] ys lost = cc
lost_front (None ∷ xs) ys lost = refl
lost_front (Some b ∷ xs) ys lost = by (bytes_of xs) refl lost (lost_front xs ys)
  where
    by : (o : Option (List ℕ)) → bytes_of xs ≡ o → option_map (λ bs. b ∷ bs) (bytes_of xs) ≡ None → (bytes_of xs ≡ None → bytes_of (xs ++ ys) ≡ None) → bytes_of (Some b ∷ xs ++ ys) ≡ None
    by None e f again = ap (option_map (λ bs. b ∷ bs)) (again e)
    by (Some cs) e f again = let wrong : ◌≡◌ {A = Option (List ℕ)} (Some (b ∷ cs)) None = sym (ap (option_map (λ bs. b ∷ bs)) e) ∙ f in cc

lost_rest : (xs ys : List Cell) → bytes_of ys ≡ None → bytes_of (xs ++ ys) ≡ None
lost_rest [] ys lost = lost
lost_rest (None ∷ xs) ys lost = refl
lost_rest (Some b ∷ xs) ys lost = ap (option_map (λ bs. b ∷ bs)) (lost_rest xs ys lost)

-- there are as many bytes as cells
pub long_bytes : (xs : List Cell) (bs : List ℕ) → bytes_of xs ≡ Some bs → length bs ≡ length xs
long_bytes [] bs is = ap length (sym (same_Some [] bs is))
long_bytes (None ∷ xs) bs is = cc
long_bytes (Some b ∷ xs) bs is = by (bytes_of xs) refl is (long_bytes xs)
  where
    by : (o : Option (List ℕ)) → bytes_of xs ≡ o → option_map (λ bs. b ∷ bs) (bytes_of xs) ≡ Some bs → ((cs : List ℕ) → bytes_of xs ≡ Some cs → length cs ≡ length xs) → length bs ≡ suc (length xs)
    by None e f again = let wrong : ◌≡◌ {A = Option (List ℕ)} None (Some bs) = sym (ap (option_map (λ bs. b ∷ bs)) e) ∙ f in cc
    by (Some cs) e f again =
        ap length (sym (same_Some (b ∷ cs) bs (sym (ap (option_map (λ bs. b ∷ bs)) e) ∙ f))) ∙ ap suc (again cs e)

long_zeros : (n : ℕ) → length {A = Cell} (replicate n (Some 0)) ≡ n
long_zeros zero = refl
long_zeros (suc n) = ap suc (long_zeros n)

-- a piece has as many cells as it counts
pub long_piece : (tape : Tape) (read : Places) (piece : Piece) → length (gathered_piece tape read piece) ≡ bytes_in piece
long_piece tape read (Zeros count) = long_zeros count
long_piece tape read (Stored place byte count) = by (read place)
  where
    by : (b : Bool) → length (cond b (read_piece tape (Stored place byte count)) (replicate count (Some 0))) ≡ count
    by true = length-map-range_with_len (λ i. tape place.part place.pos (byte + i)) 0 count
    by false = long_zeros count

-- ---- one piece

-- what the block gives of a piece at its place
from_block : (tape : Tape) (place : Place) (block : List ℕ) → IsBlock tape place block → (byte count : ℕ) → read_piece tape (Stored place byte count) ≡ map (λ i. slice_get block (byte + i)) (range_with_len 0 count)
from_block tape place block is byte count = ranges_same (λ i. tape place.part place.pos (byte + i)) (λ i. slice_get block (byte + i)) 0 0 count (λ k lt. is (byte + (0 + k)))

-- a piece at another place is as it was
pub kept_piece : (tape : Tape) (read : Places) (place stands : Place) (byte count : ℕ) (bytes : List ℕ) → same_place place stands ≡ false
    → IsGatheredPiece tape read (Stored stands byte count) bytes → IsGatheredPiece tape (with_place read place) (Stored stands byte count) bytes
kept_piece tape read place stands byte count bytes other is =
    ap (λ b. bytes_of (cond (cond b true (read stands)) (read_piece tape (Stored stands byte count)) (replicate count (Some 0)))) other ∙ is

-- one at the place has the bytes of the block, or one of them is lost
pub filled_piece : (tape : Tape) (read : Places) (place stands : Place) (byte count : ℕ) (block bytes : List ℕ) (whole : Bool) → IsBlock tape place block → same_place place stands ≡ true
    → (whole ≡ true → bytes_of (map (λ i. slice_get block (byte + i)) (range_with_len 0 count)) ≡ Some bytes)
    → (whole ≡ false → bytes_of (map (λ i. slice_get block (byte + i)) (range_with_len 0 count)) ≡ None) → IsFilledPiece tape read place (Stored stands byte count) bytes whole
filled_piece tape read place stands byte count block bytes whole is same there lost = by whole there lost
  where
    from : read_piece tape (Stored stands byte count) ≡ map (λ i. slice_get block (byte + i)) (range_with_len 0 count)
    from = ap (λ (p : Place). read_piece tape (Stored p byte count)) (sym (same_places place stands same)) ∙ from_block tape place block is byte count

    by : (w : Bool) → (w ≡ true → bytes_of (map (λ i. slice_get block (byte + i)) (range_with_len 0 count)) ≡ Some bytes)
        → (w ≡ false → bytes_of (map (λ i. slice_get block (byte + i)) (range_with_len 0 count)) ≡ None) → IsFilledPiece tape read place (Stored stands byte count) bytes w
    by true there lost = ap (λ b. bytes_of (cond (cond b true (read stands)) (read_piece tape (Stored stands byte count)) (replicate count (Some 0)))) same ∙ ap bytes_of from ∙ there refl
    by false there lost = ap bytes_of from ∙ lost refl

-- ---- piece after piece

-- the first pieces are filled, and the others as they were
pub record Halfway (tape : Tape) (read : Places) (place : Place) (pieces : List Piece) (i at : ℕ) (bytes : List ℕ) : Type 0 where
  pub front : List ℕ
  pub rest : List ℕ
  pub is : bytes ≡ front ++ rest
  pub long : length front ≡ at
  pub front_is : bytes_of (gathered tape (with_place read place) (take i pieces)) ≡ Some front
  pub rest_is : bytes_of (gathered tape read (drop i pieces)) ≡ Some rest

-- before the first piece all bytes are as they were gathered
pub begins : (tape : Tape) (read : Places) (place : Place) (pieces : List Piece) (bytes : List ℕ) → IsGathered tape read pieces bytes → Halfway tape read place pieces 0 0 bytes
begins tape read place pieces bytes is = record { front = []; rest = bytes; is = refl; long = refl; front_is = refl; rest_is = is }

-- a piece begins what is left, and ends what has been done
pub dropped : (pieces : List Piece) (i : ℕ) (p : Piece) → i < length pieces → p ≡ get_or pieces i p → (drop i pieces ≡ p ∷ drop (suc i) pieces) × (take (suc i) pieces ≡ take i pieces ++ p ∷ [])
dropped [] i p lt is = absurd (omega (arith, lt))
dropped (q ∷ pieces) zero p lt is = (ap (λ z. z ∷ pieces) (sym is), ap (λ z. z ∷ []) (sym is))
dropped (q ∷ pieces) (suc i) p lt is = let more = dropped pieces i p (omega (arith, lt)) is in (more.0, ap (λ l. q ∷ l) more.1)

-- one piece more counts its bytes to the whole
pub sizes : (pieces : List Piece) (i : ℕ) (p : Piece) → i < length pieces → p ≡ get_or pieces i p → (size_of (take (suc i) pieces) ≡ size_of (take i pieces) + bytes_in p) × (size_of (take i pieces) + bytes_in p ≤ size_of pieces)
sizes [] i p lt is = absurd (omega (arith, lt))
sizes (q ∷ pieces) zero p lt is = (omega (arith, ap bytes_in is), omega (arith, ap bytes_in is))
sizes (q ∷ pieces) (suc i) p lt is = let more = sizes pieces i p (omega (arith, lt)) is in (omega (arith, more.0), omega (arith, more.1))

-- the piece at a place of a plan is the same, whatever is read past the plan's end
pub at_item : (pieces : List Piece) (i : ℕ) (d : Piece) → i < length pieces → get_or pieces i d ≡ get_or pieces i (get_or pieces i d)
at_item [] i d lt = absurd (omega (arith, lt))
at_item (q ∷ pieces) zero d lt = refl
at_item (q ∷ pieces) (suc i) d lt = at_item pieces i d (omega (arith, lt))

taken_front : {X : Type 0} (xs ys : List X) (n : ℕ) → n ≡ length xs → take n (xs ++ ys) ≡ xs
taken_front [] ys n e = ap (λ k. take k ys) e
taken_front (x ∷ xs) ys n e = ap (λ k. take k (x ∷ xs ++ ys)) e ∙ ap (λ l. x ∷ l) (taken_front xs ys (length xs) refl)

dropped_front : {X : Type 0} (xs ys : List X) (n : ℕ) → n ≡ length xs → drop n (xs ++ ys) ≡ ys
dropped_front [] ys n e = ap (λ k. drop k ys) e
dropped_front (x ∷ xs) ys n e = ap (λ k. drop k (x ∷ xs ++ ys)) e ∙ dropped_front xs ys (length xs) refl

module _ (tape : Tape) (read : Places) (place : Place) (pieces : List Piece) (i at : ℕ) (bytes : List ℕ) (p : Piece) (lt : i < length pieces) (p_is : p ≡ get_or pieces i p) (h : Halfway tape read place pieces i at bytes) where
  abbrev this_cut : Cut (gathered_piece tape read p) (gathered tape read (drop (suc i) pieces)) h.rest
  this_cut = cut (gathered_piece tape read p) (gathered tape read (drop (suc i) pieces)) h.rest (ap (λ l. bytes_of (gathered tape read l)) (sym (dropped pieces i p lt p_is).0) ∙ h.rest_is)

  front_long : length this_cut.front ≡ bytes_in p
  front_long = long_bytes (gathered_piece tape read p) this_cut.front this_cut.front_is ∙ long_piece tape read p

  -- the part of the piece
  pub part_is : (n : ℕ) → n ≡ bytes_in p → take n (drop at bytes) ≡ this_cut.front
  part_is n e =
      ap (λ l. take n (drop at l)) h.is ∙ ap (take n) (dropped_front h.front h.rest at (sym h.long)) ∙ ap (take n) this_cut.is
      ∙ taken_front this_cut.front this_cut.rest n (e ∙ sym front_long)

  -- the part of the bytes that is a piece's is gathered for that piece
  pub part_gathered : (n : ℕ) → n ≡ bytes_in p → IsGatheredPiece tape read p (take n (drop at bytes))
  part_gathered n e = this_cut.front_is ∙ ap (λ l. Some l) (sym (part_is n e))

  -- a piece that was gathered takes its part among the bytes
  pub steps : (new next : List ℕ) (end : ℕ) → end ≡ at + bytes_in p → length new ≡ bytes_in p → IsGatheredPiece tape (with_place read place) p new → next ≡ take at bytes ++ new ++ drop end bytes
      → Halfway tape read place pieces (i + 1) end next
  steps new next end ends long is next_is = record {
    front = h.front ++ new;
    rest = this_cut.rest;
    is = next_is ∙ ap (λ l. l ++ new ++ drop end bytes) (ap (take at) h.is ∙ taken_front h.front h.rest at (sym h.long)) ∙ ap (λ l. h.front ++ new ++ l) rest_left;
    long = omega (arith, length-append h.front new, h.long, long, ends);
    front_is = ap (λ k. bytes_of (gathered tape (with_place read place) (take k pieces))) one
        ∙ ap (λ l. bytes_of (gathered tape (with_place read place) l)) (dropped pieces i p lt p_is).1
        ∙ ap bytes_of (flat_map-append (gathered_piece tape (with_place read place)) (take i pieces) (p ∷ []))
        ∙ joined (gathered tape (with_place read place) (take i pieces)) (gathered tape (with_place read place) (p ∷ [])) h.front new h.front_is (ap bytes_of (append-nil (gathered_piece tape (with_place read place) p)) ∙ is);
    rest_is = ap (λ k. bytes_of (gathered tape read (drop k pieces))) one ∙ this_cut.rest_is;
  }
    where
      one : i + 1 ≡ suc i
      one = omega arith

      rest_left : drop end bytes ≡ this_cut.rest
      rest_left = ap (drop end) (h.is ∙ ap (λ l. h.front ++ l) this_cut.is ∙ sym (append_assoc h.front this_cut.front this_cut.rest))
          ∙ dropped_front (h.front ++ this_cut.front) this_cut.rest end (omega (arith, length-append h.front this_cut.front, h.long, front_long, ends))

  -- a byte of a piece that is lost is lost of the whole
  pub loses : bytes_of (read_piece tape p) ≡ None → bytes_of (flat_map (read_piece tape) pieces) ≡ None
  loses lost =
      ap (λ l. bytes_of (flat_map (read_piece tape) l)) (sym (halved i pieces) ∙ ap (λ l. take i pieces ++ l) (dropped pieces i p lt p_is).0)
      ∙ ap bytes_of (flat_map-append (read_piece tape) (take i pieces) (p ∷ drop (suc i) pieces))
      ∙ lost_rest (flat_map (read_piece tape) (take i pieces)) (read_piece tape p ++ flat_map (read_piece tape) (drop (suc i) pieces)) (lost_front (read_piece tape p) (flat_map (read_piece tape) (drop (suc i) pieces)) lost)
    where
      halved : (k : ℕ) (xs : List Piece) → take k xs ++ drop k xs ≡ xs
      halved zero xs = refl
      halved (suc k) [] = refl
      halved (suc k) (x ∷ xs) = ap (λ l. x ∷ l) (halved k xs)

-- all pieces are filled
pub ends : (tape : Tape) (read : Places) (place : Place) (pieces : List Piece) (i at : ℕ) (bytes : List ℕ) → length pieces ≤ i → Halfway tape read place pieces i at bytes → IsGathered tape (with_place read place) pieces bytes
ends tape read place pieces i at bytes done h =
    let none : h.rest ≡ [] = sym (same_Some [] h.rest (ap (λ l. bytes_of (gathered tape read l)) (sym (drop_all i pieces done)) ∙ h.rest_is)) in
    ap (λ l. bytes_of (gathered tape (with_place read place) l)) (sym (take_all i pieces done)) ∙ h.front_is ∙ ap (λ l. Some l) (sym (append-nil h.front) ∙ ap (λ l. h.front ++ l) (sym none) ∙ sym h.is)

-- a part that is not empty has a byte or more
pub some_part : (part : List ℕ) → (length part ≡ 0 → ⊥) → 1 ≤ length part
some_part [] some = absurd (some refl)
some_part (b ∷ part) some = omega arith

-- ---- one step of the loop

module _ (tape : Tape) (read : Places) (place : Place) (pieces : List Piece) (i at count : ℕ) (bytes next : List ℕ) (p : Piece) (lt : i < length pieces) (p_is : p ≡ get_or pieces i p)
    (h : Halfway tape read place pieces i at bytes) (count_is : count ≡ bytes_in p) (whole : Bool) where
  -- a piece of which no byte is lost is put in its part
  pub put_steps : whole ≡ true → (IsGatheredPiece tape read p (take count (drop at bytes)) → IsPutAt tape read place p at count bytes next whole) → Halfway tape read place pieces (i + 1) (at + count) next
  put_steps is put =
      let done = put (part_gathered tape read place pieces i at bytes p lt p_is h count count_is) in
      steps tape read place pieces i at bytes p lt p_is h done.part next (at + count) (ap (λ n. at + n) count_is) (done.long ∙ count_is)
      (subst (IsFilledPiece tape read place p done.part) is done.filled) done.is

  -- a piece of which a byte is lost makes the whole lost
  pub put_loses : whole ≡ false → (IsGatheredPiece tape read p (take count (drop at bytes)) → IsPutAt tape read place p at count bytes next whole) → bytes_of (flat_map (read_piece tape) pieces) ≡ None
  put_loses is put =
      let done = put (part_gathered tape read place pieces i at bytes p lt p_is h count count_is) in
      loses tape read place pieces i at bytes p lt p_is h (subst (IsFilledPiece tape read place p done.part) is done.filled)

-- what a write to a part of a list leaves
pub put_is : (bytes : List ℕ) (at k count : ℕ) (part : List ℕ) → k ≡ count → put_mid at k bytes part ≡ take at bytes ++ part ++ drop (at + count) bytes
put_is bytes at k count part same = sym (append_assoc (take at bytes) part (post_of at k bytes)) ∙ ap (λ n. take at bytes ++ part ++ post_of at n bytes) same ∙ ap (λ l. take at bytes ++ part ++ l) (rest at count bytes)
  where
    nothing : (n : ℕ) → ◌≡◌ {A = List ℕ} (drop n []) []
    nothing zero = refl
    nothing (suc n) = refl

    rest : (a n : ℕ) (xs : List ℕ) → drop n (drop a xs) ≡ drop (a + n) xs
    rest zero n xs = let e : n ≡ 0 + n = omega arith in ap (λ k. drop k xs) e
    rest (suc a) n [] = nothing n ∙ sym (nothing (suc a + n))
    rest (suc a) n (x ∷ xs) = let e : suc (a + n) ≡ suc a + n = omega arith in rest a n xs ∙ ap (λ k. drop k (x ∷ xs)) e

-- ---- how long a plan is

read_long : (tape : Tape) (pieces : List Piece) → length (flat_map (read_piece tape) pieces) ≡ size_of pieces
read_long tape [] = refl
read_long tape (piece ∷ pieces) =
    let one : length (read_piece tape piece) ≡ bytes_in piece = by piece in
    omega (arith, length-append (read_piece tape piece) (flat_map (read_piece tape) pieces), one, read_long tape pieces)
  where
    by : (p : Piece) → length (read_piece tape p) ≡ bytes_in p
    by (Zeros count) = long_zeros count
    by (Stored place byte count) = length-map-range_with_len (λ i. tape place.part place.pos (byte + i)) 0 count

-- the planned pieces of a range have as many bytes as the range
pub range_long : (f : Laid) (offset count : ℕ) (pieces : List Piece) → offset + count ≤ f.length → ((tape : Tape) → flat_map (read_piece tape) pieces ≡ range_of (file_cells tape f) offset count) → size_of pieces ≡ count
range_long f offset count pieces within reads =
    let cells : List Cell = file_cells whole f in
    let long : length cells ≡ f.length = length-map-range_with_len (cell_at whole f.block_size f.extents) 0 f.length in
    sym (read_long whole pieces) ∙ ap length (reads whole) ∙ length-take-le count (drop offset cells) (omega (arith, length-drop offset cells, long, within))
  where
    whole : Tape
    whole part pos byte = Some 0
