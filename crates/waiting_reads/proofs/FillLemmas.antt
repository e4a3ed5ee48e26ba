-- A block fills the pieces that stand at its place, one after the other.
use Rattle.std.proofs.Common.{◌≡◌, ℕ, ◌+◌, ◌<◌, ◌≤◌, ◌&&◌, Bool, true, false, cond, eqb, List, [], ◌∷◌, ◌++◌, length, take, drop, get_or, Some, None, sym, ap, ◌∙◌, refl, subst, arith, append_assoc, append-nil}
use Rattle.std.specs.Prelude.{slice_get}
use Rattle.std.specs.List.{flat_map}
use Rattle.std.proofs.lemmas.List.{drop-drop, drop_all, drop_more, length-drop, take-append-drop}
use Rattle.std.proofs.lemmas.Bool.Decides.{nat_tests}
use Rattle.std.proofs.lemmas.Option.{slice_get-get_or}
use Rattle.tape_types.specs.declared.cartridges.Place.{Place}
use Rattle.plain_tree.specs.Cells.{bytes_of}
use Rattle.extent_map.specs.Cells.{Tape}
use Rattle.extent_map.specs.Pieces.{read_piece}
use Rattle.extent_map.specs.Replies.{IsFilled, IsFilledPiece, IsGathered, IsGatheredPiece, IsPutAt, Places, bytes_in, gathered_piece, same_part, same_place, with_place}
use Rattle.extent_map.specs.declared.pieces.Piece.{Piece}
use Rattle.extent_map.specs.declared.pieces.Piece.TheVariants.{Zeros, Stored}
use Rattle.extent_map.proofs.ReplyLemmas.{Halfway, begins, ends, kept_piece, long_bytes, long_piece, part_gathered, put_loses, put_steps, steps}
use Rattle.waiting_reads.specs.Stands.{at_pos, stands_from}
use Rattle.waiting_reads.specs.declared.stands.Stand.{Stand}
use Rattle.waiting_reads.proofs.StandLemmas.{Head, head_at}

abbrev here : Place → ℕ → ℕ → Stand
here q i at = record { pos = q.pos; number = i; at = at }

abbrev behind : Place → ℕ → ℕ → List Piece → List Stand
behind place i at rest = at_pos place.pos (stands_from (i + 1) at rest)

module _ (tape : Tape) (read : Places) (place : Place) (pieces : List Piece) (bytes : List ℕ) where
  -- a piece that stands elsewhere is as it is wanted
  passes : (i at : ℕ) (p : Piece) → i < length pieces → p ≡ get_or pieces i p → Halfway tape read place pieces i at bytes
      → ((part : List ℕ) → IsGatheredPiece tape read p part → IsGatheredPiece tape (with_place read place) p part)
      → Halfway tape read place pieces (i + 1) (at + bytes_in p) bytes
  passes i at p lt is half same =
      let n = bytes_in p in
      let part = take n (drop at bytes) in
      let gathered = part_gathered tape read place pieces i at bytes p lt is half n refl in
      let long = long_bytes (gathered_piece tape read p) part gathered ∙ long_piece tape read p in
      let all : bytes ≡ take at bytes ++ part ++ drop (at + n) bytes =
      sym (take-append-drop at bytes)
      ∙ ap (λ l. take at bytes ++ l) (sym (take-append-drop n (drop at bytes)) ∙ ap (λ l. part ++ l) (drop-drop n at bytes))
      ∙ sym (append_assoc (take at bytes) part (drop (at + n) bytes)) in
      steps tape read place pieces i at bytes p lt is half part bytes (at + n) refl long (same part gathered) all

  -- the first of those that stand at the position: the pieces before it are filled, and the others come behind it
  pub record Reached (s : Stand) (more : List Stand) : Type 0 where
    pub piece : Piece
    pub lt : s.number < length pieces
    pub is : piece ≡ get_or pieces s.number piece
    pub half : Halfway tape read place pieces s.number s.at bytes
    pub more_is : more ≡ at_pos place.pos (stands_from (s.number + 1) (s.at + bytes_in piece) (drop (s.number + 1) pieces))

  elsewhere : (q : Place) → eqb q.pos place.pos ≡ false → same_place place q ≡ false
  elsewhere q other = by (same_part place.part q.part) (turned place.pos q.pos other)
    where
      turned : (a b : ℕ) → eqb b a ≡ false → eqb a b ≡ false
      turned a b e = grind (arith, nat_tests)

      by : (b : Bool) → eqb place.pos q.pos ≡ false → (b && eqb place.pos q.pos) ≡ false
      by true e = e
      by false e = refl

  pub reached : (i at : ℕ) (rest : List Piece) → drop i pieces ≡ rest → Halfway tape read place pieces i at bytes → (s : Stand) (more : List Stand)
      → s ∷ more ≡ at_pos place.pos (stands_from i at rest) → Reached s more
  reached i at [] e half s more is = cc
  reached i at (Zeros count ∷ rest) e half s more is =
      let h = head_at i pieces (Zeros count) rest e in
      reached (i + 1) (at + count) rest h.rest (passes i at (Zeros count) h.lt h.is half (λ part was. was)) s more is
  reached i at (Stored q byte count ∷ rest) e half s more is =
      by (eqb q.pos place.pos) refl (λ half is. reached (i + 1) (at + count) rest h.rest half s more is)
    where
      h : Head pieces i (Stored q byte count) rest
      h = head_at i pieces (Stored q byte count) rest e

      by : (b : Bool) → eqb q.pos place.pos ≡ b
          → (Halfway tape read place pieces (i + 1) (at + count) bytes → s ∷ more ≡ behind place i (at + count) rest → Reached s more) → Reached s more
      by true same again =
          let all : s ∷ more ≡ here q i at ∷ behind place i (at + count) rest =
          is ∙ ap (λ b. cond b (here q i at ∷ behind place i (at + count) rest) (behind place i (at + count) rest)) same in
          let first : here q i at ≡ s = cc in
          let others : more ≡ behind place i (at + count) rest = cc in
          subst (λ x. Reached x more) first (record {
            piece = Stored q byte count;
            lt = h.lt;
            is = h.is;
            half = half;
            more_is = others ∙ ap (λ l. at_pos place.pos (stands_from (i + 1) (at + count) l)) (sym h.rest);
          })
      by false other again =
          again (passes i at (Stored q byte count) h.lt h.is half (λ part was. kept_piece tape read place q byte count part (elsewhere q other) was))
          (is ∙ ap (λ b. cond b (here q i at ∷ behind place i (at + count) rest) (behind place i (at + count) rest)) other)

  -- behind the last of them no piece stands at the place
  passes_all : (i at : ℕ) (rest : List Piece) → drop i pieces ≡ rest → Halfway tape read place pieces i at bytes
      → [] ≡ at_pos place.pos (stands_from i at rest) → IsGathered tape (with_place read place) pieces bytes
  passes_all i at [] e half is = ends tape read place pieces i at bytes (omega (arith, length-drop i pieces, ap length e)) half
  passes_all i at (Zeros count ∷ rest) e half is =
      let h = head_at i pieces (Zeros count) rest e in
      passes_all (i + 1) (at + count) rest h.rest (passes i at (Zeros count) h.lt h.is half (λ part was. was)) is
  passes_all i at (Stored q byte count ∷ rest) e half is =
      by (eqb q.pos place.pos) refl (λ half is. passes_all (i + 1) (at + count) rest h.rest half is)
    where
      h : Head pieces i (Stored q byte count) rest
      h = head_at i pieces (Stored q byte count) rest e

      by : (b : Bool) → eqb q.pos place.pos ≡ b
          → (Halfway tape read place pieces (i + 1) (at + count) bytes → [] ≡ behind place i (at + count) rest → IsGathered tape (with_place read place) pieces bytes)
          → IsGathered tape (with_place read place) pieces bytes
      by true same again = let wrong : [] ≡ here q i at ∷ behind place i (at + count) rest =
          is ∙ ap (λ b. cond b (here q i at ∷ behind place i (at + count) rest) (behind place i (at + count) rest)) same in cc
      by false other again =
          again (passes i at (Stored q byte count) h.lt h.is half (λ part was. kept_piece tape read place q byte count part (elsewhere q other) was))
          (is ∙ ap (λ b. cond b (here q i at ∷ behind place i (at + count) rest) (behind place i (at + count) rest)) other)

  -- the pieces up to some number are filled, and these are those behind that stand at the position
  pub record Ahead (left : List Stand) : Type 0 where
    pub i : ℕ
    pub at : ℕ
    pub half : Halfway tape read place pieces i at bytes
    pub left_is : left ≡ at_pos place.pos (stands_from i at (drop i pieces))

  pub starts : (run : List Stand) → IsGathered tape read pieces bytes → run ≡ at_pos place.pos (stands_from 0 0 pieces) → Ahead run
  starts run gathered is = record { i = 0; at = 0; half = begins tape read place pieces bytes gathered; left_is = is }

  -- once all pieces at a block's place are filled, the read has that block
  pub is_over : (run : List Stand) (k : ℕ) → length run ≤ k → Ahead (drop k run) → IsGathered tape (with_place read place) pieces bytes
  is_over run k end a = passes_all a.i a.at (drop a.i pieces) refl a.half (sym (drop_all k run end) ∙ a.left_is)

  module _ (run : List Stand) (k : ℕ) (s : Stand) (lt : k < length run) (is : s ≡ get_or run k s) (a : Ahead (drop k run)) (next : List ℕ) (whole : Bool)
      (put : (piece : Piece) → slice_get pieces s.number ≡ Some piece → IsGatheredPiece tape read piece (take (bytes_in piece) (drop s.at bytes))
      → IsPutAt tape read place piece s.at (bytes_in piece) bytes next whole) where
    pub this : Reached s (drop (k + 1) run)
    this = reached a.i a.at (drop a.i pieces) refl a.half s (drop (k + 1) run)
        (ap (λ x. x ∷ drop (k + 1) run) is ∙ sym (drop_more run k s lt) ∙ a.left_is)

    there : slice_get pieces s.number ≡ Some this.piece
    there = slice_get-get_or pieces s.number this.piece this.lt ∙ ap (λ p. Some p) (sym this.is)

    pub goes_half : whole ≡ true → Halfway tape read place pieces (s.number + 1) (s.at + bytes_in this.piece) next
    goes_half good = put_steps tape read place pieces s.number s.at (bytes_in this.piece) bytes next this.piece this.lt this.is this.half refl whole good (put this.piece there)

    -- where a block lacks bytes of a piece, the read's bytes are lost
    pub is_lost : whole ≡ false → bytes_of (flat_map (read_piece tape) pieces) ≡ None
    is_lost lost = put_loses tape read place pieces s.number s.at (bytes_in this.piece) bytes next this.piece this.lt this.is this.half refl whole lost (put this.piece there)

    pub next_left : drop (k + 1) run ≡ at_pos place.pos (stands_from (s.number + 1) (s.at + bytes_in this.piece) (drop (s.number + 1) pieces))
    next_left = this.more_is

-- one more is filled
pub goes_on : (tape : Tape) (read : Places) (place : Place) (pieces : List Piece) (bytes : List ℕ) (run : List Stand) (k : ℕ) (s : Stand) → k < length run → s ≡ get_or run k s
    → Ahead tape read place pieces bytes (drop k run) → (next : List ℕ) (whole : Bool)
    → ((piece : Piece) → slice_get pieces s.number ≡ Some piece → IsGatheredPiece tape read piece (take (bytes_in piece) (drop s.at bytes))
    → IsPutAt tape read place piece s.at (bytes_in piece) bytes next whole)
    → whole ≡ true → Ahead tape read place pieces next (drop (k + 1) run)
goes_on tape read place pieces bytes run k s lt is a next whole put good = record {
  i = s.number + 1;
  at = _;
  half = goes_half tape read place pieces bytes run k s lt is a next whole put good;
  left_is = next_left tape read place pieces bytes run k s lt is a next whole put;
}

-- ---- one piece, in a list of its own

-- the bytes of one piece, filled from a block, are put at their place
pub one_filled : (tape : Tape) (read : Places) (place : Place) (piece : Piece) (at : ℕ) (bytes part : List ℕ) (whole : Bool) (seen : List Piece) (lent next : List ℕ)
    → seen ≡ piece ∷ [] → lent ≡ take (bytes_in piece) (drop at bytes) → IsGatheredPiece tape read piece (take (bytes_in piece) (drop at bytes))
    → (IsGathered tape read seen lent → IsFilled tape read place seen part whole)
    → next ≡ take at bytes ++ part ++ drop (at + bytes_in piece) bytes → length part ≡ bytes_in piece
    → IsPutAt tape read place piece at (bytes_in piece) bytes next whole
one_filled tape read place piece at bytes part whole seen lent next one same gathered fills is long =
    record { part = part; is = is; long = long; filled = alone whole filled }
  where
    all : IsGathered tape read (piece ∷ []) (take (bytes_in piece) (drop at bytes))
    all = ap bytes_of (append-nil (gathered_piece tape read piece)) ∙ gathered

    filled : IsFilled tape read place (piece ∷ []) part whole
    filled = subst (λ ps. IsFilled tape read place ps part whole) one
        (fills (subst (λ ps. IsGathered tape read ps lent) (sym one) (subst (λ bs. IsGathered tape read (piece ∷ []) bs) (sym same) all)))

    alone : (w : Bool) → IsFilled tape read place (piece ∷ []) part w → IsFilledPiece tape read place piece part w
    alone true f = ap bytes_of (sym (append-nil (gathered_piece tape (with_place read place) piece))) ∙ f
    alone false f = ap bytes_of (sym (append-nil (read_piece tape piece))) ∙ f
