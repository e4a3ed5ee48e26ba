-- What the pieces of a read are read as.
use Rattle.std.proofs.Common.{◌≡◌, ℕ, ◌-◌, ◌<◌, ◌≤◌, min, Bool, true, false, List, [], ◌∷◌, drop, take, length, is_none, Option, Some, None, Result, Ok, Err, IfOk, sym, ap, ◌∙◌, refl, subst, arith, ⊎_elim}
use Rattle.std.specs.FinMap as fin
use Rattle.std.specs.List.{All, AllByRecursion, flat_map}
use Rattle.std.specs.Option.{unwrap_or}
use Rattle.std.proofs.lemmas.Bool.{cases_lt}
use Rattle.std.proofs.lemmas.List.{drop_min, take_min}
use Rattle.extent_map.specs.Blocks.{FileStandsIn}
use Rattle.extent_map.specs.Cells.{Tape, file_cells}
use Rattle.extent_map.specs.Laid.{IsLaid, Laid, Room}
use Rattle.extent_map.specs.Pieces.{IsInOneBlock, planned, read_piece}
use Rattle.extent_map.specs.Replies.{size_of}
use Rattle.extent_map.specs.declared.pieces.Piece.{Piece}
use Rattle.extent_map.specs.declared.pieces.Piece.TheVariants.{Stored, Zeros}
use Rattle.plain_tree.specs.Calls.{answer, answer_unless, value_of}
use Rattle.plain_tree.specs.Cells.{Cell, bytes_of, range_of}
use Rattle.plain_tree.specs.Paths.{Path}
use Rattle.plain_tree.specs.Refusals.{damaged, first_of, no_file, refusal_of, refuse_if}
use Rattle.plain_tree.specs.Tree as plain
use Rattle.plain_tree.specs.Tree.{cells_at}
use Rattle.plain_tree.specs.declared.calls.Answer.TheVariants.{Got}
use Rattle.plain_tree.specs.declared.calls.Call.TheVariants as asks
use Rattle.plain_tree.specs.declared.calls.Refusal.TheVariants.{Damaged}
use Rattle.file_tree.specs.Tree.{FileTree, HasExtents, StandsAt, plain_kind_of, plain_of, whole}
use Rattle.file_tree.specs.Valid.{IsFileOf, IsGood}
use Rattle.file_tree.proofs.RefusalLemmas.{no_file_alike, whole_read}
use Rattle.file_tree.proofs.WriteLemmas.{long_as}
use Rattle.tape_layout.specs.Plans.{Plan}
use Rattle.space_laws.specs.Standing.{Given, Standing, uid_at}
use Rattle.held_volume.specs.declared.volume_sync.frames.Frame.{Frame}
use Rattle.held_volume.specs.Reads.{IsPlanOfAtMost, IsReadPlan, PieceLiesBelow, PieceStandsIn, answer_of, bytes_read, file_at, read_answer}
use Rattle.held_volume.specs.Stocks.{IsStock, ends_of, stocked}
use Rattle.held_volume.proofs.Asks.{has_laid}
use Rattle.held_volume.proofs.Lies.{path_of, plain_there}
use Rattle.held_volume.proofs.PieceStands.{StandsWhere, all_by, none_planned, pieces_long, plan_stands}

-- at most so many cells from an offset on are those up to the end
pub range_within : (cells : List Cell) (n offset count : ℕ) → length cells ≡ n → range_of cells (min offset n) (min count (n - min offset n)) ≡ range_of cells offset count
range_within cells n offset count long =
    ap (λ m. take (min count (m - min offset m)) (drop (min offset m) cells)) (sym long)
    ∙ ap (λ m. take (min count m) (drop (min offset (length cells)) cells)) (sym left)
    ∙ take_min count (drop (min offset (length cells)) cells)
    ∙ ap (take count) (drop_min offset cells)
  where
    left : length (drop (min offset (length cells)) cells) ≡ length cells - min offset (length cells)
    left = Rattle.std.proofs.lemmas.List.length-drop (min offset (length cells)) cells

-- the pieces of a range that is cut at the end of its file are those of what is left of it
pub planned_within : (f : Laid) (offset count : ℕ) → IsLaid f → planned f (min offset f.length) (min count (f.length - min offset f.length)) ≡ planned f offset (min count (f.length - offset))
planned_within f offset count laid = ⊎_elim
    (λ (lt : offset < f.length).
    let from : min offset f.length ≡ offset = omega (arith, lt) in
    ap (λ o. planned f o (min count (f.length - o))) from)
    (λ (ge : f.length ≤ offset).
    let none : min count (f.length - min offset f.length) ≡ 0 = omega (arith, ge) in
    let none_too : min count (f.length - offset) ≡ 0 = omega (arith, ge) in
    ap (planned f (min offset f.length)) none ∙ none_planned f (min offset f.length) laid ∙ sym (ap (planned f offset) none_too ∙ none_planned f offset laid))
    (cases_lt offset f.length)

-- ---- the answer, by whether a byte is lost

lost_alone : (b : Bool) → first_of (None ∷ refuse_if b Damaged ∷ []) ≡ refuse_if b Damaged
lost_alone true = refl
lost_alone false = refl

answered : (o : Option (List ℕ)) → answer_unless (refuse_if (is_none o) Damaged) (Got (unwrap_or o [])) ≡ answer_of o
answered None = refl
answered (Some bytes) = refl

module _ (t : FileTree) (path : Path) (file offset count : ℕ) (room : Room) (good : IsGood t) (stands : StandsAt t path file) (has : HasExtents t.nodes file room)
    (free : refusal_of (plain_of whole t) (asks.Read path offset count) ≡ None) where
  here : fin.get t.nodes path ≡ Some has.node
  here = ap (fin.get t.nodes) (path_of t path has.path has.node file good stands has.there has.is) ∙ has.there

  cells_are : (tape : Tape) → cells_at (plain_of tape t).nodes path ≡ file_cells tape room.laid
  cells_are tape = rw (plain_there tape t path has.node here) (ap (λ k. plain.cells_of_kind (plain_kind_of tape k)) has.file)

  file_free : (tape : Tape) → no_file (plain_of tape t).nodes path ≡ None
  file_free tape = no_file_alike tape whole t.nodes path ∙ sym (whole_read t path offset count) ∙ free

  module _ (pieces : List Piece) (tape : Tape) (reads : flat_map (read_piece tape) pieces ≡ range_of (file_cells tape room.laid) (min offset room.laid.length) (min count (room.laid.length - min offset room.laid.length))) where
    range_is : range_of (cells_at (plain_of tape t).nodes path) offset count ≡ flat_map (read_piece tape) pieces
    range_is = ap (λ cells. range_of cells offset count) (cells_are tape)
        ∙ sym (range_within (file_cells tape room.laid) room.laid.length offset count (long_as tape room.laid)) ∙ sym reads

    refused : refusal_of (plain_of tape t) (asks.Read path offset count) ≡ refuse_if (is_none (bytes_read tape pieces)) Damaged
    refused = ap (λ r. first_of (r ∷ damaged (plain_of tape t).nodes path offset count ∷ [])) (file_free tape)
        ∙ lost_alone (is_none (bytes_of (range_of (cells_at (plain_of tape t).nodes path) offset count)))
        ∙ ap (λ cells. refuse_if (is_none (bytes_of cells)) Damaged) range_is

    answers : answer (plain_of tape t) (asks.Read path offset count) ≡ read_answer tape pieces
    answers = ap (λ r. answer_unless r (value_of (plain_of tape t) (asks.Read path offset count))) refused
        ∙ ap (λ cells. answer_unless (refuse_if (is_none (bytes_read tape pieces)) Damaged) (Got (unwrap_or (bytes_of cells) []))) range_is
        ∙ answered (bytes_read tape pieces)

  module _ (tape : Tape) (l : Plan) (f : Frame) (g : Given) (on : Bool) (st : Standing) (i : IsStock tape g on st (stocked t l f)) where
    lies_so : file_at st path ≡ room.laid
    lies_so =
        let uid : uid_at (plain_of tape t).nodes path ≡ has.node.uid = rw (plain_there tape t path has.node here) refl in
        ap (λ (tree : plain.Tree). st.files (uid_at tree.nodes path)) (sym i.plain) ∙ ap st.files uid
        ∙ i.files.lies path has.node room here has.file

stands_of : (t : FileTree) (file : ℕ) (room : Room) → HasExtents t.nodes file room → (piece : Piece) → StandsWhere (FileStandsIn room.laid) piece → PieceStandsIn t piece
stands_of t file room has (Zeros count) h = tt
stands_of t file room has (Stored place byte count) h = record { number = file; laid = room.laid; file = has_laid t file room has; block = h }

lies_of : (tape : Tape) (g : Given) (on : Bool) (st : Standing) (t : FileTree) (l : Plan) (f : Frame) → IsStock tape g on st (stocked t l f) → (piece : Piece) → PieceStandsIn t piece → PieceLiesBelow (ends_of st.space.ends) piece
lies_of tape g on st t l f i (Zeros count) h = tt
lies_of tape g on st t l f i (Stored place byte count) h = i.below place.part place.pos h

module _ (t : FileTree) (path : Path) (file offset count from within : ℕ) (room : Room) (pieces : List Piece) (good : IsGood t) (stands : StandsAt t path file) (has : HasExtents t.nodes file room) (laid : IsFileOf t.block_size room.laid)
    (free : refusal_of (plain_of whole t) (asks.Read path offset count) ≡ None) (from_is : from ≡ min offset room.laid.length) (within_is : within ≡ min count (room.laid.length - from))
    (is : pieces ≡ planned room.laid from within) (reads : (tape : Tape) → flat_map (read_piece tape) pieces ≡ range_of (file_cells tape room.laid) from within) where
  within_all : within ≡ min count (room.laid.length - min offset room.laid.length)
  within_all = within_is ∙ ap (λ n. min count (room.laid.length - n)) from_is

  are_planned : pieces ≡ planned room.laid (min offset room.laid.length) (min count (room.laid.length - min offset room.laid.length))
  are_planned = is ∙ ap (λ n. planned room.laid n within) from_is ∙ ap (planned room.laid (min offset room.laid.length)) within_all

  reads_all : (tape : Tape) → flat_map (read_piece tape) pieces ≡ range_of (file_cells tape room.laid) (min offset room.laid.length) (min count (room.laid.length - min offset room.laid.length))
  reads_all tape = reads tape ∙ ap (λ n. range_of (file_cells tape room.laid) n within) from_is ∙ ap (range_of (file_cells tape room.laid) (min offset room.laid.length)) within_all

  stand_all : AllByRecursion (PieceStandsIn t) pieces
  stand_all = subst (λ ps. AllByRecursion (PieceStandsIn t) ps) (sym is)
      (all_by (StandsWhere (FileStandsIn room.laid)) (PieceStandsIn t) (planned room.laid from within) (stands_of t file room has) (plan_stands room.laid from within laid.lies))

  -- the pieces of a read are read as the read is answered
  pub read_planned : (l : Plan) (f : Frame) (tape : Tape) (g : Given) (on : Bool) (st : Standing) → IsStock tape g on st (stocked t l f) → IsReadPlan tape st t path offset count pieces
  read_planned l f tape g on st i = record {
    pieces_are = are_planned ∙ planned_within room.laid offset count laid.lies
        ∙ ap (λ (k : Laid). planned k offset (min count (k.length - offset))) (sym (lies_so t path file offset count room good stands has free tape l f g on st i));
    refusal = ap (λ (tree : plain.Tree). refusal_of tree (asks.Read path offset count)) (sym i.plain) ∙ refused t path file offset count room good stands has free pieces tape (reads_all tape);
    answers = ap (λ (tree : plain.Tree). answer tree (asks.Read path offset count)) (sym i.plain) ∙ answers t path file offset count room good stands has free pieces tape (reads_all tape);
    stand = stand_all;
    below = all_by (PieceStandsIn t) (PieceLiesBelow (ends_of st.space.ends)) pieces (lies_of tape g on st t l f i) stand_all;
  }

-- ---- results

-- what follows from two facts together holds of a success of which both hold
pub two_ok : {X E : Type 0} (r : Result X E) (P Q R : X → Type 0) → ((x : X) → P x → Q x → R x) → IfOk r P → IfOk r Q → IfOk r R
two_ok (Ok x) P Q R f p q = f x p q
two_ok (Err e) P Q R f p q = tt

-- pieces within blocks, of so many bytes at most, are a plan of a read of that size
pub plan_of_most : (size count : ℕ) (laid : Laid) (within : ℕ) (pieces : List Piece) → IsFileOf size laid → All (IsInOneBlock laid.block_size) pieces → size_of pieces ≡ within → within ≤ count → IsPlanOfAtMost size count pieces
plan_of_most size count laid within pieces is each long most =
    let blocks = subst (λ n. All (IsInOneBlock n) pieces) is.size each in
    record { blocks = blocks; size = omega (arith, long, most); long = omega (arith, long, most, pieces_long size pieces blocks) }
