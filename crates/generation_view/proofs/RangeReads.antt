-- The blocks of a range of a file, and what a read of it is answered.
use Rattle.std.proofs.Common.{◌≡◌, ℕ, ◌+◌, ◌-◌, ◌*◌, ◌<◌, ◌≤◌, ◌^◌, min, not, Bool, true, false, cond, List, [], ◌∷◌, ◌++◌, length, Option, Some, None, Result, Ok, Err, IfOk, is_none, refl, sym, ap, subst, ◌∙◌, arith}
use Rattle.std.specs.Prelude.{IfSome}
use Rattle.std.specs.FinMap as fin
use Rattle.std.specs.List.{AllByRecursion, filter, flat_map}
use Rattle.std.specs.Option.{unwrap_or}
use Rattle.tape_types.specs.declared.cartridges.Cartridge.{Cartridge}
use Rattle.tape_types.specs.declared.cartridges.Limits.{Limits}
use Rattle.tape_types.specs.declared.cartridges.Part.{Part}
use Rattle.tape_types.specs.declared.cartridges.Place.{Place}
use Rattle.tape_drive.specs.Looks.{Looks}
use Rattle.tape_drive.specs.declared.drive.Drive.{Ghosts}
use Rattle.extent_map.specs.Blocks.{FileStandsIn}
use Rattle.extent_map.specs.Cells.{Tape, file_cells, tape_of}
use Rattle.extent_map.specs.Laid.{IsLaid, Laid, Room}
use Rattle.extent_map.specs.Pieces.{planned, read_piece}
use Rattle.extent_map.specs.Replies.{distinct, place_in, places_in, same_place, size_of}
use Rattle.extent_map.specs.declared.pieces.Piece.{Piece}
use Rattle.extent_map.specs.declared.pieces.Piece.TheVariants.{Stored, Zeros}
use Rattle.plain_tree.specs.Calls.{answer, answer_unless, value_of}
use Rattle.plain_tree.specs.Cells.{Cell, bytes_of, range_of}
use Rattle.plain_tree.specs.Paths.{Path}
use Rattle.plain_tree.specs.Refusals.{damaged, first_of, no_file, refusal_of, refuse_if}
use Rattle.plain_tree.specs.Tree as plain
use Rattle.plain_tree.specs.Tree.{cells_at}
use Rattle.plain_tree.specs.declared.calls.Answer.{Answer}
use Rattle.plain_tree.specs.declared.calls.Answer.TheVariants as answers
use Rattle.plain_tree.specs.declared.calls.Call.TheVariants as asks
use Rattle.plain_tree.specs.declared.calls.Refusal.{Refusal}
use Rattle.plain_tree.specs.declared.calls.Refusal.TheVariants.{Damaged}
use Rattle.file_tree.specs.Blocks.{Ends, LiesBelow}
use Rattle.file_tree.specs.Tree.{FileTree, HasExtents, StandsAt, plain_kind_of, plain_of, whole}
use Rattle.file_tree.specs.declared.nodes.HeldKind.{HeldKind}
use Rattle.file_tree.specs.declared.nodes.HeldKind.TheVariants as kinds
use Rattle.file_tree.specs.declared.nodes.Node.{Node}
use Rattle.file_tree.specs.Checks.{IsChecked}
use Rattle.file_tree.specs.Valid.{IsFileOf, IsGood}
use Rattle.file_tree.proofs.CallLemmas.{file_there}
use Rattle.file_tree.proofs.WriteLemmas.{long_as}
use Rattle.file_tree.proofs.RefusalLemmas.{no_file_alike, whole_read}
use Rattle.extent_map.proofs.PieceLemmas.{plans_read}
use Rattle.extent_map.proofs.ReplyLemmas.{range_long}
use Rattle.held_volume.proofs.Asks.{has_laid}
use Rattle.held_volume.proofs.Lies.{path_of, plain_there}
use Rattle.held_volume.proofs.ReadPlans.{planned_within, range_within}
use Rattle.held_volume.proofs.PieceStands.{StandsWhere, pieces_long, plan_stands}
use Rattle.waiting_reads.specs.Gathering.{got_or_damaged, read_answer}
use Rattle.generation_view.specs.Reads.{AreBelow, ArePlanned, IsReadBy, blocks_of, blocks_of_kind, blocks_read}
use Rattle.generation_view.specs.declared.errors.ReadErr.{ReadErr}
use Rattle.generation_view.specs.Views.{CanBeRead, capacities, item_ends}

-- ---- places of pieces

module _ (P : Place → Type 0) where
  all_filtered : (test : Place → Bool) (places : List Place) → AllByRecursion P places → AllByRecursion P (filter test places)
  all_filtered test [] all = tt
  all_filtered test (p ∷ places) all = by (test p) (all_filtered test places all.1)
    where
      by : (b : Bool) → AllByRecursion P (filter test places) → AllByRecursion P (cond b (p ∷ filter test places) (filter test places))
      by true rest = (all.0, rest)
      by false rest = rest

  all_distinct : (places : List Place) → AllByRecursion P places → AllByRecursion P (distinct places)
  all_distinct [] all = tt
  all_distinct (p ∷ places) all = (all.0, all_filtered (λ other. not (same_place p other)) (distinct places) (all_distinct places all.1))

all_places : (Q : Part → ℕ → Type 0) (P : Place → Type 0) → ((place : Place) → Q place.part place.pos → P place) → (pieces : List Piece)
    → AllByRecursion (StandsWhere Q) pieces → AllByRecursion P (flat_map place_in pieces)
all_places Q P next [] all = tt
all_places Q P next (Zeros count ∷ pieces) all = all_places Q P next pieces all.1
all_places Q P next (Stored place byte count ∷ pieces) all = (next place all.0, all_places Q P next pieces all.1)

module _ (t : FileTree) (file offset count : ℕ) (pieces : List Piece) (p : ArePlanned t file offset count pieces) where
  -- the blocks of a range lie where the tree does
  pub plan_below : (ends : Ends) → LiesBelow ends t → AreBelow ends (places_in pieces)
  plan_below ends below =
      all_distinct (λ (place : Place). place.pos < ends place.part) (flat_map place_in pieces)
      (all_places (FileStandsIn p.room.laid) (λ (place : Place). place.pos < ends place.part)
      (λ place stands. below place.part place.pos (record { number = file; laid = p.room.laid; file = has_laid t file p.room p.has; block = stands }))
      pieces
      (subst (λ (ps : List Piece). AllByRecursion (StandsWhere (FileStandsIn p.room.laid)) ps) (sym p.are)
      (plan_stands p.room.laid offset (min count (p.room.laid.length - offset)) p.laid.lies)))

  -- the blocks of a range lie before the capacities of the drive
  pub plan_room : (told : Option Cartridge) (limits : Limits) → CanBeRead told limits t → AreBelow (capacities limits) (places_in pieces)
  plan_room told limits can = plan_below (capacities limits) can.room

  -- the blocks of a range lie before the ends of the cartridge that was told
  pub plan_there : (told : Option Cartridge) (limits : Limits) → CanBeRead told limits t → IfSome told (λ c. AreBelow (item_ends c) (places_in pieces))
  plan_there told limits can = by told can.there
    where
      by : (o : Option Cartridge) → IfSome o (λ c. LiesBelow (item_ends c) t) → IfSome o (λ c. AreBelow (item_ends c) (places_in pieces))
      by None below = tt
      by (Some c) below = plan_below (item_ends c) below

  module _ (path : Path) (stands : StandsAt t path file) (free : refusal_of (plain_of whole t) (asks.Read path offset count) ≡ None) where
    here : fin.get t.nodes path ≡ Some p.has.node
    here = ap (fin.get t.nodes) (path_of t path p.has.path p.has.node file p.good stands p.has.there p.has.is) ∙ p.has.there

    -- they are the blocks of the range
    pub blocks_are : places_in pieces ≡ blocks_read t path offset count
    blocks_are = ap places_in p.are ∙ sym (ap (blocks_of_kind offset count) p.has.file) ∙ sym (ap (blocks_of offset count) here)

    cells_are : (tape : Tape) → cells_at (plain_of tape t).nodes path ≡ file_cells tape p.room.laid
    cells_are tape = rw (plain_there tape t path p.has.node here) (ap (λ k. plain.cells_of_kind (plain_kind_of tape k)) p.has.file)

    range_is : (tape : Tape) → range_of (cells_at (plain_of tape t).nodes path) offset count ≡ flat_map (read_piece tape) pieces
    range_is tape = ap (λ cells. range_of cells offset count) (cells_are tape) ∙ sym (p.reads tape)

    file_free : (tape : Tape) → no_file (plain_of tape t).nodes path ≡ None
    file_free tape = no_file_alike tape whole t.nodes path ∙ sym (whole_read t path offset count) ∙ free

    lost_alone : (b : Bool) → first_of (None ∷ refuse_if b Damaged ∷ []) ≡ refuse_if b Damaged
    lost_alone true = refl
    lost_alone false = refl

    answered : (o : Option (List ℕ)) → answer_unless (refuse_if (is_none o) Damaged) (answers.Got (unwrap_or o [])) ≡ got_or_damaged o
    answered None = refl
    answered (Some bytes) = refl

    refused : (tape : Tape) → refusal_of (plain_of tape t) (asks.Read path offset count) ≡ refuse_if (is_none (bytes_of (flat_map (read_piece tape) pieces))) Damaged
    refused tape = ap (λ r. first_of (r ∷ damaged (plain_of tape t).nodes path offset count ∷ [])) (file_free tape)
        ∙ lost_alone (is_none (bytes_of (range_of (cells_at (plain_of tape t).nodes path) offset count)))
        ∙ ap (λ (cells : List Cell). refuse_if (is_none (bytes_of cells)) Damaged) (range_is tape)

    -- the read of the range is answered what they read
    pub answers_are : (tape : Tape) → answer (plain_of tape t) (asks.Read path offset count) ≡ read_answer tape pieces
    answers_are tape = ap (λ r. answer_unless r (value_of (plain_of tape t) (asks.Read path offset count))) (refused tape)
        ∙ ap (λ (cells : List Cell). answer_unless (refuse_if (is_none (bytes_of (flat_map (read_piece tape) pieces))) Damaged) (answers.Got (unwrap_or (bytes_of cells) []))) (range_is tape)
        ∙ answered (bytes_of (flat_map (read_piece tape) pieces))

    -- what is answered of the pieces is what is answered of the range
    pub range_answered : {D : Type 0} (drive : Ghosts D) (a b : D) (r : Result Answer ReadErr)
        → IsReadBy drive (length (places_in pieces)) (λ c. read_answer (tape_of c) pieces) a b r
        → IsReadBy drive (length (blocks_read t path offset count)) (λ c. answer (plain_of (tape_of c) t) (asks.Read path offset count)) a b r
    range_answered drive a b r read = record {
      answer = by r read.answer;
      later = read.later;
      counts = read.counts;
      looks = subst (λ (ps : List Place). Looks drive (2 * length ps * drive.MOST) a b) blocks_are read.looks;
    }
      where
        by : (q : Result Answer ReadErr) → IfOk q (λ x. (c : Cartridge) → drive.held a ≡ Some c → x ≡ read_answer (tape_of c) pieces)
            → IfOk q (λ x. (c : Cartridge) → drive.held a ≡ Some c → x ≡ answer (plain_of (tape_of c) t) (asks.Read path offset count))
        by (Ok x) is = λ c h. is c h ∙ sym (answers_are (tape_of c))
        by (Err e) is = tt

-- the pieces from an offset within the file on are those of the range
pub range_planned : (t : FileTree) (file offset count from within : ℕ) (room : Room) (pieces : List Piece) → IsGood t → HasExtents t.nodes file room
    → IsFileOf t.block_size room.laid → from ≡ min offset room.laid.length → within ≡ min count (room.laid.length - from) → pieces ≡ planned room.laid from within
    → size_of pieces ≡ within → ((tape : Tape) → flat_map (read_piece tape) pieces ≡ range_of (file_cells tape room.laid) from within)
    → ArePlanned t file offset count pieces
range_planned t file offset count from within room pieces good has laid from_is within_is is long reads = record {
  good = good;
  room = room;
  has = has;
  laid = laid;
  are = is ∙ ap (λ n. planned room.laid n within) from_is ∙ ap (planned room.laid (min offset room.laid.length)) whole_within
      ∙ planned_within room.laid offset count laid.lies;
  reads = λ tape.
      reads tape ∙ ap (λ n. range_of (file_cells tape room.laid) n within) from_is
      ∙ ap (range_of (file_cells tape room.laid) (min offset room.laid.length)) whole_within
      ∙ range_within (file_cells tape room.laid) room.laid.length offset count (long_as tape room.laid);
  small = omega (arith, long, within_is, laid.lies.can_be);
}
  where
    whole_within : within ≡ min count (room.laid.length - min offset room.laid.length)
    whole_within = within_is ∙ ap (λ n. min count (room.laid.length - n)) from_is

-- the file that a read is about
pub at_read : (t : FileTree) (path slice : Path) (offset count number : ℕ) → slice ≡ path → IsChecked (no_file (plain_of whole t).nodes slice) t slice (Ok number)
    → (refusal_of (plain_of whole t) (asks.Read path offset count) ≡ None) × StandsAt t path number
at_read t path slice offset count number same is =
    let here : IsChecked (no_file (plain_of whole t).nodes path) t path (Ok number) =
    subst (λ p. IsChecked (no_file (plain_of whole t).nodes p) t p (Ok number)) same is in
    (whole_read t path offset count ∙ here.0, here.1)

-- a read that isn't refused is of a file, with its extents
pub file_read : (t : FileTree) (path : Path) (offset count number : ℕ) → refusal_of (plain_of whole t) (asks.Read path offset count) ≡ None → StandsAt t path number
    → (room : Room) × HasExtents t.nodes number room
file_read t path offset count number free stands = file_there t path number stands (sym (whole_read t path offset count) ∙ free)

-- a read of what is no file is refused, whatever stands on tape
refused_whole : (t : FileTree) (path : Path) (offset count : ℕ) (r : Refusal) → refusal_of (plain_of whole t) (asks.Read path offset count) ≡ Some r
    → (tape : Tape) → answer (plain_of tape t) (asks.Read path offset count) ≡ answers.Refused r
refused_whole t path offset count r is tape =
    ap (λ o. answer_unless o (value_of (plain_of tape t) (asks.Read path offset count)))
    (ap (λ o. first_of (o ∷ damaged (plain_of tape t).nodes path offset count ∷ []))
    (no_file_alike tape whole t.nodes path ∙ sym (whole_read t path offset count) ∙ is))

-- a read that is refused is answered with that refusal
pub refused_read : (t : FileTree) (path slice : Path) (offset count : ℕ) (r : Refusal) → slice ≡ path → IsChecked (no_file (plain_of whole t).nodes slice) t slice (Err r)
    → (tape : Tape) → answers.Refused r ≡ answer (plain_of tape t) (asks.Read path offset count)
refused_read t path slice offset count r same is tape =
    sym (refused_whole t path offset count r (whole_read t path offset count ∙ ap (no_file (plain_of whole t).nodes) (sym same) ∙ is) tape)

-- ---- how many blocks a range has

filter_few : (test : Place → Bool) (places : List Place) → length (filter test places) ≤ length places
filter_few test [] = omega arith
filter_few test (p ∷ places) = by (test p) (filter_few test places)
  where
    by : (b : Bool) → length (filter test places) ≤ length places → length (cond b (p ∷ filter test places) (filter test places)) ≤ length (p ∷ places)
    by true few = omega (arith, few)
    by false few = omega (arith, few)

distinct_few : (places : List Place) → length (distinct places) ≤ length places
distinct_few [] = omega arith
distinct_few (p ∷ places) = omega (arith, filter_few (λ other. not (same_place p other)) (distinct places), distinct_few places)

places_few : (pieces : List Piece) → length (flat_map place_in pieces) ≤ length pieces
places_few [] = omega arith
places_few (Zeros count ∷ pieces) = omega (arith, places_few pieces)
places_few (Stored place byte count ∷ pieces) = omega (arith, places_few pieces)

planned_few : (f : Laid) (count : ℕ) → IsLaid f → length (places_in (planned f 0 (min count (f.length - 0)))) ≤ count
planned_few f count laid =
    omega (
      arith,
      distinct_few (flat_map place_in pieces),
      places_few pieces,
      pieces_long f.block_size pieces (plans_read.in_one_block f 0 within laid),
      range_long f 0 within pieces short (λ tape. plans_read.read tape f 0 within laid short),
    )
  where
    within : ℕ
    within = min count (f.length - 0)

    pieces : List Piece
    pieces = planned f 0 within

    short : 0 + within ≤ f.length
    short = omega arith

-- the first bytes of a file stand in no more blocks than they are
pub blocks_few : (t : FileTree) (path : Path) (count : ℕ) → IsGood t → length (blocks_read t path 0 count) ≤ count
blocks_few t path count good = by_node (fin.get t.nodes path) refl
  where
    by_kind : (node : Node) → fin.get t.nodes path ≡ Some node → (kind : HeldKind) → node.kind ≡ kind → length (blocks_of_kind 0 count kind) ≤ count
    by_kind node here kinds.Dir is = omega arith
    by_kind node here (kinds.Link text) is = omega arith
    by_kind node here (kinds.File room) is = planned_few room.laid count (good.files path node room here is).lies

    by_node : (o : Option Node) → fin.get t.nodes path ≡ o → length (blocks_of 0 count o) ≤ count
    by_node None is = omega arith
    by_node (Some node) is = by_kind node is node.kind refl
