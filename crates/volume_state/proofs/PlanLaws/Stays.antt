-- Below the ends nothing changes.
use Rattle.std.proofs.Common.{◌≡◌, ℕ, ◌+◌, ◌<◌, ◌≤◌, ◌∙◌, Bool, List, [], ◌∷◌, ◌++◌, map, Option, Some, refl, sym, ap, subst, arith, replicate, if◌then◌else◌, length-append}
use Rattle.std.specs.List.{flat_map, range_with_len}
use Rattle.tape_types.proofs.LongerLists.{slice_get-append}
use Rattle.tape_types.specs.declared.cartridges.Item.{Item}
use Rattle.tape_types.specs.declared.cartridges.Part.{Part}
use Rattle.extent_map.specs.Blocks.{AreAlikeIn}
use Rattle.extent_map.specs.Cells.{byte_in}
use Rattle.extent_map.specs.Pieces.{read_piece}
use Rattle.extent_map.specs.Replies.{Places, gathered, gathered_piece}
use Rattle.extent_map.specs.declared.pieces.Piece.{Piece}
use Rattle.extent_map.specs.declared.pieces.Piece.TheVariants.{Zeros, Stored}
use Rattle.plain_tree.specs.Cells.{Cell}
use Rattle.file_tree.specs.Blocks.{LiesBelow, TreeStandsIn}
use Rattle.file_tree.specs.Tree.{FileTree}
use Rattle.file_tree.specs.Writes.{HoldsBytes}
use Rattle.tape_layout.specs.declared.ops.Op.{Op}
use Rattle.tape_layout.specs.declared.standing.Ends.{Ends}
use Rattle.tape_layout.specs.Ops.{end_of}
use Rattle.promises.specs.CrashLaws.Safe.{items_by}
use Rattle.space_laws.specs.Space.{Ask, Rules, Space, change, index, nothing, part_for, store}
use Rattle.space_laws.specs.Space as space
use Rattle.space_laws.specs.Standing.{Given, Standing, rules}
use Rattle.held_volume.specs.Applied.{HoldsStored, IsLate, new_run}
use Rattle.held_volume.specs.Stocks.{ends_of}
use Rattle.volume_state.specs.PlanLaws.Laws.{TapesStay}
use Rattle.volume_state.specs.PlanLaws.Planned.{Items, LieBelow, PieceLiesBelow, ends_in, tape_on, with_ops}
use Rattle.volume_state.proofs.PlanLaws.Ends.{end_is}
use Rattle.volume_state.proofs.PlanLaws.Stored.{stored_bytes}

-- ---- below the ends

same_below : (planned : Items) (asked : List Op) (part : Part) (pos byte : ℕ)
    → pos < end_of part (ends_in planned)
    → tape_on (with_ops asked planned) part pos byte ≡ tape_on planned part pos byte
same_below planned asked part pos byte lt =
    ap (λ (o : Option Item). byte_in o byte)
    (slice_get-append (planned part) (items_by part asked) pos (omega (arith, lt, end_is part planned)))

tree_alike : (planned : Items) (asked : List Op) (tree : FileTree) → LiesBelow (ends_of (ends_in planned)) tree
    → AreAlikeIn (TreeStandsIn tree) (tape_on (with_ops asked planned)) (tape_on planned)
tree_alike planned asked tree below part pos byte stands =
    same_below planned asked part pos byte (below part pos stands)

-- ---- what pieces read

same_cells : (f g : ℕ → Cell) (ks : List ℕ) → ((k : ℕ) → f k ≡ g k) → map f ks ≡ map g ks
same_cells f g [] same = refl
same_cells f g (k ∷ ks) same = λ i. same k i ∷ same_cells f g ks same i

same_piece : (planned : Items) (asked : List Op) (piece : Piece) → PieceLiesBelow (ends_in planned) piece
    → read_piece (tape_on (with_ops asked planned)) piece ≡ read_piece (tape_on planned) piece
same_piece planned asked (Zeros count) below = refl
same_piece planned asked (Stored place byte count) below =
    same_cells (λ (i : ℕ). tape_on (with_ops asked planned) place.part place.pos (byte + i))
    (λ (i : ℕ). tape_on planned place.part place.pos (byte + i)) (range_with_len 0 count)
    (λ k. same_below planned asked place.part place.pos (byte + k) below)

same_pieces : (planned : Items) (asked : List Op) (pieces : List Piece) → LieBelow (ends_in planned) pieces
    → flat_map (read_piece (tape_on (with_ops asked planned))) pieces ≡ flat_map (read_piece (tape_on planned)) pieces
same_pieces planned asked [] below = refl
same_pieces planned asked (piece ∷ pieces) below =
    ap (λ (l : List Cell). l ++ flat_map (read_piece (tape_on (with_ops asked planned))) pieces)
    (same_piece planned asked piece below.0)
    ∙ ap (λ (l : List Cell). read_piece (tape_on planned) piece ++ l) (same_pieces planned asked pieces below.1)

-- the same where some blocks were read
same_gathered : (planned : Items) (asked : List Op) (read : Places) (piece : Piece)
    → PieceLiesBelow (ends_in planned) piece
    → gathered_piece (tape_on (with_ops asked planned)) read piece ≡ gathered_piece (tape_on planned) read piece
same_gathered planned asked read (Zeros count) below = refl
same_gathered planned asked read (Stored place byte count) below =
    ap (λ (cells : List Cell). if read place then cells else replicate count (Some 0))
    (same_piece planned asked (Stored place byte count) below)

all_gathered : (planned : Items) (asked : List Op) (read : Places) (pieces : List Piece)
    → LieBelow (ends_in planned) pieces
    → gathered (tape_on (with_ops asked planned)) read pieces ≡ gathered (tape_on planned) read pieces
all_gathered planned asked read [] below = refl
all_gathered planned asked read (piece ∷ pieces) below =
    ap (λ (l : List Cell). l ++ gathered (tape_on (with_ops asked planned)) read pieces)
    (same_gathered planned asked read piece below.0)
    ∙ ap (λ (l : List Cell). gathered_piece (tape_on planned) read piece ++ l)
    (all_gathered planned asked read pieces below.1)

-- what lies before an end lies before it once ops are added
pub further : (planned : Items) (asked : List Op) (part : Part) (pos : ℕ) → pos < end_of part (ends_in planned)
    → pos < end_of part (ends_in (with_ops asked planned))
further planned asked part pos lt =
    omega (
      arith,
      lt,
      end_is part planned,
      end_is part (with_ops asked planned),
      length-append (planned part)
          (items_by part asked),
    )

piece_further : (planned : Items) (asked : List Op) (piece : Piece) → PieceLiesBelow (ends_in planned) piece
    → PieceLiesBelow (ends_in (with_ops asked planned)) piece
piece_further planned asked (Zeros count) below = tt
piece_further planned asked (Stored place byte count) below = further planned asked place.part place.pos below

pieces_further : (planned : Items) (asked : List Op) (pieces : List Piece) → LieBelow (ends_in planned) pieces
    → LieBelow (ends_in (with_ops asked planned)) pieces
pieces_further planned asked [] below = tt
pieces_further planned asked (piece ∷ pieces) below =
    (piece_further planned asked piece below.0, pieces_further planned asked pieces below.1)

-- ---- what a call admits

holds_stored : (planned : Items) (asked : List Op) (g : Given) (on : Bool) (st : Standing) (ask : Ask)
    → asked ≡ space.ops_of (rules g) on st.space ask → st.space.ends ≡ ends_in planned
    → 1 ≤ g.mounted.label.block → HoldsStored (tape_on (with_ops asked planned)) g on st ask
holds_stored planned asked g on st nothing is ends some = tt
holds_stored planned asked g on st change is ends some = tt
holds_stored planned asked g on st (index text) is ends some = tt
holds_stored planned asked g on st (store wanted bytes) is ends some =
    subst (λ (ops : List Op).
    HoldsBytes (tape_on (with_ops ops planned)) g.mounted.label.block (new_run g on st wanted bytes) bytes) (sym is)
    (stored_bytes planned g.mounted.label.block (part_for (rules g) on st.space wanted bytes)
    (end_of (part_for (rules g) on st.space wanted bytes) st.space.ends) bytes some
    (ap (λ (e : Ends). end_of (part_for (rules g) on st.space wanted bytes) e) (sym ends)))

is_late : (planned : Items) (asked : List Op) (tree : FileTree) (g : Given) (on : Bool) (st : Standing) (ask : Ask)
    → LiesBelow (ends_of (ends_in planned)) tree
    → asked ≡ space.ops_of (rules g) on st.space ask → st.space.ends ≡ ends_in planned → 1 ≤ g.mounted.label.block
    → IsLate (tape_on planned) (tape_on (with_ops asked planned)) g on st ask tree
is_late planned asked tree g on st ask below is ends some = record {
  alike = tree_alike planned asked tree below;
  holds = holds_stored planned asked g on st ask is ends some;
}

-- below the ends nothing on tape changes as ops are added
pub tapes_stay : TapesStay
tapes_stay = record {
  alike = tree_alike;
  late = is_late;
  pieces = same_pieces;
  gathered = all_gathered;
  agree = same_below;
  below = pieces_further;
}
