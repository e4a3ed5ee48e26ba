-- A tree reads no byte of a block behind its size; so blocks of zeros read as a tape that has lost nothing.
use Rattle.std.specs.Prelude.{ℕ, ◌≡◌, ◌+◌, ◌-◌, ◌/◌, ◌%◌, ◌<◌, ◌≤◌, nat_lt, Bool, true, false, cond, List, [], ◌∷◌, map, length, replicate, Option, Some, None, slice_get}
use Rattle.std.specs.List.{range_with_len}
use Rattle.std.specs.Option.{option_map}
use Rattle.std.specs.FinMap as fin
use Rattle.std.proofs.Common.{refl, sym, ap, subst, ◌∙◌, arith}
use Rattle.std.proofs.lemmas.Bool.Decides.{nat_tests}
use Rattle.std.proofs.lemmas.List.{get_or-replicate, length-replicate}
use Rattle.std.proofs.lemmas.Nat.{mod_below}
use Rattle.std.proofs.lemmas.Option.{slice_get-get_or}
use Rattle.tape_types.specs.declared.cartridges.Extent.{Extent}
use Rattle.tape_types.specs.declared.cartridges.Item.TheVariants.{Block}
use Rattle.tape_types.specs.declared.cartridges.Part.{Part}
use Rattle.tape_types.specs.declared.cartridges.Part.TheVariants.{Dp, Ip}
use Rattle.index_model.specs.declared.indexes.Index.{Index}
use Rattle.index_model.specs.declared.nodes.NodeKind as told_kind
use Rattle.index_model.specs.declared.nodes.NodeKind.TheVariants as told_kinds
use Rattle.plain_tree.specs.Paths.{Path}
use Rattle.plain_tree.specs.declared.nodes.Kind.TheVariants as plain_kinds
use Rattle.extent_map.specs.Cells.{Tape, byte_in, cell_at, cell_of, covers, file_cells}
use Rattle.extent_map.specs.Laid.{Laid, Room}
use Rattle.file_tree.specs.Blocks.{AgreeBelow, LiesBelow}
use Rattle.file_tree.specs.Mounts.{IsKindOf, IsTreeOf, Letters}
use Rattle.file_tree.specs.Tree.{FileTree, plain_kind_of, plain_node_of, plain_nodes, plain_of, whole}
use Rattle.file_tree.specs.declared.nodes.HeldKind.{HeldKind}
use Rattle.file_tree.specs.declared.nodes.HeldKind.TheVariants as kinds
use Rattle.file_tree.specs.declared.nodes.Node.{Node}
use Rattle.file_tree.proofs.BlockLemmas.{ends_hold}
use Rattle.file_tree.proofs.MountLemmas.{told_at}
use Rattle.file_tree.proofs.PathLemmas.{same_nodes}
use Rattle.file_tree.proofs.PlainLemmas.{plain_get}
use Rattle.tape_layout.specs.declared.standing.Ends as layout
use Rattle.held_volume.specs.Stocks.{ends_of}
use Rattle.volume_state.specs.PlanLaws.Planned.{Items, ends_in, tape_on}

-- ---- what a tree reads

-- each file has blocks of this size
abbrev AreSized : ℕ → FileTree → Type 0
AreSized size t = (path : Path) (node : Node) (room : Room) → fin.get t.nodes path ≡ Some node
    → node.kind ≡ kinds.File room → room.laid.block_size ≡ size

module _ (one other : Tape) (size : ℕ) (some : 1 ≤ size)
    (near : (part : Part) (pos byte : ℕ) → byte < size → one part pos byte ≡ other part pos byte) where
  same_cell : (e : Extent) (i : ℕ) → cell_of one size e i ≡ cell_of other size e i
  same_cell e i = near e.part (e.block + (e.byte + i) / size) ((e.byte + i) % size) (mod_below (e.byte + i) size some)

  same_cell_at : (es : List Extent) (at : ℕ) → cell_at one size es at ≡ cell_at other size es at
  same_cell_at [] at = refl
  same_cell_at (e ∷ es) at =
      let here = same_cell e (at - e.offset) in
      let later = same_cell_at es at in
      λ i. cond (covers e at) (here i) (later i)

  same_cells : (f : Laid) → f.block_size ≡ size → file_cells one f ≡ file_cells other f
  same_cells f is =
      ap (λ n. map (cell_at one n f.extents) (range_with_len 0 f.length)) is
      ∙ (λ i. map (λ at. same_cell_at f.extents at i) (range_with_len 0 f.length))
      ∙ ap (λ n. map (cell_at other n f.extents) (range_with_len 0 f.length)) (sym is)

  module _ (t : FileTree) (sized : AreSized size t) where
    same_node : (path : Path) (node : Node) → fin.get t.nodes path ≡ Some node
        → plain_node_of one node ≡ plain_node_of other node
    same_node path node there =
        ap (λ k. record (plain_node_of one node) { kind = k }) (by node.kind refl)
      where
        by : (kind : HeldKind) → node.kind ≡ kind → plain_kind_of one kind ≡ plain_kind_of other kind
        by kinds.Dir e = refl
        by (kinds.Link text) e = refl
        by (kinds.File room) e =
            ap (λ cells. plain_kinds.File cells) (same_cells room.laid (sized path node room there e))

    same_at : (path : Path) → fin.get (plain_nodes one t.nodes) path ≡ fin.get (plain_nodes other t.nodes) path
    same_at path = plain_get one t.nodes path ∙ by (fin.get t.nodes path) refl ∙ sym (plain_get other t.nodes path)
      where
        by : (o : Option Node) → fin.get t.nodes path ≡ o
            → option_map (plain_node_of one) (fin.get t.nodes path)
            ≡ option_map (plain_node_of other) (fin.get t.nodes path)
        by o e = rw e (found o e)
          where
            found : (o : Option Node) → fin.get t.nodes path ≡ o
                → option_map (plain_node_of one) o ≡ option_map (plain_node_of other) o
            found None e = refl
            found (Some node) e = ap (λ n. Some n) (same_node path node e)

    near_plain : plain_of one t ≡ plain_of other t
    near_plain = ap (λ nodes. record { highest = t.highest; lock = t.lock; nodes = nodes })
        (same_nodes (plain_nodes one t.nodes) (plain_nodes other t.nodes) same_at)

-- ---- blocks of zeros

-- blocks of zeros up to the ends of both partitions
abbrev pub blanks : ℕ → layout.Ends → Items
blanks size ends Ip = replicate ends.ip (Block (replicate size 0))
blanks size ends Dp = replicate ends.dp (Block (replicate size 0))

-- blocks of zeros up to some ends have these ends
pub blank_ends : (size : ℕ) (ends : layout.Ends) → ends_in (blanks size ends) ≡ ends
blank_ends size ends =
    let ip : length (blanks size ends Ip) ≡ ends.ip = length-replicate ends.ip (Block (replicate size 0)) in
    let dp : length (blanks size ends Dp) ≡ ends.dp = length-replicate ends.dp (Block (replicate size 0)) in
    λ i. record { ip = ip i; dp = dp i }

in_run : {X : Type 0} (n i : ℕ) (x : X) → i < n → slice_get (replicate n x) i ≡ Some x
in_run n i x less =
    slice_get-get_or (replicate n x) i x (omega (arith, less, length-replicate n x))
    ∙ ap (λ y. Some y) (get_or-replicate n i x x less)

-- each byte of such a block is there
zero_there : (size n pos byte : ℕ) → pos < n → byte < size
    → byte_in (slice_get (replicate n (Block (replicate size 0))) pos) byte ≡ Some 0
zero_there size n pos byte within near =
    ap (λ o. byte_in o byte) (in_run n pos (Block (replicate size 0)) within) ∙ in_run size byte 0 near

zero_on : (size : ℕ) (ends : layout.Ends) (part : Part) (pos byte : ℕ) → pos < ends_of ends part → byte < size
    → tape_on (blanks size ends) part pos byte ≡ Some 0
zero_on size ends Ip pos byte within near = zero_there size ends.ip pos byte within near
zero_on size ends Dp pos byte within near = zero_there size ends.dp pos byte within near

-- these blocks, as if nothing stood behind them or between
abbrev between : ℕ → layout.Ends → Tape
between size ends part pos byte = cond (nat_lt byte size) (Some 0) (tape_on (blanks size ends) part pos byte)

agree_below : (size : ℕ) (ends : layout.Ends)
    → AgreeBelow (ends_of ends) (between size ends) (tape_on (blanks size ends))
agree_below size ends part pos byte within = by (nat_lt byte size) refl
  where
    less : nat_lt byte size ≡ true → byte < size
    less e = grind (arith, nat_tests, e)

    by : (b : Bool) → nat_lt byte size ≡ b
        → cond b (Some 0) (tape_on (blanks size ends) part pos byte) ≡ tape_on (blanks size ends) part pos byte
    by true e = sym (zero_on size ends part pos byte within (less e))
    by false e = refl

near_whole : (size : ℕ) (ends : layout.Ends) (part : Part) (pos byte : ℕ) → byte < size
    → whole part pos byte ≡ between size ends part pos byte
near_whole size ends part pos byte near =
    ap (λ b. cond b (Some 0) (tape_on (blanks size ends) part pos byte)) (sym (is near))
  where
    is : byte < size → nat_lt byte size ≡ true
    is h = grind (arith, nat_tests, h)

-- ---- the tree of an index

size_of : (letters : Letters) (size : ℕ) (kind : told_kind.NodeKind) (room : Room)
    → IsKindOf letters size kind (kinds.File room) → room.laid.block_size ≡ size
size_of letters size told_kinds.Dir room is = absurd (let wrong : ◌≡◌ {A = HeldKind} (kinds.File room) kinds.Dir = is in cc)
size_of letters size (told_kinds.Link text) room is =
    absurd (let wrong : ◌≡◌ {A = HeldKind} (kinds.File room) (kinds.Link text) = is in cc)
size_of letters size (told_kinds.File bytes raws) room is =
    ap (λ (r : Room). r.laid.block_size) (one_room room is.0 is.1) ∙ ap (λ (f : Laid). f.block_size) is.2
  where
    one_room : (r s : Room) → ◌≡◌ {A = HeldKind} (kinds.File r) (kinds.File s) → r ≡ s
    one_room r s e = cc

-- a tree that was mounted is the same on a tape that has lost nothing as on blocks of zeros up to its ends
pub blanks_are_whole : (letters : Letters) (size : ℕ) (index : Index) (t : FileTree) (ends : layout.Ends) → 1 ≤ size
    → IsTreeOf letters size index t → LiesBelow (ends_of ends) t
    → plain_of (tape_on (blanks size ends)) t ≡ plain_of whole t
blanks_are_whole letters size index t ends some is below = sym (
    near_plain whole (between size ends) size some (near_whole size ends) t sized
    ∙ ends_hold.unseen (ends_of ends) (between size ends) (tape_on (blanks size ends)) t below (agree_below size ends)
    )
  where
    sized : AreSized size t
    sized path node room there file =
        let told = told_at letters size index.nodes (length index.nodes) t.nodes is.nodes path node there in
        size_of letters size told.0.kind room (subst (IsKindOf letters size told.0.kind) file told.3.kind)
