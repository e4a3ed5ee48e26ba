-- What a call is refused goes by the tape alone where a byte is lost.
use Rattle.std.proofs.Common.{Option, ◌⊎◌, ◌≡◌, ℕ, zero, suc, ◌-◌, Bool, true, false, cond, List, [], ◌∷◌, take, drop, map, Some, None, is_none, sym, ap, ◌∙◌, refl, subst, inl, inr}
use Rattle.std.specs.Option.{option_map}
use Rattle.std.specs.List.{filter_map, cons_option, range_with_len}
use Rattle.std.specs.FinMap as fin
use Rattle.plain_tree.specs.declared.calls.Call.{Call}
use Rattle.plain_tree.specs.declared.calls.Call.TheVariants.{Read}
use Rattle.plain_tree.specs.declared.calls.Refusal.{Refusal}
use Rattle.plain_tree.specs.declared.calls.Refusal.TheVariants as refusals
use Rattle.plain_tree.specs.declared.calls.Sort.{Sort}
use Rattle.plain_tree.specs.Cells.{Cell, range_of, bytes_of}
use Rattle.plain_tree.specs.Paths.{Path, name_in}
use Rattle.plain_tree.specs.Refusals.{first_of, refuse_if, no_file, damaged, refusal_of}
use Rattle.plain_tree.specs.Tree as plain
use Rattle.extent_map.specs.Cells.{Tape, cell_at, cell_of, covers}
use Rattle.tape_types.specs.declared.cartridges.Extent.{Extent}
use Rattle.file_tree.specs.declared.nodes.Node.{Node}
use Rattle.file_tree.specs.declared.nodes.HeldKind.{HeldKind}
use Rattle.file_tree.specs.declared.nodes.HeldKind.TheVariants as kinds
use Rattle.file_tree.specs.Tree.{Nodes, FileTree, plain_kind_of, plain_node_of, plain_nodes, plain_of, whole}
use Rattle.file_tree.specs.Edits.{RefusalsAreAlike}
use Rattle.file_tree.proofs.PlainLemmas.{plain_get, plain_entries, plain_len}
use Rattle.file_tree.proofs.ShapeLemmas.{shape, shape_at, no_file_same, AreAlike, alike_shapes}

module _ (a b : Tape) (m : Nodes) where
  sort_alike : (k : HeldKind) → plain.sort_of (plain_kind_of a k) ≡ plain.sort_of (plain_kind_of b k)
  sort_alike kinds.Dir = refl
  sort_alike (kinds.File room) = refl
  sort_alike (kinds.Link text) = refl

  -- a node has the same shape on each tape
  pub shapes_alike : (path : Path) → shape_at (plain_nodes a m) path ≡ shape_at (plain_nodes b m) path
  shapes_alike path = ap (option_map shape) (plain_get a m path) ∙ by (fin.get m path) ∙ sym (ap (option_map shape) (plain_get b m path))
    where
      by : (o : Option Node) → option_map shape (option_map (plain_node_of a) o) ≡ option_map shape (option_map (plain_node_of b) o)
      by None = refl
      by (Some n) = ap (λ (s : Sort). Some (s, n.readonly, n.keys.map)) (sort_alike n.kind)

  -- whether a file is refused as none is the same on each tape
  pub no_file_alike : (path : Path) → no_file (plain_nodes a m) path ≡ no_file (plain_nodes b m) path
  no_file_alike path = no_file_same (plain_nodes a m) (plain_nodes b m) shapes_alike path

  lines_alike : (dir : Path) (es : List (Path × Node))
      → filter_map (plain.entry_in dir) (map (λ e. (e.0, plain_node_of a e.1)) es) ≡ filter_map (plain.entry_in dir) (map (λ e. (e.0, plain_node_of b e.1)) es)
  lines_alike dir [] = refl
  lines_alike dir (e ∷ es) =
      ap (λ s. cons_option (option_map (λ name. record { sort = s; name = name }) (name_in dir e.0)) (filter_map (plain.entry_in dir) (map (λ e. (e.0, plain_node_of a e.1)) es))) (sort_alike e.1.kind)
      ∙ ap (λ l. cons_option (plain.entry_in dir (e.0, plain_node_of b e.1)) l) (lines_alike dir es)

  entries_alike : (dir : Path) → plain.entries_in (plain_nodes a m) dir ≡ plain.entries_in (plain_nodes b m) dir
  entries_alike dir = ap (filter_map (plain.entry_in dir)) (plain_entries a m) ∙ lines_alike dir (fin.entries m) ∙ sym (ap (filter_map (plain.entry_in dir)) (plain_entries b m))

module _ (a b : Tape) (t : FileTree) where
  plain_alike : AreAlike (plain_of a t) (plain_of b t)
  plain_alike = record {
    highest = refl;
    lock = refl;
    shapes = shapes_alike a b t.nodes;
    count = plain_len a t.nodes ∙ sym (plain_len b t.nodes);
    lines = entries_alike a b t.nodes;
  }

  -- the refusals of all calls but reads are alike
  pub alike : (call : Call) → ((path : Path) (offset count : ℕ) → call ≡ Read path offset count → ⊥) → refusal_of (plain_of a t) call ≡ refusal_of (plain_of b t) call
  alike call other = alike_shapes (plain_of a t) (plain_of b t) plain_alike call other

-- what a whole tape has
whole_cell : (size : ℕ) (es : List Extent) (i : ℕ) → cell_at whole size es i ≡ Some 0
whole_cell size [] i = refl
whole_cell size (e ∷ es) i = elim (covers e i) as (λ b. cond b (cell_of whole size e (i - e.offset)) (cell_at whole size es i) ≡ Some 0) [
  | true ↦ refl
  | false ↦ whole_cell size es i
]

-- no cell is lost
abbrev AreSome : List Cell → Type 0
AreSome [] = Unit {0}
AreSome (None ∷ cells) = ⊥
AreSome (Some b ∷ cells) = AreSome cells

whole_map : (size : ℕ) (es : List Extent) (is : List ℕ) → AreSome (map (cell_at whole size es) is)
whole_map size es [] = tt
whole_map size es (i ∷ is) = subst (λ c. AreSome (c ∷ map (cell_at whole size es) is)) (sym (whole_cell size es i)) (whole_map size es is)

taken : (n : ℕ) (cells : List Cell) → AreSome cells → AreSome (take n cells)
taken zero cells all = tt
taken (suc n) [] all = tt
taken (suc n) (None ∷ cells) all = all
taken (suc n) (Some b ∷ cells) all = taken n cells all

dropped : (n : ℕ) (cells : List Cell) → AreSome cells → AreSome (drop n cells)
dropped zero cells all = all
dropped (suc n) [] all = tt
dropped (suc n) (None ∷ cells) all = absurd all
dropped (suc n) (Some b ∷ cells) all = dropped n cells all

some_bytes : (cells : List Cell) → AreSome cells → is_none (bytes_of cells) ≡ false
some_bytes [] all = refl
some_bytes (None ∷ cells) all = absurd all
some_bytes (Some b ∷ cells) all = by (bytes_of cells) (some_bytes cells all)
  where
    by : (o : Option (List ℕ)) → is_none o ≡ false → is_none (option_map (λ bs. b ∷ bs) o) ≡ false
    by None e = cc
    by (Some bs) e = refl

cells_whole : (m : Nodes) (path : List (List ℕ)) → AreSome (plain.cells_at (plain_nodes whole m) path)
cells_whole m path = by (fin.get m path) refl
  where
    by : (o : Option Node) → fin.get m path ≡ o → AreSome (plain.cells_at (plain_nodes whole m) path)
    by None e = rw (plain_get whole m path ∙ ap (option_map (plain_node_of whole)) e) tt
    by (Some node) e = kind node.kind refl
      where
        kind : (k : HeldKind) → node.kind ≡ k → AreSome (plain.cells_at (plain_nodes whole m) path)
        kind kinds.Dir is = rw (plain_get whole m path ∙ ap (option_map (plain_node_of whole)) e, is) tt
        kind (kinds.File room) is = rw (plain_get whole m path ∙ ap (option_map (plain_node_of whole)) e, is) (whole_map room.laid.block_size room.laid.extents (range_with_len 0 room.laid.length))
        kind (kinds.Link text) is = rw (plain_get whole m path ∙ ap (option_map (plain_node_of whole)) e, is) tt

whole_undamaged : (m : Nodes) (path : List (List ℕ)) (offset count : ℕ) → damaged (plain_nodes whole m) path offset count ≡ None
whole_undamaged m path offset count = ap (λ b. refuse_if b refusals.Damaged) (some_bytes (take count (drop offset (plain.cells_at (plain_nodes whole m) path))) (taken count (drop offset (plain.cells_at (plain_nodes whole m) path)) (dropped offset (plain.cells_at (plain_nodes whole m) path) (cells_whole m path))))

-- a read of a whole tape is refused where there is no file
pub whole_read : (t : FileTree) (path : List (List ℕ)) (offset count : ℕ) → refusal_of (plain_of whole t) (Read path offset count) ≡ no_file (plain_nodes whole t.nodes) path
whole_read t path offset count = ap (λ r. first_of (no_file (plain_nodes whole t.nodes) path ∷ r ∷ [])) (whole_undamaged t.nodes path offset count) ∙ by (no_file (plain_nodes whole t.nodes) path)
  where
    by : (o : Option Refusal) → first_of (o ∷ None ∷ []) ≡ o
    by None = refl
    by (Some r) = refl

read_alike : (tape : Tape) (t : FileTree) (path : List (List ℕ)) (offset count : ℕ)
    → (refusal_of (plain_of tape t) (Read path offset count) ≡ refusal_of (plain_of whole t) (Read path offset count))
    ⊎ ((refusal_of (plain_of tape t) (Read path offset count) ≡ Some refusals.Damaged) × (refusal_of (plain_of whole t) (Read path offset count) ≡ None))
read_alike tape t path offset count = by (no_file (plain_nodes whole t.nodes) path) (is_none (bytes_of (range_of (plain.cells_at (plain_nodes tape t.nodes) path) offset count))) refl refl
  where
    here : refusal_of (plain_of tape t) (Read path offset count) ≡ first_of (no_file (plain_nodes whole t.nodes) path ∷ damaged (plain_nodes tape t.nodes) path offset count ∷ [])
    here = ap (λ r. first_of (r ∷ damaged (plain_nodes tape t.nodes) path offset count ∷ [])) (no_file_alike tape whole t.nodes path)

    by : (o : Option Refusal) (b : Bool) → no_file (plain_nodes whole t.nodes) path ≡ o → is_none (bytes_of (range_of (plain.cells_at (plain_nodes tape t.nodes) path) offset count)) ≡ b
        → (refusal_of (plain_of tape t) (Read path offset count) ≡ refusal_of (plain_of whole t) (Read path offset count))
        ⊎ ((refusal_of (plain_of tape t) (Read path offset count) ≡ Some refusals.Damaged) × (refusal_of (plain_of whole t) (Read path offset count) ≡ None))
    by (Some r) b e f = inl (here ∙ ap (λ o. first_of (o ∷ damaged (plain_nodes tape t.nodes) path offset count ∷ [])) e ∙ sym (whole_read t path offset count ∙ e))
    by None false e f = inl (here ∙ ap (λ o. first_of (o ∷ damaged (plain_nodes tape t.nodes) path offset count ∷ [])) e ∙ ap (λ b. first_of (refuse_if b refusals.Damaged ∷ [])) f ∙ sym (whole_read t path offset count ∙ e))
    by None true e f = inr (here ∙ ap (λ o. first_of (o ∷ damaged (plain_nodes tape t.nodes) path offset count ∷ [])) e ∙ ap (λ b. first_of (refuse_if b refusals.Damaged ∷ [])) f, whole_read t path offset count ∙ e)

-- a refusal is the same on each tape, but that of a lost byte
pub refusals_alike : RefusalsAreAlike
refusals_alike tape t (Read path offset count) = read_alike tape t path offset count
refusals_alike tape t call = inl (alike tape whole t call (λ path offset count e. cc))
