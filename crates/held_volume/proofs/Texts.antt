-- The texts of the indexes that a sync and a close write.
use Rattle.std.proofs.Common.{◌≡◌, ℕ, suc, ◌+◌, Bool, List, [], ◌∷◌, length, map, Some, Option, slice_get, sym, ap, ◌∙◌, refl}
use Rattle.std.specs.FinMap as fin
use Rattle.tape_types.specs.declared.moments.Moment.{Moment}
use Rattle.tape_types.specs.declared.cartridges.Part.{Part}
use Rattle.tape_types.specs.declared.cartridges.Part.TheVariants.{Ip, Dp}
use Rattle.index_model.specs.declared.indexes.Index.{Index}
use Rattle.index_model.specs.declared.nodes.NodeKind.TheVariants as told_kinds
use Rattle.plain_tree.specs.Paths.{Path}
use Rattle.plain_tree.specs.Tree as plain
use Rattle.plain_tree.specs.declared.nodes.Node as plain_node
use Rattle.extent_map.specs.Cells.{Tape, file_cells}
use Rattle.file_tree.specs.Carried.{index_of_tree}
use Rattle.file_tree.specs.Locks.{told_lock}
use Rattle.file_tree.specs.Mounts.{Letters}
use Rattle.file_tree.specs.Told as file_told
use Rattle.file_tree.specs.Told.{letter_of, raw_of}
use Rattle.file_tree.specs.Tree.{FileTree, plain_node_of, plain_of}
use Rattle.file_tree.specs.declared.nodes.HeldKind.{HeldKind}
use Rattle.file_tree.specs.declared.nodes.HeldKind.TheVariants as kinds
use Rattle.file_tree.specs.declared.nodes.Node.{Node}
use Rattle.file_tree.proofs.PlainLemmas.{plain_entries}
use Rattle.file_tree.proofs.ToldLemmas.{entry_get}
use Rattle.file_tree.proofs.WriteLemmas.{long_as}
use Rattle.space_laws.specs.Files as space
use Rattle.space_laws.specs.Files.{Files, canon, index_at, letters, root_name, told_node}
use Rattle.space_laws.specs.Standing.{Given, Standing, sync_text}
use Rattle.tape_layout.specs.Plans.{Plan}
use Rattle.held_volume.specs.VolumeSync.Frames.{close_index, heading_of, letters_of, sync_index}
use Rattle.held_volume.specs.declared.volume_sync.frames.Frame.{Frame}
use Rattle.held_volume.specs.Stocks.{IsStock, LieAs, Stocked}

-- two maps over lists of one length, element by element
map_both : {X Y Z : Type 0} (f : X → Z) (g : Y → Z) (h : X → Y) (xs : List X) → ((i : ℕ) (x : X) → slice_get xs i ≡ Some x → f x ≡ g (h x)) → map f xs ≡ map g (map h xs)
map_both f g h [] same = refl
map_both f g h (x ∷ xs) same =
    ap (λ z. z ∷ map f xs) (same 0 x refl) ∙ ap (λ zs. g (h x) ∷ zs) (map_both f g h xs (λ i y is. same (suc i) y is))

module _ (tape : Tape) (both : Letters) (name : List ℕ) (files : Files) (t : FileTree) (held : LieAs files t) where
  abbrev line : (Path × Node) → (Path × plain_node.Node)
  line e = (e.0, plain_node_of tape e.1)

  keys_are : fin.keys (plain_of tape t).nodes ≡ fin.keys t.nodes
  keys_are = ap (map (λ (e : Path × plain_node.Node). e.0)) (plain_entries tape t.nodes) ∙ sym (map_both (λ (e : Path × Node). e.0) (λ (e : Path × plain_node.Node). e.0) line (fin.entries t.nodes) (λ i e is. refl))

  kind_told : (path : Path) (node : Node) → fin.get t.nodes path ≡ Some node → file_told.told_kind_of both node.kind ≡ space.told_kind both (files node.uid) (plain_node_of tape node).kind
  kind_told path node there = by node.kind refl
    where
      by : (k : HeldKind) → node.kind ≡ k → file_told.told_kind_of both node.kind ≡ space.told_kind both (files node.uid) (plain_node_of tape node).kind
      by kinds.Dir e = rw e refl
      by (kinds.Link text) e = rw e refl
      by (kinds.File room) e =
          rw e (ap (λ n. told_kinds.File n (map (raw_of both) room.laid.extents)) (sym (long_as tape room.laid))
          ∙ ap (λ (l : Rattle.extent_map.specs.Laid.Laid). told_kinds.File (length (file_cells tape room.laid)) (map (raw_of both) l.extents)) (sym (held.lies path node room there e)))

  node_told : (i : ℕ) (e : Path × Node) → slice_get (fin.entries t.nodes) i ≡ Some e → file_told.told_of both name (fin.keys t.nodes) e ≡ told_node both name files (fin.keys t.nodes) (line e)
  node_told i e is = ap (λ k. record (told_node both name files (fin.keys t.nodes) (line e)) { kind = k }) (kind_told e.0 e.1 (entry_get t.nodes i e.0 e.1 is))

  pub told_alike : file_told.told_in both name t.nodes ≡ map (told_node both name files (fin.keys (plain_of tape t).nodes)) (fin.entries (plain_of tape t).nodes)
  told_alike =
      map_both (file_told.told_of both name (fin.keys t.nodes)) (told_node both name files (fin.keys t.nodes)) line (fin.entries t.nodes) node_told
      ∙ ap (map (told_node both name files (fin.keys t.nodes))) (sym (plain_entries tape t.nodes))
      ∙ ap (λ keys. map (told_node both name files keys) (fin.entries (plain_of tape t).nodes)) (sym keys_are)

-- the index of what is held is that of what stands
module _ (tape : Tape) (g : Given) (on : Bool) (st : Standing) (s : Stocked) (i : IsStock tape g on st s) (at : Moment) where
  abbrev index_now : ℕ → Part → ℕ → Option ℕ → Index
  index_now generation part pos back = index_at g.mounted st.tree st.files generation at part pos back

  -- the nodes that are told of the tree are those that the space tells
  pub nodes_are : file_told.told_nodes (letters g.mounted) s.tree ≡ space.told_nodes g.mounted st.tree st.files
  nodes_are = ap (λ name. file_told.told_in (letters g.mounted) name s.tree.nodes) i.name
      ∙ told_alike tape (letters g.mounted) (root_name g.mounted) st.files s.tree i.files
      ∙ ap (λ (t : plain.Tree). space.told_nodes g.mounted t st.files) i.plain

  index_told : (generation : ℕ) (part : Part) (end : ℕ) (back : Option ℕ)
      → index_of_tree (letters_of s.frame) (heading_of s.frame generation (letter_of (letters_of s.frame) part) end back at) s.frame.carried s.tree
      ≡ index_now generation part (end + 1) back
  index_told generation part end back =
      ap (λ (f : Frame). index_of_tree (letters_of f) (heading_of f generation (letter_of (letters_of f) part) end back at) f.carried s.tree) i.frame
      ∙ ap (λ nodes. record (index_at g.mounted (plain_of tape s.tree) st.files generation at part (end + 1) back) { nodes = nodes }) nodes_are
      ∙ ap (λ (t : plain.Tree). record (index_now generation part (end + 1) back) { lock = told_lock t.lock; highest = t.highest }) i.plain

  -- the text of a sync's index is the one that the space tells
  pub text_is : canon (sync_index s.frame s.tree s.layout.ends.dp at) ≡ sync_text g st at
  text_is = ap canon (index_told (s.frame.generation + 1) Dp s.layout.ends.dp s.frame.last_dp
      ∙ ap (λ (f : Frame). index_now (f.generation + 1) Dp (s.layout.ends.dp + 1) f.last_dp) i.frame
      ∙ ap (λ (p : Plan). index_now (st.space.newest + 1) Dp (p.ends.dp + 1) st.space.last_dp) i.layout)

  -- that of a close, for an index of the data partition
  pub close_text_is : (generation : ℕ) (back : Option ℕ)
      → canon (close_index s.frame s.tree generation back s.layout.ends.ip at) ≡ canon (index_now generation Ip (st.space.ends.ip + 1) back)
  close_text_is generation back = ap canon (index_told generation Ip s.layout.ends.ip back
      ∙ ap (λ (p : Plan). index_now generation Ip (p.ends.ip + 1) back) i.layout)
