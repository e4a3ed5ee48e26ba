-- What overlays and lengths leave of a tree.
use Rattle.std.proofs.Common.{◌≡◌, ◌≢◌, ℕ, ◌<◌, ◌≤◌, ◌^◌, true, false, cond, List, length, Some, sym, ap, ◌∙◌, refl, subst, arith, eqb, ⊎_elim, Result, Ok, Err, OnOk}
use Rattle.std.specs.Option.{option_map}
use Rattle.std.specs.FinMap as fin
use Rattle.std.proofs.lemmas.Bool.Decides.{nat_tests}
use Rattle.std.proofs.lemmas.List.FromFn.{length-map-range_with_len}
use Rattle.tape_types.specs.declared.moments.Moment.{Moment}
use Rattle.tape_types.specs.declared.cartridges.Extent.{Extent}
use Rattle.tape_types.specs.declared.cartridges.Part.{Part}
use Rattle.index_model.specs.Names.{IsVolumeName}
use Rattle.plain_tree.specs.declared.nodes.Node as plain_node
use Rattle.plain_tree.specs.declared.nodes.Kind.TheVariants as plain_kinds
use Rattle.plain_tree.specs.Cells as cells
use Rattle.plain_tree.specs.Cells.{Cell}
use Rattle.plain_tree.specs.Tree as plain
use Rattle.plain_tree.specs.Valid.{IsValid}
use Rattle.plain_tree.proofs.Validity.{file_keeps}
use Rattle.tape_types.specs.declared.texts.NoMemory.{NoMemory}
use Rattle.extent_map.specs.Cells.{Tape, cell_at, cells_of, file_cells}
use Rattle.extent_map.specs.Laid.{Laid, Room, IsLaid, overlaid, resized}
use Rattle.extent_map.proofs.LawLemmas.{overlays_write, lengths_truncate}
use Rattle.file_tree.specs.declared.nodes.Node.{Node}
use Rattle.file_tree.specs.declared.nodes.HeldKind.{HeldKind}
use Rattle.file_tree.specs.declared.nodes.HeldKind.TheVariants as kinds
use Rattle.file_tree.specs.Tree.{Nodes, FileTree, number_at, StandsAt, HasExtents, HasLaid, plain_kind_of, plain_node_of, plain_nodes, plain_of}
use Rattle.file_tree.specs.declared.changes.NodeRoom.TheVariants as rooms
use Rattle.file_tree.specs.Changes.{IsChangedAt, LiesNow, IsRelaid, relaid_as, IsRoomier, roomier_as, KeepsLaid, HasRoom, kind_has_room, CanOverlay, can_overlay}
use Rattle.file_tree.specs.Valid.{IsFileOf, AreFilesOf, NumbersDiffer, AreFit, IsGood}
use Rattle.file_tree.specs.Blocks.{TreeStandsIn, AddsNoBlock, AddsBlocksOf}
use Rattle.file_tree.specs.Edits.{IsWritten, IsTruncated, IsLongAt, IsNear, OthersLie, AllLie}
use Rattle.name_tries.proofs.ItemLemmas.{some_same}
use Rattle.file_tree.proofs.PathLemmas.{get_here, get_other, is_or_not, number_is}
use Rattle.file_tree.proofs.PlainLemmas.{plain_get, plain_insert, inserted_same}
use Rattle.file_tree.proofs.TreeLemmas.{same_tree}
use Rattle.file_tree.proofs.EditLemmas.{change_numbers, change_plain, change_others_both, change_differ, change_files}
use Rattle.file_tree.proofs.BlockLemmas.{all_lie_adds, overlay_adds as adds_overlay, length_adds as adds_length}
use Rattle.file_tree.proofs.FitLemmas.{fit_change}

one_room : (a b : Room) → ◌≡◌ {A = HeldKind} (kinds.File a) (kinds.File b) → a ≡ b
one_room a b e = cc

-- the change of a file, opened
relaid : (change : Laid → Laid) (at : Moment) (before next : Node) (room : Room) → before.kind ≡ kinds.File room → IsRelaid change at before next → LiesNow at before next (change room.laid)
relaid change at before next room is done = subst (relaid_as change at before next) is done

-- its cells in the plain tree
plain_relaid : (tape : Tape) (g : List Cell → List Cell) (at : Moment) (before next : Node) (room : Room) (laid : Laid) → before.kind ≡ kinds.File room → LiesNow at before next laid → file_cells tape laid ≡ g (file_cells tape room.laid)
    → plain_node_of tape next ≡ plain.file_changed g at (plain_node_of tape before)
plain_relaid tape g at before next room laid is done cells_are =
    ap (plain_node_of tape) done.is
    ∙ ap (λ c. plain.touched at (record { uid = before.uid; times = before.times; readonly = before.readonly; keys = before.keys.map; kind = plain_kinds.File c })) (ap (file_cells tape) done.lies ∙ cells_are)
    ∙ sym (opened (plain_node_of tape before) (file_cells tape room.laid) (ap (plain_kind_of tape) is))
  where
    opened : (n : plain_node.Node) (c : List Cell) → n.kind ≡ plain_kinds.File c → plain.file_changed g at n ≡ plain.touched at (record n { kind = plain_kinds.File (g c) })
    opened n c e = rw e refl

module _ (t next : FileTree) (good : IsGood t) (file : ℕ) (at : Moment) (room : Room) (h : HasExtents t.nodes file room) (change : Laid → Laid)
    (ch : IsChangedAt t.nodes next.nodes file (λ a b. IsRelaid change at a b)) (highest : next.highest ≡ t.highest) (state : next.lock ≡ t.lock) (size : next.block_size ≡ t.block_size) where
  one : h.path ≡ ch.path
  one = ch.only h.path (number_is t.nodes h.path h.node h.there ∙ ap (λ n. Some n) h.is)

  same : h.node ≡ ch.old
  same = some_same h.node ch.old (sym h.there ∙ ap (fin.get t.nodes) one ∙ ch.there)

  kind_is : ch.old.kind ≡ kinds.File room
  kind_is = ap (λ (n : Node). n.kind) (sym same) ∙ h.file

  done : LiesNow at ch.old ch.new (change room.laid)
  done = relaid change at ch.old ch.new room kind_is ch.changed

  pub was_file : IsFileOf t.block_size room.laid
  was_file = good.files h.path h.node room h.there h.file

  new_file : (r : Room) → (change room.laid).block_size ≡ t.block_size → ch.new.kind ≡ kinds.File r → IsFileOf t.block_size r.laid
  new_file r same_size is =
      let e : done.room ≡ r = one_room done.room r (sym (ap (λ (n : Node). n.kind) done.is) ∙ is) in
      subst (λ (r : Room). IsFileOf t.block_size r.laid) e (record { size = ap (λ (f : Laid). f.block_size) done.lies ∙ same_size; lies = subst IsLaid (sym done.lies) done.good })

  -- all numbers stand where they did after a file is laid anew
  pub relaid_numbers : (path : List (List ℕ)) (n : ℕ) → StandsAt t path n → StandsAt next path n
  relaid_numbers path n stands = change_numbers t.nodes next.nodes file _ ch path ∙ stands

  -- all other files lie as they did after one is laid anew
  pub relaid_others : OthersLie file t next
  relaid_others k apart f = change_others_both t.nodes next.nodes file _ ch k f apart

  pub relaid_differ : NumbersDiffer next.nodes
  relaid_differ = change_differ t.nodes next.nodes file _ ch good.differ

  pub was_laid : HasLaid t.nodes file room.laid
  was_laid = record { path = h.path; node = h.node; there = h.there; is = h.is; room = room; file = h.file; lies = refl }

  relaid_fit : AreFit next.nodes
  relaid_fit = fit_change t.nodes next.nodes file _ ch good.fit (λ text link. let wrong : kinds.File done.room ≡ kinds.Link text = sym (ap (λ (n : Node). n.kind) done.is) ∙ link in cc) (ap (λ (n : Node). n.keys) done.is)

  -- a file that is laid anew lies as the change says
  pub relaid_lies : (f : Laid) → HasLaid t.nodes file f → HasLaid next.nodes file (change f)
  relaid_lies f has =
      let path_is : has.path ≡ ch.path = ch.only has.path (number_is t.nodes has.path has.node has.there ∙ ap (λ n. Some n) has.is) in
      let node_is : has.node ≡ ch.old = some_same has.node ch.old (sym has.there ∙ ap (fin.get t.nodes) path_is ∙ ch.there) in
      let room_is : has.room ≡ room = one_room has.room room (sym has.file ∙ ap (λ (n : Node). n.kind) node_is ∙ kind_is) in
      record {
        path = ch.path;
        node = ch.new;
        there = ap (λ m. fin.get m ch.path) ch.now ∙ get_here t.nodes ch.path ch.new;
        is = ch.kept ∙ ch.is;
        room = done.room;
        file = ap (λ (n : Node). n.kind) done.is;
        lies = done.lies ∙ ap (λ (r : Room). change r.laid) (sym room_is) ∙ ap change has.lies;
      }

  pub relaid_plain : (tape : Tape) (g : List Cell → List Cell) → file_cells tape (change room.laid) ≡ g (file_cells tape room.laid) → (path : List (List ℕ)) → StandsAt t path file
      → plain_of tape next ≡ record (plain_of tape t) { nodes = plain.changed_at (plain.file_changed g at) path (plain_nodes tape t.nodes) }
  relaid_plain tape g cells_are path stands =
      same_tree (plain_of tape next) (record (plain_of tape t) { nodes = plain.changed_at (plain.file_changed g at) path (plain_nodes tape t.nodes) }) highest state
      (change_plain t.nodes next.nodes file (λ a b. IsRelaid change at a b) ch tape (plain.file_changed g at) (plain_relaid tape g at ch.old ch.new room (change room.laid) kind_is done cells_are)
      ∙ ap (λ p. plain.changed_at (plain.file_changed g at) p (plain_nodes tape t.nodes)) (sym (ch.only path stands)))

  pub relaid_good : ((tape : Tape) → (g : List Cell → List Cell) × (file_cells tape (change room.laid) ≡ g (file_cells tape room.laid))) → (change room.laid).block_size ≡ t.block_size
      → next.name ≡ t.name → ((part : Part) (pos : ℕ) → TreeStandsIn next part pos → pos ≤ 2 ^ 62) → IsGood next
  relaid_good cells_are same_size name near = record {
    some_block = subst (λ n. 1 ≤ n) (sym size) good.some_block;
    small_block = subst (λ n. n < 2 ^ 32) (sym size) good.small_block;
    differ = relaid_differ;
    volume = subst IsVolumeName (sym name) good.volume;
    fit = relaid_fit;
    near = near;
    valid = λ tape. subst (λ (p : plain.Tree). IsValid p) (sym (relaid_plain tape (cells_are tape).0 (cells_are tape).1 h.path (number_is t.nodes h.path h.node h.there ∙ ap (λ n. Some n) h.is)))
        (file_keeps (cells_are tape).0 at h.path (plain_nodes tape t.nodes) t.highest (good.valid tape));
    files = subst (λ n. AreFilesOf n next.nodes) (sym size) (change_files t.nodes next.nodes file _ ch t.block_size good.files (λ r is. new_file r same_size is));
  }

-- ---- an overlay

module _ (t next : FileTree) (good : IsGood t) (file : ℕ) (at : Moment) (room : Room) (h : HasExtents t.nodes file room) (new : Extent)
    (ch : IsChangedAt t.nodes next.nodes file (λ a b. IsRelaid (λ laid. overlaid laid new) at a b)) (highest : next.highest ≡ t.highest) (state : next.lock ≡ t.lock) (size : next.block_size ≡ t.block_size) where
  was : IsFileOf t.block_size room.laid
  was = was_file t next good file at room h (λ laid. overlaid laid new) ch highest state size

  written : (tape : Tape) → file_cells tape (overlaid room.laid new) ≡ cells.written (file_cells tape room.laid) new.offset (cells_of tape t.block_size new)
  written tape = overlays_write tape room.laid new was.lies ∙ ap (λ n. cells.written (file_cells tape room.laid) new.offset (cells_of tape n new)) was.size

  -- an overlay writes the new extent's bytes into the file
  pub overlay_writes : IsWritten file new at t next
  overlay_writes tape path stands = relaid_plain t next good file at room h (λ laid. overlaid laid new) ch highest state size tape (λ c. cells.written c new.offset (cells_of tape t.block_size new)) (written tape) path stands

  -- an overlay adds only the new extent's blocks
  pub overlay_adds : AddsBlocksOf new t next
  overlay_adds = adds_overlay t next file room.laid new (relaid_differ t next good file at room h (λ laid. overlaid laid new) ch highest state size) (relaid_others t next good file at room h (λ laid. overlaid laid new) ch highest state size)
      (was_laid t next good file at room h (λ laid. overlaid laid new) ch highest state size) was.lies was.size
      (relaid_lies t next good file at room h (λ laid. overlaid laid new) ch highest state size room.laid (was_laid t next good file at room h (λ laid. overlaid laid new) ch highest state size))

  -- an overlay leaves a good tree good
  pub overlay_good : next.name ≡ t.name → IsNear t.block_size new → IsGood next
  overlay_good name near = relaid_good t next good file at room h (λ laid. overlaid laid new) ch highest state size (λ tape. (λ c. cells.written c new.offset (cells_of tape t.block_size new), written tape)) was.size name
      (λ part pos k. ⊎_elim (λ old. good.near part pos old) (λ this. near part pos this) (overlay_adds part pos k))

-- ---- a length

-- a file has as many cells as its length
pub long_as : (tape : Tape) (f : Laid) → length (file_cells tape f) ≡ f.length
long_as tape f = length-map-range_with_len (cell_at tape f.block_size f.extents) 0 f.length

at_path : (tape : Tape) (m : Nodes) (path : List (List ℕ)) (size : ℕ) → IsLongAt m path size → length (plain.cells_at (plain_nodes tape m) path) ≡ size
at_path tape m path size long = opened (plain_nodes tape m) (plain_node_of tape long.node) (file_cells tape long.room.laid) (plain_get tape m path ∙ ap (option_map (plain_node_of tape)) long.there) (ap (plain_kind_of tape) long.file) ∙ long_as tape long.room.laid ∙ long.long
  where
    opened : (m : plain.Nodes) (n : plain_node.Node) (c : List Cell) → fin.get m path ≡ Some n → n.kind ≡ plain_kinds.File c → length (plain.cells_at m path) ≡ length c
    opened m n c is e = rw (is, e) refl

-- the length that a file has changes nothing
pub same_length : (t : FileTree) (file n : ℕ) (at : Moment) → ((path : List (List ℕ)) → StandsAt t path file → IsLongAt t.nodes path n) → IsTruncated file n at t t
same_length t file n at long tape path stands =
    sym (ap (λ b. cond b (plain_of tape t) (record (plain_of tape t) { nodes = plain.changed_at (plain.file_changed (λ c. cells.resized c n) at) path (plain_nodes tape t.nodes) }))
    (eq_true n (length (plain.cells_at (plain_nodes tape t.nodes) path)) (sym (at_path tape t.nodes path n (long path stands)))))
  where
    eq_true : (a b : ℕ) → a ≡ b → eqb a b ≡ true
    eq_true a b e = grind (arith, nat_tests)

module _ (t next : FileTree) (good : IsGood t) (file : ℕ) (at : Moment) (room : Room) (h : HasExtents t.nodes file room) (n : ℕ)
    (ch : IsChangedAt t.nodes next.nodes file (λ a b. IsRelaid (λ laid. resized laid n) at a b)) (highest : next.highest ≡ t.highest) (state : next.lock ≡ t.lock) (size : next.block_size ≡ t.block_size) where
  before_file : IsFileOf t.block_size room.laid
  before_file = was_file t next good file at room h (λ laid. resized laid n) ch highest state size

  truncated : (tape : Tape) → file_cells tape (resized room.laid n) ≡ cells.resized (file_cells tape room.laid) n
  truncated tape = lengths_truncate tape room.laid n before_file.lies

  -- a new length truncates the file
  pub length_truncates : (present : ℕ) → ((path : List (List ℕ)) → StandsAt t path file → IsLongAt t.nodes path present) → n ≢ present → IsTruncated file n at t next
  length_truncates present long differ tape path stands =
      relaid_plain t next good file at room h (λ laid. resized laid n) ch highest state size tape (λ c. cells.resized c n) (truncated tape) path stands
      ∙ sym (ap (λ b. cond b (plain_of tape t) (record (plain_of tape t) { nodes = plain.changed_at (plain.file_changed (λ c. cells.resized c n) at) path (plain_nodes tape t.nodes) }))
      (eq_false n (length (plain.cells_at (plain_nodes tape t.nodes) path)) (λ e. differ (e ∙ at_path tape t.nodes path present (long path stands)))))
    where
      eq_false : (a b : ℕ) → a ≢ b → eqb a b ≡ false
      eq_false a b e = grind (arith, nat_tests)

  -- a new length adds no block
  pub length_adds : AddsNoBlock t next
  length_adds = adds_length t next file n room.laid (relaid_differ t next good file at room h (λ laid. resized laid n) ch highest state size) (relaid_others t next good file at room h (λ laid. resized laid n) ch highest state size)
      (was_laid t next good file at room h (λ laid. resized laid n) ch highest state size)
      (relaid_lies t next good file at room h (λ laid. resized laid n) ch highest state size room.laid (was_laid t next good file at room h (λ laid. resized laid n) ch highest state size))

  -- a new length leaves a good tree good
  pub length_good : next.name ≡ t.name → IsGood next
  length_good name = relaid_good t next good file at room h (λ laid. resized laid n) ch highest state size (λ tape. (λ c. cells.resized c n, truncated tape)) before_file.size name (λ part pos k. good.near part pos (length_adds part pos k))

-- what a file's new extents are, where its length is another
pub resized_lies : (m : Nodes) (file n present : ℕ) (laid f : Laid) → HasLaid m file f → n ≢ present → laid.length ≡ present → f ≡ resized laid n → HasLaid m file (cond (eqb n laid.length) laid (resized laid n))
resized_lies m file n present laid f has differ long is =
    subst (λ g. HasLaid m file g) (is ∙ sym (ap (λ b. cond b laid (resized laid n)) (eq_false n laid.length (λ e. differ (e ∙ long))))) has
  where
    eq_false : (a b : ℕ) → a ≢ b → eqb a b ≡ false
    eq_false a b e = grind (arith, nat_tests)

-- the length of a file is what is read of it
pub long_is : (m : Nodes) (file present : ℕ) (laid : Laid) → HasLaid m file laid → ((path : List (List ℕ)) → number_at m path ≡ Some file → IsLongAt m path present) → laid.length ≡ present
long_is m file present laid has long =
    let at = long has.path (number_is m has.path has.node has.there ∙ ap (λ n. Some n) has.is) in
    let node_is : has.node ≡ at.node = some_same has.node at.node (sym has.there ∙ at.there) in
    let room_is : has.room ≡ at.room = one_room has.room at.room (sym has.file ∙ ap (λ (n : Node). n.kind) node_is ∙ at.file) in
    ap (λ (f : Laid). f.length) (sym has.lies) ∙ ap (λ (r : Room). r.laid.length) room_is ∙ at.long

-- ---- room for one more extent

roomier_plain : (tape : Tape) (a b : Node) → IsRoomier rooms.Extent a b → plain_node_of tape b ≡ plain_node_of tape a
roomier_plain tape a b is = by a.kind refl (is)
  where
    by : (k : HeldKind) → a.kind ≡ k → IsRoomier rooms.Extent a b → plain_node_of tape b ≡ plain_node_of tape a
    by kinds.Dir e r = ap (plain_node_of tape) (subst (roomier_as a b) e r)
    by (kinds.Link text) e r = ap (plain_node_of tape) (subst (roomier_as a b) e r)
    by (kinds.File room) e r =
        let keeps : KeepsLaid a b room.laid = subst (roomier_as a b) e r in
        ap (plain_node_of tape) keeps.is ∙ ap (λ (f : Laid). record { uid = a.uid; times = a.times; readonly = a.readonly; keys = a.keys.map; kind = plain_kinds.File (file_cells tape f) }) keeps.lies
        ∙ ap (λ k. record { uid = a.uid; times = a.times; readonly = a.readonly; keys = a.keys.map; kind = k }) (sym (ap (plain_kind_of tape) e))

module _ (t next : FileTree) (good : IsGood t) (file : ℕ) (Q : Node → Type 0) (ch : IsChangedAt t.nodes next.nodes file (λ a b. IsRoomier rooms.Extent a b × Q b)) (highest : next.highest ≡ t.highest) (state : next.lock ≡ t.lock) (size : next.block_size ≡ t.block_size) where
  same_nodes_plain : (tape : Tape) → plain_nodes tape next.nodes ≡ plain_nodes tape t.nodes
  same_nodes_plain tape = ap (plain_nodes tape) ch.now ∙ plain_insert tape t.nodes ch.path ch.new ∙ ap (fin.insert (plain_nodes tape t.nodes) ch.path) (roomier_plain tape ch.old ch.new ch.changed.0)
      ∙ inserted_same (plain_nodes tape t.nodes) ch.path (plain_node_of tape ch.old) (plain_get tape t.nodes ch.path ∙ ap (option_map (plain_node_of tape)) ch.there)

  -- memory for more of a node leaves the plain tree as it was
  pub room_plain : (tape : Tape) → plain_of tape next ≡ plain_of tape t
  room_plain tape = same_tree (plain_of tape next) (plain_of tape t) highest state (same_nodes_plain tape)

  -- memory for more of a node leaves the numbers where they stood
  pub room_numbers : (path : List (List ℕ)) (n : ℕ) → StandsAt t path n → StandsAt next path n
  room_numbers path n stands = change_numbers t.nodes next.nodes file _ ch path ∙ stands

  -- the file that is changed lies as it did
  was_laid_so : (room : Room) → ch.new.kind ≡ kinds.File room → (old : Room) × (ch.old.kind ≡ kinds.File old) × (room.laid ≡ old.laid)
  was_laid_so room is = by ch.old.kind refl ch.changed.0
    where
      by : (k : HeldKind) → ch.old.kind ≡ k → IsRoomier rooms.Extent ch.old ch.new → (old : Room) × (ch.old.kind ≡ kinds.File old) × (room.laid ≡ old.laid)
      by kinds.Dir e r = let wrong : kinds.Dir ≡ kinds.File room = sym e ∙ ap (λ (n : Node). n.kind) (sym (subst (roomier_as ch.old ch.new) e r)) ∙ is in cc
      by (kinds.Link text) e r = let wrong : kinds.Link text ≡ kinds.File room = sym e ∙ ap (λ (n : Node). n.kind) (sym (subst (roomier_as ch.old ch.new) e r)) ∙ is in cc
      by (kinds.File old) e r =
          let keeps : KeepsLaid ch.old ch.new old.laid = subst (roomier_as ch.old ch.new) e r in
          (old, e, ap (λ (r : Room). r.laid) (one_room room keeps.room (sym is ∙ ap (λ (n : Node). n.kind) keeps.is)) ∙ keeps.lies)

  still_laid : (old : Room) → ch.old.kind ≡ kinds.File old → (room : Room) × (ch.new.kind ≡ kinds.File room) × (room.laid ≡ old.laid)
  still_laid old e =
      let keeps : KeepsLaid ch.old ch.new old.laid = subst (roomier_as ch.old ch.new) e ch.changed.0 in
      (keeps.room, ap (λ (n : Node). n.kind) keeps.is, keeps.lies)

  room_forth : (k : ℕ) (f : Laid) → HasLaid t.nodes k f → HasLaid next.nodes k f
  room_forth k f h = ⊎_elim
      (λ (e : h.path ≡ ch.path).
      let node_is : h.node ≡ ch.old = some_same h.node ch.old (sym h.there ∙ ap (fin.get t.nodes) e ∙ ch.there) in
      let now = still_laid h.room (ap (λ (n : Node). n.kind) (sym node_is) ∙ h.file) in
      record {
        path = ch.path;
        node = ch.new;
        there = ap (λ m. fin.get m ch.path) ch.now ∙ get_here t.nodes ch.path ch.new;
        is = ch.kept ∙ ap (λ (n : Node). n.number) (sym node_is) ∙ h.is;
        room = now.0;
        file = now.1;
        lies = now.2 ∙ h.lies;
      })
      (λ apart. record {
        path = h.path;
        node = h.node;
        there = ap (λ m. fin.get m h.path) ch.now ∙ get_other t.nodes ch.path h.path ch.new apart ∙ h.there;
        is = h.is;
        room = h.room;
        file = h.file;
        lies = h.lies;
      })
      (is_or_not ch.path h.path)

  room_back : (k : ℕ) (f : Laid) → HasLaid next.nodes k f → HasLaid t.nodes k f
  room_back k f h = ⊎_elim
      (λ (e : h.path ≡ ch.path).
      let node_is : h.node ≡ ch.new = some_same h.node ch.new (sym h.there ∙ ap (fin.get next.nodes) e ∙ ap (λ m. fin.get m ch.path) ch.now ∙ get_here t.nodes ch.path ch.new) in
      let was = was_laid_so h.room (ap (λ (n : Node). n.kind) (sym node_is) ∙ h.file) in
      record {
        path = ch.path;
        node = ch.old;
        there = ch.there;
        is = sym ch.kept ∙ ap (λ (n : Node). n.number) (sym node_is) ∙ h.is;
        room = was.0;
        file = was.1;
        lies = sym was.2 ∙ h.lies;
      })
      (λ apart. record {
        path = h.path;
        node = h.node;
        there = sym (get_other t.nodes ch.path h.path ch.new apart) ∙ ap (λ m. fin.get m h.path) (sym ch.now) ∙ h.there;
        is = h.is;
        room = h.room;
        file = h.file;
        lies = h.lies;
      })
      (is_or_not ch.path h.path)

  -- memory for more of a node leaves all files as they lay
  pub room_lies : AllLie t next
  room_lies k f = (room_forth k f, room_back k f)

  -- a link stays what it is
  was_link : (text : List ℕ) → ch.new.kind ≡ kinds.Link text → ch.old.kind ≡ kinds.Link text
  was_link text is = by ch.old.kind refl ch.changed.0
    where
      by : (k : HeldKind) → ch.old.kind ≡ k → IsRoomier rooms.Extent ch.old ch.new → ch.old.kind ≡ kinds.Link text
      by kinds.Dir e r = ap (λ (n : Node). n.kind) (sym (subst (roomier_as ch.old ch.new) e r)) ∙ is
      by (kinds.Link text) e r = ap (λ (n : Node). n.kind) (sym (subst (roomier_as ch.old ch.new) e r)) ∙ is
      by (kinds.File old) e r =
          let keeps : KeepsLaid ch.old ch.new old.laid = subst (roomier_as ch.old ch.new) e r in
          let wrong : kinds.File keeps.room ≡ kinds.Link text = sym (ap (λ (n : Node). n.kind) keeps.is) ∙ is in cc

  same_keys : (k : HeldKind) → ch.old.kind ≡ k → IsRoomier rooms.Extent ch.old ch.new → ch.new.keys ≡ ch.old.keys
  same_keys kinds.Dir e r = ap (λ (n : Node). n.keys) (subst (roomier_as ch.old ch.new) e r)
  same_keys (kinds.Link text) e r = ap (λ (n : Node). n.keys) (subst (roomier_as ch.old ch.new) e r)
  same_keys (kinds.File old) e r =
      let keeps : KeepsLaid ch.old ch.new old.laid = subst (roomier_as ch.old ch.new) e r in
      ap (λ (n : Node). n.keys) keeps.is

  pub room_adds : AddsNoBlock t next
  room_adds = all_lie_adds t next room_lies

  -- memory for more of a node leaves a good tree good
  pub room_good : next.name ≡ t.name → IsGood next
  room_good name = record {
    some_block = subst (λ n. 1 ≤ n) (sym size) good.some_block;
    small_block = subst (λ n. n < 2 ^ 32) (sym size) good.small_block;
    differ = change_differ t.nodes next.nodes file _ ch good.differ;
    volume = subst IsVolumeName (sym name) good.volume;
    fit = fit_change t.nodes next.nodes file _ ch good.fit was_link (same_keys ch.old.kind refl ch.changed.0);
    near = λ part pos k. good.near part pos (room_adds part pos k);
    valid = λ tape. subst (λ (p : plain.Tree). IsValid p) (sym (room_plain tape)) (good.valid tape);
    files = subst (λ n. AreFilesOf n next.nodes) (sym size) (change_files t.nodes next.nodes file _ ch t.block_size good.files
        (λ room is. let was = was_laid_so room is in subst (λ f. IsFileOf t.block_size f) (sym was.2) (good.files ch.path ch.old was.0 ch.there was.1)));
  }

-- the room that was made is that of the file
pub made_room : (m next : Nodes) (file : ℕ) (r : Result Unit NoMemory) (ch : IsChangedAt m next file (λ a b. IsRoomier rooms.Extent a b × OnOk r (HasRoom rooms.Extent b))) → OnOk r ((room : Room) → HasExtents next file room → 2 ≤ room.spare)
made_room m next file (Ok x) ch = λ room h.
    let path_is : h.path ≡ ch.path = ch.only h.path (sym (change_numbers m next file _ ch h.path) ∙ number_is next h.path h.node h.there ∙ ap (λ n. Some n) h.is) in
    let node_is : h.node ≡ ch.new = some_same h.node ch.new (sym h.there ∙ ap (fin.get next) path_is ∙ ap (λ l. fin.get l ch.path) ch.now ∙ get_here m ch.path ch.new) in
    subst kind_has_room (ap (λ (n : Node). n.kind) (sym node_is) ∙ h.file) ch.changed.1
made_room m next file (Err e) ch = ch.changed.1

-- the node with the file's number takes the extent
pub can_write : (m : Nodes) (file : ℕ) (room : Room) (h : HasExtents m file room) (new : Extent) → CanOverlay room new → ((p q : List (List ℕ)) (n : ℕ) → number_at m p ≡ Some n → number_at m q ≡ Some n → p ≡ q)
    → (path : List (List ℕ)) (node : Node) → fin.get m path ≡ Some node → node.number ≡ file → can_overlay new node.kind
can_write m file room h new can apart path node there is =
    let path_is : path ≡ h.path = apart path h.path file (number_is m path node there ∙ ap (λ n. Some n) is) (number_is m h.path h.node h.there ∙ ap (λ n. Some n) h.is) in
    let node_is : node ≡ h.node = some_same node h.node (sym there ∙ ap (fin.get m) path_is ∙ h.there) in
    subst (can_overlay new) (sym (ap (λ (n : Node). n.kind) node_is ∙ h.file)) can
