-- That the index that tells a tree is valid, and that the tree comes back of it.
use Rattle.std.proofs.Common.{Option, ◌≡◌, ◌≢◌, ◌⊎◌, ℕ, zero, suc, ◌+◌, ◌/◌, ◌<◌, ◌≤◌, ◌^◌, true, false, cond, eqb, ltb, leb, List, [], ◌∷◌, ◌++◌, length, map, fold, Some, None, sym, ap, ◌∙◌, refl, subst, arith, inl, inr, ⊎_elim}
use Rattle.std.specs.Option.{option_map}
use Rattle.std.specs.List.{AllByRecursion, filter, slice_get}
use Rattle.std.specs.FinMap as fin
use Rattle.std.proofs.lemmas.Bool.Decides.{nat_tests}
use Rattle.std.proofs.lemmas.List.{length-append, length-map, append-nil}
use Rattle.tape_types.specs.Bounds.{longest_file, most_nodes}
use Rattle.tape_types.specs.declared.cartridges.Extent.{Extent}
use Rattle.tape_types.specs.declared.cartridges.Part.{Part}
use Rattle.tape_types.specs.declared.cartridges.Part.TheVariants as parts
use Rattle.tape_types.proofs.NodeKeys.ListLaws.{map_back, found_in_list}
use Rattle.index_model.specs.declared.indexes.Index.{Index}
use Rattle.index_model.specs.declared.nodes.Node as told
use Rattle.index_model.specs.declared.nodes.RawExtent.{RawExtent}
use Rattle.index_model.specs.Extents.{IsExtent, IsKind, IsFileAt}
use Rattle.index_model.specs.Keys.{IsXattr}
use Rattle.index_model.specs.Names.{IsNodeName, IsVolumeName, AreNames}
use Rattle.index_model.specs.Places.{IsAt}
use Rattle.index_model.specs.Texts.{IsLetter}
use Rattle.index_model.specs.Valid.{IsFitVolume, IsValid}
use Rattle.extent_map.specs.Laid.{Laid, Room, AreLaid, cut, put_among}
use Rattle.extent_map.specs.Cells.{Tape}
use Rattle.extent_map.specs.Blocks.{SomeStandsIn, FileStandsIn}
use Rattle.extent_map.proofs.LaidLemmas.{laid_le}
use Rattle.file_tree.specs.declared.nodes.Node.{Node}
use Rattle.file_tree.specs.declared.nodes.HeldKind.{HeldKind}
use Rattle.file_tree.specs.declared.nodes.HeldKind.TheVariants as kinds
use Rattle.plain_tree.specs.Paths.{Name, Path}
use Rattle.file_tree.specs.Tree.{Nodes, FileTree, plain_kind_of, plain_node_of, plain_nodes, plain_of, whole}
use Rattle.file_tree.specs.Mounts.{Letters, part_of, extent_of, by_offset, laid_of, IsKindOf, IsNodeOf, IsPathOf, IsBuilt, IsOnVolume, EndsNear, CanMount}
use Rattle.file_tree.specs.Mounts.IsPathOf.{root, below}
use Rattle.file_tree.specs.Locks.{lock_of}
use Rattle.file_tree.specs.Told.{letter_of, raw_of, told_kind_of, name_or, told_of, told_nodes}
use Rattle.file_tree.specs.Valid.{IsFit, IsGood, IsFileOf}
use Rattle.file_tree.specs.Indexes.{TellsTree, AreLetters, without_room, as_told, IsSameTree, IndexesComeBack}
use Rattle.name_tries.proofs.ItemLemmas.{some_same}
use Rattle.file_tree.proofs.PathLemmas.{by_last, same_nodes}
use Rattle.file_tree.proofs.PlainLemmas.{plain_get, plain_len}
use Rattle.file_tree.proofs.RawLemmas.{nothing_cut}
use Rattle.file_tree.proofs.CarriedLemmas.{heard}
use Rattle.file_tree.proofs.ToldLemmas.{entry_get, get_entry, last_is}
use Rattle.file_tree.proofs.OrderLemmas as order
use Rattle.file_tree.proofs.AgreeLemmas.{told_agree, told_file}
use Rattle.file_tree.proofs.MountLemmas.{at_path, told_at, path_once}

-- ---- extents that are told and mounted again

part_back : (letters : Letters) (part : Part) → letters.0 ≢ letters.1 → part_of letters (letter_of letters part) ≡ part
part_back letters parts.Ip differ = ap (λ b. cond b parts.Ip parts.Dp) (eq_self letters.0)
  where
    eq_self : (n : ℕ) → eqb n n ≡ true
    eq_self n = grind (arith, nat_tests)
part_back letters parts.Dp differ = ap (λ b. cond b parts.Ip parts.Dp) (not_eq letters.1 letters.0 (λ e. differ (sym e)))
  where
    not_eq : (a b : ℕ) → a ≢ b → eqb a b ≡ false
    not_eq a b e = grind (arith, nat_tests)

extents_back : (letters : Letters) (es : List Extent) → letters.0 ≢ letters.1 → map (extent_of letters) (map (raw_of letters) es) ≡ es
extents_back letters [] differ = refl
extents_back letters (e ∷ es) differ =
    ap (λ p. (record { offset = e.offset; part = p; block = e.block; byte = e.byte; count = e.count }) ∷ map (extent_of letters) (map (raw_of letters) es)) (part_back letters e.part differ)
    ∙ ap (λ l. e ∷ l) (extents_back letters es differ)

-- extents that begin before another stay before it
all_before : (new : Extent) (es : List Extent) → AllByRecursion (λ (e : Extent). e.offset < new.offset) es → put_among new es ≡ es ++ new ∷ []
all_before new es before = ap (λ l. l ++ new ∷ filter (λ e. leb new.offset e.offset) es) (kept es before) ∙ ap (λ l. es ++ new ∷ l) (none es before)
  where
    kept : (es : List Extent) → AllByRecursion (λ (e : Extent). e.offset < new.offset) es → filter (λ e. ltb e.offset new.offset) es ≡ es
    kept [] before = refl
    kept (e ∷ es) before = ap (λ b. cond b (e ∷ filter (λ e. ltb e.offset new.offset) es) (filter (λ e. ltb e.offset new.offset) es)) (is_below e.offset new.offset before.0) ∙ ap (λ l. e ∷ l) (kept es before.1)
      where
        is_below : (a b : ℕ) → a < b → ltb a b ≡ true
        is_below a b h = grind (arith, nat_tests)

    none : (es : List Extent) → AllByRecursion (λ (e : Extent). e.offset < new.offset) es → filter (λ e. leb new.offset e.offset) es ≡ []
    none [] before = refl
    none (e ∷ es) before = ap (λ b. cond b (e ∷ filter (λ e. leb new.offset e.offset) es) (filter (λ e. leb new.offset e.offset) es)) (not_above e.offset new.offset before.0) ∙ none es before.1
      where
        not_above : (a b : ℕ) → a < b → leb b a ≡ false
        not_above a b h = grind (arith, nat_tests)

all_joined : (P : Extent → Type 0) (xs ys : List Extent) → AllByRecursion P xs → AllByRecursion P ys → AllByRecursion P (xs ++ ys)
all_joined P [] ys a b = b
all_joined P (x ∷ xs) ys a b = (a.0, all_joined P xs ys a.1 b)

all_raised : (low high : ℕ) (es : List Extent) → low ≤ high → AllByRecursion (λ (e : Extent). e.offset < low) es → AllByRecursion (λ (e : Extent). e.offset < high) es
all_raised low high [] le all = tt
all_raised low high (e ∷ es) le all = (omega (arith, le, all.0), all_raised low high es le all.1)

joined : (xs ys zs : List Extent) → (xs ++ ys) ++ zs ≡ xs ++ (ys ++ zs)
joined [] ys zs = refl
joined (x ∷ xs) ys zs = ap (λ l. x ∷ l) (joined xs ys zs)

sorted_on : (size from end : ℕ) (es done : List Extent) → AreLaid size from end es → AllByRecursion (λ (e : Extent). e.offset < from) done → fold (λ sorted e. put_among e sorted) done es ≡ done ++ es
sorted_on size from end [] done laid before = sym (append-nil done)
sorted_on size from end (e ∷ es) done laid before =
    ap (λ d. fold (λ sorted e. put_among e sorted) d es) (all_before e done (all_raised from e.offset done laid.0 before))
    ∙ sorted_on size (e.offset + e.count) end es (done ++ e ∷ []) laid.4
    (all_joined (λ (x : Extent). x.offset < e.offset + e.count) done (e ∷ []) (all_raised from (e.offset + e.count) done (omega (arith, laid.0)) before) (omega (arith, laid.1), tt))
    ∙ joined done (e ∷ []) es

-- a file that is told and mounted again lies as it did
told_lies : (letters : Letters) (size : ℕ) (laid : Laid) → letters.0 ≢ letters.1 → IsFileOf size laid → laid_of letters size laid.length (map (raw_of letters) laid.extents) ≡ laid
told_lies letters size laid differ file =
    ap (λ es. record { block_size = size; length = laid.length; extents = by_offset (cut laid.length es) }) (extents_back letters laid.extents differ)
    ∙ ap (λ es. record { block_size = size; length = laid.length; extents = by_offset es }) (nothing_cut laid.block_size 0 laid.length laid.length laid.extents file.lies.are_laid (omega arith))
    ∙ ap (λ es. record { block_size = size; length = laid.length; extents = es }) (sorted_on laid.block_size 0 laid.length laid.extents [] file.lies.are_laid tt)
    ∙ ap (λ n. record { block_size = n; length = laid.length; extents = laid.extents }) (sym file.size)

-- ---- nodes that are told and mounted again

module _ (letters : Letters) (t : FileTree) (good : IsGood t) where
  abbrev m : Nodes
  m = t.nodes

  abbrev nodes : List told.Node
  nodes = told_nodes letters t

  abbrev tell : (Path × Node) → told.Node
  tell = told_of letters t.name (fin.keys m)

  at_entry : (at : ℕ) (e : Path × Node) → slice_get (fin.entries m) at ≡ Some e → IsAt nodes at (tell e)
  at_entry = order.at_entry letters t.name m (fin.len (plain_nodes whole m)) t.highest (good.valid whole)

  entry_at : (at : ℕ) (node : told.Node) → IsAt nodes at node → (e : Path × Node) × (slice_get (fin.entries m) at ≡ Some e) × (node ≡ tell e)
  entry_at = order.entry_at letters t.name m (fin.len (plain_nodes whole m)) t.highest (good.valid whole)

  -- the path of the node at a place is that of the entry there
  path_told : (n at : ℕ) (p : Path) (node : Node) → length p ≡ n → slice_get (fin.entries m) at ≡ Some (p, node) → IsPathOf nodes at p
  path_told zero at [] node long is =
      let top = order.root_entry letters t.name m (fin.len (plain_nodes whole m)) t.highest (good.valid whole) in
      subst (λ k. IsPathOf nodes k []) (sym (order.root_place letters t.name m (fin.len (plain_nodes whole m)) t.highest (good.valid whole) at [] node is refl)) root
  path_told zero at (x ∷ p) node long is = absurd (omega (arith, long))
  path_told (suc n) at p node long is = ⊎_elim
      (λ (e : p ≡ []). absurd (omega (arith, ap length e, long)))
      (λ (more : (u : Path) × (x : Name) × (p ≡ u ++ x ∷ [])).
      let u = more.0 in
      let x = more.1 in
      let here : slice_get (fin.entries m) at ≡ Some (u ++ x ∷ [], node) = is ∙ ap (λ q. Some (q, node)) more.2 in
      let above = order.up letters t.name m (fin.len (plain_nodes whole m)) t.highest (good.valid whole) at u x node here in
      let shorter : length u ≡ n = omega (arith, long, ap length more.2, length-append u (x ∷ [])) in
      let way : IsPathOf nodes (tell (u ++ x ∷ [], node)).parent u = subst (λ k. IsPathOf nodes k u) (sym above.parent) (path_told n above.place u above.dir shorter above.is) in
      let named : (tell (u ++ x ∷ [], node)).name ≡ x = ap (name_or t.name) (last_is u x) in
      subst (IsPathOf nodes at) (ap (λ y. u ++ y ∷ []) named ∙ sym more.2) (below at (tell (u ++ x ∷ [], node)) u (omega (arith, above.before)) (at_entry at (u ++ x ∷ [], node) here) way))
      (by_last p)

  module _ (size : ℕ) (size_is : size ≡ t.block_size) (differ : letters.0 ≢ letters.1) (u : Nodes) (built : IsBuilt letters size nodes (length nodes) u) where
    kind_back : (kind kind2 : HeldKind) → IsKindOf letters size (told_kind_of letters kind) kind2 → ((room : Room) → kind ≡ kinds.File room → IsFileOf size room.laid) → without_room kind2 ≡ without_room kind
    kind_back kinds.Dir kind2 is file = ap without_room is
    kind_back (kinds.Link text) kind2 is file = ap without_room is
    kind_back (kinds.File room) kind2 is file = ap without_room is.1 ∙ ap (λ (f : Laid). kinds.File (record { laid = f; spare = 0 })) (is.2 ∙ told_lies letters size room.laid differ (file room refl))

    node_back : (p : Path) (n n2 : Node) → fin.get m p ≡ Some n → IsNodeOf letters size (tell (p, n)) n2 → as_told n2 ≡ as_told n
    node_back p n n2 there same = λ i. record {
      number = 0;
      uid = same.uid i;
      times = same.times i;
      readonly = same.readonly i;
      keys = record { map = keys_are i; spare = 0 };
      kind = kind_is i;
    }
      where
        keys_are : n2.keys.map ≡ n.keys.map
        keys_are = same.keys ∙ map_back n.keys.map

        kind_is : without_room n2.kind ≡ without_room n.kind
        kind_is = kind_back n.kind n2.kind same.kind (λ room is. subst (λ s. IsFileOf s room.laid) (sym size_is) (good.files p n room there is))

    there_again : (p : Path) (n : Node) → fin.get m p ≡ Some n → (n2 : Node) × (fin.get u p ≡ Some n2) × (as_told n2 ≡ as_told n)
    there_again p n there =
        let place = get_entry m p n there in
        let node = at_entry place.0 (p, n) place.1 in
        let found = at_path letters size nodes (length nodes) u built place.0 (tell (p, n)) p (Rattle.std.proofs.lemmas.Option.slice_get_within nodes place.0 (tell (p, n)) node) node (path_told (length p) place.0 p n refl place.1) in
        (found.0, found.1, node_back p n found.0 there found.3)

    was_there : (p : Path) (n2 : Node) → fin.get u p ≡ Some n2 → (n : Node) × (fin.get m p ≡ Some n)
    was_there p n2 there =
        let told = told_at letters size nodes (length nodes) u built p n2 there in
        let e = entry_at n2.number told.0 told.1 in
        let same : e.0.0 ≡ p = path_once nodes n2.number n2.number e.0.0 p refl (path_told (length e.0.0) n2.number e.0.0 e.0.1 refl e.1) told.2 in
        (e.0.1, ap (fin.get m) (sym same) ∙ entry_get m n2.number e.0.0 e.0.1 e.1)

    pub nodes_back : (p : Path) → option_map as_told (fin.get u p) ≡ option_map as_told (fin.get m p)
    nodes_back p = by (fin.get m p) refl
      where
        none : (o : Option Node) → fin.get u p ≡ o → fin.get m p ≡ None → option_map as_told (fin.get u p) ≡ None
        none None e is = ap (option_map as_told) e
        none (Some n2) e is = let was = was_there p n2 e in let wrong : None ≡ Some was.0 = sym is ∙ was.1 in cc

        by : (o : Option Node) → fin.get m p ≡ o → option_map as_told (fin.get u p) ≡ option_map as_told (fin.get m p)
        by None e = none (fin.get u p) refl e ∙ ap (option_map as_told) (sym e)
        by (Some n) e = let again = there_again p n e in ap (option_map as_told) again.1 ∙ ap (λ k. Some k) again.2 ∙ ap (option_map as_told) (sym e)

  -- ---- the index is valid

  name_told : (at : ℕ) (node : told.Node) → 0 < at → IsAt nodes at node → IsNodeName node.name
  name_told at node some is =
      let l = order.later letters t.name m (fin.len (plain_nodes whole m)) t.highest (good.valid whole) at node some is in
      subst IsNodeName (sym (ap (λ (n : told.Node). n.name) l.told_is ∙ ap (name_or t.name) (last_is l.u l.x)))
      ((good.fit (l.u ++ l.x ∷ []) l.n (entry_get m at (l.u ++ l.x ∷ []) l.n l.is)).named l.u l.x refl)

  root_told : (node : told.Node) → IsAt nodes 0 node → node.name ≡ t.name
  root_told node is =
      let top = order.root_entry letters t.name m (fin.len (plain_nodes whole m)) t.highest (good.valid whole) in
      ap (λ (n : told.Node). n.name) (some_same node (tell ([], top.0)) (sym is ∙ at_entry 0 ([], top.0) top.1))

  names_told : AreNames nodes
  names_told = record { volume = λ node is. subst IsVolumeName (sym (root_told node is)) good.volume; others = name_told }

  extents_told : (size low high : ℕ) (es : List Extent) → AreLetters letters → AreLaid size low high es → high ≤ longest_file → size < 2 ^ 32
      → ((part : Part) (pos : ℕ) → SomeStandsIn size es part pos → pos ≤ 2 ^ 62) → AllByRecursion IsExtent (map (raw_of letters) es)
  extents_told size low high [] are laid short small near = tt
  extents_told size low high (e ∷ es) are laid short small near =
      let most : e.offset + e.count ≤ high = laid_le size (e.offset + e.count) high es laid.4 in
      let first : e.block + (e.byte + 0) / size ≤ 2 ^ 62 = near e.part (e.block + (e.byte + 0) / size) (inl (record { byte = 0; within = omega (arith, laid.1); on = refl; here = refl })) in (
        record {
          offset = omega (arith, most, short);
          letter = letter_told e.part;
          block = omega (arith, first);
          byte = omega (arith, laid.2, small);
          count = omega (arith, most, short);
        },
        extents_told size (e.offset + e.count) high es are laid.4 short small (λ part pos h. near part pos (inr h)),
      )
    where
      letter_told : (part : Part) → IsLetter (letter_of letters part)
      letter_told parts.Ip = are.ip
      letter_told parts.Dp = are.dp

  kind_told : AreLetters letters → (p : Path) (n : Node) → fin.get m p ≡ Some n → IsKind (told_kind_of letters n.kind)
  kind_told are p n there = by n.kind refl
    where
      by : (k : HeldKind) → n.kind ≡ k → IsKind (told_kind_of letters k)
      by kinds.Dir e = tt
      by (kinds.Link text) e = (good.fit p n there).text text e
      by (kinds.File room) e =
          let file = good.files p n room there e in
          extents_told room.laid.block_size 0 room.laid.length room.laid.extents are file.lies.are_laid file.lies.can_be (omega (arith, file.size, good.small_block))
          (λ part pos h. good.near part pos (record { number = n.number; laid = room.laid; file = record { path = p; node = n; there = there; is = refl; room = room; file = e; lies = refl }; block = h }))

  all_told : AreLetters letters → (es : List (Path × Node)) → ((i : ℕ) (e : Path × Node) → slice_get es i ≡ Some e → IsKind (told_kind_of letters e.1.kind)) → AllByRecursion (λ (node : told.Node). IsKind node.kind) (map tell es)
  all_told are [] f = tt
  all_told are (e ∷ es) f = (f 0 e refl, all_told are es (λ i e is. f (suc i) e is))

  kinds_told : AreLetters letters → AllByRecursion (λ (node : told.Node). IsKind node.kind) nodes
  kinds_told are = all_told are (fin.entries m) (λ i e is. kind_told are e.0 e.1 (entry_get m i e.0 e.1 is))

  all_fit : (es : List (Path × Node)) → ((i : ℕ) (e : Path × Node) → slice_get es i ≡ Some e → IsFit e.0 e.1) → AllByRecursion (λ (node : told.Node). AllByRecursion IsXattr node.xattrs) (map tell es)
  all_fit [] f = tt
  all_fit (e ∷ es) f = (found_in_list IsXattr e.1.keys.map (f 0 e refl).keys, all_fit es (λ i e is. f (suc i) e is))

  xattrs_told : AllByRecursion (λ (node : told.Node). AllByRecursion IsXattr node.xattrs) nodes
  xattrs_told = all_fit (fin.entries m) (λ i e is. good.fit e.0 e.1 (entry_get m i e.0 e.1 is))

  count_told : length nodes ≤ most_nodes
  count_told =
      let few : fin.len (plain_nodes whole m) ≤ most_nodes = (good.valid whole).few in
      omega (arith, few, plain_len whole m, fin.len-entries m, length-map (fin.entries m) tell)

  pub told_valid : (index : Index) → AreLetters letters → TellsTree letters t index → IsFitVolume index → IsValid index
  told_valid index are tells volume = record {
    formed = record {
      volume = volume;
      count = subst (λ (l : List told.Node). length l ≤ most_nodes) (sym tells.nodes) count_told;
      order = subst Rattle.index_model.specs.Order.AreInOrder (sym tells.nodes) (order.told_in_order letters t good);
      names = subst AreNames (sym tells.nodes) names_told;
      xattrs = subst (λ (l : List told.Node). AllByRecursion (λ (node : told.Node). AllByRecursion IsXattr node.xattrs) l) (sym tells.nodes) xattrs_told;
      kinds = subst (λ (l : List told.Node). AllByRecursion (λ (node : told.Node). IsKind node.kind) l) (sym tells.nodes) (kinds_told are);
    };
    agrees = told_agree letters t good index tells.nodes tells.highest;
  }

  -- ---- the index can be mounted

  module _ (differ : letters.0 ≢ letters.1) where
    on_volume : (low high : ℕ) (es : List Extent) → AreLaid t.block_size low high es → AllByRecursion (IsOnVolume letters t.block_size) (map (raw_of letters) es)
    on_volume low high [] laid = tt
    on_volume low high (e ∷ es) laid = (λ some. (one_of e.part, laid.2), on_volume (e.offset + e.count) high es laid.4)
      where
        one_of : (part : Part) → (letter_of letters part ≡ letters.0) ⊎ (letter_of letters part ≡ letters.1)
        one_of parts.Ip = inl refl
        one_of parts.Dp = inr refl

    ends_near : (es : List Extent) → ((part : Part) (pos : ℕ) → SomeStandsIn t.block_size es part pos → pos ≤ 2 ^ 62) → AllByRecursion (EndsNear letters t.block_size) (map (raw_of letters) es)
    ends_near [] near = tt
    ends_near (e ∷ es) near = (
      λ part pos h. near part pos (inl (record { byte = h.byte; within = h.within; on = sym (part_back letters e.part differ) ∙ h.on; here = h.here })),
      ends_near es (λ part pos h. near part pos (inr h)),
    )

    record IsFileTold (raws : List RawExtent) : Type 0 where
      room : Room
      file : IsFileOf t.block_size room.laid
      near : (part : Part) (pos : ℕ) → FileStandsIn room.laid part pos → pos ≤ 2 ^ 62
      extents : map (raw_of letters) room.laid.extents ≡ raws

    file_told : (at bytes : ℕ) (raws : List RawExtent) → IsFileAt nodes at bytes raws → IsFileTold raws
    file_told at bytes raws f =
        let e = entry_at at f.node f.is in
        let file = told_file letters e.0.1.kind bytes raws (sym (ap (λ (n : told.Node). n.kind) e.2) ∙ f.file) in
        let there = entry_get m at e.0.0 e.0.1 e.1 in
        record {
          room = file.room;
          file = good.files e.0.0 e.0.1 file.room there file.is;
          near = λ part pos h. good.near part pos (record {
            number = e.0.1.number;
            laid = file.room.laid;
            file = record { path = e.0.0; node = e.0.1; there = there; is = refl; room = file.room; file = file.is; lies = refl };
            block = h;
          });
          extents = file.extents;
        }

    pub told_mounts : (index : Index) → TellsTree letters t index → IsValid index → CanMount index letters t.block_size
    told_mounts index tells valid = record {
      valid = valid;
      differ = differ;
      some_block = good.some_block;
      on_volume = λ at bytes raws f.
          let g = file_told at bytes raws (subst (λ (l : List told.Node). IsFileAt l at bytes raws) tells.nodes f) in
          subst (λ rs. AllByRecursion (IsOnVolume letters t.block_size) rs) g.extents (on_volume 0 g.room.laid.length g.room.laid.extents (subst (λ n. AreLaid n 0 g.room.laid.length g.room.laid.extents) g.file.size g.file.lies.are_laid));
      near = λ at bytes raws f.
          let g = file_told at bytes raws (subst (λ (l : List told.Node). IsFileAt l at bytes raws) tells.nodes f) in
          subst (λ rs. AllByRecursion (EndsNear letters t.block_size) rs) g.extents (ends_near g.room.laid.extents (λ part pos h. g.near part pos (subst (λ n. SomeStandsIn n g.room.laid.extents part pos) (sym g.file.size) h)));
    }

-- ---- the same plain tree

kind_plain : (tape : Tape) (kind : HeldKind) → plain_kind_of tape (without_room kind) ≡ plain_kind_of tape kind
kind_plain tape kinds.Dir = refl
kind_plain tape (kinds.File room) = refl
kind_plain tape (kinds.Link text) = refl

option_plain : (tape : Tape) (o : Option Node) → option_map (plain_node_of tape) (option_map as_told o) ≡ option_map (plain_node_of tape) o
option_plain tape None = refl
option_plain tape (Some n) = ap (λ k. Some (record { uid = n.uid; times = n.times; readonly = n.readonly; keys = n.keys.map; kind = k })) (kind_plain tape n.kind)

same_plain : (tape : Tape) (t other : FileTree) → IsSameTree t other → plain_of tape other ≡ plain_of tape t
same_plain tape t other same =
    ap (λ h. record { highest = h; lock = other.lock; nodes = plain_nodes tape other.nodes }) same.highest
    ∙ ap (λ l. record { highest = t.highest; lock = l; nodes = plain_nodes tape other.nodes }) same.lock
    ∙ ap (λ nodes. record { highest = t.highest; lock = t.lock; nodes = nodes }) (same_nodes (plain_nodes tape other.nodes) (plain_nodes tape t.nodes) (λ p.
    plain_get tape other.nodes p ∙ sym (option_plain tape (fin.get other.nodes p)) ∙ ap (option_map (plain_node_of tape)) (same.nodes p) ∙ option_plain tape (fin.get t.nodes p) ∙ sym (plain_get tape t.nodes p)))

-- an index that tells a tree is valid, can be mounted, and is mounted as that tree
pub indexes_come_back : IndexesComeBack
indexes_come_back = record {
  valid = λ letters t index good are tells volume. told_valid letters t good index are tells volume;
  mounts = λ letters t index good differ tells valid. told_mounts letters t good differ index tells valid;
  same = λ letters t other index good differ tells is.
      let top = order.root_entry letters t.name t.nodes (fin.len (plain_nodes whole t.nodes)) t.highest (good.valid whole) in
      let first = order.at_entry letters t.name t.nodes (fin.len (plain_nodes whole t.nodes)) t.highest (good.valid whole) 0 ([], top.0) top.1 in
      record {
        highest = is.highest ∙ tells.highest;
        lock = is.lock ∙ ap lock_of tells.lock ∙ heard t.lock;
        name = is.name (told_of letters t.name (fin.keys t.nodes) ([], top.0)) (ap (λ l. slice_get l 0) tells.nodes ∙ first);
        block_size = is.block_size;
        nodes = nodes_back letters t good t.block_size refl differ other.nodes (subst (λ (l : List told.Node). IsBuilt letters t.block_size l (length l) other.nodes) tells.nodes is.nodes);
      };
  plain = same_plain;
}
