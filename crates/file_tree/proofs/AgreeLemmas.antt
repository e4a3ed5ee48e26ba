-- That the nodes that a tree tells agree with one another.
use Rattle.std.proofs.Common.{Option, ◌≡◌, ℕ, zero, suc, ◌+◌, ◌<◌, ◌≤◌, ◌^◌, Bool, List, [], ◌∷◌, ◌++◌, map, Some, None, sym, ap, ◌∙◌, refl, subst, arith}
use Rattle.std.specs.Option.{option_map}
use Rattle.std.specs.List.{AllByRecursion, slice_get}
use Rattle.std.specs.FinMap as fin
use Rattle.tape_types.specs.Bounds.{longest_file}
use Rattle.tape_types.specs.declared.cartridges.Extent.{Extent}
use Rattle.tape_types.specs.declared.node_keys.xattrs.Xattr.{Xattr}
use Rattle.tape_types.specs.NodeKeys.Keys.{list_of}
use Rattle.tape_types.proofs.NodeKeys.ListLaws.{list_apart, places_apart}
use Rattle.index_model.specs.declared.nodes.Node as told
use Rattle.index_model.specs.declared.nodes.NodeKind as told_kind
use Rattle.index_model.specs.declared.nodes.NodeKind.TheVariants as told_kinds
use Rattle.index_model.specs.declared.nodes.RawExtent.{RawExtent}
use Rattle.index_model.specs.declared.indexes.Index.{Index}
use Rattle.index_model.specs.Places.{IsAt}
use Rattle.index_model.specs.Uids.{AreUids}
use Rattle.index_model.specs.Keys.{AreKeysApart}
use Rattle.index_model.specs.Names.{AreNamesApart}
use Rattle.index_model.specs.Extents.{AreFiles, IsFileAt, ShareOffset}
use Rattle.index_model.specs.Valid.{Agrees}
use Rattle.plain_tree.specs.Valid.{IsShape, is_dir, mark_of, mark_at}
use Rattle.extent_map.specs.Laid.{Room, AreLaid}
use Rattle.extent_map.proofs.LaidLemmas.{laid_le}
use Rattle.file_tree.specs.declared.nodes.Node.{Node}
use Rattle.file_tree.specs.declared.nodes.HeldKind.{HeldKind}
use Rattle.file_tree.specs.declared.nodes.HeldKind.TheVariants as kinds
use Rattle.file_tree.specs.Tree.{Nodes, FileTree, plain_node_of, plain_kind_of, plain_nodes, whole}
use Rattle.file_tree.specs.Mounts.{Letters}
use Rattle.file_tree.specs.Told.{place_of, name_or, raw_of, told_kind_of, told_of, told_in, told_nodes}
use Rattle.file_tree.specs.Valid.{IsGood, IsFileOf, AreFilesOf}
use Rattle.name_tries.proofs.ItemLemmas.{some_same}
use Rattle.file_tree.proofs.PlainLemmas.{plain_get}
use Rattle.file_tree.proofs.ToldLemmas.{entry_get, entry_place, last_is}
use Rattle.file_tree.proofs.OrderLemmas as order

abbrev Path : Type 0
Path = List (List ℕ)

-- ---- extents that follow one another

-- each lies between the ends
lies_within : (size from end : ℕ) (es : List Extent) → AreLaid size from end es → (i : ℕ) (e : Extent) → slice_get es i ≡ Some e → (from ≤ e.offset) × (e.offset + e.count ≤ end)
lies_within size from end [] h i e is = cc
lies_within size from end (x ∷ es) h zero e is =
    let same : x ≡ e = some_same x e is in
    let most = laid_le size (x.offset + x.count) end es h.4 in
    (omega (arith, h.0, ap (λ (y : Extent). y.offset) same), omega (arith, most, ap (λ (y : Extent). y.offset) same, ap (λ (y : Extent). y.count) same))
lies_within size from end (x ∷ es) h (suc i) e is =
    let rest = lies_within size (x.offset + x.count) end es h.4 i e is in
    (omega (arith, h.0, rest.0), rest.1)

-- a later one begins where an earlier one has ended, or behind that
lies_behind : (size from end : ℕ) (es : List Extent) → AreLaid size from end es → (i j : ℕ) (e f : Extent) → i < j → slice_get es i ≡ Some e → slice_get es j ≡ Some f → e.offset + e.count ≤ f.offset
lies_behind size from end [] h i j e f lt is_i is_j = cc
lies_behind size from end (x ∷ es) h zero zero e f lt is_i is_j = absurd (omega (arith, lt))
lies_behind size from end (x ∷ es) h zero (suc j) e f lt is_i is_j =
    let same : x ≡ e = some_same x e is_i in
    let rest = lies_within size (x.offset + x.count) end es h.4 j f is_j in
    omega (arith, rest.0, ap (λ (y : Extent). y.offset) same, ap (λ (y : Extent). y.count) same)
lies_behind size from end (x ∷ es) h (suc i) zero e f lt is_i is_j = absurd (omega (arith, lt))
lies_behind size from end (x ∷ es) h (suc i) (suc j) e f lt is_i is_j = lies_behind size (x.offset + x.count) end es h.4 i j e f (omega (arith, lt)) is_i is_j

-- the same of the extents that are told
module _ (letters : Letters) (size end : ℕ) (es : List Extent) (h : AreLaid size 0 end es) where
  told_behind : (i j offset : ℕ) (e f : RawExtent) → i < j → slice_get (map (raw_of letters) es) i ≡ Some e → slice_get (map (raw_of letters) es) j ≡ Some f → offset < e.offset + e.count → f.offset ≤ offset → ⊥
  told_behind i j offset e f lt is_i is_j until from =
      let a = order.of_mapped (raw_of letters) es i e is_i in
      let b = order.of_mapped (raw_of letters) es j f is_j in
      let behind = lies_behind size 0 end es h i j a.0 b.0 lt a.1 b.1 in
      omega (arith, behind, until, from, ap (λ (r : RawExtent). r.offset) a.2, ap (λ (r : RawExtent). r.count) a.2, ap (λ (r : RawExtent). r.offset) b.2)

  told_apart : (i j offset : ℕ) → ShareOffset (map (raw_of letters) es) i j offset → i ≡ j
  told_apart i j offset s = order.trichotomy i j (i ≡ j)
      (λ lt. absurd (told_behind i j offset s.one s.two lt s.is s.other_is s.covers.until s.other_covers.from))
      (λ e. e)
      (λ gt. absurd (told_behind j i offset s.two s.one gt s.other_is s.is s.other_covers.until s.covers.from))

told_ends : (letters : Letters) (size from end : ℕ) (es : List Extent) → AreLaid size from end es → end ≤ longest_file → AllByRecursion (λ (e : RawExtent). e.offset + e.count ≤ 2 ^ 62) (map (raw_of letters) es)
told_ends letters size from end [] h short = tt
told_ends letters size from end (x ∷ es) h short =
    let most = laid_le size (x.offset + x.count) end es h.4 in
    (omega (arith, most, short), told_ends letters size (x.offset + x.count) end es h.4 short)

-- ---- nodes

abbrev uid_of : Option (ℕ × Bool) → ℕ
uid_of None = 0
uid_of (Some v) = v.0

-- a file that is told is one that lies so
pub record IsToldFile (letters : Letters) (kind : HeldKind) (bytes : ℕ) (raws : List RawExtent) : Type 0 where
  pub room : Room
  pub is : kind ≡ kinds.File room
  pub long : room.laid.length ≡ bytes
  pub extents : map (raw_of letters) room.laid.extents ≡ raws

-- a file that is told is told with its length and its extents in order
pub told_file : (letters : Letters) (kind : HeldKind) (bytes : ℕ) (raws : List RawExtent) → told_kind_of letters kind ≡ told_kinds.File bytes raws → IsToldFile letters kind bytes raws
told_file letters kinds.Dir bytes raws e = cc
told_file letters (kinds.Link text) bytes raws e = cc
told_file letters (kinds.File room) bytes raws e = record { room = room; is = refl; long = ap bytes_of e; extents = ap raws_of e }
  where
    bytes_of : told_kind.NodeKind → ℕ
    bytes_of (told_kinds.File n rs) = n
    bytes_of other = 0

    raws_of : told_kind.NodeKind → List RawExtent
    raws_of (told_kinds.File n rs) = rs
    raws_of other = []

module _ (letters : Letters) (volume : List ℕ) (m : Nodes) (size highest : ℕ) (shape : IsShape (mark_at (plain_nodes whole m)) (fin.len (plain_nodes whole m)) highest) (files : AreFilesOf size m) where
  abbrev nodes : List told.Node
  nodes = told_in letters volume m

  abbrev tell : (Path × Node) → told.Node
  tell = told_of letters volume (fin.keys m)

  marked : (at : ℕ) (e : Path × Node) → slice_get (fin.entries m) at ≡ Some e → mark_at (plain_nodes whole m) e.0 ≡ Some (e.1.uid, is_dir (plain_kind_of whole e.1.kind))
  marked at e is = ap mark_of (plain_get whole m e.0 ∙ ap (option_map (plain_node_of whole)) (entry_get m at e.0 e.1 is))

  entry_at : (at : ℕ) (node : told.Node) → IsAt nodes at node → (e : Path × Node) × (slice_get (fin.entries m) at ≡ Some e) × (node ≡ tell e)
  entry_at = order.entry_at letters volume m (fin.len (plain_nodes whole m)) highest shape

  uid_is : (at : ℕ) (node : told.Node) → IsAt nodes at node → (e : Path × Node) × (slice_get (fin.entries m) at ≡ Some e) × (node.uid ≡ e.1.uid)
  uid_is at node is = let f = entry_at at node is in (f.0, f.1, ap (λ (n : told.Node). n.uid) f.2)

  pub uids_agree : AreUids highest nodes
  uids_agree = record {
    bounded = shape.bounded;
    least = λ at node is. let f = uid_is at node is in let g = shape.given f.0.0 f.0.1.uid _ (marked at f.0 f.1) in omega (arith, f.2, g.0);
    most = λ at node is. let f = uid_is at node is in let g = shape.given f.0.0 f.0.1.uid _ (marked at f.0 f.1) in omega (arith, f.2, g.1);
    apart = λ at other node named is other_is same.
        let f = uid_is at node is in
        let g = uid_is other named other_is in
        let one : f.0.1.uid ≡ g.0.1.uid = sym f.2 ∙ same ∙ g.2 in
        let path : f.0.0 ≡ g.0.0 = shape.distinct f.0.0 g.0.0 g.0.1.uid _ _ (marked at f.0 f.1 ∙ ap (λ u. Some (u, is_dir (plain_kind_of whole f.0.1.kind))) one) (marked other g.0 g.1) in
        sym (entry_place m at f.0.0 f.0.1 f.1) ∙ ap (λ q. place_of q (fin.keys m)) path ∙ entry_place m other g.0.0 g.0.1 g.1;
    root = λ node is.
        let r = order.root_entry letters volume m (fin.len (plain_nodes whole m)) highest shape in
        let f = uid_is 0 node is in
        let same : f.0 ≡ ([], r.0) = some_same f.0 ([], r.0) (sym f.1 ∙ r.1) in
        f.2 ∙ ap (λ (e : Path × Node). e.1.uid) same ∙ ap uid_of (sym (marked 0 ([], r.0) r.1) ∙ shape.root);
  }

  pub names_agree : AreNamesApart nodes
  names_agree at other h =
      let a = order.later letters volume m (fin.len (plain_nodes whole m)) highest shape at h.node h.behind_root h.is in
      let b = order.later letters volume m (fin.len (plain_nodes whole m)) highest shape other h.named h.other_behind_root h.other_is in
      let up_a = order.up letters volume m (fin.len (plain_nodes whole m)) highest shape at a.u a.x a.n a.is in
      let up_b = order.up letters volume m (fin.len (plain_nodes whole m)) highest shape other b.u b.x b.n b.is in
      let places : up_a.place ≡ up_b.place = sym (ap (λ (n : told.Node). n.parent) a.told_is ∙ up_a.parent) ∙ h.parent ∙ ap (λ (n : told.Node). n.parent) b.told_is ∙ up_b.parent in
      let dirs : a.u ≡ b.u = ap (λ (e : Path × Node). e.0) (some_same (a.u, up_a.dir) (b.u, up_b.dir) (sym up_a.is ∙ ap (slice_get (fin.entries m)) places ∙ up_b.is)) in
      let names : a.x ≡ b.x = sym (ap (λ (n : told.Node). n.name) a.told_is ∙ ap (name_or volume) (last_is a.u a.x)) ∙ h.name ∙ ap (λ (n : told.Node). n.name) b.told_is ∙ ap (name_or volume) (last_is b.u b.x) in
      let path : a.u ++ a.x ∷ [] ≡ b.u ++ b.x ∷ [] = ap (λ u. u ++ a.x ∷ []) dirs ∙ ap (λ x. b.u ++ x ∷ []) names in
      sym (entry_place m at (a.u ++ a.x ∷ []) a.n a.is) ∙ ap (λ q. place_of q (fin.keys m)) path ∙ entry_place m other (b.u ++ b.x ∷ []) b.n b.is

  pub keys_agree : AreKeysApart nodes
  keys_agree at h =
      let e = entry_at at h.node h.is in
      let keys : List Xattr = list_of e.0.1.keys.map in
      places_apart keys (list_apart e.0.1.keys.map) h.earlier h.later h.one h.other h.two
      (subst (λ (n : told.Node). IsAt n.xattrs h.earlier h.one) e.2 h.one_is) (subst (λ (n : told.Node). IsAt n.xattrs h.later h.other) e.2 h.other_is) h.same

  file_at : (at bytes : ℕ) (raws : List RawExtent) → IsFileAt nodes at bytes raws → (room : Room) × IsFileOf size room.laid × (room.laid.length ≡ bytes) × (map (raw_of letters) room.laid.extents ≡ raws)
  file_at at bytes raws f =
      let e = entry_at at f.node f.is in
      let file = told_file letters e.0.1.kind bytes raws (sym (ap (λ (n : told.Node). n.kind) e.2) ∙ f.file) in
      (file.room, files e.0.0 e.0.1 file.room (entry_get m at e.0.0 e.0.1 e.1) file.is, file.long, file.extents)

  pub files_agree : AreFiles nodes
  files_agree = record {
    size = λ at bytes raws f. let g = file_at at bytes raws f in omega (arith, g.1.lies.can_be, g.2);
    ends = λ at bytes raws f.
        let g = file_at at bytes raws f in
        subst (λ rs. AllByRecursion (λ (e : RawExtent). e.offset + e.count ≤ 2 ^ 62) rs) g.3 (told_ends letters g.0.laid.block_size 0 g.0.laid.length g.0.laid.extents g.1.lies.are_laid g.1.lies.can_be);
    apart = λ at bytes raws f one two offset s.
        let g = file_at at bytes raws f in
        told_apart letters g.0.laid.block_size g.0.laid.length g.0.laid.extents g.1.lies.are_laid one two offset (subst (λ rs. ShareOffset rs one two offset) (sym g.3) s);
  }

-- the nodes that a good tree tells agree with one another
pub told_agree : (letters : Letters) (t : FileTree) → IsGood t → (index : Index) → index.nodes ≡ told_nodes letters t → index.highest ≡ t.highest → Agrees index
told_agree letters t good index nodes_are highest_is = record {
  uids = subst (λ h. AreUids h index.nodes) (sym highest_is) (subst (AreUids t.highest) (sym nodes_are) (uids_agree letters t.name t.nodes t.block_size t.highest (good.valid whole) good.files));
  names = subst AreNamesApart (sym nodes_are) (names_agree letters t.name t.nodes t.block_size t.highest (good.valid whole) good.files);
  keys = subst AreKeysApart (sym nodes_are) (keys_agree letters t.name t.nodes t.block_size t.highest (good.valid whole) good.files);
  files = subst AreFiles (sym nodes_are) (files_agree letters t.name t.nodes t.block_size t.highest (good.valid whole) good.files);
}
