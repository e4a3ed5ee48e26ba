-- The nodes of an index, put into a tree one after the other.
use Rattle.std.proofs.Common.{Option, ◌≡◌, ◌≢◌, ℕ, suc, ◌+◌, ◌<◌, ◌≤◌, max, Bool, true, cond, List, [], ◌∷◌, ◌++◌, length, Some, None, is_some, sym, ap, ◌∙◌, refl, subst, arith, inl, inr, ⊎_elim, Result, OnOk}
use Rattle.std.specs.Option.{option_map}
use Rattle.std.specs.List.{AllByRecursion}
use Rattle.std.specs.FinMap as fin
use Rattle.std.proofs.lemmas.Bool.{cases_lt}
use Rattle.std.proofs.lemmas.Option.{slice_get_within}
use Rattle.plain_tree.specs.Paths.{path_cmp, parent_of}
use Rattle.plain_tree.specs.Valid.{is_dir, mark_of, mark_at, IsShape}
use Rattle.plain_tree.proofs.NodeLemmas.{path_total}
use Rattle.plain_tree.proofs.SeenLemmas.{unlike}
use Rattle.plain_tree.proofs.LinkLemmas.{on_ok}
use Rattle.tape_types.specs.NodeKeys.Keys as keys
use Rattle.tape_types.proofs.NodeKeys.ListLaws.{apart_by_places}
use Rattle.index_model.specs.declared.indexes.Index.{Index}
use Rattle.index_model.specs.declared.nodes.Node as told
use Rattle.index_model.specs.declared.nodes.NodeKind as told_kind
use Rattle.index_model.specs.declared.nodes.NodeKind.TheVariants as told_kinds
use Rattle.index_model.specs.declared.nodes.RawExtent.{RawExtent}
use Rattle.index_model.specs.Extents.{IsExtent, IsKind, IsFileAt, ShareOffset}
use Rattle.index_model.specs.Keys.{AreKeysApart}
use Rattle.index_model.specs.Names.{HaveOneName}
use Rattle.index_model.specs.Order.{IsDirAt}
use Rattle.index_model.specs.Places.{IsAt}
use Rattle.index_model.specs.Uids.{AreUids}
use Rattle.index_model.proofs.Walks.{all_at}
use Rattle.extent_map.specs.Cells.{Tape}
use Rattle.file_tree.specs.declared.nodes.Node.{Node}
use Rattle.file_tree.specs.declared.nodes.HeldKind.{HeldKind}
use Rattle.file_tree.specs.Tree.{Nodes, number_at, plain_kind_of, plain_node_of, plain_nodes}
use Rattle.file_tree.specs.Places.{StoreView, CanAppend}
use Rattle.file_tree.specs.Valid.{AreFilesOf}
use Rattle.file_tree.specs.Mounts.{Letters, IsKindOf, IsNodeOf, IsPathOf, Stands, IsTold, IsBuilt, IsOnVolume, AreTold, CanMount}
use Rattle.file_tree.specs.Mounts.IsPathOf.{root, below}
use Rattle.file_tree.specs.Raws.{IsRaw, AreApart, AllApart, CanKeep, LiesWell}
use Rattle.name_tries.proofs.ItemLemmas.{some_same}
use Rattle.file_tree.proofs.PathLemmas.{no_name, same_last, by_last, get_here, get_other, is_or_not, number_is}
use Rattle.file_tree.proofs.PlainLemmas.{plain_get, plain_len}
use Rattle.file_tree.proofs.EditLemmas.{parent_ends, insert_files}
use Rattle.file_tree.proofs.RawLemmas.{all_both}

-- ---- the extents of a file that is told

all_from : {X : Type 0} (P : X → Type 0) (xs : List X) → ((at : ℕ) (x : X) → IsAt xs at x → P x) → AllByRecursion P xs
all_from P [] f = tt
all_from P (x ∷ xs) f = (f 0 x refl, all_from P xs (λ at y is. f (suc at) y is))

off : (raws : List RawExtent) (a b : RawExtent) (i j : ℕ) → IsAt raws i a → IsAt raws j b → i ≢ j → ((one two offset : ℕ) → ShareOffset raws one two offset → one ≡ two) → AreApart a b
off raws a b i j is also differ share some more = ⊎_elim
    (λ (low : b.offset < a.offset + a.count). ⊎_elim
    (λ (high : a.offset < b.offset + b.count). absurd (differ (share i j (max a.offset b.offset) (record {
      one = a;
      is = is;
      covers = record { from = omega arith; until = omega (arith, low, high, some, more) };
      two = b;
      other_is = also;
      other_covers = record { from = omega arith; until = omega (arith, low, high, some, more) };
    }))))
    (λ after. inr after)
    (cases_lt a.offset (b.offset + b.count)))
    (λ before. inl before)
    (cases_lt b.offset (a.offset + a.count))

all_apart : (raws : List RawExtent) → ((one two offset : ℕ) → ShareOffset raws one two offset → one ≡ two) → AllApart raws
all_apart [] share = tt
all_apart (a ∷ raws) share = (
  all_from (AreApart a) raws (λ at b is. off (a ∷ raws) a b 0 (suc at) refl is (λ e. absurd (omega (arith, e))) share),
  all_apart raws (λ one two offset s. less (share (suc one) (suc two) offset (record { one = s.one; is = s.is; covers = s.covers; two = s.two; other_is = s.other_is; other_covers = s.other_covers }))),
)
  where
    less : {i j : ℕ} → suc i ≡ suc j → i ≡ j
    less e = omega (arith, e)

-- each node of such an index can be kept
pub can_keep : (letters : Letters) (size : ℕ) (nodes : List told.Node) (t : AreTold letters size nodes) (at : ℕ) (node : told.Node) → IsAt nodes at node → CanKeep letters size node.kind
can_keep letters size nodes t at node is = record {
  some_block = t.some_block;
  raws = λ bytes raws kind.
      let file : IsFileAt nodes at bytes raws = record { node = node; is = is; file = kind } in
      record {
        some_block = t.some_block;
        short = t.files.size at bytes raws file;
        each = all_both IsExtent (IsOnVolume letters size) (IsRaw letters size) (λ raw bounds on. record { bounds = bounds; on_volume = on }) raws
            (subst IsKind kind (all_at (λ node. IsKind node.kind) nodes t.kinds at node is)) (t.on_volume at bytes raws file);
        apart = all_apart raws (t.files.apart at bytes raws file);
      };
}

-- the attributes of each node can be kept
pub keys_apart : (nodes : List told.Node) → AreKeysApart nodes → (at : ℕ) (node : told.Node) → IsAt nodes at node → keys.AreKeysApart node.xattrs
keys_apart nodes apart at node is = apart_by_places node.xattrs (λ earlier later one other two one_is other_is same. apart at (record {
  node = node;
  is = is;
  earlier = earlier;
  later = later;
  two = two;
  one = one;
  one_is = one_is;
  other = other;
  other_is = other_is;
  same = same;
}))

-- ---- paths of an index

-- at a place stands one node
pub one_node : (nodes : List told.Node) (at : ℕ) (a b : told.Node) → IsAt nodes at a → IsAt nodes at b → a ≡ b
one_node nodes at a b is also = some_same a b (sym is ∙ also)

-- a place has one path
pub path_once : (nodes : List told.Node) (at to : ℕ) (p q : List (List ℕ)) → at ≡ to → IsPathOf nodes at p → IsPathOf nodes to q → p ≡ q
path_once nodes _ _ _ _ e root root = refl
path_once nodes _ _ _ _ e root (below to node front some is way) = absurd (omega (arith, some, e))
path_once nodes _ _ _ _ e (below at node front some is way) root = absurd (omega (arith, some, e))
path_once nodes _ _ _ _ e (below at node front some is way) (below to other back more also path) =
    let same : node ≡ other = one_node nodes to node other (subst (λ k. IsAt nodes k node) e is) also in
    ap (λ p. p ++ node.name ∷ []) (path_once nodes node.parent other.parent front back (ap (λ (n : told.Node). n.parent) same) way path) ∙ ap (λ (n : told.Node). back ++ n.name ∷ []) same

-- what a path that ends by a name says of its place
pub record Ends (nodes : List told.Node) (at : ℕ) (p : List (List ℕ)) (x : List ℕ) : Type 0 where
  pub node : told.Node
  pub is : IsAt nodes at node
  pub behind : 0 < at
  pub way : IsPathOf nodes node.parent p
  pub named : node.name ≡ x

-- a path that ends with a name is that of a node with that name in a directory
pub ends : (nodes : List told.Node) (at : ℕ) (q p : List (List ℕ)) (x : List ℕ) → IsPathOf nodes at q → q ≡ p ++ x ∷ [] → Ends nodes at p x
ends nodes _ _ p x root e = absurd (no_name p x (sym e))
ends nodes _ _ p x (below at node front some is way) e =
    let parts = same_last front p node.name x e in
    record { node = node; is = is; behind = some; way = subst (IsPathOf nodes node.parent) parts.0 way; named = parts.1 }

module _ (letters : Letters) (size : ℕ) (nodes : List told.Node) (before : ℕ) (m : Nodes) (b : IsBuilt letters size nodes before m) where
  -- the node at a place is that of its path
  pub at_path : (at : ℕ) (node : told.Node) (p : List (List ℕ)) → at < before → IsAt nodes at node → IsPathOf nodes at p → (n : Node) × (fin.get m p ≡ Some n) × (n.number ≡ at) × IsNodeOf letters size node n
  at_path at node p early is way =
      let s = b.each at node early is in
      (s.n, ap (fin.get m) (sym (path_once nodes at at s.path p refl s.path_is way)) ∙ s.there, s.number, s.same)

  -- what is told of the node at a path
  pub told_at : (p : List (List ℕ)) (n : Node) → fin.get m p ≡ Some n → (node : told.Node) × IsAt nodes n.number node × IsPathOf nodes n.number p × IsNodeOf letters size node n
  told_at p n is =
      let t = b.others p n is in
      let found = at_path n.number t.node p t.early t.is t.path_is in
      (t.node, t.is, t.path_is, subst (IsNodeOf letters size t.node) (some_same found.0 n (sym found.1 ∙ is)) found.3)

  -- a place with a path that has a node is that node's number
  number_of : (at : ℕ) (node : told.Node) (p : List (List ℕ)) (n : Node) → at < before → IsAt nodes at node → IsPathOf nodes at p → fin.get m p ≡ Some n → n.number ≡ at
  number_of at node p n early is way there =
      let found = at_path at node p early is way in
      ap (λ (k : Node). k.number) (some_same n found.0 (sym there ∙ found.1)) ∙ found.2

module _ (letters : Letters) (size : ℕ) (nodes : List told.Node) (t : AreTold letters size nodes) (at : ℕ) (node : told.Node) (is : IsAt nodes at node) (behind : 0 < at) (m : Nodes) (b : IsBuilt letters size nodes at m) where
  dir : IsDirAt nodes node.parent
  dir = t.order.dirs at node is

  early : node.parent < at
  early = t.order.before at node behind is

  up : Stands letters size nodes m node.parent dir.node
  up = b.each node.parent dir.node early dir.is

  abbrev q : List (List ℕ)
  q = up.path ++ node.name ∷ []

  up_number : number_at m up.path ≡ Some node.parent
  up_number = number_is m up.path up.n up.there ∙ ap (λ k. Some k) up.number

  free : fin.get m q ≡ None
  free = by (fin.get m q) refl
    where
      by : (o : Option Node) → fin.get m q ≡ o → fin.get m q ≡ None
      by None e = e
      by (Some k) e =
          let old = b.others q k e in
          let e2 = ends nodes k.number q up.path node.name old.path_is refl in
          let parent_early : e2.node.parent < at = omega (arith, old.early, t.order.before k.number e2.node e2.behind e2.is) in
          let parent_dir = t.order.dirs k.number e2.node e2.is in
          let same_parent : node.parent ≡ e2.node.parent = sym up.number ∙ number_of letters size nodes at m b e2.node.parent parent_dir.node up.path up.n parent_early parent_dir.is e2.way up.there in
          let one : HaveOneName nodes k.number at = record {
            behind_root = e2.behind;
            other_behind_root = behind;
            node = e2.node;
            is = e2.is;
            named = node;
            other_is = is;
            parent = sym same_parent;
            name = e2.named;
          } in
          absurd (omega (arith, old.early, t.names k.number at one))

  -- the next node of the index may be put behind those before it
  pub can_append : (s : StoreView) → s.nodes ≡ m → length s.spots ≡ at → CanAppend s node.parent node.name
  can_append s is_m slots = record {
    path = up.path;
    stands = ap (λ (m : Nodes). number_at m up.path) is_m ∙ up_number;
    free = ap (λ (m : Nodes). fin.get m q) is_m ∙ free;
    space = omega (arith, slots, t.count, slice_get_within nodes at node is);
  }

  module _ (next : Nodes) (n : Node) (number : n.number ≡ at) (same : IsNodeOf letters size node n) (put : (path : List (List ℕ)) → number_at m path ≡ Some node.parent → next ≡ fin.insert m (path ++ node.name ∷ []) n) where
    next_is : next ≡ fin.insert m q n
    next_is = put up.path up_number

    path_is : IsPathOf nodes at q
    path_is = below at node up.path behind is up.path_is

    here : fin.get next q ≡ Some n
    here = ap (λ (m : Nodes). fin.get m q) next_is ∙ get_here m q n

    elsewhere : (p : List (List ℕ)) → (p ≡ q → ⊥) → fin.get next p ≡ fin.get m p
    elsewhere p apart = ap (λ (m : Nodes). fin.get m p) next_is ∙ get_other m q p n apart

    each_more : (k : ℕ) (z : told.Node) → k < at + 1 → IsAt nodes k z → Stands letters size nodes next k z
    each_more k z lt there = ⊎_elim
        (λ (less : k < at).
        let s = b.each k z less there in
        record {
          path = s.path;
          path_is = s.path_is;
          n = s.n;
          there = elsewhere s.path (λ e. unlike (fin.get m q) s.n free (ap (fin.get m) (sym e) ∙ s.there)) ∙ s.there;
          number = s.number;
          same = s.same;
        })
        (λ (more : at ≤ k).
        let e : at ≡ k = omega (arith, more, lt) in
        let z_is : node ≡ z = one_node nodes k node z (subst (λ k. IsAt nodes k node) e is) there in
        record {
          path = q;
          path_is = subst (λ k. IsPathOf nodes k q) e path_is;
          n = n;
          there = here;
          number = number ∙ e;
          same = subst (λ (z : told.Node). IsNodeOf letters size z n) z_is same;
        })
        (cases_lt k at)

    others_more : (p : List (List ℕ)) (k : Node) → fin.get next p ≡ Some k → IsTold nodes (at + 1) p k
    others_more p k there = ⊎_elim
        (λ (e : p ≡ q).
        let k_is : n ≡ k = some_same n k (sym here ∙ ap (fin.get next) (sym e) ∙ there) in
        let k_number : at ≡ k.number = sym number ∙ ap (λ (k : Node). k.number) k_is in
        record {
          node = node;
          is = subst (λ a. IsAt nodes a node) k_number is;
          early = omega (arith, k_number);
          path_is = subst (λ a. IsPathOf nodes a p) k_number (subst (IsPathOf nodes at) (sym e) path_is);
        })
        (λ apart.
        let old = b.others p k (sym (elsewhere p apart) ∙ there) in
        record { node = old.node; is = old.is; early = omega (arith, old.early); path_is = old.path_is })
        (is_or_not q p)

    -- with the next node put in, the tree has one node more of the index
    pub built_more : IsBuilt letters size nodes (at + 1) next
    built_more = record {
      each = each_more;
      others = others_more;
      count = ap fin.len next_is ∙ fin.len-insert path_total m q n ∙ ap (λ o. cond (is_some o) (fin.len m) (fin.len m + 1)) free ∙ ap (λ k. k + 1) b.count;
    }

    pub files_more : AreFilesOf size m → LiesWell size n.kind → AreFilesOf size next
    files_more all this = subst (λ (m : Nodes). AreFilesOf size m) (sym next_is) (insert_files size m q n all this)

  -- what an append that was done leaves
  module _ (slots : ℕ) (slots_are : slots ≡ at) (name : List ℕ) (name_is : name ≡ node.name) (next : Nodes) (n : Node) {X E : Type 0} (r : Result X E)
      (done : OnOk r ((path : List (List ℕ)) → number_at m path ≡ Some node.parent → next ≡ fin.insert m (path ++ name ∷ []) (record n { number = slots }))) (same : IsNodeOf letters size node n) where
    abbrev kept : Node
    kept = record n { number = slots }

    kept_same : IsNodeOf letters size node kept
    kept_same = record { uid = same.uid; times = same.times; readonly = same.readonly; keys = same.keys; kind = same.kind }

    renamed : ((path : List (List ℕ)) → number_at m path ≡ Some node.parent → next ≡ fin.insert m (path ++ name ∷ []) kept) → (path : List (List ℕ)) → number_at m path ≡ Some node.parent → next ≡ fin.insert m (path ++ node.name ∷ []) kept
    renamed put path stands = put path stands ∙ ap (λ x. fin.insert m (path ++ x ∷ []) kept) name_is

    -- a node that was appended makes the tree one node longer
    pub appended_built : OnOk r (IsBuilt letters size nodes (at + 1) next)
    appended_built = on_ok r (λ put. built_more next kept slots_are kept_same (renamed put)) done

    -- with the next node put in, the files are still the volume's
    pub appended_files : AreFilesOf size m → LiesWell size n.kind → OnOk r (AreFilesOf size next)
    appended_files all this = on_ok r (λ put. files_more next kept slots_are kept_same (renamed put) all this) done

-- the root alone
pub first_built : (letters : Letters) (size : ℕ) (nodes : List told.Node) (node : told.Node) (n : Node) (m : Nodes) → IsAt nodes 0 node → n.number ≡ 0 → IsNodeOf letters size node n → m ≡ fin.insert fin.empty [] n → IsBuilt letters size nodes 1 m
first_built letters size nodes node n m is number same m_is = subst (λ (m : Nodes). IsBuilt letters size nodes 1 m) (sym m_is) (record {
  each = λ at z lt there.
      let zero_is : 0 ≡ at = omega (arith, lt) in
      let z_is : node ≡ z = one_node nodes at node z (subst (λ k. IsAt nodes k node) zero_is is) there in
      record {
        path = [];
        path_is = subst (λ k. IsPathOf nodes k []) zero_is root;
        n = n;
        there = get_here fin.empty [] n;
        number = number ∙ zero_is;
        same = subst (λ (z : told.Node). IsNodeOf letters size z n) z_is same;
      };
  others = λ path k there. ⊎_elim
      (λ (e : path ≡ []).
      let k_is : n ≡ k = some_same n k (sym (get_here fin.empty [] n) ∙ ap (fin.get (fin.insert fin.empty [] n)) (sym e) ∙ there) in
      let zero_is : 0 ≡ k.number = sym number ∙ ap (λ (k : Node). k.number) k_is in
      record {
        node = node;
        is = subst (λ k. IsAt nodes k node) zero_is is;
        early = omega (arith, zero_is);
        path_is = subst (λ a. IsPathOf nodes a path) zero_is (subst (IsPathOf nodes 0) (sym e) root);
      })
      (λ apart. absurd (unlike (fin.get (fin.insert fin.empty [] n) path) k (get_other fin.empty [] path n apart ∙ fin.get-empty path_cmp path) there))
      (is_or_not [] path);
  count = fin.len-insert path_total fin.empty [] n ∙ ap (λ (o : Option Node). cond (is_some o) (fin.len (fin.empty {X = Node} {R = path_cmp})) (fin.len (fin.empty {X = Node} {R = path_cmp}) + 1)) (fin.get-empty path_cmp []) ∙ ap (λ n. n + 1) (fin.len-empty path_cmp Node);
})

-- a tree of the root alone has only files of the volume
pub first_files : (size : ℕ) (n : Node) (m : Nodes) → m ≡ fin.insert fin.empty [] n → LiesWell size n.kind → AreFilesOf size m
first_files size n m m_is this = subst (λ (m : Nodes). AreFilesOf size m) (sym m_is) (insert_files size fin.empty [] n (λ path k room there _. absurd (unlike (fin.get (fin.empty {X = Node} {R = path_cmp}) path) k (fin.get-empty path_cmp path) there)) this)

-- the tree of an index is good
pub are_told : (index : Index) (letters : Letters) (size : ℕ) → CanMount index letters size → AreTold letters size index.nodes
are_told index letters size can = record {
  some_block = can.some_block;
  order = can.valid.formed.order;
  names = can.valid.agrees.names;
  keys = can.valid.agrees.keys;
  files = can.valid.agrees.files;
  kinds = can.valid.formed.kinds;
  on_volume = can.on_volume;
  count = can.valid.formed.count;
}

dir_same : (letters : Letters) (size : ℕ) (tape : Tape) (k : told_kind.NodeKind) (kind : HeldKind) → IsKindOf letters size k kind → k ≡ told_kinds.Dir → is_dir (plain_kind_of tape kind) ≡ true
dir_same letters size tape told_kinds.Dir kind is e = ap (λ k. is_dir (plain_kind_of tape k)) is
dir_same letters size tape (told_kinds.File n raws) kind is e = cc
dir_same letters size tape (told_kinds.Link text) kind is e = cc

module _ (index : Index) (letters : Letters) (size : ℕ) (can : CanMount index letters size) (m : Nodes) (b : IsBuilt letters size index.nodes (length index.nodes) m) (tape : Tape) where
  abbrev nodes : List told.Node
  nodes = index.nodes

  uids : AreUids index.highest nodes
  uids = can.valid.agrees.uids

  marked : (p : List (List ℕ)) (n : Node) → fin.get m p ≡ Some n → mark_at (plain_nodes tape m) p ≡ Some (n.uid, is_dir (plain_kind_of tape n.kind))
  marked p n is = ap mark_of (plain_get tape m p ∙ ap (option_map (plain_node_of tape)) is)

  unmarked : (p : List (List ℕ)) (uid : ℕ) (d : Bool) → mark_at (plain_nodes tape m) p ≡ Some (uid, d) → (n : Node) × (fin.get m p ≡ Some n) × (n.uid ≡ uid)
  unmarked p uid d mark = by (fin.get m p) refl
    where
      by : (o : Option Node) → fin.get m p ≡ o → (n : Node) × (fin.get m p ≡ Some n) × (n.uid ≡ uid)
      by None e = absurd (unlike (mark_at (plain_nodes tape m) p) (uid, d) (ap mark_of (plain_get tape m p ∙ ap (option_map (plain_node_of tape)) e)) mark)
      by (Some n) e = (n, e, uid_of n.uid uid (is_dir (plain_kind_of tape n.kind)) d (sym (marked p n e) ∙ mark))
        where
          uid_in : Option (ℕ × Bool) → ℕ
          uid_in None = 0
          uid_in (Some v) = v.0

          uid_of : (a b : ℕ) (x y : Bool) → ◌≡◌ {A = Option (ℕ × Bool)} (Some (a, x)) (Some (b, y)) → a ≡ b
          uid_of a b x y e = ap uid_in e

  -- a directory that is told is one
  dir_there : (at : ℕ) (p : List (List ℕ)) → IsPathOf nodes at p → IsDirAt nodes at → (uid : ℕ) × (mark_at (plain_nodes tape m) p ≡ Some (uid, true))
  dir_there at p way dir =
      let found = at_path letters size nodes (length nodes) m b at dir.node p (slice_get_within nodes at dir.node dir.is) dir.is way in
      (found.0.uid, marked p found.0 found.1 ∙ ap (λ d. Some (found.0.uid, d)) (dir_same letters size tape dir.node.kind found.0.kind found.3.kind dir.dir))

  root_there : mark_at (plain_nodes tape m) [] ≡ Some (1, true)
  root_there =
      let o = can.valid.formed.order in
      let found = at_path letters size nodes (length nodes) m b 0 o.root [] (slice_get_within nodes 0 o.root o.first) o.first root in
      marked [] found.0 found.1 ∙ ap (λ d. Some (found.0.uid, d)) (dir_same letters size tape o.root.kind found.0.kind found.3.kind o.is_root.dir) ∙ ap (λ u. Some (u, true)) (found.3.uid ∙ uids.root o.root o.first)

  -- the tree that is built of an index has the shape of a valid one
  pub shape : IsShape (mark_at (plain_nodes tape m)) (fin.len (plain_nodes tape m)) index.highest
  shape = record {
    root = root_there;
    parents = λ p uid d mark some.
        let n = unmarked p uid d mark in
        let t = told_at letters size nodes (length nodes) m b p n.0 n.1 in
        ⊎_elim (λ (e : p ≡ []). absurd (some e))
        (λ (more : (u : List (List ℕ)) × (y : List ℕ) × (p ≡ u ++ y ∷ [])).
        let e = ends nodes n.0.number p more.0 more.1 t.2 more.2 in
        let up = dir_there e.node.parent more.0 e.way (can.valid.formed.order.dirs n.0.number e.node e.is) in
        (up.0, ap (mark_at (plain_nodes tape m)) (ap parent_of more.2 ∙ parent_ends more.0 more.1) ∙ up.1))
        (by_last p);
    given = λ p uid d mark.
        let n = unmarked p uid d mark in
        let t = told_at letters size nodes (length nodes) m b p n.0 n.1 in
        (omega (arith, n.2, t.3.uid, uids.least n.0.number t.0 t.1), omega (arith, n.2, t.3.uid, uids.most n.0.number t.0 t.1));
    distinct = λ p q uid d f mark too.
        let n = unmarked p uid d mark in
        let k = unmarked q uid f too in
        let t = told_at letters size nodes (length nodes) m b p n.0 n.1 in
        let s = told_at letters size nodes (length nodes) m b q k.0 k.1 in
        path_once nodes n.0.number k.0.number p q (uids.apart n.0.number k.0.number t.0 s.0 t.1 s.1 (sym t.3.uid ∙ n.2 ∙ sym k.2 ∙ s.3.uid)) t.2 s.2;
    bounded = uids.bounded;
    few = omega (arith, plain_len tape m, b.count, can.valid.formed.count);
  }
