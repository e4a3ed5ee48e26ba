-- That the nodes that a tree tells stand in the order of a document.
use Rattle.std.proofs.Common.{Option, ◌≡◌, ℕ, zero, suc, ◌<◌, Bool, true, false, List, [], ◌∷◌, ◌++◌, length, map, Some, None, sym, ap, ◌∙◌, refl, subst, arith, ⊎_elim}
use Rattle.std.specs.Option.{option_map}
use Rattle.std.specs.List.{slice_get}
use Rattle.std.specs.declared.cmp.Ordering.{Ordering}
use Rattle.std.specs.declared.cmp.Ordering.TheVariants.{Less, Equal, Greater}
use Rattle.std.specs.Ordering.{is_lt, is_gt, ordering_then, ordering_reverse}
use Rattle.std.specs.Cmp.Lexicographic.{nat_list_cmp_total}
use Rattle.std.specs.FinMap as fin
use Rattle.std.proofs.lemmas.Cmp.{tied_itself}
use Rattle.std.proofs.lemmas.List.{length-append}
use Rattle.file_tree.proofs.EditLemmas.{parent_ends}
use Rattle.index_model.specs.declared.nodes.Node as told
use Rattle.index_model.specs.Places.{IsAt}
use Rattle.index_model.specs.Order.{AreInOrder, IsDirAt, LiesIn, itself, through}
use Rattle.plain_tree.specs.Paths.{path_cmp}
use Rattle.plain_tree.specs.Links.{name_cmp}
use Rattle.plain_tree.specs.Valid.{IsShape, is_dir, mark_of, mark_at}
use Rattle.plain_tree.proofs.NodeLemmas.{path_total}
use Rattle.plain_tree.proofs.LinkLemmas.{name_exact}
use Rattle.plain_tree.proofs.MoveLemmas.{both_true}
use Rattle.file_tree.specs.declared.nodes.Node.{Node}
use Rattle.file_tree.specs.declared.nodes.HeldKind.{HeldKind}
use Rattle.file_tree.specs.declared.nodes.HeldKind.TheVariants as kinds
use Rattle.file_tree.specs.Tree.{Nodes, FileTree, plain_node_of, plain_kind_of, plain_nodes, whole}
use Rattle.file_tree.specs.Mounts.{Letters}
use Rattle.file_tree.specs.Told.{place_of, told_kind_of, told_of, told_in, told_nodes}
use Rattle.file_tree.specs.Valid.{IsGood}
use Rattle.name_tries.proofs.ItemLemmas.{some_same}
use Rattle.file_tree.proofs.PathLemmas.{by_last, no_name}
use Rattle.file_tree.proofs.PlainLemmas.{plain_get}
use Rattle.file_tree.proofs.ToldLemmas.{entry_get, get_entry, entry_place, sorted_map_entries}

abbrev Path : Type 0
Path = List (List ℕ)

-- ---- paths in order

less_is : (r : Ordering) → is_lt r ≡ true → r ≡ Less
less_is Less e = refl
less_is Equal e = cc
less_is Greater e = cc

-- a path is before those that go on from it
pub parent_less : (u : Path) (x : List ℕ) → path_cmp u (u ++ x ∷ []) ≡ Less
parent_less [] x = refl
parent_less (y ∷ u) x = ap (λ r. ordering_then r (path_cmp u (u ++ x ∷ []))) (tied_itself nat_list_cmp_total y) ∙ parent_less u x

-- a path between a path and one that goes on from it by a name goes on from it
between : (u q : Path) (x : List ℕ) → is_gt (path_cmp u q) ≡ false → path_cmp q (u ++ x ∷ []) ≡ Less → (rest : Path) × (q ≡ u ++ rest)
between [] q x above less = (q, refl)
between (y ∷ u) [] x above less = cc
between (y ∷ u) (z ∷ q) x above less = by (name_cmp y z) refl above less (between u q x)
  where
    flip : (r : Ordering) → name_cmp y z ≡ r → name_cmp z y ≡ ordering_reverse r
    flip r e = nat_list_cmp_total.antisymm z y ∙ ap ordering_reverse e

    by : (r : Ordering) → name_cmp y z ≡ r → is_gt (ordering_then r (path_cmp u q)) ≡ false → ordering_then (name_cmp z y) (path_cmp q (u ++ x ∷ [])) ≡ Less
        → (is_gt (path_cmp u q) ≡ false → path_cmp q (u ++ x ∷ []) ≡ Less → (rest : Path) × (q ≡ u ++ rest)) → (rest : Path) × (z ∷ q ≡ (y ∷ u) ++ rest)
    by Less e gt lt more = let wrong : Greater ≡ Less = sym (ap (λ r. ordering_then r (path_cmp q (u ++ x ∷ []))) (flip Less e)) ∙ lt in cc
    by Equal e gt lt more =
        let found = more gt (sym (ap (λ r. ordering_then r (path_cmp q (u ++ x ∷ []))) (flip Equal e)) ∙ lt) in
        (found.0, ap (λ k. k ∷ q) (sym (name_exact y z e)) ∙ ap (λ l. y ∷ l) found.1)
    by Greater e gt lt more = cc

-- ---- places of entries

module _ {X : Type 0} where
  first_below : (es : List (Path × X)) (k p : Path) (x : X) (j : ℕ) → fin.Entries.below_all path_cmp k es ≡ true → slice_get es j ≡ Some (p, x) → path_cmp k p ≡ Less
  first_below [] k p x j below is = cc
  first_below (e ∷ es) k p x zero below is =
      ap (path_cmp k) (sym (ap (λ (r : Path × X). r.0) (some_same e (p, x) is))) ∙ less_is _ (both_true (is_lt (path_cmp k e.0)) (fin.Entries.below_all path_cmp k es) below).0
  first_below (e ∷ es) k p x (suc j) below is = first_below es k p x j (both_true (is_lt (path_cmp k e.0)) (fin.Entries.below_all path_cmp k es) below).1 is

  -- of two entries the earlier one has the earlier path
  pub ascends : (es : List (Path × X)) (i j : ℕ) (p q : Path) (x y : X) → fin.is_sorted path_cmp es ≡ true → i < j → slice_get es i ≡ Some (p, x) → slice_get es j ≡ Some (q, y) → path_cmp p q ≡ Less
  ascends [] i j p q x y sorted lt is_i is_j = cc
  ascends (e ∷ es) zero zero p q x y sorted lt is_i is_j = absurd (omega (arith, lt))
  ascends (e ∷ es) zero (suc j) p q x y sorted lt is_i is_j =
      let parts = both_true (fin.Entries.below_all path_cmp e.0 es) (fin.is_sorted path_cmp es) sorted in
      ap (λ k. path_cmp k q) (sym (ap (λ (r : Path × X). r.0) (some_same e (p, x) is_i))) ∙ first_below es e.0 q y j parts.0 is_j
  ascends (e ∷ es) (suc i) zero p q x y sorted lt is_i is_j = absurd (omega (arith, lt))
  ascends (e ∷ es) (suc i) (suc j) p q x y sorted lt is_i is_j =
      ascends es i j p q x y (both_true (fin.Entries.below_all path_cmp e.0 es) (fin.is_sorted path_cmp es) sorted).1 (omega (arith, lt)) is_i is_j

  -- where an entry stands, one stands before it too
  one_before : (es : List (Path × X)) (i : ℕ) (e : Path × X) → slice_get es (suc i) ≡ Some e → (f : Path × X) × (slice_get es i ≡ Some f)
  one_before [] i e is = cc
  one_before (f ∷ es) zero e is = (f, refl)
  one_before (f ∷ es) (suc i) e is = one_before es i e is

  some_first : (es : List (Path × X)) (i : ℕ) (e : Path × X) → slice_get es i ≡ Some e → (f : Path × X) × (slice_get es 0 ≡ Some f)
  some_first [] i e is = cc
  some_first (f ∷ es) i e is = (f, refl)

-- what stands in a list of answers
module _ {X Y : Type 0} (f : X → Y) where
  -- an element of a list that was made from another is made from one there
  pub of_mapped : (xs : List X) (i : ℕ) (y : Y) → slice_get (map f xs) i ≡ Some y → (x : X) × (slice_get xs i ≡ Some x) × (y ≡ f x)
  of_mapped [] i y is = cc
  of_mapped (x ∷ xs) zero y is = (x, refl, sym (some_same (f x) y is))
  of_mapped (x ∷ xs) (suc i) y is = of_mapped xs i y is

  at_mapped : (xs : List X) (i : ℕ) (x : X) → slice_get xs i ≡ Some x → slice_get (map f xs) i ≡ Some (f x)
  at_mapped [] i x is = cc
  at_mapped (y ∷ xs) zero x is = ap (λ z. Some (f z)) (some_same y x is)
  at_mapped (y ∷ xs) (suc i) x is = at_mapped xs i x is

-- no path is before the root's
none_less : (p : Path) → path_cmp p [] ≡ Less → ⊥
none_less [] e = cc
none_less (x ∷ p) e = cc

whole_path : (p : Path) → p ++ [] ≡ p
whole_path [] = refl
whole_path (x ∷ p) = ap (λ l. x ∷ l) (whole_path p)

joined : (p q r : Path) → p ++ (q ++ r) ≡ (p ++ q) ++ r
joined [] q r = refl
joined (x ∷ p) q r = ap (λ l. x ∷ l) (joined p q r)

-- of two numbers one is the less, or they are the same
pub trichotomy : (i j : ℕ) (P : Type 0) → (i < j → P) → (i ≡ j → P) → (j < i → P) → P
trichotomy zero zero P lt eq gt = eq refl
trichotomy zero (suc j) P lt eq gt = lt (omega arith)
trichotomy (suc i) zero P lt eq gt = gt (omega arith)
trichotomy (suc i) (suc j) P lt eq gt = trichotomy i j P (λ e. lt (omega (arith, e))) (λ e. eq (ap suc e)) (λ e. gt (omega (arith, e)))

-- the earlier path has the earlier place
earlier : (m : Nodes) (i j : ℕ) (p q : Path) (x y : Node) → slice_get (fin.entries m) i ≡ Some (p, x) → slice_get (fin.entries m) j ≡ Some (q, y) → path_cmp p q ≡ Less → i < j
earlier m i j p q x y is_i is_j less = trichotomy i j (i < j)
    (λ lt. lt)
    (λ same.
    let e : p ≡ q = ap (λ (r : Path × Node). r.0) (some_same (p, x) (q, y) (sym is_i ∙ ap (slice_get (fin.entries m)) same ∙ is_j)) in
    let wrong : Equal ≡ Less = sym (tied_itself path_total p) ∙ ap (path_cmp p) e ∙ less in cc)
    (λ gt.
    let back = ascends (fin.entries m) j i q p y x (sorted_map_entries m) gt is_j is_i in
    let wrong : Greater ≡ Less = sym (path_total.antisymm p q ∙ ap ordering_reverse back) ∙ less in cc)

-- ---- nodes of a valid tree

abbrev second : Option (ℕ × Bool) → Bool
second None = false
second (Some v) = v.1

is_dir_plain : (kind : HeldKind) → is_dir (plain_kind_of whole kind) ≡ true → kind ≡ kinds.Dir
is_dir_plain kinds.Dir e = refl
is_dir_plain (kinds.File room) e = cc
is_dir_plain (kinds.Link text) e = cc

-- what is marked as a directory is one
dir_marked : (m : Nodes) (p : Path) (uid : ℕ) → mark_at (plain_nodes whole m) p ≡ Some (uid, true) → (node : Node) × (fin.get m p ≡ Some node) × (node.kind ≡ kinds.Dir)
dir_marked m p uid mark = by (fin.get m p) refl
  where
    by : (o : Option Node) → fin.get m p ≡ o → (node : Node) × (fin.get m p ≡ Some node) × (node.kind ≡ kinds.Dir)
    by None e = let wrong : ◌≡◌ {A = Option (ℕ × Bool)} None (Some (uid, true)) = sym (ap mark_of (plain_get whole m p ∙ ap (option_map (plain_node_of whole)) e)) ∙ mark in cc
    by (Some n) e =
        let told : Some (n.uid, is_dir (plain_kind_of whole n.kind)) ≡ Some (uid, true) = sym (ap mark_of (plain_get whole m p ∙ ap (option_map (plain_node_of whole)) e)) ∙ mark in
        (n, e, is_dir_plain n.kind (ap second told))

module _ (letters : Letters) (volume : List ℕ) (m : Nodes) (count highest : ℕ) (shape : IsShape (mark_at (plain_nodes whole m)) count highest) where
  abbrev nodes : List told.Node
  nodes = told_in letters volume m

  abbrev tell : (Path × Node) → told.Node
  tell = told_of letters volume (fin.keys m)

  -- the node at each place is told of the entry there
  pub entry_at : (at : ℕ) (node : told.Node) → IsAt nodes at node → (e : Path × Node) × (slice_get (fin.entries m) at ≡ Some e) × (node ≡ tell e)
  entry_at = of_mapped tell (fin.entries m)

  -- an entry of the map is told as a node at its place
  pub at_entry : (at : ℕ) (e : Path × Node) → slice_get (fin.entries m) at ≡ Some e → IsAt nodes at (tell e)
  at_entry = at_mapped tell (fin.entries m)

  -- the root is the first entry
  pub root_entry : (node : Node) × (slice_get (fin.entries m) 0 ≡ Some ([], node)) × (node.kind ≡ kinds.Dir)
  root_entry =
      let found = dir_marked m [] 1 shape.root in
      let entry = get_entry m [] found.0 found.1 in
      (found.0, by found.0 entry.0 entry.1, found.2)
    where
      by : (node : Node) (i : ℕ) → slice_get (fin.entries m) i ≡ Some ([], node) → slice_get (fin.entries m) 0 ≡ Some ([], node)
      by node zero is = is
      by node (suc i) is =
          let first = some_first (fin.entries m) (suc i) ([], node) is in
          absurd (none_less first.0.0 (ascends (fin.entries m) 0 (suc i) first.0.0 [] first.0.1 node (sorted_map_entries m) (omega arith) first.1 is))

  -- the path of the root stands first
  pub root_place : (at : ℕ) (p : Path) (n : Node) → slice_get (fin.entries m) at ≡ Some (p, n) → p ≡ [] → at ≡ 0
  root_place at p n is e =
      sym (entry_place m at p n is) ∙ ap (λ q. place_of q (fin.keys m)) e ∙ entry_place m 0 [] root_entry.0 root_entry.1

  -- the directory of a node that isn't the root stands before it
  pub record IsUp (at : ℕ) (u : Path) (x : List ℕ) (n : Node) : Type 0 where
    pub place : ℕ
    pub dir : Node
    pub is : slice_get (fin.entries m) place ≡ Some (u, dir)
    pub kind : dir.kind ≡ kinds.Dir
    pub before : place < at
    pub parent : (tell (u ++ x ∷ [], n)).parent ≡ place

  -- the directory of an entry stands before it, and is told as its parent
  pub up : (at : ℕ) (u : Path) (x : List ℕ) (n : Node) → slice_get (fin.entries m) at ≡ Some (u ++ x ∷ [], n) → IsUp at u x n
  up at u x n is =
      let mark : mark_at (plain_nodes whole m) (u ++ x ∷ []) ≡ Some (n.uid, is_dir (plain_kind_of whole n.kind)) = ap mark_of (plain_get whole m (u ++ x ∷ []) ∙ ap (option_map (plain_node_of whole)) (entry_get m at (u ++ x ∷ []) n is)) in
      let above = shape.parents (u ++ x ∷ []) n.uid (is_dir (plain_kind_of whole n.kind)) mark (no_name u x) in
      let found = dir_marked m u above.0 (ap (mark_at (plain_nodes whole m)) (sym (parent_ends u x)) ∙ above.1) in
      let entry = get_entry m u found.0 found.1 in
      record {
        place = entry.0;
        dir = found.0;
        is = entry.1;
        kind = found.2;
        before = earlier m entry.0 at u (u ++ x ∷ []) found.0 n entry.1 is (parent_less u x);
        parent = ap (λ q. place_of q (fin.keys m)) (parent_ends u x) ∙ entry_place m entry.0 u found.0 entry.1;
      }

  -- a node whose path goes on from another's lies in that
  climbs : (n : ℕ) (rest u : Path) (l : ℕ) (dir : Node) → length rest ≡ n → slice_get (fin.entries m) l ≡ Some (u, dir) → (k : ℕ) (node : Node) → slice_get (fin.entries m) k ≡ Some (u ++ rest, node) → LiesIn nodes k l
  climbs zero [] u l dir long is_l k node is_k =
      let same : l ≡ k = sym (entry_place m l u dir is_l) ∙ ap (λ q. place_of q (fin.keys m)) (sym (whole_path u)) ∙ entry_place m k (u ++ []) node is_k in
      subst (LiesIn nodes k) (sym same) (itself k)
  climbs zero (y ∷ rest) u l dir long is_l k node is_k = absurd (omega (arith, long))
  climbs (suc n) rest u l dir long is_l k node is_k = ⊎_elim
      (λ (e : rest ≡ []). absurd (omega (arith, ap length e, long)))
      (λ (more : (r : Path) × (x : List ℕ) × (rest ≡ r ++ x ∷ [])).
      let r = more.0 in
      let x = more.1 in
      let path : u ++ rest ≡ (u ++ r) ++ x ∷ [] = ap (λ q. u ++ q) more.2 ∙ joined u r (x ∷ []) in
      let here : slice_get (fin.entries m) k ≡ Some ((u ++ r) ++ x ∷ [], node) = is_k ∙ ap (λ q. Some (q, node)) path in
      let above = up k (u ++ r) x node here in
      let shorter : length r ≡ n = omega (arith, long, ap length more.2, length-append r (x ∷ [])) in
      through k l (tell ((u ++ r) ++ x ∷ [], node)) (omega (arith, above.before)) (at_entry k ((u ++ r) ++ x ∷ [], node) here)
      (subst (λ j. LiesIn nodes j l) (sym above.parent) (climbs n r u l dir shorter is_l above.place above.dir above.is)))
      (by_last rest)

  -- a node that isn't the first, by its path
  pub record IsLater (at : ℕ) (node : told.Node) : Type 0 where
    pub u : Path
    pub x : List ℕ
    pub n : Node
    pub is : slice_get (fin.entries m) at ≡ Some (u ++ x ∷ [], n)
    pub told_is : node ≡ tell (u ++ x ∷ [], n)

  -- a node other than the root comes after its directory, and behind what is in it
  pub later : (at : ℕ) (node : told.Node) → 0 < at → IsAt nodes at node → IsLater at node
  later at node some is =
      let e = entry_at at node is in
      ⊎_elim
      (λ (root : e.0.0 ≡ []). absurd (omega (arith, some, root_place at e.0.0 e.0.1 e.1 root)))
      (λ (more : (u : Path) × (x : List ℕ) × (e.0.0 ≡ u ++ x ∷ [])). record {
        u = more.0;
        x = more.1;
        n = e.0.1;
        is = e.1 ∙ ap (λ q. Some (q, e.0.1)) more.2;
        told_is = e.2 ∙ ap (λ q. tell (q, e.0.1)) more.2;
      })
      (by_last e.0.0)

  parent_before : (at : ℕ) (node : told.Node) → 0 < at → IsAt nodes at node → node.parent < at
  parent_before at node some is =
      let l = later at node some is in
      let above = up at l.u l.x l.n l.is in
      omega (arith, above.before, above.parent, ap (λ (n : told.Node). n.parent) l.told_is)

  dir_at : (k : ℕ) (p : Path) (dir : Node) → slice_get (fin.entries m) k ≡ Some (p, dir) → dir.kind ≡ kinds.Dir → IsDirAt nodes k
  dir_at k p dir is kind = record { node = tell (p, dir); is = at_entry k (p, dir) is; dir = ap (told_kind_of letters) kind }

  parent_dir : (at : ℕ) (node : told.Node) → IsAt nodes at node → IsDirAt nodes node.parent
  parent_dir zero node is =
      let same : node ≡ tell ([], root_entry.0) = some_same node (tell ([], root_entry.0)) (sym is ∙ at_entry 0 ([], root_entry.0) root_entry.1) in
      let top : node.parent ≡ 0 = ap (λ (n : told.Node). n.parent) same ∙ entry_place m 0 [] root_entry.0 root_entry.1 in
      subst (IsDirAt nodes) (sym top) (dir_at 0 [] root_entry.0 root_entry.1 root_entry.2)
  parent_dir (suc at) node is =
      let l = later (suc at) node (omega arith) is in
      let above = up (suc at) l.u l.x l.n l.is in
      subst (IsDirAt nodes) (sym (ap (λ (n : told.Node). n.parent) l.told_is ∙ above.parent)) (dir_at above.place l.u above.dir above.is above.kind)

  lies_before : (at : ℕ) (node : told.Node) → IsAt nodes (suc at) node → LiesIn nodes at node.parent
  lies_before at node is =
      let l = later (suc at) node (omega arith) is in
      let above = up (suc at) l.u l.x l.n l.is in
      let f = one_before (fin.entries m) at (l.u ++ l.x ∷ [], l.n) l.is in
      let less = ascends (fin.entries m) at (suc at) f.0.0 (l.u ++ l.x ∷ []) f.0.1 l.n (sorted_map_entries m) (omega arith) f.1 l.is in
      let found = between l.u f.0.0 l.x (not_after above.place l.u above.dir above.is f.0 f.1 above.before) less in
      subst (LiesIn nodes at) (sym (ap (λ (n : told.Node). n.parent) l.told_is ∙ above.parent))
      (climbs (length found.0) found.0 l.u above.place above.dir refl above.is at f.0.1 (f.1 ∙ ap (λ q. Some (q, f.0.1)) found.1))
    where
      not_after : (place : ℕ) (u : Path) (dir : Node) → slice_get (fin.entries m) place ≡ Some (u, dir) → (f : Path × Node) → slice_get (fin.entries m) at ≡ Some f → place < suc at → is_gt (path_cmp u f.0) ≡ false
      not_after place u dir is_u f is_f lt = trichotomy place at (is_gt (path_cmp u f.0) ≡ false)
          (λ before. ap is_gt (ascends (fin.entries m) place at u f.0 dir f.1 (sorted_map_entries m) before is_u is_f))
          (λ same.
          let e : u ≡ f.0 = ap (λ (r : Path × Node). r.0) (some_same (u, dir) f (sym is_u ∙ ap (slice_get (fin.entries m)) same ∙ is_f)) in
          ap is_gt (ap (path_cmp u) (sym e) ∙ tied_itself path_total u))
          (λ after. absurd (omega (arith, lt, after)))

  pub in_order : AreInOrder nodes
  in_order = record {
    root = tell ([], root_entry.0);
    first = at_entry 0 ([], root_entry.0) root_entry.1;
    is_root = record { parent = entry_place m 0 [] root_entry.0 root_entry.1; dir = ap (told_kind_of letters) root_entry.2 };
    before = parent_before;
    dirs = parent_dir;
    together = lies_before;
  }

-- the nodes that a tree tells are in the order of a document
pub told_in_order : (letters : Letters) (t : FileTree) → IsGood t → AreInOrder (told_nodes letters t)
told_in_order letters t good = in_order letters t.name t.nodes (fin.len (plain_nodes whole t.nodes)) t.highest (good.valid whole)
