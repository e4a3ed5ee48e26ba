-- That an index whose nodes stand by their names is told again by its tree.
use Rattle.std.proofs.Common.{Option, ◌≡◌, ◌⊎◌, ℕ, zero, suc, ◌+◌, ◌<◌, ◌≤◌, List, [], ◌∷◌, ◌++◌, length, map, Some, None, sym, ap, ◌∙◌, refl, subst, arith, inl, inr, ⊎_elim}
use Rattle.std.specs.List.{slice_get}
use Rattle.std.specs.Option.{option_map}
use Rattle.std.specs.Ordering.{ordering_reverse, ordering_then}
use Rattle.std.specs.declared.cmp.Ordering.TheVariants.{Less, Equal, Greater}
use Rattle.std.specs.Cmp.Lexicographic.{nat_list_cmp_total}
use Rattle.std.specs.FinMap as fin
use Rattle.std.proofs.lemmas.Bool.{cases_lt}
use Rattle.std.proofs.lemmas.Cmp.{tied_itself}
use Rattle.std.proofs.lemmas.List.{append-nil}
use Rattle.std.proofs.lemmas.Option.{slice_get_within}
use Rattle.file_tree.proofs.EditLemmas.{parent_ends}
use Rattle.tape_types.specs.NodeKeys.Keys.{list_of}
use Rattle.index_model.specs.declared.indexes.Index.{Index}
use Rattle.index_model.specs.declared.nodes.Node as told
use Rattle.index_model.specs.declared.nodes.NodeKind as told_kind
use Rattle.index_model.specs.declared.nodes.NodeKind.TheVariants as told_kinds
use Rattle.index_model.specs.Order.{AreInOrder, LiesIn, itself, through}
use Rattle.index_model.specs.Places.{IsAt}
use Rattle.plain_tree.specs.Links.{name_cmp}
use Rattle.plain_tree.specs.Paths.{path_cmp, parent_of, last_name}
use Rattle.plain_tree.proofs.NodeLemmas.{path_total}
use Rattle.extent_map.specs.Laid.{Laid}
use Rattle.file_tree.specs.declared.nodes.Node.{Node}
use Rattle.file_tree.specs.declared.nodes.HeldKind.{HeldKind}
use Rattle.plain_tree.specs.Paths.{Name, Path}
use Rattle.file_tree.specs.Tree.{Nodes, FileTree}
use Rattle.file_tree.specs.Mounts.{Letters, IsKindOf, IsNodeOf, IsPathOf, IsBuilt, CanMount, IsTreeOf}
use Rattle.file_tree.specs.Mounts.IsPathOf.{root, below}
use Rattle.file_tree.specs.Told.{raw_of, place_of, name_or, told_kind_of, told_of, told_nodes}
use Rattle.file_tree.specs.Indexes.{NamesAscend, kind_in_order, node_in_order, IndexesAreToldAgain}
use Rattle.name_tries.proofs.ItemLemmas.{some_same}
use Rattle.file_tree.proofs.PathLemmas.{by_last, no_name}
use Rattle.file_tree.proofs.ToldLemmas.{entry_get, get_entry, entry_place, sorted_map_entries, last_is}
use Rattle.file_tree.proofs.OrderLemmas.{parent_less, ascends}
use Rattle.file_tree.proofs.MountLemmas.{at_path, told_at, path_once, ends}

-- ---- lists

same_by_get : {X : Type 0} (xs ys : List X) → ((i : ℕ) → slice_get xs i ≡ slice_get ys i) → xs ≡ ys
same_by_get [] [] same = refl
same_by_get [] (y ∷ ys) same = let wrong : None ≡ Some y = same 0 in cc
same_by_get (x ∷ xs) [] same = let wrong : Some x ≡ None = same 0 in cc
same_by_get (x ∷ xs) (y ∷ ys) same = ap (λ z. z ∷ xs) (some_same x y (same 0)) ∙ ap (λ l. y ∷ l) (same_by_get xs ys (λ i. same (suc i)))

get_map : {X Y : Type 0} (f : X → Y) (xs : List X) (i : ℕ) → (o : Option X) → slice_get xs i ≡ o → slice_get (map f xs) i ≡ option_map f o
get_map f [] i o is = ap (option_map f) is
get_map f (x ∷ xs) zero o is = ap (option_map f) is
get_map f (x ∷ xs) (suc i) o is = get_map f xs i o is

none_past : {X : Type 0} (xs : List X) (i : ℕ) → slice_get xs i ≡ None → length xs ≤ i
none_past [] i is = omega arith
none_past (x ∷ xs) zero is = cc
none_past (x ∷ xs) (suc i) is = omega (arith, none_past xs i is)

some_in : {X : Type 0} (xs : List X) (i : ℕ) → i < length xs → (x : X) × (slice_get xs i ≡ Some x)
some_in [] i lt = absurd (omega (arith, lt))
some_in (x ∷ xs) zero lt = (x, refl)
some_in (x ∷ xs) (suc i) lt = some_in xs i (omega (arith, lt))

-- a rising sequence of numbers below a count is the sequence of places
at_least : (count : ℕ) (f : ℕ → ℕ) → ((i : ℕ) → suc i < count → f i < f (suc i)) → (i : ℕ) → i < count → i ≤ f i
at_least count f rises zero lt = omega arith
at_least count f rises (suc i) lt = omega (arith, rises i lt, at_least count f rises i (omega (arith, lt)))

at_most : (count : ℕ) (f : ℕ → ℕ) → ((i : ℕ) → suc i < count → f i < f (suc i)) → ((i : ℕ) → i < count → f i < count) → (left i : ℕ) → i + suc left ≡ count → f i ≤ i
at_most count f rises within zero i is = omega (arith, within i (omega (arith, is)), is)
at_most count f rises within (suc left) i is = omega (arith, rises i (omega (arith, is)), at_most count f rises within left (suc i) (omega (arith, is)))

-- ---- paths of siblings

sibling_less : (u rest : Path) (x y : Name) → name_cmp x y ≡ Less → path_cmp ((u ++ x ∷ []) ++ rest) (u ++ y ∷ []) ≡ Less
sibling_less [] rest x y less = ap (λ r. ordering_then r (path_cmp rest [])) less
sibling_less (z ∷ u) rest x y less = ap (λ r. ordering_then r (path_cmp ((u ++ x ∷ []) ++ rest) (u ++ y ∷ []))) (tied_itself nat_list_cmp_total z) ∙ sibling_less u rest x y less

joined : (p q r : Path) → (p ++ q) ++ r ≡ p ++ (q ++ r)
joined [] q r = refl
joined (x ∷ p) q r = ap (λ l. x ∷ l) (joined p q r)

module _ (nodes : List told.Node) (order : AreInOrder nodes) (ascend : NamesAscend nodes) where
  -- the child of an upper node on the way to one that lies in it
  record OnTheWay (at upper : ℕ) (u p : Path) : Type 0 where
    child : ℕ
    node : told.Node
    some : 0 < child
    is : IsAt nodes child node
    before : child ≤ at
    parent : node.parent ≡ upper
    rest : Path
    path : p ≡ (u ++ node.name ∷ []) ++ rest

  climb : (at upper : ℕ) (u p : Path) → LiesIn nodes at upper → IsPathOf nodes at p → IsPathOf nodes upper u → (at ≡ upper) ⊎ OnTheWay at upper u p
  climb _ _ u p (itself at) way up = inl refl
  climb _ _ u p (through at upper node some is deeper) way up = ⊎_elim
      (λ (e : p ≡ []). absurd (not_root at node p some is way e))
      (λ (more : (v : Path) × (x : Name) × (p ≡ v ++ x ∷ [])).
      let end = ends nodes at p more.0 more.1 way more.2 in
      let node_is : end.node ≡ node = some_same end.node node (sym end.is ∙ is) in
      let front : IsPathOf nodes node.parent more.0 = subst (λ (n : told.Node). IsPathOf nodes n.parent more.0) node_is end.way in
      let named : more.1 ≡ node.name = sym end.named ∙ ap (λ (n : told.Node). n.name) node_is in
      inr (by at upper node some is more.0 more.1 more.2 front named up (climb node.parent upper u more.0 deeper front up)))
      (by_last p)
    where
      not_root : (at : ℕ) (node : told.Node) (p : Path) → 0 < at → IsAt nodes at node → IsPathOf nodes at p → p ≡ [] → ⊥
      not_root at node p some is way e = top at p way e some
        where
          top : (at : ℕ) (p : Path) → IsPathOf nodes at p → p ≡ [] → 0 < at → ⊥
          top _ _ root e some = absurd (omega (arith, some))
          top _ _ (below at node front lt is way) e some = no_name front node.name e

      by : (at upper : ℕ) (node : told.Node) → 0 < at → IsAt nodes at node → (v : Path) (x : Name) → p ≡ v ++ x ∷ [] → IsPathOf nodes node.parent v → x ≡ node.name → IsPathOf nodes upper u
          → (node.parent ≡ upper) ⊎ OnTheWay node.parent upper u v → OnTheWay at upper u p
      by at upper node some is v x path front named up (inl e) = record {
        child = at;
        node = node;
        some = some;
        is = is;
        before = omega arith;
        parent = e;
        rest = [];
        path = path ∙ ap (λ q. q ++ x ∷ []) (path_once nodes node.parent upper v u e front up) ∙ ap (λ y. u ++ y ∷ []) named ∙ sym (append-nil (u ++ node.name ∷ []));
      }
      by at upper node some is v x path front named up (inr on) = record {
        child = on.child;
        node = on.node;
        some = on.some;
        is = on.is;
        before = omega (arith, on.before, order.before at node some is);
        parent = on.parent;
        rest = on.rest ++ x ∷ [];
        path = path ∙ ap (λ q. q ++ x ∷ []) on.path ∙ joined (u ++ on.node.name ∷ []) on.rest (x ∷ []);
      }

  -- the path of the next place is behind
  next_less : (at : ℕ) (p q : Path) (node : told.Node) → IsAt nodes (suc at) node → IsPathOf nodes at p → IsPathOf nodes (suc at) q → path_cmp p q ≡ Less
  next_less at p q node is way next = ⊎_elim
      (λ (e : q ≡ []). absurd (at_root next e))
      (λ (more : (u : Path) × (x : Name) × (q ≡ u ++ x ∷ [])).
      let end = ends nodes (suc at) q more.0 more.1 next more.2 in
      let node_is : end.node ≡ node = some_same end.node node (sym end.is ∙ is) in
      let up : IsPathOf nodes node.parent more.0 = subst (λ (n : told.Node). IsPathOf nodes n.parent more.0) node_is end.way in
      let named : node.name ≡ more.1 = ap (λ (n : told.Node). n.name) (sym node_is) ∙ end.named in
      ap (path_cmp p) more.2 ∙ ⊎_elim
      (λ (e : at ≡ node.parent). ap (λ r. path_cmp r (more.0 ++ more.1 ∷ [])) (path_once nodes at node.parent p more.0 e way up) ∙ parent_less more.0 more.1)
      (λ (on : OnTheWay at node.parent more.0 p).
      ap (λ r. path_cmp r (more.0 ++ more.1 ∷ [])) on.path
      ∙ sibling_less more.0 on.rest on.node.name more.1 (ap (name_cmp on.node.name) (sym named) ∙ ascend on.child (suc at) on.node node on.some (omega (arith, on.before)) on.is is on.parent))
      (climb at node.parent more.0 p (order.together at node is) way up))
      (by_last q)
    where
      at_root : IsPathOf nodes (suc at) q → q ≡ [] → ⊥
      at_root next e = top (suc at) q next e (omega arith)
        where
          top : (at : ℕ) (p : Path) → IsPathOf nodes at p → p ≡ [] → 0 < at → ⊥
          top _ _ root e some = absurd (omega (arith, some))
          top _ _ (below at node front lt is way) e some = no_name front node.name e

module _ (letters : Letters) (size : ℕ) (index : Index) (can : CanMount index letters size) (ascend : NamesAscend index.nodes) (t : FileTree) (tree : IsTreeOf letters size index t) where
  abbrev nodes : List told.Node
  nodes = index.nodes

  abbrev m : Nodes
  m = t.nodes

  abbrev order : AreInOrder index.nodes
  order = can.valid.formed.order

  abbrev built : IsBuilt letters size index.nodes (length index.nodes) t.nodes
  built = tree.nodes

  -- each place has a path
  path_at : (at : ℕ) → at < length nodes → (p : Path) × IsPathOf nodes at p
  path_at at lt = let node = some_in nodes at lt in let s = built.each at node.0 lt node.1 in (s.path, s.path_is)

  -- the path of a later place is behind
  all_less : (i j : ℕ) (p q : Path) → i < j → j < length nodes → IsPathOf nodes i p → IsPathOf nodes j q → path_cmp p q ≡ Less
  all_less i zero p q lt within way next = absurd (omega (arith, lt))
  all_less i (suc j) p q lt within way next =
      let node = some_in nodes (suc j) within in
      ⊎_elim
      (λ (before : i < j).
      let mid = path_at j (omega (arith, within)) in
      path_total.trans p mid.0 q (all_less i j p mid.0 before (omega (arith, within)) way mid.1) (next_less nodes order ascend j mid.0 q node.0 node.1 mid.1 next))
      (λ (from : j ≤ i).
      let e : i ≡ j = omega (arith, from, lt) in
      next_less nodes order ascend j p q node.0 node.1 (subst (λ k. IsPathOf nodes k p) e way) next)
      (cases_lt i j)

  -- the number of the entry at a place, and 0 past the end
  abbrev number_in : Option (Path × Node) → ℕ
  number_in None = 0
  number_in (Some e) = e.1.number

  abbrev number_of : ℕ → ℕ
  number_of i = number_in (slice_get (fin.entries m) i)

  count_is : length (fin.entries m) ≡ length nodes
  count_is = sym (fin.len-entries m) ∙ built.count

  entry : (i : ℕ) → i < length nodes → (e : Path × Node) × (slice_get (fin.entries m) i ≡ Some e)
  entry i lt = some_in (fin.entries m) i (omega (arith, lt, count_is))

  told_entry : (i : ℕ) (e : Path × Node) → slice_get (fin.entries m) i ≡ Some e → (node : told.Node) × IsAt nodes e.1.number node × IsPathOf nodes e.1.number e.0 × IsNodeOf letters size node e.1
  told_entry i e is = told_at letters size nodes (length nodes) m built e.0 e.1 (entry_get m i e.0 e.1 is)

  rises : (i : ℕ) → suc i < length nodes → number_of i < number_of (suc i)
  rises i lt =
      let a = entry i (omega (arith, lt)) in
      let b = entry (suc i) lt in
      let one = told_entry i a.0 a.1 in
      let two = told_entry (suc i) b.0 b.1 in
      let less : path_cmp a.0.0 b.0.0 ≡ Less = ascends (fin.entries m) i (suc i) a.0.0 b.0.0 a.0.1 b.0.1 (sorted_map_entries m) (omega arith) a.1 b.1 in
      let up : a.0.1.number < b.0.1.number = by a.0.1.number b.0.1.number a.0.0 b.0.0 less one.2 two.2 (slice_get_within nodes a.0.1.number one.0 one.1) in
      omega (arith, up, ap number_in a.1, ap number_in b.1)
    where
      by : (j k : ℕ) (p q : Path) → path_cmp p q ≡ Less → IsPathOf nodes j p → IsPathOf nodes k q → j < length nodes → j < k
      by j k p q less way next within = ⊎_elim
          (λ (lt : j < k). lt)
          (λ (ge : k ≤ j). ⊎_elim
          (λ (gt : k < j).
          let wrong : Less ≡ Greater = sym less ∙ path_total.antisymm p q ∙ ap ordering_reverse (all_less k j q p gt within next way) in cc)
          (λ (le : j ≤ k).
          let e : j ≡ k = omega (arith, le, ge) in
          let same : p ≡ q = path_once nodes j k p q e way next in
          let wrong : Equal ≡ Less = sym (tied_itself path_total p) ∙ ap (path_cmp p) same ∙ less in cc)
          (cases_lt k j))
          (cases_lt j k)

  below_count : (i : ℕ) → i < length nodes → number_of i < length nodes
  below_count i lt =
      let a = entry i lt in
      let one = told_entry i a.0 a.1 in
      omega (arith, slice_get_within nodes a.0.1.number one.0 one.1, ap number_in a.1)

  -- the entry at a place has it as its number
  in_place : (i : ℕ) (e : Path × Node) → slice_get (fin.entries m) i ≡ Some e → e.1.number ≡ i
  in_place i e is =
      let lt : i < length nodes = omega (arith, slice_get_within (fin.entries m) i e is, count_is) in
      let left = some_left i (length nodes) lt in
      let least = at_least (length nodes) number_of rises i lt in
      let most = at_most (length nodes) number_of rises below_count left.0 i left.1 in
      omega (arith, least, most, ap number_in is)
    where
      some_left : (i n : ℕ) → i < n → (left : ℕ) × (i + suc left ≡ n)
      some_left zero zero lt = absurd (omega (arith, lt))
      some_left zero (suc n) lt = (n, omega arith)
      some_left (suc i) zero lt = absurd (omega (arith, lt))
      some_left (suc i) (suc n) lt = let more = some_left i n (omega (arith, lt)) in (more.0, omega (arith, more.1))

  abbrev tell : (Path × Node) → told.Node
  tell = told_of letters t.name (fin.keys m)

  kind_again : (kind : told_kind.NodeKind) (k : HeldKind) → IsKindOf letters size kind k → told_kind_of letters k ≡ kind_in_order letters size kind
  kind_again told_kinds.Dir k is = ap (told_kind_of letters) is
  kind_again (told_kinds.Link text) k is = ap (told_kind_of letters) is
  kind_again (told_kinds.File bytes raws) k is = ap (told_kind_of letters) is.1 ∙ ap (λ (f : Laid). told_kinds.File f.length (map (raw_of letters) f.extents)) is.2

  -- where a node is told to be, and under which name
  record IsPlacedSo (node : told.Node) (e : Path × Node) : Type 0 where
    parent : (tell e).parent ≡ node.parent
    name : (tell e).name ≡ node.name

  placed_so : (i : ℕ) (e : Path × Node) → slice_get (fin.entries m) i ≡ Some e → (node : told.Node) → IsAt nodes i node → IsPathOf nodes i e.0 → IsPlacedSo node e
  placed_so i e is node at way = ⊎_elim
      (λ (top : e.0 ≡ []).
      let zero_is : i ≡ 0 = root_place i e.0 way top in
      let root_is : order.root ≡ node = some_same order.root node (sym order.first ∙ ap (slice_get nodes) (sym zero_is) ∙ at) in
      record {
        parent = ap (λ q. place_of (parent_of q) (fin.keys m)) top ∙ ap (λ q. place_of q (fin.keys m)) (sym top) ∙ entry_place m i e.0 e.1 is ∙ zero_is ∙ sym order.is_root.parent ∙ ap (λ (n : told.Node). n.parent) root_is;
        name = ap (λ q. name_or t.name (last_name q)) top ∙ tree.name order.root order.first ∙ ap (λ (n : told.Node). n.name) root_is;
      })
      (λ (more : (u : Path) × (x : Name) × (e.0 ≡ u ++ x ∷ [])).
      let end = ends nodes i e.0 more.0 more.1 way more.2 in
      let node_is : end.node ≡ node = some_same end.node node (sym end.is ∙ at) in
      let before : end.node.parent < i = order.before i end.node end.behind end.is in
      let early : end.node.parent < length nodes = omega (arith, before, slice_get_within nodes i node at) in
      let dir = some_in nodes end.node.parent early in
      let found = at_path letters size nodes (length nodes) m built end.node.parent dir.0 more.0 early dir.1 end.way in
      let above = get_entry m more.0 found.0 found.1 in
      let number : above.0 ≡ end.node.parent = sym (in_place above.0 (more.0, found.0) above.1) ∙ found.2 in
      record {
        parent = ap (λ q. place_of (parent_of q) (fin.keys m)) more.2 ∙ ap (λ q. place_of q (fin.keys m)) (parent_ends more.0 more.1) ∙ entry_place m above.0 more.0 found.0 above.1 ∙ number ∙ ap (λ (n : told.Node). n.parent) node_is;
        name = ap (λ q. name_or t.name (last_name q)) more.2 ∙ ap (name_or t.name) (last_is more.0 more.1) ∙ sym end.named ∙ ap (λ (n : told.Node). n.name) node_is;
      })
      (by_last e.0)
    where
      root_place : (at : ℕ) (p : Path) → IsPathOf nodes at p → p ≡ [] → at ≡ 0
      root_place _ _ root e = refl
      root_place _ _ (below at node front lt is way) e = absurd (no_name front node.name e)

  told_same : (i : ℕ) (e : Path × Node) → slice_get (fin.entries m) i ≡ Some e → (node : told.Node) × IsAt nodes i node × (tell e ≡ node_in_order letters size node)
  told_same i e is =
      let told = told_entry i e is in
      let number : e.1.number ≡ i = in_place i e is in
      let at : IsAt nodes i told.0 = subst (λ k. IsAt nodes k told.0) number told.1 in
      let placed = placed_so i e is told.0 at (subst (λ k. IsPathOf nodes k e.0) number told.2) in (
        told.0,
        at,
        λ i. record {
          parent = placed.parent i;
          uid = told.3.uid i;
          name = placed.name i;
          times = told.3.times i;
          readonly = told.3.readonly i;
          xattrs = list_of (told.3.keys i);
          kind = kind_again told.0.kind e.1.kind told.3.kind i;
        },
      )

  pub told_again : told_nodes letters t ≡ map (node_in_order letters size) nodes
  told_again = same_by_get (map tell (fin.entries m)) (map (node_in_order letters size) nodes) (λ i. by i (slice_get (fin.entries m) i) refl)
    where
      by : (i : ℕ) (o : Option (Path × Node)) → slice_get (fin.entries m) i ≡ o → slice_get (map tell (fin.entries m)) i ≡ slice_get (map (node_in_order letters size) nodes) i
      by i None is = get_map tell (fin.entries m) i None is ∙ sym (get_map (node_in_order letters size) nodes i None (none i (slice_get nodes i) refl (none_past (fin.entries m) i is)))
        where
          none : (i : ℕ) (o : Option told.Node) → slice_get nodes i ≡ o → length (fin.entries m) ≤ i → slice_get nodes i ≡ None
          none i None e past = e
          none i (Some node) e past = absurd (omega (arith, past, count_is, slice_get_within nodes i node e))
      by i (Some e) is = let found = told_same i e is in
          get_map tell (fin.entries m) i (Some e) is ∙ ap (λ n. Some n) found.2 ∙ sym (get_map (node_in_order letters size) nodes i (Some found.0) found.1)

-- an index whose nodes stand by their names is told again by its tree
pub indexes_are_told_again : IndexesAreToldAgain
indexes_are_told_again letters size index t can ascend tree = told_again letters size index can ascend t tree
