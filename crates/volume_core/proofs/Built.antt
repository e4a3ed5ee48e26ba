-- Each valid index has a tree, wherever its extents lie.
use Rattle.std.proofs.Common.{◌≡◌, ⊎_elim, ℕ, zero, suc, ◌+◌, ◌<◌, ◌≤◌, cond, List, [], ◌∷◌, ◌++◌, length, Option}
use Rattle.std.proofs.Common.{Some, None, is_some, refl, sym, ap, subst, ◌∙◌, arith}
use Rattle.std.specs.FinMap as fin
use Rattle.std.proofs.lemmas.Bool.{cases_lt}
use Rattle.std.proofs.lemmas.Option.{slice_get_within}
use Rattle.index_model.specs.Names.{AreNamesApart, HaveOneName}
use Rattle.index_model.specs.Order.{AreInOrder, IsDirAt}
use Rattle.index_model.specs.Places.{IsAt}
use Rattle.index_model.specs.Valid.{IsValid}
use Rattle.index_model.specs.declared.indexes.Index.{Index}
use Rattle.index_model.specs.declared.nodes.Node as told
use Rattle.plain_tree.proofs.NodeLemmas.{path_total}
use Rattle.plain_tree.proofs.SeenLemmas.{unlike}
use Rattle.file_tree.specs.Mounts.{IsBuilt, IsNodeOf, IsPathOf, IsTold, IsTreeOf, Letters, Stands}
use Rattle.file_tree.specs.Mounts.IsPathOf.{below}
use Rattle.file_tree.specs.Tree.{FileTree, Nodes}
use Rattle.file_tree.specs.declared.nodes.Node.{Node}
use Rattle.file_tree.proofs.MountLemmas.{at_path, ends, first_built, one_node}
use Rattle.volume_state.proofs.DueLaws.Trees.{is_node, node_of, some_at}
use Rattle.file_tree.proofs.PathLemmas.{get_here, get_other, is_or_not, some_same}
use Rattle.file_tree.specs.Locks.{lock_of}

-- ---- one node more

module _ (letters : Letters) (size : ℕ) (nodes : List told.Node) (order : AreInOrder nodes)
    (names : AreNamesApart nodes) where
  -- a place with a path at which a node stands is that node's number
  number_of : (before : ℕ) (m : Nodes) (b : IsBuilt letters size nodes before m) (at : ℕ) (node : told.Node)
      (path : List (List ℕ)) (n : Node) → at < before → IsAt nodes at node → IsPathOf nodes at path
      → fin.get m path ≡ Some n → n.number ≡ at
  number_of before m b at node path n early is way there =
      let found = at_path letters size nodes before m b at node path early is way in
      ap (λ (k : Node). k.number) (some_same n found.0 (sym there ∙ found.1)) ∙ found.2

  module _ (at : ℕ) (node : told.Node) (is : IsAt nodes at node) (behind : 0 < at) (m : Nodes)
      (b : IsBuilt letters size nodes at m) where
    dir : IsDirAt nodes node.parent
    dir = order.dirs at node is

    up : Stands letters size nodes m node.parent dir.node
    up = b.each node.parent dir.node (order.before at node behind is) dir.is

    abbrev q : List (List ℕ)
    q = up.path ++ node.name ∷ []

    abbrev new : Node
    new = node_of letters size at node

    abbrev more : Nodes
    more = fin.insert m q new

    free : fin.get m q ≡ None
    free = by (fin.get m q) refl
      where
        by : (o : Option Node) → fin.get m q ≡ o → fin.get m q ≡ None
        by None e = e
        by (Some k) e =
            let old = b.others q k e in
            let e2 = ends nodes k.number q up.path node.name old.path_is refl in
            let parent_dir = order.dirs k.number e2.node e2.is in
            let parent_early : e2.node.parent < at =
            omega (arith, old.early, order.before k.number e2.node e2.behind e2.is) in
            let same_number = number_of at m b e2.node.parent parent_dir.node up.path up.n parent_early
            parent_dir.is e2.way up.there in
            let one : HaveOneName nodes k.number at = record {
              behind_root = e2.behind;
              other_behind_root = behind;
              node = e2.node;
              is = e2.is;
              named = node;
              other_is = is;
              parent = sym same_number ∙ up.number;
              name = e2.named;
            } in
            absurd (omega (arith, old.early, names k.number at one))

    path_is : IsPathOf nodes at q
    path_is = below at node up.path behind is up.path_is

    here : fin.get more q ≡ Some new
    here = get_here m q new

    each_more : (k : ℕ) (z : told.Node) → k < at + 1 → IsAt nodes k z → Stands letters size nodes more k z
    each_more k z lt there = ⊎_elim
        (λ (less : k < at).
        let s = b.each k z less there in
        record {
          path = s.path;
          path_is = s.path_is;
          n = s.n;
          there = get_other m q s.path new (λ e. unlike (fin.get m q) s.n free (ap (fin.get m) (sym e) ∙ s.there))
              ∙ s.there;
          number = s.number;
          same = s.same;
        })
        (λ (later : at ≤ k).
        let e : at ≡ k = omega (arith, later, lt) in
        let z_is : node ≡ z = one_node nodes k node z (subst (λ j. IsAt nodes j node) e is) there in
        record {
          path = q;
          path_is = subst (λ j. IsPathOf nodes j q) e path_is;
          n = new;
          there = here;
          number = e;
          same = subst (λ (x : told.Node). IsNodeOf letters size x new) z_is (is_node letters size at node);
        })
        (cases_lt k at)

    others_more : (path : List (List ℕ)) (k : Node) → fin.get more path ≡ Some k → IsTold nodes (at + 1) path k
    others_more path k there = ⊎_elim
        (λ (e : path ≡ q).
        let k_is : new ≡ k = some_same new k (sym here ∙ ap (fin.get more) (sym e) ∙ there) in
        let k_number : at ≡ k.number = ap (λ (n : Node). n.number) k_is in
        record {
          node = node;
          is = subst (λ a. IsAt nodes a node) k_number is;
          early = omega (arith, k_number);
          path_is = subst (λ a. IsPathOf nodes a path) k_number (subst (IsPathOf nodes at) (sym e) path_is);
        })
        (λ apart.
        let old = b.others path k (sym (get_other m q path new apart) ∙ there) in
        record { node = old.node; is = old.is; early = omega (arith, old.early); path_is = old.path_is })
        (is_or_not q path)

    one_more : (next : Nodes) × IsBuilt letters size nodes (at + 1) next
    one_more = (
      more,
      record {
        each = each_more;
        others = others_more;
        count = fin.len-insert path_total m q new ∙ ap (λ o. cond (is_some o) (fin.len m) (fin.len m + 1)) free
            ∙ ap (λ k. k + 1) b.count;
      },
    )

  -- the nodes at the first places
  built_to : (n : ℕ) → 0 < n → n ≤ length nodes → (m : Nodes) × IsBuilt letters size nodes n m
  built_to zero some le = absurd (omega (arith, some))
  built_to (suc zero) some le =
      let n = node_of letters size 0 order.root in (
        fin.insert fin.empty [] n,
        first_built letters size nodes order.root n (fin.insert fin.empty [] n) order.first refl
            (is_node letters size 0 order.root) refl,
      )
  built_to (suc (suc k)) some le =
      let b = built_to (suc k) (omega arith) (omega (arith, le)) in
      let x = some_at nodes (suc k) (omega (arith, le)) in
      let more = one_more (suc k) x.0 x.1 (omega arith) b.0 b.1 in
      let next : suc k + 1 ≡ suc (suc k) = omega arith in
      (more.0, subst (λ n. IsBuilt letters size nodes n more.0) next more.1)

-- each valid index has a tree, wherever its extents lie
pub some_tree : (letters : Letters) (size : ℕ) (index : Index) → IsValid index
    → (t : FileTree) × IsTreeOf letters size index t
some_tree letters size index valid =
    let order = valid.formed.order in
    let some : 0 < length index.nodes = slice_get_within index.nodes 0 order.root order.first in
    let built = built_to letters size index.nodes order valid.agrees.names (length index.nodes) some (omega arith) in (
      record { highest = index.highest; lock = lock_of index.lock; name = order.root.name; block_size = size; nodes = built.0; spare = 0 },
      record {
        highest = refl;
        lock = refl;
        name = λ other is. ap (λ (n : told.Node). n.name) (one_node index.nodes 0 order.root other order.first is);
        block_size = refl;
        nodes = built.1;
      },
    )
