-- That each index that can be mounted has a tree.
use Rattle.std.proofs.Common.{ℕ, zero, suc, ◌≡◌, ◌+◌, ◌<◌, ◌≤◌, List, [], ◌∷◌, ◌++◌, length, Some, ap, ◌∙◌, refl, subst, arith}
use Rattle.std.specs.FinMap as fin
use Rattle.std.proofs.lemmas.Option.{slice_get_within}
use Rattle.tape_types.specs.NodeKeys.Keys.{map_of}
use Rattle.index_model.specs.Places.{IsAt}
use Rattle.index_model.specs.declared.nodes.Node as told
use Rattle.index_model.specs.declared.nodes.NodeKind as told_kind
use Rattle.index_model.specs.declared.nodes.NodeKind.TheVariants as told_kinds
use Rattle.plain_tree.specs.Paths.{Path}
use Rattle.file_tree.specs.Mounts.{AreTold, IsBuilt, IsKindOf, IsNodeOf, Letters, laid_of}
use Rattle.file_tree.specs.Tree.{Nodes, number_at}
use Rattle.file_tree.specs.declared.nodes.HeldKind.{HeldKind}
use Rattle.file_tree.specs.declared.nodes.HeldKind.TheVariants as kinds
use Rattle.file_tree.specs.declared.nodes.Node.{Node}
use Rattle.file_tree.proofs.MountLemmas.{are_told, built_more, first_built, one_node}
use Rattle.file_tree.proofs.MountedGood.{built_differ}
use Rattle.file_tree.proofs.PathLemmas.{number_is}
use Rattle.volume_state.specs.DueLaws.Laws.{MountsHaveTrees}
use Rattle.file_tree.specs.Locks.{lock_of}

-- the node of which one is told
abbrev pub kind_of : Letters → ℕ → told_kind.NodeKind → HeldKind
kind_of letters size told_kinds.Dir = kinds.Dir
kind_of letters size (told_kinds.File bytes raws) =
    kinds.File (record { laid = laid_of letters size bytes raws; spare = 0 })
kind_of letters size (told_kinds.Link text) = kinds.Link text

-- the node that a node of an index is mounted as
abbrev pub node_of : Letters → ℕ → ℕ → told.Node → Node
node_of letters size at node = record {
  number = at;
  uid = node.uid;
  times = node.times;
  readonly = node.readonly;
  keys = record { map = map_of node.xattrs; spare = 0 };
  kind = kind_of letters size node.kind;
}

is_kind : (letters : Letters) (size : ℕ) (kind : told_kind.NodeKind)
    → IsKindOf letters size kind (kind_of letters size kind)
is_kind letters size told_kinds.Dir = refl
is_kind letters size (told_kinds.File bytes raws) =
    (record { laid = laid_of letters size bytes raws; spare = 0 }, refl, refl)
is_kind letters size (told_kinds.Link text) = refl

-- what a node of an index is mounted as is told by it
pub is_node : (letters : Letters) (size at : ℕ) (node : told.Node)
    → IsNodeOf letters size node (node_of letters size at node)
is_node letters size at node =
    record { uid = refl; times = refl; readonly = refl; keys = refl; kind = is_kind letters size node.kind }

-- at each place within a list something stands
pub some_at : {X : Type 0} (xs : List X) (k : ℕ) → k < length xs → (x : X) × IsAt xs k x
some_at [] k lt = absurd (omega (arith, lt))
some_at (x ∷ xs) zero lt = (x, refl)
some_at (x ∷ xs) (suc k) lt = some_at xs k (omega (arith, lt))

module _ (letters : Letters) (size : ℕ) (nodes : List told.Node) (t : AreTold letters size nodes) where
  -- one node more
  one_more : (at : ℕ) (node : told.Node) → IsAt nodes at node → 0 < at → (m : Nodes) → IsBuilt letters size nodes at m
      → (next : Nodes) × IsBuilt letters size nodes (at + 1) next
  one_more at node is behind m b =
      let dir = t.order.dirs at node is in
      let up = b.each node.parent dir.node (t.order.before at node behind is) dir.is in
      let here : number_at m up.path ≡ Some node.parent =
      number_is m up.path up.n up.there ∙ ap (λ k. Some k) up.number in
      let n = node_of letters size at node in
      let next = fin.insert m (up.path ++ node.name ∷ []) n in (
        next,
        built_more letters size nodes t at node is behind m b next n refl (is_node letters size at node) (λ path stands.
            ap (λ (q : Path). fin.insert m (q ++ node.name ∷ []) n)
            (built_differ letters size nodes at m b up.path path node.parent here stands)),
      )

  -- the nodes at the first places
  built_to : (n : ℕ) → 0 < n → n ≤ length nodes → (m : Nodes) × IsBuilt letters size nodes n m
  built_to zero some le = absurd (omega (arith, some))
  built_to (suc zero) some le =
      let n = node_of letters size 0 t.order.root in (
        fin.insert fin.empty [] n,
        first_built letters size nodes t.order.root n (fin.insert fin.empty [] n) t.order.first refl
            (is_node letters size 0 t.order.root) refl,
      )
  built_to (suc (suc k)) some le =
      let b = built_to (suc k) (omega arith) (omega (arith, le)) in
      let x = some_at nodes (suc k) (omega (arith, le)) in
      let more = one_more (suc k) x.0 x.1 (omega arith) b.0 b.1 in
      let next : suc k + 1 ≡ suc (suc k) = omega arith in
      (more.0, subst (λ n. IsBuilt letters size nodes n more.0) next more.1)

-- each index that can be mounted has a tree
pub mounts_have_trees : MountsHaveTrees
mounts_have_trees letters size index can =
    let t = are_told index letters size can in
    let root = t.order.root in
    let some : 0 < length index.nodes = slice_get_within index.nodes 0 root t.order.first in
    let built = built_to letters size index.nodes t (length index.nodes) some (omega arith) in (
      record { highest = index.highest; lock = lock_of index.lock; name = root.name; block_size = size; nodes = built.0; spare = 0 },
      record {
        highest = refl;
        lock = refl;
        name = λ other is. ap (λ (n : told.Node). n.name) (one_node index.nodes 0 root other t.order.first is);
        block_size = refl;
        nodes = built.1;
      },
    )
