-- An index has one plain tree.
use Rattle.std.proofs.Common.{◌≡◌, ℕ, List, Option, Some, None, length, refl, sym, ap, ◌∙◌}
use Rattle.std.specs.FinMap as fin
use Rattle.std.specs.Option.{option_map}
use Rattle.index_model.specs.declared.indexes.Index.{Index}
use Rattle.index_model.specs.declared.nodes.NodeKind as told_kind
use Rattle.index_model.specs.declared.nodes.NodeKind.TheVariants as told_kinds
use Rattle.index_model.specs.declared.nodes.Node as told
use Rattle.plain_tree.specs.declared.nodes.Kind.TheVariants as plain_kinds
use Rattle.plain_tree.specs.declared.nodes.Node as plain_node
use Rattle.extent_map.specs.Laid.{Laid}
use Rattle.extent_map.specs.Cells.{Tape, file_cells}
use Rattle.file_tree.specs.declared.nodes.HeldKind.{HeldKind}
use Rattle.file_tree.specs.declared.nodes.Node.{Node}
use Rattle.file_tree.specs.Mounts.{Letters, IsBuilt, IsKindOf, IsNodeOf, IsTreeOf}
use Rattle.file_tree.specs.Tree.{FileTree, Nodes, plain_kind_of, plain_node_of, plain_nodes, plain_of}
use Rattle.file_tree.proofs.MountLemmas.{at_path, told_at}
use Rattle.file_tree.proofs.PathLemmas.{same_nodes}
use Rattle.file_tree.proofs.PlainLemmas.{plain_get}

module _ (tape : Tape) (letters : Letters) (size : ℕ) where
  kind_once : (kind : told_kind.NodeKind) (a b : HeldKind) → IsKindOf letters size kind a → IsKindOf letters size kind b
      → plain_kind_of tape a ≡ plain_kind_of tape b
  kind_once told_kinds.Dir a b h k = ap (plain_kind_of tape) (h ∙ sym k)
  kind_once (told_kinds.File length raws) a b h k =
      ap (plain_kind_of tape) h.1 ∙ ap (λ (l : Laid). plain_kinds.File (file_cells tape l)) (h.2 ∙ sym k.2) ∙ sym (ap (plain_kind_of tape) k.1)
  kind_once (told_kinds.Link text) a b h k = ap (plain_kind_of tape) (h ∙ sym k)

  node_once : (node : told.Node) (a b : Node) → IsNodeOf letters size node a → IsNodeOf letters size node b
      → plain_node_of tape a ≡ plain_node_of tape b
  node_once node a b h k =
      let uid = h.uid ∙ sym k.uid in
      let times = h.times ∙ sym k.times in
      let readonly = h.readonly ∙ sym k.readonly in
      let keys = h.keys ∙ sym k.keys in
      let kind = kind_once node.kind a.kind b.kind h.kind k.kind in
      λ i. record { uid = uid i; times = times i; readonly = readonly i; keys = keys i; kind = kind i }

  module _ (nodes : List told.Node) (before : ℕ) where
    -- what stands at a path in one map stands there in another
    there_too : (m o : Nodes) → IsBuilt letters size nodes before m → IsBuilt letters size nodes before o → (p : List (List ℕ)) (n : Node)
        → fin.get m p ≡ Some n → (k : Node) × (fin.get o p ≡ Some k) × (plain_node_of tape n ≡ plain_node_of tape k)
    there_too m o b c p n is =
        let t = b.others p n is in
        let here = told_at letters size nodes before m b p n is in
        let there = at_path letters size nodes before o c n.number here.0 p t.early here.1 here.2 in
        (there.0, there.1, node_once here.0 n there.0 here.3 there.3)

    get_once : (m o : Nodes) → IsBuilt letters size nodes before m → IsBuilt letters size nodes before o → (p : List (List ℕ))
        → option_map (plain_node_of tape) (fin.get m p) ≡ option_map (plain_node_of tape) (fin.get o p)
    get_once m o b c p = by (fin.get m p) (fin.get o p) refl refl
      where
        by : (x y : Option Node) → fin.get m p ≡ x → fin.get o p ≡ y → option_map (plain_node_of tape) (fin.get m p) ≡ option_map (plain_node_of tape) (fin.get o p)
        by None None e f = ap (option_map (plain_node_of tape)) (e ∙ sym f)
        by None (Some k) e f =
            let there = there_too o m c b p k f in
            absurd (let wrong : None ≡ Some there.0 = sym e ∙ there.1 in cc)
        by (Some n) y e f =
            let there = there_too m o b c p n e in
            ap (option_map (plain_node_of tape)) e ∙ ap (λ (k : plain_node.Node). Some k) there.2 ∙ sym (ap (option_map (plain_node_of tape)) there.1)

  -- an index has one plain tree
  pub tree_once : (index : Index) (t u : FileTree) → IsTreeOf letters size index t → IsTreeOf letters size index u → plain_of tape t ≡ plain_of tape u
  tree_once index t u h k =
      let highest = h.highest ∙ sym k.highest in
      let lock = h.lock ∙ sym k.lock in
      let nodes = same_nodes (plain_nodes tape t.nodes) (plain_nodes tape u.nodes) (λ p.
      plain_get tape t.nodes p ∙ get_once index.nodes (length index.nodes) t.nodes u.nodes h.nodes k.nodes p ∙ sym (plain_get tape u.nodes p)) in
      λ i. record { highest = highest i; lock = lock i; nodes = nodes i }
