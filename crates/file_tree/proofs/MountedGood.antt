-- That the tree of an index is good.
use Rattle.std.proofs.Common.{◌≡◌, ℕ, ◌<◌, ◌^◌, List, length, sym, ap, ◌∙◌, subst}
use Rattle.std.specs.List.{AllByRecursion}
use Rattle.std.specs.FinMap as fin
use Rattle.std.specs.Str.{IsUtf8}
use Rattle.tape_types.proofs.NodeKeys.ListLaws.{found_in_map}
use Rattle.index_model.specs.declared.indexes.Index.{Index}
use Rattle.index_model.specs.declared.nodes.Node as told
use Rattle.index_model.specs.declared.nodes.NodeKind as told_kind
use Rattle.index_model.specs.declared.nodes.NodeKind.TheVariants as told_kinds
use Rattle.index_model.specs.Extents.{IsKind}
use Rattle.index_model.specs.Keys.{IsXattr}
use Rattle.index_model.specs.Names.{IsVolumeName, IsNodeName}
use Rattle.index_model.specs.Places.{IsAt}
use Rattle.index_model.proofs.Walks.{all_at}
use Rattle.file_tree.specs.declared.nodes.HeldKind.{HeldKind}
use Rattle.file_tree.specs.declared.nodes.HeldKind.TheVariants as kinds
use Rattle.plain_tree.specs.declared.calls.LockState.{LockState}
use Rattle.plain_tree.specs.Paths.{Name}
use Rattle.file_tree.specs.Tree.{Nodes}
use Rattle.file_tree.specs.Valid.{AreFilesOf, NumbersDiffer, AreFit, IsGood}
use Rattle.file_tree.specs.Mounts.{Letters, IsKindOf, IsBuilt, CanMount}
use Rattle.file_tree.proofs.PathLemmas.{node_at}
use Rattle.file_tree.proofs.MountLemmas.{told_at, path_once, ends, shape}
use Rattle.file_tree.proofs.MountedBlocks.{built_near}

-- no two nodes have one number
pub built_differ : (letters : Letters) (size : ℕ) (nodes : List told.Node) (before : ℕ) (m : Nodes) → IsBuilt letters size nodes before m → NumbersDiffer m
built_differ letters size nodes before m built p q number is also =
    let a = node_at m p number is in
    let b = node_at m q number also in
    let one = told_at letters size nodes before m built p a.0 a.1 in
    let two = told_at letters size nodes before m built q b.0 b.1 in
    path_once nodes a.0.number b.0.number p q (a.2 ∙ sym b.2) one.2 two.2

-- the text of a link is that which is told
link_of : (letters : Letters) (size : ℕ) (kind : told_kind.NodeKind) (text : List ℕ) → IsKindOf letters size kind (kinds.Link text) → IsKind kind → IsUtf8 text
link_of letters size told_kinds.Dir text is good = let wrong : kinds.Link text ≡ kinds.Dir = is in cc
link_of letters size (told_kinds.File bytes raws) text is good = let wrong : kinds.Link text ≡ kinds.File is.0 = is.1 in cc
link_of letters size (told_kinds.Link told) text is good = subst IsUtf8 (one told text (sym is)) good
  where
    one : (a b : List ℕ) → ◌≡◌ {A = HeldKind} (kinds.Link a) (kinds.Link b) → a ≡ b
    one a b e = cc

module _ (index : Index) (letters : Letters) (size : ℕ) (can : CanMount index letters size) (m : Nodes) (b : IsBuilt letters size index.nodes (length index.nodes) m) where
  built_fit : AreFit m
  built_fit p n there =
      let t = told_at letters size index.nodes (length index.nodes) m b p n there in
      record {
        named = λ front name e.
            let end = ends index.nodes n.number p front name t.2 e in
            subst IsNodeName end.named (can.valid.formed.names.others n.number end.node end.behind end.is);
        text = λ text link. link_of letters size t.0.kind text (subst (IsKindOf letters size t.0.kind) link t.3.kind) (all_at (λ node. IsKind node.kind) index.nodes can.valid.formed.kinds n.number t.0 t.1);
        keys = λ key value is. found_in_map IsXattr t.0.xattrs (all_at (λ node. AllByRecursion IsXattr node.xattrs) index.nodes can.valid.formed.xattrs n.number t.0 t.1) key value (ap (λ k. fin.get k key) (sym t.3.keys) ∙ is);
      }

  -- the tree that is built of an index is good
  pub built_good : AreFilesOf size m → (name : Name) (root : told.Node) → IsAt index.nodes 0 root → name ≡ root.name → size < 2 ^ 32 → (spare : ℕ) (state : LockState)
      → IsGood (record { highest = index.highest; lock = state; name = name; block_size = size; nodes = m; spare = spare })
  built_good files name root first named small spare state = record {
    some_block = can.some_block;
    small_block = small;
    valid = λ tape. shape index letters size can m b tape;
    files = files;
    differ = built_differ letters size index.nodes (length index.nodes) m b;
    volume = subst IsVolumeName (sym named) (can.valid.formed.names.volume root first);
    fit = built_fit;
    near = λ part pos h. built_near letters size index.nodes (length index.nodes) m b can.near h.number h.laid part pos h.file h.block;
  }
