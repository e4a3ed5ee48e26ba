-- That the nodes that a kept tree tells are those of the plain tree.
use Rattle.std.proofs.Common.{◌≡◌, ℕ, [], ◌∷◌, ◌++◌, length, Some, sym, ap, ◌∙◌, refl, subst}
use Rattle.std.specs.List.{slice_get}
use Rattle.std.specs.Option.{option_map}
use Rattle.std.specs.FinMap as fin
use Rattle.std.proofs.lemmas.List.{length-map}
use Rattle.std.proofs.lemmas.Option.{slice_get-map}
use Rattle.tape_types.proofs.NodeKeys.ListLaws.{list_entries}
use Rattle.extent_map.specs.Cells.{Tape}
use Rattle.index_model.specs.declared.nodes.Node as told
use Rattle.plain_tree.specs.Paths.{Path, last_name}
use Rattle.plain_tree.specs.declared.nodes.Node as plain_node
use Rattle.file_tree.specs.declared.nodes.Node.{Node}
use Rattle.file_tree.specs.declared.nodes.HeldKind.{HeldKind}
use Rattle.file_tree.specs.declared.nodes.HeldKind.TheVariants as kinds
use Rattle.file_tree.specs.Mounts.{Letters}
use Rattle.file_tree.specs.Told.{name_or, told_kind_of, told_nodes, told_of}
use Rattle.file_tree.specs.Tree.{FileTree, plain_kind_of, plain_node_of, plain_nodes, plain_of, whole}
use Rattle.file_tree.specs.Valid.{IsGood}
use Rattle.file_tree.proofs.OrderLemmas.{entry_at, up}
use Rattle.file_tree.proofs.PathLemmas.{some_same}
use Rattle.file_tree.proofs.PlainLemmas.{plain_entries}
use Rattle.file_tree.proofs.ToldLemmas.{last_is}
use Rattle.file_tree.proofs.WriteLemmas.{long_as}
use Rattle.tree_listing.specs.Listing.{AreNodesOf, Tells, TellsKind}

kind_told : (letters : Letters) (tape : Tape) (kind : HeldKind) → TellsKind (told_kind_of letters kind) (plain_kind_of tape kind)
kind_told letters tape kinds.Dir = tt
kind_told letters tape (kinds.File room) = sym (long_as tape room.laid)
kind_told letters tape (kinds.Link text) = refl

module _ (letters : Letters) (t : FileTree) (good : IsGood t) (tape : Tape) where
  abbrev line : (Path × Node) → (Path × plain_node.Node)
  line e = (e.0, plain_node_of tape e.1)

  abbrev tell : (Path × Node) → told.Node
  tell = told_of letters t.name (fin.keys t.nodes)

  abbrev count : ℕ
  count = fin.len (plain_nodes whole t.nodes)

  plain_at : (i : ℕ) (e : Path × Node) → slice_get (fin.entries t.nodes) i ≡ Some e → slice_get (fin.entries (plain_nodes tape t.nodes)) i ≡ Some (line e)
  plain_at i e is = ap (λ l. slice_get l i) (plain_entries tape t.nodes) ∙ slice_get-map line (fin.entries t.nodes) i ∙ ap (option_map line) is

  tells : (at : ℕ) (e : Path × Node) → slice_get (fin.entries t.nodes) at ≡ Some e → Tells (plain_of tape t) (tell e) (line e)
  tells at e is = record {
    uid = refl;
    kind = kind_told letters tape e.1.kind;
    readonly = refl;
    keys = list_entries e.1.keys.map;
    name = λ front name path. ap (λ p. name_or t.name (last_name p)) path ∙ ap (name_or t.name) (last_is front name);
    parent = λ front name path.
        let here : slice_get (fin.entries t.nodes) at ≡ Some (front ++ name ∷ [], e.1) = is ∙ ap (λ q. Some (q, e.1)) path in
        let above = up letters t.name t.nodes count t.highest (good.valid whole) at front name e.1 here in (
          plain_node_of tape above.dir,
          ap (slice_get (fin.entries (plain_nodes tape t.nodes))) (ap (λ q. (tell (q, e.1)).parent) path ∙ above.parent) ∙ plain_at above.place (front, above.dir) above.is,
        );
  }

  -- the nodes that a kept tree tells are those of the plain tree, in the order of the paths
  pub nodes_are : AreNodesOf (told_nodes letters t) (plain_of tape t)
  nodes_are = record {
    count = length-map (fin.entries t.nodes) tell ∙ sym (ap length (plain_entries tape t.nodes) ∙ length-map (fin.entries t.nodes) line);
    each = λ at node e is there.
        let found = entry_at letters t.name t.nodes count t.highest (good.valid whole) at node is in
        let same : line found.0 ≡ e = some_same (line found.0) e (sym (plain_at at found.0 found.1) ∙ there) in
        subst (Tells (plain_of tape t) node) same (subst (λ n. Tells (plain_of tape t) n (line found.0)) (sym found.2) (tells at found.0 found.1));
  }
