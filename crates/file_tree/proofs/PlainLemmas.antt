-- The plain tree of a map, after each change.
use Rattle.std.proofs.Common.{Option, ◌≡◌, ℕ, Bool, true, false, cond, ◌&&◌, T, List, [], ◌∷◌, ◌++◌, length, map, Some, None, sym, ap, ◌∙◌, refl, ⊎_elim}
use Rattle.std.specs.Option.{option_map}
use Rattle.std.specs.Ordering.{is_lt}
use Rattle.std.specs.FinMap as fin
use Rattle.std.proofs.lemmas.List.{length-map}
use Rattle.plain_tree.specs.declared.nodes.Node as plain_node
use Rattle.plain_tree.specs.Paths.{path_cmp, same_path, is_at_or_below}
use Rattle.plain_tree.specs.Tree as plain
use Rattle.plain_tree.specs.Seen.{CanLeave, CanMove}
use Rattle.plain_tree.proofs.NodeLemmas.{path_total}
use Rattle.plain_tree.proofs.MoveLemmas as moves
use Rattle.plain_tree.proofs.SeenLemmas.{moved_len}
use Rattle.plain_tree.proofs.Validity.{bare_below}
use Rattle.extent_map.specs.Cells.{Tape}
use Rattle.file_tree.specs.declared.nodes.Node.{Node}
use Rattle.file_tree.specs.Tree.{Nodes, moved, plain_kind_of, plain_node_of, plain_nodes, whole, PlainNodesAgree}
use Rattle.file_tree.proofs.PathLemmas.{same_nodes, get_here, get_other, is_or_not}
use Rattle.file_tree.proofs.UpdateLemmas.{get_moved}

is_T : (b : Bool) → b ≡ true → T b
is_T true e = tt
is_T false e = cc

T_is : (b : Bool) → T b → b ≡ true
T_is true t = refl
T_is false t = absurd t

module _ (tape : Tape) where
  abbrev f : Node → plain_node.Node
  f node = plain_node_of tape node

  abbrev line : (List (List ℕ) × Node) → (List (List ℕ) × plain_node.Node)
  line e = (e.0, f e.1)

  find_map : (q : List (List ℕ)) (es : List (List (List ℕ) × Node)) → fin.find path_cmp q (map line es) ≡ option_map f (fin.find path_cmp q es)
  find_map q [] = refl
  find_map q (e ∷ es) = elim (same_path q e.0) as (λ b. cond b (Some (f e.1)) (fin.find path_cmp q (map line es)) ≡ option_map f (cond b (Some e.1) (fin.find path_cmp q es))) [
    | true ↦ refl
    | false ↦ find_map q es
  ]

  -- what stands at a path in the plain tree is the plain form of what stands there
  pub plain_get : (m : Nodes) (q : List (List ℕ)) → fin.get (plain_nodes tape m) q ≡ option_map f (fin.get m q)
  plain_get m q = fin.get-from_entries path_total (map line (fin.entries m)) q ∙ find_map q (fin.entries m) ∙ ap (option_map f) (sym (fin.get-entries m q))

  below_map : (k : List (List ℕ)) (es : List (List (List ℕ) × Node)) → fin.Entries.below_all path_cmp k (map line es) ≡ fin.Entries.below_all path_cmp k es
  below_map k [] = refl
  below_map k (e ∷ es) = ap (λ b. is_lt (path_cmp k e.0) && b) (below_map k es)

  sorted_map : (es : List (List (List ℕ) × Node)) → fin.is_sorted path_cmp (map line es) ≡ fin.is_sorted path_cmp es
  sorted_map [] = refl
  sorted_map (e ∷ es) = ap (λ b. b && fin.is_sorted path_cmp (map line es)) (below_map e.0 es) ∙ ap (λ b. fin.Entries.below_all path_cmp e.0 es && b) (sorted_map es)

  -- the entries of the plain tree are the plain forms of the entries
  pub plain_entries : (m : Nodes) → fin.entries (plain_nodes tape m) ≡ map line (fin.entries m)
  plain_entries m =
      let sorted : T (fin.is_sorted path_cmp (map line (fin.entries m))) = is_T _ (sorted_map (fin.entries m) ∙ T_is _ (fin.entries_sorted m)) in
      let same : plain_nodes tape m ≡ fin.from_sorted (map line (fin.entries m)) =
      same_nodes (plain_nodes tape m) (fin.from_sorted (map line (fin.entries m))) (λ q. fin.get-from_entries path_total (map line (fin.entries m)) q ∙ sym (fin.get-from_sorted path_cmp (map line (fin.entries m)) q sorted)) in
      ap fin.entries same ∙ fin.entries-from_sorted path_cmp (map line (fin.entries m)) sorted

  -- the plain tree has as many nodes
  pub plain_len : (m : Nodes) → fin.len (plain_nodes tape m) ≡ fin.len m
  plain_len m = fin.len-entries (plain_nodes tape m) ∙ ap length (plain_entries m) ∙ length-map (fin.entries m) line ∙ sym (fin.len-entries m)

  over : (b : Bool) (x y : Option Node) → option_map f (cond b x y) ≡ cond b (option_map f x) (option_map f y)
  over true x y = refl
  over false x y = refl

  -- putting a node in puts its plain form into the plain tree
  pub plain_insert : (m : Nodes) (p : List (List ℕ)) (node : Node) → plain_nodes tape (fin.insert m p node) ≡ fin.insert (plain_nodes tape m) p (f node)
  plain_insert m p node = same_nodes _ _ (λ q.
      plain_get (fin.insert m p node) q ∙ ap (option_map f) (fin.get-insert path_total m p node q) ∙ over (same_path q p) (Some node) (fin.get m q)
      ∙ ap (cond (same_path q p) (Some (f node))) (sym (plain_get m q)) ∙ sym (fin.get-insert path_total (plain_nodes tape m) p (f node) q))

  -- removing a node removes it from the plain tree
  pub plain_remove : (m : Nodes) (p : List (List ℕ)) → plain_nodes tape (fin.remove m p) ≡ fin.remove (plain_nodes tape m) p
  plain_remove m p = same_nodes _ _ (λ q.
      plain_get (fin.remove m p) q ∙ ap (option_map f) (fin.get-remove path_total m p q) ∙ over (same_path q p) None (fin.get m q)
      ∙ ap (cond (same_path q p) None) (sym (plain_get m q)) ∙ sym (fin.get-remove path_total (plain_nodes tape m) p q))

  -- where nothing stands at a path, nothing does in the plain tree
  pub plain_none : (m : Nodes) (q : List (List ℕ)) → fin.get m q ≡ None → fin.get (plain_nodes tape m) q ≡ None
  plain_none m q none = plain_get m q ∙ ap (option_map f) none

  -- where nothing stands at a path in the plain tree, nothing does in the tree
  pub none_plain : (m : Nodes) (q : List (List ℕ)) → fin.get (plain_nodes tape m) q ≡ None → fin.get m q ≡ None
  none_plain m q none = by (fin.get m q) refl
    where
      by : (o : Option Node) → fin.get m q ≡ o → fin.get m q ≡ None
      by None e = e
      by (Some n) e = let wrong : None ≡ Some (f n) = sym none ∙ plain_get m q ∙ ap (option_map f) e in cc

  -- a move in the tree is a move in the plain tree
  pub plain_moved : (m : Nodes) (from to : List (List ℕ)) → ((x : List (List ℕ)) → is_at_or_below to x ≡ true → fin.get m x ≡ None) → plain_nodes tape (moved from to m) ≡ plain.moved from to (plain_nodes tape m)
  plain_moved m from to free = same_nodes _ _ (λ q.
      plain_get (moved from to m) q ∙ ap (option_map f) (get_moved from to m q free)
      ∙ over (is_at_or_below to q) (fin.get m (moves.back from to q)) (cond (is_at_or_below from q) None (fin.get m q))
      ∙ ap (cond (is_at_or_below to q) (option_map f (fin.get m (moves.back from to q)))) (over (is_at_or_below from q) None (fin.get m q))
      ∙ ap (λ o. cond (is_at_or_below to q) o (cond (is_at_or_below from q) None (option_map f (fin.get m q)))) (sym (plain_get m (moves.back from to q)))
      ∙ ap (λ o. cond (is_at_or_below to q) (fin.get (plain_nodes tape m) (moves.back from to q)) (cond (is_at_or_below from q) None o)) (sym (plain_get m q))
      ∙ sym (moves.get_moved from to (plain_nodes tape m) q (λ x h. plain_none m x (free x h))))

-- a move that may be made leaves as many nodes
pub len_moved : (m : Nodes) (from to : List (List ℕ)) → CanMove (plain_nodes whole m) from to → fin.len (moved from to m) ≡ fin.len m
len_moved m from to can =
    sym (plain_len whole (moved from to m)) ∙ ap fin.len (plain_moved whole m from to (λ x h. none_plain whole m x (can.free x h)))
    ∙ moved_len (plain_nodes whole m) from to can ∙ plain_len whole m

-- nothing stands below a node that may leave
pub bare_too : (m : Nodes) (p : List (List ℕ)) → CanLeave (plain_nodes whole m) p → (y : List ℕ) → fin.get m (p ++ y ∷ []) ≡ None
bare_too m p can y = none_plain whole m (p ++ y ∷ []) (bare_below (plain_nodes whole m) p can y)

-- to put in what is there changes nothing
pub inserted_same : {X : Type 0} (m : fin.FinMap path_cmp X) (p : List (List ℕ)) (v : X) → fin.get m p ≡ Some v → fin.insert m p v ≡ m
inserted_same m p v is = same_nodes (fin.insert m p v) m (λ q. ⊎_elim
    (λ (e : q ≡ p). ap (fin.get (fin.insert m p v)) e ∙ get_here m p v ∙ sym is ∙ ap (fin.get m) (sym e))
    (λ apart. get_other m p q v apart)
    (is_or_not p q))

-- plain nodes have the facts of the nodes that are kept
pub plain_nodes_agree : PlainNodesAgree
plain_nodes_agree = record {
  uid = λ tape node. refl;
  times = λ tape node. refl;
  readonly = λ tape node. refl;
  keys = λ tape node. refl;
  dir = λ tape node is. ap (plain_kind_of tape) is;
  link = λ tape node text is. ap (plain_kind_of tape) is;
  file = λ tape node room is. ap (plain_kind_of tape) is;
}
