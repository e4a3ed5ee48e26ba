-- What a walk to a directory and one look-up in it say of a call.
use Rattle.std.proofs.Common.{Option, ◌≡◌, ℕ, zero, suc, ◌≤◌, Bool, true, false, cond, List, [], ◌∷◌, ◌++◌, length, take, Some, None, is_some, sym, ap, ◌∙◌, refl, arith}
use Rattle.std.specs.Option.{option_map}
use Rattle.std.specs.Prelude.{◌==◌}
use Rattle.std.specs.FinMap as fin
use Rattle.std.proofs.lemmas.Bool.Decides.{nat_tests}
use Rattle.std.proofs.lemmas.List.{length-append, take-append-le}
use Rattle.std.proofs.Math.Seq.{take-append_seam}
use Rattle.plain_tree.specs.declared.calls.Refusal.{Refusal}
use Rattle.plain_tree.specs.declared.calls.Refusal.TheVariants as refusals
use Rattle.plain_tree.specs.declared.nodes.Node as plain_node
use Rattle.plain_tree.specs.declared.nodes.Kind as plain_kind
use Rattle.plain_tree.specs.declared.nodes.Kind.TheVariants as plain_kinds
use Rattle.plain_tree.specs.Paths.{Path, Name, parent_of, same_path, is_below}
use Rattle.plain_tree.specs.Refusals.{first_of, refuse_if, bad_name, at_root, why_missing, no_node, no_dir, exists_at, read_only, rename_refusal}
use Rattle.plain_tree.specs.Tree as plain
use Rattle.plain_tree.specs.Valid.{IsValid, is_dir, mark_of, mark_at}
use Rattle.file_tree.specs.declared.nodes.Node.{Node}
use Rattle.file_tree.specs.Tree.{Nodes, FileTree, number_at, plain_node_of, plain_nodes, whole}
use Rattle.file_tree.proofs.EditLemmas.{parent_ends}
use Rattle.file_tree.proofs.PathLemmas.{no_name}
use Rattle.file_tree.proofs.PlainLemmas.{plain_get}

-- ---- the order of the checks

-- the refusal of two checks is that of three
before_third : (a b c : Option Refusal) (r : Refusal) → first_of (a ∷ b ∷ []) ≡ Some r → first_of (a ∷ b ∷ c ∷ []) ≡ Some r
before_third None None c r e = cc
before_third None (Some x) c r e = e
before_third (Some x) b c r e = e

not_root : (up : Path) (name : Name) → at_root (up ++ name ∷ []) ≡ None
not_root up name = ap (λ b. refuse_if b refusals.Root) (some_names (length (up ++ name ∷ [])) (omega (arith, length-append up (name ∷ []))))
  where
    some_names : (n : ℕ) → 1 ≤ n → (n == 0) ≡ false
    some_names n some = grind (arith, nat_tests)

-- what is left to check of a rename once nothing stands where it leads
abbrev pub free_left : plain.Nodes → Path → Path → List (Option Refusal)
free_left nodes from to = refuse_if (is_below from to) refusals.Inside ∷ read_only nodes (parent_of from) ∷ read_only nodes (parent_of to) ∷ []

-- what is left to check of a rename once both nodes are found
abbrev pub move_left : plain.Nodes → Path → Path → Option Refusal
move_left nodes from to = cond (same_path from to) None (first_of (exists_at nodes to ∷ free_left nodes from to))

rename_left : (nodes : plain.Nodes) (from to up : Path) (name : Name) → bad_name to ≡ None → at_root from ≡ None → to ≡ up ++ name ∷ [] → rename_refusal nodes from to ≡ first_of (no_node nodes from ∷ no_dir nodes up ∷ move_left nodes from to ∷ [])
rename_left nodes from to up name good some is =
    ap (λ b. first_of (b ∷ at_root from ∷ at_root to ∷ no_node nodes from ∷ no_dir nodes (parent_of to) ∷ move_left nodes from to ∷ [])) good
    ∙ ap (λ b. first_of (b ∷ at_root to ∷ no_node nodes from ∷ no_dir nodes (parent_of to) ∷ move_left nodes from to ∷ [])) some
    ∙ ap (λ b. first_of (b ∷ no_node nodes from ∷ no_dir nodes (parent_of to) ∷ move_left nodes from to ∷ [])) (ap at_root is ∙ not_root up name)
    ∙ ap (λ p. first_of (no_node nodes from ∷ no_dir nodes p ∷ move_left nodes from to ∷ [])) (ap parent_of is ∙ parent_ends up name)

-- a rename whose source or directory is missing is refused so
pub rename_refused : (nodes : plain.Nodes) (from to up : Path) (name : Name) (r : Refusal) → bad_name to ≡ None → at_root from ≡ None → to ≡ up ++ name ∷ [] → first_of (no_node nodes from ∷ no_dir nodes up ∷ []) ≡ Some r → rename_refusal nodes from to ≡ Some r
rename_refused nodes from to up name r good some is refused = rename_left nodes from to up name good some is ∙ before_third (no_node nodes from) (no_dir nodes up) (move_left nodes from to) r refused

-- ---- a look-up of a name

-- whether something stands under a name
stands_or_not : (t : FileTree) (path : Path) (o : Option ℕ) → number_at t.nodes path ≡ o → fin.contains_key (plain_nodes whole t.nodes) path ≡ is_some o
stands_or_not t path o is = ap is_some (plain_get whole t.nodes path) ∙ by (fin.get t.nodes path) ∙ ap is_some is
  where
    by : (o : Option Node) → is_some (option_map (plain_node_of whole) o) ≡ is_some (option_map (λ (n : Node). n.number) o)
    by None = refl
    by (Some node) = refl

-- the checks of what stands where a new node is to stand
pub taken : (t : FileTree) (path : Path) (o : Option ℕ) (later : List (Option Refusal)) → number_at t.nodes path ≡ o → is_some o ≡ true → first_of (exists_at (plain_nodes whole t.nodes) path ∷ later) ≡ Some refusals.Exists
taken t path o later is some = ap (λ b. first_of (refuse_if b refusals.Exists ∷ later)) (stands_or_not t path o is ∙ some)

-- where nothing stands at a path, it is not refused as taken
pub not_taken : (t : FileTree) (path : Path) (o : Option ℕ) (later : List (Option Refusal)) → number_at t.nodes path ≡ o → is_some o ≡ false → first_of (exists_at (plain_nodes whole t.nodes) path ∷ later) ≡ first_of later
not_taken t path o later is none = ap (λ b. first_of (refuse_if b refusals.Exists ∷ later)) (stands_or_not t path o is ∙ none)

-- the same of a rename
pub moved_taken : (t : FileTree) (from to : Path) (o : Option ℕ) → same_path from to ≡ false → number_at t.nodes to ≡ o → is_some o ≡ true → move_left (plain_nodes whole t.nodes) from to ≡ Some refusals.Exists
moved_taken t from to o other is some =
    ap (λ b. cond b None (first_of (exists_at (plain_nodes whole t.nodes) to ∷ free_left (plain_nodes whole t.nodes) from to))) other ∙ taken t to o (free_left (plain_nodes whole t.nodes) from to) is some

-- a rename to a free path is refused only where it goes into itself, or a directory is read-only
pub moved_freely : (t : FileTree) (from to : Path) (o : Option ℕ) → same_path from to ≡ false → number_at t.nodes to ≡ o → is_some o ≡ false → move_left (plain_nodes whole t.nodes) from to ≡ first_of (free_left (plain_nodes whole t.nodes) from to)
moved_freely t from to o other is none =
    ap (λ b. cond b None (first_of (exists_at (plain_nodes whole t.nodes) to ∷ free_left (plain_nodes whole t.nodes) from to))) other ∙ not_taken t to o (free_left (plain_nodes whole t.nodes) from to) is none

-- where no number stands at a path, nothing stands there
pub none_at : (m : Nodes) (path : Path) → number_at m path ≡ None → fin.get m path ≡ None
none_at m path is = by (fin.get m path) refl
  where
    by : (o : Option Node) → fin.get m path ≡ o → fin.get m path ≡ None
    by None e = e
    by (Some node) e = let wrong : Some node.number ≡ None = sym (ap (option_map (λ (n : Node). n.number)) e) ∙ is in cc

-- ---- a node beside another path's end

-- only what stands at the fronts says why a path isn't
why_front : (m : plain.Nodes) (up more : Path) (k : ℕ) → k ≤ length up → why_missing m (up ++ more) k ≡ why_missing m up k
why_front m up more zero le = refl
why_front m up more (suc k) le = by (fin.get m (take k up)) refl (why_front m up more k (omega arith))
  where
    same : take k (up ++ more) ≡ take k up
    same = take-append-le k up more (omega arith)

    by : (o : Option plain_node.Node) → fin.get m (take k up) ≡ o → why_missing m (up ++ more) k ≡ why_missing m up k → why_missing m (up ++ more) (suc k) ≡ why_missing m up (suc k)
    by None e before = rw (same, e) before
    by (Some node) e before = rw (same, e) refl

-- nothing stands below a path that is no directory
none_under : (t : plain.Tree) (up : Path) (name : Name) (r : Refusal) → IsValid t → no_dir t.nodes up ≡ Some r → fin.get t.nodes (up ++ name ∷ []) ≡ None
none_under t up name r valid dir = by (fin.get t.nodes (up ++ name ∷ [])) refl
  where
    passes : (o : Option plain_node.Node) (parent : ℕ) → fin.get t.nodes up ≡ o → mark_of o ≡ Some (parent, true) → no_dir t.nodes up ≡ None
    passes None parent e is = cc
    passes (Some node) parent e is = kind node.kind refl
      where
        flag : Option (ℕ × Bool) → Bool
        flag None = true
        flag (Some m) = m.1

        unlike : (a b : ℕ) → ◌≡◌ {A = Option (ℕ × Bool)} (Some (a, false)) (Some (b, true)) → ⊥
        unlike a b e = let wrong : false ≡ true = ap flag e in cc

        kind : (k : plain_kind.Kind) → node.kind ≡ k → no_dir t.nodes up ≡ None
        kind plain_kinds.Dir f = rw (e, f) refl
        kind (plain_kinds.File c) f = let wrong : Some (node.uid, false) ≡ Some (parent, true) = sym (ap (λ b. Some (node.uid, is_dir b)) f) ∙ is in absurd (unlike node.uid parent wrong)
        kind (plain_kinds.Link c) f = let wrong : Some (node.uid, false) ≡ Some (parent, true) = sym (ap (λ b. Some (node.uid, is_dir b)) f) ∙ is in absurd (unlike node.uid parent wrong)

    by : (o : Option plain_node.Node) → fin.get t.nodes (up ++ name ∷ []) ≡ o → fin.get t.nodes (up ++ name ∷ []) ≡ None
    by None e = e
    by (Some node) e =
        let above = valid.parents (up ++ name ∷ []) node.uid (is_dir node.kind) (ap mark_of e) (no_name up name) in
        let none = passes (fin.get t.nodes up) above.0 refl (ap (mark_at t.nodes) (sym (parent_ends up name)) ∙ above.1) in
        let wrong : None ≡ Some r = sym none ∙ dir in cc

missing_is : (m : plain.Nodes) (up : Path) (name : Name) → fin.get m (up ++ name ∷ []) ≡ None → no_node m (up ++ name ∷ []) ≡ Some (why_missing m (up ++ name ∷ []) (suc (length up)))
missing_is m up name none =
    let long : length (up ++ name ∷ []) ≡ suc (length up) = omega (arith, length-append up (name ∷ [])) in
    opened none ∙ ap (λ k. Some (why_missing m (up ++ name ∷ []) k)) long
  where
    opened : fin.get m (up ++ name ∷ []) ≡ None → no_node m (up ++ name ∷ []) ≡ Some (why_missing m (up ++ name ∷ []) (length (up ++ name ∷ [])))
    opened none = rw none refl

-- why nothing stands directly below a path that is no directory
pub under_none : (t : plain.Tree) (up : Path) (name : Name) (r : Refusal) → IsValid t → no_dir t.nodes up ≡ Some r → no_node t.nodes (up ++ name ∷ []) ≡ Some r
under_none t up name r valid dir = missing_is t.nodes up name (none_under t up name r valid dir) ∙ by (fin.get t.nodes up) refl
  where
    seam : take (length up) (up ++ name ∷ []) ≡ up
    seam = take-append_seam up (name ∷ [])

    by : (o : Option plain_node.Node) → fin.get t.nodes up ≡ o → ◌≡◌ {A = Option Refusal} (Some (why_missing t.nodes (up ++ name ∷ []) (suc (length up)))) (Some r)
    by None e = shorter e ∙ here e ∙ dir
      where
        shorter : fin.get t.nodes up ≡ None → ◌≡◌ {A = Option Refusal} (Some (why_missing t.nodes (up ++ name ∷ []) (suc (length up)))) (Some (why_missing t.nodes up (length up)))
        shorter e = rw (seam, e) (ap (λ w. Some w) (why_front t.nodes up (name ∷ []) (length up) (omega arith)))

        here : fin.get t.nodes up ≡ None → Some (why_missing t.nodes up (length up)) ≡ no_dir t.nodes up
        here e = rw e refl
    by (Some node) e = kind node.kind refl
      where
        kind : (k : plain_kind.Kind) → node.kind ≡ k → ◌≡◌ {A = Option Refusal} (Some (why_missing t.nodes (up ++ name ∷ []) (suc (length up)))) (Some r)
        kind plain_kinds.Dir f = let wrong : None ≡ Some r = sym (passes e f) ∙ dir in cc
          where
            passes : fin.get t.nodes up ≡ Some node → node.kind ≡ plain_kinds.Dir → no_dir t.nodes up ≡ None
            passes e f = rw (e, f) refl
        kind (plain_kinds.File c) f = below e f ∙ refused e f ∙ dir
          where
            below : fin.get t.nodes up ≡ Some node → node.kind ≡ plain_kinds.File c → ◌≡◌ {A = Option Refusal} (Some (why_missing t.nodes (up ++ name ∷ []) (suc (length up)))) (Some refusals.NotDir)
            below e f = rw (seam, e, f) refl

            refused : fin.get t.nodes up ≡ Some node → node.kind ≡ plain_kinds.File c → Some refusals.NotDir ≡ no_dir t.nodes up
            refused e f = rw (e, f) refl
        kind (plain_kinds.Link c) f = below e f ∙ refused e f ∙ dir
          where
            below : fin.get t.nodes up ≡ Some node → node.kind ≡ plain_kinds.Link c → ◌≡◌ {A = Option Refusal} (Some (why_missing t.nodes (up ++ name ∷ []) (suc (length up)))) (Some refusals.NotDir)
            below e f = rw (seam, e, f) refl

            refused : fin.get t.nodes up ≡ Some node → node.kind ≡ plain_kinds.Link c → Some refusals.NotDir ≡ no_dir t.nodes up
            refused e f = rw (e, f) refl

-- nothing stands under a name in a directory
pub not_in_dir : (m : plain.Nodes) (up : Path) (name : Name) → fin.get m (up ++ name ∷ []) ≡ None → no_dir m up ≡ None → no_node m (up ++ name ∷ []) ≡ Some refusals.NotFound
not_in_dir m up name none dir = missing_is m up name none ∙ by (fin.get m up) refl
  where
    seam : take (length up) (up ++ name ∷ []) ≡ up
    seam = take-append_seam up (name ∷ [])

    by : (o : Option plain_node.Node) → fin.get m up ≡ o → ◌≡◌ {A = Option Refusal} (Some (why_missing m (up ++ name ∷ []) (suc (length up)))) (Some refusals.NotFound)
    by None e = let wrong : Some (why_missing m up (length up)) ≡ None = here e ∙ dir in cc
      where
        here : fin.get m up ≡ None → Some (why_missing m up (length up)) ≡ no_dir m up
        here e = rw e refl
    by (Some node) e = kind node.kind refl
      where
        kind : (k : plain_kind.Kind) → node.kind ≡ k → ◌≡◌ {A = Option Refusal} (Some (why_missing m (up ++ name ∷ []) (suc (length up)))) (Some refusals.NotFound)
        kind plain_kinds.Dir f = below e f
          where
            below : fin.get m up ≡ Some node → node.kind ≡ plain_kinds.Dir → ◌≡◌ {A = Option Refusal} (Some (why_missing m (up ++ name ∷ []) (suc (length up)))) (Some refusals.NotFound)
            below e f = rw (seam, e, f) refl
        kind (plain_kinds.File c) f = let wrong : Some refusals.NotDir ≡ None = refused e f ∙ dir in cc
          where
            refused : fin.get m up ≡ Some node → node.kind ≡ plain_kinds.File c → Some refusals.NotDir ≡ no_dir m up
            refused e f = rw (e, f) refl
        kind (plain_kinds.Link c) f = let wrong : Some refusals.NotDir ≡ None = refused e f ∙ dir in cc
          where
            refused : fin.get m up ≡ Some node → node.kind ≡ plain_kinds.Link c → Some refusals.NotDir ≡ no_dir m up
            refused e f = rw (e, f) refl
