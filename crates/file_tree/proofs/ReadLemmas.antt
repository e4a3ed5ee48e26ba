-- What is read of a tree.
use Rattle.std.proofs.Common.{Option, ◌≡◌, ℕ, ◌+◌, ◌<◌, ◌≤◌, true, false, List, length, take, Some, None, is_some, sym, ap, ◌∙◌, refl, subst, arith, ◌||◌, ◌^◌, nat_le, Result, Ok, Err, IfOk}
use Rattle.std.specs.Option.{option_map}
use Rattle.std.specs.FinMap as fin
use Rattle.std.proofs.lemmas.List.{take_all}
use Rattle.plain_tree.specs.declared.nodes.Node as plain_node
use Rattle.plain_tree.specs.declared.nodes.Kind as plain_kind
use Rattle.plain_tree.specs.declared.nodes.Kind.TheVariants as plain_kinds
use Rattle.plain_tree.specs.declared.calls.Refusal.{Refusal}
use Rattle.plain_tree.specs.declared.calls.Refusal.TheVariants as refusals
use Rattle.plain_tree.specs.Refusals.{why_missing, missing_below, no_node, no_dir, no_file, refuse_if, too_many}
use Rattle.plain_tree.specs.Tree as plain
use Rattle.plain_tree.specs.Valid.{AreValid}
use Rattle.plain_tree.proofs.FrontLemmas.{missing_longer, front_decides}
use Rattle.extent_map.specs.Cells.{Tape}
use Rattle.file_tree.specs.declared.nodes.Node.{Node}
use Rattle.file_tree.specs.Tree.{Nodes, FileTree, StandsAt, number_at, plain_kind_of, plain_node_of, plain_nodes, plain_of, whole}
use Rattle.file_tree.specs.declared.nodes.HeldKind.{HeldKind}
use Rattle.file_tree.specs.declared.nodes.HeldKind.TheVariants as kinds
use Rattle.file_tree.specs.declared.found.Found.{Found}
use Rattle.file_tree.specs.Reads.{IsFound, refusal_found, lost_below, sort_in, IsOfSort}
use Rattle.extent_map.specs.Laid.{Room}
use Rattle.plain_tree.specs.declared.calls.Facts.{Facts}
use Rattle.plain_tree.specs.declared.calls.Sort.{Sort}
use Rattle.plain_tree.specs.declared.calls.Sort.TheVariants as sorts
use Rattle.std.proofs.lemmas.Bool.Decides.{nat_tests}
use Rattle.tape_types.specs.Bounds.{most_nodes}
use Rattle.file_tree.proofs.WriteLemmas.{long_as}
use Rattle.file_tree.specs.Places.{IsLast}
use Rattle.name_tries.proofs.ItemLemmas.{some_same}
use Rattle.file_tree.proofs.PathLemmas.{node_at}
use Rattle.file_tree.proofs.ShownLemmas.{stands}
use Rattle.file_tree.proofs.PlainLemmas.{plain_get, plain_none, plain_len}

-- ---- paths that lead nowhere

-- why nothing stands at a path
pub lost : (tape : Tape) (m : Nodes) → AreValid (plain_nodes tape m) → (path : List (List ℕ)) (n : ℕ) (node : Node) → IsLast m path n → ((p : List (List ℕ)) → number_at m p ≡ Some n → fin.get m p ≡ Some node)
    → (fin.get m path ≡ None) × (no_node (plain_nodes tape m) path ≡ Some (missing_below (plain_kind_of tape node.kind)))
lost tape m valid path n node is there =
    let here : fin.get m (take is.names path) ≡ Some node = there (take is.names path) is.there in
    let plain_here : fin.get (plain_nodes tape m) (take is.names path) ≡ Some (plain_node_of tape node) = plain_get tape m (take is.names path) ∙ ap (option_map (plain_node_of tape)) here in
    let gone : fin.get (plain_nodes tape m) (take (is.names + 1) path) ≡ None = plain_none tape m (take (is.names + 1) path) is.missing in
    let further : (k : ℕ) → is.names + 1 ≤ k → k ≤ length path → fin.get (plain_nodes tape m) (take k path) ≡ None =
    λ k le within. missing_longer (plain_nodes tape m) path (is.names + 1) k valid (ap is_some gone) le within in
    let none : fin.get (plain_nodes tape m) path ≡ None = ap (fin.get (plain_nodes tape m)) (sym (take_all (length path) path (omega arith))) ∙ further (length path) (omega (arith, is.shorter)) (omega arith) in (
      Rattle.file_tree.proofs.PlainLemmas.none_plain tape m path none,
      opened (plain_nodes tape m) none (front_decides (plain_nodes tape m) path is.names (plain_node_of tape node) is.shorter plain_here (λ k from below. further k (omega arith) (omega arith))),
    )
  where
    opened : (m : plain.Nodes) → fin.get m path ≡ None → missing_below (plain_kind_of tape node.kind) ≡ why_missing m path (length path) → no_node m path ≡ Some (missing_below (plain_kind_of tape node.kind))
    opened m none why = rw none (ap (λ r. Some r) (sym why))

-- where a number stands at a path, no node is missing there
pub found_there : (tape : Tape) (m : Nodes) (path : List (List ℕ)) (n : ℕ) → number_at m path ≡ Some n → no_node (plain_nodes tape m) path ≡ None
found_there tape m path n stands =
    let node = node_at m path n stands in
    opened (plain_nodes tape m) (plain_node_of tape node.0) (plain_get tape m path ∙ ap (option_map (plain_node_of tape)) node.1)
  where
    opened : (m : plain.Nodes) (n : plain_node.Node) → fin.get m path ≡ Some n → no_node m path ≡ None
    opened m n is = rw is refl

abbrev pub dir_check : plain_kind.Kind → Option Refusal
dir_check plain_kinds.Dir = None
dir_check (plain_kinds.File c) = Some refusals.NotDir
dir_check (plain_kinds.Link t) = Some refusals.NotDir

abbrev pub file_check : plain_kind.Kind → Option Refusal
file_check plain_kinds.Dir = Some refusals.IsDir
file_check (plain_kinds.File c) = None
file_check (plain_kinds.Link t) = Some refusals.IsLink

-- the checks of a directory and of a file, where a node stands
dir_of_kind : (tape : Tape) (m : Nodes) (path : List (List ℕ)) (node : Node) (k : plain_kind.Kind) → fin.get m path ≡ Some node → plain_kind_of tape node.kind ≡ k → no_dir (plain_nodes tape m) path ≡ dir_check k
dir_of_kind tape m path node k is kind_is = opened (plain_nodes tape m) (plain_node_of tape node) k (plain_get tape m path ∙ ap (option_map (plain_node_of tape)) is) kind_is
  where
    opened : (m : plain.Nodes) (n : plain_node.Node) (k : plain_kind.Kind) → fin.get m path ≡ Some n → n.kind ≡ k → no_dir m path ≡ dir_check k
    opened m n plain_kinds.Dir is e = rw (is, e) refl
    opened m n (plain_kinds.File c) is e = rw (is, e) refl
    opened m n (plain_kinds.Link t) is e = rw (is, e) refl

-- whether a file is refused as none depends on the node at the path
pub file_of_kind : (tape : Tape) (m : Nodes) (path : List (List ℕ)) (node : Node) (k : plain_kind.Kind) → fin.get m path ≡ Some node → plain_kind_of tape node.kind ≡ k → no_file (plain_nodes tape m) path ≡ file_check k
file_of_kind tape m path node k is kind_is = opened (plain_nodes tape m) (plain_node_of tape node) k (plain_get tape m path ∙ ap (option_map (plain_node_of tape)) is) kind_is
  where
    opened : (m : plain.Nodes) (n : plain_node.Node) (k : plain_kind.Kind) → fin.get m path ≡ Some n → n.kind ≡ k → no_file m path ≡ file_check k
    opened m n plain_kinds.Dir is e = rw (is, e) refl
    opened m n (plain_kinds.File c) is e = rw (is, e) refl
    opened m n (plain_kinds.Link t) is e = rw (is, e) refl

-- where no node stands, all checks say why
pub none_checks : (m : plain.Nodes) (path : List (List ℕ)) (why : Refusal) → fin.get m path ≡ None → no_node m path ≡ Some why → (no_dir m path ≡ Some why) × (no_file m path ≡ Some why)
none_checks m path why none is = (same_dir none ∙ is, same_file none ∙ is)
  where
    same_dir : fin.get m path ≡ None → no_dir m path ≡ no_node m path
    same_dir none = rw none refl

    same_file : fin.get m path ≡ None → no_file m path ≡ no_node m path
    same_file none = rw none refl

-- ---- what the calls' checks say

-- a path that leads nowhere is found lost as the last node on its way says
pub lost_found : (t : FileTree) (path : List (List ℕ)) (kind : HeldKind) (found : Found) → found ≡ lost_below kind → fin.get t.nodes path ≡ None → IsFound t path found
lost_found t path kinds.Dir found is none = subst (IsFound t path) (sym is) none
lost_found t path (kinds.File room) found is none = subst (IsFound t path) (sym is) none
lost_found t path (kinds.Link text) found is none = subst (IsFound t path) (sym is) none

-- why nothing is found below a node is the same in the plain tree
pub lost_refusal : (tape : Tape) (kind : HeldKind) → Some (missing_below (plain_kind_of tape kind)) ≡ refusal_found (lost_below kind)
lost_refusal tape kinds.Dir = refl
lost_refusal tape (kinds.File room) = refl
lost_refusal tape (kinds.Link text) = refl

-- a node's sort is that of its plain form
pub sort_same : (tape : Tape) (kind : HeldKind) → plain.sort_of (plain_kind_of tape kind) ≡ sort_in kind
sort_same tape kinds.Dir = refl
sort_same tape (kinds.File room) = refl
sort_same tape (kinds.Link text) = refl

abbrev pub dir_says : Sort → Option Refusal
dir_says sorts.Dir = None
dir_says sorts.File = Some refusals.NotDir
dir_says sorts.Link = Some refusals.NotDir

abbrev pub file_says : Sort → Option Refusal
file_says sorts.Dir = Some refusals.IsDir
file_says sorts.File = None
file_says sorts.Link = Some refusals.IsLink

-- whether a directory is refused as none goes by the sort of the node found
pub dir_by : (t : FileTree) (path : List (List ℕ)) (number : ℕ) (sort : Sort) → StandsAt t path number → IsOfSort t number sort → dir_says sort ≡ no_dir (plain_nodes whole t.nodes) path
dir_by t path number sort stands of = by node.0.kind refl
  where
    node : (n : Node) × (fin.get t.nodes path ≡ Some n) × (sort_in n.kind ≡ sort)
    node = of path stands

    by : (k : HeldKind) → node.0.kind ≡ k → dir_says sort ≡ no_dir (plain_nodes whole t.nodes) path
    by kinds.Dir e = ap dir_says (sym node.2 ∙ ap sort_in e) ∙ sym (dir_of_kind whole t.nodes path node.0 plain_kinds.Dir node.1 (ap (plain_kind_of whole) e))
    by (kinds.File room) e = ap dir_says (sym node.2 ∙ ap sort_in e) ∙ sym (dir_of_kind whole t.nodes path node.0 (plain_kind_of whole (kinds.File room)) node.1 (ap (plain_kind_of whole) e))
    by (kinds.Link text) e = ap dir_says (sym node.2 ∙ ap sort_in e) ∙ sym (dir_of_kind whole t.nodes path node.0 (plain_kinds.Link text) node.1 (ap (plain_kind_of whole) e))

-- whether a file is refused as none goes by the sort of the node found
pub file_by : (t : FileTree) (path : List (List ℕ)) (number : ℕ) (sort : Sort) → StandsAt t path number → IsOfSort t number sort → file_says sort ≡ no_file (plain_nodes whole t.nodes) path
file_by t path number sort stands of = by node.0.kind refl
  where
    node : (n : Node) × (fin.get t.nodes path ≡ Some n) × (sort_in n.kind ≡ sort)
    node = of path stands

    by : (k : HeldKind) → node.0.kind ≡ k → file_says sort ≡ no_file (plain_nodes whole t.nodes) path
    by kinds.Dir e = ap file_says (sym node.2 ∙ ap sort_in e) ∙ sym (file_of_kind whole t.nodes path node.0 plain_kinds.Dir node.1 (ap (plain_kind_of whole) e))
    by (kinds.File room) e = ap file_says (sym node.2 ∙ ap sort_in e) ∙ sym (file_of_kind whole t.nodes path node.0 (plain_kind_of whole (kinds.File room)) node.1 (ap (plain_kind_of whole) e))
    by (kinds.Link text) e = ap file_says (sym node.2 ∙ ap sort_in e) ∙ sym (file_of_kind whole t.nodes path node.0 (plain_kinds.Link text) node.1 (ap (plain_kind_of whole) e))

-- a tree with all nodes it may have is refused as too full
pub full_then : (t : FileTree) (n : ℕ) → n ≡ fin.len t.nodes → most_nodes ≤ n → refuse_if (nat_le most_nodes n) refusals.TooMany ≡ too_many (plain_of whole t)
full_then t n is le =
    let e : nat_le most_nodes n ≡ true = grind (arith, nat_tests) in
    ap (λ b. refuse_if b refusals.TooMany) e ∙ sym (ap (λ b. refuse_if (b || nat_le (2 ^ 62) t.highest) refusals.TooMany) (ap (nat_le most_nodes) (plain_len whole t.nodes ∙ sym is) ∙ e))

-- a tree with room is refused as too full only for its highest uid
pub full_else : (t : FileTree) (n h : ℕ) → n ≡ fin.len t.nodes → n < most_nodes → h ≡ t.highest → refuse_if (nat_le (2 ^ 62) h) refusals.TooMany ≡ too_many (plain_of whole t)
full_else t n h is lt highest =
    let e : nat_le most_nodes n ≡ false = grind (arith, nat_tests) in
    sym (ap (λ b. refuse_if (b || nat_le (2 ^ 62) t.highest) refusals.TooMany) (ap (nat_le most_nodes) (plain_len whole t.nodes ∙ sym is) ∙ e) ∙ ap (λ k. refuse_if (nat_le (2 ^ 62) k) refusals.TooMany) (sym highest))

-- what follows from an answer follows where there is one
pub if_ok : {A E : Type 0} {P Q : A → Type 0} (r : Result A E) → ((v : A) → P v → Q v) → IfOk r P → IfOk r Q
if_ok (Ok v) f p = f v p
if_ok (Err e) f p = p

-- the facts that are told of a node are those of its plain form
pub facts_are : (t : FileTree) (number : ℕ) (node : Node) (facts : Facts) → ((path : List (List ℕ)) → StandsAt t path number → fin.get t.nodes path ≡ Some node) → ((tape : Tape) → facts ≡ plain.facts_of (plain_node_of tape node))
    → (tape : Tape) (path : List (List ℕ)) (n : plain_node.Node) → StandsAt t path number → fin.get (plain_of tape t).nodes path ≡ Some n → facts ≡ plain.facts_of n
facts_are t number node facts there are tape path n stands is =
    are tape ∙ ap plain.facts_of (some_same (plain_node_of tape node) n (sym (plain_get tape t.nodes path ∙ ap (option_map (plain_node_of tape)) (there path stands)) ∙ is))

-- a file is as long as its plain form has cells
pub length_same : (tape : Tape) (room : Room) → room.laid.length ≡ length (plain.cells_of_kind (plain_kind_of tape (kinds.File room)))
length_same tape room = sym (long_as tape room.laid)
