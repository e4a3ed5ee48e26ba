-- The worked rows, by computing them.
use Rattle.std.specs.Prelude.{◌≡◌, ◌+◌, ℕ, List, cond, Some, None}
use Rattle.std.specs.FinMap as fin
use Rattle.std.specs.Ordering.{eq_by_cmp}
use Rattle.std.specs.Str.{chars}
use Rattle.std.specs.Cmp.Lexicographic.{nat_list_cmp_total}
use Rattle.std.proofs.Common.{refl}
use Rattle.tape_types.specs.declared.moments.Moment.{Moment}
use Rattle.tape_types.specs.NodeKeys.Keys.{KeyMap, key_cmp}
use Rattle.plain_tree.proofs.NodeLemmas.{path_total}
use Rattle.plain_tree.specs.Paths.{Path, path_cmp}
use Rattle.plain_tree.specs.declared.nodes.Node.{Node}
use Rattle.plain_tree.specs.Tree.{Nodes}
use Rattle.plain_tree.specs.Rows.{WorkedRows}

-- what stands at a path once a node was put somewhere
get_node : (m : Nodes) (p : Path) (node : Node) (q : Path) → fin.get (fin.insert m p node) q ≡ cond (eq_by_cmp path_cmp q p) (Some node) (fin.get m q)
get_node = fin.get-insert path_total

no_node_yet : (q : Path) → fin.get (fin.empty {X = Node} {R = path_cmp}) q ≡ None
no_node_yet = fin.get-empty path_cmp

-- the same of keys
get_key : (m : KeyMap) (p value q : List ℕ) → fin.get (fin.insert m p value) q ≡ cond (eq_by_cmp key_cmp q p) (Some value) (fin.get m q)
get_key = fin.get-insert nat_list_cmp_total

drop_key : (m : KeyMap) (p q : List ℕ) → fin.get (fin.remove m p) q ≡ cond (eq_by_cmp key_cmp q p) None (fin.get m q)
drop_key = fin.get-remove nat_list_cmp_total

no_key_yet : (q : List ℕ) → fin.get (fin.empty {X = List ℕ} {R = key_cmp}) q ≡ None
no_key_yet = fin.get-empty key_cmp

len_key : (m : KeyMap) (p value : List ℕ) → fin.len (fin.insert m p value) ≡ cond (fin.contains_key m p) (fin.len m) (fin.len m + 1)
len_key = fin.len-insert nat_list_cmp_total

len_none : fin.len (fin.empty {X = List ℕ} {R = key_cmp}) ≡ 0
len_none = fin.len-empty key_cmp (List ℕ)

len_node : (m : Nodes) (p : Path) (node : Node) → fin.len (fin.insert m p node) ≡ cond (fin.contains_key m p) (fin.len m) (fin.len m + 1)
len_node = fin.len-insert path_total

len_no_node : fin.len (fin.empty {X = Node} {R = path_cmp}) ≡ 0
len_no_node = fin.len-empty path_cmp Node

-- the rows hold
pub worked : (at : Moment) → WorkedRows at
unfolding chars
worked at = record {
  made = λ named. simp (named, get_node, no_node_yet, len_node, len_no_node) refl;
  note_set = simp (get_node, no_node_yet, get_key, drop_key, no_key_yet, len_key, len_none) refl;
  bin_set = simp (get_node, no_node_yet, get_key, drop_key, no_key_yet, len_key, len_none) refl;
  dropped = simp (get_node, no_node_yet, get_key, drop_key, no_key_yet, len_key, len_none) refl;
  bad_keys = simp (get_node, no_node_yet, get_key, drop_key, no_key_yet, len_key, len_none) refl;
  any_keys = simp (get_node, no_node_yet, get_key, drop_key, no_key_yet, len_key, len_none) refl;
  locks = λ named. simp (named, get_node, no_node_yet, len_node, len_no_node) refl;
  guarded = simp (get_node, no_node_yet, get_key, drop_key, no_key_yet, len_key, len_none) refl;
  for_ever = simp (get_node, no_node_yet, get_key, drop_key, no_key_yet, len_key, len_none) refl;
  sealed = refl;
  locked_first = simp (get_node, no_node_yet, get_key, drop_key, no_key_yet, len_key, len_none) refl;
  seen_locked = simp (get_node, no_node_yet, get_key, drop_key, no_key_yet, len_key, len_none) refl;
  of_write = simp (get_node, no_node_yet, get_key, drop_key, no_key_yet, len_key, len_none) refl;
  of_truncate = simp (get_node, no_node_yet, get_key, drop_key, no_key_yet, len_key, len_none) refl;
  too_long = simp (get_node, no_node_yet, get_key, drop_key, no_key_yet, len_key, len_none) refl;
  of_setx = simp (get_node, no_node_yet, get_key, drop_key, no_key_yet, len_key, len_none) refl;
  of_dropx = simp (get_node, no_node_yet, get_key, drop_key, no_key_yet, len_key, len_none) refl;
  not_below = simp (get_node, no_node_yet, get_key, drop_key, no_key_yet, len_key, len_none) refl;
}
