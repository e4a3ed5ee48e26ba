-- What the definitions of space say of whole histories.
use Rattle.std.specs.Prelude.{◌≡◌, ◌+◌, ℕ, List, cond, Some, None}
use Rattle.std.specs.FinMap as fin
use Rattle.std.specs.Ordering.{eq_by_cmp}
use Rattle.std.specs.Cmp.Lexicographic.{nat_list_cmp_total}
use Rattle.std.specs.Str.{chars}
use Rattle.std.proofs.Common.{refl}
use Rattle.tape_types.specs.declared.moments.Moment.{Moment}
use Rattle.tape_types.specs.NodeKeys.Keys.{KeyMap, key_cmp}
use Rattle.plain_tree.proofs.NodeLemmas.{path_total}
use Rattle.plain_tree.specs.Paths.{path_cmp}
use Rattle.plain_tree.specs.Tree.{Nodes}
use Rattle.plain_tree.specs.declared.nodes.Node.{Node}
use Rattle.space_laws.specs.Examples.{TellsHistories, TellsLocks}

-- what stands at a path once a node was put somewhere
get_put : (m : Nodes) (p : List (List ℕ)) (node : Node) (q : List (List ℕ)) → fin.get (fin.insert m p node) q ≡ cond (eq_by_cmp path_cmp q p) (Some node) (fin.get m q)
get_put = fin.get-insert path_total

-- what the space is after worked histories
pub tells_histories : (at : Moment) → TellsHistories at
tells_histories at = record {
  needs_53 = simp (get_put) refl;
  has_52 = simp (get_put) refl;
  lies_in_two = simp (get_put) refl;
  lies_cut = simp (get_put) refl;
  grows_too_long = simp (get_put) refl;
  not_before_its_place = simp (get_put) refl;
  changes_twice = simp (get_put) refl;
  nothing_to_sync = refl;
}

-- ---- keys

-- what a key has once bytes were given to some key, and how many keys there are then
get_key : (m : KeyMap) (p value q : List ℕ) → fin.get (fin.insert m p value) q ≡ cond (eq_by_cmp key_cmp q p) (Some value) (fin.get m q)
get_key = fin.get-insert nat_list_cmp_total

no_key_yet : (q : List ℕ) → fin.get (fin.empty {X = List ℕ} {R = key_cmp}) q ≡ None
no_key_yet = fin.get-empty key_cmp

len_key : (m : KeyMap) (p value : List ℕ) → fin.len (fin.insert m p value) ≡ cond (fin.contains_key m p) (fin.len m) (fin.len m + 1)
len_key = fin.len-insert nat_list_cmp_total

len_none : fin.len (fin.empty {X = List ℕ} {R = key_cmp}) ≡ 0
len_none = fin.len-empty key_cmp (List ℕ)

-- what calls of attributes, read-only nodes and the lock ask, and the lock that an index tells
pub tells_locks : (at : Moment) → TellsLocks at
unfolding chars
tells_locks at = record {
  locks = refl;
  locks_again = refl;
  is_locked = refl;
  unlocks = refl;
  none_to_unlock = refl;
  is_unlocked = refl;
  seals = refl;
  refuses_bytes = refl;
  stores_bytes = simp (get_put) refl;
  refuses_unlock = refl;
  refuses_seal = refl;
  syncs = refl;
  flags = simp (get_put) refl;
  is_flagged = simp (get_put) refl;
  sets = simp (get_put, no_key_yet, len_none) refl;
  is_set = simp (get_put, get_key, no_key_yet, len_key, len_none) refl;
  sets_others = simp (get_put, get_key, no_key_yet, len_key, len_none) refl;
  reads = simp (get_put, get_key, no_key_yet, len_none) refl;
  drops = simp (get_put, get_key, no_key_yet, len_none) refl;
  none_to_drop = simp (get_put, no_key_yet) refl;
  tells_none = refl;
  tells_unlocked = refl;
  tells_locked = refl;
  tells_sealed = refl;
  sealed = refl;
  not_by_a_lock = refl;
  not_unlocked = refl;
  not_without = refl;
}
