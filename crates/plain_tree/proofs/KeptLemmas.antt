-- What a tree of links keeps through each of its changes.
use Rattle.std.proofs.Common.{Option, IsSome, ◌≡◌, ◌≢◌, ℕ, zero, suc, ◌+◌, ◌-◌, ◌<◌, ◌≤◌, Bool, true, false, cond, List, [], ◌∷◌, ◌++◌, length, take, map, Result, Ok, Err, IfOk, OnOk, OnErr, Some, None, is_some, sym, ap, ◌∙◌, refl, subst, arith}
use Rattle.std.specs.Option.{option_map}
use Rattle.std.specs.List.Sorted.{IsStrictlySortedBy}
use Rattle.std.specs.FinMap as fin
use Rattle.std.proofs.lemmas.List.{append-nil, take_all}
use Rattle.tape_types.specs.declared.moments.Moment.{Moment}
use Rattle.plain_tree.specs.declared.nodes.Node.{Node}
use Rattle.plain_tree.specs.declared.nodes.Kind.TheVariants as kinds
use Rattle.plain_tree.specs.declared.calls.Entry.{Entry}
use Rattle.plain_tree.specs.declared.calls.Refusal.{Refusal}
use Rattle.plain_tree.specs.declared.links.Links.{Links}
use Rattle.plain_tree.specs.Paths.{Path, path_cmp, parent_of, is_at_or_below}
use Rattle.plain_tree.specs.Refusals.{missing_below}
use Rattle.plain_tree.specs.Tree.{Nodes, entries_in, changed_at, moved, new_node, empty_tree}
use Rattle.plain_tree.specs.Valid.{mark_of, mark_at, AreValid}
use Rattle.plain_tree.specs.Links.{child, walk, name_cmp, lines_of, IsPut, IsMovedTo, IsSame, IsLast}
use Rattle.plain_tree.specs.Seen.{Seen, HasNoUid, IsKept, IsMissing, IsPlace, CanStand, CanLeave, CanMove}
use Rattle.plain_tree.proofs.NodeLemmas.{path_total, path_exact, changed_found, changed_missing}
use Rattle.plain_tree.proofs.MoveLemmas.{below_join, here_inserted, other_inserted}
use Rattle.plain_tree.proofs.FrontLemmas.{missing_longer, front_decides}
use Rattle.plain_tree.proofs.Validity.{changed_keeps, inserted_keeps, removed_keeps, bare_below, move_keeps, recount, first_valid, parent_missing}
use Rattle.plain_tree.proofs.LinkLemmas.{walk_none}
use Rattle.plain_tree.proofs.ListedLemmas.{listed_same}
use Rattle.plain_tree.proofs.SeenLemmas.{unlike, same_walks, inserted, removed, changed, missing, inserted_owned, removed_owned, changed_owned, missing_owned, root_changed, root_owned, moved_len, moved_seen, moved_owned, child_shown}

-- the links show this map, and keep it
pub record Next (root : Node) (links : Links) (count : ℕ) (m : Nodes) : Type 0 where
  pub shown : (p : Path) → fin.get m p ≡ walk (child links) (Some root) p
  pub kept : IsKept m links count

-- links that show a map and keep it do so under another name of the map
pub now_kept : (root : Node) (links : Links) (count : ℕ) (m : Nodes) (s : Seen root links) → s.0 ≡ m → IsKept s.0 links count → Next root links count m
now_kept root links count m s is kept = record {
  shown = λ p. ap (λ n. fin.get n p) (sym is) ∙ s.1 p;
  kept = subst (λ n. IsKept n links count) is kept;
}

-- no other map is shown
pub only : (root : Node) (links : Links) (count : ℕ) (m n : Nodes) → ((p : Path) → fin.get n p ≡ walk (child links) (Some root) p) → Next root links count m → n ≡ m
only root links count m n shown next = fin.same_map path_total path_exact n m (λ p. shown p ∙ sym (next.shown p))

-- a map that is shown by the same links as one that is kept is kept
pub still_kept : (root : Node) (links : Links) (count : ℕ) (m n : Nodes) → ((p : Path) → fin.get n p ≡ walk (child links) (Some root) p) → Next root links count m → IsKept n links count
still_kept root links count m n shown next = subst (λ n. IsKept n links count) (sym (only root links count m n shown next)) next.kept

-- links that show the root alone are those of the empty tree
pub the_root : (root : Node) (links : Links) (at : Moment) → root ≡ new_node kinds.Dir 1 at → ((u : ℕ) (n : List ℕ) → child links u n ≡ None) → Next root links 1 (empty_tree at).nodes
the_root root links at is none = record {
  shown = by;
  kept = record {
    valid = (1, first_valid at);
    owned = λ uid name _. none uid name;
    counted = sym (fin.len-insert path_total fin.empty [] (new_node kinds.Dir 1 at) ∙ ap (λ (o : Option Node). cond (is_some o) (fin.len (fin.empty {X = Node} {R = path_cmp})) (fin.len (fin.empty {X = Node} {R = path_cmp}) + 1)) (fin.get-empty path_cmp []) ∙ ap (λ n. n + 1) (fin.len-empty path_cmp Node));
  };
}
  where
    by : (p : Path) → fin.get (empty_tree at).nodes p ≡ walk (child links) (Some root) p
    by [] = here_inserted fin.empty [] [] (new_node kinds.Dir 1 at) refl ∙ ap (λ x. Some x) (sym is)
    by (x ∷ p) = other_inserted fin.empty [] (x ∷ p) (new_node kinds.Dir 1 at) refl ∙ fin.get-empty path_cmp (x ∷ p) ∙ sym (ap (λ o. walk (child links) o p) (none root.uid x) ∙ walk_none (child links) p)

changed_len : (change : Node → Node) (path : Path) (m : Nodes) → fin.len (changed_at change path m) ≡ fin.len m
changed_len change path m =
    elim (fin.get m path) as (λ o. fin.get m path ≡ o → fin.len (changed_at change path m) ≡ fin.len m) [
      | None ↦ λ none. ap fin.len (changed_missing change path m none)
      | Some node ↦ λ found. ap fin.len (changed_found change path m node found) ∙ recount m path node (change node) found
    ] refl

uid_kept : (a b : Node) → mark_of (Some a) ≡ mark_of (Some b) → a.uid ≡ b.uid
uid_kept a b e = ap uid_in e
  where
    uid_in : Option (ℕ × Bool) → ℕ
    uid_in None = 0
    uid_in (Some v) = v.0

module _ (root : Node) (links next : Links) (count : ℕ) (m : Nodes) (was : Next root links count m) where
  -- links that lead everywhere to the same children show the same map
  pub unchanged : IsSame (child links) (child next) → Next root next count m
  unchanged same = record {
    shown = λ p. was.shown p ∙ sym (same_walks (child links) (child next) (Some root) p same);
    kept = record {
      valid = was.kept.valid;
      owned = λ uid name unused. same uid name ∙ was.kept.owned uid name unused;
      counted = was.kept.counted;
    };
  }

  module _ (front : Path) (x : List ℕ) (dir : Node) (there : fin.get m front ≡ Some dir) where
    insert_there : (node : Node) → IsPut (child links) (child next) dir.uid x (Some node) → CanStand m (front ++ x ∷ []) node → Next root next (count + 1) (fin.insert m (front ++ x ∷ []) node)
    insert_there node put can =
        let c = child links in
        let d = child next in
        let fresh : HasNoUid m node.uid = λ p n at e.
        let old = can.shape.given p n.uid _ (ap mark_of at) in
        absurd (omega (arith, old.1, e, can.next)) in
        record {
          shown = inserted c d root m was.shown was.kept.valid front x dir there (Some node) put node refl can.free (λ n. was.kept.owned node.uid n fresh) (λ e. fresh front dir there (sym e));
          kept = record {
            valid = inserted_keeps m (front ++ x ∷ []) node can;
            owned = inserted_owned c d root m was.shown was.kept.valid front x dir there (Some node) put was.kept.owned node can.free;
            counted = ap (λ n. n + 1) was.kept.counted ∙ sym (fin.len-insert path_total m (front ++ x ∷ []) node ∙ ap (λ o. cond (is_some o) (fin.len m) (fin.len m + 1)) can.free);
          };
        }

    remove_there : IsPut (child links) (child next) dir.uid x None → CanLeave m (front ++ x ∷ []) → Next root next (count - 1) (fin.remove m (front ++ x ∷ []))
    remove_there put can =
        let c = child links in
        let d = child next in
        let spot = front ++ x ∷ [] in
        let node = value_of (fin.get m (front ++ x ∷ [])) can.there in
        record {
          shown = removed c d root m was.shown was.kept.valid front x dir there None put refl (bare_below m (front ++ x ∷ []) can);
          kept = record {
            valid = removed_keeps m (front ++ x ∷ []) was.kept.valid can;
            owned = removed_owned c d root m was.shown was.kept.valid front x dir there None put was.kept.owned node.0 node.1 (bare_below m (front ++ x ∷ []) can);
            counted = ap (λ n. n - 1) was.kept.counted ∙ sym (fin.len-remove path_total m (front ++ x ∷ []) ∙ ap (λ o. cond (is_some o) (fin.len m - 1) (fin.len m)) node.1);
          };
        }
      where
        value_of : (o : Option Node) → IsSome o → (n : Node) × (o ≡ Some n)
        value_of None some = cc
        value_of (Some n) some = (n, refl)

    change_there : (f : Node → Node) → ((n : Node) → mark_of (Some (f n)) ≡ mark_of (Some n)) → IsPut (child links) (child next) dir.uid x (option_map f (child links dir.uid x)) → Next root next count (changed_at f (front ++ x ∷ []) m)
    change_there f keeps put =
        let c = child links in
        let d = child next in
        let here : fin.get m (front ++ x ∷ []) ≡ child links dir.uid x = child_shown c root m was.shown front dir x there in
        elim (fin.get m (front ++ x ∷ [])) as (λ o. fin.get m (front ++ x ∷ []) ≡ o → Next root next count (changed_at f (front ++ x ∷ []) m)) [
          | None ↦ λ none.
              let nothing : option_map f (child links dir.uid x) ≡ None = ap (option_map f) (sym here ∙ none) in
              subst (λ n. Next root next count n) (sym (changed_missing f (front ++ x ∷ []) m none)) (record {
                shown = missing c d root m was.shown was.kept.valid front x dir there _ put nothing none;
                kept = record {
                  valid = was.kept.valid;
                  owned = missing_owned c d root m was.shown was.kept.valid front x dir there _ put was.kept.owned;
                  counted = was.kept.counted;
                };
              })
          | Some node ↦ λ found.
              let new : option_map f (child links dir.uid x) ≡ Some (f node) = ap (option_map f) (sym here ∙ found) in
              let same : (f node).uid ≡ node.uid = uid_kept (f node) node (keeps node) in
              let becomes = changed_found f (front ++ x ∷ []) m node found in
              record {
                shown = λ q. ap (λ n. fin.get n q) becomes ∙ changed c d root m was.shown was.kept.valid front x dir there _ put node (f node) new found same q;
                kept = record {
                  valid = (was.kept.valid.0, changed_keeps f keeps (front ++ x ∷ []) m was.kept.valid.0 was.kept.valid.1);
                  owned = λ uid name unused. changed_owned c d root m was.shown was.kept.valid front x dir there _ put was.kept.owned node (f node) found same uid name
                      (subst (λ n. HasNoUid n uid) becomes unused);
                  counted = was.kept.counted ∙ sym (changed_len f (front ++ x ∷ []) m);
                };
              }
        ] refl

  module _ (path : Path) (uid : ℕ) (name : List ℕ) (place : IsPlace m path uid name) where
    -- a node put in at a place that is free, and counted, is in the map
    pub insert_next : (node : Node) (copy : List ℕ) → copy ≡ name → IsPut (child links) (child next) uid copy (Some node) → CanStand m path node → Next root next (count + 1) (fin.insert m path node)
    insert_next node copy is put can = subst (λ p. CanStand m p node → Next root next (count + 1) (fin.insert m p node)) (sym place.split)
        (insert_there place.front name place.dir place.there node (subst (λ u. IsPut (child links) (child next) u name (Some node)) (sym place.uid_is) (subst (λ n. IsPut (child links) (child next) uid n (Some node)) is put))) can

    -- a node that may leave, taken out and no more counted, is gone from the map
    pub remove_next : IsPut (child links) (child next) uid name None → CanLeave m path → Next root next (count - 1) (fin.remove m path)
    remove_next put can = subst (λ p. CanLeave m p → Next root next (count - 1) (fin.remove m p)) (sym place.split)
        (remove_there place.front name place.dir place.there (subst (λ u. IsPut (child links) (child next) u name None) (sym place.uid_is) put)) can

    -- a change that leaves a node's uid, and whether it is a directory, changes it in the map
    pub change_next : (f : Node → Node) → ((n : Node) → mark_of (Some (f n)) ≡ mark_of (Some n)) → IsPut (child links) (child next) uid name (option_map f (child links uid name)) → Next root next count (changed_at f path m)
    change_next f keeps put = subst (λ p. Next root next count (changed_at f p m)) (sym place.split)
        (change_there place.front name place.dir place.there f keeps (subst (λ u. IsPut (child links) (child next) u name (option_map f (child links u name))) (sym place.uid_is) put))

-- the root, changed
pub change_root : (root new : Node) (links : Links) (count : ℕ) (m : Nodes) (was : Next root links count m) (path : Path) (f : Node → Node) → ((n : Node) → mark_of (Some (f n)) ≡ mark_of (Some n)) → path ≡ [] → new ≡ f root → Next new links count (changed_at f path m)
change_root root new links count m was path f keeps empty is =
    subst (λ p. Next new links count (changed_at f p m)) (sym empty) (subst (λ n. Next n links count (changed_at f [] m)) (sym is) (
    let found : fin.get m [] ≡ Some root = was.shown [] in
    let becomes = changed_found f [] m root found in
    let same : (f root).uid ≡ root.uid = uid_kept (f root) root (keeps root) in
    record {
      shown = λ q. ap (λ n. fin.get n q) becomes ∙ root_changed (child links) root (f root) m was.shown same q;
      kept = record {
        valid = (was.kept.valid.0, changed_keeps f keeps [] m was.kept.valid.0 was.kept.valid.1);
        owned = λ uid name unused. root_owned (child links) root (f root) m was.shown same was.kept.owned uid name (subst (λ n. HasNoUid n uid) becomes unused);
        counted = was.kept.counted ∙ sym (changed_len f [] m);
      };
    }))

-- where even the parent is missing nothing changes
pub change_missing : (m : Nodes) → AreValid m → (path : Path) (f : Node → Node) → path ≢ [] → fin.get m (parent_of path) ≡ None → m ≡ changed_at f path m
change_missing m valid path f some none = sym (changed_missing f path m (parent_missing m valid path some none))

module _ (root : Node) (links next : Links) (count : ℕ) (m : Nodes) (was : Next root links count m) where
  move_there : (front up : Path) (x y : List ℕ) (old dir : Node) → fin.get m front ≡ Some old → fin.get m up ≡ Some dir → IsMovedTo (child links) (child next) old.uid x dir.uid y → CanMove m (front ++ x ∷ []) (up ++ y ∷ []) → Next root next count (moved (front ++ x ∷ []) (up ++ y ∷ []) m)
  move_there front up x y old dir old_there dir_there move can =
      let node = value_of (fin.get m (front ++ x ∷ [])) can.there in
      let len = moved_len m (front ++ x ∷ []) (up ++ y ∷ []) can in
      record {
        shown = moved_seen (child links) (child next) root m was.shown was.kept.valid front up x y old dir node.0 old_there dir_there node.1 can move;
        kept = record {
          valid = (was.kept.valid.0, move_keeps m (front ++ x ∷ []) (up ++ y ∷ []) can (fin.len m) _ was.kept.valid.0 (omega (arith, len)) was.kept.valid.1);
          owned = moved_owned (child links) (child next) root m was.shown was.kept.valid front up x y old dir node.0 old_there dir_there node.1 can move was.kept.owned;
          counted = was.kept.counted ∙ sym len;
        };
      }
    where
      value_of : (o : Option Node) → IsSome o → (n : Node) × (o ≡ Some n)
      value_of None some = cc
      value_of (Some n) some = (n, refl)

  -- a node linked at another place is moved in the map, with all below it
  pub move_next : (from to : Path) (old uid : ℕ) (old_name name : List ℕ) → IsPlace m from old old_name → IsPlace m to uid name → IsMovedTo (child links) (child next) old old_name uid name → CanMove m from to → Next root next count (moved from to m)
  move_next from to old uid old_name name a b move can =
      subst (λ p. CanMove m p to → Next root next count (moved p to m)) (sym a.split) (
      subst (λ q. CanMove m (a.front ++ old_name ∷ []) q → Next root next count (moved (a.front ++ old_name ∷ []) q m)) (sym b.split)
      (move_there a.front b.front old_name name a.dir b.dir a.there b.there
      (subst (λ u. IsMovedTo (child links) (child next) u old_name b.dir.uid name) (sym a.uid_is) (subst (λ v. IsMovedTo (child links) (child next) old old_name v name) (sym b.uid_is) move)))) can

module _ (root : Node) (links : Links) (count : ℕ) (m : Nodes) (was : Next root links count m) where
  -- what the names of two places lead to
  pub place_child : (path : Path) (uid : ℕ) (name : List ℕ) → IsPlace m path uid name → fin.get m path ≡ child links uid name
  place_child path uid name place =
      ap (fin.get m) place.split ∙ child_shown (child links) root m was.shown place.front place.dir name place.there ∙ ap (λ u. child links u name) place.uid_is

  -- where the links lead no further, the refusal is that of a missing path
  pub why_lost : (path : Path) (last : Node) (refusal : Refusal) → IsLast (child links) root path last → refusal ≡ missing_below last.kind → IsMissing m path refusal
  why_lost path last refusal is by =
      let there : fin.get m (take is.names path) ≡ Some last = was.shown (take is.names path) ∙ is.there in
      let gone : fin.get m (take (is.names + 1) path) ≡ None = was.shown (take (is.names + 1) path) ∙ is.missing in
      let longer : (n : ℕ) → is.names + 1 ≤ n → n ≤ length path → fin.get m (take n path) ≡ None = λ n le within. missing_longer m path (is.names + 1) n was.kept.valid (ap is_some gone) le within in
      record {
        none = ap (fin.get m) (sym (take_all (length path) path (omega arith))) ∙ longer (length path) (omega (arith, is.shorter)) (omega arith);
        reason = by ∙ front_decides m path is.names last is.shorter there (λ n from below. longer n (omega arith) (omega arith));
      }

-- a path without names is the empty one
pub no_names : (p : Path) → length p ≡ 0 → p ≡ []
no_names [] e = refl
no_names (x ∷ p) e = absurd (omega arith)

-- a path with names is not the empty one
pub some_names : (p : Path) → 0 < length p → p ≢ []
some_names p lt e = absurd (omega (arith, ap length e))

-- a path is at or below itself
pub below_self : (p : Path) → is_at_or_below p p ≡ true
below_self p = ap (is_at_or_below p) (sym (append-nil p)) ∙ below_join p []

-- a map that has a node has one at least
pub one_there : (m : Nodes) (p : Path) (count : ℕ) → count ≡ fin.len m → IsSome (fin.get m p) → 1 ≤ count
one_there m p count counted some = by (fin.len m) refl
  where
    by : (n : ℕ) → fin.len m ≡ n → 1 ≤ count
    by zero e = let wrong : true ≡ false = sym some ∙ ap (λ (m : Nodes). is_some (fin.get m p)) (fin.empty_of_len m e) ∙ ap is_some (fin.get-empty path_cmp p) in cc
    by (suc n) e = omega (arith, counted)

-- a directory that is there is not missing
pub no_dir_missing : (m : Nodes) (path : Path) → (uid : ℕ) × (mark_at m (parent_of path) ≡ Some (uid, true)) → path ≢ [] → (path ≢ [] → fin.get m (parent_of path) ≡ None) → ⊥
no_dir_missing m path up named missing = unlike (mark_at m (parent_of path)) (up.0, true) (ap mark_of (missing named)) up.1

-- the lines that links show of a directory
pub lines_are : (root : Node) (links : Links) (count : ℕ) (m : Nodes) → Next root links count m → (dir : Path) (node : Node) → fin.get m dir ≡ Some node → IsStrictlySortedBy name_cmp (map (λ (e : Entry). e.name) (lines_of links node.uid)) → lines_of links node.uid ≡ entries_in m dir
lines_are root links count m was dir node is ascend = listed_same _ m dir ascend (λ name. child_shown (child links) root m was.shown dir node name is)

-- what a success equals, it equals under another name of it
pub if_ok_same : {A E : Type 0} {x y : A} (r : Result A E) → x ≡ y → IfOk r (λ v. v ≡ x) → IfOk r (λ v. v ≡ y)
if_ok_same (Ok v) is e = e ∙ is
if_ok_same (Err v) is e = e

-- what is shown after a call that may fail
pub seen_by : {A E : Type 0} (r : Result A E) (root : Node) (links : Links) (count : ℕ) (a b : Nodes) → OnOk r (Next root links count a) → OnErr r (Next root links count b) → Seen root links
seen_by (Ok x) root links count a b ok err = (a, ok.shown)
seen_by (Err x) root links count a b ok err = (b, err.shown)

-- the root under another name is the same root
pub same_root : (root new : Node) (links : Links) (count : ℕ) (m : Nodes) → Next root links count m → new ≡ root → Next new links count m
same_root root new links count m was is = subst (λ r. Next r links count m) (sym is) was
