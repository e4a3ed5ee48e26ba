-- Each call leaves a valid tree valid.
use Rattle.std.proofs.Common.{IsSome, ◌⊎◌, ◌^◌, ◌≡◌, ◌≢◌, ℕ, zero, suc, ◌+◌, ◌-◌, ◌<◌, ◌≤◌, Bool, true, false, cond, ◌&&◌, not, eqb, nat_lt, get_or, List, [], ◌∷◌, ◌++◌, length, take, drop, map, Option, Some, None, is_some, sym, ap, ◌∙◌, refl, subst, arith, ⊎_elim, inl, inr, lit≤, Result, Ok, Err, OnOk, OnErr}
use Rattle.std.specs.declared.cmp.Ordering.{Ordering}
use Rattle.std.specs.declared.cmp.Ordering.TheVariants.{Less, Equal, Greater}
use Rattle.std.specs.Ordering.{is_eq}
use Rattle.std.specs.List.{filter_map, cons_option}
use Rattle.std.specs.Option.{option_map}
use Rattle.std.proofs.lemmas.Option.{slice_get-get_or}
use Rattle.std.specs.FinMap as fin
use Rattle.std.proofs.lemmas.Bool.Decides.{nat_tests}
use Rattle.std.proofs.lemmas.List.{length-take, length-drop, length-append, drop_at, take-take, take_all, drop-take, length-map}
use Rattle.std.proofs.lemmas.Bool.{cases_lt}
use Rattle.std.proofs.Math.Seq.{take-append-add}
use Rattle.tape_types.specs.Bounds.{most_nodes}
use Rattle.tape_types.specs.declared.moments.Moment.{Moment}
use Rattle.plain_tree.specs.declared.nodes.Node.{Node}
use Rattle.plain_tree.specs.declared.nodes.Kind.{Kind}
use Rattle.plain_tree.specs.declared.nodes.Kind.TheVariants as kinds
use Rattle.plain_tree.specs.declared.calls.Entry.{Entry}
use Rattle.plain_tree.specs.declared.changes.NodeChange.{NodeChange}
use Rattle.plain_tree.specs.declared.changes.NodeChange.TheVariants as changes
use Rattle.plain_tree.specs.declared.changes.NodeWrite.{NodeWrite}
use Rattle.plain_tree.specs.declared.changes.NodeWrite.TheVariants as writes
use Rattle.plain_tree.specs.declared.calls.LockState.TheVariants as locks
use Rattle.plain_tree.proofs.PageLemmas.{ltb-is_true}
use Rattle.plain_tree.specs.declared.calls.Refusal.{Refusal}
use Rattle.plain_tree.specs.declared.calls.Refusal.TheVariants.{Root, Exists, NotEmpty, Inside}
use Rattle.plain_tree.specs.declared.calls.Call.{Call}
use Rattle.plain_tree.specs.declared.calls.Call.TheVariants.{Mkdir, Create, Write, Truncate, Read, Listing, Stat, Rename, Remove, Setx, Getx, Dropx, Readonly, LockVolume, UnlockVolume, PermLock, Sync}
use Rattle.plain_tree.specs.Cells.{Cell, written, resized}
use Rattle.plain_tree.specs.Paths.{Path, path_cmp, name_in, last_name, parent_of, same_path, is_at_or_below, is_below, moved_path}
use Rattle.plain_tree.specs.Tree.{Tree, sort_of, Nodes, empty_tree, new_node, changed_at, touch, touched, change_noted, file_changed, changed_by, written_by, moved, entry_in, entries_in, cells_at, has_value, key_set, key_dropped, flag_at, same_flag, flagged}
use Rattle.plain_tree.specs.Refusals.{first_of, or_else, refuse_if, no_node, no_dir, exists_at, at_root, too_many, not_empty, bad_name, read_only, lock_refusal, new_refusal, rename_refusal, refusal_within, refusal_of}
use Rattle.plain_tree.specs.Calls.{with_new, with_bytes, with_length, with_rename, without, with_key, with_flag, after, after_done, after_unless}
use Rattle.plain_tree.specs.Valid.{is_dir, mark_of, mark_at, IsShape, AreValid, IsValid}
use Rattle.plain_tree.specs.Seen.{CanStand, CanLeave, CanMove}
use Rattle.plain_tree.proofs.NodeLemmas.{path_total, path_exact, changed_found, changed_missing}
use Rattle.plain_tree.proofs.MoveLemmas.{same_is, is_same, below_split, below_join, below_Decides, not_true, back, back_below, get_moved}

-- a shape goes by the marks alone
same_shape : (m n : Path → Option (ℕ × Bool)) (c d h : ℕ) → ((p : Path) → n p ≡ m p) → d ≤ c → IsShape m c h → IsShape n d h
same_shape m n c d h same count s = record {
  root = same [] ∙ s.root;
  parents = λ p uid dir at some. let up = s.parents p uid dir (sym (same p) ∙ at) some in (up.0, same (parent_of p) ∙ up.1);
  given = λ p uid dir at. s.given p uid dir (sym (same p) ∙ at);
  distinct = λ p q uid x y at to. s.distinct p q uid x y (sym (same p) ∙ at) (sym (same q) ∙ to);
  bounded = s.bounded;
  few = omega (arith, s.few);
}

-- a node that keeps its mark, put in its own place, changes no mark
remark : (m : Nodes) (p q : Path) (node new : Node) (r : Ordering) → path_cmp q p ≡ r → fin.get m p ≡ Some node → mark_of (Some new) ≡ mark_of (Some node) → mark_of (cond (is_eq r) (Some new) (fin.get m q)) ≡ mark_of (fin.get m q)
remark m p q node new Less is found same = refl
remark m p q node new Equal is found same = same ∙ ap mark_of (sym found ∙ fin.get_tied path_total m q p is)
remark m p q node new Greater is found same = refl

-- a node that keeps its mark, put in the place of another, changes no mark
pub remarks : (m : Nodes) (p : Path) (node new : Node) → fin.get m p ≡ Some node → mark_of (Some new) ≡ mark_of (Some node) → (q : Path) → mark_at (fin.insert m p new) q ≡ mark_at m q
remarks m p node new found same q = ap mark_of (fin.get-insert path_total m p new q) ∙ remark m p q node new (path_cmp q p) refl found same

-- replacing what stands at a path leaves the count of nodes
pub recount : (m : Nodes) (p : Path) (node new : Node) → fin.get m p ≡ Some node → fin.len (fin.insert m p new) ≡ fin.len m
recount m p node new found = fin.len-insert path_total m p new ∙ ap (λ o. cond (is_some o) (fin.len m) (fin.len m + 1)) found

-- a change that keeps every node's mark keeps the shape
pub changed_keeps : (change : Node → Node) → ((n : Node) → mark_of (Some (change n)) ≡ mark_of (Some n)) → (p : Path) (m : Nodes) (h : ℕ) → IsShape (mark_at m) (fin.len m) h → IsShape (mark_at (changed_at change p m)) (fin.len (changed_at change p m)) h
changed_keeps change keeps p m h s =
    elim (fin.get m p) as (λ o. fin.get m p ≡ o → IsShape (mark_at (changed_at change p m)) (fin.len (changed_at change p m)) h) [
      | None ↦ λ is. subst (λ (n : Nodes). IsShape (mark_at n) (fin.len n) h) (sym (changed_missing change p m is)) s
      | Some node ↦ λ is. subst (λ (n : Nodes). IsShape (mark_at n) (fin.len n) h) (sym (changed_found change p m node is))
          (same_shape _ _ _ _ h (remarks m p node (change node) is (keeps node)) (omega (arith, recount m p node (change node) is)) s)
    ] refl

touch_keeps : (at : Moment) (p : Path) (m : Nodes) (h : ℕ) → IsShape (mark_at m) (fin.len m) h → IsShape (mark_at (touch at p m)) (fin.len (touch at p m)) h
touch_keeps at p m h s = changed_keeps (touched at) (λ n. refl) p m h s

-- a change of a file's bytes leaves the uid, and whether it is a directory
pub file_mark : (change : List Cell → List Cell) (at : Moment) (node : Node) → mark_of (Some (file_changed change at node)) ≡ mark_of (Some node)
file_mark change at node = by node.kind refl
  where
    by : (kind : Kind) → node.kind ≡ kind → mark_of (Some (file_changed change at node)) ≡ mark_of (Some node)
    by kinds.Dir is = rw is refl
    by (kinds.File cells) is = rw is refl
    by (kinds.Link text) is = rw is refl

-- a change of a node leaves its uid, and whether it is a directory
pub change_mark : (change : NodeChange) (at : Moment) (node : Node) → mark_of (Some (changed_by change at node)) ≡ mark_of (Some node)
change_mark changes.Touch at node = refl
change_mark changes.Note at node = refl
change_mark (changes.Resize size) at node = file_mark (λ cells. resized cells size) at node
change_mark (changes.Flag on) at node = refl
change_mark (changes.DropKey key) at node = refl

-- nor does one that takes memory
pub write_mark : (write : NodeWrite) (at : Moment) (node : Node) → mark_of (Some (written_by write at node)) ≡ mark_of (Some node)
write_mark (writes.File offset bytes) at node = file_mark (λ cells. written cells offset (map (λ x. Some x) bytes.now)) at node
write_mark (writes.Key key bytes) at node = refl

-- a change of a file's bytes keeps the shape of the tree
pub file_keeps : (change : List Cell → List Cell) (at : Moment) (p : Path) (m : Nodes) (h : ℕ) → IsShape (mark_at m) (fin.len m) h → IsShape (mark_at (changed_at (file_changed change at) p m)) (fin.len (changed_at (file_changed change at) p m)) h
file_keeps change at p m h s = changed_keeps (file_changed change at) (file_mark change at) p m h s

shorter : (p : Path) → p ≢ [] → parent_of p ≢ p
shorter [] some e = some refl
shorter (x ∷ p) some e = absurd (omega (arith, length-take (length (x ∷ p) - 1) (x ∷ p), ap length e))

-- a path is the one that is added, or has its old mark
cases_at : (mark : Path → Option (ℕ × Bool)) (p q : Path) (now : Option (ℕ × Bool)) (new : ℕ × Bool) (r : Ordering) → path_cmp q p ≡ r → now ≡ cond (is_eq r) (Some new) (mark q) → ((q ≡ p) × (now ≡ Some new)) ⊎ (now ≡ mark q)
cases_at mark p q now new Less is e = inr e
cases_at mark p q now new Equal is e = inl (path_exact q p is, e)
cases_at mark p q now new Greater is e = inr e

abbrev uid_in : Option (ℕ × Bool) → ℕ
uid_in None = 0
uid_in (Some v) = v.0

module _ (mark more : Path → Option (ℕ × Bool)) (p : Path) (dir : Bool) (c d h up : ℕ)
    (adds : (q : Path) → more q ≡ cond (is_eq (path_cmp q p)) (Some (h + 1, dir)) (mark q))
    (free : mark p ≡ None) (some : p ≢ []) (below : mark (parent_of p) ≡ Some (up, true)) (room : h < 2 ^ 62) (space : c < most_nodes) (count : d ≡ c + 1) where
  at : (q : Path) → ((q ≡ p) × (more q ≡ Some (h + 1, dir))) ⊎ (more q ≡ mark q)
  at q = cases_at mark p q (more q) (h + 1, dir) (path_cmp q p) refl (adds q)

  -- what was there keeps its mark
  stays : (q : Path) (v : ℕ × Bool) → mark q ≡ Some v → more q ≡ Some v
  stays q v is = ⊎_elim (λ new. let gone : None ≡ Some v = sym free ∙ ap mark (sym new.0) ∙ is in cc) (λ old. old ∙ is) (at q)

  extended : IsShape mark c h → IsShape more d (h + 1)
  extended s = record {
    root = stays [] (1, true) s.root;
    parents = λ q uid e is nonempty. ⊎_elim
        (λ new. (up, ap (λ x. more (parent_of x)) new.0 ∙ stays (parent_of p) (up, true) below))
        (λ old. let parent = s.parents q uid e (sym old ∙ is) nonempty in (parent.0, stays (parent_of q) (parent.0, true) parent.1))
        (at q);
    given = λ q uid e is. ⊎_elim
        (λ new. let same : uid ≡ h + 1 = ap uid_in (sym is ∙ new.1) in (omega arith, omega arith))
        (λ old. let g = s.given q uid e (sym old ∙ is) in (g.0, omega (arith, g.1)))
        (at q);
    distinct = λ q r uid e f is to. ⊎_elim
        (λ new. ⊎_elim (λ other. new.0 ∙ sym other.0)
        (λ old. let g = s.given r uid f (sym old ∙ to) in let same : uid ≡ h + 1 = ap uid_in (sym is ∙ new.1) in absurd (omega (arith, g.1))) (at r))
        (λ old. ⊎_elim (λ other. let g = s.given q uid e (sym old ∙ is) in let same : uid ≡ h + 1 = ap uid_in (sym to ∙ other.1) in absurd (omega (arith, g.1)))
        (λ old2. s.distinct q r uid e f (sym old ∙ is) (sym old2 ∙ to)) (at r))
        (at q);
    bounded = omega arith;
    few = omega arith;
  }

-- the parts of checks that refuse nothing
pub first_none : (o : Option Refusal) (rest : List (Option Refusal)) → first_of (o ∷ rest) ≡ None → (o ≡ None) × (first_of rest ≡ None)
first_none None rest e = (refl, e)
first_none (Some r) rest e = cc

-- a cause for a refusal that there is none of is not there
pub not_refused : (b : Bool) (r : Refusal) → refuse_if b r ≡ None → b ≡ false
not_refused true r e = cc
not_refused false r e = refl

not_some : {A : Type 0} (o : Option A) → is_some o ≡ false → o ≡ None
not_some None e = refl
not_some (Some x) e = cc

-- a path that is not refused as the root is not the root
pub not_root : (p : Path) → at_root p ≡ None → p ≢ []
not_root p e is = let wrong : true ≡ false = sym (ap (λ q. eqb (length q) 0) is) ∙ not_refused (eqb (length p) 0) Root e in cc

room_of : (t : Tree) → too_many t ≡ None → (fin.len t.nodes < most_nodes) × (t.highest < 2 ^ 62)
room_of t e = grind (arith, nat_tests)

-- where a directory is not refused as missing, one stands
pub dir_there : (nodes : Nodes) (path : Path) → no_dir nodes path ≡ None → (up : ℕ) × (mark_at nodes path ≡ Some (up, true))
dir_there nodes path none = by (fin.get nodes path) refl
  where
    kind_is : (node : Node) (k : Kind) → fin.get nodes path ≡ Some node → node.kind ≡ k → is_dir node.kind ≡ true
    kind_is node kinds.Dir is e = ap is_dir e
    kind_is node (kinds.File cells) is e = let wrong = rw (is, e) at none in cc
    kind_is node (kinds.Link text) is e = let wrong = rw (is, e) at none in cc

    by : (o : Option Node) → fin.get nodes path ≡ o → (up : ℕ) × (mark_at nodes path ≡ Some (up, true))
    by None is = let wrong = rw is at none in cc
    by (Some node) is = (node.uid, ap mark_of is ∙ ap (λ b. Some (node.uid, b)) (kind_is node node.kind is refl))

-- where a node is not refused as missing, one stands
pub node_there : (nodes : Nodes) (path : Path) → no_node nodes path ≡ None → IsSome (fin.get nodes path)
node_there nodes path none = by (fin.get nodes path) refl
  where
    by : (o : Option Node) → fin.get nodes path ≡ o → IsSome (fin.get nodes path)
    by None is = let wrong = rw is at none in cc
    by (Some node) is = ap is_some is

new_mark : (m : Nodes) (p q : Path) (node : Node) (r : Ordering) → path_cmp q p ≡ r → mark_of (cond (is_eq r) (Some node) (fin.get m q)) ≡ cond (is_eq r) (Some (node.uid, is_dir node.kind)) (mark_at m q)
new_mark m p q node Less is = refl
new_mark m p q node Equal is = refl
new_mark m p q node Greater is = refl

-- a node that may stand at a path leaves the nodes valid
inserted_shape : (m : Nodes) (path : Path) (new : Node) (can : CanStand m path new) → IsShape (mark_at (fin.insert m path new)) (fin.len (fin.insert m path new)) (can.highest + 1)
inserted_shape m path new can =
    extended (mark_at m) (mark_at (fin.insert m path new)) path (is_dir new.kind) (fin.len m) _ can.highest can.up.0
    (λ q. ap mark_of (fin.get-insert path_total m path new q) ∙ new_mark m path q new (path_cmp q path) refl ∙ ap (λ u. cond (is_eq (path_cmp q path)) (Some (u, is_dir new.kind)) (mark_at m q)) can.next)
    (ap mark_of can.free) can.named can.up.1 can.room can.space
    (fin.len-insert path_total m path new ∙ ap (λ o. cond (is_some o) (fin.len m) (fin.len m + 1)) can.free) can.shape

-- a new node may stand where its making is not refused
pub can_stand : (kind : Kind) (t : Tree) (path : Path) (at : Moment) → new_refusal t path ≡ None → IsValid t → CanStand t.nodes path (new_node kind (t.highest + 1) at)
can_stand kind t path at free s =
    let a = first_none (bad_name path) _ free in
    let b = first_none (at_root path) _ a.1 in
    let c = first_none (no_dir t.nodes (parent_of path)) _ b.1 in
    let d = first_none (exists_at t.nodes path) _ c.1 in
    let r = first_none (read_only t.nodes (parent_of path)) _ d.1 in
    let e = first_none (too_many t) _ r.1 in
    let space = room_of t e.0 in
    record {
      highest = t.highest;
      shape = s;
      next = refl;
      room = space.1;
      space = space.0;
      named = not_root path b.0;
      free = not_some _ (not_refused _ Exists d.0);
      up = dir_there t.nodes (parent_of path) c.0;
    }

create_keeps : (kind : Kind) (t : Tree) (path : Path) (at : Moment) → new_refusal t path ≡ None → IsValid t → IsValid (with_new kind t path at)
unfolding can_stand
create_keeps kind t path at free s =
    touch_keeps at (parent_of path) (fin.insert t.nodes path (new_node kind (t.highest + 1) at)) (t.highest + 1)
    (inserted_shape t.nodes path (new_node kind (t.highest + 1) at) (can_stand kind t path at free s))

-- a node that may stand at a path keeps the nodes valid
pub inserted_keeps : (m : Nodes) (path : Path) (new : Node) → CanStand m path new → AreValid (fin.insert m path new)
inserted_keeps m path new can = (can.highest + 1, inserted_shape m path new can)

-- paths below another, and their parents
below_parent : (d p : Path) → is_at_or_below d p ≡ true → length d < length p → is_at_or_below d (parent_of p) ≡ true
below_parent d p e lt = (below_Decides d (parent_of p)).1 ((below_Decides d p).0 e ∙ sym (take-take (length d) (length p - 1) p (omega arith)))

-- a path at or below another is no shorter
pub below_length : (d p : Path) → is_at_or_below d p ≡ true → length d ≤ length p
below_length d p e = omega (arith, ap length ((below_Decides d p).0 e), length-take (length d) p)

-- what is in a directory at or below a path is at or below it too
pub below_up : (d p : Path) → is_at_or_below d (parent_of p) ≡ true → is_at_or_below d p ≡ true
below_up d p e =
    let fits = below_length d (parent_of p) e in
    (below_Decides d p).1 ((below_Decides d (parent_of p)).0 e ∙ take-take (length d) (length p - 1) p (omega (arith, fits, length-take (length p - 1) p)))

below_root : (d : Path) → d ≢ [] → is_at_or_below d [] ≡ false
below_root [] some = absurd (some refl)
below_root (x ∷ d) some = refl

some_names : (p : Path) → p ≢ [] → 0 < length p
some_names [] some = absurd (some refl)
some_names (x ∷ p) some = omega arith

mark_some : (m : Nodes) (p : Path) (v : ℕ × Bool) → mark_at m p ≡ Some v → fin.get m p ≡ None → ⊥
mark_some m p v is none = let wrong : None ≡ Some v = sym (ap mark_of none) ∙ is in cc

-- where a path isn't there, nothing is below it
pub free_below : (m : Nodes) (c h : ℕ) → IsShape (mark_at m) c h → (to : Path) → fin.get m to ≡ None → (n : ℕ) (p : Path) → length p ≡ length to + n → is_at_or_below to p ≡ true → fin.get m p ≡ None
free_below m c h s to none zero p long e = ap (fin.get m) (sym ((below_Decides to p).0 e ∙ take_all (length to) p (omega arith))) ∙ none
free_below m c h s to none (suc n) p long e =
    elim (fin.get m p) as (λ o. fin.get m p ≡ o → o ≡ None) [
      | None ↦ λ is. refl
      | Some node ↦ λ is.
          let up = s.parents p node.uid (is_dir node.kind) (ap mark_of is) (λ empty. absurd (omega (arith, ap length empty))) in
          absurd (mark_some m (parent_of p) (up.0, true) up.1
          (free_below m c h s to none n (parent_of p) (omega (arith, length-take (length p - 1) p)) (below_parent to p e (omega arith))))
    ] refl

-- where the parent of a path isn't there, the path isn't
pub parent_missing : (m : Nodes) → AreValid m → (path : Path) → path ≢ [] → fin.get m (parent_of path) ≡ None → fin.get m path ≡ None
parent_missing m valid path some none =
    elim (fin.get m path) as (λ o. fin.get m path ≡ o → o ≡ None) [
      | None ↦ λ _. refl
      | Some node ↦ λ is.
          let up = valid.1.parents path node.uid (is_dir node.kind) (ap mark_of is) some in
          absurd (mark_some m (parent_of path) (up.0, true) up.1 none)
    ] refl

-- where nothing stands at a path, nothing stands below it
pub valid_free : (t : Tree) → IsValid t → (to : Path) → fin.get t.nodes to ≡ None → (p : Path) → is_at_or_below to p ≡ true → fin.get t.nodes p ≡ None
valid_free t s to none p e = free_below t.nodes (fin.len t.nodes) t.highest s to none (length p - length to) p (omega (arith, below_length to p e)) e

-- a path of one name more than a directory's, below it, is a line of its listing
one_entry : (dir p : Path) (node : Node) (rest : List Entry) → is_at_or_below dir p ≡ true → length p ≡ length dir + 1 → true ≡ nat_lt 0 (length (cons_option (entry_in dir (p, node)) rest))
one_entry dir p node rest is long =
    let other : eqb (length p) (length dir) ≡ false = grind (arith, nat_tests) in
    let one : eqb (length p) (length dir + 1) ≡ true = grind (arith, nat_tests) in
    let test : (is_at_or_below dir p && not (eqb (length p) (length dir)) && eqb (length p) (length dir + 1)) ≡ true = ap (λ b. b && not (eqb (length p) (length dir)) && eqb (length p) (length dir + 1)) is ∙ ap (λ b. not b && eqb (length p) (length dir + 1)) other ∙ one in
    let name : name_in dir p ≡ Some (get_or p (length p - 1) []) = ap (λ b. cond b (last_name p) None) test ∙ slice_get-get_or p (length p - 1) [] (omega arith) in
    sym (ap (λ o. nat_lt 0 (length (cons_option (option_map (λ name. record { sort = sort_of node.kind; name = name }) o) rest))) name ∙ ltb-is_true 0 (suc (length rest)) (omega arith))

-- a child of a directory is in its listing
more_listed : (o : Option Entry) (rest : List Entry) → true ≡ nat_lt 0 (length rest) → true ≡ nat_lt 0 (length (cons_option o rest))
more_listed None rest e = e
more_listed (Some x) rest e = sym (ltb-is_true 0 (suc (length rest)) (omega arith))

found_listed : (es : List (Path × Node)) (dir q : Path) (node : Node) → is_at_or_below dir q ≡ true → length q ≡ length dir + 1 → fin.find path_cmp q es ≡ Some node → true ≡ nat_lt 0 (length (filter_map (entry_in dir) es))
found_listed [] dir q node below long found = cc
found_listed (e ∷ es) dir q node below long found =
    elim (same_path q e.0) as (λ b. same_path q e.0 ≡ b → cond b (Some e.1) (fin.find path_cmp q es) ≡ Some node → true ≡ nat_lt 0 (length (cons_option (entry_in dir (e.0, e.1)) (filter_map (entry_in dir) es)))) [
      | true ↦ λ same f. one_entry dir e.0 e.1 (filter_map (entry_in dir) es) (ap (is_at_or_below dir) (sym (same_is q e.0 same)) ∙ below) (ap length (sym (same_is q e.0 same)) ∙ long)
      | false ↦ λ other f. more_listed (entry_in dir (e.0, e.1)) (filter_map (entry_in dir) es) (found_listed es dir q node below long f)
    ] refl found

-- a directory with a child has an entry
pub child_listed : (m : Nodes) (dir q : Path) (node : Node) → fin.get m q ≡ Some node → q ≢ [] → parent_of q ≡ dir → true ≡ nat_lt 0 (length (entries_in m dir))
child_listed m dir q node is some parent =
    let long : length q ≡ length dir + 1 = omega (arith, some_names q some, ap length parent, length-take (length q - 1) q) in
    found_listed (fin.entries m) dir q node
    ((below_Decides dir q).1 (sym parent ∙ ap (λ n. take n q) (omega arith))) long
    (sym (fin.get-entries m q) ∙ is)

-- the shape of a map without a node that has no children
removed_mark : (m : Nodes) (p q : Path) → same_path q p ≡ false → mark_at (fin.remove m p) q ≡ mark_at m q
removed_mark m p q other = ap mark_of (fin.get-remove path_total m p q ∙ ap (λ b. cond b None (fin.get m q)) other)

left_mark : (m : Nodes) (p q : Path) (v : ℕ × Bool) → mark_at (fin.remove m p) q ≡ Some v → (same_path q p ≡ false) × (mark_at m q ≡ Some v)
left_mark m p q v is =
    elim (same_path q p) as (λ b. same_path q p ≡ b → (b ≡ false) × (mark_at m q ≡ Some v)) [
      | true ↦ λ same. let wrong : None ≡ Some v = sym (ap mark_of (fin.get-remove path_total m p q ∙ ap (λ b. cond b None (fin.get m q)) same)) ∙ is in cc
      | false ↦ λ other. (refl, sym (removed_mark m p q other) ∙ is)
    ] refl

module _ (m : Nodes) (path : Path) (h : ℕ) (s : IsShape (mark_at m) (fin.len m) h) (can : CanLeave m path) where
  childless : (q : Path) (uid : ℕ) (dir : Bool) → mark_at m q ≡ Some (uid, dir) → q ≢ [] → parent_of q ≡ path → ⊥
  childless q uid dir is nonempty parent =
      elim (fin.get m q) as (λ o. fin.get m q ≡ o → ⊥) [
        | None ↦ λ none. mark_some m q (uid, dir) is none
        | Some node ↦ λ found. let wrong : true ≡ false = child_listed m path q node found nonempty parent ∙ can.bare in cc
      ] refl

  fewer : (b : Bool) (n k : ℕ) → k ≡ cond b (n - 1) n → k ≤ n
  fewer true n k e = omega arith
  fewer false n k e = omega arith

  removed_shape : IsShape (mark_at (fin.remove m path)) (fin.len (fin.remove m path)) h
  removed_shape = record {
    root = removed_mark m path [] (not_true (same_path [] path) (λ e. can.named (sym (same_is [] path e)))) ∙ s.root;
    parents = λ q uid dir is nonempty.
        let was = left_mark m path q (uid, dir) is in
        let up = s.parents q uid dir was.1 nonempty in
        (up.0, removed_mark m path (parent_of q) (not_true (same_path (parent_of q) path) (λ e. childless q uid dir was.1 nonempty (same_is (parent_of q) path e))) ∙ up.1);
    given = λ q uid dir is. s.given q uid dir (left_mark m path q (uid, dir) is).1;
    distinct = λ q r uid d e is to. s.distinct q r uid d e (left_mark m path q (uid, d) is).1 (left_mark m path r (uid, e) to).1;
    bounded = s.bounded;
    few = omega (arith, s.few, fewer (fin.contains_key m path) (fin.len m) (fin.len (fin.remove m path)) (fin.len-remove path_total m path));
  }

-- removing a node that may leave keeps the nodes valid
pub removed_keeps : (m : Nodes) (path : Path) → AreValid m → CanLeave m path → AreValid (fin.remove m path)
removed_keeps m path valid can = (valid.0, removed_shape m path valid.0 valid.1 can)

-- nothing stands directly in a directory without lines
pub bare_below : (m : Nodes) (path : Path) → CanLeave m path → (name : List ℕ) → fin.get m (path ++ name ∷ []) ≡ None
bare_below m path can name =
    elim (fin.get m (path ++ name ∷ [])) as (λ o. fin.get m (path ++ name ∷ []) ≡ o → o ≡ None) [
      | None ↦ λ none. refl
      | Some node ↦ λ found.
          let wrong : true ≡ false = found_listed (fin.entries m) path (path ++ name ∷ []) node (below_join path (name ∷ [])) (length-append path (name ∷ [])) (sym (fin.get-entries m (path ++ name ∷ [])) ∙ found) ∙ can.bare in cc
    ] refl

-- the parent of a path that is there is a directory
parent_there : (m : Nodes) → AreValid m → (path : Path) → IsSome (fin.get m path) → path ≢ [] → (uid : ℕ) × (mark_at m (parent_of path) ≡ Some (uid, true))
parent_there m valid path there some =
    elim (fin.get m path) as (λ o. fin.get m path ≡ o → IsSome o → (uid : ℕ) × (mark_at m (parent_of path) ≡ Some (uid, true))) [
      | None ↦ λ _ wrong. cc
      | Some node ↦ λ is _. valid.1.parents path node.uid (is_dir node.kind) (ap mark_of is) some
    ] refl there

-- a node other than the root that has no entries may leave
pub may_leave : (m : Nodes) (path : Path) → AreValid m → path ≢ [] → no_node m path ≡ None → nat_lt 0 (length (entries_in m path)) ≡ false → CanLeave m path
may_leave m path valid named there bare = record {
  there = node_there m path there;
  named = named;
  bare = bare;
  up = parent_there m valid path (node_there m path there) named;
}

-- a node may leave where its removal is not refused
pub can_leave : (t : Tree) (path : Path) → IsValid t → refusal_within t (Remove path) ≡ None → CanLeave t.nodes path
can_leave t path s free =
    let a = first_none (at_root path) _ free in
    let b = first_none (no_node t.nodes path) _ a.1 in
    let c = first_none (not_empty t.nodes path) _ b.1 in
    may_leave t.nodes path (t.highest, s) (not_root path a.0) b.0 (not_refused _ NotEmpty c.0)

remove_keeps : (t : Tree) (path : Path) (at : Moment) → refusal_within t (Remove path) ≡ None → IsValid t → IsValid (without t path at)
remove_keeps t path at free s =
    touch_keeps at (parent_of path) (fin.remove t.nodes path) t.highest (removed_shape t.nodes path t.highest s (can_leave t path s free))

marked : (a b : Bool) (x y : Option Node) → mark_of (cond a x (cond b None y)) ≡ cond a (mark_of x) (cond b None (mark_of y))
marked true b x y = refl
marked false true x y = refl
marked false false x y = refl

module _ (m : Nodes) (from to : Path) (can : CanMove m from to) where
  -- the mark at each path once a node has moved
  pub after_move : (q : Path) → mark_at (moved from to m) q ≡ cond (is_at_or_below to q) (mark_at m (back from to q)) (cond (is_at_or_below from q) None (mark_at m q))
  after_move q = ap mark_of (get_moved from to m q can.free) ∙ marked (is_at_or_below to q) (is_at_or_below from q) (fin.get m (back from to q)) (fin.get m q)

  moved_here : (q : Path) → is_at_or_below to q ≡ true → mark_at (moved from to m) q ≡ mark_at m (back from to q)
  moved_here q at = after_move q ∙ ap (λ b. cond b (mark_at m (back from to q)) (cond (is_at_or_below from q) None (mark_at m q))) at

  moved_not : (q : Path) → is_at_or_below to q ≡ false → is_at_or_below from q ≡ false → mark_at (moved from to m) q ≡ mark_at m q
  moved_not q away other =
      after_move q ∙ ap (λ b. cond b (mark_at m (back from to q)) (cond (is_at_or_below from q) None (mark_at m q))) away
      ∙ ap (λ b. cond b None (mark_at m q)) other

  -- a node that is there has moved, or was there
  came : (q : Path) (v : ℕ × Bool) → mark_at (moved from to m) q ≡ Some v
      → ((is_at_or_below to q ≡ true) × (mark_at m (back from to q) ≡ Some v)) ⊎ ((is_at_or_below to q ≡ false) × (is_at_or_below from q ≡ false) × (mark_at m q ≡ Some v))
  came q v is =
      elim (is_at_or_below to q) as (λ a. is_at_or_below to q ≡ a → ((a ≡ true) × (mark_at m (back from to q) ≡ Some v)) ⊎ ((a ≡ false) × (is_at_or_below from q ≡ false) × (mark_at m q ≡ Some v))) [
        | true ↦ λ at. inl (refl, sym (moved_here q at) ∙ is)
        | false ↦ λ away. inr (elim (is_at_or_below from q) as (λ b. is_at_or_below from q ≡ b → (false ≡ false) × (b ≡ false) × (mark_at m q ≡ Some v)) [
          | true ↦ λ gone. let wrong : None ≡ Some v = sym (after_move q
              ∙ ap (λ b. cond b (mark_at m (back from to q)) (cond (is_at_or_below from q) None (mark_at m q))) away ∙ ap (λ b. cond b None (mark_at m q)) gone) ∙ is in cc
          | false ↦ λ other. (refl, refl, sym (moved_not q away other) ∙ is)
        ] refl)
      ] refl

  length_back : (q : Path) → length (back from to q) ≡ length from + (length q - length to)
  length_back q = length-append from (drop (length to) q) ∙ ap (λ n. length from + n) (length-drop (length to) q)

  -- the parent of where a path came from
  parent_back : (q : Path) → length to < length q → parent_of (back from to q) ≡ back from to (parent_of q)
  parent_back q lt =
      let r = drop (length to) q in
      let n = length q - 1 - length to in
      ap (λ k. take k (from ++ r)) (omega (arith, length_back q)) ∙ take-append-add from r n
      ∙ ap (λ x. from ++ x) (sym (drop-take (length to) n q) ∙ ap (λ k. drop (length to) (take k q)) (omega arith))

  same_back : (p q : Path) → is_at_or_below to p ≡ true → is_at_or_below to q ≡ true → back from to p ≡ back from to q → p ≡ q
  same_back p q at to_q e =
      below_split to p at ∙ ap (λ r. to ++ r) (sym (drop_at from (drop (length to) p) (length from) refl) ∙ ap (drop (length from)) e ∙ drop_at from (drop (length to) q) (length from) refl)
      ∙ sym (below_split to q to_q)

  not_back : (p q : Path) → is_at_or_below from q ≡ false → back from to p ≡ q → ⊥
  not_back p q other e = let wrong : true ≡ false = sym (back_below from to p) ∙ ap (is_at_or_below from) e ∙ other in cc

  moved_parents : (c h : ℕ) → IsShape (mark_at m) c h → (q : Path) (uid : ℕ) (dir : Bool) → mark_at (moved from to m) q ≡ Some (uid, dir) → q ≢ [] → (parent : ℕ) × (mark_at (moved from to m) (parent_of q) ≡ Some (parent, true))
  moved_parents c h s q uid dir is some = ⊎_elim
      (λ here. ⊎_elim
      (λ lt.
      let up = s.parents (back from to q) uid dir here.1 (λ empty. absurd (omega (arith, ap length empty, length_back q))) in
      (up.0, moved_here (parent_of q) (below_parent to q here.0 lt) ∙ ap (mark_at m) (sym (parent_back q lt)) ∙ up.1))
      (λ ge.
      let same : q ≡ to = sym ((below_Decides to q).0 here.0 ∙ take_all (length to) q ge) in (
        can.up.0,
        ap (λ x. mark_at (moved from to m) (parent_of x)) same
            ∙ moved_not (parent_of to)
            (not_true (is_at_or_below to (parent_of to)) (λ e. absurd (omega (arith, below_length to (parent_of to) e, length-take (length to - 1) to, some_names to can.to_named))))
            (not_true (is_at_or_below from (parent_of to)) (λ e. let wrong : true ≡ false = sym (below_up from to e) ∙ can.apart in cc))
            ∙ can.up.1,
      ))
      (cases_lt (length to) (length q)))
      (λ stayed.
      let up = s.parents q uid dir stayed.2 some in (
        up.0,
        moved_not (parent_of q)
            (not_true (is_at_or_below to (parent_of q)) (λ e. let wrong : true ≡ false = sym (below_up to q e) ∙ stayed.0 in cc))
            (not_true (is_at_or_below from (parent_of q)) (λ e. let wrong : true ≡ false = sym (below_up from q e) ∙ stayed.1 in cc))
            ∙ up.1,
      ))
      (came q (uid, dir) is)

  -- a move keeps the shape of the tree
  pub move_keeps : (c d h : ℕ) → d ≤ c → IsShape (mark_at m) c h → IsShape (mark_at (moved from to m)) d h
  move_keeps c d h fewer s = record {
    root = moved_not [] (below_root to can.to_named) (below_root from can.from_named) ∙ s.root;
    parents = moved_parents c h s;
    given = λ q uid dir is. ⊎_elim (λ here. s.given (back from to q) uid dir here.1) (λ stayed. s.given q uid dir stayed.2) (came q (uid, dir) is);
    distinct = λ p q uid x y is to_q. ⊎_elim
        (λ here. ⊎_elim
        (λ there. same_back p q here.0 there.0 (s.distinct (back from to p) (back from to q) uid x y here.1 there.1))
        (λ stayed. absurd (not_back p q stayed.1 (s.distinct (back from to p) q uid x y here.1 stayed.2)))
        (came q (uid, y) to_q))
        (λ stayed. ⊎_elim
        (λ there. absurd (not_back q p stayed.1 (sym (s.distinct p (back from to q) uid x y stayed.2 there.1))))
        (λ too. s.distinct p q uid x y stayed.2 too.2)
        (came q (uid, y) to_q))
        (came p (uid, x) is);
    bounded = s.bounded;
    few = omega (arith, s.few);
  }

-- a map has at most as many nodes as the list that it is made of
made_of : (es : List (Path × Node)) → fin.len (fin.from_entries {R = path_cmp} es) ≤ length es
made_of [] = omega (arith, fin.len-empty path_cmp Node)
made_of (e ∷ es) = omega (arith, made_of es, one_more (fin.contains_key (fin.from_entries {R = path_cmp} es) e.0) (fin.len (fin.from_entries {R = path_cmp} es)) _ (fin.len-insert path_total (fin.from_entries es) e.0 e.1))
  where
    one_more : (b : Bool) (n k : ℕ) → k ≡ cond b n (n + 1) → k ≤ n + 1
    one_more true n k e = omega arith
    one_more false n k e = omega arith

-- a move leaves no more nodes than there were
pub fewer_moved : (from to : Path) (m : Nodes) → fin.len (moved from to m) ≤ fin.len m
fewer_moved from to m =
    let moves : List (Path × Node) = map (λ e. (moved_path from to e.0, e.1)) (fin.entries m) in
    let move : (Path × Node) → (Path × Node) = λ e. (moved_path from to e.0, e.1) in
    let long : length moves ≡ length (fin.entries m) = length-map (fin.entries m) move in
    omega (arith, made_of moves, fin.len-entries m)

-- what the checks of a rename leave
pub rename_target : (m : Nodes) (from to : Path) → rename_refusal m from to ≡ None → same_path from to ≡ false → (fin.get m to ≡ None) × (is_below from to ≡ false)
rename_target m from to free differ =
    let a = first_none (bad_name to) _ free in
    let b = first_none (at_root from) _ a.1 in
    let c = first_none (at_root to) _ b.1 in
    let d = first_none (no_node m from) _ c.1 in
    let e = first_none (no_dir m (parent_of to)) _ d.1 in
    let f = first_none _ _ e.1 in
    let g : first_of (exists_at m to ∷ refuse_if (is_below from to) Inside ∷ read_only m (parent_of from) ∷ read_only m (parent_of to) ∷ []) ≡ None =
    sym (ap (λ b. cond b None (first_of (exists_at m to ∷ refuse_if (is_below from to) Inside ∷ read_only m (parent_of from) ∷ read_only m (parent_of to) ∷ []))) differ) ∙ f.0 in
    let i = first_none (exists_at m to) _ g in
    (not_some _ (not_refused _ Exists i.0), not_refused _ Inside (first_none (refuse_if (is_below from to) Inside) _ i.1).0)

not_at_or_below : (from to : Path) → is_below from to ≡ false → same_path from to ≡ false → is_at_or_below from to ≡ false
not_at_or_below from to below differ = not_true (is_at_or_below from to) (λ e.
    let longer : not (eqb (length to) (length from)) ≡ false = sym (ap (λ b. b && not (eqb (length to) (length from))) e) ∙ below in
    let long : length to ≡ length from = grind (arith, nat_tests) in
    let same : from ≡ to = (below_Decides from to).0 e ∙ take_all (length from) to (omega arith) in
    let wrong : true ≡ false = sym (is_same from to same) ∙ differ in cc)

-- a node may move where its renaming is not refused and is to another path
pub can_move : (t : Tree) (from to : Path) → IsValid t → rename_refusal t.nodes from to ≡ None → same_path from to ≡ false → CanMove t.nodes from to
can_move t from to s free differ =
    let a = first_none (bad_name to) _ free in
    let b = first_none (at_root from) _ a.1 in
    let c = first_none (at_root to) _ b.1 in
    let d = first_none (no_node t.nodes from) _ c.1 in
    let e = first_none (no_dir t.nodes (parent_of to)) _ d.1 in
    let target = rename_target t.nodes from to free differ in
    record {
      there = node_there t.nodes from d.0;
      from_named = not_root from b.0;
      to_named = not_root to c.0;
      free = valid_free t s to target.0;
      apart = not_at_or_below from to target.1 differ;
      up = dir_there t.nodes (parent_of to) e.0;
      from_up = parent_there t.nodes (t.highest, s) from (node_there t.nodes from d.0) (not_root from b.0);
    }

rename_keeps : (t : Tree) (from to : Path) (at : Moment) → rename_refusal t.nodes from to ≡ None → IsValid t → IsValid (with_rename t from to at)
rename_keeps t from to at free s =
    elim (same_path from to) as (λ b. same_path from to ≡ b → IsValid (cond b t (record t { nodes = touch at (parent_of to) (touch at (parent_of from) (changed_at (change_noted at) to (moved from to t.nodes))) }))) [
      | true ↦ λ same. s
      | false ↦ λ differ.
          let can = can_move t from to s free differ in
          touch_keeps at (parent_of to) _ t.highest (touch_keeps at (parent_of from) _ t.highest
          (changed_keeps (change_noted at) (λ n. refl) to (moved from to t.nodes) t.highest
          (move_keeps t.nodes from to can (fin.len t.nodes) (fin.len (moved from to t.nodes)) t.highest (fewer_moved from to t.nodes) s)))
    ] refl

write_keeps : (t : Tree) (path : Path) (offset : ℕ) (bytes : List ℕ) (at : Moment) → IsValid t → IsValid (with_bytes t path offset bytes at)
write_keeps t path offset [] at s = s
write_keeps t path offset (b ∷ bytes) at s = file_keeps (λ cells. written cells offset (map (λ x. Some x) (b ∷ bytes))) at path t.nodes t.highest s

length_keeps : (t : Tree) (path : Path) (n : ℕ) (at : Moment) → IsValid t → IsValid (with_length t path n at)
length_keeps t path n at s =
    elim (eqb n (length (cells_at t.nodes path))) as (λ b. IsValid (cond b t (record t { nodes = changed_at (file_changed (λ cells. resized cells n) at) path t.nodes }))) [
      | true ↦ s
      | false ↦ file_keeps (λ cells. resized cells n) at path t.nodes t.highest s
    ]

-- a change of a node's attributes or flag keeps the shape of the tree
key_keeps : (t : Tree) (path : Path) (key bytes : List ℕ) (at : Moment) → IsValid t → IsValid (with_key t path key bytes at)
key_keeps t path key bytes at s =
    elim (has_value t.nodes path key bytes) as (λ b. IsValid (cond b t (record t { nodes = changed_at (key_set key bytes at) path t.nodes }))) [
      | true ↦ s
      | false ↦ changed_keeps (key_set key bytes at) (λ n. refl) path t.nodes t.highest s
    ]

flag_keeps : (t : Tree) (path : Path) (on : Bool) (at : Moment) → IsValid t → IsValid (with_flag t path on at)
flag_keeps t path on at s =
    elim (same_flag (flag_at t.nodes path) on) as (λ b. IsValid (cond b t (record t { nodes = changed_at (flagged on at) path t.nodes }))) [
      | true ↦ s
      | false ↦ changed_keeps (flagged on at) (λ n. refl) path t.nodes t.highest s
    ]

both_none : (a b : Option Refusal) → or_else a b ≡ None → (a ≡ None) × (b ≡ None)
both_none None b e = (refl, e)
both_none (Some r) b e = cc

-- a call that isn't refused is refused neither for the lock nor within
pub free_within : (t : Tree) (call : Call) → refusal_of t call ≡ None → (lock_refusal t.lock call ≡ None) × (refusal_within t call ≡ None)
free_within t call free = both_none (lock_refusal t.lock call) (refusal_within t call) free

done_keeps : (t : Tree) (call : Call) (at : Moment) → refusal_within t call ≡ None → IsValid t → IsValid (after_done t call at)
done_keeps t (Mkdir path) at free s = create_keeps kinds.Dir t path at free s
done_keeps t (Create path) at free s = create_keeps (kinds.File []) t path at free s
done_keeps t (Write path offset bytes) at free s = write_keeps t path offset bytes at s
done_keeps t (Truncate path n) at free s = length_keeps t path n at s
done_keeps t (Read path offset count) at free s = s
done_keeps t (Listing path) at free s = s
done_keeps t (Stat path) at free s = s
done_keeps t (Rename from to) at free s = rename_keeps t from to at free s
done_keeps t (Remove path) at free s = remove_keeps t path at free s
done_keeps t (Setx path key bytes) at free s = key_keeps t path key bytes at s
done_keeps t (Getx path key) at free s = s
done_keeps t (Dropx path key) at free s = changed_keeps (key_dropped key at) (λ n. refl) path t.nodes t.highest s
done_keeps t (Readonly path on) at free s = flag_keeps t path on at s
done_keeps t LockVolume at free s = s
done_keeps t UnlockVolume at free s = s
done_keeps t PermLock at free s = s
done_keeps t Sync at free s = s

-- each call leaves a valid tree valid
pub next_valid : (t : Tree) (call : Call) (at : Moment) → IsValid t → IsValid (after t call at)
next_valid t call at s =
    elim (refusal_of t call) as (λ r. refusal_of t call ≡ r → IsValid (after_unless r (after_done t call at) t)) [
      | None ↦ λ free. done_keeps t call at (free_within t call free).1 s
      | Some refusal ↦ λ _. s
    ] refl

-- the root alone
root_mark : (at : Moment) (q : Path) → mark_at (empty_tree at).nodes q ≡ cond (is_eq (path_cmp q [])) (Some (1, true)) None
root_mark at q = ap mark_of (fin.get-insert path_total fin.empty [] (new_node kinds.Dir 1 at) q ∙ ap (cond (is_eq (path_cmp q [])) (Some (new_node kinds.Dir 1 at))) (fin.get-empty path_cmp q)) ∙ by (is_eq (path_cmp q []))
  where
    by : (b : Bool) → mark_of (cond b (Some (new_node kinds.Dir 1 at)) None) ≡ cond b (Some (1, true)) None
    by true = refl
    by false = refl

only_root : (q : Path) (uid : ℕ) (dir : Bool) → cond {A = Option (ℕ × Bool)} (is_eq (path_cmp q [])) (Some (1, true)) None ≡ Some (uid, dir) → (q ≡ []) × (1 ≡ uid)
only_root [] uid dir e = (refl, ap uid_in e)
only_root (x ∷ q) uid dir e = cc

-- the empty tree is valid
pub first_valid : (at : Moment) → IsValid (empty_tree at)
first_valid at = record {
  root = root_mark at [];
  parents = λ q uid dir is nonempty. absurd (nonempty (only_root q uid dir (sym (root_mark at q) ∙ is)).0);
  given = λ q uid dir is. let r = only_root q uid dir (sym (root_mark at q) ∙ is) in (omega (arith, r.1), omega (arith, r.1));
  distinct = λ p q uid d e is to. (only_root p uid d (sym (root_mark at p) ∙ is)).0 ∙ sym (only_root q uid e (sym (root_mark at q) ∙ to)).0;
  bounded = lit≤ tt;
  few = omega (arith, fin.len-insert path_total fin.empty [] (new_node kinds.Dir 1 at) ∙ ap (λ (o : Option Node). cond (is_some o) (fin.len (fin.empty {X = Node} {R = path_cmp})) (fin.len (fin.empty {X = Node} {R = path_cmp}) + 1)) (fin.get-empty path_cmp []), fin.len-empty path_cmp Node);
}

-- a call that was answered, or that found no memory, leaves a valid tree
pub either_valid : {T E : Type 0} (r : Result T E) (t next : Tree) (call : Call) (at : Moment) → IsValid t → OnOk r (next ≡ after t call at) → OnErr r (next ≡ t) → IsValid next
either_valid (Ok x) t next call at s ok err = subst (λ (t : Tree). IsValid t) (sym ok) (next_valid t call at s)
either_valid (Err x) t next call at s ok err = subst (λ (t : Tree). IsValid t) (sym err) s
