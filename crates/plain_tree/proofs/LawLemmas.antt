-- The laws of refusals, uids, writes and renames.
use Rattle.std.proofs.Common.{◌⊎◌, ◌≡◌, ℕ, ◌+◌, ◌<◌, ◌≤◌, Bool, true, false, cond, eqb, List, [], ◌∷◌, length, map, Option, Some, None, sym, ap, subst, ◌∙◌, refl, arith, ⊎_elim, inl, inr}
use Rattle.std.specs.FinMap as fin
use Rattle.std.proofs.lemmas.Option.{same_Some}
use Rattle.tape_types.specs.declared.moments.Moment.{Moment}
use Rattle.plain_tree.specs.declared.nodes.Node.{Node}
use Rattle.plain_tree.specs.declared.nodes.Kind.{Kind}
use Rattle.plain_tree.specs.declared.nodes.Kind.TheVariants as kinds
use Rattle.plain_tree.specs.declared.calls.Answer.TheVariants as answers
use Rattle.plain_tree.specs.declared.calls.Call.{Call}
use Rattle.plain_tree.specs.declared.calls.Call.TheVariants.{Mkdir, Create, Write, Truncate, Read, Listing, Stat, Rename, Remove, Setx, Getx, Dropx, Readonly, LockVolume, UnlockVolume, PermLock, Sync}
use Rattle.plain_tree.specs.declared.calls.Placed.{Placed}
use Rattle.plain_tree.specs.declared.calls.Fate.{Fate}
use Rattle.plain_tree.specs.declared.calls.Fate.TheVariants as fates
use Rattle.plain_tree.specs.declared.calls.Refusal.{Refusal}
use Rattle.plain_tree.specs.Cells.{Cell, written, resized}
use Rattle.plain_tree.specs.Paths.{Path, parent_of, same_path, is_at_or_below}
use Rattle.plain_tree.specs.Tree.{Tree, Nodes, new_node, changed_at, touch, touched, change_noted, file_changed, moved, cells_at, has_value, key_set, flag_at, same_flag, flagged}
use Rattle.plain_tree.specs.Laws.{IsUnused, KeepsNode, WasThere, IsMade, sets_keys, sets_content}
use Rattle.tape_types.specs.NodeKeys.Keys.{KeyMap}
use Rattle.plain_tree.specs.declared.calls.Refusal.TheVariants.{ReadOnly}
use Rattle.plain_tree.specs.Refusals.{refusal_of, refusal_within, bad_key, no_key, no_node, no_file, read_only}
use Rattle.plain_tree.specs.Calls.{answer, answer_unless, value_of, after, after_done, after_unless, with_new}
use Rattle.plain_tree.specs.History.{Calls, call_at, after_placement, replay}
use Rattle.plain_tree.specs.Valid.{IsValid}
use Rattle.plain_tree.proofs.NodeLemmas.{path_total, changed_found, changed_missing}
use Rattle.plain_tree.proofs.MoveLemmas.{back, get_moved, here_inserted, other_inserted, other_removed}
use Rattle.plain_tree.proofs.Validity.{next_valid, can_move, first_none, free_within, not_refused}

-- what holds of a tree, and is kept by each call, is kept by each history
module _ (P : Tree → Type 0) (keeps : (t : Tree) (call : Call) (at : Moment) → P t → P (after t call at)) where
  placed_keeps : (calls : Calls) (t : Tree) (p : Placed) → P t → P (after_placement calls t p)
  placed_keeps calls t p h = by p.fate (call_at calls p) refl refl
    where
      by : (fate : Fate) (call : Option Call) → p.fate ≡ fate → call_at calls p ≡ call → P (after_placement calls t p)
      by fates.Void call is called = rw is h
      by fates.Done None is called = rw (is, called) h
      by fates.Done (Some call) is called = rw (is, called) (keeps t call p.at h)

  -- what each call keeps, a whole history keeps
  pub history_keeps : (calls : Calls) (history : List Placed) (t : Tree) → P t → P (replay calls t history)
  history_keeps calls [] t h = h
  history_keeps calls (p ∷ history) t h = history_keeps calls history (after_placement calls t p) (placed_keeps calls t p h)

-- what a call that isn't refused answers is no refusal
value_not_refused : (t : Tree) (call : Call) (refusal : Refusal) → value_of t call ≡ answers.Refused refusal → ⊥
value_not_refused t (Mkdir path) refusal e = cc
value_not_refused t (Create path) refusal e = cc
value_not_refused t (Write path offset bytes) refusal e = cc
value_not_refused t (Truncate path length) refusal e = cc
value_not_refused t (Read path offset count) refusal e = cc
value_not_refused t (Listing path) refusal e = cc
value_not_refused t (Stat path) refusal e = by (fin.get t.nodes path) refl
  where
    by : (o : Option Node) → fin.get t.nodes path ≡ o → ⊥
    by None is = let wrong = rw is at e in cc
    by (Some node) is = let wrong = rw is at e in cc
value_not_refused t (Rename from to) refusal e = cc
value_not_refused t (Remove path) refusal e = cc
value_not_refused t (Setx path key bytes) refusal e = cc
value_not_refused t (Getx path key) refusal e = cc
value_not_refused t (Dropx path key) refusal e = cc
value_not_refused t (Readonly path on) refusal e = cc
value_not_refused t LockVolume refusal e = cc
value_not_refused t UnlockVolume refusal e = cc
value_not_refused t PermLock refusal e = cc
value_not_refused t Sync refusal e = cc

-- a call that is refused leaves the tree as it was
pub refused_keeps : (t : Tree) (call : Call) (at : Moment) (refusal : Refusal) → answer t call ≡ answers.Refused refusal → after t call at ≡ t
refused_keeps t call at refusal e =
    elim (refusal_of t call) as (λ r. answer_unless r (value_of t call) ≡ answers.Refused refusal → after_unless r (after_done t call at) t ≡ t) [
      | None ↦ λ value. absurd (value_not_refused t call refusal value)
      | Some why ↦ λ value. refl
    ] e

-- ---- uids

-- the one node is the other, but for its times
record IsOf (node old : Node) : Type 0 where
  uid : node.uid ≡ old.uid
  flag : node.readonly ≡ old.readonly
  keys : node.keys ≡ old.keys
  kind : node.kind ≡ old.kind

is_of_itself : (node : Node) → IsOf node node
is_of_itself node = record { uid = refl; flag = refl; keys = refl; kind = refl }

of_of : (a b c : Node) → IsOf a b → IsOf b c → IsOf a c
of_of a b c x y = record { uid = x.uid ∙ y.uid; flag = x.flag ∙ y.flag; keys = x.keys ∙ y.keys; kind = x.kind ∙ y.kind }

-- such a node is kept by each call
of_kept : (call : Call) (node old : Node) → IsOf node old → KeepsNode call old node
of_kept call node old o = record { uid = o.uid; keys = λ _. o.keys; flag = λ _. o.flag; content = λ _. o.kind; guarded = λ _. (o.keys, o.kind) }

-- a tree and a later one: the highest uid has not fallen, and each node was there, and is kept, or was made
record IsLater (call : Call) (t next : Tree) : Type 0 where
  rises : t.highest ≤ next.highest
  known : (path : Path) (node : Node) → fin.get next.nodes path ≡ Some node → WasThere t call node ⊎ IsMade t node

-- each node of a map is one of another, or what became of it
abbrev Come : (Node → Node → Type 0) → Nodes → Nodes → Type 0
Come K next m = (path : Path) (node : Node) → fin.get next path ≡ Some node → (q : Path) × (old : Node) × (fin.get m q ≡ Some old) × K node old

come_changed : (K : Node → Node → Type 0) → ((n : Node) → K n n) → (change : Node → Node) (p : Path) (m : Nodes) → ((n : Node) → fin.get m p ≡ Some n → K (change n) n)
    → Come K (changed_at change p m) m
come_changed K same_as change p m keeps path node is =
    elim (fin.get m p) as (λ o. fin.get m p ≡ o → (q : Path) × (old : Node) × (fin.get m q ≡ Some old) × K node old) [
      | None ↦ λ none. (path, node, sym (ap (λ n. fin.get n path) (changed_missing change p m none)) ∙ is, same_as node)
      | Some old ↦ λ found.
          elim (same_path path p) as (λ b. same_path path p ≡ b → (q : Path) × (old : Node) × (fin.get m q ≡ Some old) × K node old) [
            | true ↦ λ same. (p, old, found, subst (λ n. K n old) (sym (same_Some node (change old) (sym is ∙ ap (λ n. fin.get n path) (changed_found change p m old found) ∙ here_inserted m p path (change old) same))) (keeps old found))
            | false ↦ λ other. (path, node, sym (ap (λ n. fin.get n path) (changed_found change p m old found) ∙ other_inserted m p path (change old) other) ∙ is, same_as node)
          ] refl
    ] refl

come_come : (a b c : Nodes) → Come IsOf a b → Come IsOf b c → Come IsOf a c
come_come a b c ab bc path node is =
    let one = ab path node is in
    let two = bc one.0 one.1 one.2 in
    (two.0, two.1, two.2, of_of node one.1 two.1 one.3 two.3)

come_touched : (at : Moment) (p : Path) (m : Nodes) → Come IsOf (touch at p m) m
come_touched at p m = come_changed IsOf is_of_itself (touched at) p m (λ n is. record { uid = refl; flag = refl; keys = refl; kind = refl })

come_removed : (p : Path) (m : Nodes) → Come IsOf (fin.remove m p) m
come_removed p m path node is =
    elim (same_path path p) as (λ b. same_path path p ≡ b → (q : Path) × (old : Node) × (fin.get m q ≡ Some old) × IsOf node old) [
      | true ↦ λ same. let wrong : None ≡ Some node = sym (fin.get-remove path_total m p path ∙ ap (λ b. cond b None (fin.get m path)) same) ∙ is in cc
      | false ↦ λ other. (path, node, sym (other_removed m p path other) ∙ is, is_of_itself node)
    ] refl

come_moved : (from to : Path) (m : Nodes) → ((x : Path) → is_at_or_below to x ≡ true → fin.get m x ≡ None) → Come IsOf (moved from to m) m
come_moved from to m free path node is =
    let now = sym (get_moved from to m path free) ∙ is in
    elim (is_at_or_below to path) as (λ a. cond a (fin.get m (back from to path)) (cond (is_at_or_below from path) None (fin.get m path)) ≡ Some node → (q : Path) × (old : Node) × (fin.get m q ≡ Some old) × IsOf node old) [
      | true ↦ λ e. (back from to path, node, e, is_of_itself node)
      | false ↦ λ e.
          elim (is_at_or_below from path) as (λ b. cond b None (fin.get m path) ≡ Some node → (q : Path) × (old : Node) × (fin.get m q ≡ Some old) × IsOf node old) [
            | true ↦ λ e. cc
            | false ↦ λ e. (path, node, e, is_of_itself node)
          ] e
    ] now

-- a change that keeps the highest uid
later : (call : Call) (t next : Tree) → next.highest ≡ t.highest → Come (λ node old. KeepsNode call old node) next.nodes t.nodes → IsLater call t next
later call t next highest come = record {
  rises = omega (arith, highest);
  known = λ path node is. let was = come path node is in inl (record { path = was.0; old = was.1; there = was.2; kept = was.3 });
}

-- one that leaves all nodes but for their times
later_of : (call : Call) (t next : Tree) → next.highest ≡ t.highest → Come IsOf next.nodes t.nodes → IsLater call t next
later_of call t next highest come = later call t next highest (λ path node is. let was = come path node is in (was.0, was.1, was.2, of_kept call node was.1 was.3))

later_same : (call : Call) (t : Tree) → IsLater call t t
later_same call t = later_of call t t refl (λ path node is. (path, node, is, is_of_itself node))

later_new : (call : Call) (kind : Kind) (t : Tree) (path : Path) (at : Moment) → IsLater call t (with_new kind t path at)
later_new call kind t path at = record {
  rises = omega arith;
  known = λ q node is.
      let new = new_node kind (t.highest + 1) at in
      let was = come_touched at (parent_of path) (fin.insert t.nodes path (new_node kind (t.highest + 1) at)) q node is in
      elim (same_path was.0 path) as (λ b. same_path was.0 path ≡ b → WasThere t call node ⊎ IsMade t node) [
        | true ↦ λ same. inr (
            let made : was.1 ≡ new = same_Some was.1 new (sym was.2 ∙ here_inserted t.nodes path was.0 new same) in
            let uid : was.1.uid ≡ t.highest + 1 = ap (λ n. n.uid) made in
            record { uid = omega (arith, was.3.uid, uid); keys = was.3.keys ∙ ap (λ n. n.keys) made; flag = was.3.flag ∙ ap (λ n. n.readonly) made })
        | false ↦ λ other. inl (record { path = was.0; old = was.1; there = sym (other_inserted t.nodes path was.0 (new_node kind (t.highest + 1) at) other) ∙ was.2; kept = of_kept call node was.1 was.3 })
      ] refl;
}

-- where a path isn't refused as read-only, the node there isn't
unflagged : (m : Nodes) (p : Path) (n : Node) → read_only m p ≡ None → fin.get m p ≡ Some n → n.readonly ≡ false
unflagged m p n free is = let open_now = not_refused (flag_at m p) ReadOnly free in let here = rw is at open_now in here

not_both : (b : Bool) → b ≡ false → b ≡ true → ⊥
not_both b e f = let wrong : false ≡ true = sym e ∙ f in cc

-- a change of a file's bytes, where the file isn't read-only
come_file : (call : Call) → sets_content call ≡ true → (change : List Cell → List Cell) (at : Moment) (p : Path) (m : Nodes) → read_only m p ≡ None
    → Come (λ node old. KeepsNode call old node) (changed_at (file_changed change at) p m) m
come_file call content change at p m free = come_changed (λ node old. KeepsNode call old node) (λ n. of_kept call n n (is_of_itself n)) (file_changed change at) p m (λ n is. by n is n.kind refl)
  where
    by : (n : Node) → fin.get m p ≡ Some n → (kind : Kind) → n.kind ≡ kind → KeepsNode call n (file_changed change at n)
    by n there kinds.Dir is = rw is (of_kept call (record n { kind = kinds.Dir }) (record n { kind = kinds.Dir }) (is_of_itself (record n { kind = kinds.Dir })))
    by n there (kinds.Link text) is = rw is (of_kept call (record n { kind = kinds.Link text }) (record n { kind = kinds.Link text }) (is_of_itself (record n { kind = kinds.Link text })))
    by n there (kinds.File cells) is = rw is (record {
      uid = refl;
      keys = λ _. refl;
      flag = λ _. refl;
      content = λ none. absurd (not_both (sets_content call) none content);
      guarded = λ flag. absurd (not_both n.readonly (unflagged m p n free there) flag);
    })

-- a change of a node's attributes, where it isn't read-only
come_keys : (call : Call) → sets_keys call ≡ true → (keys : KeyMap → KeyMap) (at : Moment) (p : Path) (m : Nodes) → read_only m p ≡ None
    → Come (λ node old. KeepsNode call old node) (changed_at (λ n. change_noted at (record n { keys = keys n.keys })) p m) m
come_keys call set keys at p m free = come_changed (λ node old. KeepsNode call old node) (λ n. of_kept call n n (is_of_itself n)) (λ n. change_noted at (record n { keys = keys n.keys })) p m (λ n is. record {
  uid = refl;
  keys = λ none. absurd (not_both (sets_keys call) none set);
  flag = λ _. refl;
  content = λ _. refl;
  guarded = λ flag. absurd (not_both n.readonly (unflagged m p n free is) flag);
})

-- a change of its flag
come_flag : (path : Path) (on set : Bool) (at : Moment) (p : Path) (m : Nodes) → Come (λ node old. KeepsNode (Readonly path set) old node) (changed_at (flagged on at) p m) m
come_flag path on set at p m = come_changed (λ node old. KeepsNode (Readonly path set) old node) (λ n. of_kept (Readonly path set) n n (is_of_itself n)) (flagged on at) p m (λ n is. record {
  uid = refl;
  keys = λ _. refl;
  flag = λ none. cc;
  content = λ _. refl;
  guarded = λ _. (refl, refl);
})

later_done : (t : Tree) (call : Call) (at : Moment) → refusal_within t call ≡ None → IsValid t → IsLater call t (after_done t call at)
later_done t (Mkdir path) at free s = later_new _ kinds.Dir t path at
later_done t (Create path) at free s = later_new _ (kinds.File []) t path at
later_done t (Write path offset []) at free s = later_same _ t
later_done t (Write path offset (b ∷ bytes)) at free s =
    let a = first_none (no_file t.nodes path) _ free in
    let r = first_none (read_only t.nodes path) _ a.1 in
    later (Write path offset (b ∷ bytes)) t _ refl (come_file (Write path offset (b ∷ bytes)) refl (λ cells. written cells offset (map (λ x. Some x) (b ∷ bytes))) at path t.nodes r.0)
later_done t (Truncate path n) at free s =
    let a = first_none (no_file t.nodes path) _ free in
    let r = first_none (read_only t.nodes path) _ a.1 in
    elim (eqb n (length (cells_at t.nodes path))) as (λ b. IsLater (Truncate path n) t (cond b t (record t { nodes = changed_at (file_changed (λ cells. resized cells n) at) path t.nodes }))) [
      | true ↦ later_same (Truncate path n) t
      | false ↦ later (Truncate path n) t _ refl (come_file (Truncate path n) refl (λ cells. resized cells n) at path t.nodes r.0)
    ]
later_done t (Read path offset count) at free s = later_same _ t
later_done t (Listing path) at free s = later_same _ t
later_done t (Stat path) at free s = later_same _ t
later_done t (Rename from to) at free s =
    elim (same_path from to) as (λ b. same_path from to ≡ b → IsLater (Rename from to) t (cond b t (record t { nodes = touch at (parent_of to) (touch at (parent_of from) (changed_at (change_noted at) to (moved from to t.nodes))) }))) [
      | true ↦ λ same. later_same (Rename from to) t
      | false ↦ λ differ.
          let m = moved from to t.nodes in
          let noted = changed_at (change_noted at) to (moved from to t.nodes) in
          later_of (Rename from to) t _ refl (come_come _ (touch at (parent_of from) noted) t.nodes (come_touched at (parent_of to) (touch at (parent_of from) noted))
          (come_come _ noted t.nodes (come_touched at (parent_of from) noted)
          (come_come _ m t.nodes (come_changed IsOf is_of_itself (change_noted at) to m (λ n is. record { uid = refl; flag = refl; keys = refl; kind = refl })) (come_moved from to t.nodes (can_move t from to s free differ).free))))
    ] refl
later_done t (Remove path) at free s = later_of (Remove path) t _ refl (come_come _ (fin.remove t.nodes path) t.nodes (come_touched at (parent_of path) (fin.remove t.nodes path)) (come_removed path t.nodes))
later_done t (Setx path key bytes) at free s =
    let a = first_none (bad_key key) _ free in
    let b = first_none (no_node t.nodes path) _ a.1 in
    let r = first_none (read_only t.nodes path) _ b.1 in
    elim (has_value t.nodes path key bytes) as (λ b. IsLater (Setx path key bytes) t (cond b t (record t { nodes = changed_at (key_set key bytes at) path t.nodes }))) [
      | true ↦ later_same (Setx path key bytes) t
      | false ↦ later (Setx path key bytes) t _ refl (come_keys (Setx path key bytes) refl (λ keys. fin.insert keys key bytes) at path t.nodes r.0)
    ]
later_done t (Getx path key) at free s = later_same _ t
later_done t (Dropx path key) at free s =
    let a = first_none (no_node t.nodes path) _ free in
    let b = first_none (no_key t.nodes path key) _ a.1 in
    let r = first_none (read_only t.nodes path) _ b.1 in
    later (Dropx path key) t _ refl (come_keys (Dropx path key) refl (λ keys. fin.remove keys key) at path t.nodes r.0)
later_done t (Readonly path on) at free s =
    elim (same_flag (flag_at t.nodes path) on) as (λ b. IsLater (Readonly path on) t (cond b t (record t { nodes = changed_at (flagged on at) path t.nodes }))) [
      | true ↦ later_same (Readonly path on) t
      | false ↦ later (Readonly path on) t _ refl (come_flag path on on at path t.nodes)
    ]
later_done t LockVolume at free s = later_of LockVolume t _ refl (λ path node is. (path, node, is, is_of_itself node))
later_done t UnlockVolume at free s = later_of UnlockVolume t _ refl (λ path node is. (path, node, is, is_of_itself node))
later_done t PermLock at free s = later_of PermLock t _ refl (λ path node is. (path, node, is, is_of_itself node))
later_done t Sync at free s = later_same _ t

later_next : (t : Tree) (call : Call) (at : Moment) → IsValid t → IsLater call t (after t call at)
later_next t call at s =
    elim (refusal_of t call) as (λ r. refusal_of t call ≡ r → IsLater call t (after_unless r (after_done t call at) t)) [
      | None ↦ λ free. later_done t call at (free_within t call free).1 s
      | Some refusal ↦ λ _. later_same call t
    ] refl

-- each node that a call leaves was there, and is kept, or was made
pub nodes_stay : (t : Tree) (call : Call) (at : Moment) → IsValid t → (path : Path) (node : Node) → fin.get (after t call at).nodes path ≡ Some node → WasThere t call node ⊎ IsMade t node
nodes_stay t call at s path node is = (later_next t call at s).known path node is

-- the highest uid, without a look at what stands in the tree
highest_done : (t : Tree) (call : Call) (at : Moment) → t.highest ≤ (after_done t call at).highest
highest_done t (Mkdir path) at = omega arith
highest_done t (Create path) at = omega arith
highest_done t (Write path offset []) at = omega arith
highest_done t (Write path offset (b ∷ bytes)) at = omega arith
highest_done t (Truncate path n) at = elim (eqb n (length (cells_at t.nodes path))) as (λ b. t.highest ≤ (cond b t (record t { nodes = changed_at (file_changed (λ cells. resized cells n) at) path t.nodes })).highest) [ true ↦ omega arith | false ↦ omega arith ]
highest_done t (Read path offset count) at = omega arith
highest_done t (Listing path) at = omega arith
highest_done t (Stat path) at = omega arith
highest_done t (Rename from to) at = elim (same_path from to) as (λ b. t.highest ≤ (cond b t (record t { nodes = touch at (parent_of to) (touch at (parent_of from) (changed_at (change_noted at) to (moved from to t.nodes))) })).highest) [ true ↦ omega arith | false ↦ omega arith ]
highest_done t (Remove path) at = omega arith
highest_done t (Setx path key bytes) at = elim (has_value t.nodes path key bytes) as (λ b. t.highest ≤ (cond b t (record t { nodes = changed_at (key_set key bytes at) path t.nodes })).highest) [ true ↦ omega arith | false ↦ omega arith ]
highest_done t (Getx path key) at = omega arith
highest_done t (Dropx path key) at = omega arith
highest_done t (Readonly path on) at = elim (same_flag (flag_at t.nodes path) on) as (λ b. t.highest ≤ (cond b t (record t { nodes = changed_at (flagged on at) path t.nodes })).highest) [ true ↦ omega arith | false ↦ omega arith ]
highest_done t LockVolume at = omega arith
highest_done t UnlockVolume at = omega arith
highest_done t PermLock at = omega arith
highest_done t Sync at = omega arith

highest_next : (t : Tree) (call : Call) (at : Moment) → t.highest ≤ (after t call at).highest
highest_next t call at = elim (refusal_of t call) as (λ r. t.highest ≤ (after_unless r (after_done t call at) t).highest) [ None ↦ highest_done t call at | Some refusal ↦ omega arith ]

-- the highest uid never falls
pub highest_rises : (calls : Calls) (history : List Placed) (t : Tree) → t.highest ≤ (replay calls t history).highest
highest_rises calls history t =
    history_keeps (λ next. t.highest ≤ next.highest) (λ next call at h. omega (arith, h, highest_next next call at)) calls history t (omega arith)

record KeepsUnused (h uid : ℕ) (t : Tree) : Type 0 where
  valid : IsValid t
  given : uid ≤ t.highest
  unused : IsUnused t uid

-- a uid that was given and is no more used stays unused
pub unused_stays : (calls : Calls) (history : List Placed) (t : Tree) (uid : ℕ) → IsValid t → uid ≤ t.highest → IsUnused t uid → IsUnused (replay calls t history) uid
unused_stays calls history t uid s given unused =
    (history_keeps (KeepsUnused 0 uid)
    (λ t call at k.
    let later = later_next t call at k.valid in
    record {
      valid = next_valid t call at k.valid;
      given = omega (arith, k.given, later.rises);
      unused = λ path node is e. ⊎_elim
          (λ old. k.unused old.path old.old old.there (sym old.kept.uid ∙ e))
          (λ new. absurd (omega (arith, k.given, new.uid, e)))
          (later.known path node is);
    })
    calls history t (record { valid = s; given = given; unused = unused })).unused
