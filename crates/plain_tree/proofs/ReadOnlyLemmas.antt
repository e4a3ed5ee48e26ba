-- What stands in a read-only directory stays.
use Rattle.std.proofs.Common.{◌≡◌, ◌≢◌, ◌⊎◌, ℕ, ◌+◌, ◌-◌, ◌≤◌, ◌<◌, Bool, true, false, cond, eqb, List, [], ◌∷◌, ◌++◌, length, take, map, Option, Some, None, refl, sym, ap, ◌∙◌, subst, arith, ⊎_elim, inl, inr}
use Rattle.std.specs.FinMap as fin
use Rattle.std.proofs.lemmas.Bool.{cases_lt}
use Rattle.std.proofs.lemmas.List.{length-append, take_at, take_all, take-append-le}
use Rattle.tape_types.specs.declared.moments.Moment.{Moment}
use Rattle.plain_tree.specs.declared.nodes.Node.{Node}
use Rattle.plain_tree.specs.declared.nodes.Kind.{Kind}
use Rattle.plain_tree.specs.declared.nodes.Kind.TheVariants as kinds
use Rattle.plain_tree.specs.declared.calls.Call.{Call}
use Rattle.plain_tree.specs.declared.calls.Call.TheVariants.{Mkdir, Create, Write, Truncate, Read, Listing, Stat, Rename, Remove, Setx, Getx, Dropx, Readonly, LockVolume, UnlockVolume, PermLock, Sync}
use Rattle.plain_tree.specs.declared.calls.Refusal.{Refusal}
use Rattle.plain_tree.specs.declared.calls.Refusal.TheVariants.{Inside, ReadOnly}
use Rattle.plain_tree.specs.Cells.{Cell, resized, written}
use Rattle.plain_tree.specs.Paths.{Name, Path, is_at_or_below, is_below, parent_of, same_path}
use Rattle.plain_tree.specs.Tree.{Tree, Nodes, cells_at, changed_at, change_noted, file_changed, flag_at, flagged, has_value, key_dropped, key_set, moved, new_node, same_flag, touch, touched}
use Rattle.plain_tree.specs.Refusals.{at_root, bad_name, exists_at, first_of, new_refusal, no_dir, no_node, not_empty, read_only, refuse_if, refusal_of, refusal_within, rename_refusal}
use Rattle.plain_tree.specs.Calls.{after, after_done, after_unless, with_new}
use Rattle.plain_tree.specs.Valid.{IsValid, mark_at, mark_of}
use Rattle.plain_tree.proofs.NodeLemmas.{changed_found, changed_missing}
use Rattle.plain_tree.proofs.MoveLemmas.{back, below_Decides, not_true, other_inserted, other_removed, same_is}
use Rattle.plain_tree.proofs.Validity.{after_move, can_move, file_mark, first_none, free_within, not_refused, remarks}

-- ---- marks

-- a change of nodes that leaves their marks leaves each mark of a map
marks_stay : (change : Node → Node) → ((n : Node) → mark_of (Some (change n)) ≡ mark_of (Some n)) → (p : Path) (m : Nodes) (q : Path) → mark_at (changed_at change p m) q ≡ mark_at m q
marks_stay change keeps p m q =
    elim (fin.get m p) as (λ o. fin.get m p ≡ o → mark_at (changed_at change p m) q ≡ mark_at m q) [
      | None ↦ λ none. ap (λ (n : Nodes). mark_at n q) (changed_missing change p m none)
      | Some node ↦ λ there. ap (λ (n : Nodes). mark_at n q) (changed_found change p m node there) ∙ remarks m p node (change node) there (keeps node) q
    ] refl

touches_stay : (at : Moment) (p : Path) (m : Nodes) (q : Path) → mark_at (touch at p m) q ≡ mark_at m q
touches_stay at p m q = marks_stay (touched at) (λ n. refl) p m q

-- ---- the directory

flag_there : (m : Nodes) (dir : Path) (node : Node) → fin.get m dir ≡ Some node → node.readonly ≡ true → flag_at m dir ≡ true
flag_there m dir node there flag = rw there flag

-- nothing that isn't refused as read-only is in the directory
not_in : (m : Nodes) (dir up : Path) → flag_at m dir ≡ true → read_only m up ≡ None → up ≢ dir
not_in m dir up flag free same = let wrong : true ≡ false = sym flag ∙ ap (flag_at m) (sym same) ∙ not_refused (flag_at m up) ReadOnly free in cc

parent_ends : (p : Path) (x : Name) → parent_of (p ++ x ∷ []) ≡ p
parent_ends p x = take_at p (x ∷ []) (length (p ++ x ∷ []) - 1) (omega (arith, length-append p (x ∷ [])))

apart : (m : Nodes) (dir path : Path) (name : Name) → flag_at m dir ≡ true → read_only m (parent_of path) ≡ None → same_path (dir ++ name ∷ []) path ≡ false
apart m dir path name flag free = not_true (same_path (dir ++ name ∷ []) path)
    (λ e. not_in m dir (parent_of path) flag free (ap parent_of (sym (same_is (dir ++ name ∷ []) path e)) ∙ parent_ends dir name))

-- a path at or above an entry of a directory is the entry, or at or above the directory
at_end : (x dir : Path) (name : Name) → is_at_or_below x (dir ++ name ∷ []) ≡ true → is_at_or_below x dir ≡ false → x ≡ dir ++ name ∷ []
at_end x dir name is off = ⊎_elim
    (λ longer. (below_Decides x (dir ++ name ∷ [])).0 is ∙ take_all (length x) (dir ++ name ∷ []) (omega (arith, longer, length-append dir (name ∷ []))))
    (λ short.
    let front : take (length x) (dir ++ name ∷ []) ≡ take (length x) dir = take-append-le (length x) dir (name ∷ []) (omega (arith, short)) in
    let wrong : true ≡ false = sym ((below_Decides x dir).1 ((below_Decides x (dir ++ name ∷ [])).0 is ∙ front)) ∙ off in cc)
    (cases_lt (length dir) (length x))

-- an entry isn't at or below such a path where the directory isn't, and where what stands at the path may change
off_end : (m : Nodes) (dir x : Path) (name : Name) → flag_at m dir ≡ true → read_only m (parent_of x) ≡ None → is_at_or_below x dir ≡ false → is_at_or_below x (dir ++ name ∷ []) ≡ false
off_end m dir x name flag free off = not_true (is_at_or_below x (dir ++ name ∷ []))
    (λ is. not_in m dir (parent_of x) flag free (ap parent_of (at_end x dir name is off) ∙ parent_ends dir name))

mark_some : (m : Nodes) (p : Path) (node : Node) → fin.get m p ≡ Some node → mark_at m p ≡ mark_of (Some node)
mark_some m p node is = ap mark_of is

-- ---- renames

module _ (t : Tree) (from to : Path) (at : Moment) (s : IsValid t) (free : rename_refusal t.nodes from to ≡ None) (differ : same_path from to ≡ false)
    (dir : Path) (node : Node) (name : Name) (there : fin.get t.nodes dir ≡ Some node) (flag : node.readonly ≡ true) where
  abbrev m : Nodes
  m = t.nodes

  abbrev now : Nodes
  now = touch at (parent_of to) (touch at (parent_of from) (changed_at (change_noted at) to (moved from to m)))

  marks : (q : Path) → mark_at now q ≡ mark_at (moved from to m) q
  marks q =
      touches_stay at (parent_of to) (touch at (parent_of from) (changed_at (change_noted at) to (moved from to m))) q
      ∙ touches_stay at (parent_of from) (changed_at (change_noted at) to (moved from to m)) q
      ∙ marks_stay (change_noted at) (λ n. refl) to (moved from to m) q

  both : (read_only m (parent_of from) ≡ None) × (read_only m (parent_of to) ≡ None)
  both =
      let a = first_none (bad_name to) _ free in
      let b = first_none (at_root from) _ a.1 in
      let c = first_none (at_root to) _ b.1 in
      let d = first_none (no_node m from) _ c.1 in
      let e = first_none (no_dir m (parent_of to)) _ d.1 in
      let f = first_none _ _ e.1 in
      let g : first_of (exists_at m to ∷ refuse_if (is_below from to) Inside ∷ read_only m (parent_of from) ∷ read_only m (parent_of to) ∷ []) ≡ None =
      sym (ap (λ b. cond b None (first_of (exists_at m to ∷ refuse_if (is_below from to) Inside ∷ read_only m (parent_of from) ∷ read_only m (parent_of to) ∷ []))) differ) ∙ f.0 in
      let h = first_none (exists_at m to) _ g in
      let i = first_none (refuse_if (is_below from to) Inside) _ h.1 in
      let j = first_none (read_only m (parent_of from)) _ i.1 in
      (j.0, (first_none (read_only m (parent_of to)) [] j.1).0)

  not_to : is_at_or_below to dir ≡ false
  not_to = not_true (is_at_or_below to dir) (λ is. let wrong : None ≡ Some node = sym ((can_move t from to s free differ).free dir is) ∙ there in cc)

  not_from : mark_at now dir ≡ mark_at m dir → is_at_or_below from dir ≡ false
  not_from stays = not_true (is_at_or_below from dir) (λ is.
      let gone : mark_at (moved from to m) dir ≡ None =
      after_move m from to (can_move t from to s free differ) dir
      ∙ ap (λ b. cond b (mark_at m (back from to dir)) (cond (is_at_or_below from dir) None (mark_at m dir))) not_to
      ∙ ap (λ b. cond b None (mark_at m dir)) is in
      let wrong : None ≡ mark_of (Some node) = sym gone ∙ sym (marks dir) ∙ stays ∙ mark_some m dir node there in cc)

  renamed : mark_at now dir ≡ mark_at m dir → mark_at now (dir ++ name ∷ []) ≡ mark_at m (dir ++ name ∷ [])
  renamed stays =
      let q = dir ++ name ∷ [] in
      let held = flag_there m dir node there flag in
      marks q ∙ after_move m from to (can_move t from to s free differ) q
      ∙ ap (λ b. cond b (mark_at m (back from to q)) (cond (is_at_or_below from q) None (mark_at m q))) (off_end m dir to name held both.1 not_to)
      ∙ ap (λ b. cond b None (mark_at m q)) (off_end m dir from name held both.0 (not_from stays))

-- ---- each call

abbrev Stays : Tree → Tree → Path → Name → Type 0
Stays t next dir name = mark_at next.nodes dir ≡ mark_at t.nodes dir → mark_at next.nodes (dir ++ name ∷ []) ≡ mark_at t.nodes (dir ++ name ∷ [])

module _ (t : Tree) (at : Moment) (dir : Path) (node : Node) (name : Name) (s : IsValid t) (there : fin.get t.nodes dir ≡ Some node) (flag : node.readonly ≡ true) where
  abbrev q : Path
  q = dir ++ name ∷ []

  changed : (change : Node → Node) → ((n : Node) → mark_of (Some (change n)) ≡ mark_of (Some n)) → (p : Path) → Stays t (record t { nodes = changed_at change p t.nodes }) dir name
  changed change keeps p _ = marks_stay change keeps p t.nodes q

  made : (kind : Kind) (path : Path) → new_refusal t path ≡ None → Stays t (with_new kind t path at) dir name
  made kind path free _ =
      let a = first_none (bad_name path) _ free in
      let b = first_none (at_root path) _ a.1 in
      let c = first_none (no_dir t.nodes (parent_of path)) _ b.1 in
      let d = first_none (exists_at t.nodes path) _ c.1 in
      let r = first_none (read_only t.nodes (parent_of path)) _ d.1 in
      let new = new_node kind (t.highest + 1) at in
      touches_stay at (parent_of path) (fin.insert t.nodes path (new_node kind (t.highest + 1) at)) q
      ∙ ap mark_of (other_inserted t.nodes path q new (apart t.nodes dir path name (flag_there t.nodes dir node there flag) r.0))

  done_stays : (call : Call) → refusal_within t call ≡ None → Stays t (after_done t call at) dir name
  done_stays (Mkdir path) free = made kinds.Dir path free
  done_stays (Create path) free = made (kinds.File []) path free
  done_stays (Write path offset []) free = λ _. refl
  done_stays (Write path offset (b ∷ bytes)) free = changed (file_changed (λ cells. written cells offset (map (λ x. Some x) (b ∷ bytes))) at) (file_mark (λ cells. written cells offset (map (λ x. Some x) (b ∷ bytes))) at) path
  done_stays (Truncate path n) free =
      elim (eqb n (length (cells_at t.nodes path))) as (λ b. Stays t (cond b t (record t { nodes = changed_at (file_changed (λ cells. resized cells n) at) path t.nodes })) dir name) [
        | true ↦ λ _. refl
        | false ↦ changed (file_changed (λ cells. resized cells n) at) (file_mark (λ cells. resized cells n) at) path
      ]
  done_stays (Read path offset count) free = λ _. refl
  done_stays (Listing path) free = λ _. refl
  done_stays (Stat path) free = λ _. refl
  done_stays (Rename from to) free =
      elim (same_path from to) as (λ b. same_path from to ≡ b → Stays t (cond b t (record t { nodes = touch at (parent_of to) (touch at (parent_of from) (changed_at (change_noted at) to (moved from to t.nodes))) })) dir name) [
        | true ↦ λ same _. refl
        | false ↦ λ differ stays. renamed t from to at s free differ dir node name there flag stays
      ] refl
  done_stays (Remove path) free =
      let a = first_none (at_root path) _ free in
      let b = first_none (no_node t.nodes path) _ a.1 in
      let c = first_none (not_empty t.nodes path) _ b.1 in
      let r = first_none (read_only t.nodes (parent_of path)) [] c.1 in
      λ _. touches_stay at (parent_of path) (fin.remove t.nodes path) q
      ∙ ap mark_of (other_removed t.nodes path q (apart t.nodes dir path name (flag_there t.nodes dir node there flag) r.0))
  done_stays (Setx path key bytes) free =
      elim (has_value t.nodes path key bytes) as (λ b. Stays t (cond b t (record t { nodes = changed_at (key_set key bytes at) path t.nodes })) dir name) [
        | true ↦ λ _. refl
        | false ↦ changed (key_set key bytes at) (λ n. refl) path
      ]
  done_stays (Getx path key) free = λ _. refl
  done_stays (Dropx path key) free = changed (key_dropped key at) (λ n. refl) path
  done_stays (Readonly path on) free =
      elim (same_flag (flag_at t.nodes path) on) as (λ b. Stays t (cond b t (record t { nodes = changed_at (flagged on at) path t.nodes })) dir name) [
        | true ↦ λ _. refl
        | false ↦ changed (flagged on at) (λ n. refl) path
      ]
  done_stays LockVolume free = λ _. refl
  done_stays UnlockVolume free = λ _. refl
  done_stays PermLock free = λ _. refl
  done_stays Sync free = λ _. refl

-- what stands in a read-only directory stays, as long as the directory does
pub dirs_stay : (t : Tree) (call : Call) (at : Moment) (dir : Path) (node : Node) (name : Name) → IsValid t → fin.get t.nodes dir ≡ Some node → node.readonly ≡ true
    → mark_at (after t call at).nodes dir ≡ mark_at t.nodes dir → mark_at (after t call at).nodes (dir ++ name ∷ []) ≡ mark_at t.nodes (dir ++ name ∷ [])
dirs_stay t call at dir node name s there flag =
    elim (refusal_of t call) as (λ r. refusal_of t call ≡ r → Stays t (after_unless r (after_done t call at) t) dir name) [
      | None ↦ λ free. done_stays t at dir node name s there flag call (free_within t call free).1
      | Some refusal ↦ λ _ _. refl
    ] refl
