-- A read of what was written, and what a rename keeps.
use Rattle.std.proofs.Common.{◌⊎◌, ◌≡◌, ◌≢◌, ℕ, ◌+◌, ◌-◌, ◌<◌, true, false, cond, List, [], ◌∷◌, ◌++◌, length, take, drop, map, replicate, Option, Some, None, is_none, unwrap_or, sym, ap, ◌∙◌, refl, subst, arith, ⊎_elim, inl, inr, append_assoc}
use Rattle.std.specs.FinMap as fin
use Rattle.std.specs.Option.{option_map}
use Rattle.std.proofs.lemmas.Bool.{cases_lt}
use Rattle.std.proofs.lemmas.List.{length-take, length-append, length-replicate, length-map, take_at, drop_at, take-take, take-append-le}
use Rattle.tape_types.specs.declared.moments.Moment.{Moment}
use Rattle.plain_tree.specs.declared.nodes.Node.{Node}
use Rattle.plain_tree.specs.declared.nodes.Kind.{Kind}
use Rattle.plain_tree.specs.declared.nodes.Kind.TheVariants as kinds
use Rattle.plain_tree.specs.declared.calls.Answer.TheVariants as answers
use Rattle.plain_tree.specs.declared.calls.Call.TheVariants.{Write, Read, Rename}
use Rattle.plain_tree.specs.declared.calls.Refusal.{Refusal}
use Rattle.plain_tree.specs.declared.calls.Refusal.TheVariants.{Damaged}
use Rattle.plain_tree.specs.Cells.{Cell, padded_to, written, range_of, bytes_of}
use Rattle.plain_tree.specs.Paths.{Path, parent_of, same_path, is_at_or_below}
use Rattle.plain_tree.specs.Tree.{Tree, Nodes, changed_at, touch, touched, change_noted, file_changed, moved, cells_at}
use Rattle.plain_tree.specs.Refusals.{first_of, refuse_if, no_file, no_node, bad_name, at_root, refusal_of}
use Rattle.plain_tree.specs.Calls.{answer, answer_unless, after, after_unless, with_bytes, with_rename}
use Rattle.plain_tree.specs.Valid.{IsValid}
use Rattle.plain_tree.specs.Laws.{holding, holding_at, HasMoved}
use Rattle.plain_tree.proofs.NodeLemmas.{changed_found, changed_missing}
use Rattle.plain_tree.proofs.MoveLemmas.{same_is, same_self, not_true, below_Decides, below_join, back, get_moved, here_inserted, other_inserted}
use Rattle.plain_tree.specs.Seen.{CanMove}
use Rattle.plain_tree.proofs.Validity.{can_move, first_none, free_within, below_up}

-- what is written at an offset is read there
some_bytes : (bytes : List ℕ) → bytes_of (map (λ b. Some b) bytes) ≡ Some bytes
some_bytes [] = refl
some_bytes (b ∷ bytes) = ap (option_map (λ bs. b ∷ bs)) (some_bytes bytes)

range_written : (cells new : List Cell) (offset : ℕ) → range_of (written cells offset new) offset (length new) ≡ new
range_written cells new offset =
    let pad : List Cell = take offset (padded_to offset cells) in
    let rest : List Cell = drop (offset + length new) cells in
    let zeros : List Cell = replicate (offset - length cells) (Some 0) in
    let long : length pad ≡ offset = omega (arith, length-take offset (padded_to offset cells), length-append cells zeros, length-replicate {A = Cell} (offset - length cells) (Some 0)) in
    ap (λ l. take (length new) (drop offset l)) (append_assoc pad new rest)
    ∙ ap (take (length new)) (drop_at pad (new ++ rest) offset long) ∙ take_at new rest (length new) refl

-- a path where a file stands
record HoldsFile (nodes : Nodes) (path : Path) : Type 0 where
  node : Node
  cells : List Cell
  found : fin.get nodes path ≡ Some node
  is_file : node.kind ≡ kinds.File cells

file_there : (nodes : Nodes) (path : Path) → no_file nodes path ≡ None → HoldsFile nodes path
file_there nodes path none = by (fin.get nodes path) refl
  where
    by_kind : (node : Node) (kind : Kind) → fin.get nodes path ≡ Some node → node.kind ≡ kind → HoldsFile nodes path
    by_kind node kinds.Dir is e = let wrong = rw (is, e) at none in cc
    by_kind node (kinds.File cells) is e = record { node = node; cells = cells; found = is; is_file = e }
    by_kind node (kinds.Link text) is e = let wrong = rw (is, e) at none in cc

    by : (o : Option Node) → fin.get nodes path ≡ o → HoldsFile nodes path
    by None is = let wrong = rw is at none in cc
    by (Some node) is = by_kind node node.kind is refl

no_file_none : (nodes : Nodes) (path : Path) (node : Node) (cells : List Cell) → fin.get nodes path ≡ Some node → node.kind ≡ kinds.File cells → no_file nodes path ≡ None
no_file_none nodes path node cells found is_file = rw (found, is_file) refl

cells_there : (nodes : Nodes) (path : Path) (node : Node) (cells : List Cell) → fin.get nodes path ≡ Some node → node.kind ≡ kinds.File cells → cells_at nodes path ≡ cells
cells_there nodes path node cells found is_file = rw (found, is_file) refl

changed_here : (nodes : Nodes) (path : Path) (change : Node → Node) (node : Node) → fin.get nodes path ≡ Some node → fin.get (changed_at change path nodes) path ≡ Some (change node)
changed_here nodes path change node found = ap (λ n. fin.get n path) (changed_found change path nodes node found) ∙ here_inserted nodes path path (change node) (same_self path)

file_kind : (change : List Cell → List Cell) (at : Moment) (node : Node) (cells : List Cell) → node.kind ≡ kinds.File cells → (file_changed change at node).kind ≡ kinds.File (change cells)
file_kind change at node cells is = rw is refl

got : (t : Tree) (path : Path) (offset count : ℕ) (bytes : List ℕ) → no_file t.nodes path ≡ None → bytes_of (range_of (cells_at t.nodes path) offset count) ≡ Some bytes → answer t (Read path offset count) ≡ answers.Got bytes
got t path offset count bytes file read =
    ap (λ (o : Option Refusal). answer_unless (first_of (o ∷ refuse_if (is_none (bytes_of (range_of (cells_at t.nodes path) offset count))) Damaged ∷ [])) (answers.Got (unwrap_or (bytes_of (range_of (cells_at t.nodes path) offset count)) []))) file
    ∙ ap (λ (o : Option (List ℕ)). answer_unless (first_of (None ∷ refuse_if (is_none o) Damaged ∷ [])) (answers.Got (unwrap_or o []))) read

-- a read of what was just written gives the bytes that were written
pub read_written : (t : Tree) (path : Path) (offset : ℕ) (bytes : List ℕ) (at : Moment) → 0 < length bytes → refusal_of t (Write path offset bytes) ≡ None
    → answer (after t (Write path offset bytes) at) (Read path offset (length bytes)) ≡ answers.Got bytes
read_written t path offset [] at some free = absurd (omega arith)
read_written t path offset (b ∷ bytes) at some free =
    let new : List Cell = map (λ x. Some x) (b ∷ bytes) in
    let change : List Cell → List Cell = λ cells. written cells offset new in
    let h = file_there t.nodes path (first_none (no_file t.nodes path) _ (free_within t (Write path offset (b ∷ bytes)) free).1).0 in
    let nodes = changed_at (file_changed change at) path t.nodes in
    let found = changed_here t.nodes path (file_changed change at) h.node h.found in
    let kind = file_kind change at h.node h.cells h.is_file in
    ap (λ (r : Option Refusal). answer (after_unless r (with_bytes t path offset (b ∷ bytes) at) t) (Read path offset (length (b ∷ bytes)))) free
    ∙ got (with_bytes t path offset (b ∷ bytes) at) path offset (length (b ∷ bytes)) (b ∷ bytes) (no_file_none nodes path (file_changed change at h.node) (change h.cells) found kind)
    (ap (λ cells. bytes_of (range_of cells offset (length (b ∷ bytes)))) (cells_there nodes path (file_changed change at h.node) (change h.cells) found kind)
    ∙ ap (λ n. bytes_of (range_of (written h.cells offset new) offset n)) (sym (length-map (b ∷ bytes) (λ (x : ℕ). Some x)))
    ∙ ap bytes_of (range_written h.cells new offset) ∙ some_bytes (b ∷ bytes))

-- ---- renames

holding_changed : (change : Node → Node) → ((n : Node) → holding (Some (change n)) ≡ holding (Some n)) → (p : Path) (m : Nodes) (q : Path) → holding (fin.get (changed_at change p m) q) ≡ holding (fin.get m q)
holding_changed change keeps p m q =
    elim (fin.get m p) as (λ o. fin.get m p ≡ o → holding (fin.get (changed_at change p m) q) ≡ holding (fin.get m q)) [
      | None ↦ λ none. ap (λ n. holding (fin.get n q)) (changed_missing change p m none)
      | Some old ↦ λ found. ap (λ n. holding (fin.get n q)) (changed_found change p m old found) ∙
          elim (same_path q p) as (λ b. same_path q p ≡ b → holding (fin.get (fin.insert m p (change old)) q) ≡ holding (fin.get m q)) [
            | true ↦ λ same. ap holding (here_inserted m p q (change old) same) ∙ keeps old ∙ ap holding (sym (ap (fin.get m) (same_is q p same) ∙ found))
            | false ↦ λ other. ap holding (other_inserted m p q (change old) other)
          ] refl
    ] refl

changed_elsewhere : (change : Node → Node) (p : Path) (m : Nodes) (q : Path) → same_path q p ≡ false → fin.get (changed_at change p m) q ≡ fin.get m q
changed_elsewhere change p m q other =
    elim (fin.get m p) as (λ o. fin.get m p ≡ o → fin.get (changed_at change p m) q ≡ fin.get m q) [
      | None ↦ λ none. ap (λ n. fin.get n q) (changed_missing change p m none)
      | Some old ↦ λ found. ap (λ n. fin.get n q) (changed_found change p m old found) ∙ other_inserted m p q (change old) other
    ] refl

-- of two fronts of a path one is a front of the other
fronts : (from to x : Path) → is_at_or_below to (from ++ x) ≡ true → (is_at_or_below to from ≡ true) ⊎ (is_at_or_below from to ≡ true)
fronts from to x e =
    let front = (below_Decides to (from ++ x)).0 e in
    ⊎_elim
    (λ longer. inr ((below_Decides from to).1 (sym (take_at from x (length from) refl) ∙ sym (take-take (length from) (length to) (from ++ x) (omega arith)) ∙ ap (take (length from)) (sym front))))
    (λ shorter. inl ((below_Decides to from).1 (front ∙ take-append-le (length to) from x shorter)))
    (cases_lt (length from) (length to))

nothing_held : (o : Option Node) → holding o ≡ None → o ≡ None
nothing_held None e = refl
nothing_held (Some node) e = cc

node_there : (nodes : Nodes) (path : Path) → no_node nodes path ≡ None → fin.get nodes path ≡ None → ⊥
node_there nodes path none missing = let wrong = rw missing at none in cc

module _ (m : Nodes) (from to : Path) (at : Moment) where
  abbrev noted : Nodes
  noted = changed_at (change_noted at) to (moved from to m)

  abbrev renamed : Nodes
  renamed = touch at (parent_of to) (touch at (parent_of from) noted)

  holding_renamed : (q : Path) → holding (fin.get renamed q) ≡ holding (fin.get (moved from to m) q)
  holding_renamed q =
      holding_changed (touched at) (λ n. refl) (parent_of to) (touch at (parent_of from) noted) q
      ∙ holding_changed (touched at) (λ n. refl) (parent_of from) noted q ∙ holding_changed (change_noted at) (λ n. refl) to (moved from to m) q

module _ (m : Nodes) (from to : Path) (can : CanMove m from to) where
  moved_to : (x : Path) → fin.get (moved from to m) (to ++ x) ≡ fin.get m (from ++ x)
  moved_to x =
      get_moved from to m (to ++ x) can.free
      ∙ ap (λ b. cond b (fin.get m (back from to (to ++ x))) (cond (is_at_or_below from (to ++ x)) None (fin.get m (to ++ x)))) (below_join to x)
      ∙ ap (λ r. fin.get m (from ++ r)) (drop_at to x (length to) refl)

  stayed : (q : Path) → is_at_or_below from q ≡ false → is_at_or_below to q ≡ false → fin.get (moved from to m) q ≡ fin.get m q
  stayed q other away =
      get_moved from to m q can.free
      ∙ ap (λ b. cond b (fin.get m (back from to q)) (cond (is_at_or_below from q) None (fin.get m q))) away
      ∙ ap (λ b. cond b None (fin.get m q)) other

module _ (m : Nodes) (from to : Path) (can : CanMove m from to) (there : fin.get m from ≡ None → ⊥) where
  from_apart : is_at_or_below to from ≡ true → ⊥
  from_apart e = there (can.free from e)

  gone_from : (x : Path) → fin.get (moved from to m) (from ++ x) ≡ None
  gone_from x =
      get_moved from to m (from ++ x) can.free
      ∙ ap (λ b. cond b (fin.get m (back from to (from ++ x))) (cond (is_at_or_below from (from ++ x)) None (fin.get m (from ++ x))))
      (not_true (is_at_or_below to (from ++ x)) (λ e. ⊎_elim from_apart (λ e. let wrong : true ≡ false = sym e ∙ can.apart in cc) (fronts from to x e)))
      ∙ ap (λ b. cond b None (fin.get m (from ++ x))) (below_join from x)

  below_same : (at : Moment) (x : Path) → x ≢ [] → fin.get (renamed m from to at) (to ++ x) ≡ fin.get m (from ++ x)
  below_same at x some =
      let long : length to < length (to ++ x) = omega (arith, length-append to x, names x some) in
      changed_elsewhere (touched at) (parent_of to) (touch at (parent_of from) (noted m from to at)) (to ++ x)
      (not_true (same_path (to ++ x) (parent_of to)) (λ e. absurd (omega (arith, ap length (same_is (to ++ x) (parent_of to) e), length-take (length to - 1) to))))
      ∙ changed_elsewhere (touched at) (parent_of from) (noted m from to at) (to ++ x)
      (not_true (same_path (to ++ x) (parent_of from)) (λ e. from_apart (below_up to from (ap (is_at_or_below to) (sym (same_is (to ++ x) (parent_of from) e)) ∙ below_join to x))))
      ∙ changed_elsewhere (change_noted at) to (moved from to m) (to ++ x)
      (not_true (same_path (to ++ x) to) (λ e. absurd (omega (arith, ap length (same_is (to ++ x) to e)))))
      ∙ moved_to m from to can x
    where
      names : (x : Path) → x ≢ [] → 0 < length x
      names [] some = absurd (some refl)
      names (y ∷ x) some = omega arith

-- a rename moves each node below the path and leaves all others
pub rename_keeps_nodes : (t : Tree) (from to : Path) (at : Moment) → IsValid t → refusal_of t (Rename from to) ≡ None → HasMoved t (after t (Rename from to) at) from to
rename_keeps_nodes t from to at s free =
    subst (λ (r : Option Refusal). HasMoved t (after_unless r (with_rename t from to at) t) from to) (sym free)
    (elim (same_path from to) as (λ b. same_path from to ≡ b → HasMoved t (cond b t (record t { nodes = renamed t.nodes from to at })) from to) [
      | true ↦ λ same. stays_there (same_is from to same)
      | false ↦ λ differ.
          let m = t.nodes in
          let within = (free_within t (Rename from to) free).1 in
          let can = can_move t from to s within differ in
          let there = node_there m from (first_none (no_node m from) _ (first_none (at_root to) _ (first_none (at_root from) _ (first_none (bad_name to) _ within).1).1).1).0 in
          record {
            moved = λ x. holding_renamed m from to at (to ++ x) ∙ ap holding (moved_to m from to can x);
            below = λ x some. below_same m from to can there at x some;
            gone = λ x _. nothing_held _ (holding_renamed m from to at (from ++ x) ∙ ap holding (gone_from m from to can there x));
            elsewhere = λ q other away. holding_renamed m from to at q ∙ ap holding (stayed m from to can q other away);
          }
    ] refl)
  where
    stays_there : from ≡ to → HasMoved t t from to
    stays_there e = record {
      moved = λ x. ap (λ p. holding_at t (p ++ x)) (sym e);
      below = λ x some. ap (λ p. fin.get t.nodes (p ++ x)) (sym e);
      gone = λ x differ. absurd (differ e);
      elsewhere = λ q other away. refl;
    }
