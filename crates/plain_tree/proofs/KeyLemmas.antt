-- The attributes of a node are a map.
use Rattle.std.proofs.Common.{◌≡◌, ◌≢◌, Bool, true, false, cond, ℕ, List, [], ◌∷◌, Option, Some, None, is_none, unwrap_or, refl, sym, ap, ◌∙◌, subst}
use Rattle.std.specs.Prelude.{option_and_then}
use Rattle.std.specs.Str.{bytes_eq}
use Rattle.std.proofs.lemmas.Slice.Eq.{bytes_eq-Decides}
use Rattle.std.proofs.lemmas.Map.Text.{is_eq-slice_cmp}
use Rattle.std.specs.FinMap as fin
use Rattle.std.specs.Ordering.{eq_by_cmp}
use Rattle.std.specs.Cmp.Lexicographic.{nat_list_cmp_total}
use Rattle.tape_types.specs.NodeKeys.Keys.{KeyMap, key_cmp}
use Rattle.tape_types.specs.declared.moments.Moment.{Moment}
use Rattle.plain_tree.specs.declared.nodes.Node.{Node}
use Rattle.plain_tree.specs.declared.calls.Answer.TheVariants as answers
use Rattle.plain_tree.specs.declared.calls.Call.TheVariants as asks
use Rattle.plain_tree.specs.declared.calls.Refusal.{Refusal}
use Rattle.plain_tree.specs.declared.calls.Refusal.TheVariants as refusals
use Rattle.plain_tree.specs.Paths.{Path, same_path}
use Rattle.plain_tree.specs.Tree.{Tree, Nodes, changed_at, has_value, key_dropped, key_set, value_at}
use Rattle.plain_tree.specs.Refusals.{bad_key, first_of, no_key, no_node, read_only, refuse_if, refusal_of}
use Rattle.plain_tree.specs.Calls.{after, after_done, after_unless, answer, answer_unless}
use Rattle.plain_tree.specs.Laws.{KeysAreMaps}
use Rattle.plain_tree.proofs.NodeLemmas.{changed_found, changed_missing}
use Rattle.plain_tree.proofs.MoveLemmas.{here_inserted, other_inserted, not_true, same_is, is_same}
use Rattle.plain_tree.proofs.Validity.{first_none, free_within}

abbrev get : KeyMap → List ℕ → Option (List ℕ)
get m key = fin.get m key

-- ---- maps of keys

same_key : (key : List ℕ) → eq_by_cmp key_cmp key key ≡ true
same_key key = is_eq-slice_cmp key key ∙ (bytes_eq-Decides key key).1 refl

key_here : (m : KeyMap) (key bytes : List ℕ) → get (fin.insert m key bytes) key ≡ Some bytes
key_here m key bytes = fin.get-insert nat_list_cmp_total m key bytes key ∙ ap (λ b. cond b (Some bytes) (get m key)) (same_key key)

apart : (key other : List ℕ) → other ≢ key → eq_by_cmp key_cmp other key ≡ false
apart key other differ = not_true (eq_by_cmp key_cmp other key) (λ e. differ ((bytes_eq-Decides other key).0 (sym (is_eq-slice_cmp other key) ∙ e)))

key_other : (m : KeyMap) (key bytes other : List ℕ) → other ≢ key → get (fin.insert m key bytes) other ≡ get m other
key_other m key bytes other differ = fin.get-insert nat_list_cmp_total m key bytes other ∙ ap (λ b. cond b (Some bytes) (get m other)) (apart key other differ)

key_gone : (m : KeyMap) (key : List ℕ) → get (fin.remove m key) key ≡ None
key_gone m key = fin.get-remove nat_list_cmp_total m key key ∙ ap (λ b. cond b None (get m key)) (same_key key)

key_left : (m : KeyMap) (key other : List ℕ) → other ≢ key → get (fin.remove m key) other ≡ get m other
key_left m key other differ = fin.get-remove nat_list_cmp_total m key other ∙ ap (λ b. cond b None (get m other)) (apart key other differ)

-- ---- at a path

-- the value of a key once the keys of the node at its path are others
value_changed : (change : Node → Node) (path : Path) (nodes : Nodes) (node : Node) (key : List ℕ) → fin.get nodes path ≡ Some node
    → value_at (changed_at change path nodes) path key ≡ get (change node).keys key
value_changed change path nodes node key there =
    ap (λ (m : Nodes). option_and_then (λ (n : Node). fin.get n.keys key) (fin.get m path)) (changed_found change path nodes node there)
    ∙ ap (λ (o : Option Node). option_and_then (λ (n : Node). fin.get n.keys key) o) (here_inserted nodes path path (change node) (is_same path path refl))

value_was : (path : Path) (nodes : Nodes) (node : Node) (key : List ℕ) → fin.get nodes path ≡ Some node → value_at nodes path key ≡ get node.keys key
value_was path nodes node key there = ap (λ (o : Option Node). option_and_then (λ (n : Node). fin.get n.keys key) o) there

-- where a change of the node leaves a key, its value stays
value_stays : (change : Node → Node) (path : Path) (nodes : Nodes) (key : List ℕ) → ((n : Node) → get (change n).keys key ≡ get n.keys key)
    → value_at (changed_at change path nodes) path key ≡ value_at nodes path key
value_stays change path nodes key keeps =
    elim (fin.get nodes path) as (λ o. fin.get nodes path ≡ o → value_at (changed_at change path nodes) path key ≡ value_at nodes path key) [
      | None ↦ λ none. ap (λ (m : Nodes). value_at m path key) (changed_missing change path nodes none)
      | Some node ↦ λ there. value_changed change path nodes node key there ∙ keeps node ∙ sym (value_was path nodes node key there)
    ] refl

elsewhere : (change : Node → Node) (path q : Path) (nodes : Nodes) → q ≢ path → fin.get (changed_at change path nodes) q ≡ fin.get nodes q
elsewhere change path q nodes differ =
    elim (fin.get nodes path) as (λ o. fin.get nodes path ≡ o → fin.get (changed_at change path nodes) q ≡ fin.get nodes q) [
      | None ↦ λ none. ap (λ (m : Nodes). fin.get m q) (changed_missing change path nodes none)
      | Some node ↦ λ there. ap (λ (m : Nodes). fin.get m q) (changed_found change path nodes node there) ∙ other_inserted nodes path q (change node) (not_true (same_path q path) (λ e. differ (same_is q path e)))
    ] refl

-- what holds of the tree and of the tree with a key set holds after a call that sets it
after_set : (P : Tree → Type 0) (t : Tree) (path : Path) (key bytes : List ℕ) (at : Moment) → P t → P (record t { nodes = changed_at (key_set key bytes at) path t.nodes }) → P (after t (asks.Setx path key bytes) at)
after_set P t path key bytes at was now =
    elim (refusal_of t (asks.Setx path key bytes)) as (λ r. P (after_unless r (after_done t (asks.Setx path key bytes) at) t)) [
      | Some refusal ↦ was
      | None ↦ elim (has_value t.nodes path key bytes) as (λ b. P (cond b t (record t { nodes = changed_at (key_set key bytes at) path t.nodes }))) [
        | true ↦ was
        | false ↦ now
      ]
    ]

after_drop : (P : Tree → Type 0) (t : Tree) (path : Path) (key : List ℕ) (at : Moment) → P t → P (record t { nodes = changed_at (key_dropped key at) path t.nodes }) → P (after t (asks.Dropx path key) at)
after_drop P t path key at was now =
    elim (refusal_of t (asks.Dropx path key)) as (λ r. P (after_unless r (after_done t (asks.Dropx path key) at) t)) [
      | Some refusal ↦ was
      | None ↦ now
    ]

set_others : (t : Tree) (path : Path) (key bytes other : List ℕ) (at : Moment) → other ≢ key → value_at (after t (asks.Setx path key bytes) at).nodes path other ≡ value_at t.nodes path other
set_others t path key bytes other at differ = after_set (λ next. value_at next.nodes path other ≡ value_at t.nodes path other) t path key bytes at refl
    (value_stays (key_set key bytes at) path t.nodes other (λ n. key_other n.keys key bytes other differ))

set_elsewhere : (t : Tree) (path q : Path) (key bytes : List ℕ) (at : Moment) → q ≢ path → fin.get (after t (asks.Setx path key bytes) at).nodes q ≡ fin.get t.nodes q
set_elsewhere t path q key bytes at differ = after_set (λ next. fin.get next.nodes q ≡ fin.get t.nodes q) t path key bytes at refl
    (elsewhere (key_set key bytes at) path q t.nodes differ)

dropped_others : (t : Tree) (path : Path) (key other : List ℕ) (at : Moment) → other ≢ key → value_at (after t (asks.Dropx path key) at).nodes path other ≡ value_at t.nodes path other
dropped_others t path key other at differ = after_drop (λ next. value_at next.nodes path other ≡ value_at t.nodes path other) t path key at refl
    (value_stays (key_dropped key at) path t.nodes other (λ n. key_left n.keys key other differ))

dropped_elsewhere : (t : Tree) (path q : Path) (key : List ℕ) (at : Moment) → q ≢ path → fin.get (after t (asks.Dropx path key) at).nodes q ≡ fin.get t.nodes q
dropped_elsewhere t path q key at differ = after_drop (λ next. fin.get next.nodes q ≡ fin.get t.nodes q) t path key at refl
    (elsewhere (key_dropped key at) path q t.nodes differ)

-- ---- what is read

-- a getx of a key that stands, and of one that doesn't
got : (t : Tree) (path : Path) (key : List ℕ) (value : Option (List ℕ)) → no_node t.nodes path ≡ None → value_at t.nodes path key ≡ value
    → answer t (asks.Getx path key) ≡ answer_unless (refuse_if (is_none value) refusals.NoKey) (answers.Got (unwrap_or value []))
got t path key value there is =
    ap (λ (o : Option Refusal). answer_unless (first_of (o ∷ no_key t.nodes path key ∷ [])) (answers.Got (unwrap_or (value_at t.nodes path key) []))) there
    ∙ ap (λ (v : Option (List ℕ)). answer_unless (first_of (None ∷ refuse_if (is_none v) refusals.NoKey ∷ [])) (answers.Got (unwrap_or v []))) is
    ∙ by value
  where
    by : (v : Option (List ℕ)) → answer_unless (first_of (None ∷ refuse_if (is_none v) refusals.NoKey ∷ [])) (answers.Got (unwrap_or v [])) ≡ answer_unless (refuse_if (is_none v) refusals.NoKey) (answers.Got (unwrap_or v []))
    by None = refl
    by (Some v) = refl

there_is : (nodes : Nodes) (path : Path) (node : Node) → fin.get nodes path ≡ Some node → no_node nodes path ≡ None
there_is nodes path node is = rw is refl

is_there : (nodes : Nodes) (path : Path) → no_node nodes path ≡ None → (node : Node) × (fin.get nodes path ≡ Some node)
is_there nodes path none = by (fin.get nodes path) refl
  where
    by : (o : Option Node) → fin.get nodes path ≡ o → (node : Node) × (fin.get nodes path ≡ Some node)
    by None is = let wrong = rw is at none in cc
    by (Some node) is = (node, is)

changed_there : (change : Node → Node) (path : Path) (nodes : Nodes) (node : Node) → fin.get nodes path ≡ Some node → fin.get (changed_at change path nodes) path ≡ Some (change node)
changed_there change path nodes node there = ap (λ (m : Nodes). fin.get m path) (changed_found change path nodes node there) ∙ here_inserted nodes path path (change node) (is_same path path refl)

-- the value that a key has already
held : (nodes : Nodes) (path : Path) (key bytes : List ℕ) → has_value nodes path key bytes ≡ true → value_at nodes path key ≡ Some bytes
held nodes path key bytes is = by (value_at nodes path key) refl
  where
    by : (o : Option (List ℕ)) → value_at nodes path key ≡ o → value_at nodes path key ≡ Some bytes
    by None none = let wrong = rw none at is in cc
    by (Some value) some = let same = rw some at is in some ∙ ap (λ v. Some v) ((bytes_eq-Decides value bytes).0 same)

set : (t : Tree) (path : Path) (key bytes : List ℕ) (at : Moment) → refusal_of t (asks.Setx path key bytes) ≡ None
    → answer (after t (asks.Setx path key bytes) at) (asks.Getx path key) ≡ answers.Got bytes
set t path key bytes at free =
    let within = (free_within t (asks.Setx path key bytes) free).1 in
    let none = (first_none (no_node t.nodes path) _ (first_none (bad_key key) _ within).1).0 in
    let node = is_there t.nodes path none in
    ap (λ (r : Option Refusal). answer (after_unless r (after_done t (asks.Setx path key bytes) at) t) (asks.Getx path key)) free
    ∙ elim (has_value t.nodes path key bytes) as (λ b. has_value t.nodes path key bytes ≡ b → answer (cond b t (record t { nodes = changed_at (key_set key bytes at) path t.nodes })) (asks.Getx path key) ≡ answers.Got bytes) [
      | true ↦ λ is. got t path key (Some bytes) none (held t.nodes path key bytes is)
      | false ↦ λ is. got (record t { nodes = changed_at (key_set key bytes at) path t.nodes }) path key (Some bytes)
          (there_is (changed_at (key_set key bytes at) path t.nodes) path (key_set key bytes at node.0) (changed_there (key_set key bytes at) path t.nodes node.0 node.1))
          (value_changed (key_set key bytes at) path t.nodes node.0 key node.1 ∙ key_here node.0.keys key bytes)
    ] refl

dropped : (t : Tree) (path : Path) (key : List ℕ) (at : Moment) → refusal_of t (asks.Dropx path key) ≡ None
    → answer (after t (asks.Dropx path key) at) (asks.Getx path key) ≡ answers.Refused refusals.NoKey
dropped t path key at free =
    let within = (free_within t (asks.Dropx path key) free).1 in
    let none = (first_none (no_node t.nodes path) _ within).0 in
    let node = is_there t.nodes path none in
    ap (λ (r : Option Refusal). answer (after_unless r (after_done t (asks.Dropx path key) at) t) (asks.Getx path key)) free
    ∙ got (record t { nodes = changed_at (key_dropped key at) path t.nodes }) path key None
    (there_is (changed_at (key_dropped key at) path t.nodes) path (key_dropped key at node.0) (changed_there (key_dropped key at) path t.nodes node.0 node.1))
    (value_changed (key_dropped key at) path t.nodes node.0 key node.1 ∙ key_gone node.0.keys key)

-- the attributes of a node are a map
pub keys_are_maps : KeysAreMaps
keys_are_maps = record { set = set; set_others = set_others; set_elsewhere = set_elsewhere; dropped = dropped; dropped_others = dropped_others; dropped_elsewhere = dropped_elsewhere }
