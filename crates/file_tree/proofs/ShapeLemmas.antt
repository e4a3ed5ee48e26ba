-- What a call is refused, but for a read, goes by what sort the nodes are of, by their flags and by their attributes.
use Rattle.std.proofs.Common.{Option, ◌≡◌, ℕ, zero, suc, ◌+◌, ◌^◌, ◌||◌, ◌&&◌, Bool, false, cond, nat_le, nat_lt, List, [], ◌∷◌, length, take, Some, None, is_some, is_none, sym, ap, ◌∙◌, refl}
use Rattle.std.specs.Prelude.{option_and_then}
use Rattle.std.specs.Option.{option_map}
use Rattle.std.specs.FinMap as fin
use Rattle.tape_types.specs.Bounds.{most_nodes}
use Rattle.tape_types.specs.NodeKeys.Keys.{KeyMap}
use Rattle.plain_tree.specs.declared.calls.Call.{Call}
use Rattle.plain_tree.specs.declared.calls.Call.TheVariants.{Mkdir, Create, Write, Truncate, Read, Listing, Stat, Rename, Remove, Setx, Getx, Dropx, Readonly, LockVolume, UnlockVolume, PermLock, Sync}
use Rattle.plain_tree.specs.declared.calls.Refusal.{Refusal}
use Rattle.plain_tree.specs.declared.calls.Refusal.TheVariants as refusals
use Rattle.plain_tree.specs.declared.calls.Sort.{Sort}
use Rattle.plain_tree.specs.declared.calls.Sort.TheVariants as sorts
use Rattle.plain_tree.specs.declared.nodes.Node.{Node}
use Rattle.plain_tree.specs.declared.nodes.Kind.{Kind}
use Rattle.plain_tree.specs.declared.nodes.Kind.TheVariants as kinds
use Rattle.plain_tree.specs.Paths.{Path, same_path, parent_of, is_below}
use Rattle.plain_tree.specs.Refusals.{first_of, or_else, refuse_if, bad_key, bad_name, at_root, why_missing, no_node, no_dir, no_file, too_long, lock_refusal, new_refusal, rename_refusal, refusal_within, refusal_of}
use Rattle.plain_tree.specs.Tree.{Tree, Nodes, sort_of, entries_in, flag_at, key_count, value_at}

-- what a check sees of a node
abbrev pub Shape : Type 0
Shape = Sort × Bool × KeyMap

abbrev pub shape : Node → Shape
shape node = (sort_of node.kind, node.readonly, node.keys)

abbrev pub shape_at : Nodes → Path → Option Shape
shape_at m path = option_map shape (fin.get m path)

-- ---- each check by the shapes

-- a check of the sort, where something stands
abbrev by_sort : (Sort → Option Refusal) → Option Shape → Refusal → Option Refusal
by_sort check None why = Some why
by_sort check (Some s) why = check s.0

abbrev dir_sort : Sort → Option Refusal
dir_sort sorts.Dir = None
dir_sort sorts.File = Some refusals.NotDir
dir_sort sorts.Link = Some refusals.NotDir

abbrev file_sort : Sort → Option Refusal
file_sort sorts.Dir = Some refusals.IsDir
file_sort sorts.File = None
file_sort sorts.Link = Some refusals.IsLink

abbrev missing_sort : Sort → Refusal
missing_sort sorts.Dir = refusals.NotFound
missing_sort sorts.File = refusals.NotDir
missing_sort sorts.Link = refusals.NotDir

abbrev missing_by : Option Shape → Refusal → Refusal
missing_by None shorter = shorter
missing_by (Some s) shorter = missing_sort s.0

abbrev flag_of : Option Shape → Bool
flag_of None = false
flag_of (Some s) = s.1

abbrev count_of : Option Shape → ℕ
count_of None = 0
count_of (Some s) = fin.len s.2

abbrev value_of : List ℕ → Option Shape → Option (List ℕ)
value_of key o = option_and_then (λ (s : Shape). fin.get s.2 key) o

module _ (m : Nodes) (path : Path) where
  no_node_is : no_node m path ≡ by_sort (λ _. None) (shape_at m path) (why_missing m path (length path))
  no_node_is = by (fin.get m path) refl
    where
      by : (o : Option Node) → fin.get m path ≡ o → no_node m path ≡ by_sort (λ _. None) (option_map shape o) (why_missing m path (length path))
      by None e = rw e refl
      by (Some node) e = rw e refl

  no_dir_is : no_dir m path ≡ by_sort dir_sort (shape_at m path) (why_missing m path (length path))
  no_dir_is = by (fin.get m path) refl
    where
      by : (o : Option Node) → fin.get m path ≡ o → no_dir m path ≡ by_sort dir_sort (option_map shape o) (why_missing m path (length path))
      by None e = rw e refl
      by (Some node) e = kind node.kind refl
        where
          kind : (k : Kind) → node.kind ≡ k → no_dir m path ≡ dir_sort (sort_of node.kind)
          kind kinds.Dir is = rw (e, is) refl
          kind (kinds.File cells) is = rw (e, is) refl
          kind (kinds.Link text) is = rw (e, is) refl

  no_file_is : no_file m path ≡ by_sort file_sort (shape_at m path) (why_missing m path (length path))
  no_file_is = by (fin.get m path) refl
    where
      by : (o : Option Node) → fin.get m path ≡ o → no_file m path ≡ by_sort file_sort (option_map shape o) (why_missing m path (length path))
      by None e = rw e refl
      by (Some node) e = kind node.kind refl
        where
          kind : (k : Kind) → node.kind ≡ k → no_file m path ≡ file_sort (sort_of node.kind)
          kind kinds.Dir is = rw (e, is) refl
          kind (kinds.File cells) is = rw (e, is) refl
          kind (kinds.Link text) is = rw (e, is) refl

  missing_is : (n : ℕ) → why_missing m path (suc n) ≡ missing_by (shape_at m (take n path)) (why_missing m path n)
  missing_is n = by (fin.get m (take n path)) refl
    where
      by : (o : Option Node) → fin.get m (take n path) ≡ o → why_missing m path (suc n) ≡ missing_by (option_map shape o) (why_missing m path n)
      by None e = rw e refl
      by (Some node) e = kind node.kind refl
        where
          kind : (k : Kind) → node.kind ≡ k → why_missing m path (suc n) ≡ missing_sort (sort_of node.kind)
          kind kinds.Dir is = rw (e, is) refl
          kind (kinds.File cells) is = rw (e, is) refl
          kind (kinds.Link text) is = rw (e, is) refl

  flag_is : flag_at m path ≡ flag_of (shape_at m path)
  flag_is = by (fin.get m path) refl
    where
      by : (o : Option Node) → fin.get m path ≡ o → flag_at m path ≡ flag_of (option_map shape o)
      by None e = rw e refl
      by (Some node) e = rw e refl

  count_is : key_count m path ≡ count_of (shape_at m path)
  count_is = by (fin.get m path) refl
    where
      by : (o : Option Node) → fin.get m path ≡ o → key_count m path ≡ count_of (option_map shape o)
      by None e = rw e refl
      by (Some node) e = rw e refl

  value_is : (key : List ℕ) → value_at m path key ≡ value_of key (shape_at m path)
  value_is key = by (fin.get m path)
    where
      by : (o : Option Node) → option_and_then (λ (n : Node). fin.get n.keys key) o ≡ value_of key (option_map shape o)
      by None = refl
      by (Some node) = refl

  contains_is : fin.contains_key m path ≡ is_some (shape_at m path)
  contains_is = by (fin.get m path)
    where
      by : (o : Option Node) → is_some o ≡ is_some (option_map shape o)
      by None = refl
      by (Some node) = refl

-- ---- nodes of the same shapes

module _ (m n : Nodes) (same : (path : Path) → shape_at m path ≡ shape_at n path) where
  missing_alike : (path : Path) (k : ℕ) → why_missing m path k ≡ why_missing n path k
  missing_alike path zero = refl
  missing_alike path (suc k) =
      missing_is m path k ∙ (λ i. missing_by (same (take k path) i) (missing_alike path k i)) ∙ sym (missing_is n path k)

  pub no_node_alike : (path : Path) → no_node m path ≡ no_node n path
  no_node_alike path =
      no_node_is m path ∙ (λ i. by_sort (λ _. None) (same path i) (missing_alike path (length path) i)) ∙ sym (no_node_is n path)

  pub no_dir_alike : (path : Path) → no_dir m path ≡ no_dir n path
  no_dir_alike path = no_dir_is m path ∙ (λ i. by_sort dir_sort (same path i) (missing_alike path (length path) i)) ∙ sym (no_dir_is n path)

  pub no_file_same : (path : Path) → no_file m path ≡ no_file n path
  no_file_same path = no_file_is m path ∙ (λ i. by_sort file_sort (same path i) (missing_alike path (length path) i)) ∙ sym (no_file_is n path)

  pub flags_alike : (path : Path) → flag_at m path ≡ flag_at n path
  flags_alike path = flag_is m path ∙ ap flag_of (same path) ∙ sym (flag_is n path)

  pub counts_alike : (path : Path) → key_count m path ≡ key_count n path
  counts_alike path = count_is m path ∙ ap count_of (same path) ∙ sym (count_is n path)

  pub values_alike : (path : Path) (key : List ℕ) → value_at m path key ≡ value_at n path key
  values_alike path key = value_is m path key ∙ ap (value_of key) (same path) ∙ sym (value_is n path key)

  contains_alike : (path : Path) → fin.contains_key m path ≡ fin.contains_key n path
  contains_alike path = contains_is m path ∙ ap is_some (same path) ∙ sym (contains_is n path)

  rename_alike : (from to : Path) → rename_refusal m from to ≡ rename_refusal n from to
  rename_alike from to = λ i. first_of (bad_name to ∷ at_root from ∷ at_root to ∷ no_node_alike from i ∷ no_dir_alike (parent_of to) i
      ∷ cond (same_path from to) None (first_of (refuse_if (contains_alike to i) refusals.Exists ∷ refuse_if (is_below from to) refusals.Inside
      ∷ refuse_if (flags_alike (parent_of from) i) refusals.ReadOnly ∷ refuse_if (flags_alike (parent_of to) i) refusals.ReadOnly ∷ []))
      ∷ [])

-- ---- trees of the same shapes

-- both have the same highest uid and lock, as many nodes, the same lines, and at each path nodes of the same shape
pub record AreAlike (a b : Tree) : Type 0 where
  pub highest : a.highest ≡ b.highest
  pub lock : a.lock ≡ b.lock
  pub shapes : (path : Path) → shape_at a.nodes path ≡ shape_at b.nodes path
  pub count : fin.len a.nodes ≡ fin.len b.nodes
  pub lines : (dir : Path) → entries_in a.nodes dir ≡ entries_in b.nodes dir

module _ (a b : Tree) (s : AreAlike a b) where
  new_alike : (path : Path) → new_refusal a path ≡ new_refusal b path
  new_alike path = λ i. first_of (bad_name path ∷ at_root path ∷ no_dir_alike a.nodes b.nodes s.shapes (parent_of path) i
      ∷ refuse_if (contains_alike a.nodes b.nodes s.shapes path i) refusals.Exists
      ∷ refuse_if (flags_alike a.nodes b.nodes s.shapes (parent_of path) i) refusals.ReadOnly
      ∷ refuse_if (nat_le most_nodes (s.count i) || nat_le (2 ^ 62) (s.highest i)) refusals.TooMany ∷ [])

  long_alike : (path : Path) (size : ℕ) → first_of (no_file a.nodes path ∷ refuse_if (flag_at a.nodes path) refusals.ReadOnly ∷ too_long size ∷ [])
      ≡ first_of (no_file b.nodes path ∷ refuse_if (flag_at b.nodes path) refusals.ReadOnly ∷ too_long size ∷ [])
  long_alike path size = λ i. first_of (no_file_same a.nodes b.nodes s.shapes path i ∷ refuse_if (flags_alike a.nodes b.nodes s.shapes path i) refusals.ReadOnly ∷ too_long size ∷ [])

  -- but for the lock
  within_alike : (call : Call) → ((path : Path) (offset count : ℕ) → call ≡ Read path offset count → ⊥) → refusal_within a call ≡ refusal_within b call
  within_alike (Mkdir path) other = new_alike path
  within_alike (Create path) other = new_alike path
  within_alike (Write path offset bytes) other = long_alike path (offset + length bytes)
  within_alike (Truncate path size) other = long_alike path size
  within_alike (Read path offset count) other = absurd (other path offset count refl)
  within_alike (Listing path) other = no_dir_alike a.nodes b.nodes s.shapes path
  within_alike (Stat path) other = no_node_alike a.nodes b.nodes s.shapes path
  within_alike (Rename from to) other = rename_alike a.nodes b.nodes s.shapes from to
  within_alike (Remove path) other = λ i. first_of (at_root path ∷ no_node_alike a.nodes b.nodes s.shapes path i
      ∷ refuse_if (nat_lt 0 (length (s.lines path i))) refusals.NotEmpty
      ∷ refuse_if (flags_alike a.nodes b.nodes s.shapes (parent_of path) i) refusals.ReadOnly ∷ [])
  within_alike (Setx path key bytes) other = λ i. first_of (bad_key key ∷ no_node_alike a.nodes b.nodes s.shapes path i
      ∷ refuse_if (flags_alike a.nodes b.nodes s.shapes path i) refusals.ReadOnly
      ∷ refuse_if (nat_le 256 (counts_alike a.nodes b.nodes s.shapes path i) && is_none (values_alike a.nodes b.nodes s.shapes path key i)) refusals.ManyKeys ∷ [])
  within_alike (Getx path key) other = λ i. first_of (no_node_alike a.nodes b.nodes s.shapes path i
      ∷ refuse_if (is_none (values_alike a.nodes b.nodes s.shapes path key i)) refusals.NoKey ∷ [])
  within_alike (Dropx path key) other = λ i. first_of (no_node_alike a.nodes b.nodes s.shapes path i
      ∷ refuse_if (is_none (values_alike a.nodes b.nodes s.shapes path key i)) refusals.NoKey
      ∷ refuse_if (flags_alike a.nodes b.nodes s.shapes path i) refusals.ReadOnly ∷ [])
  within_alike (Readonly path on) other = no_node_alike a.nodes b.nodes s.shapes path
  within_alike LockVolume other = refl
  within_alike UnlockVolume other = refl
  within_alike PermLock other = refl
  within_alike Sync other = refl

  -- trees of the same shapes refuse the same, but for reads
  pub alike_shapes : (call : Call) → ((path : Path) (offset count : ℕ) → call ≡ Read path offset count → ⊥) → refusal_of a call ≡ refusal_of b call
  alike_shapes call other = λ i. or_else (lock_refusal (s.lock i) call) (within_alike call other i)
