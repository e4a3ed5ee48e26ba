-- What calls on attributes and flags leave of a tree.
use Rattle.std.proofs.Common.{Option, ◌≡◌, ℕ, ◌≤◌, Bool, true, false, cond, not, List, Some, None, OnOk, Result, Ok, Err, sym, ap, ◌∙◌, refl, subst}
use Rattle.std.specs.Prelude.{option_and_then}
use Rattle.std.specs.Option.{option_map}
use Rattle.std.specs.Str.{bytes_eq}
use Rattle.std.specs.FinMap as fin
use Rattle.std.specs.Ordering.{eq_by_cmp}
use Rattle.std.specs.Cmp.Lexicographic.{nat_list_cmp_total}
use Rattle.std.proofs.lemmas.Slice.Eq.{bytes_eq-Decides}
use Rattle.std.proofs.lemmas.Map.Text.{is_eq-slice_cmp}
use Rattle.tape_types.specs.NodeKeys.Keys.{KeyMap, key_cmp, is_key}
use Rattle.tape_types.specs.declared.moments.Moment.{Moment}
use Rattle.tape_types.specs.declared.texts.NoMemory.{NoMemory}
use Rattle.index_model.specs.Keys.{IsXattr}
use Rattle.plain_tree.specs.declared.calls.Call.TheVariants as asks
use Rattle.plain_tree.specs.declared.calls.Refusal.TheVariants as refusals
use Rattle.plain_tree.specs.declared.nodes.Node as plain_node
use Rattle.plain_tree.specs.Paths.{Path}
use Rattle.plain_tree.specs.Refusals.{bad_key}
use Rattle.plain_tree.specs.Tree as plain
use Rattle.plain_tree.specs.Valid.{IsValid}
use Rattle.plain_tree.proofs.Validity.{first_none, free_within, not_refused}
use Rattle.extent_map.specs.Cells.{Tape}
use Rattle.name_tries.proofs.ItemLemmas.{some_same}
use Rattle.file_tree.specs.declared.nodes.Node.{Node}
use Rattle.file_tree.specs.declared.nodes.HeldKind.{HeldKind}
use Rattle.file_tree.specs.Tree.{Nodes, FileTree, StandsAt, plain_node_of, plain_nodes, plain_of, whole}
use Rattle.file_tree.specs.Changes.{IsChangedAt, HasKeysNow, KeepsKeys, change_noted}
use Rattle.file_tree.specs.Edits.{outline, CanSetKey, CanDropKey, CanFlag, HasKeyRoom, IsAfter, KeepsOutline, KeepsVolume, AllLie}
use Rattle.file_tree.specs.Valid.{AreFit, IsGood}
use Rattle.file_tree.proofs.BlockLemmas.{all_lie_adds}
use Rattle.file_tree.proofs.EditLemmas.{change_numbers, change_plain, change_differ, change_files_same}
use Rattle.file_tree.proofs.FitLemmas.{fit_insert}
use Rattle.file_tree.proofs.OutlineLemmas.{change_outlines, outlines_lie}
use Rattle.file_tree.proofs.PathLemmas.{get_here, number_is}
use Rattle.file_tree.proofs.PlainLemmas.{plain_get, plain_insert, inserted_same}
use Rattle.file_tree.proofs.RefusalLemmas.{shapes_alike}
use Rattle.file_tree.proofs.ShapeLemmas.{flags_alike, values_alike}
use Rattle.file_tree.proofs.TreeLemmas.{after_free, free_too, same_tree, good_where, valid_after}

-- ---- what is read

-- the node with a number is what stands at its path in the plain tree
module _ (tape : Tape) (m : Nodes) (path : Path) (node : Node) (there : fin.get m path ≡ Some node) where
  stands : fin.get (plain_nodes tape m) path ≡ Some (plain_node_of tape node)
  stands = plain_get tape m path ∙ ap (option_map (plain_node_of tape)) there

  pub flag_read : plain.flag_at (plain_nodes tape m) path ≡ node.readonly
  flag_read = opened (plain_nodes tape m) (plain_node_of tape node) stands
    where
      opened : (m : plain.Nodes) (n : plain_node.Node) → fin.get m path ≡ Some n → plain.flag_at m path ≡ n.readonly
      opened m n is = rw is refl

  pub value_read : (key : List ℕ) → plain.value_at (plain_nodes tape m) path key ≡ fin.get node.keys.map key
  value_read key = ap (option_and_then (λ (n : plain_node.Node). fin.get n.keys key)) stands

  pub count_read : plain.key_count (plain_nodes tape m) path ≡ fin.len node.keys.map
  count_read = opened (plain_nodes tape m) (plain_node_of tape node) stands
    where
      opened : (m : plain.Nodes) (n : plain_node.Node) → fin.get m path ≡ Some n → plain.key_count m path ≡ fin.len n.keys
      opened m n is = rw is refl

-- ---- attributes that an index may tell

abbrev AreXattrs : KeyMap → Type 0
AreXattrs keys = (key value : List ℕ) → fin.get keys key ≡ Some value → IsXattr (record { key = key; value = value })

with_xattr : (keys : KeyMap) (key value : List ℕ) → AreXattrs keys → IsXattr (record { key = key; value = value }) → AreXattrs (fin.insert keys key value)
with_xattr keys key value all this k v is = by (eq_by_cmp key_cmp k key) refl (sym (fin.get-insert nat_list_cmp_total keys key value k) ∙ is)
  where
    by : (b : Bool) → eq_by_cmp key_cmp k key ≡ b → cond b (Some value) (fin.get keys k) ≡ Some v → IsXattr (record { key = k; value = v })
    by true e f =
        subst (λ k. IsXattr (record { key = k; value = v })) (sym ((bytes_eq-Decides k key).0 (sym (is_eq-slice_cmp k key) ∙ e)))
        (subst (λ v. IsXattr (record { key = key; value = v })) (some_same value v f) this)
    by false e f = all k v f

without_xattr : (keys : KeyMap) (key : List ℕ) → AreXattrs keys → AreXattrs (fin.remove keys key)
without_xattr keys key all k v is = by (eq_by_cmp key_cmp k key) (sym (fin.get-remove nat_list_cmp_total keys key k) ∙ is)
  where
    by : (b : Bool) → cond b None (fin.get keys k) ≡ Some v → IsXattr (record { key = k; value = v })
    by true f = cc
    by false f = all k v f

-- ---- a change of one node that keeps its outline

module _ (t next : FileTree) (good : IsGood t) (number : ℕ) (P : Node → Node → Type 0) (ch : IsChangedAt t.nodes next.nodes number P) (same : outline ch.new ≡ outline ch.old) where
  kind_same : ch.new.kind ≡ ch.old.kind
  kind_same = ap (λ (l : ℕ × ℕ × HeldKind). l.2) same

  lies : AllLie t next
  lies = outlines_lie t next (change_outlines t.nodes next.nodes number P ch same)

  pub keeps : next.highest ≡ t.highest → KeepsVolume t next → next.spare ≡ t.spare → KeepsOutline t next
  keeps highest volume spare = record { highest = highest; nodes = change_outlines t.nodes next.nodes number P ch same; volume = volume; spare = spare }

  changed_fit : AreXattrs ch.new.keys.map → AreFit next.nodes
  changed_fit keys = subst AreFit (sym ch.now) (fit_insert t.nodes ch.path ch.new good.fit (record {
    named = (good.fit ch.path ch.old ch.there).named;
    text = λ text is. (good.fit ch.path ch.old ch.there).text text (sym kind_same ∙ is);
    keys = keys;
  }))

  -- it leaves a good tree good, where the plain tree is valid and an index may tell the attributes
  pub changed_good : KeepsVolume t next → ((tape : Tape) → IsValid (plain_of tape next)) → AreXattrs ch.new.keys.map → IsGood next
  changed_good volume valid keys = good_where t next good volume.block_size volume.name valid
      (change_files_same t.nodes next.nodes number P ch t.block_size kind_same good.files)
      (change_differ t.nodes next.nodes number P ch good.differ) (changed_fit keys) (all_lie_adds t next lies)

  -- in the plain tree it is the change of that node
  changed_plain : (tape : Tape) (g : plain_node.Node → plain_node.Node) → plain_node_of tape ch.new ≡ g (plain_node_of tape ch.old) → next.highest ≡ t.highest → next.lock ≡ t.lock
      → (path : Path) → StandsAt t path number → plain_of tape next ≡ record (plain_of tape t) { nodes = plain.changed_at g path (plain_nodes tape t.nodes) }
  changed_plain tape g is highest state path stands =
      same_tree (plain_of tape next) (record (plain_of tape t) { nodes = plain.changed_at g path (plain_nodes tape t.nodes) }) highest state
      (change_plain t.nodes next.nodes number P ch tape g is ∙ ap (λ p. plain.changed_at g p (plain_nodes tape t.nodes)) (sym (ch.only path stands)))

-- ---- a key that is set

-- whether a key has these bytes goes by the bytes that it has
abbrev has_of : List ℕ → Option (List ℕ) → Bool
has_of bytes None = false
has_of bytes (Some value) = bytes_eq value bytes

has_is : (m : plain.Nodes) (path : Path) (key bytes : List ℕ) → plain.has_value m path key bytes ≡ has_of bytes (plain.value_at m path key)
has_is m path key bytes = by (plain.value_at m path key) refl
  where
    by : (o : Option (List ℕ)) → plain.value_at m path key ≡ o → plain.has_value m path key bytes ≡ has_of bytes o
    by None e = rw e refl
    by (Some value) e = rw e refl

has_alike : (a b : Tape) (m : Nodes) (path : Path) (key bytes : List ℕ) → plain.has_value (plain_nodes a m) path key bytes ≡ plain.has_value (plain_nodes b m) path key bytes
has_alike a b m path key bytes =
    has_is (plain_nodes a m) path key bytes ∙ ap (has_of bytes) (values_alike (plain_nodes a m) (plain_nodes b m) (shapes_alike a b m) path key) ∙ sym (has_is (plain_nodes b m) path key bytes)

may_be_key : (key : List ℕ) → bad_key key ≡ None → is_key key ≡ true
may_be_key key free = by (is_key key) (not_refused (not (is_key key)) refusals.BadKey free)
  where
    by : (b : Bool) → not b ≡ false → b ≡ true
    by true e = refl
    by false e = cc

module _ (t next : FileTree) (good : IsGood t) (number : ℕ) (key value : List ℕ) (at : Moment) (can : CanSetKey t number key value)
    (ch : IsChangedAt t.nodes next.nodes number (λ a b. HasKeysNow at a b (fin.insert a.keys.map key value))) (highest : next.highest ≡ t.highest) (state : next.lock ≡ t.lock) where
  set_same : outline ch.new ≡ outline ch.old
  set_same = ap outline ch.changed.is

  -- a key that is set leaves what the plain tree leaves
  pub set_after : IsAfter (asks.Setx can.path key value) at t next
  set_after tape =
      changed_plain t next good number _ ch set_same tape (plain.key_set key value at) (ap (plain_node_of tape) ch.changed.is) highest state can.path can.stands
      ∙ sym (after_free (plain_of tape t) (asks.Setx can.path key value) at (free_too tape t (asks.Setx can.path key value) (λ path offset count e. cc) can.free)
      ∙ ap (λ b. cond b (plain_of tape t) (record (plain_of tape t) { nodes = plain.changed_at (plain.key_set key value at) can.path (plain_nodes tape t.nodes) })) (has_alike tape whole t.nodes can.path key value ∙ can.apart))

  pub set_keeps : KeepsVolume t next → next.spare ≡ t.spare → KeepsOutline t next
  set_keeps volume spare = keeps t next good number _ ch set_same highest volume spare

  -- a key may be one
  pub set_key_is : is_key key ≡ true
  set_key_is = may_be_key key (first_none (bad_key key) _ (free_within (plain_of whole t) (asks.Setx can.path key value) can.free).1).0

  -- it leaves a good tree good
  pub set_good : KeepsVolume t next → IsXattr (record { key = key; value = value }) → IsGood next
  set_good volume this = changed_good t next good number _ ch set_same volume (valid_after t next (asks.Setx can.path key value) at good set_after)
      (subst AreXattrs (sym (ap (λ (n : Node). n.keys.map) ch.changed.is)) (with_xattr ch.old.keys.map key value (good.fit ch.path ch.old ch.there).keys this))

-- ---- a key that is dropped

module _ (t next : FileTree) (good : IsGood t) (number : ℕ) (key : List ℕ) (at : Moment) (can : CanDropKey t number key)
    (ch : IsChangedAt t.nodes next.nodes number (λ a b. HasKeysNow at a b (fin.remove a.keys.map key))) (highest : next.highest ≡ t.highest) (state : next.lock ≡ t.lock) where
  drop_same : outline ch.new ≡ outline ch.old
  drop_same = ap outline ch.changed.is

  -- a key that is dropped leaves what the plain tree leaves
  pub drop_after : IsAfter (asks.Dropx can.path key) at t next
  drop_after tape =
      changed_plain t next good number _ ch drop_same tape (plain.key_dropped key at) (ap (plain_node_of tape) ch.changed.is) highest state can.path can.stands
      ∙ sym (after_free (plain_of tape t) (asks.Dropx can.path key) at (free_too tape t (asks.Dropx can.path key) (λ path offset count e. cc) can.free))

  pub drop_keeps : KeepsVolume t next → next.spare ≡ t.spare → KeepsOutline t next
  drop_keeps volume spare = keeps t next good number _ ch drop_same highest volume spare

  -- it leaves a good tree good
  pub drop_good : KeepsVolume t next → IsGood next
  drop_good volume = changed_good t next good number _ ch drop_same volume (valid_after t next (asks.Dropx can.path key) at good drop_after)
      (subst AreXattrs (sym (ap (λ (n : Node). n.keys.map) ch.changed.is)) (without_xattr ch.old.keys.map key (good.fit ch.path ch.old ch.there).keys))

-- ---- a flag

module _ (t next : FileTree) (good : IsGood t) (number : ℕ) (on : Bool) (at : Moment) (can : CanFlag t number on)
    (ch : IsChangedAt t.nodes next.nodes number (λ a b. b ≡ change_noted at (record a { readonly = on }))) (highest : next.highest ≡ t.highest) (state : next.lock ≡ t.lock) where
  flag_same : outline ch.new ≡ outline ch.old
  flag_same = ap outline ch.changed

  -- a flag leaves what the plain tree leaves
  pub flag_after : IsAfter (asks.Readonly can.path on) at t next
  flag_after tape =
      changed_plain t next good number _ ch flag_same tape (plain.flagged on at) (ap (plain_node_of tape) ch.changed) highest state can.path can.stands
      ∙ sym (after_free (plain_of tape t) (asks.Readonly can.path on) at (free_too tape t (asks.Readonly can.path on) (λ path offset count e. cc) can.free)
      ∙ ap (λ b. cond b (plain_of tape t) (record (plain_of tape t) { nodes = plain.changed_at (plain.flagged on at) can.path (plain_nodes tape t.nodes) }))
      (ap (λ b. plain.same_flag b on) (flags_alike (plain_nodes tape t.nodes) (plain_nodes whole t.nodes) (shapes_alike tape whole t.nodes) can.path) ∙ can.apart))

  pub flag_keeps : KeepsVolume t next → next.spare ≡ t.spare → KeepsOutline t next
  flag_keeps volume spare = keeps t next good number _ ch flag_same highest volume spare

  -- it leaves a good tree good
  pub flag_good : KeepsVolume t next → IsGood next
  flag_good volume = changed_good t next good number _ ch flag_same volume (valid_after t next (asks.Readonly can.path on) at good flag_after)
      (subst AreXattrs (sym (ap (λ (n : Node). n.keys.map) ch.changed)) (good.fit ch.path ch.old ch.there).keys)

-- ---- room for one more key

module _ (t next : FileTree) (good : IsGood t) (number : ℕ) (Q : Node → Type 0) (ch : IsChangedAt t.nodes next.nodes number (λ a b. KeepsKeys a b × Q b))
    (highest : next.highest ≡ t.highest) (state : next.lock ≡ t.lock) where
  room_same : outline ch.new ≡ outline ch.old
  room_same = ap outline ch.changed.0.is

  -- memory for more of a node's attributes leaves the plain tree as it was
  pub key_room_plain : (tape : Tape) → plain_of tape next ≡ plain_of tape t
  key_room_plain tape = same_tree (plain_of tape next) (plain_of tape t) highest state
      (ap (plain_nodes tape) ch.now ∙ plain_insert tape t.nodes ch.path ch.new ∙ ap (fin.insert (plain_nodes tape t.nodes) ch.path) (ap (plain_node_of tape) ch.changed.0.is)
      ∙ inserted_same (plain_nodes tape t.nodes) ch.path (plain_node_of tape ch.old) (plain_get tape t.nodes ch.path ∙ ap (option_map (plain_node_of tape)) ch.there))

  pub key_room_keeps : KeepsVolume t next → next.spare ≡ t.spare → KeepsOutline t next
  key_room_keeps volume spare = keeps t next good number _ ch room_same highest volume spare

  -- and a good tree good
  pub key_room_good : KeepsVolume t next → IsGood next
  key_room_good volume = changed_good t next good number _ ch room_same volume (λ tape. subst (λ (p : plain.Tree). IsValid p) (sym (key_room_plain tape)) (good.valid tape))
      (subst AreXattrs (sym (ap (λ (n : Node). n.keys.map) ch.changed.0.is)) (good.fit ch.path ch.old ch.there).keys)

-- the room that was made is that of the node
pub made_key_room : (t next : FileTree) (number : ℕ) (r : Result Unit NoMemory) → IsChangedAt t.nodes next.nodes number (λ a b. KeepsKeys a b × OnOk r (1 ≤ b.keys.spare)) → OnOk r (HasKeyRoom next number)
made_key_room t next number (Ok x) ch = λ path node there is.
    let path_is : path ≡ ch.path = ch.only path (sym (change_numbers t.nodes next.nodes number _ ch path) ∙ number_is next.nodes path node there ∙ ap (λ n. Some n) is) in
    let node_is : ch.new ≡ node = some_same ch.new node (sym (get_here t.nodes ch.path ch.new) ∙ ap (λ m. fin.get m ch.path) (sym ch.now) ∙ ap (fin.get next.nodes) (sym path_is) ∙ there) in
    subst (λ (n : Node). 1 ≤ n.keys.spare) node_is ch.changed.1
made_key_room t next number (Err e) ch = ch.changed.1
