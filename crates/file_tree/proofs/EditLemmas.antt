-- What changes of the map leave of the plain tree, of numbers and of files.
use Rattle.std.proofs.Common.{◌≡◌, ◌≢◌, ◌⊎◌, ℕ, ◌-◌, true, false, cond, List, [], ◌∷◌, ◌++◌, length, drop, Some, None, sym, ap, ◌∙◌, refl, subst, arith, inl, inr, ⊎_elim}
use Rattle.std.specs.Prelude.{◌↔◌}
use Rattle.std.specs.Option.{option_map}
use Rattle.std.specs.FinMap as fin
use Rattle.std.proofs.lemmas.List.{length-append, take_at}
use Rattle.plain_tree.specs.declared.nodes.Node as plain_node
use Rattle.plain_tree.specs.Paths.{parent_of, is_at_or_below, moved_path}
use Rattle.plain_tree.specs.Tree as plain
use Rattle.plain_tree.proofs.NodeLemmas.{changed_found}
use Rattle.plain_tree.proofs.SeenLemmas.{unlike}
use Rattle.plain_tree.proofs.MoveLemmas.{below_split, below_join, not_true}
use Rattle.extent_map.specs.Cells.{Tape}
use Rattle.extent_map.specs.Laid.{Laid, Room}
use Rattle.file_tree.specs.declared.nodes.Node.{Node}
use Rattle.file_tree.specs.declared.nodes.HeldKind.TheVariants as kinds
use Rattle.file_tree.specs.Tree.{Nodes, number_at, moved, HasLaid, plain_node_of, plain_nodes}
use Rattle.file_tree.specs.Changes.{IsChangedAt}
use Rattle.plain_tree.specs.Paths.{Path}
use Rattle.file_tree.specs.Valid.{IsFileOf, AreFilesOf, NumbersDiffer}
use Rattle.name_tries.proofs.ItemLemmas.{some_same}
use Rattle.file_tree.proofs.PathLemmas.{same_nodes, get_here, get_other, gone_here, gone_other, is_or_not, number_is, node_at}
use Rattle.file_tree.proofs.PlainLemmas.{plain_get, plain_insert}
use Rattle.file_tree.proofs.UpdateLemmas.{from_where, stay, come}

-- the parent of a path with one name more is that path
pub parent_ends : (p : List (List ℕ)) (x : List ℕ) → parent_of (p ++ x ∷ []) ≡ p
parent_ends p x = take_at p (x ∷ []) (length (p ++ x ∷ []) - 1) (omega (arith, length-append p (x ∷ [])))

-- a node more
module _ (m : Nodes) (p : List (List ℕ)) (node : Node) (free : fin.get m p ≡ None) where
  other : (q : List (List ℕ)) (n : Node) → fin.get m q ≡ Some n → fin.get (fin.insert m p node) q ≡ Some n
  other q n is = get_other m p q node (λ e. unlike (fin.get m p) n free (ap (fin.get m) (sym e) ∙ is)) ∙ is

  -- a number stands where it stood when a node is put in elsewhere
  pub put_numbers : (q : List (List ℕ)) (n : ℕ) → number_at m q ≡ Some n → number_at (fin.insert m p node) q ≡ Some n
  put_numbers q n is = let a = node_at m q n is in ap (option_map (λ (n : Node). n.number)) (other q a.0 a.1) ∙ ap (λ k. Some k) a.2

  -- a file lies as it did when a node is put in elsewhere
  pub put_lies : (n : ℕ) (f : Laid) → HasLaid m n f → HasLaid (fin.insert m p node) n f
  put_lies n f h = record { path = h.path; node = h.node; there = other h.path h.node h.there; is = h.is; room = h.room; file = h.file; lies = h.lies }

  -- a file that lies so now did before, or is the new node
  pub put_back : (n : ℕ) (f : Laid) → HasLaid (fin.insert m p node) n f → HasLaid m n f ⊎ ((node.number ≡ n) × (room : Room) × (node.kind ≡ kinds.File room) × (room.laid ≡ f))
  put_back n f h = ⊎_elim
      (λ (e : h.path ≡ p).
      let same : node ≡ h.node = some_same node h.node (sym (get_here m p node) ∙ ap (fin.get (fin.insert m p node)) (sym e) ∙ h.there) in
      inr (ap (λ (k : Node). k.number) same ∙ h.is, h.room, ap (λ (k : Node). k.kind) same ∙ h.file, h.lies))
      (λ apart. inl (record { path = h.path; node = h.node; there = sym (get_other m p h.path node apart) ∙ h.there; is = h.is; room = h.room; file = h.file; lies = h.lies }))
      (is_or_not p h.path)

  -- no two nodes have one number, where the new one has another
  pub put_differ : NumbersDiffer m → ((q : Path) → number_at m q ≡ Some node.number → ⊥) → NumbersDiffer (fin.insert m p node)
  put_differ differ fresh q r k is also = ⊎_elim
      (λ (e : q ≡ p). ⊎_elim (λ (f : r ≡ p). e ∙ sym f) (λ apart. absurd (fresh r (sym (at_other r apart) ∙ also ∙ sym (at_new q e is)))) (is_or_not p r))
      (λ away. ⊎_elim (λ (f : r ≡ p). absurd (fresh q (sym (at_other q away) ∙ is ∙ sym (at_new r f also)))) (λ apart. differ q r k (sym (at_other q away) ∙ is) (sym (at_other r apart) ∙ also)) (is_or_not p r))
      (is_or_not p q)
    where
      at_other : (q : Path) → (q ≡ p → ⊥) → number_at (fin.insert m p node) q ≡ number_at m q
      at_other q apart = ap (option_map (λ (n : Node). n.number)) (get_other m p q node apart)

      at_new : (q : Path) → q ≡ p → number_at (fin.insert m p node) q ≡ Some k → Some node.number ≡ Some k
      at_new q e is = sym (number_is (fin.insert m p node) p node (get_here m p node)) ∙ ap (number_at (fin.insert m p node)) (sym e) ∙ is

-- a node that is other now, at its path
pub insert_files : (size : ℕ) (m : Nodes) (p : List (List ℕ)) (node : Node) → AreFilesOf size m → ((room : Room) → node.kind ≡ kinds.File room → IsFileOf size room.laid) → AreFilesOf size (fin.insert m p node)
insert_files size m p node all this q n room is kind = ⊎_elim
    (λ (e : q ≡ p). this room (ap (λ (k : Node). k.kind) (some_same node n (sym (get_here m p node) ∙ ap (fin.get (fin.insert m p node)) (sym e) ∙ is)) ∙ kind))
    (λ apart. all q n room (sym (get_other m p q node apart) ∙ is) kind)
    (is_or_not p q)

module _ (m next : Nodes) (n : ℕ) (P : Node → Node → Type 0) (c : IsChangedAt m next n P) where
  -- a change of a node leaves all numbers where they stand
  pub change_numbers : (q : List (List ℕ)) → number_at next q ≡ number_at m q
  change_numbers q = ap (λ k. number_at k q) c.now ∙ ⊎_elim
      (λ (e : q ≡ c.path). ap (number_at (fin.insert m c.path c.new)) e ∙ number_is (fin.insert m c.path c.new) c.path c.new (get_here m c.path c.new) ∙ ap (λ k. Some k) c.kept ∙ sym (number_is m c.path c.old c.there) ∙ ap (number_at m) (sym e))
      (λ apart. ap (option_map (λ (n : Node). n.number)) (get_other m c.path q c.new apart))
      (is_or_not c.path q)

  -- a change of a node is the change of it in the plain tree
  pub change_plain : (tape : Tape) (g : plain_node.Node → plain_node.Node) → plain_node_of tape c.new ≡ g (plain_node_of tape c.old) → plain_nodes tape next ≡ plain.changed_at g c.path (plain_nodes tape m)
  change_plain tape g is =
      ap (plain_nodes tape) c.now ∙ plain_insert tape m c.path c.new ∙ ap (fin.insert (plain_nodes tape m) c.path) is
      ∙ sym (changed_found g c.path (plain_nodes tape m) (plain_node_of tape c.old) (plain_get tape m c.path ∙ ap (option_map (plain_node_of tape)) c.there))

  -- a file elsewhere lies as it did
  pub change_others : (k : ℕ) (f : Laid) → k ≢ n → HasLaid m k f → HasLaid next k f
  change_others k f apart h = record {
    path = h.path;
    node = h.node;
    there = ap (λ l. fin.get l h.path) c.now
        ∙ get_other m c.path h.path c.new (λ e. apart (sym h.is ∙ ap (λ (k : Node). k.number) (some_same h.node c.old (sym h.there ∙ ap (fin.get m) e ∙ c.there)) ∙ c.is)) ∙ h.there;
    is = h.is;
    room = h.room;
    file = h.file;
    lies = h.lies;
  }

  -- and so does the one that is changed, where it stays what it is
  pub change_lies : c.new.kind ≡ c.old.kind → (k : ℕ) (f : Laid) → HasLaid m k f → HasLaid next k f
  change_lies same k f h = ⊎_elim
      (λ (e : h.path ≡ c.path).
      let old_is : h.node ≡ c.old = some_same h.node c.old (sym h.there ∙ ap (fin.get m) e ∙ c.there) in
      record {
        path = h.path;
        node = c.new;
        there = ap (λ l. fin.get l h.path) c.now ∙ ap (fin.get (fin.insert m c.path c.new)) e ∙ get_here m c.path c.new;
        is = c.kept ∙ ap (λ (k : Node). k.number) (sym old_is) ∙ h.is;
        room = h.room;
        file = same ∙ ap (λ (k : Node). k.kind) (sym old_is) ∙ h.file;
        lies = h.lies;
      })
      (λ apart. record {
        path = h.path;
        node = h.node;
        there = ap (λ l. fin.get l h.path) c.now ∙ get_other m c.path h.path c.new apart ∙ h.there;
        is = h.is;
        room = h.room;
        file = h.file;
        lies = h.lies;
      })
      (is_or_not c.path h.path)

  pub change_back : IsChangedAt next m n (λ a b. P b a)
  change_back = record {
    path = c.path;
    old = c.new;
    new = c.old;
    there = ap (λ k. fin.get k c.path) c.now ∙ get_here m c.path c.new;
    is = c.kept ∙ c.is;
    only = λ p h. c.only p (sym (change_numbers p) ∙ h);
    kept = sym c.kept;
    changed = c.changed;
    now = same_nodes m (fin.insert next c.path c.old) (λ q. ⊎_elim
        (λ (e : q ≡ c.path). ap (fin.get m) e ∙ c.there ∙ sym (get_here next c.path c.old) ∙ ap (fin.get (fin.insert next c.path c.old)) (sym e))
        (λ apart. sym (get_other m c.path q c.new apart) ∙ ap (λ k. fin.get k q) (sym c.now) ∙ sym (get_other next c.path q c.old apart))
        (is_or_not c.path q));
  }

  -- numbers still differ after a change of a node
  pub change_differ : NumbersDiffer m → NumbersDiffer next
  change_differ differ p q k is also = differ p q k (sym (change_numbers p) ∙ is) (sym (change_numbers q) ∙ also)

  -- files are still the volume's after a change, if the changed one is
  pub change_files : (size : ℕ) → AreFilesOf size m → ((room : Room) → c.new.kind ≡ kinds.File room → IsFileOf size room.laid) → AreFilesOf size next
  change_files size all this = subst (λ l. AreFilesOf size l) (sym c.now) (insert_files size m c.path c.new all this)

  -- files are still the volume's after a change that leaves what the node is
  pub change_files_same : (size : ℕ) → c.new.kind ≡ c.old.kind → AreFilesOf size m → AreFilesOf size next
  change_files_same size same all = change_files size all (λ room is. all c.path c.old room c.there (sym same ∙ is))

-- both ways
module _ (m next : Nodes) (n : ℕ) (P : Node → Node → Type 0) (c : IsChangedAt m next n P) where
  -- the other files lie as they did after a change of one
  pub change_others_both : (k : ℕ) (f : Laid) → k ≢ n → HasLaid m k f ↔ HasLaid next k f
  change_others_both k f apart = (change_others m next n P c k f apart, change_others next m n (λ a b. P b a) (change_back m next n P c) k f apart)

  -- all files lie as they did after a change that leaves what the node is
  pub change_lies_both : c.new.kind ≡ c.old.kind → (k : ℕ) (f : Laid) → HasLaid m k f ↔ HasLaid next k f
  unfolding change_back
  change_lies_both same k f = (change_lies m next n P c same k f, change_lies next m n (λ a b. P b a) (change_back m next n P c) (sym same) k f)

-- a node less
pub remove_files : (size : ℕ) (m : Nodes) (p : List (List ℕ)) → AreFilesOf size m → AreFilesOf size (fin.remove m p)
remove_files size m p all q n room is kind = ⊎_elim
    (λ (e : q ≡ p). absurd (unlike (fin.get (fin.remove m p) q) n (ap (fin.get (fin.remove m p)) e ∙ gone m p) is))
    (λ apart. all q n room (sym (gone_other m p q apart) ∙ is) kind)
    (is_or_not p q)
  where
    gone : (m : Nodes) (p : List (List ℕ)) → fin.get (fin.remove m p) p ≡ None
    gone m p = Rattle.file_tree.proofs.PathLemmas.gone_here m p

module _ (m : Nodes) (p : Path) where
  -- what is there now was there before
  pub was_there : (q : Path) (node : Node) → fin.get (fin.remove m p) q ≡ Some node → fin.get m q ≡ Some node
  was_there q node is = ⊎_elim
      (λ (e : q ≡ p). absurd (unlike (fin.get (fin.remove m p) q) node (ap (fin.get (fin.remove m p)) e ∙ gone_here m p) is))
      (λ apart. sym (gone_other m p q apart) ∙ is)
      (is_or_not p q)

  -- a file that is there after a removal was there before
  pub remove_back : (n : ℕ) (f : Laid) → HasLaid (fin.remove m p) n f → HasLaid m n f
  remove_back n f h = record { path = h.path; node = h.node; there = was_there h.path h.node h.there; is = h.is; room = h.room; file = h.file; lies = h.lies }

  -- numbers still differ after a removal
  pub remove_differ : NumbersDiffer m → NumbersDiffer (fin.remove m p)
  remove_differ differ q r k is also = differ q r k (number_was q is) (number_was r also)
    where
      number_was : (q : Path) → number_at (fin.remove m p) q ≡ Some k → number_at m q ≡ Some k
      number_was q is = let node = node_at (fin.remove m p) q k is in number_is m q node.0 (was_there q node.0 node.1) ∙ ap (λ n. Some n) node.2

-- a move
module _ (m : Nodes) (from to : List (List ℕ)) (free : (x : List (List ℕ)) → is_at_or_below to x ≡ true → fin.get m x ≡ None) where
  -- files are still the volume's after a move
  pub move_files : (size : ℕ) → AreFilesOf size m → AreFilesOf size (moved from to m)
  move_files size all q n room is kind = ⊎_elim
      (λ (here : (r : List (List ℕ)) × (q ≡ to ++ r) × (fin.get m (from ++ r) ≡ Some n)). all (from ++ here.0) n room here.2 kind)
      (λ (was : (is_at_or_below to q ≡ false) × (is_at_or_below from q ≡ false) × (fin.get m q ≡ Some n)). all q n room was.2 kind)
      (from_where m from to free q n is)

  -- a node stands at the path that it moves to
  pub node_moves : (q : List (List ℕ)) (n : Node) → fin.get m q ≡ Some n → fin.get (moved from to m) (moved_path from to q) ≡ Some n
  node_moves q n is = elim (is_at_or_below from q) as (λ b. is_at_or_below from q ≡ b → fin.get (moved from to m) (cond b (to ++ drop (length from) q) q) ≡ Some n) [
    | true ↦ λ below. come m from to free (drop (length from) q) ∙ ap (fin.get m) (sym (below_split from q below)) ∙ is
    | false ↦ λ other. stay m from to free q (not_true (is_at_or_below to q) (λ e. unlike (fin.get m q) n (free q e) is)) other ∙ is
  ] refl

  -- a number stands at the path that it moves to
  pub number_moves : (q : List (List ℕ)) (n : ℕ) → number_at m q ≡ Some n → number_at (moved from to m) (moved_path from to q) ≡ Some n
  number_moves q n is = let node = node_at m q n is in number_is (moved from to m) (moved_path from to q) node.0 (node_moves q node.0 node.1) ∙ ap (λ k. Some k) node.2

  -- a node stood where it came from
  pub node_back : (q : Path) (n : Node) → fin.get (moved from to m) q ≡ Some n → (r : Path) × (fin.get m r ≡ Some n)
  node_back q n is = ⊎_elim
      (λ (here : (r : Path) × (q ≡ to ++ r) × (fin.get m (from ++ r) ≡ Some n)). (from ++ here.0, here.2))
      (λ (was : (is_at_or_below to q ≡ false) × (is_at_or_below from q ≡ false) × (fin.get m q ≡ Some n)). (q, was.2))
      (from_where m from to free q n is)

  -- a file that is there after a move was there before
  pub move_back : (n : ℕ) (f : Laid) → HasLaid (moved from to m) n f → HasLaid m n f
  move_back n f h = let was = node_back h.path h.node h.there in record { path = was.0; node = h.node; there = was.1; is = h.is; room = h.room; file = h.file; lies = h.lies }

  -- numbers still differ after a move
  pub move_differ : NumbersDiffer m → NumbersDiffer (moved from to m)
  move_differ differ p q k is also =
      let a = node_at (moved from to m) p k is in
      let b = node_at (moved from to m) q k also in
      ⊎_elim
      (λ (here : (r : Path) × (p ≡ to ++ r) × (fin.get m (from ++ r) ≡ Some a.0)). ⊎_elim
      (λ (there : (r : Path) × (q ≡ to ++ r) × (fin.get m (from ++ r) ≡ Some b.0)).
      let same : from ++ here.0 ≡ from ++ there.0 = differ (from ++ here.0) (from ++ there.0) k (numbered (from ++ here.0) a.0 here.2 a.2) (numbered (from ++ there.0) b.0 there.2 b.2) in
      here.1 ∙ ap (λ r. to ++ r) (sym (drop_front from here.0) ∙ ap (drop (length from)) same ∙ drop_front from there.0) ∙ sym there.1)
      (λ (stayed : (is_at_or_below to q ≡ false) × (is_at_or_below from q ≡ false) × (fin.get m q ≡ Some b.0)).
      absurd (apart_from q here.0 stayed.1 (differ q (from ++ here.0) k (numbered q b.0 stayed.2 b.2) (numbered (from ++ here.0) a.0 here.2 a.2))))
      (from_where m from to free q b.0 b.1))
      (λ (was : (is_at_or_below to p ≡ false) × (is_at_or_below from p ≡ false) × (fin.get m p ≡ Some a.0)). ⊎_elim
      (λ (there : (r : Path) × (q ≡ to ++ r) × (fin.get m (from ++ r) ≡ Some b.0)).
      absurd (apart_from p there.0 was.1 (differ p (from ++ there.0) k (numbered p a.0 was.2 a.2) (numbered (from ++ there.0) b.0 there.2 b.2))))
      (λ (stayed : (is_at_or_below to q ≡ false) × (is_at_or_below from q ≡ false) × (fin.get m q ≡ Some b.0)).
      differ p q k (numbered p a.0 was.2 a.2) (numbered q b.0 stayed.2 b.2))
      (from_where m from to free q b.0 b.1))
      (from_where m from to free p a.0 a.1)
    where
      numbered : (p : Path) (node : Node) → fin.get m p ≡ Some node → node.number ≡ k → number_at m p ≡ Some k
      numbered p node there is = number_is m p node there ∙ ap (λ n. Some n) is

      drop_front : (front r : Path) → drop (length front) (front ++ r) ≡ r
      drop_front [] r = refl
      drop_front (x ∷ front) r = drop_front front r

      apart_from : (q r : Path) → is_at_or_below from q ≡ false → q ≡ from ++ r → ⊥
      apart_from q r other e = let wrong : true ≡ false = sym (below_join from r) ∙ ap (is_at_or_below from) (sym e) ∙ other in cc
