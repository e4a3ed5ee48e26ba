-- What the places keep through each change.
use Rattle.std.proofs.Common.{Option, ◌≡◌, ℕ, zero, suc, ◌+◌, ◌-◌, ◌<◌, cond, List, [], ◌∷◌, ◌++◌, length, Some, None, is_some, sym, ap, ◌∙◌, refl, subst, arith, ⊎_elim, lit≤}
use Rattle.std.specs.Option.{option_map}
use Rattle.std.specs.FinMap as fin
use Rattle.tape_types.specs.Bounds.{most_nodes}
use Rattle.plain_tree.specs.Paths.{path_cmp}
use Rattle.plain_tree.specs.Seen.{CanLeave, CanMove}
use Rattle.plain_tree.proofs.NodeLemmas.{path_total}
use Rattle.file_tree.specs.declared.nodes.Node.{Node}
use Rattle.file_tree.specs.declared.nodes.Spot.{Spot}
use Rattle.file_tree.specs.Tree.{Nodes, number_at, moved, plain_nodes, whole}
use Rattle.file_tree.specs.Seen.{Held, held, IsShown, IsKept, walk, node_in}
use Rattle.file_tree.specs.Places.{used, IsStored, IsSetIn, IsChangedIn}
use Rattle.name_tries.proofs.ItemLemmas.{some_same}
use Rattle.file_tree.proofs.PathLemmas.{gone_here, gone_other, is_or_not, no_name, get_here, get_other, has_it, number_is, node_at}
use Rattle.file_tree.proofs.ShownLemmas.{one_number, spot}
use Rattle.file_tree.proofs.WalkLemmas.{only}
use Rattle.plain_tree.proofs.SeenLemmas.{unlike}
use Rattle.file_tree.proofs.UpdateLemmas.{inserted, updated, removed, moves}
use Rattle.file_tree.proofs.PlaceLemmas.{kept_node, node_now, held_within, held_past, push_in, used_push}
use Rattle.file_tree.proofs.PlainLemmas.{none_plain, len_moved, bare_too}

module _ (spots next : List (Option Spot)) (count : ℕ) (m : Nodes) (s : IsStored spots count m) where
  -- a new node under a free name is in the map that is stored
  pub stored_put : (p : List (List ℕ)) (x : List ℕ) (d : ℕ) (node : Node) (place : ℕ) → number_at m p ≡ Some d → fin.get m (p ++ x ∷ []) ≡ None → node.number ≡ place → held spots place ≡ None → place < most_nodes
      → IsSetIn spots next place (Some (record { parent = d; name = x; node = node })) → used next ≡ used spots + 1 → IsStored next (count + 1) (fin.insert m (p ++ x ∷ []) node)
  stored_put p x d node place dir free is empty fits put more = record {
    shown = inserted (held spots) (held next) m s.shown p x d node dir free (ap (held spots) is ∙ empty) (subst (λ n. IsKept (held spots) (held next) n (Some (record { parent = d; name = x; node = node }))) (sym is) put.kept);
    counted = ap (λ n. n + 1) s.counted ∙ sym (fin.len-insert path_total m (p ++ x ∷ []) node ∙ ap (λ o. cond (is_some o) (fin.len m) (fin.len m + 1)) free);
    filled = ap (λ n. n + 1) s.filled ∙ sym more;
    few = omega (arith, s.few, put.long);
  }

  -- a node that may leave is gone from the map that is stored
  pub stored_take : (p : List (List ℕ)) (x : List ℕ) (n : ℕ) → number_at m (p ++ x ∷ []) ≡ Some n → CanLeave (plain_nodes whole m) (p ++ x ∷ []) → IsSetIn spots next n None → used next + 1 ≡ used spots
      → IsStored next (count - 1) (fin.remove m (p ++ x ∷ []))
  stored_take p x n is can put less =
      let node = node_at m (p ++ x ∷ []) n is in
      let z = kept_node (held spots) m s.shown (p ++ x ∷ []) node.0 node.1 in
      let long : n < length spots = held_within spots n (ap (λ k. is_some (held spots k)) (sym node.2) ∙ ap is_some z.1) in
      record {
        shown = removed (held spots) (held next) m s.shown p x node.0 node.1 (bare_too m (p ++ x ∷ []) can) (subst (λ k. IsKept (held spots) (held next) k None) (sym node.2) put.kept);
        counted = ap (λ n. n - 1) s.counted ∙ sym (fin.len-remove path_total m (p ++ x ∷ []) ∙ ap (λ o. cond (is_some o) (fin.len m - 1) (fin.len m)) node.1);
        filled = omega (arith, s.filled, less);
        few = omega (arith, s.few, put.long, long);
      }

  -- a change of a node in its place is a change in the map that is stored
  pub stored_change : (P : Node → Node → Type 0) (n : ℕ) → (c : IsChangedIn spots next n P) → (p : List (List ℕ)) → number_at m p ≡ Some n → IsStored next count (fin.insert m p c.new)
  stored_change P n c p is =
      let there : fin.get m p ≡ Some c.old.node = node_now (held spots) m s.shown n c.old c.was p is in
      let number : c.old.node.number ≡ n = s.shown.numbered n c.old c.was in
      record {
        shown = updated (held spots) (held next) m s.shown p c.old.node c.new c.old there c.same (ap (held spots) number ∙ c.was) (subst (λ k. IsKept (held spots) (held next) k (Some (record { parent = c.old.parent; name = c.old.name; node = c.new }))) (sym number) c.kept);
        counted = s.counted ∙ sym (fin.len-insert path_total m p c.new ∙ ap (λ o. cond (is_some o) (fin.len m) (fin.len m + 1)) there);
        filled = s.filled ∙ sym c.filled;
        few = omega (arith, s.few, c.long);
      }

  -- a node under its new name is moved in the map that is stored
  pub stored_shift : (p u : List (List ℕ)) (x y : List ℕ) (n d : ℕ) → number_at m (p ++ x ∷ []) ≡ Some n → number_at m u ≡ Some d → CanMove (plain_nodes whole m) (p ++ x ∷ []) (u ++ y ∷ [])
      → ((z : Spot) → held spots n ≡ Some z → IsSetIn spots next n (Some (record { parent = d; name = y; node = z.node }))) → used next ≡ used spots → IsStored next count (moved (p ++ x ∷ []) (u ++ y ∷ []) m)
  stored_shift p u x y n d is dir can put same =
      let node = node_at m (p ++ x ∷ []) n is in
      let z = kept_node (held spots) m s.shown (p ++ x ∷ []) node.0 node.1 in
      let set = put z.0 (ap (held spots) (sym node.2) ∙ z.1) in
      let long : n < length spots = held_within spots n (ap (λ k. is_some (held spots k)) (sym node.2) ∙ ap is_some z.1) in
      record {
        shown = moves (held spots) (held next) m s.shown p u x y node.0 d node.1 dir (λ q h. none_plain whole m q (can.free q h)) can.apart
            (subst (λ k. IsKept (held spots) (held next) node.0.number (Some (record { parent = d; name = y; node = k }))) z.2 (subst (λ k. IsKept (held spots) (held next) k (Some (record { parent = d; name = y; node = z.0.node }))) (sym node.2) set.kept));
        counted = s.counted ∙ sym (len_moved m (p ++ x ∷ []) (u ++ y ∷ []) can);
        filled = s.filled ∙ sym same;
        few = omega (arith, s.few, set.long, long);
      }

-- no other map is seen, and the one that is seen is stored
pub sole : (spots : List (Option Spot)) (count : ℕ) (m n : Nodes) → ((q : List (List ℕ)) → fin.get n q ≡ walk spots (node_in (held spots 0)) q) → IsStored spots count m → n ≡ m
sole spots count m n by s = only spots m s.shown n by

-- places that show the same map keep the same nodes
pub still : (spots : List (Option Spot)) (count : ℕ) (m n : Nodes) → ((q : List (List ℕ)) → fin.get n q ≡ walk spots (node_in (held spots 0)) q) → IsStored spots count m → IsStored spots count n
still spots count m n by s = subst (λ k. IsStored spots count k) (sym (sole spots count m n by s)) s

-- places that are the same keep the same nodes
pub stored_same : (spots next : List (Option Spot)) (count : ℕ) (m : Nodes) → IsStored spots count m → next ≡ spots → IsStored next count m
stored_same spots next count m s is = subst (λ l. IsStored l count m) (sym is) s

-- a place at which nothing is kept is no node's number
pub fresh : (spots : List (Option Spot)) (count : ℕ) (m : Nodes) (place : ℕ) → IsStored spots count m → held spots place ≡ None → (path : List (List ℕ)) → number_at m path ≡ Some place → ⊥
fresh spots count m place s empty path is =
    let node = node_at m path place is in
    let z = kept_node (held spots) m s.shown path node.0 node.1 in
    unlike (held spots place) z.0 empty (ap (held spots) (sym node.2) ∙ z.1)

-- the root alone
pub first_stored : (root : Node) (spots : List (Option Spot)) (name : List ℕ) → root.number ≡ 0 → name ≡ [] → spots ≡ Some (record { parent = 0; name = name; node = root }) ∷ [] → IsStored spots 1 (fin.insert fin.empty [] root)
first_stored root spots name zero_is unnamed is =
    subst (λ l. IsStored l 1 m) (sym (is ∙ ap (λ n. Some (spot 0 n root) ∷ []) unnamed)) (record {
      shown = record {
        root = number_is m [] root (get_here fin.empty [] root) ∙ ap (λ n. Some n) zero_is;
        rooted = λ node here. ap (λ n. Some (spot 0 [] n)) (some_same root node (sym (get_here fin.empty [] root) ∙ here));
        named = λ path x node parent here up. absurd (below path x node here);
        up = λ path x node here. absurd (below path x node here);
        behind = λ path x node here _. below path x node here;
        numbered = numbered;
        complete = λ n z kept. has_it m [] n (number_is m [] root (get_here fin.empty [] root) ∙ ap (λ k. Some k) (zero_is ∙ sym (at_zero n z kept)));
      };
      counted = sym (fin.len-insert path_total fin.empty [] root ∙ ap (λ (o : Option Node). cond (is_some o) (fin.len (fin.empty {X = Node} {R = path_cmp})) (fin.len (fin.empty {X = Node} {R = path_cmp}) + 1)) (fin.get-empty path_cmp []) ∙ ap (λ n. n + 1) (fin.len-empty path_cmp Node));
      filled = refl;
      few = lit≤ tt;
    })
  where
    m : Nodes
    m = fin.insert fin.empty [] root

    below : (path : List (List ℕ)) (x : List ℕ) (node : Node) → fin.get m (path ++ x ∷ []) ≡ Some node → ⊥
    below path x node here = unlike (fin.get m (path ++ x ∷ [])) node (get_other fin.empty [] (path ++ x ∷ []) root (no_name path x) ∙ fin.get-empty path_cmp (path ++ x ∷ [])) here

    at_zero : (n : ℕ) (z : Spot) → held (Some (spot 0 [] root) ∷ []) n ≡ Some z → n ≡ 0
    at_zero zero z kept = refl
    at_zero (suc n) z kept = cc

    numbered : (n : ℕ) (z : Spot) → held (Some (spot 0 [] root) ∷ []) n ≡ Some z → z.node.number ≡ n
    numbered zero z kept = ap (λ (z : Spot). z.node.number) (sym (some_same (spot 0 [] root) z kept)) ∙ zero_is
    numbered (suc n) z kept = cc

-- a number that was taken out stands nowhere
pub taken_gone : (at : Held) (m : Nodes) → IsShown at m → (p : List (List ℕ)) (n : ℕ) → number_at m p ≡ Some n → (path : List (List ℕ)) → number_at (fin.remove m p) path ≡ Some n → ⊥
taken_gone at m s p n there path stood =
    let node = node_at (fin.remove m p) path n stood in
    ⊎_elim
    (λ (e : path ≡ p). unlike (fin.get (fin.remove m p) path) node.0 (ap (fin.get (fin.remove m p)) e ∙ gone_here m p) node.1)
    (λ apart. apart (one_number at m s path p n (sym (ap (option_map (λ (n : Node). n.number)) (gone_other m p path apart)) ∙ stood) there))
    (is_or_not p path)

-- a node behind all others
pub stored_append : (spots next : List (Option Spot)) (count : ℕ) (m : Nodes) → IsStored spots count m → (p : List (List ℕ)) (x : List ℕ) (d : ℕ) (node : Node) → number_at m p ≡ Some d → fin.get m (p ++ x ∷ []) ≡ None
    → node.number ≡ length spots → length spots < most_nodes → next ≡ spots ++ Some (record { parent = d; name = x; node = node }) ∷ [] → IsStored next (count + 1) (fin.insert m (p ++ x ∷ []) node)
stored_append spots next count m s p x d node dir free number fits is =
    let z : Spot = record { parent = d; name = x; node = node } in
    stored_put spots next count m s p x d node (length spots) dir free number (held_past spots (length spots) (omega arith)) fits (push_in spots next (length spots) z is refl) (ap used is ∙ used_push spots z)
