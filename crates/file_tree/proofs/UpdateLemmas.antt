-- The map that is seen after each change of what is kept.
use Rattle.std.proofs.Common.{◌⊎◌, ◌≡◌, ◌≢◌, ℕ, ◌<◌, true, false, cond, List, [], ◌∷◌, ◌++◌, length, drop, map, Some, None, is_some, sym, ap, ◌∙◌, refl, arith, inl, inr, ⊎_elim}
use Rattle.std.specs.Option.{option_map}
use Rattle.std.specs.FinMap as fin
use Rattle.std.proofs.lemmas.List.{length-append, append-nil, append_assoc, drop_at}
use Rattle.std.proofs.lemmas.Bool.{cases_eq}
use Rattle.plain_tree.specs.Paths.{path_cmp, is_at_or_below, moved_path}
use Rattle.plain_tree.proofs.MoveLemmas.{find_moved, back, below_split, below_join, not_true}
use Rattle.plain_tree.proofs.NodeLemmas.{path_total}
use Rattle.plain_tree.proofs.SeenLemmas.{unlike}
use Rattle.plain_tree.proofs.Validity.{below_length}
use Rattle.file_tree.specs.declared.nodes.Node.{Node}
use Rattle.file_tree.specs.declared.nodes.Spot.{Spot}
use Rattle.file_tree.specs.Tree.{Nodes, number_at, moved}
use Rattle.file_tree.specs.Seen.{Held, IsShown, IsKept}
use Rattle.name_tries.proofs.ItemLemmas.{some_same}
use Rattle.file_tree.proofs.PathLemmas.{by_last, no_name, same_last, longer, get_here, get_other, gone_here, gone_other, is_or_not, has_it, number_is, node_at}
use Rattle.file_tree.proofs.ShownLemmas.{spot, same_spot, root_number, dir_of, one_path, stands}

module _ (at next : Held) (m : Nodes) (s : IsShown at m) where
  -- a node more
  module _ (p : List (List ℕ)) (x : List ℕ) (d : ℕ) (node : Node) (dir : number_at m p ≡ Some d) (free : fin.get m (p ++ x ∷ []) ≡ None) (unused : at node.number ≡ None)
      (put : IsKept at next node.number (Some (spot d x node))) where
    abbrev q : List (List ℕ)
    q = p ++ x ∷ []

    abbrev new : Nodes
    new = fin.insert m q node

    -- what is there is elsewhere
    apart : (u : List (List ℕ)) (n : Node) → fin.get m u ≡ Some n → u ≡ q → ⊥
    apart u n is e = unlike (fin.get m q) n free (ap (fin.get m) (sym e) ∙ is)

    numbers : (u : List (List ℕ)) (n : ℕ) → number_at m u ≡ Some n → number_at new u ≡ Some n
    numbers u n is = let a = node_at m u n is in ap (option_map (λ (n : Node). n.number)) (get_other m q u node (apart u a.0 a.1)) ∙ is

    kept : (n : ℕ) (z : Spot) → at n ≡ Some z → next n ≡ Some z
    kept n z is = put.others n (λ e. unlike (at n) z (ap at e ∙ unused) is) ∙ is

    dir_there : (n : Node) × (fin.get m p ≡ Some n) × (n.number ≡ d)
    dir_there = node_at m p d dir

    named_new : (u : List (List ℕ)) (y : List ℕ) (n : Node) (parent : ℕ) → fin.get new (u ++ y ∷ []) ≡ Some n → number_at new u ≡ Some parent → next n.number ≡ Some (spot parent y n)
    named_new u y n parent is up = ⊎_elim
        (λ (e : u ++ y ∷ [] ≡ q).
        let parts = same_last u p y x e in
        let is_node : node ≡ n = some_same node n (sym (get_here m q node) ∙ ap (fin.get new) (sym e) ∙ is) in
        let is_dir : d ≡ parent = some_same d parent (sym (numbers p d dir) ∙ ap (number_at new) (sym parts.0) ∙ up) in
        ap (λ (z : Node). next z.number) (sym is_node) ∙ put.here ∙ ap (λ k. Some (spot k x node)) is_dir ∙ ap (λ z. Some (spot parent z node)) (sym parts.1) ∙ ap (λ z. Some (spot parent y z)) is_node)
        (λ other.
        let was : fin.get m (u ++ y ∷ []) ≡ Some n = sym (get_other m q (u ++ y ∷ []) node other) ∙ is in
        let above = dir_of at m s u y n was in
        let same : above.0.number ≡ parent = some_same above.0.number parent (sym (numbers u above.0.number (number_is m u above.0 above.1)) ∙ up) in
        kept n.number (spot parent y n) (s.named u y n parent was (number_is m u above.0 above.1 ∙ ap (λ k. Some k) same)))
        (is_or_not q (u ++ y ∷ []))

    up_new : (u : List (List ℕ)) (y : List ℕ) (n : Node) → fin.get new (u ++ y ∷ []) ≡ Some n → is_some (fin.get new u) ≡ true
    up_new u y n is = ⊎_elim
        (λ (e : u ++ y ∷ [] ≡ q).
        let parts = same_last u p y x e in
        ap (λ v. is_some (fin.get new v)) parts.0 ∙ ap is_some (get_other m q p node (apart p dir_there.0 dir_there.1) ∙ dir_there.1))
        (λ other.
        let above = dir_of at m s u y n (sym (get_other m q (u ++ y ∷ []) node other) ∙ is) in
        ap is_some (get_other m q u node (apart u above.0 above.1) ∙ above.1))
        (is_or_not q (u ++ y ∷ []))

    not_root : node.number ≢ 0
    not_root e = let root = node_at m [] 0 s.root in unlike (at 0) (spot 0 [] root.0) (ap at (sym e) ∙ unused) (s.rooted root.0 root.1)

    behind_new : (u : List (List ℕ)) (y : List ℕ) (n : Node) → fin.get new (u ++ y ∷ []) ≡ Some n → n.number ≢ 0
    behind_new u y n is = ⊎_elim
        (λ (e : u ++ y ∷ [] ≡ q) zero_is. not_root (ap (λ (z : Node). z.number) (some_same node n (sym (get_here m q node) ∙ ap (fin.get new) (sym e) ∙ is)) ∙ zero_is))
        (λ other. s.behind u y n (sym (get_other m q (u ++ y ∷ []) node other) ∙ is))
        (is_or_not q (u ++ y ∷ []))

    -- a new node is in the map that is seen
    pub inserted : IsShown next new
    inserted = record {
      root = numbers [] 0 s.root;
      rooted = λ n is.
          let was : fin.get m [] ≡ Some n = sym (get_other m q [] node (λ e. no_name p x (sym e))) ∙ is in
          kept 0 (spot 0 [] n) (s.rooted n was);
      named = named_new;
      up = up_new;
      behind = behind_new;
      numbered = λ n z is. ⊎_elim
          (λ (e : n ≡ node.number).
          let same : spot d x node ≡ z = same_spot _ _ (sym put.here ∙ ap next (sym e) ∙ is) in
          ap (λ (w : Spot). w.node.number) (sym same) ∙ sym e)
          (λ other. s.numbered n z (sym (put.others n other) ∙ is))
          (cases_eq n node.number);
      complete = λ n z is. ⊎_elim
          (λ (e : n ≡ node.number). has_it new q n (number_is new q node (get_here m q node) ∙ ap (λ k. Some k) (sym e)))
          (λ other.
          let found = stands at m s n z (sym (put.others n other) ∙ is) in
          has_it new found.0 n (numbers found.0 n (number_is m found.0 z.node found.1 ∙ ap (λ k. Some k) found.2)))
          (cases_eq n node.number);
    }

  -- a node that has changed, but for its number
  module _ (q : List (List ℕ)) (old node : Node) (x : Spot) (there : fin.get m q ≡ Some old) (number : node.number ≡ old.number) (held : at old.number ≡ Some x)
      (put : IsKept at next old.number (Some (spot x.parent x.name node))) where
    abbrev changed : Nodes
    changed = fin.insert m q node

    -- each path has the number that it had
    pub same_numbers : (u : List (List ℕ)) → number_at changed u ≡ number_at m u
    same_numbers u = ⊎_elim
        (λ (e : u ≡ q). ap (number_at changed) e ∙ number_is changed q node (get_here m q node) ∙ ap (λ k. Some k) number ∙ sym (number_is m q old there) ∙ ap (number_at m) (sym e))
        (λ other. ap (option_map (λ (n : Node). n.number)) (get_other m q u node other))
        (is_or_not q u)

    -- a node elsewhere is kept as it was
    elsewhere : (u : List (List ℕ)) (n : Node) → (u ≡ q → ⊥) → fin.get m u ≡ Some n → next n.number ≡ at n.number
    elsewhere u n other is = put.others n.number (λ e. other (one_path at m s u q n old is there e))

    is_new : (u : List (List ℕ)) (n : Node) → u ≡ q → fin.get changed u ≡ Some n → node ≡ n
    is_new u n e is = some_same node n (sym (get_here m q node) ∙ ap (fin.get changed) (sym e) ∙ is)

    was_old : (u : List (List ℕ)) → u ≡ q → fin.get m u ≡ Some old
    was_old u e = ap (fin.get m) e ∙ there

    now : (z : Spot) (n : Node) → at old.number ≡ Some z → node ≡ n → next n.number ≡ Some (spot z.parent z.name n)
    now z n is e =
        let same : x ≡ z = same_spot x z (sym held ∙ is) in
        ap (λ (w : Node). next w.number) (sym e) ∙ ap next number ∙ put.here ∙ ap (λ (w : Spot). Some (spot w.parent w.name node)) same ∙ ap (λ w. Some (spot z.parent z.name w)) e

    -- a changed node is changed in the map that is seen
    pub updated : IsShown next changed
    updated = record {
      root = same_numbers [] ∙ s.root;
      rooted = λ n is. ⊎_elim
          (λ (e : [] ≡ q).
          let zero_is : old.number ≡ 0 = root_number at m s old (was_old [] e) in
          let new_zero : n.number ≡ 0 = ap (λ (w : Node). w.number) (sym (is_new [] n e is)) ∙ number ∙ zero_is in
          ap next (sym new_zero) ∙ now (spot 0 [] old) n (ap at zero_is ∙ s.rooted old (was_old [] e)) (is_new [] n e is))
          (λ other.
          let was : fin.get m [] ≡ Some n = sym (get_other m q [] node other) ∙ is in
          let zero_is : n.number ≡ 0 = root_number at m s n was in
          ap next (sym zero_is) ∙ elsewhere [] n other was ∙ ap at zero_is ∙ s.rooted n was)
          (is_or_not q []);
      named = λ u y n parent is up. ⊎_elim
          (λ (e : u ++ y ∷ [] ≡ q). now (spot parent y old) n (s.named u y old parent (was_old (u ++ y ∷ []) e) (sym (same_numbers u) ∙ up)) (is_new (u ++ y ∷ []) n e is))
          (λ other.
          let was : fin.get m (u ++ y ∷ []) ≡ Some n = sym (get_other m q (u ++ y ∷ []) node other) ∙ is in
          elsewhere (u ++ y ∷ []) n other was ∙ s.named u y n parent was (sym (same_numbers u) ∙ up))
          (is_or_not q (u ++ y ∷ []));
      up = λ u y n is.
          let old_there : (v : Node) × (fin.get m (u ++ y ∷ []) ≡ Some v) × (v.number ≡ n.number) = node_at m (u ++ y ∷ []) n.number (sym (same_numbers (u ++ y ∷ [])) ∙ number_is changed (u ++ y ∷ []) n is) in
          let above = dir_of at m s u y old_there.0 old_there.1 in
          let still = node_at changed u above.0.number (same_numbers u ∙ number_is m u above.0 above.1) in
          ap is_some still.1;
      behind = λ u y n is zero_is.
          let old_there : (v : Node) × (fin.get m (u ++ y ∷ []) ≡ Some v) × (v.number ≡ n.number) = node_at m (u ++ y ∷ []) n.number (sym (same_numbers (u ++ y ∷ [])) ∙ number_is changed (u ++ y ∷ []) n is) in
          s.behind u y old_there.0 old_there.1 (old_there.2 ∙ zero_is);
      numbered = λ n z is. ⊎_elim
          (λ (e : n ≡ old.number).
          let same : spot x.parent x.name node ≡ z = same_spot _ _ (sym put.here ∙ ap next (sym e) ∙ is) in
          ap (λ (w : Spot). w.node.number) (sym same) ∙ number ∙ sym e)
          (λ other. s.numbered n z (sym (put.others n other) ∙ is))
          (cases_eq n old.number);
      complete = λ n z is. ⊎_elim
          (λ (e : n ≡ old.number). has_it changed q n (same_numbers q ∙ number_is m q old there ∙ ap (λ k. Some k) (sym e)))
          (λ other.
          let found = stands at m s n z (sym (put.others n other) ∙ is) in
          has_it changed found.0 n (same_numbers found.0 ∙ number_is m found.0 z.node found.1 ∙ ap (λ k. Some k) found.2))
          (cases_eq n old.number);
    }

  -- a node less
  module _ (p : List (List ℕ)) (x : List ℕ) (node : Node) (there : fin.get m (p ++ x ∷ []) ≡ Some node) (bare : (y : List ℕ) → fin.get m ((p ++ x ∷ []) ++ y ∷ []) ≡ None)
      (put : IsKept at next node.number None) where
    abbrev spot_path : List (List ℕ)
    spot_path = p ++ x ∷ []

    abbrev less : Nodes
    less = fin.remove m spot_path

    -- what is there now was there, elsewhere
    left : (u : List (List ℕ)) (n : Node) → fin.get less u ≡ Some n → (u ≡ spot_path → ⊥) × (fin.get m u ≡ Some n)
    left u n is = ⊎_elim
        (λ (e : u ≡ spot_path). absurd (unlike (fin.get less u) n (ap (fin.get less) e ∙ gone_here m spot_path) is))
        (λ other. (other, sym (gone_other m spot_path u other) ∙ is))
        (is_or_not spot_path u)

    kept_left : (u : List (List ℕ)) (n : Node) → (u ≡ spot_path → ⊥) → fin.get m u ≡ Some n → next n.number ≡ at n.number
    kept_left u n other is = put.others n.number (λ e. other (one_path at m s u spot_path n node is there e))

    -- a removed node is gone from the map that is seen
    pub removed : IsShown next less
    removed = record {
      root = ap (option_map (λ (n : Node). n.number)) (gone_other m spot_path [] (λ e. no_name p x (sym e))) ∙ s.root;
      rooted = λ n is.
          let was = left [] n is in
          let zero_is : n.number ≡ 0 = root_number at m s n was.1 in
          ap next (sym zero_is) ∙ kept_left [] n was.0 was.1 ∙ ap at zero_is ∙ s.rooted n was.1;
      named = λ u y n parent is up.
          let was = left (u ++ y ∷ []) n is in
          let above = node_at less u parent up in
          let dir = left u above.0 above.1 in
          kept_left (u ++ y ∷ []) n was.0 was.1 ∙ s.named u y n parent was.1 (number_is m u above.0 dir.1 ∙ ap (λ k. Some k) above.2);
      up = λ u y n is.
          let was = left (u ++ y ∷ []) n is in
          let above = dir_of at m s u y n was.1 in
          ap is_some (gone_other m spot_path u (λ e. unlike (fin.get m (u ++ y ∷ [])) n (ap (λ v. fin.get m (v ++ y ∷ [])) e ∙ bare y) was.1) ∙ above.1);
      behind = λ u y n is. s.behind u y n (left (u ++ y ∷ []) n is).1;
      numbered = λ n z is. ⊎_elim
          (λ (e : n ≡ node.number). absurd (unlike (next n) z (ap next e ∙ put.here) is))
          (λ other. s.numbered n z (sym (put.others n other) ∙ is))
          (cases_eq n node.number);
      complete = λ n z is. ⊎_elim
          (λ (e : n ≡ node.number). absurd (unlike (next n) z (ap next e ∙ put.here) is))
          (λ other.
          let found = stands at m s n z (sym (put.others n other) ∙ is) in
          has_it less found.0 n (
          ap (option_map (λ (n : Node). n.number)) (gone_other m spot_path found.0 (λ e. other (sym found.2 ∙ ap (λ (w : Node). w.number) (some_same z.node node (sym found.1 ∙ ap (fin.get m) e ∙ there)))))
          ∙ number_is m found.0 z.node found.1 ∙ ap (λ k. Some k) found.2))
          (cases_eq n node.number);
    }

-- what stands at each path after a move: what came there, nothing where it left, or what was there
pub get_moved : (from to : List (List ℕ)) (m : Nodes) (q : List (List ℕ)) → ((x : List (List ℕ)) → is_at_or_below to x ≡ true → fin.get m x ≡ None)
    → fin.get (moved from to m) q ≡ cond (is_at_or_below to q) (fin.get m (back from to q)) (cond (is_at_or_below from q) None (fin.get m q))
get_moved from to m q free =
    fin.get-from_entries path_total (map (λ e. (moved_path from to e.0, e.1)) (fin.entries m)) q
    ∙ find_moved from to (fin.entries m) q (λ x h. not_true (is_at_or_below to x) (λ below. let wrong : true ≡ false = sym h ∙ sym (fin.contains_key-keys m x) ∙ ap is_some (free x below) in cc))
    ∙ ap (λ o. cond (is_at_or_below to q) o (cond (is_at_or_below from q) None (fin.find path_cmp q (fin.entries m)))) (sym (fin.get-entries m (back from to q)))
    ∙ ap (λ o. cond (is_at_or_below to q) (fin.get m (back from to q)) (cond (is_at_or_below from q) None o)) (sym (fin.get-entries m q))

-- a node, with all that lies below it, at another path
module _ (m : Nodes) (from to : List (List ℕ)) (free : (x : List (List ℕ)) → is_at_or_below to x ≡ true → fin.get m x ≡ None) where
  -- what is in neither of the two places of a move stays
  pub stay : (q : List (List ℕ)) → is_at_or_below to q ≡ false → is_at_or_below from q ≡ false → fin.get (moved from to m) q ≡ fin.get m q
  stay q away other =
      get_moved from to m q free ∙ ap (λ b. cond b (fin.get m (back from to q)) (cond (is_at_or_below from q) None (fin.get m q))) away
      ∙ ap (λ b. cond b None (fin.get m q)) other

  -- what is at the old place of a move comes to the new one
  pub come : (r : List (List ℕ)) → fin.get (moved from to m) (to ++ r) ≡ fin.get m (from ++ r)
  come r =
      get_moved from to m (to ++ r) free
      ∙ ap (λ b. cond b (fin.get m (back from to (to ++ r))) (cond (is_at_or_below from (to ++ r)) None (fin.get m (to ++ r)))) (below_join to r)
      ∙ ap (λ k. fin.get m (from ++ k)) (drop_at to r (length to) refl)

  -- what is at a path now has come there, or was there before
  pub from_where : (q : List (List ℕ)) (n : Node) → fin.get (moved from to m) q ≡ Some n
      → ((r : List (List ℕ)) × (q ≡ to ++ r) × (fin.get m (from ++ r) ≡ Some n)) ⊎ ((is_at_or_below to q ≡ false) × (is_at_or_below from q ≡ false) × (fin.get m q ≡ Some n))
  from_where q n is = elim (is_at_or_below to q) as (λ b. is_at_or_below to q ≡ b → ((r : List (List ℕ)) × (q ≡ to ++ r) × (fin.get m (from ++ r) ≡ Some n)) ⊎ ((b ≡ false) × (is_at_or_below from q ≡ false) × (fin.get m q ≡ Some n))) [
    | true ↦ λ at. inl (drop (length to) q, below_split to q at, sym (come (drop (length to) q)) ∙ ap (fin.get (moved from to m)) (sym (below_split to q at)) ∙ is)
    | false ↦ λ away. elim (is_at_or_below from q) as (λ b. is_at_or_below from q ≡ b → ((r : List (List ℕ)) × (q ≡ to ++ r) × (fin.get m (from ++ r) ≡ Some n)) ⊎ ((false ≡ false) × (b ≡ false) × (fin.get m q ≡ Some n))) [
      | true ↦ λ at.
          let none : fin.get (moved from to m) q ≡ None =
          get_moved from to m q free ∙ ap (λ b. cond b (fin.get m (back from to q)) (cond (is_at_or_below from q) None (fin.get m q))) away ∙ ap (λ b. cond b None (fin.get m q)) at in
          absurd (unlike (fin.get (moved from to m) q) n none is)
      | false ↦ λ other. inr (refl, refl, sym (stay q away other) ∙ is)
    ] refl
  ] refl

-- what is not above a path is not above its directory
pub above_one : (d u : List (List ℕ)) (y : List ℕ) → is_at_or_below d (u ++ y ∷ []) ≡ false → is_at_or_below d u ≡ false
above_one d u y other = not_true (is_at_or_below d u) (λ e.
    let more : u ++ y ∷ [] ≡ d ++ (drop (length d) u ++ y ∷ []) = ap (λ z. z ++ y ∷ []) (below_split d u e) ∙ append_assoc d (drop (length d) u) (y ∷ []) in
    let wrong : true ≡ false = sym (below_join d (drop (length d) u ++ y ∷ [])) ∙ ap (is_at_or_below d) (sym more) ∙ other in cc)

-- a path is not below one that is longer
pub shorter_not : (p q : List (List ℕ)) → length q < length p → is_at_or_below p q ≡ false
shorter_not p q lt = not_true (is_at_or_below p q) (λ e. absurd (omega (arith, below_length p q e)))

join_assoc : (a b : List (List ℕ)) (y : List ℕ) → (a ++ b) ++ y ∷ [] ≡ a ++ (b ++ y ∷ [])
join_assoc a b y = append_assoc a b (y ∷ [])

module _ (at next : Held) (m : Nodes) (s : IsShown at m) (p u : List (List ℕ)) (x y : List ℕ) (node : Node) (d : ℕ)
    (there : fin.get m (p ++ x ∷ []) ≡ Some node) (dir : number_at m u ≡ Some d)
    (free : (q : List (List ℕ)) → is_at_or_below (u ++ y ∷ []) q ≡ true → fin.get m q ≡ None) (apart : is_at_or_below (p ++ x ∷ []) (u ++ y ∷ []) ≡ false)
    (put : IsKept at next node.number (Some (spot d y node))) where
  abbrev from : List (List ℕ)
  from = p ++ x ∷ []

  abbrev to : List (List ℕ)
  to = u ++ y ∷ []

  abbrev after : Nodes
  after = moved from to m

  not_from : (q : List (List ℕ)) (n : Node) → (q ≡ from → ⊥) → fin.get m q ≡ Some n → next n.number ≡ at n.number
  not_from q n other is = put.others n.number (λ e. other (one_path at m s q from n node is there e))

  up_stays : fin.get after u ≡ fin.get m u
  up_stays = stay m from to free u (shorter_not to u (omega (arith, longer u y))) (above_one from u y apart)

  -- numbers that stood elsewhere stand there
  number_stays : (q : List (List ℕ)) → is_at_or_below to q ≡ false → is_at_or_below from q ≡ false → number_at after q ≡ number_at m q
  number_stays q away other = ap (option_map (λ (n : Node). n.number)) (stay m from to free q away other)

  number_comes : (r : List (List ℕ)) → number_at after (to ++ r) ≡ number_at m (from ++ r)
  number_comes r = ap (option_map (λ (n : Node). n.number)) (come m from to free r)

  root_away : is_at_or_below to [] ≡ false
  root_away = shorter_not to [] (omega (arith, longer u y))

  root_other : is_at_or_below from [] ≡ false
  root_other = shorter_not from [] (omega (arith, longer p x))

  named_below : (r : List (List ℕ)) (v : List (List ℕ)) (z : List ℕ) (n : Node) (parent : ℕ) → v ++ z ∷ [] ≡ to ++ r → fin.get m (from ++ r) ≡ Some n → number_at after v ≡ Some parent → (r ≡ []) ⊎ ((w : List (List ℕ)) × (k : List ℕ) × (r ≡ w ++ k ∷ []))
      → next n.number ≡ Some (spot parent z n)
  named_below r v z n parent e was up (inl none) =
      let parts = same_last v u z y (e ∙ ap (λ r. to ++ r) none ∙ append-nil to) in
      let is_node : node ≡ n = some_same node n (sym there ∙ ap (fin.get m) (sym (append-nil from)) ∙ ap (λ r. fin.get m (from ++ r)) (sym none) ∙ was) in
      let is_dir : d ≡ parent = some_same d parent (sym dir ∙ ap (option_map (λ (n : Node). n.number)) (sym up_stays) ∙ ap (number_at after) (sym parts.0) ∙ up) in
      ap (λ (w : Node). next w.number) (sym is_node) ∙ put.here ∙ ap (λ k. Some (spot k y node)) is_dir ∙ ap (λ k. Some (spot parent k node)) (sym parts.1) ∙ ap (λ w. Some (spot parent z w)) is_node
  named_below r v z n parent e was up (inr more) =
      let w = more.0 in
      let parts = same_last v (to ++ w) z more.1 (e ∙ ap (λ r. to ++ r) more.2 ∙ sym (join_assoc to w more.1)) in
      let here : fin.get m ((from ++ w) ++ z ∷ []) ≡ Some n = ap (λ k. fin.get m ((from ++ w) ++ k ∷ [])) parts.1 ∙ ap (fin.get m) (join_assoc from w more.1) ∙ ap (λ r. fin.get m (from ++ r)) (sym more.2) ∙ was in
      let parent_is : number_at m (from ++ w) ≡ Some parent = sym (number_comes w) ∙ ap (number_at after) (sym parts.0) ∙ up in
      not_from ((from ++ w) ++ z ∷ []) n (λ same. absurd (omega (arith, ap length same, longer (from ++ w) z, length-append from w))) here
      ∙ s.named (from ++ w) z n parent here parent_is

  named_after : (v : List (List ℕ)) (z : List ℕ) (n : Node) (parent : ℕ) → fin.get after (v ++ z ∷ []) ≡ Some n → number_at after v ≡ Some parent → next n.number ≡ Some (spot parent z n)
  named_after v z n parent is up = ⊎_elim
      (λ (here : (r : List (List ℕ)) × (v ++ z ∷ [] ≡ to ++ r) × (fin.get m (from ++ r) ≡ Some n)). named_below here.0 v z n parent here.1 here.2 up (by_last here.0))
      (λ (was : (is_at_or_below to (v ++ z ∷ []) ≡ false) × (is_at_or_below from (v ++ z ∷ []) ≡ false) × (fin.get m (v ++ z ∷ []) ≡ Some n)).
      not_from (v ++ z ∷ []) n (λ same. let wrong : true ≡ false = sym (below_join from []) ∙ ap (is_at_or_below from) (append-nil from ∙ sym same) ∙ was.1 in cc) was.2
      ∙ s.named v z n parent was.2 (sym (number_stays v (above_one to v z was.0) (above_one from v z was.1)) ∙ up))
      (from_where m from to free (v ++ z ∷ []) n is)

  up_after : (v : List (List ℕ)) (z : List ℕ) (n : Node) → fin.get after (v ++ z ∷ []) ≡ Some n → is_some (fin.get after v) ≡ true
  up_after v z n is = ⊎_elim
      (λ (here : (r : List (List ℕ)) × (v ++ z ∷ [] ≡ to ++ r) × (fin.get m (from ++ r) ≡ Some n)). by here.0 here.1 here.2 (by_last here.0))
      (λ (was : (is_at_or_below to (v ++ z ∷ []) ≡ false) × (is_at_or_below from (v ++ z ∷ []) ≡ false) × (fin.get m (v ++ z ∷ []) ≡ Some n)).
      let above = dir_of at m s v z n was.2 in
      ap is_some (stay m from to free v (above_one to v z was.0) (above_one from v z was.1) ∙ above.1))
      (from_where m from to free (v ++ z ∷ []) n is)
    where
      by : (r : List (List ℕ)) → v ++ z ∷ [] ≡ to ++ r → fin.get m (from ++ r) ≡ Some n → (r ≡ []) ⊎ ((w : List (List ℕ)) × (k : List ℕ) × (r ≡ w ++ k ∷ [])) → is_some (fin.get after v) ≡ true
      by r e was (inl none) =
          let parts = same_last v u z y (e ∙ ap (λ r. to ++ r) none ∙ append-nil to) in
          let above = node_at m u d dir in
          ap (λ q. is_some (fin.get after q)) parts.0 ∙ ap is_some (up_stays ∙ above.1)
      by r e was (inr more) =
          let w = more.0 in
          let parts = same_last v (to ++ w) z more.1 (e ∙ ap (λ r. to ++ r) more.2 ∙ sym (join_assoc to w more.1)) in
          let above = dir_of at m s (from ++ w) more.1 n (ap (fin.get m) (join_assoc from w more.1) ∙ ap (λ r. fin.get m (from ++ r)) (sym more.2) ∙ was) in
          ap (λ q. is_some (fin.get after q)) parts.0 ∙ ap is_some (come m from to free w ∙ above.1)

  behind_after : (v : List (List ℕ)) (z : List ℕ) (n : Node) → fin.get after (v ++ z ∷ []) ≡ Some n → n.number ≢ 0
  behind_after v z n is = ⊎_elim
      (λ (here : (r : List (List ℕ)) × (v ++ z ∷ [] ≡ to ++ r) × (fin.get m (from ++ r) ≡ Some n)) zero_is. by (from ++ here.0) here.2 (by_last (from ++ here.0)) zero_is (λ e. absurd (omega (arith, ap length e, length-append from here.0, longer p x))))
      (λ (was : (is_at_or_below to (v ++ z ∷ []) ≡ false) × (is_at_or_below from (v ++ z ∷ []) ≡ false) × (fin.get m (v ++ z ∷ []) ≡ Some n)). s.behind v z n was.2)
      (from_where m from to free (v ++ z ∷ []) n is)
    where
      by : (q : List (List ℕ)) → fin.get m q ≡ Some n → (q ≡ []) ⊎ ((w : List (List ℕ)) × (k : List ℕ) × (q ≡ w ++ k ∷ [])) → n.number ≡ 0 → (q ≡ [] → ⊥) → ⊥
      by q was (inl none) zero_is some = some none
      by q was (inr more) zero_is some = s.behind more.0 more.1 n (ap (fin.get m) (sym more.2) ∙ was) zero_is

  -- where a number stands after the move
  pub number_after : (q : List (List ℕ)) (n : ℕ) → number_at m q ≡ Some n → number_at after (moved_path from to q) ≡ Some n
  number_after q n is = elim (is_at_or_below from q) as (λ b. is_at_or_below from q ≡ b → number_at after (cond b (to ++ drop (length from) q) q) ≡ Some n) [
    | true ↦ λ below. number_comes (drop (length from) q) ∙ ap (number_at m) (sym (below_split from q below)) ∙ is
    | false ↦ λ other.
        let node = node_at m q n is in
        number_stays q (not_true (is_at_or_below to q) (λ e. unlike (fin.get m q) node.0 (free q e) node.1)) other ∙ is
  ] refl

  -- a node under its new name is moved in the map that is seen, with all below it
  pub moves : IsShown next after
  moves = record {
    root = number_stays [] root_away root_other ∙ s.root;
    rooted = λ n is.
        let was : fin.get m [] ≡ Some n = sym (stay m from to free [] root_away root_other) ∙ is in
        let zero_is : n.number ≡ 0 = root_number at m s n was in
        ap next (sym zero_is) ∙ not_from [] n (λ e. no_name p x (sym e)) was ∙ ap at zero_is ∙ s.rooted n was;
    named = named_after;
    up = up_after;
    behind = behind_after;
    numbered = λ n z is. ⊎_elim
        (λ (e : n ≡ node.number).
        let same : spot d y node ≡ z = same_spot _ _ (sym put.here ∙ ap next (sym e) ∙ is) in
        ap (λ (w : Spot). w.node.number) (sym same) ∙ sym e)
        (λ other. s.numbered n z (sym (put.others n other) ∙ is))
        (cases_eq n node.number);
    complete = λ n z is. ⊎_elim
        (λ (e : n ≡ node.number). has_it after (moved_path from to from) n (number_after from n (number_is m from node there ∙ ap (λ k. Some k) (sym e))))
        (λ other.
        let found = stands at m s n z (sym (put.others n other) ∙ is) in
        has_it after (moved_path from to found.0) n (number_after found.0 n (number_is m found.0 z.node found.1 ∙ ap (λ k. Some k) found.2)))
        (cases_eq n node.number);
  }
