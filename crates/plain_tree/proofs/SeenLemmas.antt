-- The map that a tree of links shows, after each change of the links.
use Rattle.std.proofs.Common.{Option, ◌≡◌, ◌≢◌, ℕ, suc, ◌+◌, ◌<◌, ◌≤◌, true, false, cond, List, [], ◌∷◌, ◌++◌, length, take, drop, Some, None, is_some, sym, ap, ◌∙◌, refl, subst, arith, ⊎_elim}
use Rattle.std.specs.FinMap as fin
use Rattle.std.proofs.lemmas.List.{append-nil, length-append, drop_at, take-take}
use Rattle.std.proofs.lemmas.Bool.{cases_lt}
use Rattle.plain_tree.specs.declared.nodes.Node.{Node}
use Rattle.plain_tree.specs.Paths.{Path, same_path, is_at_or_below}
use Rattle.plain_tree.specs.Tree.{Nodes, moved}
use Rattle.plain_tree.specs.Valid.{mark_of, is_dir, AreValid}
use Rattle.plain_tree.specs.Links.{Child, walk, IsPut, IsMovedTo, IsSame}
use Rattle.plain_tree.specs.Seen.{HasNoUid, CanMove}
use Rattle.plain_tree.proofs.NodeLemmas.{path_total, path_exact}
use Rattle.plain_tree.proofs.MoveLemmas.{same_is, is_same, below_split, below_join, not_true, not_same, below_Decides, other_inserted, here_inserted, other_removed, back, get_moved}
use Rattle.plain_tree.proofs.Validity.{below_length, free_below, fewer_moved}
use Rattle.plain_tree.proofs.LinkLemmas.{walk_none, walk_append}

-- a node's uid is given at one path alone
pub one_path : (m : Nodes) → AreValid m → (p q : Path) (n k : Node) → fin.get m p ≡ Some n → fin.get m q ≡ Some k → n.uid ≡ k.uid → p ≡ q
one_path m valid p q n k at to same =
    valid.1.distinct p q n.uid (is_dir n.kind) (is_dir k.kind) (ap mark_of at) (ap mark_of to ∙ ap (λ u. Some (u, is_dir k.kind)) (sym same))

-- a walk meets no name under which something has changed
walk_same : (c d : Child) (at : Option Node) (r : Path) → ((s t : Path) (x : List ℕ) (n : Node) → r ≡ s ++ x ∷ t → walk c at s ≡ Some n → d n.uid x ≡ c n.uid x) → walk d at r ≡ walk c at r
walk_same c d at [] h = refl
walk_same c d None (x ∷ r) h = refl
walk_same c d (Some n) (x ∷ r) h =
    ap (λ o. walk d o r) (h [] r x n refl refl) ∙ walk_same c d (c n.uid x) r (λ s t y k e w. h (x ∷ s) t y k (ap (λ l. x ∷ l) e) w)

-- links with the same children lead every path to the same node
pub same_walks : (c d : Child) (at : Option Node) (r : Path) → IsSame c d → walk d at r ≡ walk c at r
same_walks c d at r same = walk_same c d at r (λ s t x n e w. same n.uid x)

-- from nodes of one uid a path leads to the same
walk_uid : (c : Child) (a b : Node) → a.uid ≡ b.uid → (y : List ℕ) (r : Path) → walk c (Some a) (y ∷ r) ≡ walk c (Some b) (y ∷ r)
walk_uid c a b same y r = ap (λ u. walk c (c u y) r) same

-- a name behind a path joins on to what follows it
pub snoc : (a t : Path) (x : List ℕ) → (a ++ x ∷ []) ++ t ≡ a ++ x ∷ t
snoc [] t x = refl
snoc (y ∷ a) t x = ap (λ l. y ∷ l) (snoc a t x)

append_append : (a b c : Path) → (a ++ b) ++ c ≡ a ++ (b ++ c)
append_append [] b c = refl
append_append (y ∷ a) b c = ap (λ l. y ∷ l) (append_append a b c)

-- nothing is not something
pub unlike : {X : Type 0} (o : Option X) (x : X) → o ≡ None → o ≡ Some x → ⊥
unlike o x none some = let wrong : None ≡ Some x = sym none ∙ some in cc

not_within : (p q : Path) → length q < length p → is_at_or_below p q ≡ false
not_within p q lt = not_true (is_at_or_below p q) (λ e. absurd (omega (arith, below_length p q e)))

differ : (p q : Path) → (p ≡ q → ⊥) → same_path p q ≡ false
differ p q h = not_same p q (λ e. h (same_is p q e))

longer : (p : Path) (r : Path) (x : List ℕ) → p ++ x ∷ r ≡ p → ⊥
longer p r x e = absurd (omega (arith, length-append p (x ∷ r), ap length e))

-- what stands below a node is where its names lead from there
module _ (c : Child) (root : Node) (m : Nodes) (shown : (p : Path) → fin.get m p ≡ walk c (Some root) p) where
  from_node : (p r : Path) (n : Node) → fin.get m p ≡ Some n → fin.get m (p ++ r) ≡ walk c (Some n) r
  from_node p r n is = shown (p ++ r) ∙ walk_append c (Some root) p r ∙ ap (λ o. walk c o r) (sym (shown p) ∙ is)

  -- what stands at a path with one name more is what the links have under that name
  pub child_shown : (p : Path) (n : Node) (x : List ℕ) → fin.get m p ≡ Some n → fin.get m (p ++ x ∷ []) ≡ c n.uid x
  child_shown p n x is = from_node p (x ∷ []) n is

-- under one name of a directory that is there something else stands now
module _ (c d : Child) (root : Node) (m : Nodes) (shown : (p : Path) → fin.get m p ≡ walk c (Some root) p) (valid : AreValid m)
    (front : Path) (x : List ℕ) (dir : Node) (there : fin.get m front ≡ Some dir) (o : Option Node) (put : IsPut c d dir.uid x o) where
  abbrev spot : Path
  spot = front ++ x ∷ []

  long : length spot ≡ length front + 1
  long = length-append front (x ∷ [])

  away : (q : Path) → is_at_or_below spot q ≡ false → walk d (Some root) q ≡ walk c (Some root) q
  away q other = walk_same c d (Some root) q (λ s t y n e w. put.others n.uid y (λ same name.
      let p : s ≡ front = one_path m valid s front n dir (shown s ∙ w) there same in
      let q_is : q ≡ spot ++ t = e ∙ ap (λ z. z ++ y ∷ t) p ∙ ap (λ z. front ++ z ∷ t) name ∙ sym (snoc front t x) in
      let wrong : true ≡ false = sym (below_join spot t) ∙ ap (is_at_or_below spot) (sym q_is) ∙ other in cc))

  at_spot : (r : Path) → walk d (Some root) (spot ++ r) ≡ walk d o r
  at_spot r =
      walk_append d (Some root) spot r
      ∙ ap (λ w. walk d w r) (walk_append d (Some root) front (x ∷ []) ∙ ap (λ w. walk d w (x ∷ [])) (away front (not_within spot front (omega (arith, long))) ∙ sym (shown front) ∙ there) ∙ put.here)

  apart_from : (q : Path) → is_at_or_below spot q ≡ false → same_path q spot ≡ false
  apart_from q other = differ q spot (λ e.
      let wrong : true ≡ false = sym (below_join spot []) ∙ ap (is_at_or_below spot) (append-nil spot ∙ sym e) ∙ other in cc)

  front_apart : same_path front spot ≡ false
  front_apart = differ front spot (λ e. absurd (omega (arith, long, ap length e)))

  -- what holds at the name, below it, and elsewhere holds everywhere
  everywhere : (P : Path → Type 0) → ((q : Path) → is_at_or_below spot q ≡ false → P q) → P spot → ((y : List ℕ) (r : Path) → P (spot ++ y ∷ r)) → (q : Path) → P q
  everywhere P elsewhere here below q =
      elim (is_at_or_below spot q) as (λ b. is_at_or_below spot q ≡ b → P q) [
        | true ↦ λ is. subst P (sym (below_split spot q is)) (by (drop (length spot) q))
        | false ↦ λ other. elsewhere q other
      ] refl
    where
      by : (r : Path) → P (spot ++ r)
      by [] = subst P (sym (append-nil spot)) here
      by (y ∷ r) = below y r

  here_now : walk d (Some root) spot ≡ o
  here_now = ap (walk d (Some root)) (sym (append-nil spot)) ∙ at_spot []

  -- a new node under a free name is in the map that the links show
  pub inserted : (node : Node) → o ≡ Some node → fin.get m spot ≡ None → ((n : List ℕ) → c node.uid n ≡ None) → (node.uid ≡ dir.uid → ⊥) → (q : Path) → fin.get (fin.insert m spot node) q ≡ walk d (Some root) q
  inserted node is free childless fresh = everywhere (λ q. fin.get (fin.insert m spot node) q ≡ walk d (Some root) q)
      (λ q other. other_inserted m spot q node (apart_from q other) ∙ shown q ∙ sym (away q other))
      (here_inserted m spot spot node (is_same spot spot refl) ∙ sym is ∙ sym here_now)
      (λ y r.
      other_inserted m spot (spot ++ y ∷ r) node (differ (spot ++ y ∷ r) spot (longer spot r y))
      ∙ free_below m (fin.len m) valid.0 valid.1 spot free (suc (length r)) (spot ++ y ∷ r) (length-append spot (y ∷ r)) (below_join spot (y ∷ r))
      ∙ sym (at_spot (y ∷ r) ∙ ap (λ w. walk d w (y ∷ r)) is ∙ ap (λ w. walk d w r) (put.others node.uid y (λ e _. fresh e) ∙ childless y) ∙ walk_none d r))

  -- a node without others below it is no more in the map when its link is gone
  pub removed : o ≡ None → ((y : List ℕ) → fin.get m (spot ++ y ∷ []) ≡ None) → (q : Path) → fin.get (fin.remove m spot) q ≡ walk d (Some root) q
  removed is bare = everywhere (λ q. fin.get (fin.remove m spot) q ≡ walk d (Some root) q)
      (λ q other. other_removed m spot q (apart_from q other) ∙ shown q ∙ sym (away q other))
      (fin.get-remove path_total m spot spot ∙ ap (λ b. cond b None (fin.get m spot)) (is_same spot spot refl) ∙ sym is ∙ sym here_now)
      (λ y r.
      other_removed m spot (spot ++ y ∷ r) (differ (spot ++ y ∷ r) spot (longer spot r y))
      ∙ ap (fin.get m) (sym (snoc spot r y))
      ∙ free_below m (fin.len m) valid.0 valid.1 (spot ++ y ∷ []) (bare y) (length r) ((spot ++ y ∷ []) ++ r) (length-append (spot ++ y ∷ []) r) (below_join (spot ++ y ∷ []) r)
      ∙ sym (at_spot (y ∷ r) ∙ ap (λ w. walk d w (y ∷ r)) is))

  -- a node that is replaced by one of the same uid is replaced in the map
  pub changed : (node new : Node) → o ≡ Some new → fin.get m spot ≡ Some node → new.uid ≡ node.uid → (q : Path) → fin.get (fin.insert m spot new) q ≡ walk d (Some root) q
  changed node new is was same = everywhere (λ q. fin.get (fin.insert m spot new) q ≡ walk d (Some root) q)
      (λ q other. other_inserted m spot q new (apart_from q other) ∙ shown q ∙ sym (away q other))
      (here_inserted m spot spot new (is_same spot spot refl) ∙ sym is ∙ sym here_now)
      (λ y r.
      other_inserted m spot (spot ++ y ∷ r) new (differ (spot ++ y ∷ r) spot (longer spot r y))
      ∙ from_node c root m shown spot (y ∷ r) node was
      ∙ sym (at_spot (y ∷ r) ∙ ap (λ w. walk d w (y ∷ r)) is ∙ walk_uid d new node same y r
      ∙ walk_same c d (Some node) (y ∷ r) (λ s t z n e w. put.others n.uid z (λ uid _.
      let p : spot ++ s ≡ front = one_path m valid (spot ++ s) front n dir (from_node c root m shown spot s node was ∙ w) there uid in
      absurd (omega (arith, ap length p, length-append spot s, long))))))

  -- taking out a name where nothing stands leaves the map
  pub missing : o ≡ None → fin.get m spot ≡ None → (q : Path) → fin.get m q ≡ walk d (Some root) q
  missing is none = everywhere (λ q. fin.get m q ≡ walk d (Some root) q)
      (λ q other. shown q ∙ sym (away q other))
      (none ∙ sym is ∙ sym here_now)
      (λ y r.
      free_below m (fin.len m) valid.0 valid.1 spot none (suc (length r)) (spot ++ y ∷ r) (length-append spot (y ∷ r)) (below_join spot (y ∷ r))
      ∙ sym (at_spot (y ∷ r) ∙ ap (λ w. walk d w (y ∷ r)) is))

  -- who has children
  module _ (owned : (uid : ℕ) (name : List ℕ) → HasNoUid m uid → c uid name ≡ None) where
    -- nothing stands below uids that no node has, after a node is put in
    pub inserted_owned : (node : Node) → fin.get m spot ≡ None → (uid : ℕ) (name : List ℕ) → HasNoUid (fin.insert m spot node) uid → d uid name ≡ None
    inserted_owned node free uid name unused =
        put.others uid name (λ e _. unused front dir (other_inserted m spot front node front_apart ∙ there) (sym e))
        ∙ owned uid name (λ p n is. unused p n (other_inserted m spot p node (differ p spot (λ e. unlike (fin.get m spot) n free (ap (fin.get m) (sym e) ∙ is))) ∙ is))

    -- nothing stands below uids that no node has, after a node is changed
    pub changed_owned : (node new : Node) → fin.get m spot ≡ Some node → new.uid ≡ node.uid → (uid : ℕ) (name : List ℕ) → HasNoUid (fin.insert m spot new) uid → d uid name ≡ None
    changed_owned node new was same uid name unused =
        put.others uid name (λ e _. unused front dir (other_inserted m spot front new front_apart ∙ there) (sym e))
        ∙ owned uid name (λ p n is. elim (same_path p spot) as (λ b. same_path p spot ≡ b → n.uid ≢ uid) [
          | true ↦ λ at e.
              let node_is : node ≡ n = cc_some node n (sym was ∙ ap (fin.get m) (sym (same_is p spot at)) ∙ is) in
              unused spot new (here_inserted m spot spot new (is_same spot spot refl)) (same ∙ ap (λ (n : Node). n.uid) node_is ∙ e)
          | false ↦ λ other. unused p n (other_inserted m spot p new other ∙ is)
        ] refl)
      where
        cc_some : (a b : Node) → ◌≡◌ {A = Option Node} (Some a) (Some b) → a ≡ b
        cc_some a b e = cc

    -- nothing stands below uids that no node has, after a free name is taken out
    pub missing_owned : (uid : ℕ) (name : List ℕ) → HasNoUid m uid → d uid name ≡ None
    missing_owned uid name unused = put.others uid name (λ e _. unused front dir there (sym e)) ∙ owned uid name unused

    -- nothing stands below uids that no node has, after a node is removed
    pub removed_owned : (node : Node) → fin.get m spot ≡ Some node → ((y : List ℕ) → fin.get m (spot ++ y ∷ []) ≡ None) → (uid : ℕ) (name : List ℕ) → HasNoUid (fin.remove m spot) uid → d uid name ≡ None
    removed_owned node was bare uid name unused =
        put.others uid name (λ e _. unused front dir (other_removed m spot front front_apart ∙ there) (sym e))
        ∙ elim (c uid name) as (λ k. c uid name ≡ k → c uid name ≡ None) [
          | None ↦ λ none. none
          | Some k ↦ λ some. owned uid name (λ p n is. elim (same_path p spot) as (λ b. same_path p spot ≡ b → n.uid ≢ uid) [
            | true ↦ λ at e.
                unlike (c n.uid name) k (sym (child_shown c root m shown p n name is) ∙ ap (λ q. fin.get m (q ++ name ∷ [])) (same_is p spot at) ∙ bare name) (ap (λ u. c u name) e ∙ some)
            | false ↦ λ other. unused p n (other_removed m spot p other ∙ is)
          ] refl)
        ] refl

-- a change of the root that keeps its uid
module _ (c : Child) (root new : Node) (m : Nodes) (shown : (p : Path) → fin.get m p ≡ walk c (Some root) p) (same : new.uid ≡ root.uid) where
  -- a root that is replaced by one of the same uid is replaced in the map
  pub root_changed : (q : Path) → fin.get (fin.insert m [] new) q ≡ walk c (Some new) q
  root_changed [] = here_inserted m [] [] new refl
  root_changed (y ∷ r) = other_inserted m [] (y ∷ r) new refl ∙ shown (y ∷ r) ∙ sym (walk_uid c new root same y r)

  -- nothing stands below uids that no node has, after the root is changed
  pub root_owned : ((uid : ℕ) (name : List ℕ) → HasNoUid m uid → c uid name ≡ None) → (uid : ℕ) (name : List ℕ) → HasNoUid (fin.insert m [] new) uid → c uid name ≡ None
  root_owned owned uid name unused = owned uid name by
    where
      by : HasNoUid m uid
      by [] n is e =
          let root_is : root ≡ n = cc_some root n (sym (shown []) ∙ is) in
          unused [] new (here_inserted m [] [] new refl) (same ∙ ap (λ (n : Node). n.uid) root_is ∙ e)
        where
          cc_some : (a b : Node) → ◌≡◌ {A = Option Node} (Some a) (Some b) → a ≡ b
          cc_some a b e = cc
      by (y ∷ p) n is e = unused (y ∷ p) n (other_inserted m [] (y ∷ p) new refl ∙ is) e

below_more : (p q r : Path) → is_at_or_below p q ≡ true → is_at_or_below p (q ++ r) ≡ true
below_more p q r e =
    let q_is : q ++ r ≡ p ++ (drop (length p) q ++ r) = ap (λ z. z ++ r) (below_split p q e) ∙ append_append p (drop (length p) q) r in
    ap (is_at_or_below p) q_is ∙ below_join p (drop (length p) q ++ r)

-- a node, with what lies below it, has moved
module _ (m : Nodes) (from to : Path) (can : CanMove m from to) where
  get_off : (q : Path) → is_at_or_below from q ≡ false → is_at_or_below to q ≡ false → fin.get (moved from to m) q ≡ fin.get m q
  get_off q other away =
      get_moved from to m q can.free ∙ ap (λ b. cond b (fin.get m (back from to q)) (cond (is_at_or_below from q) None (fin.get m q))) away
      ∙ ap (λ b. cond b None (fin.get m q)) other

  get_come : (r : Path) → fin.get (moved from to m) (to ++ r) ≡ fin.get m (from ++ r)
  get_come r =
      get_moved from to m (to ++ r) can.free
      ∙ ap (λ b. cond b (fin.get m (back from to (to ++ r))) (cond (is_at_or_below from (to ++ r)) None (fin.get m (to ++ r)))) (below_join to r)
      ∙ ap (λ s. fin.get m (from ++ s)) (drop_at to r (length to) refl)

  two_fronts : (a b x : Path) → is_at_or_below a x ≡ true → is_at_or_below b x ≡ true → length a ≤ length b → is_at_or_below a b ≡ true
  two_fronts a b x ea eb le =
      (below_Decides a b).1 ((below_Decides a x).0 ea ∙ sym (take-take (length a) (length b) x le) ∙ ap (take (length a)) (sym ((below_Decides b x).0 eb)))

  not_both : (x : Path) → is_at_or_below from x ≡ true → is_at_or_below to x ≡ false
  not_both x e = not_true (is_at_or_below to x) (λ f. ⊎_elim
      (λ lt. let wrong : true ≡ false = sym (two_fronts from to x e f (omega arith)) ∙ can.apart in cc)
      (λ ge. let wrong : true ≡ false = sym can.there ∙ ap is_some (can.free from (two_fronts to from x f e ge)) in cc)
      (cases_lt (length from) (length to)))

  get_gone : (x : Path) → is_at_or_below from x ≡ true → fin.get (moved from to m) x ≡ None
  get_gone x e =
      get_moved from to m x can.free ∙ ap (λ b. cond b (fin.get m (back from to x)) (cond (is_at_or_below from x) None (fin.get m x))) (not_both x e)
      ∙ ap (λ b. cond b None (fin.get m x)) e

  returned : moved to from (moved from to m) ≡ m
  returned = fin.same_map path_total path_exact _ _ (λ q.
      get_moved to from (moved from to m) q get_gone
      ∙ elim (is_at_or_below from q) as (λ a. is_at_or_below from q ≡ a → cond a (fin.get (moved from to m) (back to from q)) (cond (is_at_or_below to q) None (fin.get (moved from to m) q)) ≡ fin.get m q) [
        | true ↦ λ at. get_come (drop (length from) q) ∙ ap (fin.get m) (sym (below_split from q at))
        | false ↦ λ other. elim (is_at_or_below to q) as (λ b. is_at_or_below to q ≡ b → cond b None (fin.get (moved from to m) q) ≡ fin.get m q) [
          | true ↦ λ at. sym (can.free q at)
          | false ↦ λ away. get_off q other away
        ] refl
      ] refl)

  -- a move leaves as many nodes as there were
  pub moved_len : fin.len (moved from to m) ≡ fin.len m
  moved_len = omega (arith, fewer_moved from to m, fewer_moved to from (moved from to m), ap fin.len returned)

module _ (c d : Child) (root : Node) (m : Nodes) (shown : (p : Path) → fin.get m p ≡ walk c (Some root) p) (valid : AreValid m)
    (front up : Path) (x y : List ℕ) (old dir node : Node) (old_there : fin.get m front ≡ Some old) (dir_there : fin.get m up ≡ Some dir) (is : fin.get m (front ++ x ∷ []) ≡ Some node)
    (can : CanMove m (front ++ x ∷ []) (up ++ y ∷ [])) (move : IsMovedTo c d old.uid x dir.uid y) where
  abbrev from : Path
  from = front ++ x ∷ []

  abbrev to : Path
  to = up ++ y ∷ []

  hit : (f : Path) (k : List ℕ) (at : Node) → fin.get m f ≡ Some at → (q s t : Path) (z : List ℕ) (n : Node) → q ≡ s ++ z ∷ t → walk c (Some root) s ≡ Some n → n.uid ≡ at.uid → z ≡ k → is_at_or_below (f ++ k ∷ []) q ≡ true
  hit f k at there q s t z n e w same name =
      let p : s ≡ f = one_path m valid s f n at (shown s ∙ w) there same in
      let q_is : q ≡ (f ++ k ∷ []) ++ t = e ∙ ap (λ v. v ++ z ∷ t) p ∙ ap (λ v. f ++ v ∷ t) name ∙ sym (snoc f t k) in
      ap (is_at_or_below (f ++ k ∷ [])) q_is ∙ below_join (f ++ k ∷ []) t

  off : (q : Path) → is_at_or_below from q ≡ false → is_at_or_below to q ≡ false → walk d (Some root) q ≡ walk c (Some root) q
  off q other away = walk_same c d (Some root) q (λ s t z n e w. move.others n.uid z
      (λ same name. let wrong : true ≡ false = sym (hit front x old old_there q s t z n e w same name) ∙ other in cc)
      (λ same name. let wrong : true ≡ false = sym (hit up y dir dir_there q s t z n e w same name) ∙ away in cc))

  up_apart : is_at_or_below from up ≡ false
  up_apart = not_true (is_at_or_below from up) (λ e. let wrong : true ≡ false = sym (below_more from up (y ∷ []) e) ∙ can.apart in cc)

  up_above : is_at_or_below to up ≡ false
  up_above = not_within to up (omega (arith, length-append up (y ∷ [])))

  front_above : is_at_or_below from front ≡ false
  front_above = not_within from front (omega (arith, length-append front (x ∷ [])))

  front_apart_to : is_at_or_below to front ≡ false
  front_apart_to = not_true (is_at_or_below to front) (λ e. unlike (fin.get m front) old (can.free front e) old_there)

  at_to : (r : Path) → walk d (Some root) (to ++ r) ≡ walk d (Some node) r
  at_to r =
      walk_append d (Some root) to r
      ∙ ap (λ w. walk d w r) (walk_append d (Some root) up (y ∷ []) ∙ ap (λ w. walk d w (y ∷ [])) (off up up_apart up_above ∙ sym (shown up) ∙ dir_there) ∙ move.here ∙ sym (child_shown c root m shown front old x old_there) ∙ is)

  at_from : (r : Path) → walk d (Some root) (from ++ r) ≡ None
  at_from r =
      walk_append d (Some root) from r
      ∙ ap (λ w. walk d w r) (walk_append d (Some root) front (x ∷ []) ∙ ap (λ w. walk d w (x ∷ [])) (off front front_above front_apart_to ∙ sym (shown front) ∙ old_there) ∙ move.gone)
      ∙ walk_none d r

  within : (r : Path) → walk d (Some node) r ≡ walk c (Some node) r
  within r = walk_same c d (Some node) r (λ s t z k e w.
      let at : fin.get m (from ++ s) ≡ Some k = from_node c root m shown from s node is ∙ w in
      move.others k.uid z
      (λ same _. absurd (omega (arith, ap length (one_path m valid (from ++ s) front k old at old_there same), length-append from s, length-append front (x ∷ []))))
      (λ same _. let wrong : true ≡ false = sym (below_join from s) ∙ ap (is_at_or_below from) (one_path m valid (from ++ s) up k dir at dir_there same) ∙ up_apart in cc))

  -- a move of a link moves the node in the map, with all below it
  pub moved_seen : (q : Path) → fin.get (moved from to m) q ≡ walk d (Some root) q
  moved_seen q =
      get_moved from to m q can.free
      ∙ elim (is_at_or_below to q) as (λ b. is_at_or_below to q ≡ b → cond b (fin.get m (back from to q)) (cond (is_at_or_below from q) None (fin.get m q)) ≡ walk d (Some root) q) [
        | true ↦ λ at.
            let r = drop (length to) q in
            from_node c root m shown from r node is ∙ sym (within r) ∙ sym (at_to r) ∙ ap (walk d (Some root)) (sym (below_split to q at))
        | false ↦ λ away. elim (is_at_or_below from q) as (λ b. is_at_or_below from q ≡ b → cond b None (fin.get m q) ≡ walk d (Some root) q) [
          | true ↦ λ at. sym (ap (walk d (Some root)) (below_split from q at) ∙ at_from (drop (length from) q))
          | false ↦ λ other. shown q ∙ sym (off q other away)
        ] refl
      ] refl

  -- nothing stands below uids that no node has, after a move
  pub moved_owned : ((uid : ℕ) (name : List ℕ) → HasNoUid m uid → c uid name ≡ None) → (uid : ℕ) (name : List ℕ) → HasNoUid (moved from to m) uid → d uid name ≡ None
  moved_owned owned uid name unused =
      move.others uid name
      (λ e _. unused front old (get_off m from to can front front_above front_apart_to ∙ old_there) (sym e))
      (λ e _. unused up dir (get_off m from to can up up_apart up_above ∙ dir_there) (sym e))
      ∙ owned uid name (λ p n at. elim (is_at_or_below from p) as (λ b. is_at_or_below from p ≡ b → n.uid ≢ uid) [
        | true ↦ λ below. unused (to ++ drop (length from) p) n (get_come m from to can (drop (length from) p) ∙ ap (fin.get m) (sym (below_split from p below)) ∙ at)
        | false ↦ λ other. elim (is_at_or_below to p) as (λ b. is_at_or_below to p ≡ b → n.uid ≢ uid) [
          | true ↦ λ below. absurd (unlike (fin.get m p) n (can.free p below) at)
          | false ↦ λ away. unused p n (get_off m from to can p other away ∙ at)
        ] refl
      ] refl)
