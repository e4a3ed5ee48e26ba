-- A number loses its name.
use Rattle.std.proofs.Common.{if◌then◌else◌, Option, ◌≡◌, ◌≢◌, ◌⊎◌, ℕ, ◌<◌, Bool, true, false, not, List, length, set, Some, None, slice_get, sym, ap, ◌∙◌, refl, subst, arith, inl, inr, ⊎_elim}
use Rattle.std.proofs.lemmas.Bool.{cases_eq}
use Rattle.std.proofs.lemmas.List.{length-set}
use Rattle.name_tries.specs.Bits.{Name, bit_of, level}
use Rattle.name_tries.specs.Tries.{Trie, leaf, inner, HasLeaf, HasFork, AreOnce, IsAbove, Rises, Parts, nearest_in, Shows}
use Rattle.name_tries.specs.Ways.{Step, whole_of, AreTaken, inner_at, branch_at, IsWayToLast}
use Rattle.name_tries.specs.Keys.{Keys, name_of, name_in, IsRoot, IsOwned, IsTrieOf, ArePaired, AreTriesIn, IsKeyed, IsLinked, IsHandedOver}
use Rattle.name_tries.specs.declared.forks.Branch.{Branch}
use Rattle.name_tries.specs.declared.forks.Fork.{Fork}
use Rattle.name_tries.specs.declared.forks.Last.{Last}
use Rattle.name_tries.specs.declared.forks.Way.{Way}
use Rattle.name_tries.proofs.ItemLemmas.{some_same, none_not, set_here, set_other}
use Rattle.name_tries.proofs.TrieLemmas.{nearest_is, parts_same, shows_kept}
use Rattle.name_tries.proofs.WayLemmas.{leaf_map, fork_in, fork_map, once_map, rises_map, parts_map, once_part, parts_part, nearest_part, leaf_gone, fork_gone}
use Rattle.name_tries.proofs.PairLemmas.{still_owned, still_paired}
use Rattle.name_tries.proofs.KeyLemmas.{key_same, forks_apart, IsChanged, changed, linked_far, linked_near, linked_root, linked_others, linked_long}

-- ---- one side of a fork

abbrev pub side_trie : Bool → Trie → Trie → Trie
side_trie v l r = if v then r else l

-- a side that leads to no fork is a number
side_leaf : (forks : List Fork) (at : Branch) (u : Trie) → inner_at at ≡ None → Shows forks at u → (m : ℕ) × (u ≡ leaf m)
side_leaf forks at (leaf m) none shown = (m, refl)
side_leaf forks at (inner b w f l r) none shown = absurd (none_not (inner_at at) f none (ap inner_at shown.0))

side_shown : (forks : List Fork) (fork : Fork) (v : Bool) (l r : Trie) → Shows forks fork.zero l → Shows forks fork.one r
    → Shows forks (branch_at v fork) (side_trie v l r)
side_shown forks fork true l r zero one = one
side_shown forks fork false l r zero one = zero

above_lower : (q p : ℕ) (u : Trie) → q < p → IsAbove p u → IsAbove q u
above_lower q p (leaf m) lt above = tt
above_lower q p (inner b w f l r) lt above = omega arith

module _ (b w f k : ℕ) (l r : Trie) where
  rest_leaves : (v : Bool) → side_trie v l r ≡ leaf k → (n : ℕ) → HasLeaf n (inner b w f l r) → (n ≡ k) ⊎ HasLeaf n (side_trie (not v) l r)
  rest_leaves true is n (inl here) = inr here
  rest_leaves true is n (inr there) = inl (subst (λ (u : Trie). HasLeaf n u) is there)
  rest_leaves false is n (inl there) = inl (subst (λ (u : Trie). HasLeaf n u) is there)
  rest_leaves false is n (inr here) = inr here

  rest_leaf : (v : Bool) (n : ℕ) → HasLeaf n (side_trie (not v) l r) → HasLeaf n (inner b w f l r)
  rest_leaf true n here = inl here
  rest_leaf false n here = inr here

  rest_fork : (v : Bool) (g : ℕ) → HasFork g (side_trie (not v) l r) → HasFork g (inner b w f l r)
  rest_fork true g here = inr (inl here)
  rest_fork false g here = inr (inr here)

  rest_gone : (v : Bool) → AreOnce (inner b w f l r) → HasFork f (side_trie (not v) l r) → ⊥
  rest_gone true once here = once.0 here
  rest_gone false once here = once.1 here

  rest_once : (v : Bool) → AreOnce (inner b w f l r) → AreOnce (side_trie (not v) l r)
  rest_once true once = once.3
  rest_once false once = once.4

  rest_rises : (v : Bool) → Rises (inner b w f l r) → Rises (side_trie (not v) l r)
  rest_rises true rises = rises.3
  rest_rises false rises = rises.4

  rest_above : (v : Bool) → Rises (inner b w f l r) → (q : ℕ) → q < level b w → IsAbove q (side_trie (not v) l r)
  rest_above true rises q lt = above_lower q (level b w) l lt rises.1
  rest_above false rises q lt = above_lower q (level b w) r lt rises.2

  rest_parts : (name : ℕ → Name) (v : Bool) → Parts name (inner b w f l r) → Parts name (side_trie (not v) l r)
  rest_parts name true parts = parts.3
  rest_parts name false parts = parts.4

  rest_not : (name : ℕ → Name) (v : Bool) → Parts name (inner b w f l r) → bit_of (name k) b w ≡ v → HasLeaf k (side_trie (not v) l r) → ⊥
  rest_not name true parts bit here = let wrong : true ≡ false = sym bit ∙ parts.0 k here in cc
  rest_not name false parts bit here = let wrong : false ≡ true = sym bit ∙ parts.1 k here in cc

  nearest_side : (x : Name) → nearest_in x (inner b w f l r) ≡ nearest_in x (side_trie (bit_of x b w) l r)
  nearest_side x = at (bit_of x b w)
    where
      at : (v : Bool) → ◌≡◌ {A = ℕ} (if v then nearest_in x r else nearest_in x l) (nearest_in x (side_trie v l r))
      at true = refl
      at false = refl

-- ---- a number that is the only one

module _ (roots : List (Option Branch)) (forks : List Fork) (owned owners : List ℕ) (before after : Keys) (dir k : ℕ) (x : Name)
    (w : AreTriesIn roots forks owned owners before) (there : before k ≡ Some (dir, x)) (below : dir < length roots)
    (now : IsKeyed before after k None) (root : Option Branch) (root_is : slice_get roots dir ≡ Some root)
    (none : (at : Branch) → root ≡ Some at → inner_at at ≡ None) where
  was : (t : Trie) × (w.shape dir ≡ Some t) × HasLeaf k t
  was = w.every k dir x there

  only : (n : ℕ) (t : Trie) → w.shape dir ≡ Some t → HasLeaf n t → n ≡ k
  only n t is here =
      let rooted : IsRoot forks root (Some was.0) = subst (λ (o : Option Trie). IsRoot forks root o) was.1 (w.rooted dir root root_is) in
      let leaf_is = side_leaf forks rooted.0 was.0 (none rooted.0 rooted.1) rooted.2 in
      let same : t ≡ was.0 = some_same t was.0 (sym is ∙ was.1) in
      let n_is : n ≡ leaf_is.0 = subst (λ (u : Trie). HasLeaf n u) (same ∙ leaf_is.1) here in
      let k_is : k ≡ leaf_is.0 = subst (λ (u : Trie). HasLeaf k u) leaf_is.1 was.2 in
      n_is ∙ sym k_is

  only_change : IsChanged roots (set roots dir None) forks forks owned owned owners owners before after dir k w None
  only_change = record {
    root_here = λ r is. sym (some_same None r (sym (set_here roots dir None below) ∙ is));
    trie_here = λ t is. absurd (none_not None t refl is);
    every_here = λ n y is. absurd (gone n y is (cases_eq n k));
    roots_other = λ d apart. set_other roots dir d None apart;
    roots_long = length-set roots dir None;
    keep = λ d g t h apart is here was. was;
    own = λ d g t apart is here. (w.tries d t is).forks g here;
    keys_other = now.others;
    keys_here = λ d y is. absurd (none_not (after k) (d, y) now.here is);
    was_here = λ d y is. key_same d dir y x (sym is ∙ there);
    below_here = below;
    within_here = λ d y is. absurd (none_not (after k) (d, y) now.here is);
    bytes_here = λ d y is. absurd (none_not (after k) (d, y) now.here is);
    owned_long = refl;
    paired = w.paired;
  }
    where
      gone : (n : ℕ) (y : Name) → after n ≡ Some (dir, y) → (n ≡ k) ⊎ (n ≡ k → ⊥) → ⊥
      gone n y is (inl e) = none_not (after k) (dir, y) now.here (sym (ap after e) ∙ is)
      gone n y is (inr other) = let t = w.every n dir y (sym (now.others n other) ∙ is) in other (only n t.0 t.1 t.2)

  -- a number that is alone in its directory loses its name, and the directory its root
  pub cut_only : AreTriesIn (set roots dir None) forks owned owners after
  cut_only = changed roots (set roots dir None) forks forks owned owned owners owners before after dir k w None only_change

-- ---- a number beside others

module _ (roots next_roots : List (Option Branch)) (forks next : List Fork) (owned next_owned owners next_owners : List ℕ)
    (before after : Keys) (dir k : ℕ) (x : Name) (last : Last) (w : AreTriesIn roots forks owned owners before)
    (t : Trie) (t_is : w.shape dir ≡ Some t) (there : before k ≡ Some (dir, x)) (below : dir < length roots)
    (now : IsKeyed before after k None) (to : IsWayToLast forks t x last) (ends : inner_at last.below ≡ None)
    (linked : IsLinked roots next_roots forks next dir last.above (branch_at (not (bit_of x to.byte to.within)) to.fork))
    (over : IsHandedOver owned next_owned owners next_owners k to.place) where
  abbrev v : Bool
  v = bit_of x to.byte to.within

  abbrev steps : List Step
  steps = to.steps

  abbrev s : Trie
  s = inner to.byte to.within to.place to.zero to.one

  abbrev part : Trie
  part = side_trie (not v) to.zero to.one

  abbrev p : ℕ
  p = level to.byte to.within

  abbrev name : ℕ → Name
  name = name_in before

  old : IsTrieOf owned owners before dir t
  old = w.tries dir t t_is

  k_there : HasLeaf k t
  k_there = let was = w.every k dir x there in
      subst (λ (u : Trie). HasLeaf k u) (some_same was.0 t (sym was.1 ∙ t_is)) was.2

  name_k : name k ≡ x
  name_k = ap name_of there

  parts_whole : Parts name (whole_of steps s)
  parts_whole = subst (λ (u : Trie). Parts name u) to.is old.parts

  parts_s : Parts name s
  parts_s = parts_part name steps s parts_whole

  once_whole : AreOnce (whole_of steps s)
  once_whole = subst (λ (u : Trie). AreOnce u) to.is old.once

  once_s : AreOnce s
  once_s = once_part steps s once_whole

  rises_whole : Rises (whole_of steps s)
  rises_whole = subst (λ (u : Trie). Rises u) to.is old.rises

  -- on the side of the name there is nothing but the number
  side_is : side_trie v to.zero to.one ≡ leaf k
  side_is =
      let below_is : last.below ≡ branch_at v to.fork = ap (λ (h : Way). h.below) to.ends in
      let one = side_leaf forks (branch_at v to.fork) (side_trie v to.zero to.one) (sym (ap inner_at below_is) ∙ ends)
      (side_shown forks to.fork v to.zero to.one to.shows_zero to.shows_one) in
      let nearest : nearest_in x t ≡ k = ap (λ (y : Name). nearest_in y t) (sym name_k) ∙ nearest_is name t k old.parts k_there in
      let ways : nearest_in x t ≡ one.0 = ap (nearest_in x) to.is ∙ nearest_part x p steps s to.taken
      ∙ nearest_side to.byte to.within to.place k to.zero to.one x ∙ ap (nearest_in x) one.1 in
      one.1 ∙ ap leaf (sym ways ∙ nearest)

  -- ---- what it has

  leaves : (n : ℕ) → HasLeaf n (whole_of steps part) → HasLeaf n (whole_of steps s)
  leaves n here = ⊎_elim (λ (none : ⊥). absurd none) (λ there. there)
      (leaf_map (λ i. ⊥) s part steps (λ i h. inr (rest_leaf to.byte to.within to.place k to.zero to.one v i h)) n here)

  leaves_kept : (n : ℕ) → HasLeaf n (whole_of steps s) → (n ≡ k) ⊎ HasLeaf n (whole_of steps part)
  leaves_kept = leaf_map (λ i. i ≡ k) part s steps (rest_leaves to.byte to.within to.place k to.zero to.one v side_is)

  in_t : (n : ℕ) → HasLeaf n (whole_of steps part) → HasLeaf n t
  in_t n here = subst (λ (u : Trie). HasLeaf n u) (sym to.is) (leaves n here)

  still : (n : ℕ) → n ≢ k → HasLeaf n t → HasLeaf n (whole_of steps part)
  still n other here = ⊎_elim (λ (e : n ≡ k). absurd (other e)) (λ there. there)
      (leaves_kept n (subst (λ (u : Trie). HasLeaf n u) to.is here))

  k_gone : HasLeaf k (whole_of steps part) → ⊥
  k_gone = leaf_gone name p k steps s part (subst (λ (y : Name). AreTaken y p steps) (sym name_k) to.taken) parts_whole
      (rest_not to.byte to.within to.place k to.zero to.one name v parts_s (ap (λ (y : Name). bit_of y to.byte to.within) name_k))

  forks_in : (g : ℕ) → HasFork g (whole_of steps part) → HasFork g t
  forks_in g here = subst (λ (u : Trie). HasFork g u) (sym to.is) (⊎_elim (λ (none : ⊥). absurd none) (λ there. there)
      (fork_map (λ i. ⊥) s part steps (λ i h. inr (rest_fork to.byte to.within to.place k to.zero to.one v i h)) g here))

  place_in : HasFork to.place t
  place_in = subst (λ (u : Trie). HasFork to.place u) (sym to.is) (fork_in steps s to.place (inl refl))

  not_place : (g : ℕ) → HasFork g (whole_of steps part) → g ≢ to.place
  not_place g here e = fork_gone to.place steps s part once_whole (inl refl)
      (rest_gone to.byte to.within to.place k to.zero to.one v once_s)
      (subst (λ (i : ℕ). HasFork i (whole_of steps part)) e here)

  -- ---- whose places they are

  owns : slice_get owned over.owner ≡ Some to.place
  owns =
      let o = old.forks to.place place_in in
      ap (slice_get owned) (some_same over.owner o.number (sym over.owner_is ∙ o.owner)) ∙ o.owns

  owner_in : HasLeaf over.owner t
  owner_in =
      let o = old.forks to.place place_in in
      subst (λ (i : ℕ). HasLeaf i t) (some_same o.number over.owner (sym o.owner ∙ over.owner_is)) o.there

  owned_in : (g : ℕ) → HasFork g (whole_of steps part) → IsOwned next_owned next_owners (whole_of steps part) g
  owned_in g here =
      let o = old.forks g (forks_in g here) in
      elim (still_owned owned next_owned owners next_owners (length forks) k to.place w.paired over owns g o.number (not_place g here) o.owner o.owns) [
        | inl same ↦ record { number = o.number; owner = same.1; owns = same.2; there = still o.number same.0 o.there }
        | inr new ↦ record { number = over.owner; owner = new.2; owns = new.3; there = still over.owner new.1 owner_in }
      ]

  owned_there : (d g : ℕ) (u : Trie) → d ≢ dir → w.shape d ≡ Some u → HasFork g u → IsOwned next_owned next_owners u g
  owned_there d g u apart u_is here =
      let o = (w.tries d u u_is).forks g here in
      let other : g ≢ to.place = λ e. apart (forks_apart roots forks owned owners before w d dir to.place u t u_is t_is
      (subst (λ (i : ℕ). HasFork i u) e here) place_in) in
      elim (still_owned owned next_owned owners next_owners (length forks) k to.place w.paired over owns g o.number other o.owner o.owns) [
        | inl same ↦ record { number = o.number; owner = same.1; owns = same.2; there = o.there }
        | inr new ↦ absurd (apart (key_same d dir (name o.number) x
            (sym ((w.tries d u u_is).leaves o.number o.there) ∙ ap before new.0 ∙ there)))
      ]

  -- ---- the trie

  keys_in : (n : ℕ) → HasLeaf n (whole_of steps part) → after n ≡ before n
  keys_in n here = now.others n (λ e. k_gone (subst (λ (i : ℕ). HasLeaf i (whole_of steps part)) e here))

  trie_is : IsTrieOf next_owned next_owners after dir (whole_of steps part)
  trie_is = record {
    rises = rises_map (λ n. ⊥) s part x p (λ q lt is. rest_above to.byte to.within to.place k to.zero to.one v to.rises q lt) steps to.taken
        (rest_rises to.byte to.within to.place k to.zero to.one v to.rises) rises_whole;
    once = once_map (λ n. ⊥) s part steps (λ g h. inr (rest_fork to.byte to.within to.place k to.zero to.one v g h)) (λ g none here. none)
        (rest_once to.byte to.within to.place k to.zero to.one v once_s) once_whole;
    parts = parts_same name (name_in after) (whole_of steps part) (λ n here. ap name_of (keys_in n here))
        (parts_map (λ n. ⊥) s part name x p (λ n h. inr (rest_leaf to.byte to.within to.place k to.zero to.one v n h)) (λ n m none here. absurd none)
        steps to.taken (λ n none. absurd none) (rest_parts to.byte to.within to.place k to.zero to.one name v parts_s) parts_whole);
    leaves = λ n here. keys_in n here ∙ old.leaves n (in_t n here) ∙ ap (λ (y : Name). Some (dir, y)) (sym (ap name_of (keys_in n here)));
    forks = owned_in;
  }

  shown : Shows next (branch_at (not v) to.fork) part
  shown = shows_kept forks next part (branch_at (not v) to.fork)
      (λ g h here was. linked_near roots next_roots forks next dir last.above (branch_at (not v) to.fork) linked s steps to.side once_whole g h
      (rest_fork to.byte to.within to.place k to.zero to.one v g here) was)
      (side_shown forks to.fork (not v) to.zero to.one to.shows_zero to.shows_one)

  every : (n : ℕ) (y : Name) → after n ≡ Some (dir, y) → (n ≡ k) ⊎ (n ≡ k → ⊥) → HasLeaf n (whole_of steps part)
  every n y is (inl e) = absurd (none_not (after k) (dir, y) now.here (sym (ap after e) ∙ is))
  every n y is (inr other) =
      let was = w.every n dir y (sym (now.others n other) ∙ is) in
      still n other (subst (λ (u : Trie). HasLeaf n u) (some_same was.0 t (sym was.1 ∙ t_is)) was.2)

  cut_change : IsChanged roots next_roots forks next owned next_owned owners next_owners before after dir k w (Some (whole_of steps part))
  cut_change = record {
    root_here = linked_root roots next_roots forks next dir last.above (branch_at (not v) to.fork) linked s steps to.side once_whole part shown below
        (λ r is. subst (λ (o : Option Trie). IsRoot forks r o) (t_is ∙ ap (λ u. Some u) to.is) (w.rooted dir r is));
    trie_here = λ u is. subst (λ (z : Trie). IsTrieOf next_owned next_owners after dir z) (some_same (whole_of steps part) u is) trie_is;
    every_here = λ n y is. (whole_of steps part, refl, every n y is (cases_eq n k));
    roots_other = linked_others roots next_roots forks next dir last.above (branch_at (not v) to.fork) linked s steps to.side;
    roots_long = (linked_long roots next_roots forks next dir last.above (branch_at (not v) to.fork) linked s steps to.side).0;
    keep = λ d g u h other u_is here was.
        linked_far roots next_roots forks next dir last.above (branch_at (not v) to.fork) linked s steps to.side g h
        (λ inside. other (forks_apart roots forks owned owners before w d dir g u t u_is t_is here
        (subst (λ (z : Trie). HasFork g z) (sym to.is) inside))) was;
    own = owned_there;
    keys_other = now.others;
    keys_here = λ d y is. absurd (none_not (after k) (d, y) now.here is);
    was_here = λ d y is. key_same d dir y x (sym is ∙ there);
    below_here = below;
    within_here = λ d y is. absurd (none_not (after k) (d, y) now.here is);
    bytes_here = λ d y is. absurd (none_not (after k) (d, y) now.here is);
    owned_long = ap length over.owned_is ∙ length-set (set owned over.owner over.spare) k to.place ∙ length-set owned over.owner over.spare;
    paired = subst (λ (i : ℕ). ArePaired next_owned next_owners i)
        (sym (linked_long roots next_roots forks next dir last.above (branch_at (not v) to.fork) linked s steps to.side).1)
        (still_paired owned next_owned owners next_owners (length forks) k to.place w.paired over owns);
  }

  -- a number loses its name beside others of its directory
  pub cut_beside : AreTriesIn next_roots next next_owned next_owners after
  cut_beside = changed roots next_roots forks next owned next_owned owners next_owners before after dir k w (Some (whole_of steps part)) cut_change
