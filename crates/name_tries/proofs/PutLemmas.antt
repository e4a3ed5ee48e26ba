-- A number gets a name beside others in its directory.
use Rattle.std.proofs.Common.{Option, ◌≡◌, ◌≢◌, ◌⊎◌, ℕ, ◌<◌, Bool, true, false, List, length, set, Some, None, slice_get, sym, ap, ◌∙◌, refl, subst, arith, inl, inr, ⊎_elim}
use Rattle.std.proofs.lemmas.Bool.{cases_eq}
use Rattle.std.proofs.lemmas.List.{length-set}
use Rattle.name_tries.specs.Bits.{AreBytes, Name, bit_of, level, AreAlike, IsParting}
use Rattle.name_tries.specs.Tries.{Trie, HasLeaf, HasFork, AreOnce, IsAbove, Rises, Parts, nearest_in, Shows}
use Rattle.name_tries.specs.Ways.{Step, whole_of, AreTaken, parted_fork, IsWayUpTo}
use Rattle.name_tries.specs.Keys.{Keys, name_of, name_in, IsRoot, IsOwned, IsTrieOf, AreTriesIn, IsKeyed, IsLinked}
use Rattle.name_tries.specs.declared.forks.Branch.{Branch}
use Rattle.name_tries.specs.declared.forks.Branch.TheVariants as branch
use Rattle.name_tries.specs.declared.forks.Fork.{Fork}
use Rattle.name_tries.specs.declared.forks.Way.{Way}
use Rattle.name_tries.proofs.ItemLemmas.{some_same, none_not, set_here, set_other}
use Rattle.name_tries.proofs.TrieLemmas.{nearest_has, parts_same, parts_before, parted, alike_there, parted_parts, parted_rises, parted_leaves, parted_new, parted_old, parted_forks, parted_once, parted_above, shows_kept}
use Rattle.name_tries.proofs.WayLemmas.{leaf_in, leaf_map, fork_in, fork_map, once_map, rises_map, parts_map, once_part, parts_part, nearest_part}
use Rattle.name_tries.proofs.KeyLemmas.{key_same, name_same, root_kept, not_there, not_forked, forks_apart, IsChanged, changed, linked_far, linked_near, linked_root, linked_others, linked_long}

module _ (roots next_roots : List (Option Branch)) (forks next : List Fork) (owned owners : List ℕ) (before after : Keys) (dir k f : ℕ)
    (x near : Name) (b v : ℕ) (fork : Fork) (way : Way) (w : AreTriesIn roots forks owned owners before) (t : Trie)
    (t_is : w.shape dir ≡ Some t) (near_is : name_in before (nearest_in x t) ≡ near) (free : before k ≡ None) (within : k < length owned)
    (below : dir < length roots) (bytes : AreBytes x) (now : IsKeyed before after k (Some (dir, x))) (owns : slice_get owned k ≡ Some f)
    (bit : IsParting x near b v) (to : IsWayUpTo forks t x (level b v) way) (fork_is : fork ≡ parted_fork (bit_of x b v) b v k way.below)
    (linked : IsLinked roots next_roots (set forks f fork) next dir way.side (branch.Inner f)) where
  abbrev steps : List Step
  steps = to.to.steps

  abbrev s : Trie
  s = to.to.part

  abbrev p : ℕ
  p = level b v

  abbrev mid : List Fork
  mid = set forks f fork

  abbrev name : ℕ → Name
  name = name_in after

  abbrev one : Bool
  one = bit_of x b v

  abbrev part : Trie
  part = parted one b v f k s

  old : IsTrieOf owned owners before dir t
  old = w.tries dir t t_is

  -- ---- the names

  not_k : (d n : ℕ) (u : Trie) → w.shape d ≡ Some u → HasLeaf n u → n ≢ k
  not_k d n u is here e = not_there roots forks owned owners before w k d u free is (subst (λ (i : ℕ). HasLeaf i u) e here)

  names_same : (n : ℕ) → HasLeaf n t → name n ≡ name_in before n
  names_same n here = ap name_of (now.others n (not_k dir n t t_is here))

  parts_whole : Parts name (whole_of steps s)
  parts_whole = subst (λ (u : Trie). Parts name u) to.to.is (parts_same (name_in before) name t names_same old.parts)

  parts_s : Parts name s
  parts_s = parts_part name steps s parts_whole

  rises_whole : Rises (whole_of steps s)
  rises_whole = subst (λ (u : Trie). Rises u) to.to.is old.rises

  once_whole : AreOnce (whole_of steps s)
  once_whole = subst (λ (u : Trie). AreOnce u) to.to.is old.once

  abbrev n : ℕ
  n = nearest_in x s

  n_there : HasLeaf n s
  n_there = nearest_has x s

  in_t : (m : ℕ) → HasLeaf m s → HasLeaf m t
  in_t m here = subst (λ (u : Trie). HasLeaf m u) (sym to.to.is) (leaf_in steps s m here)

  name_n : name n ≡ near
  name_n = names_same n (in_t n n_there)
      ∙ ap (name_in before) (sym (ap (nearest_in x) to.to.is ∙ nearest_part x p steps s to.to.taken)) ∙ near_is

  name_k : name k ≡ x
  name_k = ap name_of now.here

  alike : AreAlike p (name k) (name n)
  alike = subst (λ (y : Name). AreAlike p y (name n)) (sym name_k) (subst (λ (y : Name). AreAlike p x y) (sym name_n) bit.alike)

  bit_k : bit_of (name k) b v ≡ one
  bit_k = ap (λ (y : Name). bit_of y b v) name_k

  bit_n : bit_of (name n) b v ≡ bit_of near b v
  bit_n = ap (λ (y : Name). bit_of y b v) name_n

  apart : bit_of (name k) b v ≡ bit_of (name n) b v → ⊥
  apart e = bit.apart (sym bit_k ∙ e ∙ bit_n)

  above : IsAbove p s
  above = parts_before name x b v s bit.within_nine to.ends to.to.rises parts_s (λ e. bit.apart (e ∙ bit_n))

  taken_k : (m : ℕ) → m ≡ k → AreTaken (name m) p steps
  taken_k m e = subst (λ (i : ℕ). AreTaken (name i) p steps) (sym e)
      (subst (λ (y : Name). AreTaken y p steps) (sym name_k) to.to.taken)

  alike_k : (m i : ℕ) → m ≡ k → HasLeaf i s → AreAlike p (name m) (name i)
  alike_k m i e here = subst (λ (j : ℕ). AreAlike p (name j) (name i)) (sym e)
      (alike_there name b v f k n s bit.within_nine above to.to.rises parts_s n_there alike apart i here)

  -- ---- the trie

  fresh : (d : ℕ) (u : Trie) → w.shape d ≡ Some u → HasFork f u → ⊥
  fresh d u is here = not_forked roots forks owned owners before w k f d u free owns is here

  fresh_whole : HasFork f (whole_of steps s) → ⊥
  fresh_whole here = fresh dir t t_is (subst (λ (u : Trie). HasFork f u) (sym to.to.is) here)

  fresh_s : HasFork f s → ⊥
  fresh_s here = fresh_whole (fork_in steps s f here)

  leaves : (m : ℕ) → HasLeaf m (whole_of steps part) → (m ≡ k) ⊎ HasLeaf m (whole_of steps s)
  leaves = leaf_map (λ m. m ≡ k) s part steps (parted_leaves one b v f k s)

  leaves_kept : (m : ℕ) → HasLeaf m (whole_of steps s) → HasLeaf m (whole_of steps part)
  leaves_kept m here = ⊎_elim (λ (none : ⊥). absurd none) (λ there. there)
      (leaf_map (λ i. ⊥) part s steps (λ i old. inr (parted_old one b v f k s i old)) m here)

  k_there : HasLeaf k (whole_of steps part)
  k_there = leaf_in steps part k (parted_new one b v f k s)

  owned_in : (g : ℕ) → HasFork g (whole_of steps part) → IsOwned owned owners (whole_of steps part) g
  owned_in g here = elim (fork_map (λ i. i ≡ f) s part steps (parted_forks one b v f k s) g here) [
    | inl e ↦ record {
      number = k;
      owner = ap (slice_get owners) e ∙ w.paired.pair k f owns;
      owns = owns ∙ ap (λ i. Some i) (sym e);
      there = k_there;
    }
    | inr there ↦
        let o = old.forks g (subst (λ (u : Trie). HasFork g u) (sym to.to.is) there) in
        record {
          number = o.number;
          owner = o.owner;
          owns = o.owns;
          there = leaves_kept o.number (subst (λ (u : Trie). HasLeaf o.number u) to.to.is o.there);
        }
  ]

  keys_in : (m : ℕ) → HasLeaf m (whole_of steps part) → after m ≡ Some (dir, name m)
  keys_in m here = elim (leaves m here) [
    | inl e ↦ ap after e ∙ now.here ∙ ap (λ (y : Name). Some (dir, y)) (sym (ap name e ∙ name_k))
    | inr there ↦
        let was : HasLeaf m t = subst (λ (u : Trie). HasLeaf m u) (sym to.to.is) there in
        now.others m (not_k dir m t t_is was) ∙ old.leaves m was ∙ ap (λ (y : Name). Some (dir, y)) (sym (names_same m was))
  ]

  trie_is : IsTrieOf owned owners after dir (whole_of steps part)
  trie_is = record {
    rises = rises_map (λ m. m ≡ k) s part x p (λ q lt is. parted_above one b v f k q s lt) steps to.to.taken
        (parted_rises name b v f k n s bit.within_nine above to.to.rises parts_s n_there alike apart one) rises_whole;
    once = once_map (λ g. g ≡ f) s part steps (parted_forks one b v f k s)
        (λ g e here. fresh_whole (subst (λ (i : ℕ). HasFork i (whole_of steps s)) e here))
        (parted_once one b v f k s fresh_s (once_part steps s once_whole)) once_whole;
    parts = parts_map (λ m. m ≡ k) s part name x p (parted_leaves one b v f k s) alike_k steps to.to.taken taken_k
        (parted_parts name b v f k n s bit.within_nine above to.to.rises parts_s n_there alike apart one bit_k) parts_whole;
    leaves = keys_in;
    forks = owned_in;
  }

  -- ---- where it stands

  kept : (g : ℕ) (h : Fork) → g ≢ f → slice_get forks g ≡ Some h → slice_get mid g ≡ Some h
  kept g h other is = set_other forks f g fork other ∙ is

  shown_s : Shows next way.below s
  shown_s = shows_kept mid next s way.below
      (λ g h here was. linked_near roots next_roots mid next dir way.side (branch.Inner f) linked s steps to.to.side once_whole g h here was)
      (shows_kept forks mid s way.below (λ g h here was. kept g h (λ e. fresh_s (subst (λ (i : ℕ). HasFork i s) e here)) was) to.to.shown)

  fork_there : slice_get next f ≡ Some fork
  fork_there = linked_far roots next_roots mid next dir way.side (branch.Inner f) linked s steps to.to.side f fork fresh_whole
      (set_here forks f fork (omega (arith, w.paired.below k f owns, w.paired.places_fit)))

  shown_at : (u : Bool) → one ≡ u → Shows next (branch.Inner f) (parted u b v f k s)
  shown_at true is =
      let same : fork ≡ parted_fork true b v k way.below = fork_is ∙ ap (λ q. parted_fork q b v k way.below) is in (
        refl,
        fork,
        fork_there,
        ap (λ (h : Fork). h.byte) same,
        ap (λ (h : Fork). h.within) same,
        subst (λ (at : Branch). Shows next at s) (sym (ap (λ (h : Fork). h.zero) same)) shown_s,
        ap (λ (h : Fork). h.one) same,
      )
  shown_at false is =
      let same : fork ≡ parted_fork false b v k way.below = fork_is ∙ ap (λ q. parted_fork q b v k way.below) is in (
        refl,
        fork,
        fork_there,
        ap (λ (h : Fork). h.byte) same,
        ap (λ (h : Fork). h.within) same,
        ap (λ (h : Fork). h.zero) same,
        subst (λ (at : Branch). Shows next at s) (sym (ap (λ (h : Fork). h.one) same)) shown_s,
      )

  root_mid : (r : Option Branch) → slice_get roots dir ≡ Some r → IsRoot mid r (Some (whole_of steps s))
  root_mid r is = root_kept forks mid r (Some (whole_of steps s))
      (λ u g h u_is here was. kept g h (λ e. fresh_whole (subst (λ (i : ℕ). HasFork i (whole_of steps s)) e
      (subst (λ (z : Trie). HasFork g z) (sym (some_same (whole_of steps s) u u_is)) here))) was)
      (subst (λ (o : Option Trie). IsRoot forks r o) (t_is ∙ ap (λ u. Some u) to.to.is) (w.rooted dir r is))

  -- ---- all of it

  every : (m : ℕ) (y : Name) → after m ≡ Some (dir, y) → (m ≡ k) ⊎ (m ≡ k → ⊥) → HasLeaf m (whole_of steps part)
  every m y is (inl e) = subst (λ (i : ℕ). HasLeaf i (whole_of steps part)) (sym e) k_there
  every m y is (inr other) =
      let was = w.every m dir y (sym (now.others m other) ∙ is) in
      let same : was.0 ≡ t = some_same was.0 t (sym was.1 ∙ t_is) in
      leaves_kept m (subst (λ (u : Trie). HasLeaf m u) (same ∙ to.to.is) was.2)

  put_change : IsChanged roots next_roots forks next owned owned owners owners before after dir k w (Some (whole_of steps part))
  put_change = record {
    root_here = linked_root roots next_roots mid next dir way.side (branch.Inner f) linked s steps to.to.side once_whole part
        (shown_at one refl) below root_mid;
    trie_here = λ u is. subst (λ (z : Trie). IsTrieOf owned owners after dir z) (some_same (whole_of steps part) u is) trie_is;
    every_here = λ m y is. (whole_of steps part, refl, every m y is (cases_eq m k));
    roots_other = linked_others roots next_roots mid next dir way.side (branch.Inner f) linked s steps to.to.side;
    roots_long = (linked_long roots next_roots mid next dir way.side (branch.Inner f) linked s steps to.to.side).0;
    keep = λ d g u h other u_is here was.
        linked_far roots next_roots mid next dir way.side (branch.Inner f) linked s steps to.to.side g h
        (λ there. other (forks_apart roots forks owned owners before w d dir g u t u_is t_is here
        (subst (λ (z : Trie). HasFork g z) (sym to.to.is) there)))
        (kept g h (λ e. fresh d u u_is (subst (λ (i : ℕ). HasFork i u) e here)) was);
    own = λ d g u other u_is here. (w.tries d u u_is).forks g here;
    keys_other = now.others;
    keys_here = λ d y is. key_same d dir y x (sym is ∙ now.here);
    was_here = λ d y is. absurd (none_not (before k) (d, y) free is);
    below_here = below;
    within_here = λ d y is. within;
    bytes_here = λ d y is. subst (λ (z : Name). AreBytes z) (name_same dir d x y (sym now.here ∙ is)) bytes;
    owned_long = refl;
    paired = record {
      pair = w.paired.pair;
      below = w.paired.below;
      owners_fit = w.paired.owners_fit;
      places_fit = omega (arith, w.paired.places_fit, long);
    };
  }
    where
      long : length next ≡ length forks
      long = (linked_long roots next_roots mid next dir way.side (branch.Inner f) linked s steps to.to.side).1 ∙ length-set forks f fork

  -- a number gets a name beside others, at a new fork
  pub put_beside : AreTriesIn next_roots next owned owners after
  put_beside = changed roots next_roots forks next owned owned owners owners before after dir k w (Some (whole_of steps part)) put_change
