-- The tries of all directories, as one number gets a name or loses it.
use Rattle.std.proofs.Common.{Option, ◌≡◌, ◌≢◌, ◌⊎◌, ℕ, ◌+◌, ◌<◌, ◌≤◌, true, false, List, [], ◌∷◌, ◌++◌, length, set, Some, None, slice_get, sym, ap, ◌∙◌, refl, subst, arith, inl, inr}
use Rattle.std.proofs.lemmas.Bool.{cases_eq}
use Rattle.std.proofs.lemmas.List.{length-set, length-append}
use Rattle.std.proofs.lemmas.Option.{slice_get_within}
use Rattle.name_tries.specs.Bits.{Name, AreBytes}
use Rattle.name_tries.specs.Tries.{Trie, leaf, HasLeaf, HasFork, AreOnce, Shows}
use Rattle.name_tries.specs.Ways.{Step, whole_of, side, side_of, last_side}
use Rattle.name_tries.specs.Keys.{Keys, name_of, name_in, IsRoot, IsOwned, IsTrieOf, ArePaired, AreTriesIn, IsKeyed, IsLinked}
use Rattle.name_tries.specs.declared.forks.Branch.{Branch}
use Rattle.name_tries.specs.declared.forks.Branch.TheVariants as branch
use Rattle.name_tries.specs.declared.forks.Fork.{Fork}
use Rattle.name_tries.specs.declared.forks.Side.{Side}
use Rattle.name_tries.proofs.ItemLemmas.{some_same, none_not, set_here, set_other, push_other, push_cases}
use Rattle.name_tries.proofs.TrieLemmas.{some_leaf, parts_same, shows_kept}
use Rattle.name_tries.proofs.WayLemmas.{side_in, side_out, shows_set}

-- equal keys are in the same directory
pub key_same : (d e : ℕ) (x y : Name) → ◌≡◌ {A = Option (ℕ × Name)} (Some (d, x)) (Some (e, y)) → d ≡ e
key_same d e x y is = ap (λ (k : ℕ × Name). k.0) (some_same (d, x) (e, y) is)

-- equal keys have the same name
pub name_same : (d e : ℕ) (x y : Name) → ◌≡◌ {A = Option (ℕ × Name)} (Some (d, x)) (Some (e, y)) → x ≡ y
name_same d e x y is = ap (λ (k : ℕ × Name). k.1) (some_same (d, x) (e, y) is)

-- ---- no names

-- where nothing has a name there are no tries
pub no_tries : (roots : List (Option Branch)) (forks : List Fork) (owned owners : List ℕ) → roots ≡ [] → owned ≡ []
    → AreTriesIn roots forks owned owners (λ n. None)
no_tries roots forks owned owners no_roots none = record {
  shape = λ dir. None;
  rooted = λ dir root is. absurd (none_not (slice_get roots dir) root (ap (λ l. slice_get l dir) no_roots) is);
  tries = λ dir t is. absurd (none_not None t refl is);
  every = λ n dir name is. absurd (none_not None (dir, name) refl is);
  below = λ n dir name is. absurd (none_not None (dir, name) refl is);
  within = λ n dir name is. absurd (none_not None (dir, name) refl is);
  bytes = λ n dir name is. absurd (none_not None (dir, name) refl is);
  paired = record {
    pair = λ n f is. absurd (none_not (slice_get owned n) f (ap (λ l. slice_get l n) none) is);
    below = λ n f is. absurd (none_not (slice_get owned n) f (ap (λ l. slice_get l n) none) is);
    owners_fit = omega (arith, ap length none);
    places_fit = omega (arith, ap length none);
  };
}

-- ---- what the tries of directories have to do with each other

-- a root stays where the forks of its trie stay
pub root_kept : (forks next : List Fork) (root : Option Branch) (o : Option Trie)
    → ((t : Trie) (g : ℕ) (k : Fork) → o ≡ Some t → HasFork g t → slice_get forks g ≡ Some k → slice_get next g ≡ Some k)
    → IsRoot forks root o → IsRoot next root o
root_kept forks next root None keep is = is
root_kept forks next root (Some t) keep is = (is.0, is.1, shows_kept forks next t is.0 (λ g k here was. keep t g k refl here was) is.2)

module _ (roots : List (Option Branch)) (forks : List Fork) (owned owners : List ℕ) (keys : Keys) (w : AreTriesIn roots forks owned owners keys) where
  -- there is none past the roots
  pub none_past : (dir : ℕ) → length roots ≤ dir → w.shape dir ≡ None
  none_past dir far = at (w.shape dir) refl
    where
      at : (o : Option Trie) → w.shape dir ≡ o → w.shape dir ≡ None
      at None is = is
      at (Some t) is =
          let n = some_leaf t in
          let lt = w.below n.0 dir (name_in keys n.0) ((w.tries dir t is).leaves n.0 n.1) in
          absurd (omega arith)

  -- no fork is one of two of them
  pub forks_apart : (d e g : ℕ) (t u : Trie) → w.shape d ≡ Some t → w.shape e ≡ Some u → HasFork g t → HasFork g u → d ≡ e
  forks_apart d e g t u t_is u_is here there =
      let one = (w.tries d t t_is).forks g here in
      let other = (w.tries e u u_is).forks g there in
      let same : one.number ≡ other.number = some_same one.number other.number (sym one.owner ∙ other.owner) in
      key_same d e (name_in keys one.number) (name_in keys other.number)
      (sym ((w.tries d t t_is).leaves one.number one.there) ∙ ap keys same ∙ (w.tries e u u_is).leaves other.number other.there)

  -- a number without a name is in none, and nor is its fork
  pub not_there : (k d : ℕ) (t : Trie) → keys k ≡ None → w.shape d ≡ Some t → HasLeaf k t → ⊥
  not_there k d t free is here = none_not (keys k) (d, name_in keys k) free ((w.tries d t is).leaves k here)

  -- the place of a number without a name is no fork of a trie
  pub not_forked : (k f d : ℕ) (t : Trie) → keys k ≡ None → slice_get owned k ≡ Some f → w.shape d ≡ Some t → HasFork f t → ⊥
  not_forked k f d t free owns is here =
      let o = (w.tries d t is).forks f here in
      let same : o.number ≡ k = some_same o.number k (sym o.owner ∙ w.paired.pair k f owns) in
      not_there k d t free is (subst (λ (i : ℕ). HasLeaf i t) same o.there)

  -- ---- more room

  -- one directory more, without a root, keeps the tries
  pub dir_more : AreTriesIn (roots ++ None ∷ []) forks owned owners keys
  dir_more = record {
    shape = w.shape;
    rooted = λ dir root is. elim (push_cases roots None dir root is) [
      | inl old ↦ w.rooted dir root old
      | inr new ↦ subst (λ (o : Option Trie). IsRoot forks root o) (sym (none_past dir (omega (arith, new.0)))) (sym new.1)
    ];
    tries = w.tries;
    every = w.every;
    below = λ n dir name is. omega (arith, w.below n dir name is, length-append roots (None ∷ []));
    within = w.within;
    bytes = w.bytes;
    paired = w.paired;
  }

  -- room for more forks keeps the tries
  pub room_more : (next : List Fork) (next_owners : List ℕ)
      → ((g : ℕ) (k : Fork) → slice_get forks g ≡ Some k → slice_get next g ≡ Some k) → length forks ≤ length next
      → ((g m : ℕ) → (g ≡ length owned → ⊥) → slice_get owners g ≡ Some m → slice_get next_owners g ≡ Some m) → length owners ≤ length next_owners
      → AreTriesIn roots next owned next_owners keys
  room_more next next_owners keep places_fit others owners_fit = record {
    shape = w.shape;
    rooted = λ dir root is. root_kept forks next root (w.shape dir) (λ t g k t_is has was. keep g k was) (w.rooted dir root is);
    tries = λ dir t is.
        let old = w.tries dir t is in
        record {
          rises = old.rises;
          once = old.once;
          parts = old.parts;
          leaves = old.leaves;
          forks = λ g has.
              let o = old.forks g has in
              let lt = w.paired.below o.number g o.owns in
              record { number = o.number; owner = others g o.number (λ e. omega (arith, e, lt)) o.owner; owns = o.owns; there = o.there };
        };
    every = w.every;
    below = w.below;
    within = w.within;
    bytes = w.bytes;
    paired = record {
      pair = λ n f is. let lt = w.paired.below n f is in others f n (λ e. omega (arith, e, lt)) (w.paired.pair n f is);
      below = w.paired.below;
      owners_fit = omega (arith, owners_fit, w.paired.owners_fit);
      places_fit = omega (arith, places_fit, w.paired.places_fit);
    };
  }

  -- one number more, without a name, keeps the tries
  pub number_more : length owned < length forks → slice_get owners (length owned) ≡ Some (length owned)
      → AreTriesIn roots forks (owned ++ length owned ∷ []) owners keys
  number_more places_fit here = record {
    shape = w.shape;
    rooted = w.rooted;
    tries = λ dir t is.
        let old = w.tries dir t is in
        record {
          rises = old.rises;
          once = old.once;
          parts = old.parts;
          leaves = old.leaves;
          forks = λ g has.
              let o = old.forks g has in
              record { number = o.number; owner = o.owner; owns = push_other owned (length owned) o.number g o.owns; there = o.there };
        };
    every = w.every;
    below = w.below;
    within = λ n dir name is. omega (arith, w.within n dir name is, long);
    bytes = w.bytes;
    paired = record {
      pair = λ n f is. elim (push_cases owned (length owned) n f is) [
        | inl old ↦ w.paired.pair n f old
        | inr new ↦ ap (slice_get owners) (sym new.1) ∙ here ∙ ap (λ i. Some i) (sym new.0)
      ];
      below = λ n f is. elim (push_cases owned (length owned) n f is) [
        | inl old ↦ omega (arith, w.paired.below n f old, long)
        | inr new ↦ omega (arith, new.1, long)
      ];
      owners_fit = omega (arith, slice_get_within owners (length owned) (length owned) here, long);
      places_fit = omega (arith, places_fit, long);
    };
  }
    where
      long : length (owned ++ length owned ∷ []) ≡ length owned + 1
      long = length-append owned (length owned ∷ [])

-- ---- one directory has another trie

-- what a change of one directory's trie leaves of roots, forks, places and keys
pub record IsChanged (roots next_roots : List (Option Branch)) (forks next : List Fork) (owned next_owned owners next_owners : List ℕ)
    (before after : Keys) (dir k : ℕ) (w : AreTriesIn roots forks owned owners before) (o : Option Trie) : Type 0 where
  pub root_here : (r : Option Branch) → slice_get next_roots dir ≡ Some r → IsRoot next r o
  pub trie_here : (t : Trie) → o ≡ Some t → IsTrieOf next_owned next_owners after dir t
  pub every_here : (n : ℕ) (name : Name) → after n ≡ Some (dir, name) → (t : Trie) × (o ≡ Some t) × HasLeaf n t
  pub roots_other : (d : ℕ) → d ≢ dir → slice_get next_roots d ≡ slice_get roots d
  pub roots_long : length next_roots ≡ length roots
  pub keep : (d g : ℕ) (t : Trie) (h : Fork) → d ≢ dir → w.shape d ≡ Some t → HasFork g t → slice_get forks g ≡ Some h → slice_get next g ≡ Some h
  pub own : (d g : ℕ) (t : Trie) → d ≢ dir → w.shape d ≡ Some t → HasFork g t → IsOwned next_owned next_owners t g
  pub keys_other : (n : ℕ) → (n ≡ k → ⊥) → after n ≡ before n
  pub keys_here : (d : ℕ) (name : Name) → after k ≡ Some (d, name) → d ≡ dir
  pub was_here : (d : ℕ) (name : Name) → before k ≡ Some (d, name) → d ≡ dir
  pub below_here : dir < length roots
  pub within_here : (d : ℕ) (name : Name) → after k ≡ Some (d, name) → k < length owned
  pub bytes_here : (d : ℕ) (name : Name) → after k ≡ Some (d, name) → AreBytes name
  pub owned_long : length next_owned ≡ length owned
  pub paired : ArePaired next_owned next_owners (length next)

module _ (roots next_roots : List (Option Branch)) (forks next : List Fork) (owned next_owned owners next_owners : List ℕ)
    (before after : Keys) (dir k : ℕ) (w : AreTriesIn roots forks owned owners before) (o : Option Trie)
    (c : IsChanged roots next_roots forks next owned next_owned owners next_owners before after dir k w o) where
  abbrev shape_at : (d : ℕ) → (d ≡ dir) ⊎ (d ≡ dir → ⊥) → Option Trie
  shape_at d (inl same) = o
  shape_at d (inr other) = w.shape d

  not_k : (d n : ℕ) (t : Trie) → d ≢ dir → w.shape d ≡ Some t → HasLeaf n t → n ≢ k
  not_k d n t apart is here same = apart (c.was_here d (name_in before n) (sym (ap before same) ∙ (w.tries d t is).leaves n here))

  root_at : (d : ℕ) (s : (d ≡ dir) ⊎ (d ≡ dir → ⊥)) (r : Option Branch) → slice_get next_roots d ≡ Some r → IsRoot next r (shape_at d s)
  root_at d (inl same) r is = c.root_here r (sym (ap (slice_get next_roots) same) ∙ is)
  root_at d (inr other) r is = root_kept forks next r (w.shape d) (λ t g h t_is here was. c.keep d g t h other t_is here was)
      (w.rooted d r (sym (c.roots_other d other) ∙ is))

  trie_at : (d : ℕ) (s : (d ≡ dir) ⊎ (d ≡ dir → ⊥)) (t : Trie) → shape_at d s ≡ Some t → IsTrieOf next_owned next_owners after d t
  trie_at d (inl same) t is = subst (λ (i : ℕ). IsTrieOf next_owned next_owners after i t) (sym same) (c.trie_here t is)
  trie_at d (inr other) t is =
      let old = w.tries d t is in
      let same : (n : ℕ) → HasLeaf n t → after n ≡ before n = λ n here. c.keys_other n (not_k d n t other is here) in
      record {
        rises = old.rises;
        once = old.once;
        parts = parts_same (name_in before) (name_in after) t (λ n here. ap name_of (same n here)) old.parts;
        leaves = λ n here. same n here ∙ old.leaves n here ∙ ap (λ (x : Name). Some (d, x)) (sym (ap name_of (same n here)));
        forks = λ g here. c.own d g t other is here;
      }

  every_at : (d : ℕ) (s : (d ≡ dir) ⊎ (d ≡ dir → ⊥)) (n : ℕ) (name : Name) → after n ≡ Some (d, name)
      → (t : Trie) × (shape_at d s ≡ Some t) × HasLeaf n t
  every_at d (inl same) n name is = c.every_here n name (is ∙ ap (λ (i : ℕ). Some (i, name)) same)
  every_at d (inr other) n name is =
      w.every n d name (sym (c.keys_other n (λ same. other (c.keys_here d name (sym (ap after same) ∙ is)))) ∙ is)

  -- tries that are changed in one directory alone are tries of the new keys
  pub changed : AreTriesIn next_roots next next_owned next_owners after
  changed = record {
    shape = λ d. shape_at d (cases_eq d dir);
    rooted = λ d. root_at d (cases_eq d dir);
    tries = λ d. trie_at d (cases_eq d dir);
    every = λ n d. every_at d (cases_eq d dir) n;
    below = λ n d name is. elim (cases_eq n k) [
      | inl same ↦ omega (arith, c.roots_long, c.below_here, c.keys_here d name (sym (ap after same) ∙ is))
      | inr other ↦ omega (arith, c.roots_long, w.below n d name (sym (c.keys_other n other) ∙ is))
    ];
    within = λ n d name is. elim (cases_eq n k) [
      | inl same ↦ omega (arith, c.owned_long, c.within_here d name (sym (ap after same) ∙ is), same)
      | inr other ↦ omega (arith, c.owned_long, w.within n d name (sym (c.keys_other n other) ∙ is))
    ];
    bytes = λ n d name is. elim (cases_eq n k) [
      | inl same ↦ c.bytes_here d name (sym (ap after same) ∙ is)
      | inr other ↦ w.bytes n d name (sym (c.keys_other n other) ∙ is)
    ];
    paired = c.paired;
  }

-- ---- the first name of a directory

module _ (roots : List (Option Branch)) (forks : List Fork) (owned owners : List ℕ) (before after : Keys) (dir k : ℕ) (x : Name)
    (w : AreTriesIn roots forks owned owners before) (none : w.shape dir ≡ None) (free : before k ≡ None) (within : k < length owned)
    (below : dir < length roots) (bytes : AreBytes x) (now : IsKeyed before after k (Some (dir, x))) where
  first_change : IsChanged roots (set roots dir (Some (branch.Leaf k))) forks forks owned owned owners owners before after dir k w (Some (leaf k))
  first_change = record {
    root_here = λ r is. (branch.Leaf k, some_same r (Some (branch.Leaf k)) (sym is ∙ set_here roots dir (Some (branch.Leaf k)) below), refl);
    trie_here = λ t is. subst (λ (u : Trie). IsTrieOf owned owners after dir u) (some_same (leaf k) t is) (record {
      rises = tt;
      once = tt;
      parts = tt;
      leaves = λ n here. ap after here ∙ now.here ∙ ap (λ (y : Name). Some (dir, y)) (sym (ap name_of (ap after here ∙ now.here)));
      forks = λ g no_fork. elim no_fork [ ];
    });
    every_here = λ n name is. (leaf k, refl, every n name is (cases_eq n k));
    roots_other = λ d apart. set_other roots dir d (Some (branch.Leaf k)) apart;
    roots_long = length-set roots dir (Some (branch.Leaf k));
    keep = λ d g t h apart is here was. was;
    own = λ d g t apart is here. (w.tries d t is).forks g here;
    keys_other = now.others;
    keys_here = λ d name is. key_same d dir name x (sym is ∙ now.here);
    was_here = λ d name is. absurd (none_not (before k) (d, name) free is);
    below_here = below;
    within_here = λ d name is. within;
    bytes_here = λ d name is. subst (λ (y : Name). AreBytes y) (name_same dir d x name (sym now.here ∙ is)) bytes;
    owned_long = refl;
    paired = w.paired;
  }
    where
      every : (n : ℕ) (name : Name) → after n ≡ Some (dir, name) → (n ≡ k) ⊎ (n ≡ k → ⊥) → n ≡ k
      every n name is (inl same) = same
      every n name is (inr other) =
          let was = w.every n dir name (sym (now.others n other) ∙ is) in
          absurd (none_not (w.shape dir) was.0 none was.1)

  -- the first name of a directory hangs from its root
  pub put_first : AreTriesIn (set roots dir (Some (branch.Leaf k))) forks owned owners after
  put_first = changed roots (set roots dir (Some (branch.Leaf k))) forks forks owned owned owners owners before after dir k w (Some (leaf k)) first_change

-- ---- a side is linked to another part

last_some : (step : Step) (steps : List Step) → (s : Side) × (last_side (side_of step) steps ≡ Some s)
last_some (Step.on_zero b w f r) [] = (side f false, refl)
last_some (Step.on_one b w f l) [] = (side f true, refl)
last_some step (next ∷ steps) = last_some next steps

module _ (roots next_roots : List (Option Branch)) (mid next : List Fork) (dir : ℕ) (o : Option Side) (at : Branch)
    (linked : IsLinked roots next_roots mid next dir o at) (s : Trie) where
  -- a fork that isn't on the way stays
  pub linked_far : (steps : List Step) → o ≡ last_side None steps → (g : ℕ) (h : Fork) → (HasFork g (whole_of steps s) → ⊥)
      → slice_get mid g ≡ Some h → slice_get next g ≡ Some h
  linked_far [] is g h none was = ap (λ l. slice_get l g) (linked.root is).1 ∙ was
  linked_far (step ∷ steps) is g h none was =
      let last = last_some step steps in
      (linked.fork last.0 (is ∙ last.1)).1.others g
      (λ same. none (subst (λ (i : ℕ). HasFork i (whole_of (step ∷ steps) s)) (sym same) (side_in step steps s last.0.fork last.0.one last.1))) ∙ was

  -- and so does one of the part
  pub linked_near : (steps : List Step) → o ≡ last_side None steps → AreOnce (whole_of steps s) → (g : ℕ) (h : Fork) → HasFork g s
      → slice_get mid g ≡ Some h → slice_get next g ≡ Some h
  linked_near [] is once g h here was = ap (λ l. slice_get l g) (linked.root is).1 ∙ was
  linked_near (step ∷ steps) is once g h here was =
      let last = last_some step steps in
      (linked.fork last.0 (is ∙ last.1)).1.others g
      (λ same. side_out step steps s last.0.fork last.0.one last.1 once (subst (λ (i : ℕ). HasFork i s) same here)) ∙ was

  -- the root leads to the whole with the other part
  pub linked_root : (steps : List Step) → o ≡ last_side None steps → AreOnce (whole_of steps s) → (part : Trie) → Shows next at part
      → dir < length roots → ((r : Option Branch) → slice_get roots dir ≡ Some r → IsRoot mid r (Some (whole_of steps s)))
      → (r : Option Branch) → slice_get next_roots dir ≡ Some r → IsRoot next r (Some (whole_of steps part))
  linked_root [] is once part shown below was r r_is =
      (at, some_same r (Some at) (sym r_is ∙ ap (λ l. slice_get l dir) (linked.root is).0 ∙ set_here roots dir (Some at) below), shown)
  linked_root (step ∷ steps) is once part shown below was r r_is =
      let last = last_some step steps in
      let link = linked.fork last.0 (is ∙ last.1) in
      let root = was r (ap (λ l. slice_get l dir) (sym link.0) ∙ r_is) in
      (root.0, root.1, shows_set mid next last.0.fork last.0.one at link.1 s part shown step steps root.0 last.1 once root.2)

  -- a link that is set in one directory leaves the roots of the others
  pub linked_others : (steps : List Step) → o ≡ last_side None steps → (d : ℕ) → d ≢ dir → slice_get next_roots d ≡ slice_get roots d
  linked_others [] is d apart = ap (λ l. slice_get l d) (linked.root is).0 ∙ set_other roots dir d (Some at) apart
  linked_others (step ∷ steps) is d apart = let last = last_some step steps in ap (λ l. slice_get l d) (linked.fork last.0 (is ∙ last.1)).0

  -- a link that is set leaves as many roots and forks
  pub linked_long : (steps : List Step) → o ≡ last_side None steps → (length next_roots ≡ length roots) × (length next ≡ length mid)
  linked_long [] is = (ap length (linked.root is).0 ∙ length-set roots dir (Some at), ap length (linked.root is).1)
  linked_long (step ∷ steps) is =
      let last = last_some step steps in
      let link = linked.fork last.0 (is ∙ last.1) in
      (ap length link.0, link.1.long)
