-- What calls on tries may do, and what they read.
use Rattle.std.proofs.Common.{get_or, Option, ◌≡◌, ℕ, ◌<◌, List, [], ◌∷◌, length, Some, None, slice_get, sym, ap, ◌∙◌, refl, subst, arith, inl, inr}
use Rattle.std.proofs.lemmas.Option.{slice_get_within}
use Rattle.name_tries.specs.Bits.{Name, bit_of}
use Rattle.name_tries.specs.Tries.{Trie, leaf, inner, HasLeaf, HasFork, Shows, IsAt, nearest_in}
use Rattle.name_tries.specs.Ways.{Step, whole_of, side, last_side, first_at, IsTowards, IsWayToLast}
use Rattle.name_tries.specs.Keys.{Keys, name_of, name_in, IsRoot, AreTries, CanPut, CanCut, CanHandOver}
use Rattle.name_tries.specs.declared.forks.Branch.{Branch}
use Rattle.name_tries.specs.declared.forks.Branch.TheVariants as branch
use Rattle.name_tries.specs.declared.forks.Fork.{Fork}
use Rattle.name_tries.specs.declared.forks.Near.{Near}
use Rattle.name_tries.specs.declared.forks.Last.{Last}
use Rattle.name_tries.specs.declared.forks.Side.{Side}
use Rattle.name_tries.specs.declared.forks.Way.{Way}
use Rattle.name_tries.specs.declared.tries.Tries.{Tries}
use Rattle.name_tries.proofs.ItemLemmas.{some_same, none_not, read_at}
use Rattle.name_tries.proofs.LoopLemmas.{way_ends}
use Rattle.name_tries.proofs.TrieLemmas.{some_leaf, nearest_has, nearest_is}
use Rattle.name_tries.proofs.WayLemmas.{fork_in, side_in}

-- a fork of a trie is there
pub fork_at : (forks : List Fork) (t : Trie) (at : Branch) (g : ℕ) → Shows forks at t → HasFork g t → g < length forks
fork_at forks (leaf m) at g shown none = elim none [ ]
fork_at forks (inner b w f l r) at g shown (inl self) =
    slice_get_within forks g shown.1 (ap (slice_get forks) self ∙ shown.2)
fork_at forks (inner b w f l r) at g shown (inr (inl here)) = fork_at forks l shown.1.zero g shown.5 here
fork_at forks (inner b w f l r) at g shown (inr (inr here)) = fork_at forks r shown.1.one g shown.6 here

-- so is that of the side which was taken last
pub side_within : (forks : List Fork) (at : Branch) (o : Option Side) (steps : List Step) (s : Trie) → Shows forks at (whole_of steps s)
    → o ≡ last_side None steps → (side : Side) → o ≡ Some side → side.fork < length forks
side_within forks at o [] s shown is side some = absurd (none_not o side is some)
side_within forks at o (step ∷ steps) s shown is side some =
    fork_at forks (whole_of (step ∷ steps) s) at side.fork shown (side_in step steps s side.fork side.one (sym is ∙ some))

-- the root that leads to a fork
pub first_is : (root : Option Branch) (f : ℕ) → first_at root ≡ Some f → root ≡ Some (branch.Inner f)
first_is None f is = let wrong : None ≡ Some f = is in cc
first_is (Some (branch.Leaf m)) f is = let wrong : None ≡ Some f = is in cc
first_is (Some (branch.Inner g)) f is = ap (λ i. Some (branch.Inner i)) (some_same g f is)

-- a root leads to a trie, where there is one
module _ (tries : Tries) (keys : Keys) (w : AreTries tries keys) (dir : ℕ) where
  -- a directory with a trie has a root from which that trie hangs
  pub root_is : (t : Trie) (root : Option Branch) → w.shape dir ≡ Some t → slice_get tries.roots.items dir ≡ Some root
      → (at : Branch) × (root ≡ Some at) × IsAt tries.forks.items at t
  root_is t root is there =
      let r : IsRoot tries.forks.items root (Some t) = subst (λ (o : Option Trie). IsRoot tries.forks.items root o) is (w.rooted dir root there) in
      (r.0, r.1, ((w.tries dir t is).rises, r.2))

  pub root_at : (t : Trie) (at : Branch) → w.shape dir ≡ Some t → slice_get tries.roots.items dir ≡ Some (Some at) → IsAt tries.forks.items at t
  root_at t at is there =
      let r = root_is t (Some at) is there in
      subst (λ (b : Branch). IsAt tries.forks.items b t) (sym (some_same at r.0 r.1)) r.2

  -- a directory with a root has a trie that hangs from it
  pub trie_at : (at : Branch) → slice_get tries.roots.items dir ≡ Some (Some at) → (t : Trie) × (w.shape dir ≡ Some t) × IsAt tries.forks.items at t
  trie_at at there = by (w.shape dir) refl
    where
      by : (o : Option Trie) → w.shape dir ≡ o → (t : Trie) × (w.shape dir ≡ Some t) × IsAt tries.forks.items at t
      by None is =
          let wrong : Some at ≡ None = subst (λ (o : Option Trie). IsRoot tries.forks.items (Some at) o) is (w.rooted dir (Some at) there) in
          absurd (none_not None at refl (sym wrong))
      by (Some t) is = (t, is, root_at t at is there)

  -- a directory without a root has no trie
  pub no_trie : slice_get tries.roots.items dir ≡ Some None → w.shape dir ≡ None
  no_trie there = by (w.shape dir) refl
    where
      by : (o : Option Trie) → w.shape dir ≡ o → w.shape dir ≡ None
      by None is = is
      by (Some t) is = let r = root_is t None is there in absurd (none_not None r.0 refl r.1)

  -- a directory with a trie is one of those that there are
  pub dir_within : (t : Trie) → w.shape dir ≡ Some t → dir < length tries.roots.items
  dir_within t is = let n = some_leaf t in w.below n.0 dir (name_in keys n.0) ((w.tries dir t is).leaves n.0 n.1)

  -- the nearest one has a name in the directory, and is the one with the name
  pub nearest_found : (t : Trie) (x : Name) → w.shape dir ≡ Some t → (other : Name) × (keys (nearest_in x t) ≡ Some (dir, other))
  nearest_found t x is = (name_in keys (nearest_in x t), (w.tries dir t is).leaves (nearest_in x t) (nearest_has x t))

  -- a number with a name in the directory is the nearest one to that name
  pub nearest_only : (t : Trie) (x : Name) (n : ℕ) → w.shape dir ≡ Some t → keys n ≡ Some (dir, x) → nearest_in x t ≡ n
  nearest_only t x n is there =
      let was = w.every n dir x there in
      let here : HasLeaf n t = subst (λ (u : Trie). HasLeaf n u) (some_same was.0 t (sym was.1 ∙ is)) was.2 in
      ap (λ (y : Name). nearest_in y t) (sym (ap name_of there)) ∙ nearest_is (name_in keys) t n (w.tries dir t is).parts here

-- ---- the root that a call reads

-- a root that is read is the directory's
pub root_read : (tries : Tries) (dir : ℕ) (r : Option Branch) (root : Branch) → dir < length tries.roots.items → r ≡ get_or tries.roots.items dir r
    → r ≡ Some root → slice_get tries.roots.items dir ≡ Some (Some root)
root_read tries dir r root below read some = read_at tries.roots.items dir r below read ∙ ap (λ (o : Option Branch). Some o) some

-- it leads to the trie into which a number is put
pub put_root : (tries : Tries) (keys : Keys) (dir n : ℕ) (x : Name) (near : Near) (other : Name) (can : CanPut tries keys dir n x near other)
    (r : Option Branch) (root : Branch)
    → r ≡ get_or tries.roots.items dir r → r ≡ Some root → IsAt tries.forks.items root can.trie
put_root tries keys dir n x near other can r root read some = root_at tries keys can.are dir can.trie root can.shape
    (root_read tries dir r root (dir_within tries keys can.are dir can.trie can.shape) read some)

-- and the name can be followed from there, as the call reads the forks
pub put_way : (tries : Tries) (keys : Keys) (dir n : ℕ) (x : Name) (near : Near) (other : Name) (can : CanPut tries keys dir n x near other)
    (r : Option Branch) (root : Branch) (forks : List Fork) → r ≡ get_or tries.roots.items dir r → r ≡ Some root → forks ≡ tries.forks.items
    → IsAt forks root can.trie × IsTowards forks near.from x can.trie
put_way tries keys dir n x near other can r root forks read some same = (
  subst (λ (l : List Fork). IsAt l root can.trie) (sym same) (put_root tries keys dir n x near other can r root read some),
  subst (λ (l : List Fork). IsTowards l near.from x can.trie) (sym same) can.from,
)

-- ---- the way to a number that is cut

pub record IsCutWay (tries : Tries) (keys : Keys) (w : AreTries tries keys) (dir : ℕ) (x : Name) (last : Last) (root : ℕ)
    : Type 0 where
  pub trie : Trie
  pub shape : w.shape dir ≡ Some trie
  pub to : IsWayToLast tries.forks.items trie x last
  pub shown : Shows tries.forks.items (branch.Inner root) trie

cut_way : (tries : Tries) (keys : Keys) (w : AreTries tries keys) (dir : ℕ) (x : Name) (last : Last) (root : ℕ)
    (forks : List Fork) → forks ≡ tries.forks.items → slice_get tries.roots.items dir ≡ Some (Some (branch.Inner root))
    → ((t : Trie) → IsAt forks (branch.Inner root) t → IsWayToLast forks t x last) → IsCutWay tries keys w dir x last root
cut_way tries keys w dir x last root forks same there to =
    let t = trie_at tries keys w dir (branch.Inner root) there in
    record {
      trie = t.0;
      shape = t.1;
      to = subst (λ (l : List Fork). IsWayToLast l t.0 x last) same
          (to t.0 (subst (λ (l : List Fork). IsAt l (branch.Inner root) t.0) (sym same) t.2));
      shown = t.2.1;
    }

-- the same, from what is read
pub found_way : (tries : Tries) (keys : Keys) (dir n : ℕ) (x : Name) (can : CanCut tries keys dir n x) (o : Option Branch) (root : ℕ) (forks : List Fork)
    (last : Last) → o ≡ get_or tries.roots.items dir o → first_at o ≡ Some root → forks ≡ tries.forks.items
    → ((t : Trie) → IsAt forks (branch.Inner root) t → IsWayToLast forks t x last) → IsCutWay tries keys can.are dir x last root
found_way tries keys dir n x can o root forks last read first same to =
    cut_way tries keys can.are dir x last root forks same
    (root_read tries dir o (branch.Inner root) (can.are.below n dir x can.there) read (first_is o root first)) to

module _ {tries : Tries} {keys : Keys} {w : AreTries tries keys} {dir : ℕ} {x : Name} {last : Last} {root : ℕ}
    (c : IsCutWay tries keys w dir x last root) where
  -- the side that was taken last
  pub last_is : (s : Side) → last.side ≡ Some s → s ≡ side c.to.place (bit_of x c.to.byte c.to.within)
  last_is s is = some_same s (side c.to.place (bit_of x c.to.byte c.to.within)) (sym is ∙ ap (λ (v : Way). v.side) c.to.ends)

  -- the way to a number that loses its name ends with a side of a fork
  pub some_last : last.side ≡ None → ⊥
  some_last none = none_not last.side (side c.to.place (bit_of x c.to.byte c.to.within)) none (ap (λ (v : Way). v.side) c.to.ends)

  -- the fork to which a number's way leads has its place among the forks
  pub place_at : c.to.place < length tries.forks.items
  place_at = slice_get_within tries.forks.items c.to.place c.to.fork c.to.there

  -- the fork above the last one of such a way has its place among the forks
  pub above_within : (s : Side) → last.above ≡ Some s → s.fork < length tries.forks.items
  above_within s is = side_within tries.forks.items (branch.Inner root) last.above c.to.steps
      (inner c.to.byte c.to.within c.to.place c.to.zero c.to.one)
      (subst (λ (u : Trie). Shows tries.forks.items (branch.Inner root) u) c.to.is c.shown) c.to.side s is

  -- a number that loses its name can hand over its place for that of the last fork
  pub can_hand_over : (n : ℕ) → keys n ≡ Some (dir, x) → CanHandOver tries.owned.items tries.owners.items n c.to.place
  can_hand_over n there =
      let here : HasFork c.to.place c.trie = subst (λ (u : Trie). HasFork c.to.place u) (sym c.to.is)
      (fork_in c.to.steps (inner c.to.byte c.to.within c.to.place c.to.zero c.to.one) c.to.place (inl refl)) in
      let o = (w.tries dir c.trie c.shape).forks c.to.place here in
      record {
        number = w.within n dir x there;
        place = slice_get_within tries.owners.items c.to.place o.number o.owner;
        spare = λ s is. omega (arith, w.paired.below n s is, w.paired.owners_fit);
        owner = λ m is. slice_get_within tries.owned.items m c.to.place
            (ap (slice_get tries.owned.items) (some_same m o.number (sym is ∙ o.owner)) ∙ o.owns);
      }

-- a number to which the bits of a name lead is the nearest one
pub led_to : (tries : Tries) (keys : Keys) (w : AreTries tries keys) (dir : ℕ) (x : Name) (root at : Branch) (forks : List Fork) (n : ℕ)
    → slice_get tries.roots.items dir ≡ Some (Some root) → forks ≡ tries.forks.items
    → ((t : Trie) → IsAt forks root t → IsTowards forks at x t) → at ≡ branch.Leaf n
    → (t : Trie) × (w.shape dir ≡ Some t) × (n ≡ nearest_in x t)
led_to tries keys w dir x root at forks n there same to leaf_is =
    let t = trie_at tries keys w dir root there in
    (t.0, t.1, way_ends forks at x t.0 n (to t.0 (subst (λ (l : List Fork). IsAt l root t.0) (sym same) t.2)) leaf_is)
