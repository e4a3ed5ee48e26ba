-- Ways through a trie, and what becomes of the whole as its part at the end is changed.
use Rattle.std.proofs.Common.{if◌then◌else◌, Option, ◌≡◌, ◌⊎◌, ℕ, ◌<◌, ◌≤◌, Bool, true, false, List, [], ◌∷◌, ◌++◌, Some, slice_get, sym, ap, ◌∙◌, refl, subst, arith, inl, inr, ⊎_elim}
use Rattle.name_tries.specs.Bits.{Name, level, AreAlike}
use Rattle.name_tries.specs.Tries.{Trie, inner, HasLeaf, HasFork, AreOnce, IsAbove, Rises, Parts, nearest_in, Shows}
use Rattle.name_tries.specs.Ways.{Step, on_zero, on_one, whole_of, side, side_of, last_side, IsTaken, AreTaken, with_branch}
use Rattle.name_tries.specs.Keys.{IsSet}
use Rattle.name_tries.specs.declared.forks.Branch.{Branch}
use Rattle.name_tries.specs.declared.forks.Fork.{Fork}
use Rattle.name_tries.specs.declared.forks.Side.{Side}
use Rattle.name_tries.proofs.ItemLemmas.{some_same}
use Rattle.name_tries.proofs.BitLemmas.{alike_back, alike_on, alike_below}
use Rattle.name_tries.proofs.TrieLemmas.{some_leaf, shows_kept}

-- ---- one step more

-- more steps lead from the whole through the part
pub whole_more : (steps more : List Step) (s : Trie) → whole_of (steps ++ more) s ≡ whole_of steps (whole_of more s)
whole_more [] more s = refl
whole_more (on_zero b w f r ∷ steps) more s = ap (λ t. inner b w f t r) (whole_more steps more s)
whole_more (on_one b w f l ∷ steps) more s = ap (λ t. inner b w f l t) (whole_more steps more s)

-- the last side is that of the last step
pub side_more : (before : Option Side) (steps : List Step) (step : Step) → last_side before (steps ++ step ∷ []) ≡ side_of step
side_more before [] step = refl
side_more before (first ∷ steps) step = side_more (side_of first) steps step

taken_on : (x : Name) (p q : ℕ) (step : Step) → p ≤ q → IsTaken x p step → IsTaken x q step
taken_on x p q (on_zero b w f r) le is = (is.0, is.1, omega (arith, is.2))
taken_on x p q (on_one b w f l) le is = (is.0, is.1, omega (arith, is.2))

-- up to a later level
pub taken_far : (x : Name) (p q : ℕ) (steps : List Step) → p ≤ q → AreTaken x p steps → AreTaken x q steps
taken_far x p q [] le are = tt
taken_far x p q (step ∷ steps) le are = (taken_on x p q step le are.0, taken_far x p q steps le are.1)

-- one step more is one that the name's bits take
pub taken_more : (x : Name) (p : ℕ) (steps : List Step) (step : Step) → AreTaken x p steps → IsTaken x p step → AreTaken x p (steps ++ step ∷ [])
taken_more x p [] step are is = (is, tt)
taken_more x p (first ∷ steps) step are is = (are.0, taken_more x p steps step are.1 is)

-- ---- what the whole has

-- a number of the part is one of the whole
pub leaf_in : (steps : List Step) (s : Trie) (n : ℕ) → HasLeaf n s → HasLeaf n (whole_of steps s)
leaf_in [] s n here = here
leaf_in (on_zero b w f r ∷ steps) s n here = inl (leaf_in steps s n here)
leaf_in (on_one b w f l ∷ steps) s n here = inr (leaf_in steps s n here)

-- a fork of the part is one of the whole
pub fork_in : (steps : List Step) (s : Trie) (g : ℕ) → HasFork g s → HasFork g (whole_of steps s)
fork_in [] s g here = here
fork_in (on_zero b w f r ∷ steps) s g here = inr (inl (fork_in steps s g here))
fork_in (on_one b w f l ∷ steps) s g here = inr (inr (fork_in steps s g here))

-- what the part has besides, the whole has besides
module _ (P : ℕ → Type 0) (s next : Trie) where
  -- each number of the changed whole is new or was one of the old whole
  pub leaf_map : (steps : List Step) → ((n : ℕ) → HasLeaf n next → P n ⊎ HasLeaf n s)
      → (n : ℕ) → HasLeaf n (whole_of steps next) → P n ⊎ HasLeaf n (whole_of steps s)
  leaf_map [] to n here = to n here
  leaf_map (on_zero b w f r ∷ steps) to n (inl here) = ⊎_elim (λ new. inl new) (λ old. inr (inl old)) (leaf_map steps to n here)
  leaf_map (on_zero b w f r ∷ steps) to n (inr there) = inr (inr there)
  leaf_map (on_one b w f l ∷ steps) to n (inl there) = inr (inl there)
  leaf_map (on_one b w f l ∷ steps) to n (inr here) = ⊎_elim (λ new. inl new) (λ old. inr (inr old)) (leaf_map steps to n here)

  -- each fork of the changed whole is new or was one of the old whole
  pub fork_map : (steps : List Step) → ((g : ℕ) → HasFork g next → P g ⊎ HasFork g s)
      → (g : ℕ) → HasFork g (whole_of steps next) → P g ⊎ HasFork g (whole_of steps s)
  fork_map [] to g here = to g here
  fork_map (on_zero b w f r ∷ steps) to g (inl self) = inr (inl self)
  fork_map (on_zero b w f r ∷ steps) to g (inr (inl here)) = ⊎_elim (λ new. inl new) (λ old. inr (inr (inl old))) (fork_map steps to g here)
  fork_map (on_zero b w f r ∷ steps) to g (inr (inr there)) = inr (inr (inr there))
  fork_map (on_one b w f l ∷ steps) to g (inl self) = inr (inl self)
  fork_map (on_one b w f l ∷ steps) to g (inr (inl there)) = inr (inr (inl there))
  fork_map (on_one b w f l ∷ steps) to g (inr (inr here)) = ⊎_elim (λ new. inl new) (λ old. inr (inr (inr old))) (fork_map steps to g here)

  -- each place is still that of one fork
  pub once_map : (steps : List Step) → ((g : ℕ) → HasFork g next → P g ⊎ HasFork g s)
      → ((g : ℕ) → P g → HasFork g (whole_of steps s) → ⊥) → AreOnce next → AreOnce (whole_of steps s) → AreOnce (whole_of steps next)
  once_map [] to fresh once was = once
  once_map (on_zero b w f r ∷ steps) to fresh once was = (
    λ here. ⊎_elim (λ new. fresh f new (inl refl)) (λ old. was.0 old) (fork_map steps to f here),
    was.1,
    λ g here there. ⊎_elim (λ new. fresh g new (inr (inr there))) (λ old. was.2 g old there) (fork_map steps to g here),
    once_map steps to (λ g new here. fresh g new (inr (inl here))) once was.3,
    was.4,
  )
  once_map (on_one b w f l ∷ steps) to fresh once was = (
    was.0,
    λ here. ⊎_elim (λ new. fresh f new (inl refl)) (λ old. was.1 old) (fork_map steps to f here),
    λ g there here. ⊎_elim (λ new. fresh g new (inr (inl there))) (λ old. was.2 g there old) (fork_map steps to g here),
    was.3,
    once_map steps to (λ g new here. fresh g new (inr (inr here))) once was.4,
  )

  -- the levels still rise
  module _ (x : Name) (p : ℕ) (above : (q : ℕ) → q < p → IsAbove q s → IsAbove q next) where
    above_map : (steps : List Step) (q : ℕ) → q < p → IsAbove q (whole_of steps s) → IsAbove q (whole_of steps next)
    above_map [] q lt is = above q lt is
    above_map (on_zero b w f r ∷ steps) q lt is = is
    above_map (on_one b w f l ∷ steps) q lt is = is

    -- changing the part keeps the later bits below each fork of the whole
    pub rises_map : (steps : List Step) → AreTaken x p steps → Rises next → Rises (whole_of steps s) → Rises (whole_of steps next)
    rises_map [] taken rises was = rises
    rises_map (on_zero b w f r ∷ steps) taken rises was =
        (was.0, above_map steps (level b w) taken.0.2 was.1, was.2, rises_map steps taken.1 rises was.3, was.4)
    rises_map (on_one b w f l ∷ steps) taken rises was =
        (was.0, was.1, above_map steps (level b w) taken.0.2 was.2, was.3, rises_map steps taken.1 rises was.4)

  -- the names still part
  module _ (name : ℕ → Name) (x : Name) (p : ℕ) (to : (n : ℕ) → HasLeaf n next → P n ⊎ HasLeaf n s)
      (alike : (n m : ℕ) → P n → HasLeaf m s → AreAlike p (name n) (name m)) where
    -- a number of the part is one of the whole, and has names like those of the new ones
    alike_new : (q : ℕ) (t : Trie) → q < p → ((n : ℕ) → HasLeaf n s → HasLeaf n t)
        → ((n m : ℕ) → HasLeaf n t → HasLeaf m t → AreAlike q (name n) (name m))
        → (i j : ℕ) → P i ⊎ HasLeaf i t → P j ⊎ HasLeaf j t → AreAlike q (name i) (name j)
    alike_new q t lt within was i j (inr one) (inr two) = was i j one two
    alike_new q t lt within was i j (inl one) (inr two) =
        let some = some_leaf s in
        alike_on q (name i) (name some.0) (name j) (alike_below q p (name i) (name some.0) (omega arith) (alike i some.0 one some.1))
        (was some.0 j (within some.0 some.1) two)
    alike_new q t lt within was i j (inr one) (inl two) =
        let some = some_leaf s in
        alike_on q (name i) (name some.0) (name j) (was i some.0 one (within some.0 some.1))
        (alike_back q (name j) (name some.0) (alike_below q p (name j) (name some.0) (omega arith) (alike j some.0 two some.1)))
    alike_new q t lt within was i j (inl one) (inl two) =
        let some = some_leaf s in
        alike_on q (name i) (name some.0) (name j) (alike_below q p (name i) (name some.0) (omega arith) (alike i some.0 one some.1))
        (alike_back q (name j) (name some.0) (alike_below q p (name j) (name some.0) (omega arith) (alike j some.0 two some.1)))

    -- changing the part keeps the names parted in the whole
    pub parts_map : (steps : List Step) → AreTaken x p steps → ((n : ℕ) → P n → AreTaken (name n) p steps)
        → Parts name next → Parts name (whole_of steps s) → Parts name (whole_of steps next)
    parts_map [] taken new parts was = parts
    parts_map (on_zero b w f r ∷ steps) taken new parts was = (
      λ n here. ⊎_elim (λ one. (new n one).0.0) (λ old. was.0 n old) (leaf_map steps to n here),
      was.1,
      λ i j one two. alike_new (level b w) (inner b w f (whole_of steps s) r) taken.0.2 (λ n here. inl (leaf_in steps s n here)) was.2 i j
          (leaf_map (on_zero b w f r ∷ steps) to i one) (leaf_map (on_zero b w f r ∷ steps) to j two),
      parts_map steps taken.1 (λ n one. (new n one).1) parts was.3,
      was.4,
    )
    parts_map (on_one b w f l ∷ steps) taken new parts was = (
      was.0,
      λ n here. ⊎_elim (λ one. (new n one).0.0) (λ old. was.1 n old) (leaf_map steps to n here),
      λ i j one two. alike_new (level b w) (inner b w f l (whole_of steps s)) taken.0.2 (λ n here. inr (leaf_in steps s n here)) was.2 i j
          (leaf_map (on_one b w f l ∷ steps) to i one) (leaf_map (on_one b w f l ∷ steps) to j two),
      was.3,
      parts_map steps taken.1 (λ n one. (new n one).1) parts was.4,
    )

-- ---- parts of it

rises_part : (steps : List Step) (s : Trie) → Rises (whole_of steps s) → Rises s
rises_part [] s rises = rises
rises_part (on_zero b w f r ∷ steps) s rises = rises_part steps s rises.3
rises_part (on_one b w f l ∷ steps) s rises = rises_part steps s rises.4

-- in the part too each place is that of one fork
pub once_part : (steps : List Step) (s : Trie) → AreOnce (whole_of steps s) → AreOnce s
once_part [] s once = once
once_part (on_zero b w f r ∷ steps) s once = once_part steps s once.3
once_part (on_one b w f l ∷ steps) s once = once_part steps s once.4

-- in the part too the names part by their bits
pub parts_part : (name : ℕ → Name) (steps : List Step) (s : Trie) → Parts name (whole_of steps s) → Parts name s
parts_part name [] s parts = parts
parts_part name (on_zero b w f r ∷ steps) s parts = parts_part name steps s parts.3
parts_part name (on_one b w f l ∷ steps) s parts = parts_part name steps s parts.4

-- the nearest one is in the part to which a name's way leads
pub nearest_part : (x : Name) (p : ℕ) (steps : List Step) (s : Trie) → AreTaken x p steps → nearest_in x (whole_of steps s) ≡ nearest_in x s
nearest_part x p [] s taken = refl
nearest_part x p (on_zero b w f r ∷ steps) s taken =
    ap (λ (v : Bool). if v then nearest_in x r else nearest_in x (whole_of steps s)) taken.0.0 ∙ nearest_part x p steps s taken.1
nearest_part x p (on_one b w f l ∷ steps) s taken =
    ap (λ (v : Bool). if v then nearest_in x (whole_of steps s) else nearest_in x l) taken.0.0 ∙ nearest_part x p steps s taken.1

-- a number that is in the part no more is nowhere in the whole
pub leaf_gone : (name : ℕ → Name) (p k : ℕ) (steps : List Step) (s next : Trie) → AreTaken (name k) p steps → Parts name (whole_of steps s)
    → (HasLeaf k next → ⊥) → HasLeaf k (whole_of steps next) → ⊥
leaf_gone name p k [] s next taken parts none here = none here
leaf_gone name p k (on_zero b w f r ∷ steps) s next taken parts none (inl here) = leaf_gone name p k steps s next taken.1 parts.3 none here
leaf_gone name p k (on_zero b w f r ∷ steps) s next taken parts none (inr there) = let wrong : false ≡ true = sym taken.0.0 ∙ parts.1 k there in cc
leaf_gone name p k (on_one b w f l ∷ steps) s next taken parts none (inl there) = let wrong : true ≡ false = sym taken.0.0 ∙ parts.0 k there in cc
leaf_gone name p k (on_one b w f l ∷ steps) s next taken parts none (inr here) = leaf_gone name p k steps s next taken.1 parts.4 none here

-- a fork that is in the part no more is nowhere in the whole
pub fork_gone : (g : ℕ) (steps : List Step) (s next : Trie) → AreOnce (whole_of steps s) → HasFork g s → (HasFork g next → ⊥)
    → HasFork g (whole_of steps next) → ⊥
fork_gone g [] s next once was none here = none here
fork_gone g (on_zero b w f r ∷ steps) s next once was none (inl self) =
    once.0 (subst (λ (i : ℕ). HasFork i (whole_of steps s)) self (fork_in steps s g was))
fork_gone g (on_zero b w f r ∷ steps) s next once was none (inr (inl here)) = fork_gone g steps s next once.3 was none here
fork_gone g (on_zero b w f r ∷ steps) s next once was none (inr (inr there)) = once.2 g (fork_in steps s g was) there
fork_gone g (on_one b w f l ∷ steps) s next once was none (inl self) =
    once.1 (subst (λ (i : ℕ). HasFork i (whole_of steps s)) self (fork_in steps s g was))
fork_gone g (on_one b w f l ∷ steps) s next once was none (inr (inl there)) = once.2 g there (fork_in steps s g was)
fork_gone g (on_one b w f l ∷ steps) s next once was none (inr (inr here)) = fork_gone g steps s next once.4 was none here

-- ---- where it stands

fork_is : (f g : ℕ) (u v : Bool) → ◌≡◌ {A = Option Side} (Some (side f u)) (Some (side g v)) → (g ≡ f) × (u ≡ v)
fork_is f g u v is = let same = some_same (side f u) (side g v) is in (sym (ap (λ (s : Side). s.fork) same), ap (λ (s : Side). s.one) same)

-- the last side is one of a fork on the way
pub side_in : (step : Step) (steps : List Step) (s : Trie) (f : ℕ) (one : Bool) → last_side (side_of step) steps ≡ Some (side f one)
    → HasFork f (whole_of (step ∷ steps) s)
side_in (on_zero b w g r) [] s f one is = inl (fork_is g f false one is).0
side_in (on_one b w g l) [] s f one is = inl (fork_is g f true one is).0
side_in (on_zero b w g r) (step ∷ steps) s f one is = inr (inl (side_in step steps s f one is))
side_in (on_one b w g l) (step ∷ steps) s f one is = inr (inr (side_in step steps s f one is))

-- and of none in the part
pub side_out : (step : Step) (steps : List Step) (s : Trie) (f : ℕ) (one : Bool) → last_side (side_of step) steps ≡ Some (side f one)
    → AreOnce (whole_of (step ∷ steps) s) → HasFork f s → ⊥
side_out (on_zero b w g r) [] s f one is once here = once.0 (subst (λ (i : ℕ). HasFork i s) (fork_is g f false one is).0 here)
side_out (on_one b w g l) [] s f one is once here = once.1 (subst (λ (i : ℕ). HasFork i s) (fork_is g f true one is).0 here)
side_out (on_zero b w g r) (step ∷ steps) s f one is once here = side_out step steps s f one is once.3 here
side_out (on_one b w g l) (step ∷ steps) s f one is once here = side_out step steps s f one is once.4 here

-- the branch that was set leads to the new part, all else stays
module _ (forks next : List Fork) (f : ℕ) (one : Bool) (at : Branch) (set : IsSet forks next f one at) (s part : Trie) (shown : Shows next at part) where
  set_zero : (g : ℕ) (k : Fork) → f ≡ g → false ≡ one → slice_get forks g ≡ Some k → slice_get next g ≡ Some (with_branch false at k)
  set_zero g k same side_is is =
      ap (slice_get next) (sym same) ∙ set.here k (ap (slice_get forks) same ∙ is) ∙ ap (λ v. Some (with_branch v at k)) (sym side_is)

  set_one : (g : ℕ) (k : Fork) → f ≡ g → true ≡ one → slice_get forks g ≡ Some k → slice_get next g ≡ Some (with_branch true at k)
  set_one g k same side_is is =
      ap (slice_get next) (sym same) ∙ set.here k (ap (slice_get forks) same ∙ is) ∙ ap (λ v. Some (with_branch v at k)) (sym side_is)

  -- a trie that doesn't have the fork
  kept : (t : Trie) (b : Branch) → (HasFork f t → ⊥) → Shows forks b t → Shows next b t
  kept t b none is = shows_kept forks next t b (λ g k here was. set.others g (λ same. none (subst (λ (i : ℕ). HasFork i t) same here)) ∙ was) is

  -- setting the last branch of a way changes the part that hangs there
  pub shows_set : (step : Step) (steps : List Step) (root : Branch) → last_side (side_of step) steps ≡ Some (side f one)
      → AreOnce (whole_of (step ∷ steps) s) → Shows forks root (whole_of (step ∷ steps) s) → Shows next root (whole_of (step ∷ steps) part)
  shows_set (on_zero b w g r) [] root is once was =
      let e = fork_is g f false one is in (
        was.0,
        with_branch false at was.1,
        set_zero g was.1 e.0 e.1 was.2,
        was.3,
        was.4,
        shown,
        kept r was.1.one (λ here. once.1 (subst (λ (i : ℕ). HasFork i r) e.0 here)) was.6,
      )
  shows_set (on_one b w g l) [] root is once was =
      let e = fork_is g f true one is in (
        was.0,
        with_branch true at was.1,
        set_one g was.1 e.0 e.1 was.2,
        was.3,
        was.4,
        kept l was.1.zero (λ here. once.0 (subst (λ (i : ℕ). HasFork i l) e.0 here)) was.5,
        shown,
      )
  shows_set (on_zero b w g r) (step ∷ steps) root is once was =
      let here = side_in step steps s f one is in (
        was.0,
        was.1,
        set.others g (λ same. once.0 (subst (λ (i : ℕ). HasFork i (whole_of (step ∷ steps) s)) (sym same) here)) ∙ was.2,
        was.3,
        was.4,
        shows_set step steps was.1.zero is once.3 was.5,
        kept r was.1.one (λ there. once.2 f here there) was.6,
      )
  shows_set (on_one b w g l) (step ∷ steps) root is once was =
      let here = side_in step steps s f one is in (
        was.0,
        was.1,
        set.others g (λ same. once.1 (subst (λ (i : ℕ). HasFork i (whole_of (step ∷ steps) s)) (sym same) here)) ∙ was.2,
        was.3,
        was.4,
        kept l was.1.zero (λ there. once.2 f there here) was.5,
        shows_set step steps was.1.one is once.4 was.6,
      )
