-- Loops that go along a trie, fork by fork.
use Rattle.std.proofs.Common.{◌≡◌, ℕ, ◌+◌, ◌-◌, ◌^◌, ◌<◌, ◌≤◌, Bool, true, false, List, [], ◌∷◌, ◌++◌, Some, None, slice_get, sym, ap, ap₂, ◌∙◌, refl, subst, arith}
use Rattle.name_tries.specs.Bits.{Name, bit_of, level}
use Rattle.name_tries.specs.Tries.{Trie, leaf, inner, IsAbove, Shows, IsAt, nearest_in}
use Rattle.name_tries.specs.Ways.{Step, on_zero, on_one, whole_of, side, side_of, last_side, IsTaken, AreTaken, IsFrom, inner_at, branch_at, past, most, left_at, left_of, left, IsWay, IsTowards, way_of, IsWayToLast}
use Rattle.name_tries.specs.declared.forks.Branch.{Branch}
use Rattle.name_tries.specs.declared.forks.Branch.TheVariants as branch
use Rattle.name_tries.specs.declared.forks.Fork.{Fork}
use Rattle.name_tries.specs.declared.forks.Last.{Last}
use Rattle.name_tries.specs.declared.forks.Way.{Way}
use Rattle.name_tries.proofs.ItemLemmas.{some_same, none_not}
use Rattle.name_tries.proofs.WayLemmas.{whole_more, side_more, taken_far, taken_more, nearest_part}

-- ---- past one fork

pub record IsPassed (forks : List Fork) (x : Name) (part : Trie) (f : ℕ) (k : Fork) (v : Bool) : Type 0 where
  pub step : Step
  pub next : Trie
  pub is : part ≡ whole_of (step ∷ []) next
  pub at : IsAt forks (branch_at v k) next
  pub side : side_of step ≡ Some (side f v)
  pub taken : (p : ℕ) → level k.byte k.within < p → IsTaken x p step
  pub above : IsAbove (level k.byte k.within) next
  pub within : k.within < 9

module _ (forks : List Fork) (x : Name) where
  passed_on : (b w g : ℕ) (l r : Trie) (at : Branch) (is : IsAt forks at (inner b w g l r)) (v : Bool) → bit_of x b w ≡ v
      → IsPassed forks x (inner b w g l r) g is.1.1 v
  passed_on b w g l r at is true bit =
      let same : level is.1.1.byte is.1.1.within ≡ level b w = ap₂ level is.1.3 is.1.4 in
      record {
        step = on_one b w g l;
        next = r;
        is = refl;
        at = (is.0.4, is.1.6);
        side = refl;
        taken = λ p lt. (bit, is.0.0, subst (λ (n : ℕ). n < p) same lt);
        above = subst (λ (n : ℕ). IsAbove n r) (sym same) is.0.2;
        within = subst (λ (n : ℕ). n < 9) (sym is.1.4) is.0.0;
      }
  passed_on b w g l r at is false bit =
      let same : level is.1.1.byte is.1.1.within ≡ level b w = ap₂ level is.1.3 is.1.4 in
      record {
        step = on_zero b w g r;
        next = l;
        is = refl;
        at = (is.0.3, is.1.5);
        side = refl;
        taken = λ p lt. (bit, is.0.0, subst (λ (n : ℕ). n < p) same lt);
        above = subst (λ (n : ℕ). IsAbove n l) (sym same) is.0.1;
        within = subst (λ (n : ℕ). n < 9) (sym is.1.4) is.0.0;
      }

  -- on the side of the name there is the part to which its bits lead
  pub passed : (part : Trie) (at : Branch) (f : ℕ) (k : Fork) → IsAt forks at part → inner_at at ≡ Some f → slice_get forks f ≡ Some k
      → IsPassed forks x part f k (bit_of x k.byte k.within)
  passed (leaf m) at f k is goes there = absurd (none_not (inner_at at) f (ap inner_at is.1) goes)
  passed (inner b w g l r) at f k is goes there =
      let e : g ≡ f = some_same g f (sym (ap inner_at is.1.0) ∙ goes) in
      let same : is.1.1 ≡ k = some_same is.1.1 k (sym is.1.2 ∙ ap (slice_get forks) e ∙ there) in
      let bit : bit_of x b w ≡ bit_of x k.byte k.within =
      sym (ap₂ (bit_of x) (sym (ap (λ (h : Fork). h.byte) same) ∙ is.1.3) (sym (ap (λ (h : Fork). h.within) same) ∙ is.1.4)) in
      subst (λ (i : ℕ). IsPassed forks x (inner b w g l r) i k (bit_of x k.byte k.within)) e
      (subst (λ (h : Fork). IsPassed forks x (inner b w g l r) g h (bit_of x k.byte k.within)) same
      (passed_on b w g l r at is (bit_of x k.byte k.within) bit))

  -- the fork at the place that a branch tells is there
  pub fork_there : (part : Trie) (at : Branch) (f : ℕ) → IsAt forks at part → inner_at at ≡ Some f
      → (k : Fork) × (slice_get forks f ≡ Some k) × (k.within < 9)
  fork_there (leaf m) at f is goes = absurd (none_not (inner_at at) f (ap inner_at is.1) goes)
  fork_there (inner b w g l r) at f is goes =
      let e : g ≡ f = some_same g f (sym (ap inner_at is.1.0) ∙ goes) in
      (is.1.1, ap (slice_get forks) (sym e) ∙ is.1.2, subst (λ (n : ℕ). n < 9) (sym is.1.4) is.0.0)

-- a fork that isn't before a level
pub from_there : (forks : List Fork) (part : Trie) (at : Branch) (f : ℕ) (k : Fork) (p : ℕ) → IsAt forks at part → inner_at at ≡ Some f
    → slice_get forks f ≡ Some k → p ≤ level k.byte k.within → IsFrom p part
from_there forks (leaf m) at f k p is goes there le = tt
from_there forks (inner b w g l r) at f k p is goes there le =
    let e : g ≡ f = some_same g f (sym (ap inner_at is.1.0) ∙ goes) in
    let same : is.1.1 ≡ k = some_same is.1.1 k (sym is.1.2 ∙ ap (slice_get forks) e ∙ there) in
    let rise : level k.byte k.within ≡ level b w = sym (ap (λ (h : Fork). level h.byte h.within) same) ∙ ap₂ level is.1.3 is.1.4 in
    omega (arith, rise, le)

-- ---- the levels that are left

-- the branch behind a fork has fewer levels left
pub left_less : (forks : List Fork) (at next : Branch) (f : ℕ) (k : Fork) (s : Trie) → inner_at at ≡ Some f → slice_get forks f ≡ Some k
    → level k.byte k.within < most → IsAbove (level k.byte k.within) s → Shows forks next s → left forks next < left forks at
left_less forks at next f k (leaf m) goes there lt above shown =
    let now : left_of forks (inner_at next) ≡ 0 = ap (λ b. left_of forks (inner_at b)) shown in
    let was : left_of forks (inner_at at) ≡ most - level k.byte k.within = ap (left_of forks) goes ∙ ap left_at there in
    omega (arith, now, was, lt)
left_less forks at next f k (inner b w g l r) goes there lt above shown =
    let now : left_of forks (inner_at next) ≡ most - level shown.1.byte shown.1.within =
    ap (λ b. left_of forks (inner_at b)) shown.0 ∙ ap left_at shown.2 in
    let was : left_of forks (inner_at at) ≡ most - level k.byte k.within = ap (left_of forks) goes ∙ ap left_at there in
    let rise : level shown.1.byte shown.1.within ≡ level b w = ap₂ level shown.3 shown.4 in
    omega (arith, now, was, lt, rise, above)

-- a fork that isn't before a level stands at the front of what begins behind it
from_level : (forks : List Fork) (part : Trie) (at : Branch) (f : ℕ) (k : Fork) (p : ℕ) → IsAt forks at part → inner_at at ≡ Some f
    → slice_get forks f ≡ Some k → IsFrom p part → p ≤ level k.byte k.within
from_level forks (leaf m) at f k p is goes there le = absurd (none_not (inner_at at) f (ap inner_at is.1) goes)
from_level forks (inner b w g l r) at f k p is goes there le =
    let e : g ≡ f = some_same g f (sym (ap inner_at is.1.0) ∙ goes) in
    let same : is.1.1 ≡ k = some_same is.1.1 k (sym is.1.2 ∙ ap (slice_get forks) e ∙ there) in
    let rise : level k.byte k.within ≡ level b w = sym (ap (λ (h : Fork). level h.byte h.within) same) ∙ ap₂ level is.1.3 is.1.4 in
    omega (arith, rise, le)

-- ---- to the nearest one

-- a way along the bits of a name begins at the root
pub way_begins : (forks : List Fork) (root : Branch) (x : Name) (t : Trie) → IsAt forks root t → IsTowards forks root x t
way_begins forks root x t is = record { p = 0; steps = []; part = t; whole = refl; taken = tt; from = at_front t; is = is }
  where
    at_front : (u : Trie) → IsFrom 0 u
    at_front (leaf m) = tt
    at_front (inner b w g l r) = omega arith

-- a way goes on along the side that the name's bit takes
pub way_goes_on : (forks : List Fork) (at next : Branch) (x : Name) (t : Trie) (f : ℕ) (k : Fork) → IsTowards forks at x t → inner_at at ≡ Some f
    → slice_get forks f ≡ Some k → next ≡ branch_at (bit_of x k.byte k.within) k → IsTowards forks next x t
way_goes_on forks at next x t f k on goes there is =
    let q = passed forks x on.part at f k on.is goes there in
    let le = from_level forks on.part at f k on.p on.is goes there on.from in
    let p = level k.byte k.within + 1 in
    record {
      p = p;
      steps = on.steps ++ q.step ∷ [];
      part = q.next;
      whole = on.whole ∙ ap (whole_of on.steps) q.is ∙ sym (whole_more on.steps (q.step ∷ []) q.next);
      taken = taken_more x p on.steps q.step (taken_far x on.p p on.steps (omega (arith, le)) on.taken) (q.taken p (omega arith));
      from = behind (level k.byte k.within) q.next q.above;
      is = subst (λ (b : Branch). IsAt forks b q.next) (sym is) q.at;
    }
  where
    behind : (p : ℕ) (u : Trie) → IsAbove p u → IsFrom (p + 1) u
    behind p (leaf m) above = tt
    behind p (inner b w g l r) above = omega (arith, above)

-- the name leads to the same number from there
same_nearest : (forks : List Fork) (at : Branch) (x : Name) (t : Trie) (on : IsTowards forks at x t) → nearest_in x on.part ≡ nearest_in x t
same_nearest forks at x t on = sym (nearest_part x on.p on.steps on.part on.taken) ∙ sym (ap (nearest_in x) on.whole)

-- past one fork the name leads to the same number, and fewer levels are left
pub on_past : (forks : List Fork) (at : Branch) (next : Way) (x : Name) (t : Trie) (f : ℕ) → IsTowards forks at x t → inner_at at ≡ Some f
    → ((k : Fork) → slice_get forks f ≡ Some k → next ≡ past f (bit_of x k.byte k.within) k)
    → ((k : Fork) → slice_get forks f ≡ Some k → k.byte < 2 ^ 64)
    → IsTowards forks next.below x t × (left forks next.below < left forks at)
on_past forks at next x t f on goes is range =
    let k = fork_there forks x on.part at f on.is goes in
    let p = passed forks x on.part at f k.0 on.is goes k.1 in
    let below = ap (λ (v : Way). v.below) (is k.0 k.1) in (
      way_goes_on forks at next.below x t f k.0 on goes k.1 below,
      left_less forks at next.below f k.0 p.next goes k.1 (omega (arith, range k.0 k.1, k.2))
          p.above (subst (λ (b : Branch). Shows forks b p.next) (sym below) p.at.1),
    )

-- where a way ends at a number, that is the nearest one
pub way_ends : (forks : List Fork) (at : Branch) (x : Name) (t : Trie) (n : ℕ) → IsTowards forks at x t → at ≡ branch.Leaf n → n ≡ nearest_in x t
way_ends forks at x t n on is = ends on.part on.is.1 ∙ same_nearest forks at x t on
  where
    ends : (part : Trie) → Shows forks at part → n ≡ nearest_in x part
    ends (leaf m) shown = some_leaf (sym is ∙ shown)
      where
        some_leaf : branch.Leaf n ≡ branch.Leaf m → n ≡ m
        some_leaf e = cc
    ends (inner b w g l r) shown = let wrong : branch.Leaf n ≡ branch.Inner g = sym is ∙ shown.0 in cc

-- ---- up to a level

up_begins : (forks : List Fork) (root : Branch) (x : Name) (p : ℕ) (t : Trie) → IsAt forks root t
    → IsWay forks t x p (record { side = None; below = root })
up_begins forks root x p t is = record { steps = []; part = t; is = refl; taken = tt; side = refl; rises = is.0; shown = is.1 }

-- a way below a level goes on past a fork below it
pub up_goes_on : (forks : List Fork) (way next : Way) (x : Name) (p : ℕ) (t : Trie) (f : ℕ) (k : Fork) → IsWay forks t x p way
    → inner_at way.below ≡ Some f → slice_get forks f ≡ Some k → level k.byte k.within < p → next ≡ past f (bit_of x k.byte k.within) k
    → IsWay forks t x p next
up_goes_on forks way next x p t f k w goes there lt is =
    let q = passed forks x w.part way.below f k (w.rises, w.shown) goes there in
    record {
      steps = w.steps ++ q.step ∷ [];
      part = q.next;
      is = w.is ∙ ap (whole_of w.steps) q.is ∙ sym (whole_more w.steps (q.step ∷ []) q.next);
      taken = taken_more x p w.steps q.step w.taken (q.taken p lt);
      side = ap (λ (v : Way). v.side) is ∙ sym q.side ∙ sym (side_more None w.steps q.step);
      rises = q.at.0;
      shown = subst (λ (b : Branch). Shows forks b q.next) (sym (ap (λ (v : Way). v.below) is)) q.at.1;
    }

-- the way past a fork on it
pub up_from : (forks : List Fork) (at : Branch) (next : Way) (x : Name) (p : ℕ) (t : Trie) (f : ℕ) (k : Fork) → IsTowards forks at x t
    → inner_at at ≡ Some f → slice_get forks f ≡ Some k → level k.byte k.within < p → next ≡ past f (bit_of x k.byte k.within) k
    → IsWay forks t x p next
up_from forks at next x p t f k on goes there lt is =
    let q = passed forks x on.part at f k on.is goes there in
    let le = from_level forks on.part at f k on.p on.is goes there on.from in
    record {
      steps = on.steps ++ q.step ∷ [];
      part = q.next;
      is = on.whole ∙ ap (whole_of on.steps) q.is ∙ sym (whole_more on.steps (q.step ∷ []) q.next);
      taken = taken_more x p on.steps q.step (taken_far x on.p p on.steps (omega (arith, le, lt)) on.taken) (q.taken p lt);
      side = ap (λ (v : Way). v.side) is ∙ sym q.side ∙ sym (side_more None on.steps q.step);
      rises = q.at.0;
      shown = subst (λ (b : Branch). Shows forks b q.next) (sym (ap (λ (v : Way). v.below) is)) q.at.1;
    }

-- ---- to the last fork

-- the way past the first fork
pub down_begins : (forks : List Fork) (root : ℕ) (x : Name) (t : Trie) (k : Fork) (way : Way) → IsAt forks (branch.Inner root) t
    → slice_get forks root ≡ Some k → way ≡ past root (bit_of x k.byte k.within) k → IsWayToLast forks t x (record { above = None; side = way.side; below = way.below })
down_begins forks root x (leaf m) k way is there past_is = let wrong : branch.Inner root ≡ branch.Leaf m = is.1 in cc
down_begins forks root x (inner b w g l r) k way is there past_is =
    let e : root ≡ g = same_inner is.1.0 in
    let same : k ≡ is.1.1 = some_same k is.1.1 (sym there ∙ ap (slice_get forks) e ∙ is.1.2) in
    record {
      steps = [];
      byte = b;
      within = w;
      place = g;
      zero = l;
      one = r;
      is = refl;
      taken = tt;
      side = refl;
      rises = is.0;
      fork = is.1.1;
      there = is.1.2;
      byte_is = is.1.3;
      within_is = is.1.4;
      shows_zero = is.1.5;
      shows_one = is.1.6;
      ends = past_is ∙ ap₂ (λ (i : ℕ) (h : Fork). past i (bit_of x h.byte h.within) h) e same
          ∙ ap₂ (λ (c v : ℕ). past g (bit_of x c v) is.1.1) is.1.3 is.1.4;
    }
  where
    same_inner : branch.Inner root ≡ branch.Inner g → root ≡ g
    same_inner e = cc

-- what is known of the side that a way took last
pub record IsSideOf (forks : List Fork) (t : Trie) (x : Name) (w : ℕ) (way : Way) : Type 0 where
  pub steps : List Step
  pub next : Trie
  pub is : t ≡ whole_of steps next
  pub taken : (p : ℕ) → w < p → AreTaken x p steps
  pub side : way.side ≡ last_side None steps
  pub at : IsAt forks way.below next
  pub above : IsAbove w next

-- the last step of a way leads to the side that the name's bit takes
pub side_taken : (forks : List Fork) (t : Trie) (x : Name) (last : Last) (w : IsWayToLast forks t x last)
    → IsSideOf forks t x (level w.byte w.within) (way_of last)
side_taken forks t x last w = at (bit_of x w.byte w.within) refl
  where
    at : (v : Bool) → bit_of x w.byte w.within ≡ v → IsSideOf forks t x (level w.byte w.within) (way_of last)
    at true bit =
        let ends : way_of last ≡ past w.place true w.fork = w.ends ∙ ap (λ v. past w.place v w.fork) bit in
        record {
          steps = w.steps ++ on_one w.byte w.within w.place w.zero ∷ [];
          next = w.one;
          is = w.is ∙ sym (whole_more w.steps (on_one w.byte w.within w.place w.zero ∷ []) w.one);
          taken = λ p lt. taken_more x p w.steps (on_one w.byte w.within w.place w.zero)
              (taken_far x (level w.byte w.within) p w.steps (omega arith) w.taken) (bit, w.rises.0, lt);
          side = ap (λ (v : Way). v.side) ends ∙ sym (side_more None w.steps (on_one w.byte w.within w.place w.zero));
          at = (w.rises.4, subst (λ (b : Branch). Shows forks b w.one) (sym (ap (λ (v : Way). v.below) ends)) w.shows_one);
          above = w.rises.2;
        }
    at false bit =
        let ends : way_of last ≡ past w.place false w.fork = w.ends ∙ ap (λ v. past w.place v w.fork) bit in
        record {
          steps = w.steps ++ on_zero w.byte w.within w.place w.one ∷ [];
          next = w.zero;
          is = w.is ∙ sym (whole_more w.steps (on_zero w.byte w.within w.place w.one ∷ []) w.zero);
          taken = λ p lt. taken_more x p w.steps (on_zero w.byte w.within w.place w.one)
              (taken_far x (level w.byte w.within) p w.steps (omega arith) w.taken) (bit, w.rises.0, lt);
          side = ap (λ (v : Way). v.side) ends ∙ sym (side_more None w.steps (on_zero w.byte w.within w.place w.one));
          at = (w.rises.3, subst (λ (b : Branch). Shows forks b w.zero) (sym (ap (λ (v : Way). v.below) ends)) w.shows_zero);
          above = w.rises.1;
        }

-- the way past one fork more
down_goes_on : (forks : List Fork) (t : Trie) (x : Name) (last : Last) (next : Way) (f : ℕ) (k : Fork)
    → IsWayToLast forks t x last → inner_at last.below ≡ Some f → slice_get forks f ≡ Some k
    → next ≡ past f (bit_of x k.byte k.within) k → IsWayToLast forks t x (record { above = last.side; side = next.side; below = next.below })
down_goes_on forks t x last next f k w goes there past_is = on s.next s.is s.at s.above
  where
    s : IsSideOf forks t x (level w.byte w.within) (way_of last)
    s = side_taken forks t x last w

    on : (u : Trie) → t ≡ whole_of s.steps u → IsAt forks last.below u → IsAbove (level w.byte w.within) u
        → IsWayToLast forks t x (record { above = last.side; side = next.side; below = next.below })
    on (leaf m) is at rise = absurd (none_not (inner_at last.below) f (ap inner_at at.1) goes)
    on (inner b v g l r) is at rise =
        let e : f ≡ g = some_same f g (sym goes ∙ ap inner_at at.1.0) in
        let same : k ≡ at.1.1 = some_same k at.1.1 (sym there ∙ ap (slice_get forks) e ∙ at.1.2) in
        record {
          steps = s.steps;
          byte = b;
          within = v;
          place = g;
          zero = l;
          one = r;
          is = is;
          taken = s.taken (level b v) rise;
          side = s.side;
          rises = at.0;
          fork = at.1.1;
          there = at.1.2;
          byte_is = at.1.3;
          within_is = at.1.4;
          shows_zero = at.1.5;
          shows_one = at.1.6;
          ends = past_is ∙ ap₂ (λ (i : ℕ) (h : Fork). past i (bit_of x h.byte h.within) h) e same
              ∙ ap₂ (λ (c u : ℕ). past g (bit_of x c u) at.1.1) at.1.3 at.1.4;
        }

-- past one fork more, with fewer levels left
pub down_past : (forks : List Fork) (t : Trie) (x : Name) (last : Last) (next : Way) (f : ℕ) → IsWayToLast forks t x last
    → inner_at last.below ≡ Some f
    → ((k : Fork) → slice_get forks f ≡ Some k → next ≡ past f (bit_of x k.byte k.within) k)
    → ((k : Fork) → slice_get forks f ≡ Some k → k.byte < 2 ^ 64)
    → IsWayToLast forks t x (record { above = last.side; side = next.side; below = next.below }) × (left forks next.below < left forks last.below)
down_past forks t x last next f w goes is range =
    let s = side_taken forks t x last w in
    let k = fork_there forks x s.next last.below f s.at goes in
    let p = passed forks x s.next last.below f k.0 s.at goes k.1 in (
      down_goes_on forks t x last next f k.0 w goes k.1 (is k.0 k.1),
      left_less forks last.below next.below f k.0 p.next goes k.1 (omega (arith, range k.0 k.1, k.2)) p.above
          (subst (λ (b : Branch). Shows forks b p.next) (sym (ap (λ (v : Way). v.below) (is k.0 k.1))) p.at.1),
    )
