-- The links of a chain after a number is put in or taken out.
use Rattle.std.proofs.Common.{◌≡◌, ◌≢◌, ℕ, zero, suc, ◌+◌, ◌-◌, ◌<◌, ◌≤◌, Bool, true, false, cond, nat_eq, List, [], ◌∷◌, ◌++◌, length, get_or, refl, ap, sym, subst, ◌∙◌, arith, length-append}
use Rattle.std.proofs.lemmas.Bool.{eq-eqb, eqb-true}
use Rattle.std.specs.List.{AllByRecursion}
use Rattle.head_queue.specs.declared.links.Link.{Link}
use Rattle.head_queue.specs.Links.{blank, link_at, after_of, before_of}
use Rattle.head_queue.specs.Cuts.{first_of, last_of, Misses, Differ, IsCut, IsMember}
use Rattle.head_queue.specs.Rings.{IsPath, IsRing, met_from}
use Rattle.head_queue.proofs.PathLemmas.{Puts, Joins, path_more, path_less, path_at, path_after, path_met, path_alike, misses_first, misses_last, misses_front, misses_behind, differ_more, differ_less}

-- ---- tests of numbers

chosen : (x y a b : ℕ) → a ≡ b → cond (nat_eq a b) x y ≡ x
chosen x y a b e = ap (λ (t : Bool). cond t x y) (eq-eqb a b e)

-- a choice by two numbers that differ is the second
pub passed : (x y a b : ℕ) → a ≢ b → cond (nat_eq a b) x y ≡ y
passed x y a b ne = elim (nat_eq a b) as (λ t. nat_eq a b ≡ t → cond t x y ≡ y) [
  | true ↦ λ e. absurd (ne (eqb-true a b e))
  | false ↦ λ e. refl
] refl

-- ---- what holds of all

-- what holds of all numbers holds of those in front
pub all_front : (P : ℕ → Type 0) (xs ys : List ℕ) → AllByRecursion P (xs ++ ys) → AllByRecursion P xs
all_front P [] ys h = tt
all_front P (x ∷ xs) ys h = (h.0, all_front P xs ys h.1)

-- what holds of all numbers holds of those behind
pub all_behind : (P : ℕ → Type 0) (xs ys : List ℕ) → AllByRecursion P (xs ++ ys) → AllByRecursion P ys
all_behind P [] ys h = h
all_behind P (x ∷ xs) ys h = all_behind P xs ys h.1

-- what holds of the numbers in front and of those behind holds of all
pub all_both : (P : ℕ → Type 0) (xs ys : List ℕ) → AllByRecursion P xs → AllByRecursion P ys → AllByRecursion P (xs ++ ys)
all_both P [] ys h g = g
all_both P (x ∷ xs) ys h g = (h.0, all_both P xs ys h.1 g)

all_wider : (xs : List ℕ) (n : ℕ) → AllByRecursion (λ k. k ≤ n) xs → AllByRecursion (λ k. k ≤ n + 1) xs
all_wider [] n h = tt
all_wider (x ∷ xs) n h = (let le : x ≤ n = h.0 in omega arith, all_wider xs n h.1)

-- ---- the ends of a front and of a rest

-- what holds of the begin and of all numbers holds of the last one
pub last_holds : (P : ℕ → Type 0) (p : ℕ) (xs : List ℕ) → P p → AllByRecursion P xs → P (last_of p xs)
last_holds P p [] hp h = hp
last_holds P p (x ∷ xs) hp h = last_holds P x xs h.0 h.1

first_holds : (P : ℕ → Type 0) (e : ℕ) (xs : List ℕ) → P e → AllByRecursion P xs → P (first_of e xs)
first_holds P e [] he h = he
first_holds P e (x ∷ xs) he h = h.0

-- the number before a cut is within the size
pub cut_within : (xs : List ℕ) (at size : ℕ) → AllByRecursion (λ k. k ≤ size) xs → IsCut xs at → at ≤ size
cut_within xs at size h w =
    subst (λ (k : ℕ). k ≤ size) (sym w.last)
    (last_holds (λ k. k ≤ size) 0 w.front (omega arith) (all_front (λ k. k ≤ size) w.front w.behind (subst (AllByRecursion (λ k. k ≤ size)) w.parts h)))

-- the number behind a cut is within the size
pub behind_within : (xs : List ℕ) (at size : ℕ) → AllByRecursion (λ k. k ≤ size) xs → (w : IsCut xs at) → first_of 0 w.behind ≤ size
behind_within xs at size h w =
    first_holds (λ k. k ≤ size) 0 w.behind (omega arith) (all_behind (λ k. k ≤ size) w.front w.behind (subst (AllByRecursion (λ k. k ≤ size)) w.parts h))

-- a number of the chain is within the size
pub member_within : (xs : List ℕ) (k size : ℕ) → AllByRecursion (λ k. k ≤ size) xs → IsMember xs k → k ≤ size
member_within xs k size h w = (all_behind (λ k. k ≤ size) w.front (k ∷ w.behind) (subst (AllByRecursion (λ k. k ≤ size)) w.parts h)).0

-- ---- rings

-- who follows the links from the first number meets the whole chain
pub met : (f b : ℕ → ℕ) (size count : ℕ) (xs : List ℕ) → IsRing f b size xs count → met_from f count (f 0) ≡ xs
met f b size count xs r = ap (λ (n : ℕ). met_from f n (f 0)) (sym r.counted) ∙ path_met f b 0 xs 0 r.path

-- the numbers are those that are met
pub seen : (f b : ℕ → ℕ) (size count : ℕ) (xs : List ℕ) → IsRing f b size xs count → IsRing f b size (met_from f count (f 0)) count
seen f b size count xs r = subst (λ (ys : List ℕ). IsRing f b size ys count) (sym (met f b size count xs r)) r

-- the link of the number before a cut leads to the first one behind it
pub next_is : (f b : ℕ → ℕ) (size count at : ℕ) (xs : List ℕ) → IsRing f b size xs count → (w : IsCut xs at) → f at ≡ first_of 0 w.behind
next_is f b size count at xs r w = ap f w.last ∙ path_after f b 0 w.front w.behind 0 (subst (λ (ys : List ℕ). IsPath f b 0 ys 0) w.parts r.path)

-- the link back from a number leads to the last one before it
pub before_is : (f b : ℕ → ℕ) (size count k : ℕ) (xs : List ℕ) → IsRing f b size xs count → (w : IsMember xs k) → b k ≡ last_of 0 w.front
before_is f b size count k xs r w = (path_at f b k 0 w.front w.behind 0 (subst (λ (ys : List ℕ). IsPath f b 0 ys 0) w.parts r.path)).0

after_is : (f b : ℕ → ℕ) (size count k : ℕ) (xs : List ℕ) → IsRing f b size xs count → (w : IsMember xs k) → f k ≡ first_of 0 w.behind
after_is f b size count k xs r w = (path_at f b k 0 w.front w.behind 0 (subst (λ (ys : List ℕ). IsPath f b 0 ys 0) w.parts r.path)).1

-- the number before one of the chain is within the size
pub before_within : (f b : ℕ → ℕ) (size count k at : ℕ) (xs : List ℕ) → IsRing f b size xs count → IsMember xs k → at ≡ b k → at ≤ size
before_within f b size count k at xs r w e =
    subst (λ (n : ℕ). n ≤ size) (sym (e ∙ before_is f b size count k xs r w))
    (last_holds (λ n. n ≤ size) 0 w.front (omega arith) (all_front (λ n. n ≤ size) w.front (k ∷ w.behind) (subst (AllByRecursion (λ n. n ≤ size)) w.parts r.within)))

-- the number after one of the chain is within the size
pub after_within : (f b : ℕ → ℕ) (size count k next : ℕ) (xs : List ℕ) → IsRing f b size xs count → IsMember xs k → next ≡ f k → next ≤ size
after_within f b size count k next xs r w e =
    subst (λ (n : ℕ). n ≤ size) (sym (e ∙ after_is f b size count k xs r w))
    (first_holds (λ n. n ≤ size) 0 w.behind (omega arith) (all_behind (λ n. n ≤ size) w.front (k ∷ w.behind) (subst (AllByRecursion (λ n. n ≤ size)) w.parts r.within)).1)

-- a number that is linked in at a cut makes the ring one longer
pub inserted : (f b g c : ℕ → ℕ) (size count at k next : ℕ) (xs : List ℕ) → IsRing f b size xs count → (w : IsCut xs at) → next ≡ f at
    → Misses k (0 ∷ xs) → k ≤ size → length xs < size
    → ((s : ℕ) → g s ≡ cond (nat_eq s k) next (cond (nat_eq s at) k (f s)))
    → ((s : ℕ) → c s ≡ cond (nat_eq s next) k (cond (nat_eq s k) at (b s)))
    → IsRing g c size (w.front ++ k ∷ w.behind) (count + 1)
inserted f b g c size count at k next xs r w next_at apart fits room afters befores =
    let parts = w.parts in
    let path : IsPath f b 0 (w.front ++ w.behind) 0 = subst (λ (ys : List ℕ). IsPath f b 0 ys 0) parts r.path in
    let differ : Differ (0 ∷ (w.front ++ w.behind)) = subst (λ (ys : List ℕ). Differ (0 ∷ ys)) parts r.differ in
    let misses : Misses k (0 ∷ (w.front ++ w.behind)) = subst (λ (ys : List ℕ). Misses k (0 ∷ ys)) parts apart in
    let within : AllByRecursion (λ n. n ≤ size) (w.front ++ w.behind) = subst (AllByRecursion (λ n. n ≤ size)) parts r.within in
    let next_first : next ≡ first_of 0 w.behind = next_at ∙ next_is f b size count at xs r w in
    let k_at : k ≢ last_of 0 w.front = misses_last k 0 w.front misses.0 (misses_front k w.front w.behind misses.1) in
    let k_next : k ≢ first_of 0 w.behind = misses_first k 0 w.behind misses.0 (misses_behind k w.front w.behind misses.1) in
    let alike : (s : ℕ) → g s ≡ cond (nat_eq s k) (first_of 0 w.behind) (cond (nat_eq s (last_of 0 w.front)) k (f s)) =
    λ s. afters s ∙ ap (λ (n : ℕ). cond (nat_eq s k) n (cond (nat_eq s at) k (f s))) next_first ∙ ap (λ (n : ℕ). cond (nat_eq s k) (first_of 0 w.behind) (cond (nat_eq s n) k (f s))) w.last in
    let alike_back : (s : ℕ) → c s ≡ cond (nat_eq s (first_of 0 w.behind)) k (cond (nat_eq s k) (last_of 0 w.front) (b s)) =
    λ s. befores s ∙ ap (λ (n : ℕ). cond (nat_eq s n) k (cond (nat_eq s k) at (b s))) next_first ∙ ap (λ (n : ℕ). cond (nat_eq s (first_of 0 w.behind)) k (cond (nat_eq s k) n (b s))) w.last in
    record {
      path = path_more f b g c k 0 w.front w.behind 0 (puts f b g c (last_of 0 w.front) k (first_of 0 w.behind) k_at k_next alike alike_back) differ misses misses.0 differ.0 path;
      differ = differ_more (0 ∷ w.front) w.behind k misses differ;
      within = all_both (λ n. n ≤ size) w.front (k ∷ w.behind) (all_front (λ n. n ≤ size) w.front w.behind within) (fits, all_behind (λ n. n ≤ size) w.front w.behind within);
      counted = length-append w.front (k ∷ w.behind) ∙ more (length w.front) (length w.behind) count (sym (length-append w.front w.behind) ∙ ap length (sym parts) ∙ r.counted);
      room = let n = r.counted in omega arith;
    }
  where
    more : (m n t : ℕ) → m + n ≡ t → m + suc n ≡ t + 1
    more m n t e = omega arith

    puts : (f b g c : ℕ → ℕ) (at k next : ℕ) → k ≢ at → k ≢ next
        → ((s : ℕ) → g s ≡ cond (nat_eq s k) next (cond (nat_eq s at) k (f s)))
        → ((s : ℕ) → c s ≡ cond (nat_eq s next) k (cond (nat_eq s k) at (b s)))
        → Puts f b g c at k next
    puts f b g c at k next k_at k_next afters befores = record {
      to_it = afters at ∙ passed _ _ at k (λ e. k_at (sym e)) ∙ chosen _ _ at at refl;
      from_it = afters k ∙ chosen _ _ k k refl;
      back_to_it = befores next ∙ chosen _ _ next next refl;
      back_from_it = befores k ∙ passed _ _ k next k_next ∙ chosen _ _ k k refl;
      afters = λ s n m. afters s ∙ passed _ _ s k m ∙ passed _ _ s at n;
      befores = λ s n m. befores s ∙ passed _ _ s next n ∙ passed _ _ s k m;
    }

-- a number whose neighbours are linked with each other is out of the ring
pub removed : (f b g c : ℕ → ℕ) (size count at k next : ℕ) (xs : List ℕ) → IsRing f b size xs count → (w : IsMember xs k)
    → at ≡ b k → next ≡ f k
    → ((s : ℕ) → g s ≡ cond (nat_eq s at) next (f s))
    → ((s : ℕ) → c s ≡ cond (nat_eq s next) at (b s))
    → IsRing g c size (w.front ++ w.behind) (count - 1)
removed f b g c size count at k next xs r w at_k next_k afters befores =
    let parts = w.parts in
    let path : IsPath f b 0 (w.front ++ k ∷ w.behind) 0 = subst (λ (ys : List ℕ). IsPath f b 0 ys 0) parts r.path in
    let differ : Differ (0 ∷ (w.front ++ k ∷ w.behind)) = subst (λ (ys : List ℕ). Differ (0 ∷ ys)) parts r.differ in
    let within : AllByRecursion (λ n. n ≤ size) (w.front ++ k ∷ w.behind) = subst (AllByRecursion (λ n. n ≤ size)) parts r.within in
    let last : at ≡ last_of 0 w.front = at_k ∙ before_is f b size count k xs r w in
    let first : next ≡ first_of 0 w.behind = next_k ∙ after_is f b size count k xs r w in
    let alike : (s : ℕ) → g s ≡ cond (nat_eq s (last_of 0 w.front)) (first_of 0 w.behind) (f s) =
    λ s. afters s ∙ ap (λ (n : ℕ). cond (nat_eq s n) next (f s)) last ∙ ap (λ (n : ℕ). cond (nat_eq s (last_of 0 w.front)) n (f s)) first in
    let alike_back : (s : ℕ) → c s ≡ cond (nat_eq s (first_of 0 w.behind)) (last_of 0 w.front) (b s) =
    λ s. befores s ∙ ap (λ (n : ℕ). cond (nat_eq s n) at (b s)) first ∙ ap (λ (n : ℕ). cond (nat_eq s (first_of 0 w.behind)) n (b s)) last in
    record {
      path = path_less f b g c k 0 w.front w.behind 0 (joins f b g c (last_of 0 w.front) (first_of 0 w.behind) alike alike_back) differ differ.0 path;
      differ = differ_less (0 ∷ w.front) w.behind k differ;
      within = all_both (λ n. n ≤ size) w.front w.behind (all_front (λ n. n ≤ size) w.front (k ∷ w.behind) within) (all_behind (λ n. n ≤ size) w.front (k ∷ w.behind) within).1;
      counted = length-append w.front w.behind ∙ less (length w.front) (length w.behind) count (sym (length-append w.front (k ∷ w.behind)) ∙ ap length (sym parts) ∙ r.counted);
      room = let n = r.room in omega arith;
    }
  where
    less : (m n t : ℕ) → m + suc n ≡ t → m + n ≡ t - 1
    less m n t e = omega arith

    joins : (f b g c : ℕ → ℕ) (at next : ℕ)
        → ((s : ℕ) → g s ≡ cond (nat_eq s at) next (f s))
        → ((s : ℕ) → c s ≡ cond (nat_eq s next) at (b s))
        → Joins f b g c at next
    joins f b g c at next afters befores = record {
      to_it = afters at ∙ chosen _ _ at at refl;
      back_to_it = befores next ∙ chosen _ _ next next refl;
      afters = λ s n. afters s ∙ passed _ _ s at n;
      befores = λ s n. befores s ∙ passed _ _ s next n;
    }

-- a link more at the end changes none
more_links : (ends : Link) (links : List Link) (s : ℕ) → link_at ends (links ++ blank ∷ []) s ≡ link_at ends links s
more_links ends links zero = refl
more_links ends links (suc m) = more links m
  where
    more : (ls : List Link) (m : ℕ) → get_or (ls ++ blank ∷ []) m blank ≡ get_or ls m blank
    more [] zero = refl
    more [] (suc m) = refl
    more (l ∷ ls) zero = refl
    more (l ∷ ls) (suc m) = more ls m

-- one more blank link leaves a ring as it was, with room for one more
pub widened : (ends : Link) (links more : List Link) (size count : ℕ) (xs : List ℕ) → more ≡ links ++ blank ∷ []
    → IsRing (after_of ends links) (before_of ends links) size xs count → IsRing (after_of ends more) (before_of ends more) (size + 1) xs count
widened ends links more size count xs e r = record {
  path = path_alike (after_of ends links) (before_of ends links) (after_of ends more) (before_of ends more) 0 xs 0
      (λ s. ap (λ (ls : List Link). after_of ends ls s) e ∙ ap (λ (l : Link). l.after) (more_links ends links s))
      (λ s. ap (λ (ls : List Link). before_of ends ls s) e ∙ ap (λ (l : Link). l.before) (more_links ends links s)) r.path;
  differ = r.differ;
  within = all_wider xs size r.within;
  counted = r.counted;
  room = let n = r.room in omega arith;
}
