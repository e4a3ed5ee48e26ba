-- A walk along a chain to a rank: how it begins, goes on and ends.
use Rattle.std.proofs.Common.{◌≡◌, ◌≢◌, ℕ, suc, ◌<◌, Bool, true, false, cond, nat_eq, List, [], ◌∷◌, ◌++◌, length, map, Option, Some, None, IsSome, refl, ap, sym, subst, ◌∙◌, append_assoc, arith, inl, inr, ◌⊎◌}
use Rattle.std.proofs.lemmas.Bool.{eq-eqb, eqb-true}
use Rattle.std.specs.List.{AllByRecursion}
use Rattle.head_queue.specs.declared.entries.QueueEntry.{QueueEntry}
use Rattle.head_queue.specs.Cuts.{first_of, last_of, rest_after, Misses, Differ, IsCut, IsMember}
use Rattle.head_queue.specs.Waiting.{Waiting}
use Rattle.head_queue.specs.Entries.{entry_at, waiting_at}
use Rattle.head_queue.specs.Ranks.{rank, Rising}
use Rattle.head_queue.specs.Kept.{AreKept, Leads, Starts, IsPassed, IsWalking, IsWalked, IsNoneBefore}
use Rattle.head_queue.proofs.PathLemmas.{misses_last, misses_front}
use Rattle.head_queue.proofs.RingLemmas.{all_behind, all_both}

-- a number is one of them, or it isn't
pub find : (k : ℕ) (xs : List ℕ) → Misses k xs ⊎ IsMember xs k
find k [] = inl tt
find k (x ∷ xs) = elim (nat_eq k x) as (λ b. nat_eq k x ≡ b → Misses k (x ∷ xs) ⊎ IsMember (x ∷ xs) k) [
  | true ↦ λ e. inr (record { front = []; behind = xs; parts = ap (λ (n : ℕ). n ∷ xs) (sym (eqb-true k x e)) })
  | false ↦ λ e. later e (find k xs)
] refl
  where
    later : nat_eq k x ≡ false → Misses k xs ⊎ IsMember xs k → Misses k (x ∷ xs) ⊎ IsMember (x ∷ xs) k
    later e (inl m) = inl ((λ same. let t : nat_eq k x ≡ true = eq-eqb k x same in cc), m)
    later e (inr w) = inr (record { front = x ∷ w.front; behind = w.behind; parts = ap (λ (ns : List ℕ). x ∷ ns) w.parts })

-- what is nothing is not something
pub some_none : (o : Option QueueEntry) → o ≡ None → IsSome o → ⊥
some_none None e h = cc
some_none (Some x) e h = cc

-- the last of a list that ends with a number is that number
pub last_is : (p k : ℕ) (xs : List ℕ) → last_of p (xs ++ k ∷ []) ≡ k
last_is p k [] = refl
last_is p k (x ∷ xs) = last_is x k xs

-- those in front of a request stand before it
before_it : (f : ℕ → Waiting) (xs ys : List ℕ) (k : ℕ) → Rising (map f (xs ++ k ∷ ys)) → AllByRecursion (λ j. rank (f j) < rank (f k)) xs
before_it f [] ys k h = tt
before_it f (x ∷ xs) ys k h = (within xs h.0, before_it f xs ys k h.1)
  where
    within : (zs : List ℕ) → AllByRecursion (λ v. rank (f x) < rank v) (map f (zs ++ k ∷ ys)) → rank (f x) < rank (f k)
    within [] g = g.0
    within (z ∷ zs) g = within zs g.1

weaker : (f : ℕ → ℕ) (a b : ℕ) (xs : List ℕ) → a < b → AllByRecursion (λ j. f j < a) xs → AllByRecursion (λ j. f j < b) xs
weaker f a b [] lt h = tt
weaker f a b (x ∷ xs) lt h = (let l : f x < a = h.0 in omega arith, weaker f a b xs lt h.1)

-- a walk begins
pub led : (es : List (Option QueueEntry)) (m : ℕ) (members : List ℕ) (size k : ℕ) → AreKept es members size → Starts es m k → IsPassed es m members k
led es m members size k kept (inl zero_it) = record { cut = record { front = []; behind = members; parts = refl; last = zero_it }; below = tt }
led es m members size k kept (inr leads) = by (find k members)
  where
    by : Misses k members ⊎ IsMember members k → IsPassed es m members k
    by (inl misses) = absurd (some_none (entry_at es k) (kept.empty k misses) leads.there)
    by (inr w) = record {
      cut = record { front = w.front ++ k ∷ []; behind = w.behind; parts = w.parts ∙ sym (append_assoc w.front (k ∷ []) w.behind); last = sym (last_is 0 k w.front) };
      below = all_both (λ j. rank (waiting_at es j) < m) w.front (k ∷ [])
          (weaker (λ j. rank (waiting_at es j)) (rank (waiting_at es k)) m w.front leads.below
          (before_it (waiting_at es) w.front w.behind k (subst (λ (ns : List ℕ). Rising (map (waiting_at es) ns)) w.parts kept.ordered.rising)))
          (leads.below, tt);
    }

-- nothing waits under 0
no_zero : (es : List (Option QueueEntry)) (m k : ℕ) → k ≡ 0 → Leads es m k → ⊥
no_zero es m k e leads = some_none None refl (subst (λ (n : ℕ). IsSome (entry_at es n)) e leads.there)

-- it goes on
pub goes : (es : List (Option QueueEntry)) (m : ℕ) (members : List ℕ) (at next : ℕ) → IsWalking es m members at next → Leads es m next → IsPassed es m members next
goes es m members at next w leads = by w.passed.cut.behind w.passed.cut.parts w.next_is
  where
    by : (behind : List ℕ) → members ≡ w.passed.cut.front ++ behind → next ≡ first_of 0 behind → IsPassed es m members next
    by [] parts is = absurd (no_zero es m next is leads)
    by (b ∷ bs) parts is = record {
      cut = record { front = w.passed.cut.front ++ b ∷ []; behind = bs; parts = parts ∙ sym (append_assoc w.passed.cut.front (b ∷ []) bs); last = is ∙ sym (last_is 0 b w.passed.cut.front) };
      below = all_both (λ j. rank (waiting_at es j) < m) w.passed.cut.front (b ∷ []) w.passed.below
          (subst (λ (n : ℕ). rank (waiting_at es n) < m) is leads.below, tt);
    }

rest_is : (p : ℕ) (front behind : List ℕ) → Differ (p ∷ (front ++ behind)) → rest_after (last_of p front) (p ∷ (front ++ behind)) ≡ behind
rest_is p [] behind d = ap (λ (b : Bool). cond b behind (rest_after p behind)) (eq-eqb p p refl)
rest_is p (x ∷ xs) behind d =
    skip (x ∷ (xs ++ behind)) (λ e. misses_last p x xs d.0.0 (misses_front p xs behind d.0.1) (sym e)) ∙ rest_is x xs behind d.1
  where
    skip : (ys : List ℕ) → last_of x xs ≢ p → cond (nat_eq (last_of x xs) p) ys (rest_after (last_of x xs) ys) ≡ rest_after (last_of x xs) ys
    skip ys ne = elim (nat_eq (last_of x xs) p) as (λ b. nat_eq (last_of x xs) p ≡ b → cond b ys (rest_after (last_of x xs) ys) ≡ rest_after (last_of x xs) ys) [
      | true ↦ λ e. absurd (ne (eqb-true (last_of x xs) p e))
      | false ↦ λ e. refl
    ] refl

cut_rest : (members : List ℕ) (at : ℕ) → Differ (0 ∷ members) → (c : IsCut members at) → rest_after at (0 ∷ members) ≡ c.behind
cut_rest members at d c =
    ap (λ (n : ℕ). rest_after n (0 ∷ members)) c.last ∙ ap (λ (ns : List ℕ). rest_after (last_of 0 c.front) (0 ∷ ns)) c.parts
    ∙ rest_is 0 c.front c.behind (subst (λ (ns : List ℕ). Differ (0 ∷ ns)) c.parts d)

-- there is less to walk
pub nearer : (es : List (Option QueueEntry)) (m : ℕ) (members : List ℕ) (at next : ℕ) → Differ (0 ∷ members) → IsWalking es m members at next → Leads es m next
    → length (rest_after next (0 ∷ members)) < length (rest_after at (0 ∷ members))
nearer es m members at next d w leads = by w.passed.cut.behind w.passed.cut.parts w.next_is (cut_rest members at d w.passed.cut)
  where
    by : (behind : List ℕ) → members ≡ w.passed.cut.front ++ behind → next ≡ first_of 0 behind → rest_after at (0 ∷ members) ≡ behind
        → length (rest_after next (0 ∷ members)) < length (rest_after at (0 ∷ members))
    by [] parts is rest = absurd (no_zero es m next is leads)
    by (b ∷ bs) parts is rest =
        let there : rest_after next (0 ∷ members) ≡ bs = cut_rest members next d (record { front = w.passed.cut.front ++ b ∷ []; behind = bs; parts = parts ∙ sym (append_assoc w.passed.cut.front (b ∷ []) bs); last = is ∙ sym (last_is 0 b w.passed.cut.front) }) in
        let less : length (rest_after next (0 ∷ members)) ≡ length bs = ap length there in
        let more : length (rest_after at (0 ∷ members)) ≡ suc (length bs) = ap length rest in
        omega arith

-- it ends
pub ended : (es : List (Option QueueEntry)) (m : ℕ) (members : List ℕ) (size at next : ℕ) → AreKept es members size → IsWalking es m members at next → (Leads es m next → ⊥) → IsWalked es m members at
ended es m members size at next kept w stop = record { passed = w.passed; ends = by w.passed.cut.behind w.passed.cut.parts w.next_is }
  where
    by : (behind : List ℕ) → members ≡ w.passed.cut.front ++ behind → next ≡ first_of 0 behind → IsNoneBefore es m behind
    by [] parts is = tt
    by (b ∷ bs) parts is =
        let some : IsSome (entry_at es b) = (all_behind (λ k. IsSome (entry_at es k)) w.passed.cut.front (b ∷ bs) (subst (AllByRecursion (λ k. IsSome (entry_at es k))) parts kept.filled)).0 in
        let none : rank (waiting_at es b) < m → ⊥ = λ lt. stop (subst (Leads es m) (sym is) (record { there = some; below = lt })) in
        omega (arith, none)
