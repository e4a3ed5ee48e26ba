-- For those who use a lock: that what they append is their own, and that what came later is not.
use Rattle.std.proofs.Common.{◌≡◌, ◌≢◌, ℕ, ◌<◌, ◌≤◌, arith, Bool, true, false, List, [], ◌∷◌, ◌++◌, sym, ◌∙◌, subst, append-nil, if◌then◌else◌}
use Rattle.std.specs.List.{All, Contains}
use Rattle.std.proofs.lemmas.List.Elements.{All-cons, All-nil, All-weaker}
use Rattle.turn_lock.specs.Sums.{times}
use Rattle.turn_lock.specs.Histories.{IsAnothers, Sees, AddsOwn, own_entries}
use mathlib.Core.Logic.{dite}
use native.Mathlib.Decide.{ℕ_discrete}
use Rattle.std.proofs.lemmas.Bool.Decides.{nat_tests}
use Rattle.turn_lock.proofs.SumLemmas.{times_head, stands, stands_in}
use Rattle.turn_lock.proofs.HistoryLemmas.{sees_more, sees_fewer, sees_own}

-- the number of who has just one
alone : (n m : ℕ) (numbers : List ℕ) → numbers ≡ n ∷ [] → m ≡ n → Contains numbers m
alone n m numbers own is = stands_in numbers m (subst (λ (ns : List ℕ). 0 < times m ns) (sym own) (subst (λ (k : ℕ). 0 < times m (k ∷ [])) is (times_head m [])))

once_at_most : (n k : ℕ) → times k (n ∷ []) ≤ 1
once_at_most n k = grind (arith, nat_tests)

not_there : (n k : ℕ) → n ≢ k → times k (n ∷ []) ≡ 0
not_there n k ne = grind (arith, nat_tests, ne)

module _ {M : Type 0} (names : M → ℕ) where
  -- entries of one's only number
  pub adds_more : (n : ℕ) (numbers : List ℕ) (seen whole later : List M) → numbers ≡ n ∷ [] → whole ≡ seen ++ later → All (λ e. names e ≡ n) later → AddsOwn names numbers seen whole
  adds_more n numbers seen whole later own more h = record { later = later; begins = sym more; own = All-weaker (λ e. names e ≡ n) (λ e. Contains numbers (names e)) (λ e is. alone n (names e) numbers own is) later h }

  pub adds_none : (numbers : List ℕ) (seen whole : List M) → whole ≡ seen → AddsOwn names numbers seen whole
  adds_none numbers seen whole same = record { later = []; begins = append-nil seen ∙ sym same; own = All-nil (λ e. Contains numbers (names e)) }

  pub adds_one : (n : ℕ) (numbers : List ℕ) (seen whole : List M) (e : M) → numbers ≡ n ∷ [] → names e ≡ n → whole ≡ seen ++ e ∷ [] → AddsOwn names numbers seen whole
  adds_one n numbers seen whole e own is more = adds_more n numbers seen whole (e ∷ []) own more (All-cons (λ x. names x ≡ n) e [] is (All-nil (λ x. names x ≡ n)))

  pub adds_two : (n : ℕ) (numbers : List ℕ) (seen whole : List M) (d e : M) → numbers ≡ n ∷ [] → names d ≡ n → names e ≡ n → whole ≡ seen ++ d ∷ e ∷ [] → AddsOwn names numbers seen whole
  adds_two n numbers seen whole d e own is also more = adds_more n numbers seen whole (d ∷ e ∷ []) own more (All-cons (λ x. names x ≡ n) d (e ∷ []) is (All-cons (λ x. names x ≡ n) e [] also (All-nil (λ x. names x ≡ n))))

  -- one entry, or none
  pub adds_if : (n : ℕ) (numbers : List ℕ) (seen whole : List M) (e : M) (b : Bool) → numbers ≡ n ∷ [] → names e ≡ n → whole ≡ (if b then seen ++ e ∷ [] else seen) → AddsOwn names numbers seen whole
  adds_if n numbers seen whole e true own is more = adds_one n numbers seen whole e own is more
  adds_if n numbers seen whole e false own is more = adds_none numbers seen whole more

  -- what comes after does not name a number that one has
  pub later_of_others : (seats n : ℕ) (numbers : List ℕ) (seen whole : List M) → Contains numbers n → Sees names seats numbers seen whole → (later : List M) × (seen ++ later ≡ whole) × All (λ e. names e ≢ n) later
  later_of_others seats n numbers seen whole at s = (s.later, s.begins, All-weaker (λ e. IsAnothers seats numbers (names e)) (λ e. names e ≢ n) (λ e h is. h.not_own (subst (Contains numbers) (sym is) at)) s.later s.anothers)

  -- who sees for all its numbers sees for each
  pub sees_of_one : (seats n : ℕ) (numbers : List ℕ) (seen whole : List M) → Contains numbers n → Sees names seats numbers seen whole → Sees names seats (n ∷ []) seen whole
  sees_of_one seats n numbers seen whole at s = sees_fewer names seats numbers (n ∷ []) seen whole (λ k. dite (ℕ_discrete n k)
      (λ e. let h : 0 < times k numbers = subst (λ (j : ℕ). 0 < times j numbers) e (stands numbers n at) in let one : times k (n ∷ []) ≤ 1 = once_at_most n k in omega (arith, h, one))
      (λ ne. let z : times k (n ∷ []) ≡ 0 = not_there n k ne in omega (arith, z))) s

  -- so the entries of each of its numbers are those that it has seen
  pub own_of_one : (seats n : ℕ) (numbers : List ℕ) (seen whole : List M) → Contains numbers n → Sees names seats numbers seen whole → own_entries names (n ∷ []) whole ≡ own_entries names (n ∷ []) seen
  own_of_one seats n numbers seen whole at s = sees_own names seats (n ∷ []) seen whole (sees_of_one seats n numbers seen whole at s)

  -- one history after another
  pub sees_then : (seats : ℕ) (numbers : List ℕ) (seen mid whole : List M) → Sees names seats numbers seen mid → Sees names seats numbers mid whole → Sees names seats numbers seen whole
  sees_then seats numbers seen mid whole a b = sees_more names seats numbers seen mid b.later whole a b.begins b.anothers
