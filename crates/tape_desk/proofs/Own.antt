-- The marks of a lock's number are those of its session.
use Rattle.std.specs.Prelude.{ℕ, ◌≡◌, ◌==◌, Bool, Contains, List, [], ◌∷◌, filter, map, nat_lt}
use Rattle.std.proofs.Common.{sym, ap, subst, ◌∙◌, arith}
use Rattle.std.proofs.lemmas.Bool.Decides.{nat_tests}
use Rattle.std.proofs.lemmas.List.Elements.{All-contains_itself}
use mathlib.Core.Logic.{dite}
use native.Mathlib.Decide.{ℕ_discrete}
use Rattle.turn_lock.specs.Sums.{times}
use Rattle.turn_lock.specs.Histories.{Sees, own_entries}
use Rattle.turn_lock.proofs.Callers.{own_of_one}
use Rattle.promises.specs.ServingPromise.Marks.{kinds_of}
use Rattle.promises.specs.declared.serving_promise.marks.Mark.{Mark}

-- the session of a mark
abbrev pub who_of : Mark → ℕ
who_of m = m.who

own_test : (n who : ℕ) → nat_lt 0 (times n (who ∷ [])) ≡ (n == who)
own_test n who = dite (ℕ_discrete n who) (λ e. grind (arith, nat_tests, e)) (λ ne. grind (arith, nat_tests, ne))

own_marks : (who : ℕ) (marks : List Mark)
    → own_entries who_of (who ∷ []) marks ≡ filter (λ (m : Mark). m.who == who) marks
own_marks who marks = ap (λ (p : Mark → Bool). filter p marks) (λ i m. own_test m.who who i)

-- who has the number of a session, and saw this much, knows all marks of the session
pub kinds_known : (seats who : ℕ) (numbers : List ℕ) (seen whole : List Mark) → Contains numbers who
    → Sees who_of seats numbers seen whole → kinds_of who whole ≡ kinds_of who seen
kinds_known seats who numbers seen whole at sees =
    ap (map (λ (m : Mark). m.kind))
    (sym (own_marks who whole) ∙ own_of_one who_of seats who numbers seen whole at sees ∙ own_marks who seen)

-- a pass with one number has that number
pub has_own : (n : ℕ) (numbers : List ℕ) → numbers ≡ n ∷ [] → Contains numbers n
has_own n numbers is = subst (λ (ns : List ℕ). Contains ns n) (sym is) (All-contains_itself (n ∷ []) 0 n (omega arith))
