-- The first place where something holds, as a loop over the nodes finds it.
use Rattle.std.proofs.Common.{◌≡◌, ℕ, ◌+◌, ◌<◌, List, true, false, ⊎_elim, subst, arith}
use Rattle.std.proofs.lemmas.Bool.{cases_lt}
use Rattle.index_model.specs.declared.nodes.Node.{Node}
use Rattle.index_model.specs.Places.{IsAt}
use Rattle.index_model.specs.IndexFaults.Firsts.{IsNowhereBefore, IsToldFirst}

-- a node where something holds, and before which it holds nowhere, is told as the first
pub told_first : (P : ℕ → Type 0) (nodes : List Node) (at uid : ℕ) (node : Node) → IsNowhereBefore P at → P at → IsAt nodes at node → node.uid ≡ uid → IsToldFirst P nodes uid
told_first P nodes at uid node none here is same = record {
  at = at;
  first = record { here = here; none_before = none };
  told = record { node = node; is = is; same = same };
}

-- nor at this place
pub before_more : (P : ℕ → Type 0) (at : ℕ) → IsNowhereBefore P at → (P at → ⊥) → IsNowhereBefore P (at + 1)
before_more P at none here before less h =
    ⊎_elim (λ lower. none before lower h) (λ more. let e : before ≡ at = omega (arith, more, less) in here (subst P e h)) (cases_lt before at)

-- nor anywhere
pub nowhere : (P : ℕ → Type 0) (n : ℕ) → ((at : ℕ) → P at → at < n) → IsNowhereBefore P n → (at : ℕ) → P at → ⊥
nowhere P n within none at h = none at (within at h) h

-- false is not true
pub false_true : false ≡ true → ⊥
false_true e = cc e
