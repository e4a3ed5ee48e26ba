-- Counts of faults that rose one after the other.
use Rattle.std.specs.Prelude.{◌≤◌, ℕ, List, [], ◌∷◌, fold}
use Rattle.std.proofs.Common.{arith}
use Rattle.tape_types.specs.declared.cartridges.Twin.{Twin}
use Rattle.promises.specs.ServingPromise.Faults.{AreRises}

-- they lie within a longer time too
pub rises_within : (before now earlier later : ℕ) (faults : List Twin) → earlier ≤ before → now ≤ later
    → AreRises before now faults → AreRises earlier later faults
rises_within before now earlier later [] from to rises = omega (arith, from, to, rises)
rises_within before now earlier later (t ∷ more) from to (lowest, rose, rest) =
    (omega (arith, from, lowest), rose, rises_within t.after now t.after later more (omega arith) to rest)

-- the last one ends within the time
pub last_within : (before now : ℕ) (faults : List Twin) → AreRises before now faults
    → fold (λ _ (t : Twin). t.after) before faults ≤ now
last_within before now [] rises = rises
last_within before now (t ∷ more) (lowest, rose, rest) = last_within t.after now more rest
