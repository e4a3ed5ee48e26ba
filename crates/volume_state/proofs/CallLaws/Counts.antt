-- What a step of the head counts.
use Rattle.std.specs.Prelude.{◌≡◌, ℕ, ◌+◌, ◌*◌, ◌-◌, ◌^◌, ◌≤◌, min, List}
use Rattle.std.proofs.Common.{arith, mul-le-mul_right}
use Rattle.tape_types.specs.declared.cartridges.Place.{Place}
use Rattle.tape_drive.specs.declared.drive.Drive.{Ghosts}
use Rattle.session_script.specs.declared.logs.Event.{Event}
use Rattle.head_core.specs.Steps.{IsMade, least_commands, most_commands}
use Rattle.head_core.specs.declared.work.StepDone.{StepDone}
use Rattle.head_core.specs.declared.work.StepDone.TheVariants as ends
use Rattle.head_queue.specs.EventLaws.Trail.{steps}
use Rattle.tape_layout.specs.declared.ops.Op.{Op}
use Rattle.tape_layout.specs.declared.ops.Op.TheVariants.{Flush, Mark, Put}
use Rattle.promises.specs.ServingPromise.Served.{View}
use Rattle.promises.specs.ServingPromise.Steps.{StepCounts}
use Rattle.promises.specs.OrderLaws.Kept.{seen}

one_at_least : (end : StepDone) → 1 ≤ least_commands end
one_at_least (ends.Read got) = omega arith
one_at_least ends.Wrote = omega arith
one_at_least ends.Flushed = omega arith
one_at_least (ends.Failed counts) = omega arith

-- an op takes two commands at most
pub two_at_most : (op : Op) → most_commands op ≤ 2
two_at_most (Put place bytes) = omega arith
two_at_most (Mark place) = omega arith
two_at_most (Flush place) = omega arith

-- a bound that grows with what is added
min_more : (before less more top now : ℕ) → less ≤ more → min (before + more) top ≤ now → min (before + less) top ≤ now
min_more before less more top now le h = omega (arith, le, h)

min_most : (before less more top now : ℕ) → less ≤ more → now ≤ min (before + less) top → now ≤ min (before + more) top
min_most before less more top now le h = omega (arith, le, h)

times : (a b n : ℕ) → a ≤ b → a * n ≤ b * n
times a b n le = mul-le-mul_right n le

-- the numbers of commands and faults after a step are such as it counts
pub step_counts : {D : Type 0} (drive : Ghosts D) (at : Place) (most : ℕ) (end : StepDone) (before now : D) (old new : View D) (added : List Event)
    → IsMade drive at most end before now → most ≤ 2 → steps added ≡ 1
    → StepCounts drive.MOST (seen drive before) (seen drive now) old new added
step_counts drive at most end before now old new added made le one = record {
  still = λ none. absurd (omega (arith, one, none));
  later = made.commands.later;
  at_least = min_more (drive.commands before) (steps added) (least_commands end) (2 ^ 64 - 1) (drive.commands now) (omega (arith, one, one_at_least end)) made.commands.at_least;
  faults = made.faults_later;
  at_most = min_most (drive.commands before) (most * drive.MOST) (2 * drive.MOST) (2 ^ 64 - 1) (drive.commands now) (times most 2 drive.MOST le) made.commands.at_most;
}
