use Rattle.std.proofs.Common.{◌≡◌, ◌≤◌, ◌+◌, ◌*◌, take}
use Rattle.std.specs.Prelude.{reverse}
use Rattle.tape_drive.specs.Images.{moments}
use Rattle.tape_drive.proofs.crash.count_moments.Given as goal

abbrev pub invariant-loop-entry : goal.invariant-loop-entry
invariant-loop-entry l = record { so_far : l.n ≡ moments (reverse (take l.entry-index l.acts)); few : l.n ≤ 2 * l.entry-index + 1; some : 1 ≤ l.n }
