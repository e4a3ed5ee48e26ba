-- What every command of a disk over another one does to its count, and leaves.
use Rattle.std.proofs.Common.{◌≡◌, ℕ, ◌-◌, ◌^◌, ◌<◌, ◌≤◌, List, ◌∷◌, length, sym, ◌∙◌, ap, subst, arith}
use Rattle.crash_steps.specs.Crashes.{Crashes}
use Rattle.byte_disk.specs.Commands.{IsOneMore}
use Rattle.byte_disk.specs.Files.{Files}
use Rattle.byte_disk.specs.declared.disk.ByteDisk.{Ghosts}
use Rattle.own_count.specs.Own.{AreReached, LeftSince, Runs, own}
use Rattle.own_count.proofs.Counting.{reached_on}
use Rattle.own_count.proofs.Running as running
use Rattle.disk_layers.specs.Layers.{HasRun, IsCounted, IsNext, IsPast, commands_of, since_of}

module _ {A D : Type 0} (disk : Ghosts D) where
  -- a command ends
  pub next_is : (count more : ℕ) (before past : List (A × D)) (old new : A × D) → IsPast disk count before old past → more ≡ count
      → disk.commands old.1 ≤ disk.commands new.1 → IsNext disk more past new
  next_is count more before past old new at same later =
      let longer : length past ≡ length (old ∷ before) = ap length at.are in
      record {
        counted = omega (arith, longer, same, at.was.counted);
        reached = subst (λ (l : List (A × D)). AreReached (commands_of disk) l new) (sym at.are)
            (reached_on (commands_of disk) before old new later at.was.reached);
      }

  -- it counts as one
  pub counts_one : (before past : List (A × D)) (old : A × D) → HasRun disk before old past → IsOneMore (own before) (own past)
  counts_one before past old ran =
      let longer : length past ≡ length (old ∷ before) = ap length ran.are in
      record { in_range = omega arith; one_more = omega (arith, longer) }

  module _ (leaves : A × D → Files → Type 0) where
    -- what it leaves
    pub crash_of : {step : Files → Files → Type 0} (before past : List (A × D)) (old new : A × D)
        → ((image : Files) → disk.commands new.1 < 2 ^ 64 - 1 → disk.left_since new.1 (disk.commands new.1) image → leaves new image)
        → HasRun disk before old past → Runs (commands_of disk) leaves (since_of disk) step old new
        → Crashes step (own before) (leaves old) (leaves new)
        (LeftSince (commands_of disk) leaves (since_of disk) before old) (LeftSince (commands_of disk) leaves (since_of disk) past new)
    crash_of {step = step} before past old new only ran runs =
        subst (λ (l : List (A × D)). Crashes step (own before) (leaves old) (leaves new)
        (LeftSince (commands_of disk) leaves (since_of disk) before old) (LeftSince (commands_of disk) leaves (since_of disk) l new)) (sym ran.are)
        (running.crash (commands_of disk) leaves (since_of disk) before old new ran.reached only runs)
