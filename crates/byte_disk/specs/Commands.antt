-- What each command of a disk does to the count of commands, and what a crash may leave of it.
use Rattle.std.specs.Prelude.{ℕ, ◌+◌, ◌-◌, ◌^◌, ◌≤◌, ◌≡◌, min, Option}
use Rattle.crash_steps.specs.Crashes.{IsSureOf}
use Rattle.byte_disk.specs.declared.disk.File.{File}
use Rattle.byte_disk.specs.Files.{Files, bytes_of, IsBroken}

-- the number of commands goes up by one, and stands still at the end of a u64
pub record IsOneMore (before now : ℕ) : Type 0 where
  pub in_range : before ≤ 2 ^ 64 - 1
  pub one_more : now ≡ min (before + 1) (2 ^ 64 - 1)

-- What a crash may leave within a write and after it, from what it could leave before: any bytes in its range. They are
-- open until a sync of the file succeeds.
abbrev pub WithinWrite : File → ℕ → ℕ → Files → Files → Type 0
WithinWrite file at n before image = IsBroken file at n before image

-- nothing of this file is pending: where the files are told, every crash leaves it as it reads
abbrev pub IsFileSure : File → Option Files → (Files → Type 0) → Type 0
IsFileSure file held leaves = IsSureOf (bytes_of file) held leaves
