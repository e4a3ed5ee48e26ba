-- A disk over another one, with a count of commands of its own. Of each moment between two commands that is past it
-- keeps the disk inside, and what it had beside.
use Rattle.std.specs.Prelude.{ℕ, ◌+◌, ◌-◌, ◌^◌, ◌≡◌, min, List, ◌∷◌}
use Rattle.byte_disk.specs.Files.{Files}
use Rattle.byte_disk.specs.declared.disk.ByteDisk.{Ghosts}
use Rattle.own_count.specs.Own.{own, AreReached}

-- what is said of the disk inside, at a moment
abbrev pub commands_of : {A D : Type 0} → Ghosts D → A × D → ℕ
commands_of disk m = disk.commands m.1

abbrev pub since_of : {A D : Type 0} → Ghosts D → A × D → ℕ → Files → Type 0
since_of disk m t image = disk.left_since m.1 t image

-- a disk that has had so many commands, and the moments that are past
pub record IsCounted {A D : Type 0} (disk : Ghosts D) (count : ℕ) (past : List (A × D)) (now : A × D) : Type 0 where
  pub counted : count ≡ own past
  pub reached : AreReached (commands_of disk) past now

-- the moments that are past once this one is
pub record IsPast {A D : Type 0} (disk : Ghosts D) (count : ℕ) (before : List (A × D)) (now : A × D)
    (past : List (A × D)) : Type 0 where
  pub are : past ≡ now ∷ before
  pub was : IsCounted disk count before now

-- those of a disk once it has had a command more
abbrev pub IsNext : {A D : Type 0} → Ghosts D → ℕ → List (A × D) → A × D → Type 0
IsNext disk count past now = IsCounted disk (min (count + 1) (2 ^ 64 - 1)) past now

-- a command is past
pub record HasRun {A D : Type 0} (disk : Ghosts D) (before : List (A × D)) (old : A × D)
    (past : List (A × D)) : Type 0 where
  pub are : past ≡ old ∷ before
  pub reached : AreReached (commands_of disk) before old
