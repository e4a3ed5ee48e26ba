-- What a crash may leave of anything that commands change. `leaves` is what a crash at this moment may leave of it, and
-- `since t` what one may have left at this moment or at an earlier one since the number of commands had reached t.
use Rattle.std.specs.Prelude.{ℕ, ◌+◌, ◌-◌, ◌^◌, ◌≤◌, ◌≡◌, ◌⊎◌, min, Option, Some, None}

-- What a crash may leave after a command is what it could leave before, after a step that the command allows. What
-- it may have left since a number that the commands had reached before is all that it could have left by then, and no
-- more than that and such a step.
pub record Crashes {X : Type 0} (step : X → X → Type 0) (count : ℕ) (leaves_old leaves_new : X → Type 0)
    (since_old since_new : ℕ → X → Type 0) : Type 0 where
  pub now : (image : X) → leaves_new image → (before : X) × leaves_old before × step before image
  pub since : (t : ℕ) (image : X) → t ≤ count → since_new t image
      → since_old t image ⊎ ((before : X) × leaves_old before × step before image)
  pub kept : (t : ℕ) (image : X) → t ≤ count → since_old t image → since_new t image

-- within a command that only reads: nothing that a crash couldn't leave before
abbrev pub NothingNew : {X : Type 0} → X → X → Type 0
NothingNew before image = image ≡ before

-- What a run of commands that only read leaves to a crash: nothing that it couldn't leave before, and since a number
-- that the commands had reached before, just what it could have left by then. It has at most so many commands.
pub record OnlyReads {X : Type 0} (most count_old count_new : ℕ) (leaves_old leaves_new : X → Type 0)
    (since_old since_new : ℕ → X → Type 0) : Type 0 where
  pub later : count_old ≤ count_new
  pub bound : count_new ≤ min (count_old + most) (2 ^ 64 - 1)
  pub leaves : (image : X) → leaves_new image → leaves_old image
  pub since : (t : ℕ) (image : X) → t ≤ count_old → since_new t image → since_old t image
  pub kept : (t : ℕ) (image : X) → t ≤ count_old → since_old t image → since_new t image

-- nothing is pending: where it is told what reads, every crash leaves that
abbrev pub IsSure : {X : Type 0} → Option X → (X → Type 0) → Type 0
IsSure None leaves = Unit {0}
IsSure {X = X} (Some held) leaves = (image : X) → leaves image → image ≡ held

-- the same of one part of it
abbrev pub IsSureOf : {X Y : Type 0} → (X → Y) → Option X → (X → Type 0) → Type 0
IsSureOf part None leaves = Unit {0}
IsSureOf {X = X} part (Some held) leaves = (image : X) → leaves image → part image ≡ part held
