-- What a formatting answers, and how it leaves the drive.
use Rattle.std.specs.Prelude.{ℕ, ◌-◌, ◌^◌, ◌≡◌, ◌≤◌, ◌<◌, Some, None, Result, IfErr}
use Rattle.tape_types.specs.declared.cartridges.Cartridge.{Cartridge}
use Rattle.tape_types.specs.declared.cartridges.Limits.{Limits}
use Rattle.tape_types.specs.Counts.{Rose}
use Rattle.tape_drive.specs.declared.drive.Drive.{Ghosts}
use Rattle.format_volume.specs.declared.requests.FormatErr.{FormatErr}
use Rattle.format_volume.specs.declared.requests.FormatErr.TheVariants as errors
use Rattle.format_volume.specs.declared.requests.FormatSpec.{FormatSpec}
use Rattle.format_volume.specs.Refusals.{spec_fault}
use Rattle.format_volume.specs.Volumes.{full}

-- a volume of which no field is refused, with room for it
pub record CanStand (spec : FormatSpec) (limits : Limits) : Type 0 where
  pub fine : spec_fault spec ≡ None
  pub room : full spec limits ≡ None

-- When each refusal comes: a field that may not be so, before all else; then too few positions; a drive fails only
-- where neither holds, and memory may be refused wherever the fields are fine.
abbrev pub Refuses : FormatSpec → Limits → FormatErr → Type 0
Refuses spec limits (errors.BadSpec field) = spec_fault spec ≡ Some field
Refuses spec limits (errors.Full need limit) = (spec_fault spec ≡ None) × (full spec limits ≡ Some (need, limit))
Refuses spec limits (errors.Drive counts) = CanStand spec limits
Refuses spec limits errors.NoMemory = spec_fault spec ≡ None

-- a drive that didn't fail is as it was
abbrev pub IsUntouched : {D : Type 0} → FormatErr → (old new : D) → Type 0
IsUntouched (errors.Drive counts) old new = Unit {0}
IsUntouched e old new = new ≡ old

-- a failed drive is told by its counts of faults, and only where the count rose
abbrev pub AreCounts : (before now : ℕ) → FormatErr → Type 0
AreCounts before now (errors.Drive counts) = (counts.before ≡ before) × (counts.after ≡ now) × Rose before now
AreCounts before now e = Unit {0}

-- the count never falls, and the counts that an error tells are these
pub record HasCounts {T : Type 0} (before now : ℕ) (result : Result T FormatErr) : Type 0 where
  pub later : before ≤ now
  pub told : IfErr result (AreCounts before now)

-- since the number that the commands have reached, where that isn't its end, a crash may have left the cartridge alone
abbrev pub IsSureSince : {D : Type 0} → Ghosts D → D → Type 0
IsSureSince drive now = (c image : Cartridge) → drive.held now ≡ Some c → drive.commands now < 2 ^ 64 - 1
    → drive.left_since now (drive.commands now) image → image ≡ c
