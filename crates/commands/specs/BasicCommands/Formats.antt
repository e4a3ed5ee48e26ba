-- What `format` does to a cartridge, and what it prints.
use Rattle.std.specs.Prelude.{◌≡◌, ℕ, List, ◌++◌, Option, Some, codes, decimal}
use Rattle.std.specs.Io.KnownBytes.{Appends}
use Rattle.tape_types.specs.Uuids.{uuid_text}
use Rattle.tape_types.specs.declared.cartridges.Cartridge.{Cartridge}
use Rattle.tape_types.specs.declared.cartridges.Limits.{Limits}
use Rattle.tape_types.specs.declared.cartridges.Twin.{Twin}
use Rattle.tape_types.specs.declared.moments.Moment.{Moment}
use Rattle.tape_drive.specs.Crashes.{IsSure}
use Rattle.tape_drive.specs.declared.drive.Drive.{Ghosts}
use Rattle.cartridge_meaning.specs.declared.errors.MountErr.TheVariants as mounts
use Rattle.format_volume.specs.Meanings.{IsEmptyVolume}
use Rattle.format_volume.specs.Outcomes.{AreCounts, CanStand, IsSureSince}
use Rattle.format_volume.specs.Steps.{HoldsVolume}
use Rattle.format_volume.specs.Volumes.{full}
use Rattle.format_volume.specs.declared.requests.FormatErr.{FormatErr}
use Rattle.format_volume.specs.declared.requests.FormatErr.TheVariants as errors
use Rattle.format_volume.specs.declared.requests.FormatSpec.{FormatSpec}
use Rattle.commands.specs.CommandLine.Volumes.{spec_at}
use Rattle.commands.specs.declared.command_line.volumes.FormatWords.{FormatWords}
use Rattle.commands.specs.BasicCommands.Headline.{IsMoment}
use Rattle.commands.specs.BasicCommands.Labels.{mount_text}
use Rattle.commands.specs.BasicCommands.Runs.{Gives}

-- `formatted UUID`, and `full NEED LIMIT`
abbrev pub formatted_text : ℕ → List ℕ
formatted_text uuid = codes "formatted " ++ uuid_text uuid ++ codes "\n"

abbrev pub full_text : (need limit : ℕ) → List ℕ
full_text need limit = codes "full " ++ (decimal need ++ (codes " " ++ (decimal limit ++ codes "\n")))

-- the line of each refusal; a value that a volume may not have is a word of no form
abbrev pub format_text : FormatErr → List ℕ
format_text (errors.BadSpec field) = codes "words\n"
format_text (errors.Full need limit) = full_text need limit
format_text (errors.Drive counts) = mount_text (mounts.Drive counts)
format_text errors.NoMemory = codes "memory\n"

-- 8 for too few positions, 4 for a drive that failed, 7 for want of memory
abbrev pub format_status : FormatErr → ℕ
format_status (errors.BadSpec field) = 1
format_status (errors.Full need limit) = 8
format_status (errors.Drive counts) = 4
format_status errors.NoMemory = 7

-- Where the drive tells its cartridge, this is the empty volume, on which its labels, indexes and notes stand; nothing
-- is pending, and it had room for it.
pub record IsFormatted {D : Type 0} (drive : Ghosts D) (spec : FormatSpec) (old new : D) : Type 0 where
  pub stands : (c : Cartridge) → drive.held new ≡ Some c → IsEmptyVolume spec c
  pub holds : HoldsVolume drive spec old new
  pub sure : IsSure (drive.held new) (drive.leaves new)
  pub since : IsSureSince drive new
  pub fits : CanStand spec (drive.limits old)

-- the moment of the words, or else the first that the clock gives
abbrev pub IsMadeAt : FormatWords → Gives → Moment → Type 0
IsMadeAt asked gives at = IsMoment asked.at gives 0 at

-- the volume that is asked for has room, whenever it is made; or it has none
abbrev pub AlwaysFits : FormatWords → Gives → Limits → Type 0
AlwaysFits asked gives limits = (at : Moment) → IsMadeAt asked gives at → CanStand (spec_at asked at) limits

abbrev pub NeverFits : FormatWords → Gives → Limits → Type 0
NeverFits asked gives limits = (at : Moment) → IsMadeAt asked gives at → ¬ (CanStand (spec_at asked at) limits)

-- the cartridge was formatted with the values of the words
abbrev pub IsFormattedAs : {D : Type 0} → Ghosts D → FormatWords → Gives → (old new : D) → Type 0
IsFormattedAs drive asked gives old new =
    (at : Moment) × IsMadeAt asked gives at × IsFormatted drive (spec_at asked at) old new

-- it needs more positions than the first partition has that has too few, by these numbers
abbrev pub IsFull : FormatWords → Gives → Limits → (need limit : ℕ) → Type 0
IsFull asked gives limits need limit =
    (at : Moment) × IsMadeAt asked gives at × (full (spec_at asked at) limits ≡ Some (need, limit))

-- these two numbers were printed
abbrev pub IsFullPrinted : FormatWords → Gives → Limits → (old new : Option (List ℕ)) → Type 0
IsFullPrinted asked gives limits old new =
    (need : ℕ) × (limit : ℕ) × IsFull asked gives limits need limit × Appends old new (full_text need limit)

-- what `format` comes to: the volume of this UUID was made, or it was refused, or the drive failed and memory for
-- telling that was refused
pub data FormatEnd : Type 0 where
  formatted : ℕ → FormatEnd
  unformatted : FormatErr → FormatEnd
  untold : Twin → FormatEnd

abbrev pub end_status : FormatEnd → ℕ
end_status (formatted uuid) = 0
end_status (unformatted error) = format_status error
end_status (untold counts) = 7

abbrev pub end_text : FormatEnd → List ℕ
end_text (formatted uuid) = formatted_text uuid
end_text (unformatted error) = format_text error
end_text (untold counts) = codes "memory\n"

-- When `format` is refused so: never for a value, since the words have such as a volume may have; for too few positions
-- and for want of memory with the drive as it was.
abbrev pub IsUnformatted : {D : Type 0} → Ghosts D → FormatWords → Gives → (old new : D) → FormatErr → Type 0
IsUnformatted drive asked gives old new (errors.BadSpec field) = ⊥
IsUnformatted drive asked gives old new (errors.Full need limit) =
    IsFull asked gives (drive.limits old) need limit × (new ≡ old)
IsUnformatted drive asked gives old new (errors.Drive counts) =
    ((at : Moment) × IsMadeAt asked gives at × CanStand (spec_at asked at) (drive.limits old))
    × AreCounts (drive.faults old) (drive.faults new) (errors.Drive counts)
IsUnformatted drive asked gives old new errors.NoMemory = new ≡ old

-- when `format` ends so
abbrev pub IsFormatEnd : {D : Type 0} → Ghosts D → FormatWords → Gives → (old new : D) → FormatEnd → Type 0
IsFormatEnd drive asked gives old new (formatted uuid) =
    (uuid ≡ asked.volume.uuid) × IsFormattedAs drive asked gives old new
IsFormatEnd drive asked gives old new (unformatted error) = IsUnformatted drive asked gives old new error
IsFormatEnd drive asked gives old new (untold counts) = IsUnformatted drive asked gives old new (errors.Drive counts)
