-- The moments of a drive that tells its content.
use Rattle.tape_types.specs.declared.cartridges.Cartridge.{Cartridge}
use Rattle.tape_drive.specs.declared.drive.Drive.{Ghosts}
use Rattle.promises.specs.ImageLaws.Kept.{Moment}

-- a drive at a moment, with the cartridge that it tells then
abbrev pub moment_of : {D : Type 0} → Ghosts D → D → Cartridge → Moment
moment_of drive d held = record
    { held = held; commands = drive.commands d; leaves = drive.leaves d; left = drive.left_since d }
