use Rattle.std.proofs.Common.{refl}
use Rattle.tape_types.specs.declared.cartridges.Item.TheVariants as item
use Rattle.tape_drive.specs.declared.drive.DriveErr.{DriveErr}
use Rattle.tape_drive.specs.declared.schedule.Cmd.TheVariants as cmd
use Rattle.tape_drive.proofs.Meets.{put_settles}
use Rattle.tape_drive.proofs.commands.MemDriveDrive.mark.Goals as goal

pub returns-clause-settled : goal.returns-clause-settled
returns-clause-settled c =
    let ran = c.put_item.ensures.ran in
    put_settles (Unit {0}) DriveErr c.put_item.result cmd.Mark ran.0 (item.Mark) c.args.self.now c.put_item.new.self
    (ran.2 (item.Mark) refl)
