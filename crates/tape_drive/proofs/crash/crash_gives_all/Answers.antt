use Rattle.tape_drive.proofs.Exact.{left_gave, gave_left}
use Rattle.tape_drive.proofs.crash.crash_gives_all.Goals as goal

pub returns : goal.returns
returns c image = (left_gave c.args.drive.now.held c.args.drive.now.acts image, gave_left c.args.drive.now.held c.args.drive.now.acts image)
