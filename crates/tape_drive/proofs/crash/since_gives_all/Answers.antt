use Rattle.tape_drive.proofs.Since.{since_gave, gave_since}
use Rattle.tape_drive.proofs.crash.since_gives_all.Goals as goal

pub returns : goal.returns
returns c t image =
    let drive = c.args.drive.now in (
      since_gave drive.commands drive.held drive.acts t image,
      gave_since drive.commands drive.held drive.acts t image c.acts-sound.ensures.sound.numbers,
    )
