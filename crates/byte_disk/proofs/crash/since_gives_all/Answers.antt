use Rattle.byte_disk.proofs.Since.{since_gave, gave_since}
use Rattle.byte_disk.proofs.crash.since_gives_all.Goals as goal

pub returns : goal.returns
returns c t image =
    let disk = c.args.disk.now in
    let sound = c.acts-sound.ensures.sound in (
      since_gave disk.commands disk.held disk.acts t image sound.kept,
      gave_since disk.commands disk.held disk.acts t image sound.numbers sound.kept,
    )
