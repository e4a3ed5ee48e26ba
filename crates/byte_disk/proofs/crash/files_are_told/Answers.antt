use Rattle.byte_disk.proofs.Told.{are_told, record_files}
use Rattle.byte_disk.proofs.crash.files_are_told.Goals as goal

pub returns : goal.returns
returns c =
    let disk = c.args.disk.now in
    are_told disk.held (record_files disk.held disk.acts c.acts-sound.ensures.sound.kept)
