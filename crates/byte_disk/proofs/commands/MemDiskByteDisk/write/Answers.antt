use Rattle.std.proofs.Common.{◌≤◌, length}
use Rattle.byte_disk.specs.Files.{Files, bytes_of}
use Rattle.byte_disk.proofs.Told.{record_files, some_told}
use Rattle.byte_disk.proofs.commands.MemDiskByteDisk.write.Goals as goal

pub overwrite-requires-clause-within : goal.overwrite-requires-clause-within
overwrite-requires-clause-within c =
    let old = c.args.self.now in
    some_told (λ (d : Files). c.args.at ≤ length (bytes_of c.args.file d)) old.held
    (record_files old.held old.acts c.acts-sound.ensures.sound.kept) c.requires.within
