use Rattle.std.proofs.Common.{length}
use Rattle.file_drive.proofs.Untold.{writes_add_nothing}
use Rattle.file_drive.proofs.disk.FolderDiskByteDisk.write.Goals as goal

pub returns-clause-crash : goal.returns-clause-crash
returns-clause-crash g c = writes_add_nothing c.args.file c.args.at (length c.args.bytes.now) c.args.self.now.commands
