use Rattle.run_laws.proofs.Images.{new_ready}
use Rattle.run_laws.proofs.memory.new_drives_are_ready.Goals as goal

pub returns : goal.returns
returns c = new_ready
