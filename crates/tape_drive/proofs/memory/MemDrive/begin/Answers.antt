use Rattle.tape_drive.proofs.Sound.{sound_later}
use Rattle.tape_drive.proofs.memory.MemDrive.begin.Goals as goal

pub invariant_of-self : goal.invariant_of-self
invariant_of-self c = sound_later _ _ _ _ _ c.saturating_add-self-inside.ensures c.self.invariant
