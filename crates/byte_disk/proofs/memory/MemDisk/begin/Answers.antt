use Rattle.byte_disk.proofs.Kept.{sound_later}
use Rattle.byte_disk.proofs.memory.MemDisk.begin.Goals as goal

pub invariant_of-self : goal.invariant_of-self
invariant_of-self c = sound_later _ _ _ _ c.saturating_add-self-inside.ensures c.self.invariant
