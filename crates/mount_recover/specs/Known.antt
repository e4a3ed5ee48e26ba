-- How many commands a mount takes, and which cartridges are known by their notes.
use Rattle.std.specs.Prelude.{ℕ, ◌+◌, ◌*◌, List, [], ◌∷◌, length}
use Rattle.tape_types.specs.declared.cartridges.Cartridge.{Cartridge}
use Rattle.tape_types.specs.declared.cartridges.Limits.{Limits}
use Rattle.content_laws.specs.Readings.{Construct}
use Rattle.cartridge_meaning.specs.Meaning.{Found}
use Rattle.cartridge_meaning.specs.Mounts.{IsDpDone, IsIpDone}
use Rattle.cartridge_meaning.specs.Notes.{IsCoherent}
use Rattle.cartridge_meaning.specs.Pointers.{indexes_of}

-- A mount takes so many commands at most: what its notes name may be read first, and then all that stands on both
-- partitions and the last index of each.
abbrev pub mount_most : Limits → ℕ
mount_most limits = 23 + 3 * limits.cap_ip + 3 * limits.cap_dp

-- how many blocks the newest of these indexes has
abbrev pub blocks_of_newest : List Construct → ℕ
blocks_of_newest [] = 0
blocks_of_newest (k ∷ older) = length k.blocks

-- so many blocks have the last indexes of both partitions
abbrev pub last_blocks : Cartridge → ℕ
last_blocks c = blocks_of_newest (indexes_of c.ip) + blocks_of_newest (indexes_of c.dp)

-- both notes have the cartridge's volume change reference, both partitions end with their last indexes, and a close
-- would have nothing to do
pub record IsKnownByNotes (c : Cartridge) : Type 0 where
  pub coherent : IsCoherent c
  pub found : Found c
  pub dp_done : IsDpDone c found
  pub ip_done : IsIpDone c found
