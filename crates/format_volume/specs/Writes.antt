-- What writing leaves of a cartridge, and of the drive that it is in.
use Rattle.std.specs.Prelude.{ℕ, ◌+◌, ◌≡◌, ◌≤◌, List, [], ◌∷◌, ◌++◌, take, length, Option, Some, None, IfSome}
use Rattle.tape_types.specs.declared.cartridges.Cartridge.{Cartridge}
use Rattle.tape_types.specs.declared.cartridges.Item.{Item}
use Rattle.tape_types.specs.declared.cartridges.Item.TheVariants.{Block, Mark}
use Rattle.tape_types.specs.declared.cartridges.Limits.{Limits}
use Rattle.tape_types.specs.declared.cartridges.Part.{Part}
use Rattle.tape_types.specs.declared.cartridges.Place.{Place}
use Rattle.tape_types.specs.Cartridges.{capacity, items_of}
use Rattle.tape_drive.specs.Commands.{KeepsRest}
use Rattle.tape_drive.specs.declared.drive.Drive.{Ghosts}

-- Behind so many items of a partition, which stay, stand these and no more. Each of them changed the volume, and all
-- else stays.
pub record IsAppended (part : Part) (pos : ℕ) (more : List Item) (old new : Cartridge) : Type 0 where
  pub items : items_of part new ≡ take pos (items_of part old) ++ more
  pub vcr : new.vcr ≡ old.vcr + length more
  pub rest : KeepsRest part old new

-- a drive wrote these from a position on, and its head stands behind them
pub record Writes {D : Type 0} (drive : Ghosts D) (part : Part) (pos : ℕ) (more : List Item) (old new : D)
    : Type 0 where
  pub told : (c : Cartridge) → drive.held old ≡ Some c
      → (d : Cartridge) × (drive.held new ≡ Some d) × IsAppended part pos more c d
  pub head : drive.head new ≡ Some (record { part = part; pos = pos + length more })

-- whatever is answered: the limits stay, a drive that doesn't tell does not begin to, and the count of commands never
-- falls
pub record Goes {D : Type 0} (drive : Ghosts D) (old new : D) : Type 0 where
  pub untold : drive.held old ≡ None → drive.held new ≡ None
  pub limits : drive.limits new ≡ drive.limits old
  pub later : drive.commands old ≤ drive.commands new

-- the head is located, and from there on so many positions are left
abbrev pub HasPlaces : ℕ → Option Place → Limits → Type 0
HasPlaces count head limits = (at : Place) × (head ≡ Some at) × (at.pos + count ≤ capacity at.part limits)

-- where it is told, a partition has so many items at least
abbrev pub HasItems : ℕ → Part → Option Cartridge → Type 0
HasItems count part held = IfSome held (λ c. count ≤ length (items_of part c))

-- so many bytes as one block may have
pub record IsOneBlock (bytes : List ℕ) : Type 0 where
  pub some : 1 ≤ length bytes
  pub size : length bytes ≤ 1048576

-- two blocks, and a mark behind each
abbrev pub marked : List ℕ → List ℕ → List Item
marked first second = Block first ∷ Mark ∷ Block second ∷ Mark ∷ []
