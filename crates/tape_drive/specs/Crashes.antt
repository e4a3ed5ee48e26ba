-- What a crash may leave of a cartridge.
use Rattle.std.specs.Prelude.{ℕ, ◌≡◌, ◌⊎◌, List, [], ◌∷◌, ◌++◌, take, Option, Some, None}
use Rattle.tape_types.specs.declared.cartridges.Part.{Part}
use Rattle.tape_types.specs.declared.cartridges.Item.{Item}
use Rattle.tape_types.specs.declared.cartridges.Note.{Note}
use Rattle.tape_types.specs.declared.cartridges.Cartridge.{Cartridge}
use Rattle.tape_types.specs.Cartridges.{items_of}
use Rattle.tape_drive.specs.Commands.{KeepsRest, VcrRose, IsCutShort, IsNoted, IsWritten}
pub use Rattle.crash_steps.specs.Crashes.{Crashes, NothingNew, OnlyReads, IsSure}

-- Within a write: the partition is cut at the position, and there stands nothing, a Torn or the item.
abbrev pub IsCut : ℕ → Item → List Item → List Item → Type 0
IsCut pos x held image = IsCutShort pos held image ⊎ (image ≡ take pos held ++ x ∷ [])

-- What a crash may leave within a write or directly after it, from what it could leave before. `held` is the
-- cartridge as it read before. The partition is as a crash could leave it before, with the volume change
-- reference from before or from after; or the write shows in it, and then the reference is the one from after.
pub record WithinWrite (part : Part) (pos : ℕ) (x : Item) (held before image : Cartridge) : Type 0 where
  pub items : ((items_of part image ≡ items_of part before) × ((image.vcr ≡ before.vcr) ⊎ VcrRose held image))
      ⊎ (IsCut pos x (items_of part held) (items_of part image) × VcrRose held image)
  pub rest : KeepsRest part before image

-- within a write of an attribute: it is as a crash could leave it before, or the new one
abbrev pub WithinNote : Part → Note → Cartridge → Cartridge → Type 0
WithinNote part note before image = (image ≡ before) ⊎ IsNoted part note before image

-- within a flush: as a crash could leave it before, or as it reads
abbrev pub WithinFlush : (held before image : Cartridge) → Type 0
WithinFlush held before image = (image ≡ before) ⊎ (image ≡ held)

-- within a write and the flush behind it: as within the write, or as the cartridge reads once it is written
abbrev pub WithinDurably : Part → ℕ → Item → (held before image : Cartridge) → Type 0
WithinDurably part pos x held before image =
    WithinWrite part pos x held before image ⊎ IsWritten part pos x held image

-- every image that a crash may leave within a command of such a step, or after it, is allowed
abbrev pub LeavesAllowed : (step : Cartridge → Cartridge → Type 0) → (leaves allows : Cartridge → Type 0) → Type 0
LeavesAllowed step leaves allows = (before image : Cartridge) → leaves before → step before image → allows image

-- everything is allowed
abbrev pub AllowsAll : (Cartridge → Type 0) → Type 0
AllowsAll allows = (image : Cartridge) → allows image

-- an image has the volume change reference and both attributes as they read
pub record HasState (held image : Cartridge) : Type 0 where
  pub vcr : image.vcr ≡ held.vcr
  pub note_ip : image.note_ip ≡ held.note_ip
  pub note_dp : image.note_dp ≡ held.note_dp

-- no earlier volume change reference or attribute comes back: where the cartridge is told, every image has them as
-- they read
abbrev pub IsSettled : Option Cartridge → (Cartridge → Type 0) → Type 0
IsSettled None leaves = Unit {0}
IsSettled (Some held) leaves = (image : Cartridge) → leaves image → HasState held image
