-- What is read along a chain, from the newest index back.
use Rattle.std.specs.Prelude.{ℕ, ◌≡◌, List, Option, Some, None}
use Rattle.std.specs.List.{AllByRecursion}
use Rattle.tape_types.specs.declared.cartridges.Cartridge.{Cartridge}
use Rattle.ltfs_label.specs.declared.Label.{Label}
use Rattle.content_laws.specs.Readings as readings
use Rattle.content_laws.specs.Readings.{first_of}
use Rattle.cartridge_meaning.specs.Meaning.{FitsNode}
use Rattle.cartridge_meaning.specs.declared.errors.MountErr.{MountErr}
use Rattle.cartridge_meaning.specs.declared.errors.MountErr.TheVariants as errors
use Rattle.volume_scan.specs.declared.content.Construct.{Construct}
use Rattle.mount_recover.specs.Lasts.{IsSound}
use Rattle.generation_view.specs.Chain.{Breaks, IsLink}
use Rattle.generation_view.specs.declared.errors.BreakWhy.{BreakWhy}
use Rattle.generation_view.specs.declared.errors.BreakWhy.TheVariants as breaks
use Rattle.generation_view.specs.declared.links.Step.{Step}
use Rattle.generation_view.specs.declared.links.Step.TheVariants as steps

-- why a text that is refused by a mount breaks a chain
abbrev pub why_in : MountErr → Option BreakWhy
why_in (errors.BadIndex at e) = Some (breaks.Text e)
why_in (errors.WrongVolume at) = Some breaks.Volume
why_in e = None

-- an index was read, behind these older ones and before one of a generation
abbrev pub IsStepTo : Label → Cartridge → readings.Construct → List readings.Construct → Option ℕ → Step → Type 0
IsStepTo label c k older after (steps.Link block index) = (block ≡ first_of k) × IsLink label c k older after index
IsStepTo label c k older after (steps.Broken block why) = (block ≡ first_of k) × Breaks label c k older after why

-- whether or not the drive tells: a link is sound, and its extents end before an end and before a mark
abbrev pub IsSoundStep : Label → (end_ip mark : ℕ) → Step → Type 0
IsSoundStep label end_ip mark (steps.Link block index) =
    IsSound label index × AllByRecursion (FitsNode label end_ip mark) index.nodes
IsSoundStep label end_ip mark (steps.Broken block why) = Unit {0}
