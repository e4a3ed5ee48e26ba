-- What a scan tells of a partition (LTFS 2.4 on partitions and index constructs).
use Rattle.std.specs.Prelude.{ℕ, ◌+◌, ◌≤◌, ◌≡◌, List, [], ◌∷◌, length, map, Result, Ok, Err, IfErr}
use Rattle.std.specs.List.{flat_map}
use Rattle.tape_types.specs.Counts.{Rose}
use Rattle.tape_types.specs.declared.cartridges.Item.{Item}
use Rattle.content_laws.specs.Readings.{HasForm, LacksForm, after_of, constructs_from, first_of, front, items_of_group}
use Rattle.content_laws.specs.Readings as readings
use Rattle.volume_scan.specs.declared.content.Construct.{Construct}
use Rattle.volume_scan.specs.declared.content.Content.{Content}
use Rattle.volume_scan.specs.declared.errors.ScanErr.{ScanErr}
use Rattle.volume_scan.specs.declared.errors.ScanErr.TheVariants as errors

-- the places of an index
abbrev pub places_of : readings.Construct → Construct
places_of k = record { mark = k.mark; first = first_of k; after = after_of k }

-- A partition has its form, with these indexes, the oldest first, with so many leading blocks behind them, and with so
-- many items in its front.
pub record IsContent (items : List Item) (found : Content) : Type 0 where
  pub form : HasForm items
  pub constructs : found.constructs ≡ map places_of (constructs_from 4 form.groups)
  pub lead : found.lead ≡ 4 + length (flat_map items_of_group form.groups) + length form.lead
  pub front : found.front ≡ length (front items)

-- The content of a partition is told, or where it lacks the form; a failed drive and refused memory tell nothing of it.
abbrev pub IsScanned : List Item → Result Content ScanErr → Type 0
IsScanned items (Ok found) = IsContent items found
IsScanned items (Err (errors.Layout at)) = LacksForm items at
IsScanned items (Err (errors.Drive counts)) = Unit {0}
IsScanned items (Err errors.NoMemory) = Unit {0}

-- indexes that stand one behind the other, each with a block, from a position to another
abbrev pub AreBetween : (from to : ℕ) → List Construct → Type 0
AreBetween from to [] = from ≤ to
AreBetween from to (k ∷ later) =
    (from ≤ k.mark) × (k.first ≡ k.mark + 1) × (k.first + 2 ≤ k.after) × AreBetween k.after to later

-- all that is told lies behind the labels and within a capacity
pub record IsInPlaces (capacity : ℕ) (found : Content) : Type 0 where
  pub constructs : AreBetween 4 found.lead found.constructs
  pub lead : found.lead ≤ found.front
  pub front : found.front ≤ capacity

-- a failed drive is told by its counts of faults, and only where the count rose
abbrev pub AreCounts : (before now : ℕ) → ScanErr → Type 0
AreCounts before now (errors.Layout at) = Unit {0}
AreCounts before now (errors.Drive counts) = (counts.before ≡ before) × (counts.after ≡ now) × Rose before now
AreCounts before now errors.NoMemory = Unit {0}

-- the count never falls, and the counts that an error tells are these
pub record HasCounts {T : Type 0} (before now : ℕ) (result : Result T ScanErr) : Type 0 where
  pub later : before ≤ now
  pub told : IfErr result (AreCounts before now)
