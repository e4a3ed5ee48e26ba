-- How a reading of a partition goes on.
use Rattle.std.specs.Prelude.{ℕ, Bool, true, false, ◌+◌, ◌≤◌, ◌<◌, ◌≡◌, List, [], ◌∷◌, ◌++◌, length, map, drop, reverse}
use Rattle.std.specs.Prelude.{fold, Option, Some, None}
use Rattle.tape_types.specs.declared.cartridges.Item.{Item}
use Rattle.content_laws.specs.Readings.{front}
use Rattle.content_laws.specs.Content.{Phase, Data, Index, Bad, seen}
use Rattle.content_laws.specs.Content as content
use Rattle.tape_drive.specs.declared.drive.Got.{Got}
use Rattle.tape_drive.specs.declared.drive.Got.TheVariants as got
use Rattle.volume_scan.specs.declared.content.Construct.{Construct}
use Rattle.volume_scan.specs.declared.errors.ScanErr.{ScanErr}
use Rattle.volume_scan.specs.declared.errors.ScanErr.TheVariants as errors
use Rattle.volume_scan.specs.declared.reading.Reading.{Reading}
use Rattle.volume_scan.specs.Scans.{AreBetween, places_of}

-- the position behind the leading blocks: that of the mark of an index that is open
abbrev pub lead_at : Option ℕ → ℕ → ℕ
lead_at None pos = pos
lead_at (Some mark) pos = mark

-- an index between these marks
abbrev pub between : ℕ → ℕ → Construct
between mark closing = record { mark = mark; first = mark + 1; after = closing + 1 }

-- a mark: it opens an index, or closes the one that is open and has a block
abbrev pub Marks : Option ℕ → Reading → Reading → Type 0
Marks None old new = (new.constructs ≡ old.constructs) × (new.opened ≡ Some old.pos) × (new.pos ≡ old.pos + 1)
Marks (Some mark) old new = (mark + 1 < old.pos) × (new.constructs ≡ old.constructs ++ between mark old.pos ∷ [])
    × (new.opened ≡ None) × (new.pos ≡ old.pos + 1)

-- an item further
abbrev pub Goes : Got → Reading → Reading → Type 0
Goes got.Block old new = (new.constructs ≡ old.constructs) × (new.opened ≡ old.opened) × (new.pos ≡ old.pos + 1)
Goes got.Mark old new = Marks old.opened old new
Goes got.End old new = ⊥
Goes got.Torn old new = ⊥

-- the mark closes an index that has no block
abbrev pub IsEmptyIndex : Got → Reading → ScanErr → Type 0
IsEmptyIndex answer reading (errors.Layout at) =
    (answer ≡ got.Mark) × (at ≡ reading.pos) × ((mark : ℕ) × (reading.opened ≡ Some mark) × (reading.pos ≡ mark + 1))
IsEmptyIndex answer reading (errors.Drive counts) = ⊥
IsEmptyIndex answer reading errors.NoMemory = Unit {0}

-- nothing more can be read
abbrev pub ends : Got → Bool
ends got.Block = false
ends got.Mark = false
ends got.End = true
ends got.Torn = true

-- where a reading stands that has gone so far
abbrev pub IsPhase : Option ℕ → ℕ → Phase → Type 0
IsPhase None pos (Data since) = Unit {0}
IsPhase None pos (Index mark blocks) = ⊥
IsPhase None pos (Bad at) = ⊥
IsPhase (Some opened) pos (Data since) = ⊥
IsPhase (Some opened) pos (Index mark blocks) = (mark ≡ opened) × (opened + 1 + length blocks ≡ pos)
IsPhase (Some opened) pos (Bad at) = ⊥

-- what a reading has told is what stands before its position
pub record IsReadTo (items : List Item) (r : Reading) : Type 0 where
  pub stage : content.Content
  pub left : content.content items ≡ fold seen stage (drop r.pos (front items))
  pub within : r.pos ≤ length (front items)
  pub pos : stage.pos ≡ r.pos
  pub phase : IsPhase r.opened r.pos stage.phase
  pub constructs : map places_of (reverse stage.constructs) ≡ r.constructs

-- what a reading has told lies in its place
pub record IsInOrder (capacity : ℕ) (r : Reading) : Type 0 where
  pub constructs : AreBetween 4 (lead_at r.opened r.pos) r.constructs
  pub opened : (mark : ℕ) → r.opened ≡ Some mark → mark < r.pos
  pub pos : r.pos ≤ capacity
