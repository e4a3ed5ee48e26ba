-- A walk back over a record, as one file sees it.
use Rattle.std.specs.Prelude.{ℕ, ◌+◌, max, Bool, true, false, if◌then◌else◌, List}
use Rattle.byte_disk.specs.declared.disk.File.{File}
use Rattle.byte_disk.specs.declared.record.Change.{Change}
use Rattle.byte_disk.specs.declared.record.Act.{Act}
use Rattle.byte_disk.specs.declared.record.Act.TheVariants.{Wrote, Synced}
use Rattle.byte_disk.specs.Record.{is_same, unwritten, IsKept}
use Rattle.byte_disk.specs.Images.{chosen_in}

-- an act is a sync of this file
abbrev pub is_sync_of : File → Act → Bool
is_sync_of file (Wrote other w) = false
is_sync_of file (Synced other) = is_same file other

-- a file's bytes from before an act
abbrev pub undone_by : File → Act → List ℕ → List ℕ
undone_by file (Wrote other w) bytes = if is_same file other then unwritten w bytes else bytes
undone_by file (Synced other) bytes = bytes

-- how far the range of an act reaches, or those before it
abbrev pub reach_by : File → Act → ℕ → ℕ
reach_by file (Wrote other w) n = if is_same file other then max (w.at + w.count) n else n
reach_by file (Synced other) n = n

-- the bytes with those of another list in the range of an act
abbrev pub chosen_by : File → Act → List ℕ → List ℕ → List ℕ
chosen_by file (Wrote other w) choice bytes = if is_same file other then chosen_in w choice bytes else bytes
chosen_by file (Synced other) choice bytes = bytes

-- a write has left these bytes, where it was to this file
abbrev pub IsKeptIf : Bool → Change → List ℕ → Type 0
IsKeptIf true w bytes = IsKept w bytes
IsKeptIf false w bytes = Unit {0}

-- an act has left these bytes of a file, where it wrote to it
abbrev pub IsKeptBy : File → Act → List ℕ → Type 0
IsKeptBy file (Wrote other w) bytes = IsKeptIf (is_same file other) w bytes
IsKeptBy file (Synced other) bytes = Unit {0}
