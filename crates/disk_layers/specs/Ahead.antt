-- A disk that reads ahead: the pieces of its files, and what its steps leave.
use Rattle.std.specs.Prelude.{ℕ, ◌+◌, ◌≤◌, ◌<◌, ◌≡◌, ◌⊎◌, List, [], ◌∷◌, length, slice_index, Some, Result}
use Rattle.tape_types.specs.Counts.{HasCause}
use Rattle.crash_steps.specs.Crashes.{NothingNew}
use Rattle.byte_disk.specs.Files.{Files, IsOutside, KeepsOthers, bytes_at, bytes_of}
use Rattle.byte_disk.specs.declared.disk.ByteDisk.{Ghosts}
use Rattle.byte_disk.specs.declared.disk.File.{File}
use Rattle.byte_disk.specs.declared.disk.File.TheVariants.{Ip, Dp, Cm}
use Rattle.own_count.specs.Own.{Runs}
use Rattle.disk_layers.specs.Layers.{IsCounted, commands_of, since_of}

-- bytes of a file from a place on
pub record Span : Type 0 where
  pub from : ℕ
  pub bytes : List ℕ

-- of each file one piece
pub record Spans : Type 0 where
  pub ip : Span
  pub dp : Span
  pub cm : Span

abbrev pub span_of : File → Spans → Span
span_of Ip p = p.ip
span_of Dp p = p.dp
span_of Cm p = p.cm

-- the disk inside, the pieces, the disk's own number of commands, and the disk inside before each of them
pub record View (D : Type 0) : Type 0 where
  pub disk : D
  pub spans : Spans
  pub commands : ℕ
  pub past : List (Unit {0} × D)

-- what a crash may leave of the disk inside, at a moment
abbrev pub leaves_of : {D : Type 0} → Ghosts D → Unit {0} × D → Files → Type 0
leaves_of disk m image = disk.leaves m.1 image

-- a piece is what a file has there
abbrev pub IsIn : Span → List ℕ → Type 0
IsIn span file = span.bytes ≡ bytes_at span.from (length span.bytes) file

-- the same of a file of a disk, where the disk tells its files
abbrev pub IsRight : {D : Type 0} → Ghosts D → D → File → Span → Type 0
IsRight disk b file span = (d : Files) → disk.held b ≡ Some d → IsIn span (bytes_of file d)

abbrev pub AreRight : {D : Type 0} → Ghosts D → D → Spans → Type 0
AreRight disk b spans = (file : File) → IsRight disk b file (span_of file spans)

pub record IsKept {D : Type 0} (disk : Ghosts D) (v : View D) : Type 0 where
  pub counted : IsCounted disk v.commands v.past (tt, v.disk)
  pub right : AreRight disk v.disk v.spans

-- commands of the disk inside, and a step that may be left of them to a crash
abbrev pub RunsIn : {D : Type 0} → Ghosts D → (Files → Files → Type 0) → D → D → Type 0
RunsIn disk step old new = Runs (commands_of disk) (leaves_of disk) (since_of disk) step (tt, old) (tt, new)

-- commands of the disk inside that only read
pub record Looks {D T E : Type 0} (disk : Ghosts D) (result : Result T E) (old new : D) : Type 0 where
  pub held : disk.held new ≡ disk.held old
  pub runs : RunsIn disk NothingNew old new
  pub cause : HasCause (disk.faults old) (disk.faults new) result

-- nothing but the disk inside and the pieces has changed
pub record Stays {D : Type 0} (old new : View D) : Type 0 where
  pub commands : new.commands ≡ old.commands
  pub past : new.past ≡ old.past

-- a piece ends in front of a range, or begins behind it, or has no bytes
abbrev pub IsApart : ℕ → ℕ → Span → Type 0
IsApart at n span = (span.bytes ≡ []) ⊎ (span.from + length span.bytes ≤ at) ⊎ (at + n ≤ span.from)

-- A piece of one file may have gone. What is left of it lies apart from a range.
pub record IsForgotten (file : File) (at n : ℕ) (old new : Spans) : Type 0 where
  pub apart : IsApart at n (span_of file new)
  pub same : (f : File) → ((span_of f new).bytes ≡ []) ⊎ (span_of f new ≡ span_of f old)

-- outside of a range of one file all bytes that were there are there
pub record IsBeside (file : File) (at n : ℕ) (old new : Files) : Type 0 where
  pub others : KeepsOthers file old new
  pub outside : (i : ℕ) → i < length (bytes_of file old) → IsOutside at n i
      → slice_index (bytes_of file new) i ≡ slice_index (bytes_of file old) i
  pub no_shorter : length (bytes_of file old) ≤ length (bytes_of file new)
