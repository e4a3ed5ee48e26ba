-- A disk that holds writes back: one run of bytes, in one file, that the disk inside doesn't have yet.
use Rattle.std.specs.Prelude.{ℕ, ◌+◌, ◌^◌, ◌≤◌, ◌<◌, ◌≡◌, ◌⊎◌, max, Bool, true, false, if◌then◌else◌}
use Rattle.std.specs.Prelude.{List, [], ◌++◌, length}
use Rattle.std.specs.Prelude.{Option, Some, None, Result, Ok, Err}
use Rattle.std.proofs.Common.{inl, refl}
use Rattle.tape_types.specs.Counts.{HasCause}
use Rattle.crash_steps.specs.Crashes.{NothingNew}
use Rattle.byte_disk.specs.Commands.{IsFileSure, WithinWrite}
use Rattle.byte_disk.specs.Files.{AfterWrite, AreBytes, AreFiles, Files, IsBroken, bytes_of, told, with_bytes, written}
use Rattle.byte_disk.specs.Laws.{told_bytes}
use Rattle.byte_disk.specs.Record.{is_same}
use Rattle.byte_disk.specs.declared.disk.ByteDisk.{Ghosts}
use Rattle.byte_disk.specs.declared.disk.DiskFault.{DiskFault}
use Rattle.byte_disk.specs.declared.disk.File.{File}
use Rattle.byte_disk.specs.declared.disk.File.TheVariants.{Ip, Dp, Cm}
use Rattle.own_count.specs.Own.{Runs}
use Rattle.disk_layers.specs.declared.known.Known.{Known}
use Rattle.disk_layers.specs.Layers.{IsCounted, commands_of, since_of}

-- the file, the place and the bytes
pub record Run : Type 0 where
  pub file : File
  pub from : ℕ
  pub bytes : List ℕ

-- without its bytes
abbrev pub emptied : Run → Run
emptied r = record { file = r.file; from = r.from; bytes = [] }

-- with more bytes behind its own
abbrev pub longer : List ℕ → Run → Run
longer more r = record { file = r.file; from = r.from; bytes = r.bytes ++ more }

-- the run is written out: it has no bytes, or is as it was
abbrev pub WrittenOut : {T E : Type 0} → Result T E → Run → Run → Type 0
WrittenOut (Ok _) old new = new ≡ emptied old
WrittenOut (Err _) old new = new ≡ old

-- how the files read with a run over them
abbrev pub overlaid : Run → Files → Files
overlaid r d = with_bytes r.file (written r.from r.bytes (bytes_of r.file d)) d

abbrev pub held_over : Run → Option Files → Option Files
held_over r None = None
held_over r (Some d) = told (overlaid r d)

-- how long a file of so many bytes is with a run over it
abbrev pub length_over : Run → File → ℕ → ℕ
length_over r file n = if is_same file r.file then max n (r.from + length r.bytes) else n

-- What a crash may leave of files over which a run is held: the files, and where there are bytes in the run any bytes
-- in their place.
abbrev pub IsWide : Run → Files → Files → Type 0
IsWide r before image = (image ≡ before) ⊎ ((1 ≤ length r.bytes) × IsBroken r.file r.from (length r.bytes) before image)

-- what is said of a moment: of the run, and of the disk inside
abbrev pub held_of : {D : Type 0} → Ghosts D → Run × D → Option Files
held_of disk m = held_over m.0 (disk.held m.1)

abbrev pub leaves_of : {D : Type 0} → Ghosts D → Run × D → Files → Type 0
leaves_of disk m image = (before : Files) × disk.leaves m.1 before × IsWide m.0 before image

-- which files are known to be durable
abbrev pub is_known : File → Known → Bool
is_known Ip known = known.ip
is_known Dp known = known.dp
is_known Cm known = known.cm

-- the disk inside, the run, which files are known, the disk's own number of commands, and the run and the disk inside
-- before each of them
pub record View (D : Type 0) : Type 0 where
  pub disk : D
  pub run : Run
  pub known : Known
  pub commands : ℕ
  pub past : List (Run × D)

abbrev pub moment : {D : Type 0} → View D → Run × D
moment v = (v.run, v.disk)

-- a run that the disk inside takes
pub record IsFit {D : Type 0} (disk : Ghosts D) (m : Run × D) : Type 0 where
  pub bytes : AreBytes m.0.bytes
  pub end : m.0.from + length m.0.bytes < 2 ^ 62
  pub within : (d : Files) → disk.held m.1 ≡ Some d → m.0.from ≤ length (bytes_of m.0.file d)

-- a crash leaves these files of the disk inside as they read
abbrev pub AreSure : {D : Type 0} → Ghosts D → Known → D → Type 0
AreSure disk known b = (file : File) → is_known file known ≡ true → IsFileSure file (disk.held b) (disk.leaves b)

pub record IsKept {D : Type 0} (disk : Ghosts D) (v : View D) : Type 0 where
  pub counted : IsCounted disk v.commands v.past (v.run, v.disk)
  pub fit : IsFit disk (v.run, v.disk)
  pub sure : AreSure disk v.known v.disk

-- commands of the disk inside, or bytes that are held, and a step that may be left of it to a crash
abbrev pub RunsOver : {D : Type 0} → Ghosts D → (Files → Files → Type 0) → Run × D → Run × D → Type 0
RunsOver disk step old new = Runs (commands_of disk) (leaves_of disk) (since_of disk) step old new

-- all that reads stays, and a crash leaves nothing new
pub record LooksOver {D T E : Type 0} (disk : Ghosts D) (result : Result T E) (old new : Run × D) : Type 0 where
  pub held : held_of disk new ≡ held_of disk old
  pub runs : RunsOver disk NothingNew old new
  pub cause : HasCause (disk.faults old.1) (disk.faults new.1) result

-- bytes were written, as it reads
pub record PutsOver {D T E : Type 0} (disk : Ghosts D) (result : Result T E) (file : File) (at : ℕ) (bytes : List ℕ)
    (old new : Run × D) : Type 0 where
  pub told : (d : Files) → held_of disk old ≡ Some d
      → (e : Files) × (held_of disk new ≡ Some e) × AfterWrite result file at bytes d e
  pub untold : held_of disk old ≡ None → held_of disk new ≡ None
  pub runs : RunsOver disk (WithinWrite file at (length bytes)) old new
  pub cause : HasCause (disk.faults old.1) (disk.faults new.1) result

-- the same without a command inside; or nothing was written, and all is as it was
abbrev pub PutIf : {D : Type 0} → Ghosts D → Bool → File → ℕ → List ℕ → Run × D → Run × D → Type 0
PutIf disk true file at bytes old new = PutsOver {T = Unit {0}} {E = DiskFault} disk (Ok tt) file at bytes old new
PutIf disk false file at bytes old new = new ≡ old

-- nothing but the disk inside, the run and what is known has changed
pub record StaysOver {D : Type 0} (old new : View D) : Type 0 where
  pub commands : new.commands ≡ old.commands
  pub past : new.past ≡ old.past

-- a range lies where the run has no bytes, and in front of it if in its file
abbrev pub IsClear : Run → File → ℕ → Type 0
IsClear r file end = (r.bytes ≡ []) ⊎ ((is_same file r.file ≡ true) → end ≤ r.from)

-- bytes follow those of a run that has some
pub record Follow (r : Run) (file : File) (at : ℕ) : Type 0 where
  pub some : 1 ≤ length r.bytes
  pub file_is : file ≡ r.file
  pub at_is : at ≡ r.from + length r.bytes

-- whether bytes are held behind those of a run
abbrev pub HeldOn : Bool → File → ℕ → List ℕ → Run → Run → Type 0
HeldOn true file at more old new = Follow old file at × (new ≡ longer more old)
HeldOn false file at more old new = new ≡ old

-- whether bytes are held as the first ones of a run
abbrev pub HeldFirst : Bool → File → ℕ → List ℕ → Run → Run → Type 0
HeldFirst true file at more old new = new ≡ (record { file = file; from = at; bytes = more })
HeldFirst false file at more old new = new ≡ old

-- what the files hold is bytes
pub over_bytes : (r : Run) (o : Option Files) (d : Files) → held_over r o ≡ Some d → AreFiles d
over_bytes r None d is = absurd (cc is)
over_bytes r (Some e) d is = told_bytes (overlaid r e) d is

-- what a crash leaves inside it leaves over it
pub as_inside : (leaves : Files → Type 0) (r : Run) (image : Files) → leaves image
    → (before : Files) × leaves before × IsWide r before image
as_inside leaves r image left = (image, left, inl refl)
