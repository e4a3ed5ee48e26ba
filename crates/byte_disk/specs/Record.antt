-- What the record of a disk in memory says of the past. A record lists the newest entry first.
use Rattle.std.specs.Prelude.{ℕ, ◌+◌, ◌-◌, ◌^◌, ◌≤◌, ◌<◌, ◌≡◌, ◌⊎◌, Bool, true, false, if◌then◌else◌, List, [], ◌∷◌}
use Rattle.std.specs.Prelude.{take, length}
use Rattle.byte_disk.specs.declared.disk.File.{File}
use Rattle.byte_disk.specs.declared.disk.File.TheVariants.{Ip, Dp, Cm}
use Rattle.byte_disk.specs.declared.record.Change.{Change}
use Rattle.byte_disk.specs.declared.record.Act.{Act}
use Rattle.byte_disk.specs.declared.record.Act.TheVariants.{Wrote, Synced}
use Rattle.byte_disk.specs.declared.record.DoneCommand.{DoneCommand}
use Rattle.byte_disk.specs.Files.{Files, bytes_of, with_bytes, bytes_at, written, AreBytes, IsAnyIn}

-- one file is the other one
abbrev pub is_same : File → File → Bool
is_same Ip Ip = true
is_same Ip Dp = false
is_same Ip Cm = false
is_same Dp Ip = false
is_same Dp Dp = true
is_same Dp Cm = false
is_same Cm Ip = false
is_same Cm Dp = false
is_same Cm Cm = true

-- what is kept of a write of these bytes, out of so many, over a file with those bytes
abbrev pub change_of : ℕ → ℕ → List ℕ → List ℕ → Change
change_of at count bytes old =
    record { at = at; count = count; old_len = length old; gone = bytes_at at (length bytes) old }

-- the bytes of a file from before a write
abbrev pub unwritten : Change → List ℕ → List ℕ
unwritten w bytes = take w.old_len (written w.at w.gone bytes)

-- the files from before an act
abbrev pub undo : Act → Files → Files
undo (Wrote file w) d = with_bytes file (unwritten w (bytes_of file d)) d
undo (Synced file) d = d

-- the writes to a file since its last sync, once this was done, with those from before
abbrev pub pending_after : File → Act → List Change → List Change
pending_after file (Wrote other w) ws = if is_same file other then w ∷ ws else ws
pending_after file (Synced other) ws = if is_same file other then [] else ws

-- the writes to a file since its last sync that succeeded, the newest first
abbrev pub pending : File → List DoneCommand → List Change
pending file [] = []
pending file (e ∷ es) = pending_after file e.act (pending file es)

-- What a crash may leave of a file that reads so, since it was last sure: each write leaves any bytes in its range of
-- what could be left before it.
abbrev pub LeavesFile : List ℕ → List Change → List ℕ → Type 0
LeavesFile held [] image = image ≡ held
LeavesFile held (w ∷ ws) image =
    (before : List ℕ) × LeavesFile (unwritten w held) ws before × IsAnyIn w.at w.count before image

-- what a crash may leave now: of each file what it may leave of it, whatever it leaves of the others
pub record Leaves (held : Files) (es : List DoneCommand) (image : Files) : Type 0 where
  pub ip : LeavesFile held.ip (pending Ip es) image.ip
  pub dp : LeavesFile held.dp (pending Dp es) image.dp
  pub cm : LeavesFile held.cm (pending Cm es) image.cm

-- What a crash may have left before or after an act that had begun at the number t or later. What it leaves within a
-- write it leaves after it, too, and what it leaves within a sync it could leave before.
abbrev pub LeftWithin : Files → List DoneCommand → ℕ → Files → Type 0
LeftWithin held [] t image = ⊥
LeftWithin held (e ∷ es) t image =
    ((t ≤ e.number) × (Leaves held (e ∷ es) image ⊎ Leaves (undo e.act held) es image))
    ⊎ LeftWithin (undo e.act held) es t image

-- What a crash may have left since the number was t: now, or by such an act. The number stands at `count`, and since
-- that number there is no other moment than now.
abbrev pub LeftSince : ℕ → Files → List DoneCommand → ℕ → Files → Type 0
LeftSince count held es t image =
    Leaves held es image ⊎ (((t < count) ⊎ (2 ^ 64 - 1 ≤ count)) × LeftWithin held es t image)

-- each act began at a smaller number than now, unless the number stands at its end
abbrev pub Numbered : ℕ → List DoneCommand → Type 0
Numbered count [] = Unit {0}
Numbered count (e ∷ es) = (count < 2 ^ 64 - 1 → e.number < count) × Numbered count es

-- a write that left these bytes: they are some of those that it may leave of what its file had
pub record IsKept (w : Change) (bytes : List ℕ) : Type 0 where
  pub within : w.at ≤ length (unwritten w bytes)
  pub any : IsAnyIn w.at w.count (unwritten w bytes) bytes
  pub gone : w.at + length w.gone ≤ length bytes
  pub end : w.at + w.count < 2 ^ 62

-- the writes to a file since its last sync, over how it reads now: each has left what it may leave
abbrev pub AreKept : List ℕ → List Change → Type 0
AreKept bytes [] = AreBytes bytes
AreKept bytes (w ∷ ws) = IsKept w bytes × AreKept (unwritten w bytes) ws

-- an act that left the files so
abbrev pub IsActKept : Act → Files → Type 0
IsActKept (Wrote file w) d = IsKept w (bytes_of file d)
IsActKept (Synced file) d = Unit {0}

-- the record of files that read so: at first they had bytes, and each act has left what it may leave
abbrev pub IsRecordOf : Files → List DoneCommand → Type 0
IsRecordOf d [] = AreBytes d.ip × AreBytes d.dp × AreBytes d.cm
IsRecordOf d (e ∷ es) = IsActKept e.act d × IsRecordOf (undo e.act d) es

-- a disk's record and its number of commands go together
pub record IsSound (count : ℕ) (held : Files) (es : List DoneCommand) : Type 0 where
  pub numbers : Numbered count es
  pub kept : IsRecordOf held es
