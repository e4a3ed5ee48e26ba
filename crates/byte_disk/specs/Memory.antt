-- What contracts see of a disk in memory, and what each of its commands does.
use Rattle.std.specs.Prelude.{ℕ, ◌+◌, ◌-◌, ◌^◌, ◌≤◌, ◌≡◌, ◌⊎◌, min, List, [], ◌∷◌, length, take, Contains}
use Rattle.std.specs.Prelude.{Result, Ok, Err}
use Rattle.byte_disk.specs.declared.disk.File.{File}
use Rattle.byte_disk.specs.declared.record.Act.{Act}
use Rattle.byte_disk.specs.declared.record.Act.TheVariants.{Wrote, Synced}
use Rattle.byte_disk.specs.declared.record.DoneCommand.{DoneCommand}
use Rattle.byte_disk.specs.Files.{Files, bytes_of, with_bytes, written}
use Rattle.byte_disk.specs.Record.{change_of, IsSound}

-- a disk in memory
pub record View : Type 0 where
  -- the files as they read
  pub held : Files
  -- what its commands have done, the newest first
  pub acts : List DoneCommand
  -- the numbers of the commands that fail
  pub fails : List ℕ
  -- how many bytes of a write that is listed to fail arrive
  pub arrives : ℕ
  pub commands : ℕ
  pub faults : ℕ
  -- how often memory was refused
  pub starved : ℕ

-- a disk that has had no command
abbrev pub made : Files → List ℕ → View
made held fails = record {
  held = held;
  acts = [];
  fails = fails;
  arrives = 0;
  commands = 0;
  faults = 0;
  starved = 0;
}

-- so many bytes of a write that is listed to fail arrive
abbrev pub with_arrives : ℕ → View → View
with_arrives n v = record {
  held = v.held;
  acts = v.acts;
  fails = v.fails;
  arrives = n;
  commands = v.commands;
  faults = v.faults;
  starved = v.starved;
}

-- one more, up to the end of a u64
abbrev pub up : ℕ → ℕ
up n = min (n + 1) (2 ^ 64 - 1)

-- a command was counted
abbrev pub begun : View → View
begun v = record {
  held = v.held;
  acts = v.acts;
  fails = v.fails;
  arrives = v.arrives;
  commands = up v.commands;
  faults = v.faults;
  starved = v.starved;
}

-- the command failed
abbrev pub failed : View → View
failed v = record {
  held = v.held;
  acts = v.acts;
  fails = v.fails;
  arrives = v.arrives;
  commands = v.commands;
  faults = up v.faults;
  starved = v.starved;
}

-- the command failed for want of memory
abbrev pub starved_out : View → View
starved_out v = record {
  held = v.held;
  acts = v.acts;
  fails = v.fails;
  arrives = v.arrives;
  commands = v.commands;
  faults = up v.faults;
  starved = up v.starved;
}

-- an act was done that began at this number, and the files read so
abbrev pub acted : ℕ → Act → Files → View → View
acted number act held v = record {
  held = held;
  acts = record { number = number; act = act } ∷ v.acts;
  fails = v.fails;
  arrives = v.arrives;
  commands = v.commands;
  faults = v.faults;
  starved = v.starved;
}

-- bytes were put into a file, of so many that were to be
abbrev pub put : ℕ → File → ℕ → ℕ → List ℕ → View → View
put number file at count bytes v =
    acted number (Wrote file (change_of at count bytes (bytes_of file v.held)))
    (with_bytes file (written at bytes (bytes_of file v.held)) v.held) v

-- a command that comes now is listed to fail
abbrev pub IsListed : View → Type 0
IsListed v = Contains v.fails (up v.commands)

-- What a command does that changes nothing: it fails just where it is listed.
abbrev pub Looked : {T E : Type 0} → Result T E → View → View → Type 0
Looked (Ok _) old new = (¬ (IsListed old)) × (new ≡ begun old)
Looked (Err _) old new = IsListed old × (new ≡ failed (begun old))

-- What a write does: it puts all bytes there; or it is listed, and then only the first of them, as many as are to
-- arrive; or it finds no memory, and then it changes nothing.
abbrev pub RanWrite : {T E : Type 0} → Result T E → File → ℕ → List ℕ → View → View → Type 0
RanWrite (Ok _) file at bytes old new =
    (¬ (IsListed old)) × (new ≡ put old.commands file at (length bytes) bytes (begun old))
RanWrite (Err _) file at bytes old new =
    (IsListed old × (new ≡ failed (put old.commands file at (length bytes) (take old.arrives bytes) (begun old))))
    ⊎ (new ≡ starved_out (begun old))

-- What a sync does: it goes into the record; or it is listed, or finds no memory, and then it changes nothing.
abbrev pub RanSync : {T E : Type 0} → Result T E → File → View → View → Type 0
RanSync (Ok _) file old new = (¬ (IsListed old)) × (new ≡ acted old.commands (Synced file) old.held (begun old))
RanSync (Err _) file old new =
    (IsListed old × (new ≡ failed (begun old))) ⊎ ((¬ (IsListed old)) × (new ≡ starved_out (begun old)))

-- the counts are those of a u64, and the record is sound
pub record IsSane (v : View) : Type 0 where
  pub sound : IsSound v.commands v.held v.acts
  pub commands : v.commands ≤ 2 ^ 64 - 1
  pub faults : v.faults ≤ 2 ^ 64 - 1
