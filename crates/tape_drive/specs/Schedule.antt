-- Which commands of a drive in memory are to fail.
use Rattle.std.specs.Prelude.{ℕ, ◌+◌, ◌-◌, ◌^◌, ◌≡◌, min, List, Option, Some, None, Contains, slice_index, slice_set}
use Rattle.std.specs.Prelude.{replicate}
use Rattle.tape_drive.specs.declared.schedule.Cmd.{Cmd}
use Rattle.tape_drive.specs.declared.schedule.Cmd.TheVariants as cmd
use Rattle.tape_drive.specs.declared.schedule.Fail.{Fail}
use Rattle.tape_drive.specs.declared.schedule.Schedule.{Schedule}
use Rattle.tape_drive.specs.declared.schedule.Start.{Start}
use Rattle.tape_drive.specs.declared.schedule.Start.TheVariants as start

-- one more, up to the end of a u64
abbrev pub up : ℕ → ℕ
up n = min (n + 1) (2 ^ 64 - 1)

-- where the commands of a kind are counted
abbrev pub code : Cmd → ℕ
code cmd.Locate = 0
code cmd.Read = 1
code cmd.Write = 2
code cmd.Mark = 3
code cmd.Flush = 4
code cmd.ReadNote = 5
code cmd.WriteNote = 6
code cmd.Vcr = 7

-- which one of its kind a command is that comes now
abbrev pub nth_of : Cmd → Schedule → ℕ
nth_of kind s = up (slice_index s.made (code kind))

-- no command passes any more
abbrev pub IsStopped : Schedule → Type 0
IsStopped s = s.left ≡ Some 0

-- a command of this kind that comes now is listed
abbrev pub IsListed : Cmd → Schedule → Type 0
IsListed kind s = Contains s.fails (record { kind = kind; nth = nth_of kind s })

abbrev pub IsStart : Start → Cmd → Schedule → Type 0
IsStart start.Stopped kind s = IsStopped s
IsStart start.Listed kind s = (¬ (IsStopped s)) × IsListed kind s
IsStart start.Free kind s = (¬ (IsStopped s)) × (¬ (IsListed kind s))

-- one command fewer may pass
abbrev pub fewer : Option ℕ → Option ℕ
fewer None = None
fewer (Some n) = Some (n - 1)

-- a command of this kind has come
abbrev pub counted : Cmd → Schedule → Schedule
counted kind s = record { fails = s.fails; made = slice_set s.made (code kind) (nth_of kind s); left = fewer s.left }

-- nothing has come yet, and any number of commands may pass
abbrev pub fresh : List Fail → Schedule
fresh fails = record { fails = fails; made = replicate 8 0; left = None }

-- this many commands more may pass
abbrev pub stopped_after : ℕ → Schedule → Schedule
stopped_after n s = record { fails = s.fails; made = s.made; left = Some n }
