-- The numbers with which the program ends.
use Rattle.std.specs.Prelude.{ℕ}
use Rattle.commands.specs.declared.basic_commands.ended.Status.{Status}
use Rattle.commands.specs.declared.basic_commands.ended.Status.TheVariants as statuses

abbrev pub status_number : Status → ℕ
status_number statuses.Done = 0
status_number statuses.Words = 1
status_number statuses.Script = 2
status_number statuses.Volume = 3
status_number statuses.Drive = 4
status_number statuses.Source = 5
status_number statuses.Sink = 6
status_number statuses.NoMemory = 7
status_number statuses.Full = 8
