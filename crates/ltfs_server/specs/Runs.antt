-- All that a run of the program promises, as one record.
use Rattle.std.specs.Prelude.{ℕ, Option}
use Rattle.tape_types.specs.declared.moments.Moment.{Moment}
use Rattle.tape_drive.specs.declared.drive.Drive.{Ghosts}
use Rattle.session_script.specs.declared.logs.Log.{Log}
use Rattle.commands.specs.BasicCommands.Runs.{Written}
use Rattle.ltfs_server.specs.Outcomes.{Run}
use Rattle.ltfs_server.specs.Promises.{DoesAsked}
use Rattle.ltfs_server.specs.Sentence.{Asked, Asks, SentenceHolds}

-- Each clause of `run`: what the command of the words does, by its statuses and their causes; and the sentence, for the
-- words of `serve` and of `make`.
pub record RunsSo {D : Type 0} (r : Run) (drive : Ghosts D) (old new : D) (sink : Written) (status : ℕ)
    (log : Option Log) : Type 0 where
  pub does : DoesAsked r.words r.gives r.one r.source sink drive old new status log
  pub headline : (asked : Asked) (moment : Option Moment) → Asks r asked moment
      → SentenceHolds asked moment r.source drive old new sink status log
