-- What is left of a volume, and what its close makes of it.
use Rattle.std.specs.Prelude.{ℕ, ◌≡◌, Bool, Some, map}
use Rattle.std.specs.FinMap as fin
use Rattle.tape_types.specs.declared.moments.Moment.{Moment}
use Rattle.tape_drive.specs.declared.drive.Drive.{Ghosts}
use Rattle.session_script.specs.declared.logs.Log.{Log}
use Rattle.file_tree.specs.Valid.{IsGood}
use Rattle.promises.specs.declared.serving_promise.answers.CloseEnd.{CloseEnd}
use Rattle.volume_state.specs.StateLaws.Parts.{Parts}
use Rattle.volume_core.specs.Costs.{AreCosts}
use Rattle.volume_core.specs.Finish.{Finishes}

-- the log of its calls
pub record IsLogLeft {D : Type 0} (p : Parts D) (log : Log) : Type 0 where
  pub history : log.history ≡ p.listed.history
  pub replies : map Some log.replies ≡ p.listed.replies
  pub acks : log.acks ≡ p.trail.acks
  pub events : log.events ≡ p.trail.events

-- its drive, and that log
pub record IsLeft {D : Type 0} (p : Parts D) (drive : D) (log : Log) : Type 0 where
  pub drive_is : drive ≡ p.drive
  pub log_is : IsLogLeft p log

-- Its close was made at a moment, and this is the log of its calls, what that has cost, and how many nodes the tree
-- has.
pub record IsClosed {D : Type 0} (drive : Ghosts D) (noted : Bool) (at : Moment) (p : Parts D) (new : D) (log : Log)
    (outcome : CloseEnd) (step_count travel_sum nodes : ℕ) : Type 0 where
  pub finishes : Finishes drive noted at p.stock p.drive new outcome
  pub log_is : IsLogLeft p log
  pub costs : AreCosts p.trail.events step_count travel_sum
  pub nodes_are : nodes ≡ fin.len p.stock.tree.nodes
  pub good : IsGood p.stock.tree
