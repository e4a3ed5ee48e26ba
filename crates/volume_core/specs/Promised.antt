-- What the close of a volume shows, over any drive.
use Rattle.std.specs.Prelude.{◌≡◌, ◌≤◌, Bool, Option, Some, None, IfSome, length}
use Rattle.std.specs.FinMap as fin
use Rattle.tape_types.specs.declared.cartridges.Cartridge.{Cartridge}
use Rattle.tape_types.specs.declared.moments.Moment.{Moment}
use Rattle.tape_drive.specs.declared.drive.Drive.{Ghosts}
use Rattle.session_script.specs.Sessions.{greatest_session}
use Rattle.file_tree.specs.Valid.{IsGood}
use Rattle.cartridge_meaning.specs.Carried.{carried}
use Rattle.promises.specs.ServingPromise.Crash.{SurvivesCrashes}
use Rattle.promises.specs.ServingPromise.Ends.{IsEnd, TellsNodes}
use Rattle.promises.specs.ServingPromise.Marks.{NothingWaits}
use Rattle.promises.specs.ServingPromise.Meanings.{cartridges}
use Rattle.promises.specs.ServingPromise.Served.{Fixed, View, tree_after}
use Rattle.promises.specs.declared.serving_promise.answers.CloseEnd.{CloseEnd}
use Rattle.promises.specs.declared.serving_promise.answers.CloseEnd.TheVariants as ends
use Rattle.promises.specs.OrderLaws.Kept.{seen}
use Rattle.promises.specs.CrashLaws.Laws.{CanServe}
use Rattle.promises.specs.PromiseLaws.Kept.{CanRead}
use Rattle.volume_state.specs.StateLaws.Parts.{Parts, view_of}
use Rattle.volume_state.specs.ClosingLaws.Owned.{LeavesOwn}
use Rattle.volume_state.specs.CallLaws.Running.{IsRunning}
use Rattle.volume_core.specs.Finish.{Finishes}

-- nothing waits in a volume that runs, and the clock gives this moment
pub record IsToClose {D : Type 0} (drive : Ghosts D) (at : Moment) (p : Parts D) : Type 0 where
  pub fixed : Fixed D
  pub next : Option Moment
  pub runs : IsRunning drive fixed next p
  pub nothing : NothingWaits (greatest_session fixed.script) p.listed.marks
  pub moment : IfSome next (λ m. at ≡ m)

-- Nothing waits in a volume that runs, its tree is such as an index may tell, and the clock gives this moment.
pub record CanClose {D : Type 0} (drive : Ghosts D) (fixed : Fixed D) (next : Option Moment) (at : Moment) (p : Parts D)
    : Type 0 where
  pub runs : IsRunning drive fixed next p
  pub nothing : NothingWaits (greatest_session fixed.script) p.listed.marks
  pub moment : IfSome next (λ m. at ≡ m)
  pub good : IsGood p.stock.tree

-- A close that is done leaves the run's own indexes at the top of the data partition, over those that stood there at
-- the start.
abbrev pub LeavesOwnIndexes : {D : Type 0} → Ghosts D → View D → D → CloseEnd → Type 0
LeavesOwnIndexes drive v new (ends.Done generation) = CanRead drive v.fixed → (first : Cartridge)
    → drive.held v.fixed.first ≡ Some first
    → (held : Cartridge) × (drive.held new ≡ Some held) × LeavesOwn (drive.limits v.fixed.first) first held v
LeavesOwnIndexes drive v new _ = Unit {0}

-- What its close gives, beside the log and what that has cost.
pub record EndsAsPromised {D : Type 0} (drive : Ghosts D) (fixed : Fixed D) (next : Option Moment) (at : Moment)
    (p : Parts D) (new : D) (outcome : CloseEnd) : Type 0 where
  pub nodes : CanRead drive fixed
      → TellsNodes outcome (tree_after (view_of fixed next p) (length p.listed.history)) (fin.len p.stock.tree.nodes)
  pub end : IsEnd cartridges (seen drive fixed.first) (seen drive p.drive) (seen drive new)
      (view_of fixed next p) new at outcome
  pub later : drive.commands p.drive ≤ drive.commands new
  pub faults : drive.faults p.drive ≤ drive.faults new
  pub limits : drive.limits new ≡ drive.limits fixed.first
  pub untold : drive.held fixed.first ≡ None → drive.held new ≡ None
  pub crash : CanServe drive fixed → SurvivesCrashes cartridges (carried fixed.mounted.index)
      (tree_after (view_of fixed next p)) (length p.listed.history) p.trail.acks (seen drive new).leavings fixed.since
  pub own : LeavesOwnIndexes drive (view_of fixed next p) new outcome

-- A volume that is closed ends as is promised.
abbrev pub ClosesEnd : {D : Type 0} → Ghosts D → Type 0
ClosesEnd {D} drive = (fixed : Fixed D) (next : Option Moment) (at : Moment) (p : Parts D) (noted : Bool) (new : D)
    (outcome : CloseEnd) → CanClose drive fixed next at p → noted ≡ fixed.mounted.noted
    → Finishes drive noted at p.stock p.drive new outcome → EndsAsPromised drive fixed next at p new outcome
