-- What a run of all sessions makes of a served volume.
use Rattle.std.specs.Prelude.{◌≡◌, length, IfSome}
use Rattle.plain_tree.specs.History.{IsInterleaving}
use Rattle.session_script.specs.Grammar.{calls_of}
use Rattle.session_script.specs.Sessions.{greatest_session}
use Rattle.tape_drive.specs.declared.drive.Drive.{Ghosts}
use Rattle.tape_desk.specs.Held.{HeldView, constants}
use Rattle.tape_desk.specs.Passes.{DeskView, IsRested}
use Rattle.tape_desk.specs.Promised.{IsPromised}
use Rattle.promises.specs.ServingPromise.Marks.{NothingWaits}
use Rattle.promises.specs.ServingPromise.Served.{View}
use Rattle.session_run.specs.declared.ran.RanEnd.{RanEnd}
use Rattle.session_run.specs.declared.ran.RanEnd.TheVariants as ends

-- the pass of a session once all its calls were made
pub record IsDone {D K : Type 0} (old new : DeskView D K) : Type 0 where
  pub lock : new.lock ≡ old.lock
  pub sessions : new.sessions ≡ old.sessions
  pub who : new.who ≡ old.who
  pub fixed : new.fixed ≡ old.fixed
  pub all : IfSome new.fixed (λ f. new.placed ≡ length (calls_of f.volume.script new.who))
  pub rests : IsRested new

-- Each session's calls were placed once, in order, and nothing waits. All is kept that is promised.
pub record IsServedWhole {D : Type 0} (drive : Ghosts D) (v : View D) : Type 0 where
  pub promised : IsPromised drive v
  pub history : IsInterleaving (calls_of v.fixed.script) v.history
  pub nothing : NothingWaits (greatest_session v.fixed.script) v.marks

-- how a run ended: all calls were made, or nothing was asked
abbrev pub HasRun : {D K : Type 0} → Ghosts D → (old new : HeldView D K) → RanEnd → Type 0
HasRun drive old new ends.Done = (constants new ≡ constants old) × IsServedWhole drive new.volume
HasRun drive old new ends.NoMemory = new ≡ old
