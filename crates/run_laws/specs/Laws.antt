-- What a volume that was served and closed gives its caller: the log as the program promises it.
use Rattle.std.specs.Prelude.{ℕ, ◌≡◌, ◌≤◌, List, length, Option, Some, IfSome}
use Rattle.tape_types.specs.declared.cartridges.Cartridge.{Cartridge}
use Rattle.tape_types.specs.declared.moments.Moment.{Moment}
use Rattle.plain_tree.specs.History.{IsInterleaving}
use Rattle.plain_tree.specs.Tree.{Tree}
use Rattle.session_script.specs.Grammar.{calls_of}
use Rattle.session_script.specs.Sessions.{greatest_session}
use Rattle.session_script.specs.declared.logs.Log.{Log}
use Rattle.session_script.specs.declared.scripts.ScriptLine.{ScriptLine}
use Rattle.tape_drive.specs.Looks.{Looks}
use Rattle.tape_drive.specs.declared.drive.Drive.{Ghosts}
use Rattle.cartridge_meaning.specs.Carried.{carried}
use Rattle.cartridge_meaning.specs.Meaning.{Reads}
use Rattle.cartridge_meaning.specs.Mounts.{Mounts}
use Rattle.cartridge_meaning.specs.declared.mounted.Mounted.{Mounted}
use Rattle.promises.specs.ServingPromise.Ends.{Closes, TellsNodes}
use Rattle.promises.specs.ServingPromise.Headline.{IsEndOf, Closed, Failed, Short, tree_of_log}
use Rattle.promises.specs.ServingPromise.Marks.{NothingWaits}
use Rattle.promises.specs.ServingPromise.Meanings.{cartridges}
use Rattle.promises.specs.ServingPromise.Served.{CanTell, IsServed, View}
use Rattle.promises.specs.declared.serving_promise.answers.CloseEnd.{CloseEnd}
use Rattle.promises.specs.declared.serving_promise.answers.CloseEnd.TheVariants as ends
use Rattle.promises.specs.OrderLaws.Kept.{seen}
use Rattle.run_laws.specs.LogLaws.Acts.{IsGone}
use Rattle.run_laws.specs.LogLaws.Logged.{IsLogged}
use Rattle.run_laws.specs.Went.{IsRunBy}

-- A volume was begun over a drive that had only been looked at since a run began, to mount it. Of crashes is spoken
-- since then. All calls of the script were placed, each has its place among the replies, and nothing waits.
pub record IsPlayed {D : Type 0} (drive : Ghosts D) (script : List ScriptLine) (at : Option Moment) (start : D)
    (v : View D) : Type 0 where
  pub most : ℕ
  pub looked : Looks drive most start v.fixed.first
  pub faults : drive.faults start ≤ drive.faults v.fixed.first
  pub since : v.fixed.since ≡ drive.commands start
  pub script_is : v.fixed.script ≡ script
  pub moment : IfSome at (λ m. v.fixed.moment ≡ Some m)
  pub mounted : (c : Cartridge) → drive.held v.fixed.first ≡ Some c → Mounts c v.fixed.mounted
      × Reads c (carried v.fixed.mounted.index) v.fixed.tree v.fixed.mounted.newest
  pub served : IsServed cartridges (seen drive v.fixed.first) (seen drive v.drive) v
  pub logged : IsLogged cartridges (seen drive v.fixed.first) v
  pub gone : IsGone drive cartridges v
  pub history : IsInterleaving (calls_of script) v.history
  pub count : length v.replies ≡ length v.history
  pub nothing : NothingWaits (greatest_session script) v.marks

-- how serving ends, by how the close did: without memory nothing is promised of the end
abbrev pub EndsSo : {D : Type 0} → Ghosts D → List ScriptLine → (start now : D) → Log → CloseEnd → Type 0
EndsSo drive script start now log (ends.Done generation) =
    IsEndOf cartridges script (seen drive start) (seen drive now) log (Closed generation)
EndsSo drive script start now log (ends.Full need limit) =
    IsEndOf cartridges script (seen drive start) (seen drive now) log (Short need limit)
EndsSo drive script start now log (ends.Fault counts) =
    IsEndOf cartridges script (seen drive start) (seen drive now) log (Failed counts)
EndsSo drive script start now log ends.NoMemory = Unit {0}

-- Its log is that of a run of the script, and the run ends as the close did. Where the cartridge read as a tree, a
-- close that is done tells how many nodes the tree has that the whole history leaves.
pub record IsRun {D : Type 0} (drive : Ghosts D) (script : List ScriptLine) (at : Option Moment) (start now : D)
    (log : Log) (outcome : CloseEnd) (nodes : ℕ) : Type 0 where
  pub run : IsRunBy drive script at start now log
  pub end : EndsSo drive script start now log outcome
  pub nodes_are : (tree : Tree) (mounted : Mounted)
      → CanTell (λ c. Reads c (carried mounted.index) tree mounted.newest × Mounts c mounted) (drive.commands start)
      (seen drive start)
      → TellsNodes outcome (tree_of_log script tree log (length log.history)) nodes

abbrev pub PlaysAreRuns : {D : Type 0} → Ghosts D → Type 0
PlaysAreRuns {D} drive = (script : List ScriptLine) (at : Option Moment) (start : D) (v : View D) (now : D) (log : Log)
    (outcome : CloseEnd) (step_count travel_sum nodes : ℕ) → IsPlayed drive script at start v
    → Closes cartridges (seen drive v.fixed.first) (seen drive v.drive) (seen drive now) v now log outcome step_count
    travel_sum nodes
    → IsRun drive script at start now log outcome nodes
