-- How a run went on its drive: by which acts, and what a crash could have left at each moment of it.
use Rattle.std.specs.Prelude.{ℕ, ◌≡◌, ◌≤◌, List, Option, Some}
use Rattle.tape_types.specs.declared.cartridges.Cartridge.{Cartridge}
use Rattle.tape_types.specs.declared.moments.Moment.{Moment}
use Rattle.plain_tree.specs.Tree.{Tree}
use Rattle.plain_tree.specs.declared.calls.Placed.{Placed}
use Rattle.session_script.specs.declared.logs.Ack.{Ack}
use Rattle.session_script.specs.declared.logs.Log.{Log}
use Rattle.session_script.specs.declared.scripts.ScriptLine.{ScriptLine}
use Rattle.tape_drive.specs.Looks.{Looks}
use Rattle.tape_drive.specs.declared.drive.Drive.{Ghosts}
use Rattle.cartridge_meaning.specs.Carried.{Carried, carried}
use Rattle.cartridge_meaning.specs.Meaning.{Reads}
use Rattle.cartridge_meaning.specs.Mounts.{Mounts}
use Rattle.cartridge_meaning.specs.declared.mounted.Mounted.{Mounted}
use Rattle.promises.specs.ServingPromise.Crash.{IsSound}
use Rattle.promises.specs.ServingPromise.Headline.{IsServeRun}
use Rattle.promises.specs.ServingPromise.Meanings.{cartridges}
use Rattle.promises.specs.ServingPromise.Served.{CanTell}
use Rattle.promises.specs.OrderLaws.Kept.{seen}
use Rattle.run_laws.specs.LogLaws.Acts.{HasGone, SurvivesThen}

-- What a crash may have left by a moment, at which so much had been placed and acknowledged: it is said where the
-- cartridge stood for its tree and was sound as the run began.
abbrev pub IsFoundThen : {D : Type 0} → Ghosts D → List ScriptLine → (start : D) → List Placed → List Ack → D → Type 0
IsFoundThen drive script start history acks now = (facts : Carried) (tree : Tree) (generation : ℕ)
    → CanTell (λ c. cartridges.Stands c facts tree generation × IsSound cartridges c) (drive.commands start)
    (seen drive start)
    → SurvivesThen drive cartridges script facts tree (drive.commands start) history acks now

-- The drive was only looked at until the first call, and its cartridge was mounted as it reads. From then on each step of the log was an act of it, and it did
-- nothing else until the close.
pub record WentBy {D : Type 0} (drive : Ghosts D) (script : List ScriptLine) (start now : D) (log : Log)
    : Type 0 where
  pub most : ℕ
  pub first : D
  pub last : D
  pub looked : Looks drive most start first
  pub mounted : (c : Cartridge) → drive.held first ≡ Some c
      → (m : Mounted) × (tree : Tree) × Mounts c m × Reads c (carried m.index) tree m.newest
  pub gone : HasGone drive (IsFoundThen drive script start) first log.history log.events log.acks last
  pub commands : drive.commands last ≤ drive.commands now
  pub faults : drive.faults last ≤ drive.faults now

-- what a log tells of a run, and how the run went
pub record IsRunBy {D : Type 0} (drive : Ghosts D) (script : List ScriptLine) (at : Option Moment) (start now : D)
    (log : Log) : Type 0 where
  pub serves : IsServeRun cartridges script at (seen drive start) (seen drive now) log
  pub went : WentBy drive script start now log
