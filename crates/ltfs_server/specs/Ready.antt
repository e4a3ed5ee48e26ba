-- What `format` and a run that was closed leave is ready for the next run: what the sentence asks of a drive is met.
use Rattle.std.specs.Prelude.{ℕ, ◌≡◌, ◌<◌, ◌-◌, ◌^◌, length, Option, Some}
use Rattle.tape_types.specs.declared.cartridges.Cartridge.{Cartridge}
use Rattle.tape_types.specs.declared.moments.Moment.{Moment}
use Rattle.tape_drive.specs.declared.drive.Drive.{Ghosts}
use Rattle.plain_tree.specs.Tree.{Tree, empty_tree}
use Rattle.session_script.specs.declared.logs.Log.{Log}
use Rattle.cartridge_meaning.specs.Carried.{Carried}
use Rattle.format_volume.specs.Meanings.{carried_for}
use Rattle.format_volume.specs.declared.requests.FormatSpec.{FormatSpec}
use Rattle.promises.specs.ServingPromise.Crash.{IsSound}
use Rattle.promises.specs.ServingPromise.Headline.{tree_of_log}
use Rattle.promises.specs.ServingPromise.Meanings.{cartridges}
use Rattle.promises.specs.ServingPromise.Served.{CanTell}
use Rattle.promises.specs.OrderLaws.Kept.{seen}
use Rattle.commands.specs.BasicCommands.Formats.{IsFormatted}
use Rattle.commands.specs.BasicCommands.Runs.{Taken, Written}
use Rattle.ltfs_server.specs.Sentence.{Asked, Sentence}

-- The drive tells its cartridge, which stands for the tree and is sound, and a crash from now on leaves just that one.
abbrev pub IsReadyFor : {D : Type 0} → Ghosts D → Carried → Tree → ℕ → D → Type 0
IsReadyFor drive facts tree generation d =
    CanTell (λ c. cartridges.Stands c facts tree generation × IsSound cartridges c) (drive.commands d) (seen drive d)

-- A drive that tells its cartridge is ready once that was formatted; and once a run was closed that began with a drive
-- that was ready, it is ready for the tree of the whole history.
pub record LeavesReady {D : Type 0} (drive : Ghosts D) : Type 0 where
  pub formatted : (spec : FormatSpec) (old new : D) (c : Cartridge) → drive.held new ≡ Some c
      → drive.commands new < 2 ^ 64 - 1 → IsFormatted drive spec old new
      → IsReadyFor drive (carried_for spec) (empty_tree spec.at) 1 new
  pub closed : (asked : Asked) (moment : Option Moment) (source : Taken) (old new : D) (sink : Written) (log : Log)
      → (s : Sentence asked moment source drive old new sink 0 log) → (facts : Carried) (tree : Tree) (generation : ℕ)
      → drive.commands new < 2 ^ 64 - 1 → IsReadyFor drive facts tree generation old
      → (newest : ℕ) × IsReadyFor drive facts (tree_of_log s.script tree log (length log.history)) newest new
