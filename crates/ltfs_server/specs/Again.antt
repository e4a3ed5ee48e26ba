-- What a crash leaves of a run over the drive in memory is a cartridge with which a new drive is ready again.
use Rattle.std.specs.Prelude.{ℕ, ◌≡◌, ◌-◌, min, List, Option, Some, None}
use Rattle.tape_types.specs.declared.cartridges.Cartridge.{Cartridge}
use Rattle.tape_types.specs.declared.cartridges.Limits.{Limits}
use Rattle.tape_types.specs.declared.moments.Moment.{Moment}
use Rattle.plain_tree.specs.Tree.{Tree}
use Rattle.session_script.specs.declared.logs.Log.{Log}
use Rattle.session_script.specs.declared.scripts.ScriptLine.{ScriptLine}
use Rattle.tape_drive.specs.Images.{crash_image, moments}
use Rattle.tape_drive.specs.Memory.{View, made}
use Rattle.tape_drive.specs.declared.crash.Cut.{Cut}
use Rattle.tape_drive.specs.declared.drive.Drive.{Ghosts}
use Rattle.tape_drive.specs.declared.schedule.Fail.{Fail}
use Rattle.cartridge_meaning.specs.Carried.{Carried}
use Rattle.promises.specs.ServingPromise.Headline.{tree_of_log}
use Rattle.run_laws.specs.Memory.{HoldsAcked, IsReady, acked_in_count}
use Rattle.commands.specs.BasicCommands.Runs.{Taken, Written}
use Rattle.ltfs_server.specs.Sentence.{Asked, IsScriptAsked, SentenceHolds}

-- ---- the image

-- a cut of so many moments: one whose moment isn't there counts as the last
abbrev pub cut_within : ℕ → Cut → Cut
cut_within count cut = record { moment = min cut.moment (count - 1); torn = cut.torn }

-- what a crash now leaves by two such cuts
abbrev pub image_by : Cut → Cut → View → Cartridge
image_by ip dp v = crash_image v.held v.acts (cut_within (moments v.acts) ip) (cut_within (moments v.acts) dp)

-- ---- what it holds

-- The image stands for the tree after some first placements of the log, with all that were placed before any of these
-- syncs among them, and is sound.
abbrev pub HoldsLog : Carried → List ScriptLine → Tree → Log → Cartridge → Type 0
HoldsLog facts script tree log image = HoldsAcked facts script tree log (acked_in_count log.acks) image

-- its cartridge holds the log so, and the drive is ready for the tree after just these placements
pub record IsReadyAfter (facts : Carried) (script : List ScriptLine) (tree : Tree) (log : Log) (v : View)
    : Type 0 where
  pub holds : HoldsLog facts script tree log v.held
  pub ready : IsReady facts (tree_of_log script tree log holds.count) holds.generation v

-- The drive is ready again behind a run that had begun ready for a tree: for that tree, where the run left no log; and
-- else for the tree after some first placements of the log, by the script that was asked for.
abbrev pub IsReadyAgain : Asked → Taken → Carried → Tree → ℕ → Option Log → View → Type 0
IsReadyAgain asked source facts tree generation None v = IsReady facts tree generation v
IsReadyAgain asked source facts tree generation (Some log) v =
    (script : List ScriptLine) × IsScriptAsked asked source script × IsReadyAfter facts script tree log v

-- Each image that a crash may leave of a run for which the sentence holds, and that had begun with a drive that was
-- ready: a new drive with it is ready again.
abbrev pub CrashesLeaveReady : Ghosts View → Type 0
CrashesLeaveReady drive = (asked : Asked) (moment : Option Moment) (source : Taken) (old new : View) (sink : Written)
    (status : ℕ) (log : Option Log) → SentenceHolds asked moment source drive old new sink status log
    → (facts : Carried) (tree : Tree) (generation : ℕ) → IsReady facts tree generation old
    → (image : Cartridge) → drive.leaves new image → (limits : Limits) (fails : List Fail)
    → IsReadyAgain asked source facts tree generation log (made image limits fails)
