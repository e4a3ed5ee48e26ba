-- What `serve` comes to: when it comes to that, and what is told then.
use Rattle.std.specs.Prelude.{◌≡◌, ◌⊎◌, ℕ, List, ◌++◌, Option, Some, None, IfSome, codes}
use Rattle.std.specs.Io.KnownBytes.{Appends}
use Rattle.tape_types.specs.declared.cartridges.Cartridge.{Cartridge}
use Rattle.tape_types.specs.declared.cartridges.Twin.{Twin}
use Rattle.tape_types.specs.declared.moments.Moment.{Moment}
use Rattle.session_script.specs.LogText.{log_text}
use Rattle.session_script.specs.declared.logs.Log.{Log}
use Rattle.session_script.specs.declared.scripts.ScriptLine.{ScriptLine}
use Rattle.plain_tree.specs.Tree.{Tree}
use Rattle.tape_drive.specs.declared.drive.Drive.{Ghosts}
use Rattle.mount_recover.specs.Labels.{AreCounts}
use Rattle.mount_recover.specs.Steps.{Blames}
use Rattle.cartridge_meaning.specs.Carried.{carried}
use Rattle.cartridge_meaning.specs.Meaning.{Reads}
use Rattle.cartridge_meaning.specs.Mounts.{Mounts}
use Rattle.cartridge_meaning.specs.declared.errors.MountErr.{MountErr}
use Rattle.cartridge_meaning.specs.declared.mounted.Mounted.{Mounted}
use Rattle.promises.specs.ServingPromise.Headline.{Closed, Failed, IsEndOf, ServeEnd, Short, serve_text, status_of}
use Rattle.promises.specs.ServingPromise.Meanings.{cartridges}
use Rattle.promises.specs.ServingPromise.Served.{CanTell}
use Rattle.promises.specs.OrderLaws.Kept.{seen}
use Rattle.run_laws.specs.Went.{IsRunBy}
use Rattle.session_run.specs.Serving.{HasOwnOnTop, HoldsTree, end_line}
use Rattle.session_run.specs.declared.ends.ServeEnd.{ServeEnd as VolumeEnd}
use Rattle.session_run.specs.declared.ends.ServeEnd.TheVariants as ends
use Rattle.commands.specs.BasicCommands.Headline.{IsDriveFaultPrinted}
use Rattle.commands.specs.BasicCommands.Labels.{mount_status, mount_text}
use Rattle.commands.specs.BasicCommands.Scripts.{IsUnread, unread_status, unread_text}
use Rattle.commands.specs.BasicCommands.Runs.{IsRunOf, IsScriptIn, Taken, Written}
use Rattle.commands.specs.declared.basic_commands.scripts.Unread.{Unread}

-- ---- how serving ended

abbrev pub end_status : VolumeEnd → ℕ
end_status (ends.Done generation steps travel nodes) = 0
end_status (ends.Volume error) = 3
end_status (ends.Drive counts) = 4
end_status (ends.Full need limit) = 8
end_status ends.NoMemory = 7

-- the line of the end, behind the log, where there is one
abbrev pub told_whole : Option Log → VolumeEnd → List ℕ
told_whole None end = end_line end
told_whole (Some log) end = log_text log ++ end_line end

-- ---- what it comes to

-- There was no script; the cartridge wasn't mounted, or memory was refused before the first call; the script was
-- served, and the volume closed so; or memory was refused to the close.
pub data ServedEnd : Type 0 where
  unscripted : Unread → ServedEnd
  unserved : MountErr → ServedEnd
  served : Log → ServeEnd → ServedEnd
  unclosed : Log → ServedEnd

abbrev pub served_status : ServedEnd → ℕ
served_status (unscripted why) = unread_status why
served_status (unserved error) = mount_status error
served_status (served log end) = status_of end
served_status (unclosed log) = 7

abbrev pub served_text : ServedEnd → List ℕ
served_text (unscripted why) = unread_text why
served_text (unserved error) = mount_text error
served_text (served log end) = serve_text log end
served_text (unclosed log) = log_text log ++ codes "memory\n"

-- the log, wherever the calls were run
abbrev pub served_log : ServedEnd → Option Log
served_log (unscripted why) = None
served_log (unserved error) = None
served_log (served log end) = Some log
served_log (unclosed log) = Some log

-- a close that is done leaves the run's own indexes at the top of the data partition
abbrev pub LeavesOwn : {D : Type 0} → Ghosts D → (old new : D) → Option Moment → ServeEnd → List ScriptLine → Log
    → Type 0
LeavesOwn drive old new moment (Closed generation) script log = (tree : Tree) (mounted : Mounted) (first : Cartridge)
    → CanTell (λ c. Reads c (carried mounted.index) tree mounted.newest × Mounts c mounted) (drive.commands old)
    (seen drive old)
    → drive.held old ≡ Some first → HasOwnOnTop drive old new moment script log tree mounted first
LeavesOwn drive old new moment _ script log = Unit {0}

-- the run of a script, between two moments of a drive, ended so
pub record EndsRun {D : Type 0} (drive : Ghosts D) (old new : D) (moment : Option Moment) (end : ServeEnd)
    (script : List ScriptLine) (log : Log) : Type 0 where
  pub run : IsRunBy drive script moment old new log
  pub ends : IsEndOf cartridges script (seen drive old) (seen drive new) log end
  pub own : LeavesOwn drive old new moment end script log

module _ {D : Type 0} (drive : Ghosts D) (old new : D) (moment : Option Moment) (source : Taken) where
  -- the log is that of a run of the script that was left in the source
  abbrev pub IsServedRun : Log → Type 0
  IsServedRun log =
      IsRunOf (λ script l. IsRunBy drive script moment old new l) source log

  -- and that run ended so
  abbrev pub IsServedTo : ServeEnd → Log → Type 0
  IsServedTo end log = IsRunOf (λ script l. EndsRun drive old new moment end script l) source log

  -- when `serve` ends so
  abbrev pub IsServedEnd : ServedEnd → Type 0
  IsServedEnd (unscripted why) = IsUnread source why
  IsServedEnd (unserved error) =
      ((script : List ScriptLine) × IsScriptIn source script)
      × IfSome (drive.held old) (λ c. Blames error c) × AreCounts (drive.faults old) (drive.faults new) error
  IsServedEnd (served log end) = HoldsTree (drive.held old) × IsServedTo end log
  IsServedEnd (unclosed log) = IsServedRun log

  -- there is a log of such a run, and it and the line of its end were printed
  abbrev pub IsEndPrinted : Written → ServeEnd → Option Log → Type 0
  IsEndPrinted sink end None = ⊥
  IsEndPrinted sink end (Some log) = IsServedTo end log × Appends sink.old sink.new (serve_text log end)

  -- the volume was closed, with a generation, which is told
  abbrev pub IsClosePrinted : Written → Option Log → Type 0
  IsClosePrinted sink log = (generation : ℕ) × IsEndPrinted sink (Closed generation) log

  -- the close was short of space, by numbers that are told
  abbrev pub IsShortPrinted : Written → Option Log → Type 0
  IsShortPrinted sink log = (need : ℕ) × (limit : ℕ) × IsEndPrinted sink (Short need limit) log

  -- the drive failed, as it was mounted or in the close, and its counts of faults were printed
  abbrev pub IsFailurePrinted : Written → Option Log → Type 0
  IsFailurePrinted sink None = IsDriveFaultPrinted (drive.faults old) (drive.faults new) sink.old sink.new
  IsFailurePrinted sink (Some log) =
      (counts : Twin) × IsServedTo (Failed counts) log × Appends sink.old sink.new (serve_text log (Failed counts))

-- that memory was refused was printed, behind the log, where there is one
abbrev pub IsRefusedPrinted : Written → Option Log → Type 0
IsRefusedPrinted sink None = Appends sink.old sink.new (codes "memory\n")
IsRefusedPrinted sink (Some log) = Appends sink.old sink.new (log_text log ++ codes "memory\n")
