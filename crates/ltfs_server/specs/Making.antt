-- What `make` comes to: when it comes to that, and what is told then.
use Rattle.std.specs.Prelude.{◌≡◌, ℕ, not, Bool, true, false, List, ◌++◌, length, count_by, sum_by}
use Rattle.std.specs.Prelude.{Option, Some, None, IfSome, codes, decimal}
use Rattle.std.specs.FinMap as fin
use Rattle.std.specs.Io.KnownBytes.{Appends}
use Rattle.tape_types.specs.declared.cartridges.Twin.{Twin}
use Rattle.tape_types.specs.declared.moments.Moment.{Moment}
use Rattle.plain_tree.specs.Tree.{Tree}
use Rattle.plain_tree.specs.declared.calls.Answer.{Answer}
use Rattle.plain_tree.specs.declared.calls.Answer.TheVariants as answers
use Rattle.session_script.specs.KeptReplies.{bytes_in}
use Rattle.session_script.specs.Made.{made_script}
use Rattle.session_script.specs.declared.logs.Log.{Log}
use Rattle.session_script.specs.declared.logs.Reply.{Reply}
use Rattle.session_script.specs.declared.logs.Reply.TheVariants as replies
use Rattle.tape_drive.specs.declared.drive.Drive.{Ghosts}
use Rattle.mount_recover.specs.Labels.{AreCounts}
use Rattle.mount_recover.specs.Steps.{Blames}
use Rattle.cartridge_meaning.specs.Carried.{carried}
use Rattle.cartridge_meaning.specs.Meaning.{Reads}
use Rattle.cartridge_meaning.specs.Mounts.{Mounts}
use Rattle.cartridge_meaning.specs.declared.errors.MountErr.{MountErr}
use Rattle.cartridge_meaning.specs.declared.mounted.Mounted.{Mounted}
use Rattle.promises.specs.ServingPromise.Ends.{bounded}
use Rattle.promises.specs.ServingPromise.Headline.{Closed, Failed, ServeEnd, Short, end_text, status_of, tree_of_log}
use Rattle.promises.specs.ServingPromise.Served.{CanTell}
use Rattle.promises.specs.OrderLaws.Kept.{seen}
use Rattle.run_laws.specs.Went.{IsRunBy}
use Rattle.session_run.specs.Serving.{HoldsTree, end_line}
use Rattle.session_run.specs.declared.ends.ServeEnd.{ServeEnd as VolumeEnd}
use Rattle.session_run.specs.declared.ends.ServeEnd.TheVariants as ends
use Rattle.commands.specs.BasicCommands.Headline.{IsDriveFaultPrinted}
use Rattle.commands.specs.BasicCommands.Labels.{mount_status, mount_text}
use Rattle.commands.specs.BasicCommands.Runs.{Written}
use Rattle.ltfs_server.specs.Serving.{EndsRun}

-- ---- the summary

abbrev pub is_refused : Answer → Bool
is_refused (answers.Refused why) = true
is_refused answer = false

-- the call was done, and not refused
abbrev pub is_done : Reply → Bool
is_done (replies.Answer answer) = not (is_refused answer)
is_done (replies.Full need limit) = false
is_done (replies.Fault counts) = false
is_done replies.NoMemory = false

abbrev pub done_count : List Reply → ℕ
done_count told = count_by is_done told

abbrev pub bytes_read : List Reply → ℕ
bytes_read told = sum_by bytes_in told

-- `made CALLS DONE READ NODES`
abbrev pub summary : Log → (nodes : ℕ) → List ℕ
summary log nodes = codes "made "
    ++ (decimal (length log.history)
    ++ (codes " "
    ++ (decimal (done_count log.replies)
    ++ (codes " " ++ (decimal (bounded (bytes_read log.replies)) ++ (codes " " ++ (decimal nodes ++ codes "\n")))))))

-- the summary where the volume was closed, or else the line of the end
abbrev pub summary_text : Log → ServeEnd → (nodes : ℕ) → List ℕ
summary_text log (Closed generation) nodes = summary log nodes
summary_text log end nodes = end_text log end

-- the summary where all calls were made and the volume was closed, or else the line of the end
abbrev pub closed_line : Option Log → VolumeEnd → List ℕ
closed_line (Some log) (ends.Done generation steps travel nodes) = summary log nodes
closed_line log end = end_line end

-- ---- what it comes to

-- The cartridge wasn't mounted, or memory was refused before the first call; the script was run, the volume closed so,
-- and its tree had so many nodes; or memory was refused to the close or to the summary.
pub data MadeEnd : Type 0 where
  unmade : MountErr → MadeEnd
  made : Log → ServeEnd → (nodes : ℕ) → MadeEnd
  starved : Log → MadeEnd

abbrev pub made_status : MadeEnd → ℕ
made_status (unmade error) = mount_status error
made_status (made log end nodes) = status_of end
made_status (starved log) = 7

abbrev pub made_text : MadeEnd → List ℕ
made_text (unmade error) = mount_text error
made_text (made log end nodes) = summary_text log end nodes
made_text (starved log) = codes "memory\n"

-- the log, wherever the calls were run
abbrev pub made_log : MadeEnd → Option Log
made_log (unmade error) = None
made_log (made log end nodes) = Some log
made_log (starved log) = Some log

-- the tree had so many nodes, where the volume was closed
abbrev pub HasNodes : ServeEnd → Tree → ℕ → Type 0
HasNodes (Closed generation) tree nodes = nodes ≡ fin.len tree.nodes
HasNodes end tree nodes = Unit {0}

module _ {D : Type 0} (drive : Ghosts D) (old new : D) (moment : Option Moment) (count : ℕ) where
  -- the log is that of a run of the script with so many calls a session
  abbrev pub IsMadeRun : Log → Type 0
  IsMadeRun log = IsRunBy drive (made_script count) moment old new log

  -- and that run ended so, with so many nodes in the tree of its whole history, where the drive could tell
  pub record IsMadeTo (end : ServeEnd) (log : Log) (nodes : ℕ) : Type 0 where
    pub ended : EndsRun drive old new moment end (made_script count) log
    pub nodes_are : (tree : Tree) (mounted : Mounted)
        → CanTell
        (λ c. Reads c (carried mounted.index) tree mounted.newest × Mounts c mounted)
        (drive.commands old) (seen drive old)
        → HasNodes end (tree_of_log (made_script count) tree log (length log.history)) nodes

  -- when `make` ends so
  abbrev pub IsMadeEnd : MadeEnd → Type 0
  IsMadeEnd (unmade error) =
      IfSome (drive.held old) (λ c. Blames error c) × AreCounts (drive.faults old) (drive.faults new) error
  IsMadeEnd (made log end nodes) = HoldsTree (drive.held old) × IsMadeTo end log nodes
  IsMadeEnd (starved log) = IsMadeRun log

  -- there is a log of such a run, and the line of its end was printed
  abbrev pub IsMadeEndPrinted : Written → ServeEnd → Option Log → Type 0
  IsMadeEndPrinted sink end None = ⊥
  IsMadeEndPrinted sink end (Some log) =
      (nodes : ℕ) × IsMadeTo end log nodes × Appends sink.old sink.new (summary_text log end nodes)

  -- the volume was closed, with a generation, and the summary was printed
  abbrev pub IsSummaryPrinted : Written → Option Log → Type 0
  IsSummaryPrinted sink log = (generation : ℕ) × IsMadeEndPrinted sink (Closed generation) log

  -- the close was short of space, by numbers that are told
  abbrev pub IsMadeShortPrinted : Written → Option Log → Type 0
  IsMadeShortPrinted sink log = (need : ℕ) × (limit : ℕ) × IsMadeEndPrinted sink (Short need limit) log

  -- the drive failed, as it was mounted or in the close, and its counts of faults were printed
  abbrev pub IsMadeFailurePrinted : Written → Option Log → Type 0
  IsMadeFailurePrinted sink None = IsDriveFaultPrinted (drive.faults old) (drive.faults new) sink.old sink.new
  IsMadeFailurePrinted sink (Some log) = (counts : Twin) × IsMadeEndPrinted sink (Failed counts) (Some log)
