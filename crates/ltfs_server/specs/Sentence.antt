-- The sentence that the program promises for the words of `serve` and of `make`, part by part.
use Rattle.std.specs.Prelude.{◌≡◌, ◌⊎◌, ◌*◌, ℕ, true, List, [], ◌∷◌, ◌++◌, All, length, map, Option, Some, None}
use Rattle.std.specs.Prelude.{IfSome, codes}
use Rattle.std.specs.Io.KnownBytes.{Appends}
use Rattle.tape_types.specs.Counts.{Rose}
use Rattle.tape_types.specs.declared.moments.Moment.{Moment}
use Rattle.mount_recover.specs.Known.{mount_most}
use Rattle.tape_drive.specs.Looks.{Looks}
use Rattle.tape_drive.specs.Memory.{View}
use Rattle.tape_drive.specs.declared.drive.Drive.{Ghosts}
use Rattle.plain_tree.specs.History.{IsInterleaving}
use Rattle.plain_tree.specs.Tree.{Tree}
use Rattle.session_script.specs.Grammar.{calls_of}
use Rattle.session_script.specs.LogText.{log_text}
use Rattle.session_script.specs.Made.{made_script}
use Rattle.session_script.specs.declared.logs.Log.{Log}
use Rattle.session_script.specs.declared.scripts.ScriptLine.{ScriptLine}
use Rattle.head_queue.specs.EventLaws.Trail.{IsTrail, after_all}
use Rattle.head_queue.specs.EventLaws.Waiting.{is_at_rest}
use Rattle.cartridge_meaning.specs.Carried.{Carried, carried}
use Rattle.cartridge_meaning.specs.declared.mounted.Mounted.{Mounted}
use Rattle.promises.specs.ServingPromise.Acks.{AreAcks, AreReached, AreSyncs}
use Rattle.promises.specs.ServingPromise.Asking.{AreOfReads}
use Rattle.promises.specs.ServingPromise.Crash.{IsSound, SurvivesCrashes}
use Rattle.promises.specs.ServingPromise.Faults.{AreFaults}
use Rattle.promises.specs.ServingPromise.Headline.{IsEndOf, IsTrueLog, ServeEnd, serve_text, status_of, tree_of_log}
use Rattle.promises.specs.ServingPromise.Meanings.{cartridges}
use Rattle.promises.specs.ServingPromise.Served.{CanTell, Drive}
use Rattle.promises.specs.OrderLaws.Kept.{seen}
use Rattle.run_laws.specs.Memory.{IsReady, Survives}
use Rattle.run_laws.specs.Went.{WentBy}
use Rattle.commands.specs.CommandLine.Forms.{IsMakeWords, IsServeWords}
use Rattle.ltfs_server.specs.Making.{HasNodes, summary_text}
use Rattle.commands.specs.BasicCommands.Runs.{IsOneOf, IsScriptIn, Taken, Written}
use Rattle.ltfs_server.specs.Outcomes.{Run}
use Rattle.session_run.specs.Timed.{one_moment}

-- ---- what was asked

-- that the script is served that is left in the source, or one that is made from a number
pub data Asked : Type 0 where
  to_serve : Asked
  to_make : ℕ → Asked

-- The words ask for that. Every moment is the one of the words, or else the clock's one moment, where it has one.
abbrev pub Asks : Run → Asked → Option Moment → Type 0
Asks r to_serve moment = (at : Option Moment) × IsServeWords r.words at × (moment ≡ one_moment at r.one)
Asks r (to_make count) moment = (at : Option Moment) × IsMakeWords r.words count at × (moment ≡ one_moment at r.one)

-- the script whose calls were made
abbrev pub IsScriptAsked : Asked → Taken → List ScriptLine → Type 0
IsScriptAsked to_serve source script = IsScriptIn source script
IsScriptAsked (to_make count) source script = script ≡ made_script count

-- ---- "the log is one history with each session's calls once, in order"

-- whatever the order in which sessions came
pub record IsOneHistory (script : List ScriptLine) (moment : Option Moment) (log : Log) : Type 0 where
  pub once_in_order : IsInterleaving (calls_of script) log.history
  pub moments : IfSome moment (λ m. All (λ p. p.at ≡ m) log.history)
  pub replied : length log.replies ≡ length log.history

-- ---- "every order of head steps"

-- The events are a trail, in which each step of the head was the nearest ahead, and nothing is left waiting. They tell
-- of the syncs that are done, of the blocks that reads asked for, and of each fault once, with its session; acks are of
-- the syncs alone, at commands that the drive had made.
pub record AreHeadSteps (script : List ScriptLine) (first now : Drive) (log : Log) : Type 0 where
  pub trail : IsTrail log.events
  pub at_rest : is_at_rest (after_all log.events) ≡ true
  pub syncs : AreSyncs (calls_of script) log.history log.events
  pub reads : AreOfReads (calls_of script) log.history log.events
  pub faults : AreFaults log.history log.events (map Some log.replies) [] first.faults now.faults
  pub acks : AreAcks log.events (map Some log.replies) log.acks
  pub reached : AreReached log.events log.acks now.commands

-- ---- "each reply is what a plain file tree answers at its place, or a refusal with a stated cause"

-- where the drive told a cartridge that reads as a tree, and a crash would have left just that one
abbrev pub AreAnswers : List ScriptLine → Drive → Log → Type 0
AreAnswers script first log = (tree : Tree) (mounted : Mounted)
    → CanTell (λ c. cartridges.Reads c (carried mounted.index) tree mounted.newest × cartridges.Mounts c mounted)
    first.commands first
    → IsTrueLog script tree mounted first log

-- ---- "after a crash within any tape command, mounting gives the tree after a prefix of that history that holds all
-- that a sync acknowledged by then covered"

-- where the cartridge stood for its tree and was sound
abbrev pub IsFoundAgain : List ScriptLine → (first now : Drive) → Log → Type 0
IsFoundAgain script first now log = (facts : Carried) (tree : Tree) (generation : ℕ)
    → CanTell (λ c. cartridges.Stands c facts tree generation × IsSound cartridges c) first.commands first
    → SurvivesCrashes cartridges facts (tree_of_log script tree log) (length log.history) log.acks now.leavings
    first.commands

-- ---- how it ended

-- the log and the line of the end, or the summary or the line of a fault alone
abbrev pub told_text : Asked → Log → ServeEnd → ℕ → List ℕ
told_text to_serve log end nodes = serve_text log end
told_text (to_make count) log end nodes = summary_text log end nodes

-- a summary tells how many nodes the tree of the whole history has, where the cartridge read as a tree
abbrev pub AreNodesTold : Asked → List ScriptLine → Drive → Log → ServeEnd → ℕ → Type 0
AreNodesTold to_serve script first log end nodes = Unit {0}
AreNodesTold (to_make count) script first log end nodes = (tree : Tree) (mounted : Mounted)
    → CanTell (λ c. cartridges.Reads c (carried mounted.index) tree mounted.newest × cartridges.Mounts c mounted)
    first.commands first
    → HasNodes end (tree_of_log script tree log (length log.history)) nodes

-- The volume was closed, with a generation; or the close was short of space, or failed, by the numbers that are told.
-- This was printed.
pub record IsClosedSo {D : Type 0} (asked : Asked) (script : List ScriptLine) (drive : Ghosts D) (old new : D)
    (sink : Written) (status : ℕ) (log : Log) : Type 0 where
  pub end : ServeEnd
  pub nodes : ℕ
  pub status_is : status ≡ status_of end
  pub ends : IsEndOf cartridges script (seen drive old) (seen drive new) log end
  pub nodes_are : AreNodesTold asked script (seen drive old) log end nodes
  pub printed : Appends sink.old sink.new (told_text asked log end nodes)

-- that memory was refused: for `serve` the log may stand before it
abbrev pub IsWantPrinted : Asked → Written → Log → Type 0
IsWantPrinted to_serve sink log =
    Appends sink.old sink.new (codes "memory\n") ⊎ Appends sink.old sink.new (log_text log ++ codes "memory\n")
IsWantPrinted (to_make count) sink log = Appends sink.old sink.new (codes "memory\n")

-- ---- the sentence

-- It holds wherever there is a log, whatever status the run ended with. How it went: the mount only looked, each step of
-- the head was an act of the drive, each acknowledgement has the drive's number of commands as it was given, and what a
-- crash could have left as each call returned held all that was acknowledged by then, and nothing that was placed later.
pub record Sentence {D : Type 0} (asked : Asked) (moment : Option Moment) (source : Taken) (drive : Ghosts D)
    (old new : D) (sink : Written) (status : ℕ) (log : Log) : Type 0 where
  pub script : List ScriptLine
  pub is_asked : IsScriptAsked asked source script
  pub history : IsOneHistory script moment log
  pub steps : AreHeadSteps script (seen drive old) (seen drive new) log
  pub replies : AreAnswers script (seen drive old) log
  pub crash : IsFoundAgain script (seen drive old) (seen drive new) log
  pub went : WentBy drive script old new log
  pub close : IsOneOf status (0 ∷ 4 ∷ 8 ∷ []) → IsClosedSo asked script drive old new sink status log
  pub memory : status ≡ 7 → IsWantPrinted asked sink log
  pub only_write : status ≡ 6 → Rose sink.before sink.now
  pub statuses : IsOneOf status (0 ∷ 4 ∷ 6 ∷ 7 ∷ 8 ∷ [])

-- Without a log no call was made: the cartridge was only looked at, and a crash leaves nothing that it couldn't leave
-- before.
abbrev pub SentenceHolds : {D : Type 0} → Asked → Option Moment → Taken → Ghosts D → (old new : D) → Written
    → (status : ℕ) → Option Log → Type 0
SentenceHolds asked moment source drive old new sink status (Some log) =
    Sentence asked moment source drive old new sink status log
SentenceHolds asked moment source drive old new sink status None =
    Looks drive (mount_most (drive.limits old) * drive.MOST) old new

-- ---- the drive in memory

-- Where the sentence holds of a log, over a drive in memory that began ready, the log survives crashes: in words of
-- that drive's record alone.
abbrev pub SurvivesInMemory : Ghosts View → View → Type 0
SurvivesInMemory drive now = (asked : Asked) (moment : Option Moment) (source : Taken) (first : View) (sink : Written)
    (status : ℕ) (log : Log) (s : Sentence asked moment source drive first now sink status log)
    (facts : Carried) (tree : Tree) (generation : ℕ) → IsReady facts tree generation first
    → Survives facts s.script tree first now log
