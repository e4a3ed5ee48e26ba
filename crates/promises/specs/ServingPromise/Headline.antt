-- What `serve` promises of its log, its cartridge and its text.
use Rattle.std.specs.Prelude.{◌≡◌, ◌≤◌, not, ℕ, Bool, true, false, List, [], ◌++◌, All, map, fold, filter_map, length}
use Rattle.std.specs.Prelude.{take, take_while, scan, zip, Option, Some, None, IfSome, codes, decimal}
use Rattle.std.specs.List.{list_any}
use Rattle.tape_types.specs.Counts.{IsRise}
use Rattle.tape_types.specs.declared.cartridges.Twin.{Twin}
use Rattle.tape_types.specs.declared.moments.Moment.{Moment}
use Rattle.plain_tree.specs.History.{IsInterleaving, replay}
use Rattle.plain_tree.specs.Tree.{Tree}
use Rattle.plain_tree.specs.declared.calls.Placed.{Placed}
use Rattle.session_script.specs.Grammar.{calls_of}
use Rattle.session_script.specs.LogText.{log_text}
use Rattle.session_script.specs.declared.logs.Event.{Event}
use Rattle.session_script.specs.declared.logs.Log.{Log}
use Rattle.session_script.specs.declared.scripts.ScriptLine.{ScriptLine}
use Rattle.head_queue.specs.EventLaws.Waiting.{start, waiting_op, is_at_rest}
use Rattle.head_queue.specs.EventLaws.Trail.{IsTrail, after, after_all, fault_of, steps, travel}
use Rattle.cartridge_meaning.specs.Carried.{Carried, carried}
use Rattle.cartridge_meaning.specs.declared.mounted.Mounted.{Mounted}
use Rattle.tape_layout.specs.Ops.{place_of}
use Rattle.space_laws.specs.Closing.{closing}
use Rattle.space_laws.specs.Mount.{was_sealed, where_sealed}
use Rattle.space_laws.specs.Standing.{Given, admitted}
use Rattle.promises.specs.ServingPromise.Acks.{AreAcks, AreReached, AreSyncs}
use Rattle.promises.specs.ServingPromise.Asking.{AreAsked, AreGrouped, AreNeeded, AreOfReads, ArePutOff}
use Rattle.promises.specs.ServingPromise.Steps.{does_dp_flush}
use Rattle.promises.specs.ServingPromise.Crash.{Meaning, IsSound, SurvivesCrashes}
use Rattle.promises.specs.ServingPromise.Ends.{IsCloseShort, IsDoneClose, IsSealedClose, IsShortOnDp, LeavesTree}
use Rattle.promises.specs.ServingPromise.Ends.{bounded}
use Rattle.promises.specs.ServingPromise.Faults.{AreFaults}
use Rattle.promises.specs.ServingPromise.Replies.{AreReplies}
use Rattle.promises.specs.ServingPromise.Served.{Drive, CanTell, given_of, queued}

-- ---- the log alone, over every drive

-- The log is one history that holds each session's calls once, in order. Its events are a trail at whose end nothing
-- waits, and its syncs are those that are done, and its faults those that are told; its acks are those of its syncs.
pub record IsServedLog (script : List ScriptLine) (at : Option Moment) (first now : Drive) (log : Log) : Type 0 where
  pub history : IsInterleaving (calls_of script) log.history
  pub moments : IfSome at (λ m. All (λ p. p.at ≡ m) log.history)
  pub answered : length log.replies ≡ length log.history
  pub trail : IsTrail log.events
  pub at_rest : is_at_rest (after_all log.events) ≡ true
  pub syncs : AreSyncs (calls_of script) log.history log.events
  pub reads : AreOfReads (calls_of script) log.history log.events
  pub faults : AreFaults log.history log.events (map Some log.replies) [] first.faults now.faults
  pub acks : AreAcks log.events (map Some log.replies) log.acks
  pub reached : AreReached log.events log.acks now.commands

-- ---- from where on files may go to the index partition

-- which events do a flush of the data partition
abbrev pub dp_flushes : List Event → List Bool
dp_flushes events = scan after (λ st e. does_dp_flush (waiting_op st) e) start events

-- how many ops were queued before the first flush of the data partition was done
abbrev pub queued_before_flush : List Event → ℕ
queued_before_flush events = length
    (filter_map (λ e. queued e.0) (take_while (λ e. not e.1) (zip events (dp_flushes events))))

-- the history stood at this place when the first flush of the data partition was done: earlier placements queued
-- their ops before it, and later ones after it
abbrev pub IsOn : Given → List Event → List Placed → Option ℕ → Type 0
IsOn g events history None = list_any (λ is. is) (dp_flushes events) ≡ false
IsOn g events history (Some first) =
    (list_any (λ is. is) (dp_flushes events) ≡ true) × (first ≤ length history)
    × (length (admitted g (Some first) (take first history)) ≡ queued_before_flush events)

-- ---- the log over a cartridge

-- Each reply is what the tree answers at its place or a caused refusal, and the ops are those that the history
-- admits. A log tells ops by their places alone; their bytes are said of a volume while it is served, and of the tape
-- by what a crash leaves. The blocks that are asked for are needed, each sync ends the ops up to its own, and no
-- write is placed while more than 64 ops stand.
pub record IsTrueLog (script : List ScriptLine) (tree : Tree) (mounted : Mounted) (first : Drive)
    (log : Log) : Type 0 where
  pub on : Option ℕ
  pub on_is : IsOn (given_of script tree mounted first) log.events log.history on
  pub replies : AreReplies (given_of script tree mounted first) on log.history log.events (map Some log.replies)
  pub ops : filter_map queued log.events ≡ map place_of (admitted (given_of script tree mounted first) on log.history)
  pub blocks : AreNeeded (given_of script tree mounted first) on log.history log.events
  pub asked : AreAsked (given_of script tree mounted first) on log.history log.events
  pub groups : AreGrouped (given_of script tree mounted first) on log.history log.events
  pub drains : ArePutOff (given_of script tree mounted first) on log.history log.events

-- the tree after the first placements of the log
abbrev pub tree_of_log : List ScriptLine → Tree → Log → ℕ → Tree
tree_of_log script tree log k = replay (calls_of script) tree (take k log.history)

-- What holds of the log where the cartridge read as a tree, with nothing pending since a number of the drive's
-- commands; and of each crash where it stood for that tree and was sound.
pub record IsServeRun (m : Meaning) (script : List ScriptLine) (at : Option Moment) (first now : Drive)
    (log : Log) : Type 0 where
  pub log_is : IsServedLog script at first now log
  pub truly : (tree : Tree) (mounted : Mounted)
      → CanTell (λ c. m.Reads c (carried mounted.index) tree mounted.newest × m.Mounts c mounted) first.commands first
      → IsTrueLog script tree mounted first log
  pub crash : (facts : Carried) (tree : Tree) (generation : ℕ)
      → CanTell (λ c. m.Stands c facts tree generation × IsSound m c) first.commands first
      → SurvivesCrashes m facts (tree_of_log script tree log) (length log.history) log.acks now.leavings first.commands

-- ---- how it ends

-- the close was done, with this generation; it was short of space; or a command of it failed
pub data ServeEnd : Type 0 where
  Closed : ℕ → ServeEnd
  Short : (need limit : ℕ) → ServeEnd
  Failed : Twin → ServeEnd

abbrev pub status_of : ServeEnd → ℕ
status_of (Closed generation) = 0
status_of (Short need limit) = 8
status_of (Failed counts) = 4

-- `closed GENERATION STEPS TRAVEL`, or the line of the fault
abbrev pub end_text : Log → ServeEnd → List ℕ
end_text log (Closed generation) = codes "closed "
    ++ (decimal generation
    ++ (codes " "
    ++ (decimal (bounded (steps log.events))
    ++ (codes " " ++ (decimal (bounded (travel log.events)) ++ codes "\n")))))
end_text log (Short need limit) = codes "full " ++ (decimal need ++ (codes " " ++ (decimal limit ++ codes "\n")))
end_text log (Failed counts) = codes "drive "
    ++ (decimal counts.before ++ (codes " " ++ (decimal counts.after ++ codes "\n")))

-- the log and the line of the end
abbrev pub serve_text : Log → ServeEnd → List ℕ
serve_text log end = log_text log ++ end_text log end

-- the count of faults at the end of the last fault of the log
abbrev pub last_fault : Drive → Log → ℕ
last_fault first log = by (filter_map fault_of log.events)
  where
    by : List Twin → ℕ
    by faults = fold (λ _ t. t.after) first.faults faults

-- When serving ends so: the volume was mounted as sealed, and the cartridge is as it was at the start; or it wasn't, the
-- close had the space, and the cartridge stands for the tree of the whole history, with nothing pending; the close is
-- short by its numbers, and where the index partition alone is, the cartridge holds the tree of the whole history; or
-- the drive's count of faults rose in the close, after all faults of the log.
abbrev pub IsEndOf : Meaning → List ScriptLine → Drive → Drive → Log → ServeEnd → Type 0
IsEndOf m script first now log (Closed generation) =
    (tree : Tree) (mounted : Mounted)
    → CanTell
    (λ c. m.Reads c (carried mounted.index) tree mounted.newest × m.Mounts c mounted) first.commands first
    → where_sealed (was_sealed mounted.index) (IsSealedClose first now mounted generation)
    ((on : Option ℕ) × (at : Moment) × IsOn (given_of script tree mounted first) log.events log.history on
    × IsDoneClose m first now mounted tree (tree_of_log script tree log (length log.history))
    (closing (given_of script tree mounted first) on log.history at).space.newest generation
    × ((need limit : ℕ) → ¬ IsCloseShort (given_of script tree mounted first) on log.history at need limit))
IsEndOf m script first now log (Short need limit) =
    (tree : Tree) (mounted : Mounted)
    → CanTell
    (λ c. m.Reads c (carried mounted.index) tree mounted.newest × m.Mounts c mounted) first.commands first
    → (was_sealed mounted.index ≡ false)
    × (on : Option ℕ) × (at : Moment) × IsOn (given_of script tree mounted first) log.events log.history on
    × IsCloseShort (given_of script tree mounted first) on log.history at need limit
    × (CanTell (λ c. m.Stands c (carried mounted.index) tree mounted.newest × IsSound m c) first.commands first
    → ¬ IsShortOnDp (given_of script tree mounted first) on log.history at
    → LeavesTree m (carried mounted.index) (tree_of_log script tree log (length log.history)) now)
IsEndOf m script first now log (Failed counts) =
    IsRise (last_fault first log) now.faults counts.before counts.after
    × ((tree : Tree) (mounted : Mounted)
    → CanTell
    (λ c. m.Reads c (carried mounted.index) tree mounted.newest × m.Mounts c mounted) first.commands first
    → was_sealed mounted.index ≡ false)
