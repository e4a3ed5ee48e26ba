-- What the program promises for the words of each command: its status, what it prints, and what it leaves of the drive.
use Rattle.std.specs.Prelude.{◌≡◌, ◌⊎◌, ℕ, Bool, ◌*◌, List, [], ◌∷◌, Option, None, IfSome, IsErr, IsOk, String, codes}
use Rattle.std.specs.Global.{Global}
use Rattle.std.specs.Io.KnownBytes.{Appends}
use Rattle.tape_types.specs.Counts.{Rose}
use Rattle.tape_types.specs.declared.moments.Moment.{Moment}
use Rattle.session_script.specs.Grammar.{script_of}
use Rattle.session_script.specs.declared.logs.Log.{Log}
use Rattle.mount_recover.specs.Known.{mount_most}
use Rattle.tape_drive.specs.Looks.{Looks}
use Rattle.tape_drive.specs.declared.drive.Drive.{Ghosts}
use Rattle.cartridge_meaning.specs.Meaning.{Found}
use Rattle.commands.specs.CommandLine.Forms.{HasNoForm, IsFormat, IsFormatWords, IsLabel, IsList, IsListWords, IsMake}
use Rattle.commands.specs.CommandLine.Forms.{IsMakeWords, IsPlain, IsPlainWords, IsServe, IsServeWords}
use Rattle.commands.specs.CommandLine.Forms.{IsGenerations, IsView, IsViewWords}
use Rattle.commands.specs.declared.command_line.views.ViewWords.{ViewWords}
use Rattle.commands.specs.declared.command_line.volumes.FormatWords.{FormatWords}
use Rattle.generation_view.specs.ViewCommands.Promises.{DoesGenerations, DoesView}
use Rattle.commands.specs.BasicCommands.Headline.{IsMountFaultPrinted, IsReadFaultPrinted}
use Rattle.commands.specs.BasicCommands.Headline.{IsRefusalPrinted}
use Rattle.ltfs_server.specs.Making.{IsMadeEnd, IsMadeFailurePrinted, IsMadeRun, IsMadeShortPrinted, IsSummaryPrinted}
use Rattle.ltfs_server.specs.Making.{MadeEnd}
use Rattle.ltfs_server.specs.Outcomes.{Ending, EndsAs, IsCaused}
use Rattle.ltfs_server.specs.Outcomes.{of_make, of_serve}
use Rattle.commands.specs.BasicCommands.Promises.{DoesFormat, DoesLabel, DoesList, DoesPlain, ReadsAsNone}
use Rattle.commands.specs.BasicCommands.Runs.{Gives, IsOneOf, Taken, TakesNothing, Written}
use Rattle.ltfs_server.specs.Serving.{IsClosePrinted, IsFailurePrinted, IsRefusedPrinted, IsServedEnd, IsServedRun}
use Rattle.session_run.specs.Timed.{one_moment}
use Rattle.ltfs_server.specs.Serving.{IsShortPrinted, ServedEnd}

-- `serve`, with one moment or none, of the cartridge that the drive held, where it tells that
pub record DoesServe {D : Type 0} (moment : Option Moment) (source : Taken) (drive : Ghosts D) (old new : D)
    (sink : Written) (status : ℕ) (log : Option Log) : Type 0 where
  pub statuses : IsOneOf status (0 ∷ 2 ∷ 3 ∷ 4 ∷ 5 ∷ 6 ∷ 7 ∷ 8 ∷ [])
  -- the log, wherever there is one, is that of a run of the script that was left in the source, on the drive's volume
  pub history : IfSome log (IsServedRun drive old new moment source)
  pub refused : IsOneOf status (2 ∷ 3 ∷ 5 ∷ []) → log ≡ None
  -- the volume is closed, which is told behind the log
  pub closed : status ≡ 0 → IsClosePrinted drive old new moment source sink log
  -- an input that is no script is told, unless a stream fails or memory is refused, and only such an input
  pub script : IfSome source.left (λ text. IsErr (script_of text) → IsOneOf status (2 ∷ 5 ∷ 6 ∷ 7 ∷ []))
  pub only_script : status ≡ 2 → IsRefusalPrinted source.left sink.old sink.new
  -- a cartridge that reads as no tree is told by its first check that fails, unless there is no script, the drive or a
  -- stream fails, or memory is refused, and only such a cartridge
  pub volume : IfSome (drive.held old) (λ c. ReadsAsNone c → IsOneOf status (2 ∷ 3 ∷ 4 ∷ 5 ∷ 6 ∷ 7 ∷ []))
  pub only_volume : status ≡ 3 → IsMountFaultPrinted (drive.held old) sink.old sink.new
  -- without a log the drive failed as its cartridge was mounted, and else in the close
  pub only_drive : status ≡ 4 → IsFailurePrinted drive old new moment source sink log
  pub only_read : status ≡ 5 → IsReadFaultPrinted source.before source.now sink.old sink.new
  pub only_write : status ≡ 6 → Rose sink.before sink.now
  -- the log stands before the line that tells it
  pub memory : status ≡ 7 → IsRefusedPrinted sink log
  -- a close without space is told by its numbers, behind the log
  pub only_full : status ≡ 8 → IsShortPrinted drive old new moment source sink log
  -- with a script, a cartridge that passes all checks and no fault all is done, unless memory is refused or space lacks
  pub complete : ¬ (Rose source.before source.now) → ¬ (Rose (drive.faults old) (drive.faults new))
      → ¬ (Rose sink.before sink.now) → IfSome source.left (λ text. IsOk (script_of text)
      → IfSome (drive.held old) (λ c. Found c → IsOneOf status (0 ∷ 7 ∷ 8 ∷ [])))
  -- without a log the cartridge is only looked at
  pub looks : log ≡ None
      → Looks drive (mount_most (drive.limits old) * drive.MOST) old new
  -- whatever comes of it: the limits stay, and a drive that doesn't tell doesn't begin to
  pub limits : drive.limits new ≡ drive.limits old
  pub untold : drive.held old ≡ None → drive.held new ≡ None
  pub told : (end : ServedEnd) × IsServedEnd drive old new moment source end × EndsAs (of_serve end) sink status log

-- `make`, of so many calls a session, with one moment or none, of the cartridge that the drive held, where it tells
-- that
pub record DoesMake {D : Type 0} (moment : Option Moment) (count : ℕ) (drive : Ghosts D) (old new : D) (sink : Written)
    (status : ℕ) (log : Option Log) : Type 0 where
  pub statuses : IsOneOf status (0 ∷ 3 ∷ 4 ∷ 6 ∷ 7 ∷ 8 ∷ [])
  -- the log, wherever there is one, is that of a run of the made script on the drive's volume
  pub history : IfSome log (IsMadeRun drive old new moment count)
  pub refused : status ≡ 3 → log ≡ None
  -- the volume is closed, and the run is summed up
  pub closed : status ≡ 0 → IsSummaryPrinted drive old new moment count sink log
  -- a cartridge that reads as no tree is told by its first check that fails, unless the drive or the sink fails or
  -- memory is refused, and only such a cartridge
  pub volume : IfSome (drive.held old) (λ c. ReadsAsNone c → IsOneOf status (3 ∷ 4 ∷ 6 ∷ 7 ∷ []))
  pub only_volume : status ≡ 3 → IsMountFaultPrinted (drive.held old) sink.old sink.new
  -- without a log the drive failed as its cartridge was mounted, and else in the close
  pub only_drive : status ≡ 4 → IsMadeFailurePrinted drive old new moment count sink log
  pub only_write : status ≡ 6 → Rose sink.before sink.now
  pub memory : status ≡ 7 → Appends sink.old sink.new (codes "memory\n")
  -- a close without space is told by its numbers
  pub only_full : status ≡ 8 → IsMadeShortPrinted drive old new moment count sink log
  -- with a cartridge that passes all checks and no fault all is done, unless memory is refused or space lacks
  pub complete : ¬ (Rose (drive.faults old) (drive.faults new)) → ¬ (Rose sink.before sink.now)
      → IfSome (drive.held old) (λ c. Found c → IsOneOf status (0 ∷ 7 ∷ 8 ∷ []))
  -- without a log the cartridge is only looked at
  pub looks : log ≡ None
      → Looks drive (mount_most (drive.limits old) * drive.MOST) old new
  -- whatever comes of it: the limits stay, and a drive that doesn't tell doesn't begin to
  pub limits : drive.limits new ≡ drive.limits old
  pub untold : drive.held old ≡ None → drive.held new ≡ None
  pub told : (end : MadeEnd) × IsMadeEnd drive old new moment count end × EndsAs (of_make end) sink status log

-- words of no form
pub record RefusesWords {D : Type 0} (sink : Written) (old new : D) (status : ℕ) (log : Option Log) : Type 0 where
  pub statuses : IsOneOf status (1 ∷ 6 ∷ 7 ∷ [])
  pub printed : status ≡ 1 → Appends sink.old sink.new (codes "words\n")
  pub only_write : status ≡ 6 → Rose sink.before sink.now
  pub memory : status ≡ 7 → Appends sink.old sink.new (codes "memory\n")
  pub drive : new ≡ old
  pub no_log : log ≡ None

-- the words are those of a command that goes along the chain of a cartridge's indexes
abbrev pub AskForChain : List (String Global) → Type 0
AskForChain words = IsGenerations words ⊎ IsView words

-- the words are those of a command that goes to the drive
abbrev pub AskForDrive : List (String Global) → Type 0
AskForDrive words = IsLabel words ⊎ (IsList words ⊎ (IsFormat words ⊎ (IsServe words ⊎ (IsMake words ⊎ AskForChain words))))

-- the words are those of a command that mounts a cartridge
abbrev pub AskToMount : List (String Global) → Type 0
AskToMount words = IsList words ⊎ (IsServe words ⊎ IsMake words)

-- the words are those of a command that reads a script
abbrev pub ReadScripts : List (String Global) → Type 0
ReadScripts words = IsPlain words ⊎ IsServe words

-- the words are those of a command that runs one, be it read or made
abbrev pub RunScripts : List (String Global) → Type 0
RunScripts words = IsPlain words ⊎ (IsServe words ⊎ IsMake words)

-- of which words a status or a log may come
pub record ComesOf (words : List (String Global)) (status : ℕ) (log : Option Log) : Type 0 where
  pub statuses : IsOneOf status (0 ∷ 1 ∷ 2 ∷ 3 ∷ 4 ∷ 5 ∷ 6 ∷ 7 ∷ 8 ∷ [])
  pub done : status ≡ 0 → IsPlain words ⊎ AskForDrive words
  pub refused : status ≡ 1 → HasNoForm words
  pub script : status ≡ 2 → ReadScripts words
  pub volume : status ≡ 3 → IsLabel words ⊎ (IsList words ⊎ (IsServe words ⊎ (IsMake words ⊎ AskForChain words)))
  pub drive : status ≡ 4 → AskForDrive words
  pub read : status ≡ 5 → ReadScripts words
  pub full : status ≡ 8 → IsFormat words ⊎ (IsServe words ⊎ IsMake words)
  pub logged : IfSome log (λ l. RunScripts words)

-- all of it, for words that are known once they are read
pub record DoesAsked {D : Type 0} (words : List (String Global)) (gives : Gives) (one : Option Moment) (source : Taken)
    (sink : Written) (drive : Ghosts D) (old new : D) (status : ℕ) (log : Option Log) : Type 0 where
  pub plain : (at : Option Moment) → IsPlainWords words at → DoesPlain at gives source sink old new status log
  pub label : IsLabel words → DoesLabel drive old new sink status log
  pub list : (all : Bool) → IsListWords words all → DoesList all drive old new sink status log
  pub generations : IsGenerations words → DoesGenerations drive old new sink status log
  pub view : (asked : ViewWords) → IsViewWords words asked → DoesView asked drive old new sink status log
  pub format : (asked : FormatWords) → IsFormatWords words asked
      → DoesFormat asked gives drive old new sink status log
  pub serve : (at : Option Moment) → IsServeWords words at
      → DoesServe (one_moment at one) source drive old new sink status log
  pub make : (count : ℕ) (at : Option Moment) → IsMakeWords words count at
      → DoesMake (one_moment at one) count drive old new sink status log
  pub no_form : HasNoForm words → RefusesWords sink old new status log
  pub unread : ¬ (IsPlain words) → ¬ (IsServe words) → TakesNothing source
  pub comes : ComesOf words status log
  pub told : (e : Ending)
      × IsCaused (record { words = words; gives = gives; one = one; source = source }) drive old new e
      × EndsAs e sink status log
