-- What a run comes to, command by command: when it comes to that, and what is told then.
use Rattle.std.specs.Prelude.{◌≡◌, ℕ, Bool, List, Option, None, String, codes}
use Rattle.std.specs.Global.{Global}
use Rattle.tape_types.specs.declared.moments.Moment.{Moment}
use Rattle.tape_drive.specs.declared.drive.Drive.{Ghosts}
use Rattle.session_script.specs.declared.logs.Log.{Log}
use Rattle.commands.specs.CommandLine.Forms.{HasNoForm, IsFormatWords, IsLabel, IsListWords, IsMakeWords, IsPlainWords}
use Rattle.commands.specs.CommandLine.Forms.{IsGenerations, IsServeWords, IsViewWords}
use Rattle.commands.specs.declared.command_line.views.ViewWords.{ViewWords}
use Rattle.commands.specs.declared.command_line.volumes.FormatWords.{FormatWords}
use Rattle.generation_view.specs.ViewCommands.Outcomes.{ChainEnd, IsChainEnd, IsViewEnd, ViewEnd, chain_status, chain_text}
use Rattle.generation_view.specs.ViewCommands.Outcomes.{end_status as view_end_status, end_text as view_end_text}
use Rattle.commands.specs.BasicCommands.Formats.{FormatEnd, IsFormatEnd, end_status, end_text}
use Rattle.ltfs_server.specs.Making.{IsMadeEnd, MadeEnd, made_log, made_status, made_text}
use Rattle.commands.specs.BasicCommands.Outcomes.{IsLabelEnd, IsListEnd, IsPlainEnd, IsTold, LabelEnd, ListEnd, label_status}
use Rattle.commands.specs.BasicCommands.Outcomes.{label_text, list_status, list_text, plain_log, plain_status, plain_text}
use Rattle.commands.specs.BasicCommands.Runs.{Gives, Taken, TakesNothing, Written, looked}
use Rattle.session_run.specs.Timed.{one_moment}
use Rattle.ltfs_server.specs.Serving.{IsServedEnd, ServedEnd, served_log, served_status, served_text}
use Rattle.commands.specs.declared.basic_commands.plain.PlainEnd.{PlainEnd}

-- a run by its words, what its clock may give, its clock's one moment where it has one, and its source
pub record Run : Type 1 where
  pub words : List (String Global)
  pub gives : Gives
  pub one : Option Moment
  pub source : Taken

-- What a run comes to: the words are of no form, memory was refused before they were known, or they are a command's,
-- which comes to this.
pub data Ending : Type 0 where
  of_no_form : Ending
  of_memory : Ending
  of_plain : PlainEnd → Ending
  of_label : LabelEnd → Ending
  of_list : ListEnd → Ending
  of_generations : ChainEnd → Ending
  of_view : ViewEnd → Ending
  of_format : FormatEnd → Ending
  of_serve : ServedEnd → Ending
  of_make : MadeEnd → Ending

abbrev pub status_of : Ending → ℕ
status_of of_no_form = 1
status_of of_memory = 7
status_of (of_plain end) = plain_status end
status_of (of_label end) = label_status end
status_of (of_list end) = list_status end
status_of (of_generations end) = chain_status end
status_of (of_view end) = view_end_status end
status_of (of_format end) = end_status end
status_of (of_serve end) = served_status end
status_of (of_make end) = made_status end

abbrev pub text_of : Ending → List ℕ
text_of of_no_form = codes "words\n"
text_of of_memory = codes "memory\n"
text_of (of_plain end) = plain_text end
text_of (of_label end) = label_text end
text_of (of_list end) = list_text end
text_of (of_generations end) = chain_text end
text_of (of_view end) = view_end_text end
text_of (of_format end) = end_text end
text_of (of_serve end) = served_text end
text_of (of_make end) = made_text end

abbrev pub log_of : Ending → Option Log
log_of of_no_form = None
log_of of_memory = None
log_of (of_plain end) = plain_log end
log_of (of_label end) = None
log_of (of_list end) = None
log_of (of_generations end) = None
log_of (of_view end) = None
log_of (of_format end) = None
log_of (of_serve end) = served_log end
log_of (of_make end) = made_log end

-- the words are of no form, or those of the command, which may end so with the drive before and after it; none but
-- `plain` and `serve` reads the source
abbrev pub IsCaused : {D : Type 0} → Run → Ghosts D → (old new : D) → Ending → Type 0
IsCaused r drive old new of_no_form = HasNoForm r.words × TakesNothing r.source
IsCaused r drive old new of_memory = TakesNothing r.source
IsCaused r drive old new (of_plain end) =
    (at : Option Moment) × IsPlainWords r.words at × IsPlainEnd r.source r.gives at end
IsCaused r drive old new (of_label end) =
    IsLabel r.words × TakesNothing r.source × IsLabelEnd (looked drive old new) end
IsCaused r drive old new (of_list end) =
    (all : Bool) × IsListWords r.words all × TakesNothing r.source × IsListEnd all (looked drive old new) end
IsCaused r drive old new (of_generations end) =
    IsGenerations r.words × TakesNothing r.source × IsChainEnd (looked drive old new) end
IsCaused r drive old new (of_view end) =
    (asked : ViewWords) × IsViewWords r.words asked × TakesNothing r.source × IsViewEnd asked (looked drive old new) end
IsCaused r drive old new (of_format end) =
    (asked : FormatWords) × IsFormatWords r.words asked × TakesNothing r.source
    × IsFormatEnd drive asked r.gives old new end
IsCaused r drive old new (of_serve end) =
    (at : Option Moment) × IsServeWords r.words at × IsServedEnd drive old new (one_moment at r.one) r.source end
IsCaused r drive old new (of_make end) =
    (count : ℕ) × (at : Option Moment) × IsMakeWords r.words count at × TakesNothing r.source
    × IsMadeEnd drive old new (one_moment at r.one) count end

-- what it comes to is told, and it leaves this log
abbrev pub EndsAs : Ending → Written → (status : ℕ) → Option Log → Type 0
EndsAs e sink status log = (log ≡ log_of e) × IsTold (status_of e) (text_of e) sink status
