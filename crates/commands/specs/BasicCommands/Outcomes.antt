-- What a command comes to that needs no served volume: when it comes to that, and what is told then.
use Rattle.std.specs.Prelude.{◌≡◌, ◌⊎◌, ℕ, Bool, List, Option, Some, None, Err, IfSome, codes}
use Rattle.std.specs.Io.KnownBytes.{Appends}
use Rattle.tape_types.specs.Counts.{Rose, IsRise}
use Rattle.tape_types.specs.declared.moments.Moment.{Moment}
use Rattle.tape_edge.specs.Streams.{AppendsFront}
use Rattle.session_script.specs.Grammar.{script_of}
use Rattle.session_script.specs.declared.logs.Log.{Log}
use Rattle.mount_recover.specs.Labels.{AreCounts, Fails}
use Rattle.mount_recover.specs.Steps.{Blames}
use Rattle.cartridge_meaning.specs.Labels.{HasLabels}
use Rattle.cartridge_meaning.specs.declared.labels.Labels.{Labels}
use Rattle.cartridge_meaning.specs.declared.errors.MountErr.{MountErr}
use Rattle.commands.specs.BasicCommands.Formats.{FormatEnd, end_status, end_text}
use Rattle.commands.specs.BasicCommands.Labels.{labels_text, mount_status, mount_text}
use Rattle.commands.specs.BasicCommands.Listings.{IsListingFor, Listing, part_of_listing, text_of_listing}
use Rattle.commands.specs.BasicCommands.Headline.{IsPlainRun, done_text, refusal_line, source_line}
use Rattle.commands.specs.BasicCommands.Runs.{Gives, IsRunOf, Looked, Taken, Written}
use Rattle.commands.specs.declared.basic_commands.plain.PlainEnd.{PlainEnd}
use Rattle.commands.specs.declared.basic_commands.plain.PlainEnd.TheVariants as plains

abbrev pub plain_status : PlainEnd → ℕ
plain_status (plains.Done log) = 0
plain_status (plains.Script refusal) = 2
plain_status (plains.Source counts) = 5
plain_status (plains.NoMemory log) = 7

abbrev pub plain_text : PlainEnd → List ℕ
plain_text (plains.Done log) = done_text log
plain_text (plains.Script refusal) = refusal_line refusal
plain_text (plains.Source counts) = source_line counts
plain_text (plains.NoMemory log) = codes "memory\n"

-- the log, wherever the calls were run
abbrev pub plain_log : PlainEnd → Option Log
plain_log (plains.Done log) = Some log
plain_log (plains.Script refusal) = None
plain_log (plains.Source counts) = None
plain_log (plains.NoMemory log) = log

-- when `plain` with this moment ends so
abbrev pub IsPlainEnd : Taken → Gives → Option Moment → PlainEnd → Type 0
IsPlainEnd source gives at (plains.Done log) = IsRunOf (IsPlainRun at gives) source log
IsPlainEnd source gives at (plains.Script refusal) = IfSome source.left (λ text. script_of text ≡ Err refusal)
IsPlainEnd source gives at (plains.Source counts) = IsRise source.before source.now counts.before counts.after
IsPlainEnd source gives at (plains.NoMemory log) = IfSome log (IsRunOf (IsPlainRun at gives) source)

-- what `label` comes to: the labels are told, or they weren't read
pub data LabelEnd : Type 0 where
  labelled : Labels → LabelEnd
  unlabelled : MountErr → LabelEnd

abbrev pub label_status : LabelEnd → ℕ
label_status (labelled found) = 0
label_status (unlabelled error) = mount_status error

abbrev pub label_text : LabelEnd → List ℕ
label_text (labelled found) = labels_text found
label_text (unlabelled error) = mount_text error

-- when `label` ends so
abbrev pub IsLabelEnd : Looked → LabelEnd → Type 0
IsLabelEnd drive (labelled found) = IfSome drive.held (λ c. HasLabels c found)
IsLabelEnd drive (unlabelled error) = IfSome drive.held (λ c. Fails c error) × AreCounts drive.before drive.now error

-- what `list` comes to: a listing is told, or so many lines of its tree before memory was refused, or there was none
pub data ListEnd : Type 0 where
  listed : Listing → ListEnd
  cut_short : Listing → ℕ → ListEnd
  unlisted : MountErr → ListEnd

abbrev pub list_status : ListEnd → ℕ
list_status (listed l) = 0
list_status (cut_short l count) = 7
list_status (unlisted error) = mount_status error

abbrev pub list_text : ListEnd → List ℕ
list_text (listed l) = text_of_listing l
list_text (cut_short l count) = part_of_listing count l
list_text (unlisted error) = mount_text error

-- when `list` ends so
abbrev pub IsListEnd : (all : Bool) → Looked → ListEnd → Type 0
IsListEnd all drive (listed l) = IsListingFor all drive.held l
IsListEnd all drive (cut_short l count) = IsListingFor all drive.held l
IsListEnd all drive (unlisted error) = IfSome drive.held (λ c. Blames error c) × AreCounts drive.before drive.now error

-- what a command comes to that needs no served volume
pub data BasicEnding : Type 0 where
  of_plain : PlainEnd → BasicEnding
  of_label : LabelEnd → BasicEnding
  of_list : ListEnd → BasicEnding
  of_format : FormatEnd → BasicEnding

abbrev pub status_of : BasicEnding → ℕ
status_of (of_plain end) = plain_status end
status_of (of_label end) = label_status end
status_of (of_list end) = list_status end
status_of (of_format end) = end_status end

abbrev pub text_of : BasicEnding → List ℕ
text_of (of_plain end) = plain_text end
text_of (of_label end) = label_text end
text_of (of_list end) = list_text end
text_of (of_format end) = end_text end

abbrev pub log_of : BasicEnding → Option Log
log_of (of_plain end) = plain_log end
log_of (of_label end) = None
log_of (of_list end) = None
log_of (of_format end) = None

-- a status and a text are told; or the sink's count rose, and a front of that text was written
abbrev pub IsTold : (wanted : ℕ) → (text : List ℕ) → Written → (status : ℕ) → Type 0
IsTold wanted text sink status =
    ((status ≡ wanted) × Appends sink.old sink.new text)
    ⊎ ((status ≡ 6) × Rose sink.before sink.now × AppendsFront sink.old sink.new text)

-- what it comes to is told, and it leaves this log
abbrev pub EndsAs : BasicEnding → Written → (status : ℕ) → Option Log → Type 0
EndsAs e sink status log = (log ≡ log_of e) × IsTold (status_of e) (text_of e) sink status

-- a listing is told, or so many lines of its tree, and then that memory was refused
abbrev pub IsListingTold : Listing → Written → (status : ℕ) → Type 0
IsListingTold l sink status =
    IsTold 0 (text_of_listing l) sink status
    ⊎ ((count : ℕ) × IsTold 7 (part_of_listing count l) sink status)
