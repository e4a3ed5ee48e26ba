-- What is promised of each command that needs no served volume: its status, what it prints, and what it leaves of the
-- drive.
use Rattle.std.specs.Prelude.{◌≡◌, ℕ, Bool, ◌+◌, ◌*◌, [], ◌∷◌, Option, None, IfSome, IsErr, IsOk, codes}
use Rattle.std.specs.Io.KnownBytes.{Appends}
use Rattle.tape_types.specs.Counts.{Rose}
use Rattle.tape_types.specs.declared.cartridges.Cartridge.{Cartridge}
use Rattle.tape_types.specs.declared.moments.Moment.{Moment}
use Rattle.plain_tree.specs.Tree.{Tree}
use Rattle.session_script.specs.Grammar.{script_of}
use Rattle.session_script.specs.declared.logs.Log.{Log}
use Rattle.mount_recover.specs.Known.{mount_most}
use Rattle.tape_drive.specs.Looks.{Looks}
use Rattle.tape_drive.specs.declared.drive.Drive.{Ghosts}
use Rattle.cartridge_meaning.specs.Carried.{Carried}
use Rattle.cartridge_meaning.specs.Labels.{HasLabels}
use Rattle.cartridge_meaning.specs.Meaning.{Found, Reads}
use Rattle.cartridge_meaning.specs.declared.labels.Labels.{Labels}
use Rattle.format_volume.specs.Writes.{Goes}
use Rattle.commands.specs.declared.command_line.volumes.FormatWords.{FormatWords}
use Rattle.commands.specs.BasicCommands.Formats.{AlwaysFits, FormatEnd, IsFormatEnd, IsFormattedAs, IsFullPrinted, NeverFits}
use Rattle.commands.specs.BasicCommands.Formats.{formatted_text}
use Rattle.commands.specs.BasicCommands.Headline.{AreLabelsPrinted, IsCheckPrinted, IsDriveFaultPrinted, IsListingPrinted}
use Rattle.commands.specs.BasicCommands.Headline.{IsMountFaultPrinted, IsPartPrinted, IsPlainRun, IsPrinted, IsReadFaultPrinted}
use Rattle.commands.specs.BasicCommands.Headline.{IsRefusalPrinted}
use Rattle.commands.specs.BasicCommands.Outcomes.{EndsAs, IsLabelEnd, IsListEnd, IsPlainEnd, LabelEnd, ListEnd}
use Rattle.commands.specs.BasicCommands.Outcomes.{of_format, of_label, of_list, of_plain}
use Rattle.commands.specs.BasicCommands.Runs.{Gives, IsOneOf, IsRunOf, Taken, Written, looked}
use Rattle.commands.specs.declared.basic_commands.plain.PlainEnd.{PlainEnd}

-- `plain`, with a moment or with those of the clock
pub record DoesPlain {D : Type 0} (at : Option Moment) (gives : Gives) (source : Taken) (sink : Written) (old new : D)
    (status : ℕ) (log : Option Log) : Type 0 where
  pub statuses : IsOneOf status (0 ∷ 2 ∷ 5 ∷ 6 ∷ 7 ∷ [])
  -- the log, wherever there is one, is that of a run of the script that was left in the source
  pub history : IfSome log (IsRunOf (IsPlainRun at gives) source)
  pub refused : IsOneOf status (2 ∷ 5 ∷ []) → log ≡ None
  pub printed : status ≡ 0 → IsPrinted sink.old sink.new log
  -- an input that is no script is told, unless a stream fails or memory is refused, and only such an input
  pub script : IfSome source.left (λ text. IsErr (script_of text) → IsOneOf status (2 ∷ 5 ∷ 6 ∷ 7 ∷ []))
  pub only_script : status ≡ 2 → IsRefusalPrinted source.left sink.old sink.new
  pub only_read : status ≡ 5 → IsReadFaultPrinted source.before source.now sink.old sink.new
  pub only_write : status ≡ 6 → Rose sink.before sink.now
  pub memory : status ≡ 7 → Appends sink.old sink.new (codes "memory\n")
  -- with a script and no fault all is done, unless memory is refused
  pub complete : ¬ (Rose source.before source.now) → ¬ (Rose sink.before sink.now)
      → IfSome source.left (λ text. IsOk (script_of text) → IsOneOf status (0 ∷ 7 ∷ []))
  pub drive : new ≡ old
  pub told : (end : PlainEnd) × IsPlainEnd source gives at end × EndsAs (of_plain end) sink status log

-- `label`, of the cartridge that the drive held, where it tells that
pub record DoesLabel {D : Type 0} (drive : Ghosts D) (old new : D) (sink : Written) (status : ℕ) (log : Option Log)
    : Type 0 where
  pub statuses : IsOneOf status (0 ∷ 3 ∷ 4 ∷ 6 ∷ 7 ∷ [])
  pub printed : status ≡ 0 → AreLabelsPrinted (drive.held old) sink.old sink.new
  -- a cartridge that is no volume is told by its first check that fails, unless the drive or the sink fails or memory
  -- is refused, and only such a cartridge
  pub volume : IfSome (drive.held old)
      (λ c. ((l : Labels) → ¬ HasLabels c l) → IsOneOf status (3 ∷ 4 ∷ 6 ∷ 7 ∷ []))
  pub only_volume : status ≡ 3 → IsCheckPrinted (drive.held old) sink.old sink.new
  pub only_drive : status ≡ 4 → IsDriveFaultPrinted (drive.faults old) (drive.faults new) sink.old sink.new
  pub only_write : status ≡ 6 → Rose sink.before sink.now
  pub memory : status ≡ 7 → Appends sink.old sink.new (codes "memory\n")
  -- with a volume and no fault all is done, unless memory is refused
  pub complete : ¬ (Rose (drive.faults old) (drive.faults new)) → ¬ (Rose sink.before sink.now)
      → IfSome (drive.held old) (λ c. (l : Labels) → HasLabels c l → IsOneOf status (0 ∷ 7 ∷ []))
  -- the cartridge is only looked at
  pub looks : Looks drive (12 * drive.MOST) old new
  pub no_log : log ≡ None
  pub told : (end : LabelEnd) × IsLabelEnd (looked drive old new) end × EndsAs (of_label end) sink status log

-- no tree is what the cartridge reads as
abbrev pub ReadsAsNone : Cartridge → Type 0
ReadsAsNone c = (facts : Carried) (tree : Tree) (generation : ℕ) → ¬ Reads c facts tree generation

-- `list`, with or without `--all`, of the cartridge that the drive held, where it tells that
pub record DoesList {D : Type 0} (all : Bool) (drive : Ghosts D) (old new : D) (sink : Written) (status : ℕ)
    (log : Option Log) : Type 0 where
  pub statuses : IsOneOf status (0 ∷ 3 ∷ 4 ∷ 6 ∷ 7 ∷ [])
  pub printed : status ≡ 0 → IsListingPrinted all (drive.held old) sink.old sink.new
  -- a cartridge that reads as no tree is told by its first check that fails, unless the drive or the sink fails or
  -- memory is refused, and only such a cartridge
  pub volume : IfSome (drive.held old) (λ c. ReadsAsNone c → IsOneOf status (3 ∷ 4 ∷ 6 ∷ 7 ∷ []))
  pub only_volume : status ≡ 3 → IsMountFaultPrinted (drive.held old) sink.old sink.new
  pub only_drive : status ≡ 4 → IsDriveFaultPrinted (drive.faults old) (drive.faults new) sink.old sink.new
  pub only_write : status ≡ 6 → Rose sink.before sink.now
  -- whole lines of the tree from the front may stand before the line that tells it
  pub memory : status ≡ 7 → IsPartPrinted all (drive.held old) sink.old sink.new
  -- with a cartridge that passes all checks and no fault all is done, unless memory is refused
  pub complete : ¬ (Rose (drive.faults old) (drive.faults new)) → ¬ (Rose sink.before sink.now)
      → IfSome (drive.held old) (λ c. Found c → IsOneOf status (0 ∷ 7 ∷ []))
  -- the cartridge is only looked at
  pub looks : Looks drive (mount_most (drive.limits old) * drive.MOST) old new
  pub no_log : log ≡ None
  pub told : (end : ListEnd) × IsListEnd all (looked drive old new) end × EndsAs (of_list end) sink status log

-- `format`, with the values of the words, of whatever cartridge the drive held
pub record DoesFormat {D : Type 0} (asked : FormatWords) (gives : Gives) (drive : Ghosts D) (old new : D)
    (sink : Written) (status : ℕ) (log : Option Log) : Type 0 where
  pub statuses : IsOneOf status (0 ∷ 4 ∷ 6 ∷ 7 ∷ 8 ∷ [])
  -- the cartridge is the empty volume that was asked for, and its UUID is told
  pub done : status ≡ 0
      → IsFormattedAs drive asked gives old new × Appends sink.old sink.new (formatted_text asked.volume.uuid)
  -- a volume without room is told by its numbers, unless the sink fails or memory is refused, and only such a volume
  pub full : NeverFits asked gives (drive.limits old) → IsOneOf status (6 ∷ 7 ∷ 8 ∷ [])
  pub only_full : status ≡ 8 → IsFullPrinted asked gives (drive.limits old) sink.old sink.new × (new ≡ old)
  pub only_drive : status ≡ 4 → IsDriveFaultPrinted (drive.faults old) (drive.faults new) sink.old sink.new
  pub only_write : status ≡ 6 → Rose sink.before sink.now
  pub memory : status ≡ 7 → Appends sink.old sink.new (codes "memory\n")
  -- with room and no fault all is done, unless memory is refused
  pub complete : ¬ (Rose (drive.faults old) (drive.faults new)) → ¬ (Rose sink.before sink.now)
      → AlwaysFits asked gives (drive.limits old) → IsOneOf status (0 ∷ 7 ∷ [])
  -- without a fault of the drive it is as it was, unless all is done
  pub untouched : IsOneOf status (7 ∷ 8 ∷ []) → ¬ (Rose (drive.faults old) (drive.faults new)) → new ≡ old
  -- whatever comes of it: the limits stay, and a drive that doesn't tell doesn't begin to
  pub goes : Goes drive old new
  pub no_log : log ≡ None
  pub told : (end : FormatEnd) × IsFormatEnd drive asked gives old new end × EndsAs (of_format end) sink status log
