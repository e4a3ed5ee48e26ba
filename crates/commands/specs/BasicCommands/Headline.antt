-- What is told with status 0 or 3: a run of a script by the plain tree, the labels of a cartridge, its tree.
use Rattle.std.specs.Prelude.{◌≡◌, ◌⊎◌, ℕ, Bool, ◌+◌, List, [], ◌++◌, map, length, Err, Option, Some, None, IfSome}
use Rattle.std.specs.Prelude.{codes, decimal, slice_get}
use Rattle.std.specs.Io.KnownBytes.{Appends}
use Rattle.tape_types.specs.Counts.{IsRise, Rose}
use Rattle.tape_types.specs.declared.moments.Moment.{Moment}
use Rattle.tape_types.specs.declared.cartridges.Cartridge.{Cartridge}
use Rattle.mount_recover.specs.Labels.{Fails}
use Rattle.cartridge_meaning.specs.Labels.{HasLabels}
use Rattle.cartridge_meaning.specs.declared.labels.Labels.{Labels}
use Rattle.cartridge_meaning.specs.declared.errors.MountErr.{MountErr}
use Rattle.cartridge_meaning.specs.Faults.{MountFault}
use Rattle.cartridge_meaning.specs.declared.errors.MountErr.TheVariants as errors
use Rattle.tape_types.specs.declared.cartridges.Twin.{Twin}
use Rattle.commands.specs.BasicCommands.Labels.{labels_text, mount_status, mount_text}
use Rattle.commands.specs.BasicCommands.Listings.{IsListingFor, Listing, part_of_listing, text_of_listing}
use Rattle.commands.specs.BasicCommands.Runs.{Gives}
use Rattle.plain_tree.specs.History.{IsInterleaving}
use Rattle.plain_tree.specs.Tree.{empty_tree}
use Rattle.plain_tree.specs.declared.calls.Placed.{Placed}
use Rattle.session_script.specs.Grammar.{calls_of, script_of}
use Rattle.session_script.specs.LogText.{log_text}
use Rattle.session_script.specs.ReasonNames.{reason_name}
use Rattle.session_script.specs.declared.scripts.ScriptErr.{ScriptErr}
use Rattle.session_script.specs.Replies.{AreReplies, IsPlainReply}
use Rattle.session_script.specs.declared.logs.Log.{Log}
use Rattle.session_script.specs.declared.scripts.ScriptLine.{ScriptLine}

-- the moment of the words where they have one, or else one that the clock may give at its nth call
abbrev pub IsMoment : Option Moment → Gives → ℕ → Moment → Type 0
IsMoment (Some at) gives n m = m ≡ at
IsMoment None gives n m = gives n m

-- the moments of placements, for the first of which the clock was asked at its second call, and so on
abbrev pub AreMoments : Option Moment → Gives → List Placed → Type 0
AreMoments at gives history =
    (place : ℕ) (p : Placed) → slice_get history place ≡ Some p → IsMoment at gives (place + 1) p.at

-- The log is one history that holds each session's calls once, in order, here in the order of the lines. Each moment is
-- the one of the words or the one that the clock gave next, the first for the tree's root. Each reply is what the plain
-- tree answers at its place, or want of memory.
pub record IsPlainRun (at : Option Moment) (gives : Gives) (script : List ScriptLine) (log : Log) : Type 0 where
  pub first : Moment
  pub begins : IsMoment at gives 0 first
  pub lines : map (λ p. p.who) log.history ≡ map (λ l. l.who) script
  pub history : IsInterleaving (calls_of script) log.history
  pub moments : AreMoments at gives log.history
  pub replies : AreReplies (calls_of script) (IsPlainReply (calls_of script) (empty_tree first)) log.history log.replies
  pub no_acks : log.acks ≡ []
  pub no_events : log.events ≡ []

-- `script LINE REASON`, and `source BEFORE AFTER`
abbrev pub refusal_line : ScriptErr → List ℕ
refusal_line refusal =
    codes "script " ++ (decimal refusal.line ++ (codes " " ++ (reason_name refusal.why ++ codes "\n")))

abbrev pub source_line : Twin → List ℕ
source_line counts = codes "source " ++ (decimal counts.before ++ (codes " " ++ (decimal counts.after ++ codes "\n")))

-- the log and the count of its placements
abbrev pub done_text : Log → List ℕ
done_text log = log_text log ++ codes "done " ++ decimal (length log.history) ++ codes "\n"

-- there is a log, and it and the count of its placements were printed
abbrev pub IsPrinted : Option (List ℕ) → Option (List ℕ) → Option Log → Type 0
IsPrinted old new None = ⊥
IsPrinted old new (Some log) = Appends old new (done_text log)

-- lines of labels were printed, and where the drive told a cartridge they are its labels
abbrev pub AreLabelsPrinted : Option Cartridge → (old new : Option (List ℕ)) → Type 0
AreLabelsPrinted held old new = (l : Labels) × IfSome held (λ c. HasLabels c l) × Appends old new (labels_text l)

-- the line of a check was printed, and where the drive told a cartridge this is its first check that fails
abbrev pub IsCheckPrinted : Option Cartridge → (old new : Option (List ℕ)) → Type 0
IsCheckPrinted held old new =
    (e : MountErr) × (mount_status e ≡ 3) × IfSome held (λ c. Fails c e) × Appends old new (mount_text e)

-- the line of an input that is no script was printed, and where the source told its bytes this is what is wrong with
-- them
abbrev pub IsRefusalPrinted : (left old new : Option (List ℕ)) → Type 0
IsRefusalPrinted left old new =
    (refusal : ScriptErr) × IfSome left (λ text. script_of text ≡ Err refusal) × Appends old new (refusal_line refusal)

-- two counts of a source that failed meanwhile were printed
abbrev pub IsReadFaultPrinted : (before now : ℕ) → (old new : Option (List ℕ)) → Type 0
IsReadFaultPrinted before now old new =
    (counts : Twin) × IsRise before now counts.before counts.after × Appends old new (source_line counts)

-- the drive failed meanwhile, and its counts of faults were printed
abbrev pub IsDriveFaultPrinted : (before now : ℕ) → (old new : Option (List ℕ)) → Type 0
IsDriveFaultPrinted before now old new =
    Rose before now × Appends old new (mount_text (errors.Drive (record { before = before; after = now })))

-- the line of the check of mounting was printed that fails first, where the drive told a cartridge
abbrev pub IsMountFaultPrinted : Option Cartridge → (old new : Option (List ℕ)) → Type 0
IsMountFaultPrinted held old new =
    (e : MountErr) × (mount_status e ≡ 3) × IfSome held (λ c. MountFault c e) × Appends old new (mount_text e)

-- a listing was printed, and where the drive told a cartridge it is that of what this stands for
abbrev pub IsListingPrinted : (all : Bool) → Option Cartridge → (old new : Option (List ℕ)) → Type 0
IsListingPrinted all held old new =
    (l : Listing) × IsListingFor all held l × Appends old new (text_of_listing l)

-- so many whole lines of such a listing, from its front, may have been printed, and then that memory was refused
abbrev pub IsPartPrinted : (all : Bool) → Option Cartridge → (old new : Option (List ℕ)) → Type 0
IsPartPrinted all held old new =
    Appends old new (codes "memory\n")
    ⊎ ((l : Listing) × IsListingFor all held l × (count : ℕ) × Appends old new (part_of_listing count l))
