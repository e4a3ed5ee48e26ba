-- The forms of a command line's words: a command's name, its folder where it has one, and words that clap's simple
-- command takes, with options in any order, as `--x VALUE` or `--x=VALUE`.
use Rattle.std.specs.Prelude.{◌≡◌, ℕ, Bool, List, ◌∷◌, map, Option, Some, None, Result, Ok, Err, String, codes}
use Rattle.std.specs.Prelude.{◌&&◌, nat_le, if◌then◌else◌, option_and_then, string_bytes}
use Rattle.std.specs.Global.{Global}
use Rattle.clap.specs.Words.{App, Text, with_rule}
use Rattle.session_script.specs.Bounds.{most_calls}
use Rattle.session_script.specs.Words.{number_of}
use Rattle.tape_types.specs.declared.moments.Moment.{Moment}
use Rattle.commands.specs.CommandLine.Options.{IsMomentGiven, Takes, bare, is_given, positional, value_of}
use Rattle.commands.specs.CommandLine.Options.{with_all, with_moment}
use Rattle.commands.specs.CommandLine.Views.{IsViewForm}
use Rattle.commands.specs.CommandLine.Volumes.{IsVolumeForm}
use Rattle.commands.specs.declared.command_line.forms.WordsErr.{WordsErr}
use Rattle.commands.specs.declared.command_line.forms.WordsErr.TheVariants as errors
use Rattle.commands.specs.declared.command_line.reading.Command.{Command}
use Rattle.commands.specs.declared.command_line.reading.Command.TheVariants as commands
use Rattle.commands.specs.declared.command_line.views.ViewWords.{ViewWords}
use Rattle.commands.specs.declared.command_line.volumes.FormatWords.{FormatWords}

-- such words as a command of that name takes that has no option but `--at`, and its moment
pub record IsMomentForm (name : Text) (words : List Text) (at : Option Moment) : Type 0 where
  pub takes : Takes (with_moment (bare name)) words
  pub moment : IsMomentGiven (value_of (with_moment (bare name)) (codes "at") words) at

-- the words behind `plain`, and the moment of `--at`
abbrev pub IsPlainForm : List Text → Option Moment → Type 0
IsPlainForm words at = IsMomentForm (codes "plain") words at

-- the words behind `serve` and its folder, and the moment of `--at`
abbrev pub IsServeForm : List Text → Option Moment → Type 0
IsServeForm words at = IsMomentForm (codes "serve") words at

abbrev pub list_app : App
list_app = with_all (bare (codes "list"))

-- the words behind `list` and its folder, and whether `--all` is among them
pub record IsListForm (words : List Text) (all : Bool) : Type 0 where
  pub takes : Takes list_app words
  pub told : is_given (value_of list_app (codes "all") words) ≡ all

-- `N`, and `--at`
abbrev pub make_app : App
make_app = with_moment (with_rule (bare (codes "make")) (positional (codes "count")))

-- a number of 1 to 1,024
abbrev pub count_told : Option Text → Option ℕ
count_told text =
    option_and_then (λ n. if nat_le 1 n && nat_le n most_calls then Some n else None) (option_and_then number_of text)

-- the words behind `make` and its folder: how many calls each session makes, and the moment of `--at`
pub record IsMakeForm (words : List Text) (count : ℕ) (at : Option Moment) : Type 0 where
  pub takes : Takes make_app words
  pub counted : count_told (value_of make_app (codes "count") words) ≡ Some count
  pub moment : IsMomentGiven (value_of make_app (codes "at") words) at

-- The words are `plain`, and maybe `--at TIME` with a time of the years 1970 to 9999, which then is every moment.
abbrev pub IsPlainWords : List (String Global) → Option Moment → Type 0
IsPlainWords words at = (more : List Text) × (map string_bytes words ≡ codes "plain" ∷ more) × IsPlainForm more at

-- the words are of one of the forms of `plain`
abbrev pub IsPlain : List (String Global) → Type 0
IsPlain words = (at : Option Moment) × IsPlainWords words at

-- the words are a command's name, any text, and words of which this holds
abbrev pub IsBehindFolder : Text → (List Text → Type 0) → List (String Global) → Type 0
IsBehindFolder name form words =
    (folder : Text) × (more : List Text) × (map string_bytes words ≡ name ∷ folder ∷ more) × form more

-- the words are a command's name, any text, and such as a bare command takes
abbrev pub IsOfFolder : Text → List (String Global) → Type 0
IsOfFolder name words = IsBehindFolder name (Takes (bare name)) words

-- the words are those of `label DIR`
abbrev pub IsLabel : List (String Global) → Type 0
IsLabel words = IsOfFolder (codes "label") words

-- The words are `list DIR`, and maybe `--all`.
abbrev pub IsListWords : List (String Global) → Bool → Type 0
IsListWords words all = IsBehindFolder (codes "list") (λ more. IsListForm more all) words

-- the words are of one of the forms of `list`
abbrev pub IsList : List (String Global) → Type 0
IsList words = (all : Bool) × IsListWords words all

-- the words are those of `generations DIR`
abbrev pub IsGenerations : List (String Global) → Type 0
IsGenerations words = IsOfFolder (codes "generations") words

-- The words are `view DIR G`, with a number of 1 to 2^62, and maybe `--read PATH` or `--all`.
abbrev pub IsViewWords : List (String Global) → ViewWords → Type 0
IsViewWords words asked = IsBehindFolder (codes "view") (λ more. IsViewForm more asked) words

-- the words are of one of the forms of `view`
abbrev pub IsView : List (String Global) → Type 0
IsView words = (asked : ViewWords) × IsViewWords words asked

-- the words are `format DIR`, and ask for this volume
abbrev pub IsFormatWords : List (String Global) → FormatWords → Type 0
IsFormatWords words asked = IsBehindFolder (codes "format") (λ more. IsVolumeForm more asked) words

-- the words are of one of the forms of `format`
abbrev pub IsFormat : List (String Global) → Type 0
IsFormat words = (asked : FormatWords) × IsFormatWords words asked

-- The words are `serve DIR`, and maybe `--at TIME` with a time of the years 1970 to 9999, which then is every moment.
abbrev pub IsServeWords : List (String Global) → Option Moment → Type 0
IsServeWords words at = IsBehindFolder (codes "serve") (λ more. IsServeForm more at) words

-- the words are of one of the forms of `serve`
abbrev pub IsServe : List (String Global) → Type 0
IsServe words = (at : Option Moment) × IsServeWords words at

-- The words are `make DIR N`, with a number of 1 to 1,024, and maybe `--at TIME` as behind `serve`.
abbrev pub IsMakeWords : List (String Global) → ℕ → Option Moment → Type 0
IsMakeWords words count at = IsBehindFolder (codes "make") (λ more. IsMakeForm more count at) words

-- the words are of one of the forms of `make`
abbrev pub IsMake : List (String Global) → Type 0
IsMake words = (count : ℕ) × (at : Option Moment) × IsMakeWords words count at

-- the words are of no command's form
pub record HasNoForm (words : List (String Global)) : Type 0 where
  pub no_plain : ¬ (IsPlain words)
  pub no_label : ¬ (IsLabel words)
  pub no_list : ¬ (IsList words)
  pub no_generations : ¬ (IsGenerations words)
  pub no_view : ¬ (IsView words)
  pub no_format : ¬ (IsFormat words)
  pub no_serve : ¬ (IsServe words)
  pub no_make : ¬ (IsMake words)

-- what the words spell: those of `plain` or of `serve` with this moment, those of `label` or of `generations`, those
-- of `list`, of `view`, of `format` or of `make` with these values, or of no form
abbrev pub IsSpelledBy : List (String Global) → Result Command WordsErr → Type 0
IsSpelledBy words (Ok (commands.Plain at)) = IsPlainWords words at
IsSpelledBy words (Ok commands.Label) = IsLabel words
IsSpelledBy words (Ok (commands.List all)) = IsListWords words all
IsSpelledBy words (Ok commands.Generations) = IsGenerations words
IsSpelledBy words (Ok (commands.View asked)) = IsViewWords words asked
IsSpelledBy words (Ok (commands.Format asked)) = IsFormatWords words asked
IsSpelledBy words (Ok (commands.Serve at)) = IsServeWords words at
IsSpelledBy words (Ok (commands.Make count at)) = IsMakeWords words count at
IsSpelledBy words (Err errors.Form) = HasNoForm words
IsSpelledBy words (Err errors.NoMemory) = Unit {0}

-- the words behind such a command are of its form, with this moment
abbrev pub IsMomentTaken : Text → List Text → Result (Option Moment) WordsErr → Type 0
IsMomentTaken name words (Ok at) = IsMomentForm name words at
IsMomentTaken name words (Err errors.Form) = (at : Option Moment) → ¬ (IsMomentForm name words at)
IsMomentTaken name words (Err errors.NoMemory) = Unit {0}

-- the words behind `plain` are of its form, with this moment
abbrev pub IsReadAs : List Text → Result Command WordsErr → Type 0
IsReadAs words (Ok (commands.Plain at)) = IsPlainForm words at
IsReadAs words (Ok command) = ⊥
IsReadAs words (Err errors.Form) = (at : Option Moment) → ¬ (IsPlainForm words at)
IsReadAs words (Err errors.NoMemory) = Unit {0}

-- the words behind `serve` and its folder are of its form, with this moment
abbrev pub IsServeRead : List Text → Result Command WordsErr → Type 0
IsServeRead words (Ok (commands.Serve at)) = IsServeForm words at
IsServeRead words (Ok command) = ⊥
IsServeRead words (Err errors.Form) = (at : Option Moment) → ¬ (IsServeForm words at)
IsServeRead words (Err errors.NoMemory) = Unit {0}

-- the words behind `list` and its folder are of its form, and tell this of `--all`
abbrev pub IsListRead : List Text → Result Command WordsErr → Type 0
IsListRead words (Ok (commands.List all)) = IsListForm words all
IsListRead words (Ok command) = ⊥
IsListRead words (Err errors.Form) = (all : Bool) → ¬ (IsListForm words all)
IsListRead words (Err errors.NoMemory) = Unit {0}

-- the words behind `make` and its folder are of its form, with this count and this moment
abbrev pub IsMakeRead : List Text → Result Command WordsErr → Type 0
IsMakeRead words (Ok (commands.Make count at)) = IsMakeForm words count at
IsMakeRead words (Ok command) = ⊥
IsMakeRead words (Err errors.Form) = (count : ℕ) (at : Option Moment) → ¬ (IsMakeForm words count at)
IsMakeRead words (Err errors.NoMemory) = Unit {0}

-- this command, where its simple command takes the words
abbrev pub IsTakenAs : App → List Text → Command → Result Command WordsErr → Type 0
IsTakenAs app words command (Ok found) = (found ≡ command) × Takes app words
IsTakenAs app words command (Err errors.Form) = ¬ (Takes app words)
IsTakenAs app words command (Err errors.NoMemory) = Unit {0}

-- the words behind `format` and its folder ask for this volume
abbrev pub IsVolumeAsked : List Text → Result Command WordsErr → Type 0
IsVolumeAsked words (Ok (commands.Format asked)) = IsVolumeForm words asked
IsVolumeAsked words (Ok command) = ⊥
IsVolumeAsked words (Err errors.Form) = (asked : FormatWords) → ¬ (IsVolumeForm words asked)
IsVolumeAsked words (Err errors.NoMemory) = Unit {0}

-- the words behind `view` and its folder ask for this
abbrev pub IsViewTaken : List Text → Result Command WordsErr → Type 0
IsViewTaken words (Ok (commands.View asked)) = IsViewForm words asked
IsViewTaken words (Ok command) = ⊥
IsViewTaken words (Err errors.Form) = (asked : ViewWords) → ¬ (IsViewForm words asked)
IsViewTaken words (Err errors.NoMemory) = Unit {0}
