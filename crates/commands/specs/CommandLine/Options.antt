-- What clap's simple commands take and find in words.
use Rattle.std.specs.Prelude.{◌≡◌, ℕ, Bool, true, false, List, [], Option, Some, None, Result, Ok, Err, codes}
use Rattle.std.specs.Str.{bytes_eq}
use Rattle.clap.specs.Words.{App, Rule, Text, fault_of, first_of, found_of, matches_of, new_app, new_rule, rows_of}
use Rattle.clap.specs.Words.{with_rule}
use Rattle.clap.specs.Simple.{on_top}
use Rattle.clap.specs.declared.builder.action.ArgAction.TheVariants.{Set, SetTrue}
use Rattle.clap.specs.declared.parser.matches.ArgMatches.{ArgMatches}
use Rattle.tape_types.specs.Times.{time_text}
use Rattle.tape_types.specs.declared.moments.Moment.{Moment}
use Rattle.tape_edge.specs.Clocks.{IsSince1970}
use Rattle.commands.specs.declared.command_line.forms.WordsErr.{WordsErr}
use Rattle.commands.specs.declared.command_line.forms.WordsErr.TheVariants as errors

-- an option with one value
abbrev pub option : Text → Rule
option name = record (new_rule name) { long = Some name; action = Some Set }

-- an option without a value
abbrev pub flag : Text → Rule
flag name = record (new_rule name) { long = Some name; action = Some SetTrue }

-- a word that has to stand
abbrev pub positional : Text → Rule
positional name = record (new_rule name) { required = true; action = Some Set }

-- a command that takes no word and no option: its first word is no name, and there is no flag for help
abbrev pub bare : Text → App
bare name = on_top (λ s. record s { no_binary_name = true; disable_help_flag = true }) (new_app name)

-- it takes the option `--all` too
abbrev pub with_all : App → App
with_all app = with_rule app (flag (codes "all"))

-- it takes the option `--at` too
abbrev pub with_moment : App → App
with_moment app = with_rule app (option (codes "at"))

-- the words are such as the command takes
abbrev pub Takes : App → List Text → Type 0
Takes app words = fault_of app words ≡ []

-- the value of an argument, where the words have it
abbrev pub value_of : App → Text → List Text → Option Text
value_of app name words = first_of name (matches_of app words)

-- whether the words have an option without a value, by the text that stands for it
abbrev pub is_given : Option Text → Bool
is_given None = false
is_given (Some text) = bytes_eq text (codes "true")

-- the moment of a time text of the years 1970 to 9999, or none where there is no text
abbrev pub IsMomentGiven : Option Text → Option Moment → Type 0
IsMomentGiven None None = Unit {0}
IsMomentGiven (Some text) (Some at) = (text ≡ time_text at) × IsSince1970 at
IsMomentGiven text at = ⊥

-- what a simple command finds in words, or that it doesn't take them
abbrev pub IsFoundIn : App → List Text → Result ArgMatches WordsErr → Type 0
IsFoundIn app words (Ok found) = Takes app words × (rows_of (found_of found) ≡ matches_of app words)
IsFoundIn app words (Err errors.Form) = ¬ (Takes app words)
IsFoundIn app words (Err errors.NoMemory) = Unit {0}

-- the text tells this moment of the years 1970 to 9999, or none of these years
abbrev pub IsMomentOf : List ℕ → Option Moment → Type 0
IsMomentOf text None = (m : Moment) → text ≡ time_text m → IsSince1970 m → ⊥
IsMomentOf text (Some m) = (text ≡ time_text m) × IsSince1970 m

-- so much is told by a text that may be missing, or it is of no form
abbrev pub IsReadTo : {A : Type 0} → Option A → Result A WordsErr → Type 0
IsReadTo told (Ok value) = told ≡ Some value
IsReadTo told (Err errors.Form) = told ≡ None
IsReadTo told (Err errors.NoMemory) = Unit {0}

-- the same of a moment
abbrev pub IsMomentRead : Option Text → Result (Option Moment) WordsErr → Type 0
IsMomentRead text (Ok at) = IsMomentGiven text at
IsMomentRead text (Err errors.Form) = (at : Option Moment) → ¬ (IsMomentGiven text at)
IsMomentRead text (Err errors.NoMemory) = Unit {0}
