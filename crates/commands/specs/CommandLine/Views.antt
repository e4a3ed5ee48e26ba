-- What the words of `view` ask for: a generation, and maybe the path of a file, or all of its tree.
use Rattle.std.specs.Prelude.{◌≡◌, ℕ, ◌^◌, Bool, true, List, Option, Some, None, Result, Ok, Err, codes}
use Rattle.std.specs.Prelude.{◌&&◌, nat_le, if◌then◌else◌, is_some, option_and_then, option_map}
use Rattle.clap.specs.Words.{App, Text, with_rule}
use Rattle.plain_tree.specs.Paths.{Path}
use Rattle.session_script.specs.Words.{number_of, path_of}
use Rattle.commands.specs.CommandLine.Options.{Takes, bare, is_given, option, positional, value_of, with_all}
use Rattle.commands.specs.declared.command_line.forms.WordsErr.{WordsErr}
use Rattle.commands.specs.declared.command_line.forms.WordsErr.TheVariants as errors
use Rattle.commands.specs.declared.command_line.views.ViewWords.{ViewWords}

-- `G`, `--read`, and `--all`
abbrev pub view_app : App
view_app =
    with_all (with_rule (with_rule (bare (codes "view")) (positional (codes "generation"))) (option (codes "read")))

-- a number of 1 to 2^62
abbrev pub generation_told : Option Text → Option ℕ
generation_told text =
    option_and_then (λ n. if nat_le 1 n && nat_le n (2 ^ 62) then Some n else None) (option_and_then number_of text)

-- the path that a text spells as a script's word does, or none where there is no text
abbrev pub path_told : Option Text → Option (Option Path)
path_told None = Some None
path_told (Some text) = option_map Some (path_of text)

-- the words behind `view` and its folder; of a file that is read nothing more is told
pub record IsViewForm (words : List Text) (asked : ViewWords) : Type 0 where
  pub takes : Takes view_app words
  pub generation : generation_told (value_of view_app (codes "generation") words) ≡ Some asked.generation
  pub path : path_told (value_of view_app (codes "read") words) ≡ Some asked.path
  pub all : is_given (value_of view_app (codes "all") words) ≡ asked.all
  pub apart : asked.all ≡ true → asked.path ≡ None

-- what is asked for, where not both a file and all of a tree are
abbrev pub asked_of : (generation : ℕ) → Option Path → (all : Bool) → Result ViewWords WordsErr
asked_of generation path all =
    if all && is_some path then Err errors.Form else Ok (record { generation = generation; path = path; all = all })

-- what they ask for is read, or they are of no form
abbrev pub IsViewRead : List Text → Result ViewWords WordsErr → Type 0
IsViewRead words (Ok asked) = IsViewForm words asked
IsViewRead words (Err errors.Form) = (asked : ViewWords) → ¬ (IsViewForm words asked)
IsViewRead words (Err errors.NoMemory) = Unit {0}
