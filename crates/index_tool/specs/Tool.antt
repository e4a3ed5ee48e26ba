-- The words of the command line.
use Rattle.std.specs.Prelude.{◌≡◌, ◌⊎◌, ℕ, List, [], ◌∷◌, map, Option, Some, None, String, string_bytes, codes}
use Rattle.std.specs.Global.{Global}
use Rattle.index_tool.specs.declared.words.Command.{Command}
use Rattle.index_tool.specs.declared.words.Command.TheVariants as commands

abbrev pub word_of : Command → List ℕ
word_of commands.Check = codes "check"
word_of commands.Canon = codes "canon"

-- the words are a command
abbrev pub IsCommand : List (String Global) → Command → Type 0
IsCommand words command = map string_bytes words ≡ word_of command ∷ []

-- the words are some command
abbrev pub IsKnown : List (String Global) → Type 0
IsKnown words = (command : Command) × IsCommand words command

-- the words are this command, or none
abbrev pub IsSpelledBy : List (String Global) → Option Command → Type 0
IsSpelledBy words None = ¬ (IsKnown words)
IsSpelledBy words (Some command) = IsCommand words command

-- a word is this command's, or no command's
abbrev pub IsCommandOf : List ℕ → Option Command → Type 0
IsCommandOf word None = (command : Command) → word ≡ word_of command → ⊥
IsCommandOf word (Some command) = word ≡ word_of command

-- a status is one of these
abbrev pub IsOneOf : ℕ → List ℕ → Type 0
IsOneOf status [] = ⊥
IsOneOf status (s ∷ more) = (status ≡ s) ⊎ IsOneOf status more
