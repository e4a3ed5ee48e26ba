-- What a run comes to, when it comes to that, and what is printed.
use Rattle.std.specs.Prelude.{◌≡◌, ◌≢◌, ◌⊎◌, ℕ, List, ◌++◌, length, Option, IfSome, codes, decimal, String}
use Rattle.std.specs.Global.{Global}
use Rattle.std.specs.Io.KnownBytes.{IsAtEnd, Appends}
use Rattle.tape_types.specs.Counts.{Rose, IsRise}
use Rattle.tape_edge.specs.Streams.{AppendsFront}
use Rattle.index_model.specs.declared.errors.IndexErr.{IndexErr}
use Rattle.index_model.specs.declared.errors.IndexErr.TheVariants as errors
use Rattle.index_model.specs.declared.indexes.Index.{Index}
use Rattle.index_model.specs.Canonical.{canonical}
use Rattle.index_model.specs.Grammar.{IndexText, Stops}
use Rattle.index_model.specs.Telling.{refusal_text}
use Rattle.index_model.specs.Values.{IndexValue, Tells}
use Rattle.index_tool.specs.Tool.{IsCommand, IsKnown}
use Rattle.index_tool.specs.declared.words.Command.{Command}
use Rattle.index_tool.specs.declared.words.Command.TheVariants as commands
use Rattle.index_tool.specs.declared.outcomes.Outcome.{Outcome}
use Rattle.index_tool.specs.declared.outcomes.Outcome.TheVariants as outcomes

abbrev pub status_of : Outcome → ℕ
status_of (outcomes.Sound generation nodes) = 0
status_of (outcomes.Written text) = 0
status_of outcomes.Words = 1
status_of (outcomes.Refused refusal) = 2
status_of (outcomes.Source counts) = 5
status_of outcomes.NoMemory = 7

abbrev pub ok_text : ℕ → ℕ → List ℕ
ok_text generation nodes = codes "ok " ++ (decimal generation ++ (codes " " ++ (decimal nodes ++ codes "\n")))

-- what is printed
abbrev pub text_of : Outcome → List ℕ
text_of (outcomes.Sound generation nodes) = ok_text generation nodes
text_of (outcomes.Written text) = text
text_of outcomes.Words = codes "words\n"
text_of (outcomes.Refused refusal) = refusal_text refusal ++ codes "\n"
text_of (outcomes.Source counts) =
    codes "source " ++ (decimal counts.before ++ (codes " " ++ (decimal counts.after ++ codes "\n")))
text_of outcomes.NoMemory = codes "memory\n"

-- the text is an index's of this generation with so many nodes
pub record IsSound (text : List ℕ) (generation nodes : ℕ) : Type 0 where
  pub index : Index
  pub is : IndexText text index
  pub generation_is : index.generation ≡ generation
  pub nodes_are : length index.nodes ≡ nodes

-- the text is an index's of which this is the one text
pub record IsWritten (text canon : List ℕ) : Type 0 where
  pub index : Index
  pub is : IndexText text index
  pub same : canon ≡ canonical is.value

-- the text stops, and not for want of memory
abbrev pub IsRefused : List ℕ → IndexErr → Type 0
IsRefused text refusal = Stops text refusal × (refusal ≢ errors.NoMemory)

-- When a command comes to this: `left` and `end` are what the source has left before and after, `before` and `now` its
-- counts of faults.
abbrev pub IsOutcomeOf : Command → (left end : Option (List ℕ)) → (before now : ℕ) → Outcome → Type 0
IsOutcomeOf command left end before now (outcomes.Sound generation nodes) =
    (command ≡ commands.Check) × IfSome left (λ text. IsSound text generation nodes) × IsAtEnd end
IsOutcomeOf command left end before now (outcomes.Written canon) =
    (command ≡ commands.Canon) × IfSome left (λ text. IsWritten text canon) × IsAtEnd end
IsOutcomeOf command left end before now outcomes.Words = ⊥
IsOutcomeOf command left end before now (outcomes.Refused refusal) =
    IfSome left (λ text. IsRefused text refusal) × IsAtEnd end
IsOutcomeOf command left end before now (outcomes.Source counts) = IsRise before now counts.before counts.after
IsOutcomeOf command left end before now outcomes.NoMemory = Unit {0}

-- the words are no command, and the source is as it was; or they are a command, and it is the outcome of that
abbrev pub IsCaused : List (String Global) → (left end : Option (List ℕ)) → (before now : ℕ) → Outcome → Type 0
IsCaused words left end before now outcome =
    ((outcome ≡ outcomes.Words) × ¬ (IsKnown words) × (end ≡ left) × (now ≡ before))
    ⊎ ((command : Command) × IsCommand words command × IsOutcomeOf command left end before now outcome)

-- What it comes to is told by its status and its text; or the sink's count rose, and a front of that text was written.
abbrev pub IsTold : Outcome → (old new : Option (List ℕ)) → (before now : ℕ) → ℕ → Type 0
IsTold outcome old new before now status =
    ((status ≡ status_of outcome) × Appends old new (text_of outcome))
    ⊎ ((status ≡ 6) × Rose before now × AppendsFront old new (text_of outcome))

-- ---- the same, as a run promises it: what was printed of the text that the source had left

-- the text is an index's, and its generation and the count of its nodes were printed
pub record IsChecked (text : List ℕ) (old new : Option (List ℕ)) : Type 0 where
  pub index : Index
  pub is : IndexText text index
  pub printed : Appends old new (ok_text index.generation (length index.nodes))

-- the text is an index's, and its one text was printed
pub record IsCanon (text : List ℕ) (old new : Option (List ℕ)) : Type 0 where
  pub index : Index
  pub is : IndexText text index
  pub printed : Appends old new (canonical is.value)

-- the text stops, and why was printed
pub record IsToldWhy (text : List ℕ) (old new : Option (List ℕ)) : Type 0 where
  pub refusal : IndexErr
  pub stops : IsRefused text refusal
  pub printed : Appends old new (refusal_text refusal ++ codes "\n")

-- ---- parts of a run

-- what a text comes to
abbrev pub IsJudged : Command → List ℕ → Outcome → Type 0
IsJudged command text (outcomes.Sound generation nodes) = (command ≡ commands.Check) × IsSound text generation nodes
IsJudged command text (outcomes.Written canon) = (command ≡ commands.Canon) × IsWritten text canon
IsJudged command text outcomes.Words = ⊥
IsJudged command text (outcomes.Refused refusal) = IsRefused text refusal
IsJudged command text (outcomes.Source counts) = ⊥
IsJudged command text outcomes.NoMemory = Unit {0}

-- what an index comes to that is written
abbrev pub IsWrittenOf : Index → Outcome → Type 0
IsWrittenOf index (outcomes.Written canon) = (v : IndexValue) → Tells index v → canon ≡ canonical v
IsWrittenOf index outcomes.NoMemory = Unit {0}
IsWrittenOf index _ = ⊥

-- what a command makes of an index
abbrev pub IsAnswer : Command → Index → Outcome → Type 0
IsAnswer command index (outcomes.Sound generation nodes) =
    (command ≡ commands.Check) × (index.generation ≡ generation) × (length index.nodes ≡ nodes)
IsAnswer command index (outcomes.Written canon) =
    (command ≡ commands.Canon) × IsWrittenOf index (outcomes.Written canon)
IsAnswer command index outcomes.NoMemory = Unit {0}
IsAnswer command index _ = ⊥

-- a refusal as it is, but want of memory
abbrev pub IsRefusal : IndexErr → Outcome → Type 0
IsRefusal refusal (outcomes.Refused told) = (told ≡ refusal) × (refusal ≢ errors.NoMemory)
IsRefusal refusal outcomes.NoMemory = refusal ≡ errors.NoMemory
IsRefusal refusal _ = ⊥

-- the text was written, and the status stays; or the sink failed
abbrev pub TellsText : List ℕ → ℕ → (old new : Option (List ℕ)) → (before now : ℕ) → ℕ → Type 0
TellsText text status old new before now result =
    ((result ≡ status) × Appends old new text) ⊎ ((result ≡ 6) × Rose before now × AppendsFront old new text)
