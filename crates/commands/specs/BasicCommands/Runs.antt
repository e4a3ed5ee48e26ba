-- What contracts see of a run of the program, before and after.
use Rattle.std.specs.Prelude.{◌≡◌, ◌⊎◌, ℕ, List, [], ◌∷◌, Option, Ok, IfSome}
use Rattle.std.specs.Io.KnownBytes.{IsAtEnd}
use Rattle.tape_types.specs.declared.cartridges.Cartridge.{Cartridge}
use Rattle.tape_types.specs.declared.moments.Moment.{Moment}
use Rattle.session_script.specs.Grammar.{script_of}
use Rattle.session_script.specs.declared.logs.Log.{Log}
use Rattle.session_script.specs.declared.scripts.ScriptLine.{ScriptLine}
use Rattle.tape_drive.specs.declared.drive.Drive as drives
use Rattle.tape_edge.specs.declared.traits.Sink as sinks
use Rattle.tape_edge.specs.declared.traits.Source as sources

-- what a clock may give at each of its calls, counted from 0
abbrev pub Gives : Type 1
Gives = ℕ → Moment → Type 0

-- what the source had left and has left, where it tells that, and its counts of failed reads before and now
pub record Taken : Type 0 where
  pub left : Option (List ℕ)
  pub rest : Option (List ℕ)
  pub before : ℕ
  pub now : ℕ

abbrev pub taken : {S : Type 0} → sources.Ghosts S → (old new : S) → Taken
taken source old new = record {
  left = source.left old;
  rest = source.left new;
  before = source.faults old;
  now = source.faults new;
}

-- the source is as it was
pub record TakesNothing (source : Taken) : Type 0 where
  pub left : source.rest ≡ source.left
  pub faults : source.now ≡ source.before

-- the cartridge that the drive held, where it tells that, and its counts of failed commands before and now
pub record Looked : Type 0 where
  pub held : Option Cartridge
  pub before : ℕ
  pub now : ℕ

abbrev pub looked : {D : Type 0} → drives.Ghosts D → (old new : D) → Looked
looked drive old new = record { held = drive.held old; before = drive.faults old; now = drive.faults new }

-- what had been and has been written to the sink, where it tells that, and its counts of failed writes before and now
pub record Written : Type 0 where
  pub old : Option (List ℕ)
  pub new : Option (List ℕ)
  pub before : ℕ
  pub now : ℕ

abbrev pub written : {K : Type 0} → sinks.Ghosts K → (old new : K) → Written
written sink old new = record {
  old = sink.written old;
  new = sink.written new;
  before = sink.faults old;
  now = sink.faults new;
}

-- The log is that of such a run of the script that all the bytes spell that the source had left, and these were read to
-- their end.
pub record IsRunOf (is_run : List ScriptLine → Log → Type 0) (source : Taken) (log : Log) : Type 0 where
  pub script : List ScriptLine
  pub spelled : IfSome source.left (λ text. script_of text ≡ Ok script)
  pub whole : IsAtEnd source.rest
  pub run : is_run script log

-- all the bytes spell this script that the source had left, and these were read to their end
pub record IsScriptIn (source : Taken) (script : List ScriptLine) : Type 0 where
  pub spelled : IfSome source.left (λ text. script_of text ≡ Ok script)
  pub whole : IsAtEnd source.rest

-- a status is one of these
abbrev pub IsOneOf : ℕ → List ℕ → Type 0
IsOneOf status [] = ⊥
IsOneOf status (s ∷ more) = (status ≡ s) ⊎ IsOneOf status more
