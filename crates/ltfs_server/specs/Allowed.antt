-- What the owner of a drive has to allow before a script is run on its cartridge.
use Rattle.std.specs.Prelude.{◌≡◌, ℕ, List, Option, Ok, IfSome}
use Rattle.tape_types.specs.declared.moments.Moment.{Moment}
use Rattle.session_script.specs.Grammar.{script_of}
use Rattle.session_script.specs.declared.scripts.ScriptLine.{ScriptLine}
use Rattle.tape_drive.specs.declared.drive.Drive.{Ghosts}
use Rattle.promises.specs.CrashLaws.May.{MayServe}

-- so much of the script that all the bytes spell that are left in a source; of any script, where the source tells none
abbrev pub MayServeLeft : {D : Type 0} → Ghosts D → Option (List ℕ) → Option Moment → D → Type 0
MayServeLeft drive left moment d = (script : List ScriptLine) → IfSome left (λ text. script_of text ≡ Ok script)
    → MayServe drive script moment d
