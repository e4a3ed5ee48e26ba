-- That the commands of a close may be made.
use Rattle.std.specs.Prelude.{◌≡◌, [], ◌∷◌, List, All, Some, IfSome}
use Rattle.coherency.specs.Notes.{HasValues}
use Rattle.coherency.specs.declared.Coherency.{Coherency}
use Rattle.tape_types.specs.declared.cartridges.Cartridge.{Cartridge}
use Rattle.tape_types.specs.declared.cartridges.Note.{Note}
use Rattle.tape_types.specs.declared.cartridges.Part.{Part}
use Rattle.session_script.specs.Grammar.{calls_of}
use Rattle.tape_drive.specs.Crashes.{LeavesAllowed, WithinNote}
use Rattle.tape_drive.specs.declared.drive.Drive.{Ghosts}
use Rattle.tape_layout.specs.declared.ops.Op.{Op}
use Rattle.cartridge_meaning.specs.Notes.{TellsOfLast}
use Rattle.head_core.specs.Steps.{MayDo}
use Rattle.promises.specs.ServingPromise.Served.{IsPlacedSoFar, View}
use Rattle.promises.specs.CrashLaws.May.{AllowsView}
use Rattle.promises.specs.CrashLaws.Safe.{Planned}
use Rattle.volume_state.specs.ClosingLaws.Closing.{IsAtRest, IsClosing}

-- the history is one of the script so far, and what that may leave is allowed
pub record IsAllowedView {D : Type 0} (drive : Ghosts D) (v : View D) : Type 0 where
  pub placed : IsPlacedSoFar (calls_of v.fixed.script) v.history
  pub moments : IfSome v.fixed.moment (λ m. All (λ p. p.at ≡ m) v.history)
  pub allows : AllowsView drive v

-- the first op that is left may be done; and where none is left and nothing is pending, a note may be written
pub record ClosesMay {D : Type 0} (drive : Ghosts D) : Type 0 where
  pub op : (planned : Planned) (v : View D) (o : Op) (later : List Op) (d : D) → IsAllowedView drive v
      → IsClosing drive v planned (o ∷ later) d → MayDo drive o d
  pub note : (planned : Planned) (v : View D) (part : Part) (note : Note) (values : Coherency) (d : D) (held : Cartridge)
      → IsAllowedView drive v → IsClosing drive v planned [] d → IsAtRest drive d → drive.held d ≡ Some held
      → HasValues note values → values.vcr ≡ held.vcr → TellsOfLast held planned.labels.ip part values
      → LeavesAllowed (WithinNote part note) (drive.leaves d) drive.allows
