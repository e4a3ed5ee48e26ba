-- What the owner of a drive allows of a run, and that a volume may do its first op.
use Rattle.std.specs.Prelude.{ℕ, ◌≡◌, ◌⊎◌, ◌≤◌, List, ◌∷◌, All, IfSome, length, take, Option, Some}
use Rattle.tape_types.specs.declared.cartridges.Cartridge.{Cartridge}
use Rattle.tape_types.specs.declared.moments.Moment.{Moment}
use Rattle.plain_tree.specs.History.{replay}
use Rattle.plain_tree.specs.Tree.{Tree}
use Rattle.plain_tree.specs.declared.calls.Placed.{Placed}
use Rattle.session_script.specs.Grammar.{calls_of}
use Rattle.session_script.specs.declared.scripts.ScriptLine.{ScriptLine}
use Rattle.tape_drive.specs.Crashes.{AllowsAll}
use Rattle.tape_drive.specs.declared.drive.Drive.{Ghosts}
use Rattle.tape_layout.specs.declared.ops.Op.{Op}
use Rattle.cartridge_meaning.specs.Carried.{Carried, carried}
use Rattle.cartridge_meaning.specs.Meaning.{Reads, Stands}
use Rattle.cartridge_meaning.specs.declared.mounted.Mounted.{Mounted}
use Rattle.head_core.specs.Steps.{MayDo}
use Rattle.space_laws.specs.Space.{Space}
use Rattle.promises.specs.ServingPromise.Crash.{IsSound}
use Rattle.promises.specs.ServingPromise.Meanings.{cartridges}
use Rattle.promises.specs.ServingPromise.Served.{CanTell, Fixed, IsPlacedSoFar, View}
use Rattle.promises.specs.CrashLaws.Laws.{CanServe}
use Rattle.promises.specs.CrashLaws.Safe.{IsSafe, Planned, seen_by}

-- An image that a crash may leave of a run: it is sound, and stands for the tree after the first placements of some
-- history of the script, with the one moment of the run, where it has one.
pub record IsLeftBy (script : List ScriptLine) (moment : Option Moment) (facts : Carried) (tree : Tree)
    (image : Cartridge) : Type 0 where
  pub history : List Placed
  pub placed : IsPlacedSoFar (calls_of script) history
  pub moments : IfSome moment (λ m. All (λ p. p.at ≡ m) history)
  pub count : ℕ
  pub within : count ≤ length history
  pub generation : ℕ
  pub stands : Stands image facts (replay (calls_of script) tree (take count history)) generation
  pub sound : IsSound cartridges image

-- each such image is allowed
abbrev pub AllowsServed : (Cartridge → Type 0) → List ScriptLine → Option Moment → Carried → Tree → Type 0
AllowsServed allows script moment facts tree = (image : Cartridge) → IsLeftBy script moment facts tree image
    → allows image

-- so it is of a view
abbrev pub AllowsView : {D : Type 0} → Ghosts D → View D → Type 0
AllowsView drive v = AllowsServed drive.allows v.fixed.script v.fixed.moment (carried v.fixed.mounted.index) v.fixed.tree

-- a volume that is safe, and whose drive's owner allows what its script may leave, may do its first op
abbrev pub StepsMay : {D : Type 0} → Ghosts D → Type 0
StepsMay {D} drive = (p : Planned) (s : Space) (v : View D) (op : Op) (later : List Op) → IsSafe drive p s v
    → v.ops ≡ op ∷ later → IsPlacedSoFar (calls_of v.fixed.script) v.history
    → IfSome v.fixed.moment (λ m. All (λ p. p.at ≡ m) v.history) → AllowsView drive v → MayDo drive op v.drive

-- What is allowed of a volume that is served, where its drive tells: everything; or its cartridge stood for the tree and
-- was sound, and all is allowed that its script may leave.
abbrev pub IsAllowed : {D : Type 0} → Ghosts D → Fixed D → Type 0
IsAllowed drive fixed = (c : Cartridge) → drive.held fixed.first ≡ Some c → AllowsAll drive.allows
    ⊎ (CanServe drive fixed
    × AllowsServed drive.allows fixed.script fixed.moment (carried fixed.mounted.index) fixed.tree)

-- the same of a drive that was mounted, by any tree as which its cartridge reads
abbrev pub MayStart : {D : Type 0} → Ghosts D → Mounted → D → List ScriptLine → Option Moment → ℕ → Type 0
MayStart {D} drive mounted first script moment since = (tree : Tree)
    → IfSome (drive.held first) (λ c. Reads c (carried mounted.index) tree mounted.newest)
    → IsAllowed drive
    (record { script = script; tree = tree; mounted = mounted; first = first; moment = moment; since = since })

-- and of one that is to be mounted
abbrev pub MayServe : {D : Type 0} → Ghosts D → List ScriptLine → Option Moment → D → Type 0
MayServe drive script moment d = (c : Cartridge) → drive.held d ≡ Some c → AllowsAll drive.allows
    ⊎ ((facts : Carried) × (tree : Tree) × (generation : ℕ)
    × CanTell (λ c. Stands c facts tree generation × IsSound cartridges c) (drive.commands d) (seen_by drive d)
    × AllowsServed drive.allows script moment facts tree)
