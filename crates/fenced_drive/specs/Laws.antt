-- What the owner of a drive allows is what is promised of a run, and what he forbids.
use Rattle.std.specs.Prelude.{ℕ, ◌≡◌, ◌<◌, ◌-◌, ◌^◌, All, IfSome, List, length, take, Option}
use Rattle.tape_types.specs.declared.cartridges.Cartridge.{Cartridge}
use Rattle.tape_types.specs.declared.cartridges.Item.{Item}
use Rattle.tape_types.specs.declared.cartridges.Part.TheVariants.{Dp}
use Rattle.tape_types.specs.declared.moments.Moment.{Moment}
use Rattle.plain_tree.specs.History.{replay}
use Rattle.plain_tree.specs.Tree.{Tree}
use Rattle.plain_tree.specs.declared.calls.Placed.{Placed}
use Rattle.session_script.specs.Grammar.{calls_of}
use Rattle.session_script.specs.declared.scripts.ScriptLine.{ScriptLine}
use Rattle.tape_drive.specs.Crashes.{LeavesAllowed, WithinWrite}
use Rattle.cartridge_meaning.specs.Carried.{Carried}
use Rattle.promises.specs.ServingPromise.Crash.{IsSound, StandsWithin}
use Rattle.promises.specs.ServingPromise.Meanings.{cartridges}
use Rattle.promises.specs.ServingPromise.Served.{IsPlacedSoFar}
use Rattle.promises.specs.CrashLaws.May.{IsLeftBy}

-- Each image that is allowed is sound, and stands for the tree after some first placements of a history of the script.
abbrev pub AllowsThePromise : Type 0
AllowsThePromise = (script : List ScriptLine) (moment : Option Moment) (facts : Carried) (tree : Tree)
    (image : Cartridge) → IsLeftBy script moment facts tree image
    → IsSound cartridges image
    × ((history : List Placed) × IsPlacedSoFar (calls_of script) history
    × IfSome moment (λ m. All (λ p. p.at ≡ m) history)
    × StandsWithin cartridges facts (λ k. replay (calls_of script) tree (take k history)) 0 (length history) image)

-- Where a crash could leave anything at all, nothing may be written over the beginning of the data partition.
abbrev pub ForbidsErasing : (Cartridge → Type 0) → Type 0
ForbidsErasing leaves = (script : List ScriptLine) (moment : Option Moment) (facts : Carried) (tree : Tree)
    (held before : Cartridge) (x : Item) → held.vcr < 2 ^ 64 - 1 → leaves before
    → LeavesAllowed (WithinWrite Dp 0 x held) leaves (IsLeftBy script moment facts tree) → ⊥
