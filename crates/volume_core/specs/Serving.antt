-- A volume that is served: what no call changes of it, which moment comes next, and what is kept over each call.
use Rattle.std.specs.Prelude.{ℕ, ◌≡◌, List, [], Option, Some, None, IfSome}
use Rattle.tape_types.specs.declared.cartridges.Cartridge.{Cartridge}
use Rattle.tape_types.specs.declared.moments.Moment.{Moment}
use Rattle.tape_drive.specs.declared.drive.Drive.{Ghosts}
use Rattle.session_script.specs.declared.scripts.ScriptLine.{ScriptLine}
use Rattle.cartridge_meaning.specs.declared.mounted.Mounted.{Mounted}
use Rattle.file_tree.specs.Tree.{FileTree, plain_of}
use Rattle.promises.specs.ServingPromise.Served.{Fixed}
use Rattle.volume_state.specs.CallLaws.StartLaws.{first_tape}
use Rattle.volume_state.specs.StateLaws.Parts.{Parts}
use Rattle.volume_state.specs.CallLaws.Running.{IsRunning}

-- the moment that a clock gives next: its one moment where it has one, and else what it tells next
abbrev pub next_moment : Option Moment → Option Moment → Option Moment
next_moment (Some one) next = Some one
next_moment None next = next

-- what no call changes: the tree is that of the index that was mounted, with the bytes of the cartridge that the drive
-- told at the start
abbrev pub fixed_of : {D : Type 0} → (D → Option Cartridge) → List ScriptLine → Mounted → D → FileTree
    → Option Moment → ℕ → Fixed D
fixed_of held script mounted first tree moment since = record {
  script = script;
  tree = plain_of (first_tape (held first)) tree;
  mounted = mounted;
  first = first;
  moment = moment;
  since = since;
}

-- The volume runs; its clock still gives its one moment, where it has one; and as long as nothing was placed the drive
-- is as it was at the start, and no op stands.
pub record IsServing {D : Type 0} (drive : Ghosts D) (fixed : Fixed D) (one next : Option Moment) (p : Parts D)
    : Type 0 where
  pub runs : IsRunning drive fixed (next_moment one next) p
  pub one_moment : IfSome fixed.moment (λ m. one ≡ Some m)
  pub untouched : p.listed.history ≡ [] → (p.drive ≡ fixed.first) × (p.stock.layout.ops ≡ [])
