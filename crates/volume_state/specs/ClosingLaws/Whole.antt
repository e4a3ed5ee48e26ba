-- That a partition ends where it is planned to.
use Rattle.std.specs.Prelude.{ℕ, ◌≡◌, ◌⊎◌, Bool, true, List, [], ◌∷◌, ◌++◌}
use Rattle.tape_types.specs.Cartridges.{items_of}
use Rattle.tape_types.specs.declared.cartridges.Cartridge.{Cartridge}
use Rattle.tape_types.specs.declared.cartridges.Note.{Note}
use Rattle.tape_types.specs.declared.cartridges.Part.{Part}
use Rattle.tape_types.specs.declared.cartridges.Part.TheVariants.{Ip, Dp}
use Rattle.tape_types.specs.declared.cartridges.Twin.{Twin}
use Rattle.tape_drive.specs.Commands.{IsNoted}
use Rattle.tape_layout.specs.declared.ops.Op.{Op}
use Rattle.cartridge_meaning.specs.Mounts.{Mounts}
use Rattle.cartridge_meaning.specs.declared.mounted.Mounted.{Mounted}
use Rattle.head_core.specs.Steps.{AfterOp}
use Rattle.head_core.specs.declared.work.StepDone.{StepDone}
use Rattle.head_core.specs.declared.work.StepDone.TheVariants as outcome
use Rattle.space_laws.specs.Space.{Rules, Space, index, ops_of}
use Rattle.promises.specs.CrashLaws.Changes.{IsWell}
use Rattle.promises.specs.CrashLaws.Safe.{items_by}
use Rattle.volume_state.specs.PlanLaws.Planned.{IsOnWay, Items, mounted_items, with_ops}
use Rattle.volume_state.specs.ClosingLaws.Laws.{close_ops}

-- where no op that stands puts anything on a partition, it ends where it is planned to
abbrev pub IsWhole : Part → Items → List Op → Cartridge → Type 0
IsWhole part planned ops held = items_by part ops ≡ [] → items_of part held ≡ planned part

-- A data partition that ended with the newest index is whole from the mount on. Each partition stays so as ops are
-- admitted, done and failed and notes are written, and an index makes its partition whole.
pub record WholesStay : Type 0 where
  pub begins : (c : Cartridge) (m : Mounted) → Mounts c m → m.dp_done ≡ true → IsWhole Dp (mounted_items c) [] c
  pub grows : (part : Part) (planned : Items) (ops asked : List Op) (held : Cartridge) → IsWhole part planned ops held
      → IsWhole part (with_ops asked planned) (ops ++ asked) held
  pub indexed : (planned : Items) (ops : List Op) (rules : Rules) (on : Bool) (space : Space) (text : List ℕ)
      (held : Cartridge) → IsWhole Dp planned (ops ++ ops_of rules on space (index text)) held
  pub closed : (planned : Items) (ops : List Op) (rules : Rules) (space : Space) (text : List ℕ) (held : Cartridge)
      → IsWhole Ip planned (ops ++ close_ops rules space text) held
  pub done : (part : Part) (planned : Items) (op : Op) (later : List Op) (end : StepDone) (old new : Cartridge)
      → IsOnWay planned (op ∷ later) old → AfterOp op end old new → IsWell end → IsWhole part planned (op ∷ later) old
      → IsWhole part planned later new
  pub failed : (part : Part) (planned : Items) (op : Op) (later : List Op) (counts : Twin) (old new : Cartridge)
      → AfterOp op (outcome.Failed counts) old new → IsWhole part planned (op ∷ later) old
      → IsWhole part planned (op ∷ later) new
  pub noted : (part on : Part) (note : Note) (planned : Items) (ops : List Op) (old new : Cartridge)
      → (new ≡ old) ⊎ IsNoted on note old new → IsWhole part planned ops old → IsWhole part planned ops new
