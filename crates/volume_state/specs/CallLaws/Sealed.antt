-- A volume that was mounted as sealed, as it runs.
use Rattle.std.specs.Prelude.{◌≡◌, true, [], Option, length, reverse}
use Rattle.tape_types.specs.declared.cartridges.Cartridge.{Cartridge}
use Rattle.tape_types.specs.declared.cartridges.Limits.{Limits}
use Rattle.tape_types.specs.declared.moments.Moment.{Moment}
use Rattle.tape_drive.specs.declared.drive.Drive.{Ghosts}
use Rattle.space_laws.specs.Mount.{was_sealed}
use Rattle.space_laws.specs.Space.{first_space}
use Rattle.promises.specs.ServingPromise.Mount.{facts_of}
use Rattle.promises.specs.ServingPromise.Served.{Fixed, View, tree_after}
use Rattle.promises.specs.CrashLaws.Safe.{given_by, space_now}
use Rattle.promises.specs.PromiseLaws.Kept.{CanRead}
use Rattle.volume_state.specs.StateLaws.Parts.{Parts, view_of}
use Rattle.volume_state.specs.ClosingLaws.Owned.{all_places}
use Rattle.volume_state.specs.CallLaws.Running.{IsRunning}

-- The space and the tree are those of the mount, no op stands, and the drive tells what it told at the start. A crash
-- leaves no more than then, and neither the history nor a close has an index of its own.
pub record IsAsMounted {D : Type 0} (drive : Ghosts D) (limits : Limits) (v : View D) : Type 0 where
  pub space : space_now limits v ≡ first_space (facts_of v.fixed.mounted)
  pub tree : tree_after v (length v.history) ≡ v.fixed.tree
  pub no_ops : v.ops ≡ []
  pub held : drive.held v.drive ≡ drive.held v.fixed.first
  pub leaves : (image : Cartridge) → drive.leaves v.drive image → drive.leaves v.fixed.first image
  pub none_own : reverse (all_places (given_by limits v) v.on v.history) ≡ []

-- so it is of each volume that was sealed where the drive told a cartridge that read as its tree
abbrev pub SealedVolumesStay : {D : Type 0} → Ghosts D → Type 0
SealedVolumesStay {D} drive = (fixed : Fixed D) (next : Option Moment) (p : Parts D) → IsRunning drive fixed next p
    → CanRead drive fixed → was_sealed fixed.mounted.index ≡ true
    → IsAsMounted drive (drive.limits fixed.first) (view_of fixed next p)
