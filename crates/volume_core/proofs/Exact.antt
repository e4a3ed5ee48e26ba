-- A tape on its way to what is planned, over the ops of a close.
use Rattle.std.proofs.Common.{◌≡◌, List, Some}
use Rattle.tape_types.specs.declared.cartridges.Cartridge.{Cartridge}
use Rattle.tape_types.specs.declared.cartridges.Part.TheVariants.{Ip, Dp}
use Rattle.tape_drive.specs.declared.drive.Drive.{Ghosts}
use Rattle.tape_layout.specs.declared.ops.Op.{Op}
use Rattle.volume_state.specs.PlanLaws.Planned.{IsOnWay, Items}
use Rattle.volume_state.proofs.PlanLaws.Ways.{ways_go_on}
use Rattle.volume_state.specs.ClosingLaws.Whole.{IsWhole}
use Rattle.volume_state.proofs.ClosingLaws.Wholes.{whole_done}
use Rattle.volume_core.specs.Commands as closing
use Rattle.volume_core.specs.Commands.{DoesOps}

-- The drive tells a cartridge on the way there, of which each partition ends where it is planned to once no op puts
-- anything on it.
pub record IsThere {D : Type 0} (drive : Ghosts D) (planned : Items) (ops : List Op) (d : D) (c : Cartridge)
    : Type 0 where
  pub told : drive.held d ≡ Some c
  pub way : IsOnWay planned ops c
  pub ip : IsWhole Ip planned ops c
  pub dp : IsWhole Dp planned ops c

module _ {D : Type 0} (drive : Ghosts D) (planned : Items) where
  -- ops that are done leave the tape on its way, and both partitions whole
  pub does_there : (ops left : List Op) (old new : D) → DoesOps drive ops old left new → (c : Cartridge)
      → IsThere drive planned ops old c → (d : Cartridge) × IsThere drive planned left new d
  does_there _ _ _ _ (closing.rest ops d) c is = (c, is)
  does_there _ _ _ _ (closing.one op later left end old mid new step well more) c is =
      let it = step.told c is.told in
      does_there later left mid new more it.0 (record {
        told = it.1;
        way = ways_go_on.done planned op later end c it.0 is.way it.2 well;
        ip = whole_done Ip planned op later end c it.0 is.way it.2 well is.ip;
        dp = whole_done Dp planned op later end c it.0 is.way it.2 well is.dp;
      })
