-- What is held once the index of the data partition was admitted.
use Rattle.std.proofs.Common.{◌≡◌, ◌+◌, Bool, false, ◌++◌, Option, refl, ap}
use Rattle.tape_types.specs.declared.moments.Moment.{Moment}
use Rattle.tape_drive.specs.declared.drive.Drive.{Ghosts}
use Rattle.tape_layout.specs.Plans.{Plan}
use Rattle.space_laws.specs.Closing.{close_ask}
use Rattle.space_laws.specs.Space.{is_over}
use Rattle.space_laws.specs.Standing.{rules}
use Rattle.promises.specs.ServingPromise.Served.{Fixed}
use Rattle.held_volume.specs.Closed.{IsDpDone}
use Rattle.held_volume.specs.Stocks.{IsStock, Stocked}
use Rattle.volume_state.specs.PlanLaws.Planned.{Items, tape_on}
use Rattle.volume_state.specs.StateLaws.Parts.{Parts}
use Rattle.volume_core.specs.Finish.{AdmitsOnDp, AdmitsOnIp, IsAdmittedOnIp}
use Rattle.volume_core.specs.Promised.{CanClose}
use Rattle.volume_core.proofs.Admitted.{asked, g, held, on, st, st1}

module _ {D : Type 0} (drive : Ghosts D) (fixed : Fixed D) (next : Option Moment) (at : Moment) (p : Parts D)
    (can : CanClose drive fixed next at p) (mid : Stocked) (admits : AdmitsOnDp at p.stock mid) where
  abbrev tape : Items
  tape = can.runs.planned

  done : IsDpDone (tape_on tape) (g drive fixed next at p) (on drive fixed next at p) (st drive fixed next at p) at
      p.stock mid
  done = admits (tape_on tape) (g drive fixed next at p) (on drive fixed next at p) (st drive fixed next at p)
      (held drive fixed next at p tape can.runs.tied)

  stock : IsStock (tape_on tape) (g drive fixed next at p) (on drive fixed next at p) (st1 drive fixed next at p) mid
  stock = done.stands (tape_on tape) (λ part pos byte t. refl)

  -- the index that was admitted on the data partition fits the space
  pub fits : is_over (rules (g drive fixed next at p)) (on drive fixed next at p) (st drive fixed next at p).space
      (close_ask (g drive fixed next at p) (st drive fixed next at p) at) ≡ false
  fits = done.fits

  -- the ops that stand then are those before and those of that index
  pub mid_ops : mid.layout.ops ≡ p.stock.layout.ops ++ asked drive fixed next at p
  mid_ops = done.ops

  -- the generation then is that of the space behind that index
  pub mid_generation : mid.frame.generation ≡ (st1 drive fixed next at p).space.newest
  mid_generation = ap (λ f. f.generation) stock.frame

  -- the last index of the data partition then is that of the space
  pub mid_last : mid.frame.last_dp ≡ (st1 drive fixed next at p).space.last_dp
  mid_last = ap (λ f. f.last_dp) stock.frame

  -- the label then is the one that was mounted
  pub mid_uuid : mid.frame.label.uuid ≡ fixed.mounted.label.uuid
  mid_uuid = ap (λ f. f.label.uuid) stock.frame

  -- the first block of the index partition's index stands then where the space says
  pub mid_end : mid.layout.ends.ip + 1 ≡ (st1 drive fixed next at p).space.ends.ip + 1
  mid_end = ap (λ (l : Plan). l.ends.ip + 1) stock.layout

  -- what is admitted on the index partition then is what the space admits
  pub admitted_ip : (last : Stocked) (due : Bool) → AdmitsOnIp at p.stock mid last due
      → IsAdmittedOnIp (g drive fixed next at p) (st1 drive fixed next at p) at mid last due
  admitted_ip last due ip = ip (tape_on tape) (g drive fixed next at p) (on drive fixed next at p)
      (st drive fixed next at p) (held drive fixed next at p tape can.runs.tied)
