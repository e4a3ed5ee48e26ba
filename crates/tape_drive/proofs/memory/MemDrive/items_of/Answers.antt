use Rattle.std.proofs.Common.{sym, subst, List, arith}
use Rattle.std.specs.Prelude.{All}
use Rattle.tape_types.specs.declared.cartridges.Item.{Item}
use Rattle.tape_types.specs.Cartridges.{IsItem}
use Rattle.tape_drive.proofs.Sound.{sound_fits}
use Rattle.tape_drive.proofs.memory.MemDrive.items_of.Goals as goal

pub returns-in-Ip-clause-size : goal.returns-in-Ip-clause-size
returns-in-Ip-clause-size c = subst (λ (l : List Item). All IsItem l) (sym c.as_slice.ensures.value) (sound_fits _ _ _ _ c.self.invariant).ip.each

pub returns-in-Dp-clause-size : goal.returns-in-Dp-clause-size
returns-in-Dp-clause-size c = subst (λ (l : List Item). All IsItem l) (sym c.as_slice-in-Dp.ensures.value) (sound_fits _ _ _ _ c.self.invariant).dp.each

pub returns-in-Ip-clause-count : goal.returns-in-Ip-clause-count
returns-in-Ip-clause-count c =
    let fits = (sound_fits _ _ _ _ c.self.invariant).ip.count in
    let range = c.self.invariant.range.ip_most in
    rw c.as_slice.ensures.value (omega (arith, fits, range))

pub returns-in-Dp-clause-count : goal.returns-in-Dp-clause-count
returns-in-Dp-clause-count c =
    let fits = (sound_fits _ _ _ _ c.self.invariant).dp.count in
    let range = c.self.invariant.range.dp_most in
    rw c.as_slice-in-Dp.ensures.value (omega (arith, fits, range))
