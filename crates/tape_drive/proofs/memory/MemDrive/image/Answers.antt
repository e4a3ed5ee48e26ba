use Rattle.std.proofs.Common.{◌≡◌, List, sym, subst, rules}
use Rattle.tape_types.specs.declared.cartridges.Item.{Item}
use Rattle.tape_types.specs.Cartridges.{items_of, capacity, HoldsAtMost}
use Rattle.tape_drive.specs.Images.{image_of}
use Rattle.tape_drive.proofs.Sizes.{image_fits}
use Rattle.tape_drive.proofs.memory.MemDrive.image.Goals as goal

pub returns-clause-fits : goal.returns-clause-fits
returns-clause-fits c =
    let v = c.args.self.now in
    let t = c.args.cut.torn in
    let is : c.in_ok-image.image ≡ image_of c.args.part (items_of c.args.part v.held) v.acts c.args.cut.moment t = search rules in
    subst (λ (l : List Item). HoldsAtMost (capacity c.args.part v.limits) l) (sym is)
    (image_fits c.args.part v.limits v.commands v.held v.acts c.args.cut.moment t c.acts.ensures.sound c.requires)
