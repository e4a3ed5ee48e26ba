use Rattle.std.proofs.Common.{◌≡◌, sym, subst}
use Rattle.tape_types.specs.declared.cartridges.Cartridge.{Cartridge}
use Rattle.tape_drive.specs.Images.{crash_image}
use Rattle.tape_drive.specs.Record.{Leaves}
use Rattle.tape_drive.specs.Placed.{reads_as}
use Rattle.tape_drive.proofs.Exact.{same_cartridge, image_left}
use Rattle.tape_drive.proofs.memory.MemDrive.crash.Goals as goal

pub returns-clause-left : goal.returns-clause-left
returns-clause-left c =
    let v = c.args.self.now in
    let image : Cartridge = crash_image v.held v.acts c.args.ip c.args.dp in
    let given : Cartridge = reads_as c.in_ok-ip_items.ip_items c.in_ok-dp_items.dp_items c.vcr_held.result c.note_of.result c.note_of-2.result in
    let is : given ≡ image = same_cartridge given image c.in_ok-ip_items.ensures.image c.in_ok-dp_items.ensures.image c.vcr_held.ensures c.note_of.ensures c.note_of-2.ensures in
    subst (λ (d : Cartridge). Leaves v.held v.acts d) (sym is) (image_left v.held v.acts c.args.ip c.args.dp c.requires.ip c.requires.dp)
