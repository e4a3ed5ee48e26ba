use Rattle.std.proofs.Common.{refl}
use Rattle.tape_types.specs.declared.cartridges.Item.TheVariants as item
use Rattle.image_tape.proofs.Ending.{wrote_there}
use Rattle.image_tape.proofs.Heads.{head_there}
use Rattle.image_tape.proofs.commands.ImageTapeDrive.write.Goals as goal

pub put_item-requires-clause-sound : goal.put_item-requires-clause-sound
put_item-requires-clause-sound g c = (item.Block c.args.bytes.now, (c.requires.some, c.requires.size), refl)

pub returns-clause-ran : goal.returns-clause-ran
returns-clause-ran g c =
    wrote_there g.B.ByteDisk (item.Block c.args.bytes.now) c.put_item.result _ _ c.put_item.new.self c.in-Some.at c.self.view_is c.in-Some.is
    (c.put_item.ensures.wrote (item.Block c.args.bytes.now) (c.requires.some, c.requires.size) refl)

pub put_item-requires-clause-within : goal.put_item-requires-clause-within
put_item-requires-clause-within g c = head_there g.B.ByteDisk _ c.args.self.now c.in-Some.at c.self.view_is c.self.invariant c.in-Some.is
