use Rattle.image_tape.proofs.Ending.{read_there}
use Rattle.image_tape.proofs.Heads.{head_there}
use Rattle.image_tape.proofs.commands.ImageTapeDrive.read.Goals as goal

pub returns-clause-ran : goal.returns-clause-ran
returns-clause-ran g c =
    read_there g.B.ByteDisk c.read_item.result c.read_item.new.buf.items _ _ c.read_item.new.self c.in-Some.at c.self.view_is c.in-Some.is c.read_item.ensures.ran

pub read_item-requires-clause-within : goal.read_item-requires-clause-within
read_item-requires-clause-within g c = head_there g.B.ByteDisk _ c.args.self.now c.in-Some.at c.self.view_is c.self.invariant c.in-Some.is
