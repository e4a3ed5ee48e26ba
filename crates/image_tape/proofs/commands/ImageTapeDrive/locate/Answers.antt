use Rattle.image_tape.specs.Tape.{held_of}
use Rattle.image_tape.proofs.Heads.{within_told}
use Rattle.image_tape.proofs.commands.ImageTapeDrive.locate.Goals as goal

pub look-requires : goal.look-requires
look-requires g c = within_told (held_of g.B.ByteDisk c.args.self.now) c.args.place c.requires.within
