use Rattle.std.proofs.Common.{◌∙◌, ap}
use Rattle.image_tape.specs.Tape.{View, with_moment}
use Rattle.image_tape.proofs.Moments.{remembers}
use Rattle.image_tape.proofs.tape.ImageTape.moment.Goals as goal

pub returns : goal.returns
returns g c = remembers g.B.ByteDisk _ _ c.and.result.items c.self.view_is c.self.invariant (c.and.ensures ∙ ap (λ (v : View g.row.B.Denot). with_moment v) c.self.view_is)
