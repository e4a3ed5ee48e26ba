use Rattle.std.proofs.Common.{ap, length, ◌∙◌}
use Rattle.session_script.specs.Grammar.{calls_of}
use Rattle.tape_desk.specs.Held.{HeldView}
use Rattle.tape_desk.proofs.shelf.Shelf.count.Goals as goal

pub returns : goal.returns
returns g c = c.count.ensures
    ∙ ap (λ (h : HeldView g.row.D.Denot g.row.K.Denot). length (calls_of h.volume.fixed.script c.args.who)) c.self.view_is
