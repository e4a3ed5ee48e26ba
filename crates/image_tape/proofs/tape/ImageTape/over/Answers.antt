use Rattle.image_tape.proofs.Beginning.{kept_over}
use Rattle.image_tape.proofs.tape.ImageTape.over.Goals as goal

pub invariant_of-result : goal.invariant_of-result
invariant_of-result g c =
    kept_over g.B.ByteDisk c.args.slots c.args.room c.args.value c.requires.tellable c.known_values_are_left.ensures c.get-value.ensures.kept c.requires.steady c.requires.limits
    c.commands-opened.result c.new-past.result.items c.commands-opened.ensures c.new-past.ensures (λ image short left. g.met.B.ByteDisk.only_now c.args.slots.disk image short left)
