use Rattle.std.proofs.Common.{◌∙◌}
use Rattle.image_format.proofs.ReadLemmas.{both_sought, first_faulty}
use Rattle.image_format.proofs.room.Room.walk_both.Goals as goal

pub returns-in-Ok-clause-told : goal.returns-in-Ok-clause-told
returns-in-Ok-clause-told g c = λ d held.
    both_sought c.args.value.now d (Unit {0}) (Unit {0}) c.walk-in-Ok.result c.in-Ok.field-0 c.walk.new.self c.walk-in-Ok.new.self
    (c.in-Ok.ensures.told d held) c.walk-in-Ok.ensures.other (c.walk-in-Ok.ensures.told d (c.walk.ensures.looks.held ∙ held))

pub returns-in-Err-clause-told : goal.returns-in-Err-clause-told
returns-in-Err-clause-told g c = λ d held.
    first_faulty c.args.value.now d (Unit {0}) (Unit {0}) c.in-Err.why c.walk.new.self.ip c.walk.new.self (c.in-Err.ensures.told d held)
