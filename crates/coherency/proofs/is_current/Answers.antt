use Rattle.coherency.proofs.NoteLemmas.{not_current}
use Rattle.coherency.proofs.is_current.Goals as goal

pub returns-in-None : goal.returns-in-None
returns-in-None c =
    ((λ yes. absurd (cc yes)), λ current. absurd (not_current c.args.note.now c.in-Kept.bytes c.args.vcr c.args.uuid c.in-Kept.is c.in-None.ensures.all current))
