use Rattle.mount_recover.proofs.FlagLemmas.{no_note}
use Rattle.mount_recover.proofs.flags.tells.Goals as goal

pub returns-in-None : goal.returns-in-None
returns-in-None c = ((λ bad. absurd (cc bad)), λ t. absurd (no_note c.args.note.now _ c.args.vcr c.args.uuid c.args.last c.in-Kept-Some.is-0 c.in-None.ensures.all t))
