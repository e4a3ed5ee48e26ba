use Rattle.mount_recover.proofs.NoteLemmas.{no_values}
use Rattle.mount_recover.proofs.notes.values_of.Goals as goal

pub returns-in-None-clause-all : goal.returns-in-None-clause-all
returns-in-None-clause-all c = no_values c.args.note.now _ c.args.vcr c.args.uuid c.in-Kept.is c.in-None.ensures.all
