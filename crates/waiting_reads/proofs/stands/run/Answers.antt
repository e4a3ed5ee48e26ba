use Rattle.waiting_reads.proofs.StandLemmas.{run_behind}
use Rattle.waiting_reads.proofs.stands.run.Goals as goal

pub returns : goal.returns
returns c = run_behind c.args.pos c.args.stands.now c.before-2.result c.up_to.result c.before-2.ensures.parts c.up_to.ensures.parts
