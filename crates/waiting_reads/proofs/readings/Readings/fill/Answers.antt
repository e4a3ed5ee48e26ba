use Rattle.std.proofs.Common.{rules, ap}
use Rattle.waiting_reads.specs.Waiting.{Waiting}
use Rattle.waiting_reads.proofs.WaitLemmas.{filled_one}
use Rattle.waiting_reads.proofs.readings.Readings.fill.Goals as goal

pub returns-clause-filled : goal.returns-clause-filled
returns-clause-filled c =
    let reads = c.self.inside.reads.items in
    filled_one c.args.ticket c.place_of-at.result c.args.place c.args.block.now reads c.args.self.now.reads
    c.index_mut.result.now c.fill.new.self (ap (λ (w : Waiting). w.reads) c.self.view_is) (search rules) (search rules)
    (search rules) c.index_mut.ensures.value c.fill.ensures
