use Rattle.std.proofs.Common.{rules, ap}
use Rattle.waiting_reads.specs.Waiting.{Waiting}
use Rattle.waiting_reads.proofs.WaitLemmas.{taken_out}
use Rattle.waiting_reads.proofs.readings.Readings.take.Goals as goal

pub returns-clause-taken : goal.returns-clause-taken
returns-clause-taken c =
    let reads = c.self.inside.reads.items in
    taken_out c.args.ticket c.place_of-at.result reads c.args.self.now.reads c.remove.new.self.items c.remove.result
    (ap (λ (w : Waiting). w.reads) c.self.view_is) (search rules) (search rules) (search rules) c.remove.ensures.value
    c.remove.ensures.by_index.2
