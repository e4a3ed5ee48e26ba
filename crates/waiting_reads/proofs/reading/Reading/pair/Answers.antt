use Rattle.std.proofs.Common.{◌∙◌}
use Rattle.waiting_reads.proofs.ReadLemmas.{got}
use Rattle.waiting_reads.proofs.reading.Reading.pair.Goals as goal

pub returns-then-whole-clause-answered : goal.returns-then-whole-clause-answered
returns-then-whole-clause-answered c tape read has each =
    let i = c.self.inside in
    c.twice.ensures.first
    ∙ got i.ticket i.pieces i.bytes.items i.whole c.args.self c.self.view_is c.if-whole.true tape read has each
