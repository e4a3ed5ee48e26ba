use Rattle.std.proofs.Common.{ap, ◌∙◌}
use Rattle.plain_tree.specs.declared.calls.Answer.TheVariants as answers
use Rattle.waiting_reads.proofs.ReadLemmas.{got}
use Rattle.waiting_reads.proofs.reading.Reading.answer.Goals as goal

pub returns-then-self-clause-answered : goal.returns-then-self-clause-answered
returns-then-self-clause-answered c tape read has each =
    let i = c.self.inside in
    ap answers.Got c.from_vec.ensures
    ∙ got i.ticket i.pieces i.bytes.items i.whole c.args.self c.self.view_is c.if-self.true tape read has each
