use Rattle.std.specs.Prelude.{[], ◌∷◌}
use Rattle.std.proofs.Common.{◌∙◌}
use Rattle.promises.specs.declared.serving_promise.marks.MarkKind.TheVariants.{Hands as hands}
use Rattle.tape_desk.proofs.Making.{goes_then, of_session}
use Rattle.tape_desk.proofs.calling.await_reply.Goals as goal

pub returns-in-Ready : goal.returns-in-Ready
returns-in-Ready g c = goes_then c.args.turns.now.who [] (hands c.args.ticket c.in-Ready.reply ∷ []) c.args.pass.now c.loop.pass c.turn.new.pass c.loop.invariant.2
    (of_session c.pass_gate.new.self.who c.args.turns.now.who (hands c.args.ticket c.in-Ready.reply ∷ []) c.loop.pass c.turn.new.pass (c.pass_gate.ensures.who ∙ c.loop.invariant.0) c.in-Ready.ensures)
