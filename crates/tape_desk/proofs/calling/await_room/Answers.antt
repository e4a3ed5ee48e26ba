use Rattle.std.specs.Prelude.{[], ◌∷◌}
use Rattle.std.proofs.Common.{◌∙◌}
use Rattle.session_script.specs.declared.logs.Reply.TheVariants as replies
use Rattle.promises.specs.declared.serving_promise.marks.MarkKind.TheVariants.{Rests as rests}
use Rattle.tape_desk.specs.Turns.{answered_at}
use Rattle.tape_desk.proofs.Making.{goes_then, of_session}
use Rattle.tape_desk.proofs.calling.await_room.Goals as goal

pub returns-in-Room-clause-goes : goal.returns-in-Room-clause-goes
returns-in-Room-clause-goes g c = (
  0,
  goes_then c.args.turns.now.who [] (rests ∷ []) c.args.pass.now c.loop.pass c.drain_turn.new.pass c.loop.invariant.2
      (of_session c.pass_gate.new.self.who c.args.turns.now.who (rests ∷ []) c.loop.pass c.drain_turn.new.pass (c.pass_gate.ensures.who ∙ c.loop.invariant.0) c.in-Room.ensures.1),
)

pub returns-in-Fault-clause-goes : goal.returns-in-Fault-clause-goes
returns-in-Fault-clause-goes g c = let here = c.in-Fault.ensures.0 in let reply = replies.Fault c.in-Fault.counts in (
  here,
  goes_then c.args.turns.now.who [] (answered_at here reply) c.args.pass.now c.loop.pass c.drain_turn.new.pass c.loop.invariant.2
      (of_session c.pass_gate.new.self.who c.args.turns.now.who (answered_at here reply) c.loop.pass c.drain_turn.new.pass (c.pass_gate.ensures.who ∙ c.loop.invariant.0) c.in-Fault.ensures.1),
)
