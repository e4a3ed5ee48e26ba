use Rattle.std.specs.Prelude.{[], ◌∷◌}
use Rattle.std.proofs.Common.{◌∙◌}
use Rattle.promises.specs.declared.serving_promise.marks.MarkKind.TheVariants.{Places as places, Hands as hands, Begins as begins, Rests as rests}
use Rattle.tape_desk.specs.Turns.{answered_at}
use Rattle.tape_desk.proofs.Making.{made_at_once, made_in_time, made_void, of_session, off_again}
use Rattle.tape_desk.proofs.calling.make.Goals as goal

pub returns-in-Ready : goal.returns-in-Ready
returns-in-Ready g c = made_at_once c.args.turns.now.who c.in-Ready.ensures.0 c.in-Ready.reply c.args.pass.now c.loop.pass c.submit.new.pass c.loop.invariant.2
    (of_session c.pass_gate.new.self.who c.args.turns.now.who (answered_at c.in-Ready.ensures.0 c.in-Ready.reply) c.loop.pass c.submit.new.pass (c.pass_gate.ensures.who ∙ c.loop.invariant.0) c.in-Ready.ensures.1)

pub returns-in-Wait : goal.returns-in-Wait
returns-in-Wait g c = made_in_time c.args.turns.now.who c.in-Wait.ticket c.await_reply.result c.args.pass.now c.loop.pass c.submit.new.pass c.await_reply.new.pass c.loop.invariant.2
    (of_session c.pass_gate.new.self.who c.args.turns.now.who (places c.in-Wait.ticket ∷ []) c.loop.pass c.submit.new.pass (c.pass_gate.ensures.who ∙ c.loop.invariant.0) c.in-Wait.ensures.1)
    (of_session c.pass_gate.new.self.who c.args.turns.now.who (hands c.in-Wait.ticket c.await_reply.result ∷ []) c.submit.new.pass c.await_reply.new.pass (c.pass_gate.ensures.who ∙ c.loop.invariant.0) c.await_reply.ensures)

pub returns-in-Some-await_room : goal.returns-in-Some-await_room
returns-in-Some-await_room g c = let goes = c.in-Some-await_room.ensures.goes in let reply = c.in-Some-await_room.reply in
    made_void c.args.turns.now.who goes.0 reply c.args.pass.now c.loop.pass c.submit.new.pass c.await_room.new.pass c.loop.invariant.2
    (of_session c.pass_gate.new.self.who c.args.turns.now.who (begins ∷ []) c.loop.pass c.submit.new.pass (c.pass_gate.ensures.who ∙ c.loop.invariant.0) c.in-Drain.ensures.1)
    (of_session c.pass_gate.new.self.who c.args.turns.now.who (answered_at goes.0 reply) c.submit.new.pass c.await_room.new.pass (c.pass_gate.ensures.who ∙ c.loop.invariant.0) goes.1)

pub loop-preserved : goal.loop-preserved
loop-preserved g c = (
  c.await_room.ensures.session.0 ∙ c.pass_gate.ensures.who ∙ c.loop.invariant.0,
  c.await_room.ensures.session.1 ∙ c.pass_gate.ensures.nth ∙ c.loop.invariant.1,
  off_again c.args.turns.now.who c.args.pass.now c.loop.pass c.submit.new.pass c.await_room.new.pass c.loop.invariant.2
      (of_session c.pass_gate.new.self.who c.args.turns.now.who (begins ∷ []) c.loop.pass c.submit.new.pass (c.pass_gate.ensures.who ∙ c.loop.invariant.0) c.in-Drain.ensures.1)
      (of_session c.pass_gate.new.self.who c.args.turns.now.who (rests ∷ []) c.submit.new.pass c.await_room.new.pass (c.pass_gate.ensures.who ∙ c.loop.invariant.0) c.in_default.ensures.goes.1),
)
