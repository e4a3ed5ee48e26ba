use Rattle.std.specs.Prelude.{◌≡◌}
use Rattle.std.proofs.Common.{subst, sym}
use Rattle.promises.specs.ServingPromise.Marks.{phase, waits}
use Rattle.tape_desk.specs.Held.{HeldView}
use Rattle.tape_desk.specs.Turns.{kinds_of_turn}
use Rattle.tape_desk.proofs.Shelved.{added_in}
use Rattle.tape_desk.proofs.Taken.{adds_own, fixed_stays, has_gone_on, known_phase}
use Rattle.tape_desk.proofs.calling.turn.Goals as goal

pub turn-answer-requires : goal.turn-answer-requires
turn-answer-requires g c = subst (λ (h : HeldView g.row.D.Denot g.row.K.Denot). phase c.args.who h.volume.marks ≡ waits c.args.ticket) (sym c.deref_mut.ensures.value)
    (known_phase c.args.who c.args.pass.now c.requires.own c.enter-held.result.shelf.value c.enter-held.ensures.own (waits c.args.ticket) c.requires.waits)

pub leave-requires-clause-fixed : goal.leave-requires-clause-fixed
leave-requires-clause-fixed g c = fixed_stays c.args.who c.args.pass.now c.requires.own c.enter-held.result.shelf.value c.enter-held.ensures.own (kinds_of_turn c.args.ticket c.turn-answer.result)
    c.turn-answer.new.self
    (added_in c.args.who (λ here. kinds_of_turn c.args.ticket c.turn-answer.result) c.deref_mut.result.now c.enter-held.result.shelf.value c.turn-answer.new.self c.deref_mut.ensures.value
    c.turn-answer.ensures)
    c.enter-held.new.pass c.enter-held.ensures.pass c.enter-held.ensures.fixed

pub leave-requires-clause-adds : goal.leave-requires-clause-adds
leave-requires-clause-adds g c = adds_own c.args.who c.args.pass.now c.requires.own c.enter-held.result.shelf.value c.enter-held.ensures.own (kinds_of_turn c.args.ticket c.turn-answer.result)
    c.turn-answer.new.self
    (added_in c.args.who (λ here. kinds_of_turn c.args.ticket c.turn-answer.result) c.deref_mut.result.now c.enter-held.result.shelf.value c.turn-answer.new.self c.deref_mut.ensures.value
    c.turn-answer.ensures)
    c.enter-held.new.pass c.enter-held.ensures.pass

pub returns : goal.returns
returns g c = has_gone_on c.args.who c.args.pass.now c.requires.own c.enter-held.result.shelf.value c.enter-held.ensures.own (kinds_of_turn c.args.ticket c.turn-answer.result)
    c.turn-answer.new.self
    (added_in c.args.who (λ here. kinds_of_turn c.args.ticket c.turn-answer.result) c.deref_mut.result.now c.enter-held.result.shelf.value c.turn-answer.new.self c.deref_mut.ensures.value
    c.turn-answer.ensures)
    c.enter-held.new.pass c.enter-held.ensures.pass c.leave.new.pass c.enter-held.ensures.sees c.leave.ensures.pass
