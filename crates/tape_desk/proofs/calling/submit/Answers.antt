use Rattle.std.specs.Prelude.{length}
use Rattle.std.proofs.Common.{subst, sym}
use Rattle.promises.specs.ServingPromise.Submits.{CanSubmit}
use Rattle.tape_desk.specs.Held.{HeldView}
use Rattle.tape_desk.specs.Turns.{kinds_of_submit}
use Rattle.tape_desk.proofs.Shelved.{added_in}
use Rattle.tape_desk.proofs.Taken.{adds_own, can_submit, fixed_stays, has_gone_on}
use Rattle.tape_desk.proofs.calling.submit.Goals as goal

pub submit-answer-requires : goal.submit-answer-requires
submit-answer-requires g c = subst (λ (h : HeldView g.row.D.Denot g.row.K.Denot). CanSubmit h.volume c.args.who c.args.nth) (sym c.deref_mut.ensures.value)
    (can_submit c.args.who c.args.pass.now c.requires.own c.enter-held.result.shelf.value c.enter-held.ensures.own c.args.nth c.requires.can c.enter-held.ensures.fixed)

pub leave-requires-clause-fixed : goal.leave-requires-clause-fixed
leave-requires-clause-fixed g c = fixed_stays c.args.who c.args.pass.now c.requires.own c.enter-held.result.shelf.value c.enter-held.ensures.own (kinds_of_submit (length c.enter-held.result.shelf.value.volume.history) c.submit-answer.result)
    c.submit-answer.new.self
    (added_in c.args.who (λ here. kinds_of_submit here c.submit-answer.result) c.deref_mut.result.now c.enter-held.result.shelf.value c.submit-answer.new.self c.deref_mut.ensures.value
    c.submit-answer.ensures)
    c.enter-held.new.pass c.enter-held.ensures.pass c.enter-held.ensures.fixed

pub leave-requires-clause-adds : goal.leave-requires-clause-adds
leave-requires-clause-adds g c = adds_own c.args.who c.args.pass.now c.requires.own c.enter-held.result.shelf.value c.enter-held.ensures.own (kinds_of_submit (length c.enter-held.result.shelf.value.volume.history) c.submit-answer.result)
    c.submit-answer.new.self
    (added_in c.args.who (λ here. kinds_of_submit here c.submit-answer.result) c.deref_mut.result.now c.enter-held.result.shelf.value c.submit-answer.new.self c.deref_mut.ensures.value
    c.submit-answer.ensures)
    c.enter-held.new.pass c.enter-held.ensures.pass

pub returns : goal.returns
returns g c = (
  length c.enter-held.result.shelf.value.volume.history,
  has_gone_on c.args.who c.args.pass.now c.requires.own c.enter-held.result.shelf.value c.enter-held.ensures.own (kinds_of_submit (length c.enter-held.result.shelf.value.volume.history) c.submit-answer.result)
      c.submit-answer.new.self
      (added_in c.args.who (λ here. kinds_of_submit here c.submit-answer.result) c.deref_mut.result.now c.enter-held.result.shelf.value c.submit-answer.new.self c.deref_mut.ensures.value
      c.submit-answer.ensures)
      c.enter-held.new.pass c.enter-held.ensures.pass c.leave.new.pass c.enter-held.ensures.sees c.leave.ensures.pass,
)
