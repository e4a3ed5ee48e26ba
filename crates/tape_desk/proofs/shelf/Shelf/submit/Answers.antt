use Rattle.std.specs.Prelude.{length}
use Rattle.std.proofs.Common.{subst, sym}
use Rattle.promises.specs.OrderLaws.Kept.{seen}
use Rattle.promises.specs.ServingPromise.Submits.{CanSubmit}
use Rattle.tape_desk.specs.Held.{HeldView}
use Rattle.tape_desk.specs.Turns.{kinds_of_submit}
use Rattle.tape_desk.proofs.HereLemmas.{submit_here}
use Rattle.tape_desk.proofs.Shelved.{has_added, submit_keeps, submit_more, submit_taken}
use Rattle.tape_desk.proofs.shelf.Shelf.submit.Goals as goal

pub submit-answer-requires : goal.submit-answer-requires
submit-answer-requires g c =
    subst (λ (h : HeldView g.row.D.Denot g.row.K.Denot). CanSubmit h.volume c.args.who c.args.nth) (sym c.self.view_is) c.requires

pub print_ready-requires-clause-count : goal.print_ready-requires-clause-count
print_ready-requires-clause-count g c =
    let s = c.submit-answer in
    (submit_keeps g.D.Drive c.logs_go_on.ensures c.args.who c.self.inside.volume s.new.self c.self.invariant.0 s.ensures.served c.args.nth s.result
    (subst (λ (h : HeldView g.row.D.Denot g.row.K.Denot). CanSubmit h.volume c.args.who c.args.nth) (sym c.self.view_is) c.requires) s.ensures.submits).count

pub print_ready-requires-clause-taken : goal.print_ready-requires-clause-taken
print_ready-requires-clause-taken g c =
    let s = c.submit-answer in
    submit_taken g.K.Sink c.self.inside.printer c.self.inside.volume s.new.self c.self.invariant.0.count c.self.invariant.1.taken
    (seen g.D.Drive c.self.inside.volume.fixed.first) (seen g.D.Drive s.new.self.drive) c.args.who c.args.nth s.result s.ensures.submits

pub print_ready-requires-clause-here : goal.print_ready-requires-clause-here
print_ready-requires-clause-here g c = λ loud sound.
    let s = c.submit-answer in
    submit_here g.D.Drive g.K.Sink c.self.inside.printer c.self.inside.volume c.self.invariant.0 c.self.invariant.1 loud sound
    s.new.self.marks c.args.who (length c.self.inside.volume.history) s.result
    (submit_more c.self.inside.volume s.new.self c.args.who (seen g.D.Drive c.self.inside.volume.fixed.first) (seen g.D.Drive s.new.self.drive) c.args.nth s.result
    s.ensures.submits)

pub invariant_of-self : goal.invariant_of-self
invariant_of-self g c =
    let s = c.submit-answer in (
      submit_keeps g.D.Drive c.logs_go_on.ensures c.args.who c.self.inside.volume s.new.self c.self.invariant.0 s.ensures.served c.args.nth s.result
          (subst (λ (h : HeldView g.row.D.Denot g.row.K.Denot). CanSubmit h.volume c.args.who c.args.nth) (sym c.self.view_is) c.requires) s.ensures.submits,
      c.print_ready.ensures.printed,
    )

pub returns : goal.returns
returns g c =
    let s = c.submit-answer in
    has_added c.args.who (λ here. kinds_of_submit here s.result) (record { volume = c.self.inside.volume; printer = c.self.inside.printer })
    c.args.self.now (record { volume = s.new.self; printer = c.print_ready.new.printer }) c.self.view_is
    (submit_more c.self.inside.volume s.new.self c.args.who (seen g.D.Drive c.self.inside.volume.fixed.first) (seen g.D.Drive s.new.self.drive) c.args.nth s.result
    s.ensures.submits)
    s.ensures.submits.fixed c.print_ready.ensures.over
