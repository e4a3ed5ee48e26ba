use Rattle.std.specs.Prelude.{length}
use Rattle.std.proofs.Common.{◌≡◌, subst, sym}
use Rattle.promises.specs.OrderLaws.Kept.{seen}
use Rattle.promises.specs.ServingPromise.Marks.{draining, phase}
use Rattle.tape_desk.specs.Held.{HeldView}
use Rattle.tape_desk.specs.Turns.{kinds_of_drain}
use Rattle.tape_desk.proofs.HereLemmas.{drain_here}
use Rattle.tape_desk.proofs.Shelved.{drain_keeps, drain_more, drain_taken, has_added}
use Rattle.tape_desk.proofs.shelf.Shelf.drain_turn.Goals as goal

pub drain_turn-answer-requires : goal.drain_turn-answer-requires
drain_turn-answer-requires g c = subst (λ (h : HeldView g.row.D.Denot g.row.K.Denot). phase c.args.who h.volume.marks ≡ draining) (sym c.self.view_is) c.requires

pub print_ready-requires-clause-count : goal.print_ready-requires-clause-count
print_ready-requires-clause-count g c =
    let s = c.drain_turn-answer in
    (drain_keeps g.D.Drive c.logs_go_on.ensures c.args.who c.self.inside.volume s.new.self c.self.invariant.0 s.ensures.served s.result
    (subst (λ (h : HeldView g.row.D.Denot g.row.K.Denot). phase c.args.who h.volume.marks ≡ draining) (sym c.self.view_is) c.requires) s.ensures.drains s.ensures.moves).count

pub print_ready-requires-clause-taken : goal.print_ready-requires-clause-taken
print_ready-requires-clause-taken g c =
    let s = c.drain_turn-answer in
    drain_taken g.K.Sink c.self.inside.printer c.self.inside.volume s.new.self c.self.invariant.0.count c.self.invariant.1.taken g.D.Drive.MOST
    (seen g.D.Drive c.self.inside.volume.drive) (seen g.D.Drive s.new.self.drive) c.args.who s.result s.ensures.drains

pub print_ready-requires-clause-here : goal.print_ready-requires-clause-here
print_ready-requires-clause-here g c = λ loud sound.
    let s = c.drain_turn-answer in
    drain_here g.D.Drive g.K.Sink c.self.inside.printer c.self.inside.volume c.self.invariant.0 c.self.invariant.1 loud sound
    s.new.self.marks c.args.who (length c.self.inside.volume.history) s.result
    (drain_more c.self.inside.volume s.new.self c.args.who g.D.Drive.MOST (seen g.D.Drive c.self.inside.volume.drive) (seen g.D.Drive s.new.self.drive) s.result s.ensures.drains)

pub invariant_of-self : goal.invariant_of-self
invariant_of-self g c =
    let s = c.drain_turn-answer in (
      drain_keeps g.D.Drive c.logs_go_on.ensures c.args.who c.self.inside.volume s.new.self c.self.invariant.0 s.ensures.served s.result
          (subst (λ (h : HeldView g.row.D.Denot g.row.K.Denot). phase c.args.who h.volume.marks ≡ draining) (sym c.self.view_is) c.requires) s.ensures.drains s.ensures.moves,
      c.print_ready.ensures.printed,
    )

pub returns : goal.returns
returns g c =
    let s = c.drain_turn-answer in
    has_added c.args.who (λ here. kinds_of_drain here s.result) (record { volume = c.self.inside.volume; printer = c.self.inside.printer })
    c.args.self.now (record { volume = s.new.self; printer = c.print_ready.new.printer }) c.self.view_is
    (drain_more c.self.inside.volume s.new.self c.args.who g.D.Drive.MOST (seen g.D.Drive c.self.inside.volume.drive) (seen g.D.Drive s.new.self.drive) s.result s.ensures.drains)
    s.ensures.drains.fixed c.print_ready.ensures.over
