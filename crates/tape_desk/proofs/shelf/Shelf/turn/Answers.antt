use Rattle.std.proofs.Common.{◌≡◌, subst, sym}
use Rattle.promises.specs.OrderLaws.Kept.{seen}
use Rattle.promises.specs.ServingPromise.Marks.{phase, waits}
use Rattle.tape_desk.specs.Held.{HeldView}
use Rattle.tape_desk.specs.Turns.{kinds_of_turn}
use Rattle.tape_desk.proofs.HereLemmas.{turn_here}
use Rattle.tape_desk.proofs.Shelved.{has_added, turn_keeps, turn_more, turn_taken}
use Rattle.tape_desk.proofs.shelf.Shelf.turn.Goals as goal

pub turn-answer-requires : goal.turn-answer-requires
turn-answer-requires g c = (
  c.args.who,
  subst (λ (h : HeldView g.row.D.Denot g.row.K.Denot). phase c.args.who h.volume.marks ≡ waits c.args.ticket) (sym c.self.view_is) c.requires,
)

pub print_ready-requires-clause-count : goal.print_ready-requires-clause-count
print_ready-requires-clause-count g c =
    let s = c.turn-answer in
    let waited : phase c.args.who c.self.inside.volume.marks ≡ waits c.args.ticket =
    subst (λ (h : HeldView g.row.D.Denot g.row.K.Denot). phase c.args.who h.volume.marks ≡ waits c.args.ticket) (sym c.self.view_is) c.requires in
    (turn_keeps g.D.Drive c.logs_go_on.ensures c.args.who c.self.inside.volume s.new.self c.self.invariant.0 s.ensures.served c.args.ticket s.result
    waited (s.ensures.turns c.args.who waited) s.ensures.moves).count

pub print_ready-requires-clause-taken : goal.print_ready-requires-clause-taken
print_ready-requires-clause-taken g c =
    let s = c.turn-answer in
    let waited : phase c.args.who c.self.inside.volume.marks ≡ waits c.args.ticket =
    subst (λ (h : HeldView g.row.D.Denot g.row.K.Denot). phase c.args.who h.volume.marks ≡ waits c.args.ticket) (sym c.self.view_is) c.requires in
    turn_taken g.K.Sink c.self.inside.printer c.self.inside.volume s.new.self c.self.invariant.0.count c.self.invariant.1.taken g.D.Drive.MOST
    (seen g.D.Drive c.self.inside.volume.drive) (seen g.D.Drive s.new.self.drive) c.args.who c.args.ticket s.result (s.ensures.turns c.args.who waited)

pub print_ready-requires-clause-here : goal.print_ready-requires-clause-here
print_ready-requires-clause-here g c = λ loud sound.
    let s = c.turn-answer in
    let waited : phase c.args.who c.self.inside.volume.marks ≡ waits c.args.ticket =
    subst (λ (h : HeldView g.row.D.Denot g.row.K.Denot). phase c.args.who h.volume.marks ≡ waits c.args.ticket) (sym c.self.view_is) c.requires in
    turn_here g.D.Drive g.K.Sink c.self.inside.printer c.self.inside.volume c.self.invariant.0 c.self.invariant.1 loud sound
    s.new.self.marks c.args.who c.args.ticket s.result
    (turn_more c.self.inside.volume s.new.self c.args.who g.D.Drive.MOST (seen g.D.Drive c.self.inside.volume.drive) (seen g.D.Drive s.new.self.drive) c.args.ticket s.result
    (s.ensures.turns c.args.who waited))

pub invariant_of-self : goal.invariant_of-self
invariant_of-self g c =
    let s = c.turn-answer in
    let waited : phase c.args.who c.self.inside.volume.marks ≡ waits c.args.ticket =
    subst (λ (h : HeldView g.row.D.Denot g.row.K.Denot). phase c.args.who h.volume.marks ≡ waits c.args.ticket) (sym c.self.view_is) c.requires in (
      turn_keeps g.D.Drive c.logs_go_on.ensures c.args.who c.self.inside.volume s.new.self c.self.invariant.0 s.ensures.served c.args.ticket s.result
          waited (s.ensures.turns c.args.who waited) s.ensures.moves,
      c.print_ready.ensures.printed,
    )

pub returns : goal.returns
returns g c =
    let s = c.turn-answer in
    let waited : phase c.args.who c.self.inside.volume.marks ≡ waits c.args.ticket =
    subst (λ (h : HeldView g.row.D.Denot g.row.K.Denot). phase c.args.who h.volume.marks ≡ waits c.args.ticket) (sym c.self.view_is) c.requires in
    let turned = s.ensures.turns c.args.who waited in
    has_added c.args.who (λ here. kinds_of_turn c.args.ticket s.result) (record { volume = c.self.inside.volume; printer = c.self.inside.printer })
    c.args.self.now (record { volume = s.new.self; printer = c.print_ready.new.printer }) c.self.view_is
    (turn_more c.self.inside.volume s.new.self c.args.who g.D.Drive.MOST (seen g.D.Drive c.self.inside.volume.drive) (seen g.D.Drive s.new.self.drive) c.args.ticket s.result turned)
    turned.fixed c.print_ready.ensures.over
