use Rattle.std.proofs.Common.{arith, ap, ◌∙◌, ◌++◌, ◌∷◌, [], sym}
use Rattle.turn_lock.proofs.SeatLemmas.{split_keeps}
use Rattle.turn_lock.proofs.SeatStates.{cut_last}
use Rattle.turn_lock.proofs.board.Board.cut.Goals as goal

pub split_seat-requires : goal.split_seat-requires
split_seat-requires g c = let k = c.args.self.now.table.shared.key in (
  c.requires.of,
  omega (arith, c.args.self.now.shape.0),
  split_keeps g.T.Logged.history g.T.Logged.fixed g.T.Logged.names k.seats (g.T.Logged.fixed k.state.value) c.args.seat.now.id c.args.seat.now.me c.requires.calm,
)

pub returns-clause-numbers : goal.returns-clause-numbers
returns-clause-numbers g c = let e = c.split_seat.ensures in let l = cut_last c.args.seat.now.me.0.numbers c.requires.two in (
  l.0,
  l.1 ∙ ap (λ z. z.0.numbers ++ l.0 ∷ []) (sym e.2),
  ap (λ z. z.0.numbers) e.4 ∙ l.2,
)
