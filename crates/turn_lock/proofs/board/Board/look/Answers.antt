use Rattle.std.proofs.Common.{arith}
use Rattle.turn_lock.proofs.TurnLemmas.{looks_keeps, looked}
use Rattle.turn_lock.proofs.board.Board.look.Goals as goal

pub load-requires : goal.load-requires
load-requires g c = let k = c.args.self.now.table.shared.key in (
  c.requires.of,
  omega (arith, c.args.self.now.shape.0),
  rw c.args.self.now.shape.1 (looks_keeps g.T.Logged.history g.T.Logged.fixed g.T.Logged.names k.seats (g.T.Logged.fixed k.state.value) c.args.seat.now.id c.args.ticket c.args.seat.now.me c.requires.waits),
)

pub returns-clause-turn : goal.returns-clause-turn
returns-clause-turn g c = looked g.T.Logged.history g.T.Logged.fixed g.T.Logged.names c.args.ticket c.load.result c.args.seat.now.me c.load.new.seat.me c.requires.waits c.load.ensures.2
