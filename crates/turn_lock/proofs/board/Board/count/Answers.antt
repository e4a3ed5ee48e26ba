use Rattle.std.proofs.Common.{arith}
use Rattle.turn_lock.proofs.TurnLemmas.{counts_keeps}
use Rattle.turn_lock.proofs.board.Board.count.Goals as goal

pub store-requires : goal.store-requires
store-requires g c = let k = c.args.self.now.table.shared.key in (
  c.requires.of,
  omega (arith, c.args.self.now.shape.0),
  rw c.args.self.now.shape.1 (counts_keeps g.T.Logged.history g.T.Logged.fixed g.T.Logged.names k.seats (g.T.Logged.fixed k.state.value) c.args.seat.now.id c.args.placed c.args.seat.now.me c.args.state.now.value c.requires.turn c.requires.placed c.requires.adds),
)
