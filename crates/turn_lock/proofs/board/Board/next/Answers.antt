use Rattle.std.proofs.Common.{arith}
use Rattle.turn_lock.proofs.TurnLemmas.{ends_keeps}
use Rattle.turn_lock.proofs.board.Board.next.Goals as goal

pub fetch_add-served-requires : goal.fetch_add-served-requires
fetch_add-served-requires g c = let k = c.args.self.now.table.shared.key in (
  c.requires.of,
  omega (arith, c.args.self.now.shape.0),
  rw c.args.self.now.shape.1 (ends_keeps g.T.Logged.history g.T.Logged.fixed g.T.Logged.names k.seats (g.T.Logged.fixed k.state.value) c.args.seat.now.id c.args.seat.now.me c.args.state.now.value c.requires.turn c.requires.seen c.requires.fixed),
)
