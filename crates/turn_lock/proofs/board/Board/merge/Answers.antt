use Rattle.std.proofs.Common.{arith}
use Rattle.turn_lock.proofs.SeatLemmas.{merges_keeps}
use Rattle.turn_lock.proofs.HistoryLemmas.{sees_own}
use Rattle.turn_lock.proofs.board.Board.merge.Goals as goal

pub load-requires : goal.load-requires
load-requires g c = let k = c.args.self.now.table.shared.key in (
  c.requires.of,
  omega (arith, c.args.self.now.shape.0),
  rw c.args.self.now.shape.1 (merges_keeps g.T.Logged.history g.T.Logged.fixed g.T.Logged.names k.seats (g.T.Logged.fixed k.state.value) c.args.seat.now.id c.args.seat.now.me c.requires.both),
)

pub returns-clause-own : goal.returns-clause-own
returns-clause-own g c = sees_own g.T.Logged.names c.args.seat.now.me.0.seats _ _ _ c.load.ensures.2.2

pub returns-clause-own_other : goal.returns-clause-own_other
returns-clause-own_other g c = sees_own g.T.Logged.names c.args.seat.now.me.0.seats _ _ _ c.load.ensures.2.3
