use Rattle.std.proofs.Common.{arith}
use Rattle.turn_lock.proofs.SeatLemmas.{join_keeps}
use Rattle.turn_lock.proofs.board.Board.tie.Goals as goal

pub join_seat-requires : goal.join_seat-requires
join_seat-requires g c = let k = c.args.self.now.table.shared.key in let h = c.requires.calm in (
  c.requires.of.0,
  c.requires.of.1,
  h.1.no_slot,
  omega (arith, c.args.self.now.shape.0),
  join_keeps g.T.Logged.history g.T.Logged.fixed g.T.Logged.names k.seats (g.T.Logged.fixed k.state.value) c.args.seat.now.id c.args.other.id c.args.seat.now.me c.args.other.me h.0 h.1,
)
