use Rattle.std.specs.Slots.{slots_items}
use Rattle.turn_lock.proofs.EndLemmas.{closed, closed_state}
use Rattle.turn_lock.proofs.board.Board.end.Goals as goal

pub full-requires : goal.full-requires
full-requires g c = let k = c.args.self.table.shared.key in let s = c.args.seat in
    let r = closed g.T.Logged.history g.T.Logged.fixed g.T.Logged.names k.seats (g.T.Logged.fixed k.state.value) s.id s.me (slots_items c.close_with-closed.result.words) (slots_items c.close_with-closed.result.slots) c.take-slot.result c.requires.calm c.requires.all c.close_with-closed.ensures.values.2 c.take-slot.ensures.value in (r.0, r.1)

pub returns-clause-history : goal.returns-clause-history
returns-clause-history g c = let k = c.args.self.table.shared.key in let s = c.args.seat in
    (closed_state g.T.Logged.history g.T.Logged.fixed g.T.Logged.names k.seats (g.T.Logged.fixed k.state.value) s.id s.me (slots_items c.close_with-closed.result.words) (slots_items c.close_with-closed.result.slots) c.take-slot.result c.full.result c.requires.calm c.requires.all c.close_with-closed.ensures.values.2 c.take-slot.ensures.value c.full.ensures).1

pub returns-clause-fixed : goal.returns-clause-fixed
returns-clause-fixed g c = let k = c.args.self.table.shared.key in let s = c.args.seat in
    (closed_state g.T.Logged.history g.T.Logged.fixed g.T.Logged.names k.seats (g.T.Logged.fixed k.state.value) s.id s.me (slots_items c.close_with-closed.result.words) (slots_items c.close_with-closed.result.slots) c.take-slot.result c.full.result c.requires.calm c.requires.all c.close_with-closed.ensures.values.2 c.take-slot.ensures.value c.full.ensures).0
