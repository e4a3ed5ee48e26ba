use Rattle.std.proofs.Common.{arith, ◌++◌, [], ◌∷◌, Some, ap, ◌∙◌, refl}
use Rattle.turn_lock.proofs.SumLemmas.{numbers_length}
use Rattle.turn_lock.proofs.SeatStates.{first_calm}
use Rattle.turn_lock.proofs.EndLemmas.{opens}
use Rattle.turn_lock.proofs.board.Board.open.Goals as goal

pub new-requires : goal.new-requires
new-requires g c = let e = c.in_default.ensures.items ∙ ap (λ l. l ++ Some c.args.state ∷ []) c.new-slots.ensures.items in
    rw (c.of.ensures, e) (opens g.T.Logged.history g.T.Logged.fixed g.T.Logged.names c.args.seats (g.T.Logged.fixed c.args.state) c.placed-placed.result c.args.state (let h = c.ranges.seats.fits in omega (arith, h)) refl c.placed-placed.ensures)

pub returns-in-Ok-clause-calm : goal.returns-in-Ok-clause-calm
returns-in-Ok-clause-calm g c = first_calm _ _ _ _ _ c.in-Ok.ensures.ok.4 (omega (arith, numbers_length c.args.seats, c.requires.some_seat))
