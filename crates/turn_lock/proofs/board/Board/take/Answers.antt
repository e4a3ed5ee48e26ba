use Rattle.std.proofs.Common.{◌∷◌, Some, sym, ap, ◌∙◌}
use Rattle.atomic_table.specs.Table.{rest}
use Rattle.turn_lock.proofs.board.Board.take.Goals as goal

pub exchange-requires : goal.exchange-requires
exchange-requires g c = let e = c.requires.slot.1 in (c.requires.of, (Some c.requires.slot.0, e ∙ sym (ap (λ l. (0, Some c.requires.slot.0) ∷ rest l) e)))
