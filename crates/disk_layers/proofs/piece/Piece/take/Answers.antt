use Rattle.std.proofs.Common.{◌-◌, drop, refl, rules}
use Rattle.disk_layers.proofs.Piecing.{taken}
use Rattle.disk_layers.proofs.piece.Piece.take.Goals as goal

pub returns-clause-value : goal.returns-clause-value
returns-clause-value c = λ file lies.
    taken _ c.args.self.now (c.args.at - c.self.inside.from) c.min-count.result c.args.at c.deref.result.now c.copy_from_slice.new.self
    (drop c.min-count.result c.args.buf.now) file c.self.view_is c.deref.ensures.value lies (search rules) refl (search rules) c.copy_from_slice.ensures.after
