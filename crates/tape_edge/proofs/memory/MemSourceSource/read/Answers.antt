use Rattle.std.proofs.Common.{◌≡◌, drop, sym, ap, ◌∙◌}
use Rattle.tape_edge.specs.Devices.{SourceView}
use Rattle.tape_edge.proofs.Known.{read_part}
use Rattle.tape_edge.proofs.memory.MemSourceSource.read.Goals as goal

pub returns-clause-bytes : goal.returns-clause-bytes
returns-clause-bytes c =
    let left : c.args.self.now.left ≡ drop c.self.inside.at c.self.inside.bytes = sym (ap (λ (v : SourceView). v.left) c.self.view_is) in
    let part = read_part c.self.inside.bytes c.as_slice-2.result.now c.args.buf.now c.copy_from_slice.new.self c.self.inside.at c.min-count.result c.as_slice-2.ensures c.min-count.ensures c.copy_from_slice.ensures.after in
    (left ∙ part.0, part.1)
