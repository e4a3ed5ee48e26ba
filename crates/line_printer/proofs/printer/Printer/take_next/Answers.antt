use Rattle.std.proofs.Common.{◌+◌, length, ap, ◌∙◌}
use Rattle.line_printer.proofs.Taken.{more_waits, moved_lengths}
use Rattle.line_printer.proofs.printer.Printer.take_next.Goals as goal

pub returns-clause-taken : goal.returns-clause-taken
returns-clause-taken g c =
    more_waits g.K.Sink c.self.inside.first.value c.self.inside.out c.self.inside.quiet c.self.inside.broken c.self.inside.lines
    c.self.inside.waiting c.take_in.new.self c.args.line.now c.take_in.new.line c.args.self.now c.self.view_is c.take_in.ensures.moved

pub returns-clause-all : goal.returns-clause-all
returns-clause-all g c =
    moved_lengths c.self.inside.waiting c.take_in.new.self c.args.line.now c.take_in.new.line c.take_in.ensures.moved
    ∙ ap (λ v. length v.waits + length c.args.line.now) c.self.view_is
