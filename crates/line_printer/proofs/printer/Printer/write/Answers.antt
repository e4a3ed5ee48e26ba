use Rattle.line_printer.proofs.Taken.{sent}
use Rattle.line_printer.proofs.printer.Printer.write.Goals as goal

pub returns-clause-text : goal.returns-clause-text
returns-clause-text g c = λ text taken.
    sent g.K.Sink c.self.inside.first.value c.self.inside.out c.write.new.self c.self.inside.quiet c.self.inside.broken c.is_err-self-inside.result c.self.inside.lines
    c.self.inside.waiting c.as_slice.result.now c.clear.new.self text c.write.result c.args.self.now
    c.self.view_is c.requires.aloud c.requires.whole c.as_slice.ensures c.clear.ensures c.write.ensures.ok c.write.ensures.err c.write.ensures.cause c.is_err-self-inside.ensures.value taken
