use Rattle.std.proofs.Common.{length, take, drop, sym, ap, arith, length-append, length-take-le, take-append-drop}
use Rattle.line_printer.proofs.Taken.{more_waits}
use Rattle.line_printer.proofs.printer.Printer.put_next.Goals as goal

pub returns-clause-taken : goal.returns-clause-taken
returns-clause-taken g c =
    more_waits g.K.Sink c.self.inside.first.value c.self.inside.out c.self.inside.quiet c.self.inside.broken c.self.inside.lines
    c.self.inside.waiting c.put.new.self c.args.bytes.now (drop c.put.result c.args.bytes.now) c.args.self.now c.self.view_is (record {
      part = take c.put.result c.args.bytes.now;
      put = c.put.ensures.bytes;
      rest = sym (take-append-drop c.put.result c.args.bytes.now);
    })

pub returns-clause-all : goal.returns-clause-all
returns-clause-all g c =
    omega (
      arith,
      ap length c.put.ensures.bytes,
      length-append c.self.inside.waiting (take c.put.result c.args.bytes.now),
      length-take-le c.put.result c.args.bytes.now c.put.ensures.within,
      ap (λ v. length v.waits) c.self.view_is,
    )
