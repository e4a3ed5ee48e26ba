use Rattle.std.proofs.Common.{drop, ◌∙◌, sym, subst, arith}
use Rattle.std.proofs.lemmas.List.{drop_all, take_rest}
use Rattle.line_printer.specs.Printing.{TakesFirst}
use Rattle.line_printer.proofs.Taken.{takes_all, takes_none, takes_on, takes_sent}
use Rattle.line_printer.proofs.printer.Printer.put.Goals as goal

pub loop-rest-init : goal.loop-rest-init
loop-rest-init g c = takes_none g.K.Sink c.args.self.now c.args.bytes.now

pub loop-rest-preserved : goal.loop-rest-preserved
loop-rest-preserved g c =
    let rest = c.loop-rest.rest.now in
    let count = c.put_next-count.result in
    subst (TakesFirst g.K.Sink c.args.self.now c.send.new.self c.args.bytes.now) (sym (take_rest rest count))
    (takes_sent g.K.Sink c.args.self.now c.put_next-count.new.self c.send.new.self c.args.bytes.now (drop count rest)
    (takes_on g.K.Sink c.args.self.now c.loop-rest.self c.put_next-count.new.self c.args.bytes.now rest (drop count rest) c.loop-rest.invariant c.put_next-count.ensures.taken)
    c.send.ensures.over c.send.ensures.lines c.send.ensures.text)

pub returns-then-count-rest-clause-over : goal.returns-then-count-rest-clause-over
returns-then-count-rest-clause-over g c = record {
  first = c.put_next-count.ensures.taken.over.first ∙ c.loop-rest.invariant.over.first;
  quiet = c.put_next-count.ensures.taken.over.quiet ∙ c.loop-rest.invariant.over.quiet;
}

pub returns-then-count-rest-clause-lines : goal.returns-then-count-rest-clause-lines
returns-then-count-rest-clause-lines g c = c.put_next-count.ensures.taken.lines ∙ c.loop-rest.invariant.lines

pub returns-then-count-rest-clause-text : goal.returns-then-count-rest-clause-text
returns-then-count-rest-clause-text g c =
    let rest = c.loop-rest.rest.now in
    let count = c.put_next-count.result in
    takes_all g.K.Sink c.args.self.now c.put_next-count.new.self c.args.bytes.now (drop count rest) (drop_all count rest (omega (arith, c.if-count-rest.true)))
    (takes_on g.K.Sink c.args.self.now c.loop-rest.self c.put_next-count.new.self c.args.bytes.now rest (drop count rest) c.loop-rest.invariant c.put_next-count.ensures.taken)
