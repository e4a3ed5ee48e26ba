use Rattle.std.proofs.Common.{◌+◌, ◌++◌, ap, refl, subst, ◌∙◌, []}
use Rattle.session_script.specs.LogText.{line_text}
use Rattle.line_printer.specs.Printing.{HasTaken}
use Rattle.line_printer.proofs.Taken.{numbered, takes_all}
use Rattle.line_printer.proofs.printer.Printer.print.Goals as goal

pub returns-clause-text : goal.returns-clause-text
returns-clause-text g c = λ text taken.
    let line = line_text c.args.self.now.lines c.args.placed.now c.args.reply.now in
    numbered g.K.Sink c.self-2.inside.first.value c.self-2.inside.out c.self-2.inside.quiet c.self-2.inside.broken c.self-2.inside.lines (c.self-2.inside.lines + 1)
    c.self-2.inside.waiting (text ++ line) c.take_in.new.self c.self-2.view_is
    (subst (λ l. HasTaken g.K.Sink c.take_in.new.self (text ++ l)) (c.new-line.ensures ∙ ap (λ v. line_text v.lines c.args.placed.now c.args.reply.now) c.self.view_is)
    (takes_all g.K.Sink c.args.self.now c.take_in.new.self c.new-line.result [] refl c.take_in.ensures text taken))
